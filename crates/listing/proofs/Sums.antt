-- What an offset and open that add up are made of (`Sum`): DATA records that carry open, and the bytes of other records. Assumes nothing.
use Prim.Native.Nat.{ℕ, ◌+◌, ◌-◌, ◌*◌, ◌≤◌, ◌<◌}
use mathlib.Core.Path.{◌≡◌, sym, ap, ap₂, ◌∙◌}
use mathlib.Core.Bool.{Bool, true, ◌&&◌, ◌||◌}
use native.Mathlib.Omega.{arith}
use native.Mathlib.Decide.{dec_le, ℕ_discrete}
use lib.Dec.{eqb, leb}
use borrow.Author.Tests.{le-leb, lt-leb, leb-true, eq-eqb, ne_eqb}
use Rattle.wire.proofs.Rows.{picked, and_left, and_right}
use Rattle.listing.specs.Reach.{data_needed, data_bytes, spare, others, adds_up, refused_bytes}

-- ---- other records
pub data Rest (room rest : ℕ) : Type 0 where
  nothing : rest ≡ 0 → Rest room rest
  plain : rest ≡ 44 → Rest room rest
  attach : rest ≡ 76 → Rest room rest
  many : 88 ≤ rest → Rest room rest
  value : 48 ≤ rest → rest ≤ 48 + room → Rest room rest

module _ (room rest : ℕ) where
  abbrev from_88 : Bool
  from_88 = leb 88 rest || (leb 48 rest && leb rest (48 + room))

  others_0 : rest ≡ 0 → true ≡ others room rest
  unfolding others
  others_0 e = sym (ap (λ (t : Bool). t || (eqb rest 44 || (eqb rest 76 || from_88))) (eq-eqb rest 0 e))

  module _ (a : rest ≡ 0 → ⊥) where
    others_44 : rest ≡ 44 → true ≡ others room rest
    unfolding others
    others_44 e = sym (λ j. ne_eqb rest 0 a j || (eq-eqb rest 44 e j || (eqb rest 76 || from_88)))

    module _ (b : rest ≡ 44 → ⊥) where
      others_76 : rest ≡ 76 → true ≡ others room rest
      unfolding others
      others_76 e = sym (λ j. ne_eqb rest 0 a j || (ne_eqb rest 44 b j || (eq-eqb rest 76 e j || from_88)))

      module _ (c : rest ≡ 76 → ⊥) where
        others_88 : 88 ≤ rest → true ≡ others room rest
        unfolding others
        others_88 l = sym (λ j. ne_eqb rest 0 a j || (ne_eqb rest 44 b j || (ne_eqb rest 76 c j || (le-leb 88 rest l j || (leb 48 rest && leb rest (48 + room))))))

        module _ (d : rest < 88) where
          below : others room rest ≡ leb 48 rest && leb rest (48 + room)
          unfolding others
          below = λ j. ne_eqb rest 0 a j || (ne_eqb rest 44 b j || (ne_eqb rest 76 c j || (lt-leb 88 rest d j || (leb 48 rest && leb rest (48 + room)))))

  pub rest_of : others room rest ≡ true → Rest room rest
  rest_of e = go (ℕ_discrete rest 0) (ℕ_discrete rest 44) (ℕ_discrete rest 76) (dec_le 88 rest)
    where
      go : Dec (rest ≡ 0) → Dec (rest ≡ 44) → Dec (rest ≡ 76) → Dec (88 ≤ rest) → Rest room rest
      go (yes a) b c d = nothing a
      go (no a) (yes b) c d = plain b
      go (no a) (no b) (yes c) d = attach c
      go (no a) (no b) (no c) (yes d) = many d
      go (no a) (no b) (no c) (no d) =
          let q : leb 48 rest && leb rest (48 + room) ≡ true = sym (below a b c (omega arith)) ∙ e in
          value (leb-true 48 rest (and_left (leb 48 rest) (leb rest (48 + room)) q)) (leb-true rest (48 + room) (and_right (leb 48 rest) (leb rest (48 + room)) q))

  pub rest_is : Rest room rest → others room rest ≡ true
  rest_is r = go (ℕ_discrete rest 0) (ℕ_discrete rest 44) (ℕ_discrete rest 76) (dec_le 88 rest) r
    where
      go : Dec (rest ≡ 0) → Dec (rest ≡ 44) → Dec (rest ≡ 76) → Dec (88 ≤ rest) → Rest room rest → others room rest ≡ true
      go (yes a) b c d r = sym (others_0 a)
      go (no a) (yes b) c d r = sym (others_44 a b)
      go (no a) (no b) (yes c) d r = sym (others_76 a b c)
      go (no a) (no b) (no c) (yes d) r = sym (others_88 a b c d)
      go (no a) (no b) (no c) (no d) (nothing e) = absurd (a e)
      go (no a) (no b) (no c) (no d) (plain e) = absurd (b e)
      go (no a) (no b) (no c) (no d) (attach e) = absurd (c e)
      go (no a) (no b) (no c) (no d) (many e) = absurd (d e)
      go (no a) (no b) (no c) (no d) (value l m) =
          below a b c (omega arith) ∙ (λ j. le-leb 48 rest l j && le-leb rest (48 + room) m j)

-- ---- sums
-- `count` DATA records with room for `room` bytes more, and `rest` bytes of other records
pub record Sum (offset o : ℕ) : Type 0 where
  pub count : ℕ
  pub room : ℕ
  pub rest : ℕ
  pub bytes : offset ≡ o + 44 * count + rest
  pub carried : o + room ≡ 65536 * count
  pub fewest : room < 65536
  pub others : Rest room rest

module _ (offset o : ℕ) where
  pub adds_low : adds_up offset o ≡ true → data_bytes o ≤ offset
  unfolding adds_up
  adds_low e = leb-true (data_bytes o) offset (and_left (leb (data_bytes o) offset) (others (spare o) (offset - data_bytes o)) e)

  pub sum_of : adds_up offset o ≡ true → Sum offset o
  unfolding adds_up
  sum_of e =
      let l : data_bytes o ≤ offset = adds_low e in
      record {
        count = data_needed o;
        room = spare o;
        rest = offset - data_bytes o;
        bytes = omega arith;
        carried = omega arith;
        fewest = omega arith;
        others = rest_of (spare o) (offset - data_bytes o) (and_right (leb (data_bytes o) offset) (others (spare o) (offset - data_bytes o)) e);
      }

  pub sum_is : Sum offset o → adds_up offset o ≡ true
  unfolding adds_up
  sum_is s =
      let b = s.bytes in
      let c = s.carried in
      let f = s.fewest in
      let n : data_needed o ≡ s.count = omega arith in
      let l : data_bytes o ≤ offset = omega arith in
      let r : s.rest ≡ offset - data_bytes o = omega arith in
      let q : s.room ≡ spare o = omega arith in
      (λ j. le-leb (data_bytes o) offset l j && (ap₂ others (sym q) (sym r) ∙ rest_is s.room s.rest s.others) j)

-- ---- `refused_bytes`
module _ (n : ℕ) where
  pub refused_0 : n ≡ 0 → 0 ≡ refused_bytes n
  unfolding refused_bytes
  refused_0 e = simp (eq-eqb n 0 e)

  pub refused_header_lem : n ≤ 6 → refused_bytes n ≤ 44
  unfolding refused_bytes
  refused_header_lem l =
      picked (λ (k : ℕ). k ≤ 44) (eqb n 0) (λ _. omega arith) (λ _. simp (le-leb n 6 l) (omega arith))

  pub refused_all : refused_bytes n ≤ 48
  unfolding refused_bytes
  refused_all = picked (λ (k : ℕ). k ≤ 48) (eqb n 0) (λ _. omega arith) (λ _. picked (λ (k : ℕ). k ≤ 48) (leb n 6) (λ _. omega arith) (λ _. omega arith))
