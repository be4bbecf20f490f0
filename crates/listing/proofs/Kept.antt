-- A whole record of a length that its type has leaves an offset and open that add up (`keeps`): what they are made of (`Sum`) goes on by
-- the record's bytes, and by what its type does to open. Assumes nothing.
use Prim.Native.Nat.{ℕ, ◌+◌, ◌-◌, ◌≤◌, ◌<◌}
use mathlib.Core.Path.{◌≡◌, refl, subst}
use mathlib.Core.Bool.{Bool, true, ◌||◌}
use mathlib.Core.List.{List}
use native.Mathlib.Omega.{arith}
use native.Mathlib.Decide.{dec_le, dec_lt}
use lib.Dec.{eqb, leb}
use borrow.Author.Tests.{leb-true, eqb-true, eqb-false}
use Rattle.wire.proofs.Rows.{picked, and_right}
use Rattle.outer.specs.Outer.{value_of}
use Rattle.record.specs.Types.{length_ok}
use Rattle.listing.specs.Reach.{data_needed, data_bytes, spare, adds_up}
use Rattle.listing.proofs.Sums.{Rest, nothing, plain, attach, many, value, Sum, sum_of, sum_is}
use Rattle.listing.specs.Listing.{open_after}

-- ---- a record more
module _ {offset o : ℕ} (s : Sum offset o) where
  -- no byte, or 44 and more
  start : Dec (44 ≤ offset) → (offset < 44 → offset ≡ 0)
  start (yes l) h = absurd (omega arith)
  start (no l) h = go s.others
    where
      go : Rest s.room s.rest → offset ≡ 0
      go (nothing e) = omega (arith, s.bytes, s.carried)
      go (plain e) = absurd (omega (arith, s.bytes))
      go (attach e) = absurd (omega (arith, s.bytes))
      go (many e) = absurd (omega (arith, s.bytes))
      go (value e f) = absurd (omega (arith, s.bytes))

  -- a record that leaves open as it was
  more : (size : ℕ) → Rest 0 (44 + size) → Sum (offset + (44 + size)) o
  more size r =
      let b = s.bytes in
      record { count = s.count; room = s.room; rest = s.rest + (44 + size); bytes = omega arith; carried = s.carried; fewest = s.fewest; others = go s.others r }
    where
      go : Rest s.room s.rest → Rest 0 (44 + size) → Rest s.room (s.rest + (44 + size))
      go (nothing e) (nothing f) = nothing (omega arith)
      go (nothing e) (plain f) = plain (omega arith)
      go (nothing e) (attach f) = attach (omega arith)
      go (nothing e) (many f) = many (omega arith)
      go (nothing e) (value f g) = value (omega arith) (omega arith)
      go (plain e) r = many (omega arith)
      go (attach e) r = many (omega arith)
      go (many e) r = many (omega arith)
      go (value e f) r = many (omega arith)

  -- a record after which open is 0
  clears : (size : ℕ) → Rest 0 (44 + size) → Sum (offset + (44 + size)) 0
  clears size r = record { count = 0; room = 0; rest = offset + (44 + size); bytes = omega arith; carried = refl; fewest = omega arith; others = go (dec_le 44 offset) r }
    where
      go : Dec (44 ≤ offset) → Rest 0 (44 + size) → Rest 0 (offset + (44 + size))
      go (yes l) r = many (omega arith)
      go (no l) r = let z : offset ≡ 0 = start (no l) (omega arith) in subst (Rest 0) (omega arith) r

  -- a DATA
  carries : (size : ℕ) → size ≤ 65536 → Sum (offset + (44 + size)) (o + size)
  carries size l = go (dec_le size s.room)
    where
      on : Rest s.room s.rest → Rest (s.room - size) (s.rest + 44)
      on (nothing e) = plain (omega arith)
      on (plain e) = many (omega arith)
      on (attach e) = many (omega arith)
      on (many e) = many (omega arith)
      on (value e f) = many (omega arith)

      wider : (n : ℕ) → s.room ≤ n → Rest s.room s.rest → Rest n s.rest
      wider n m (nothing e) = nothing e
      wider n m (plain e) = plain e
      wider n m (attach e) = attach e
      wider n m (many e) = many e
      wider n m (value e f) = value e (omega arith)

      go : Dec (size ≤ s.room) → Sum (offset + (44 + size)) (o + size)
      go (yes m) =
          let b = s.bytes in
          let c = s.carried in
          let f = s.fewest in
          record { count = s.count; room = s.room - size; rest = s.rest + 44; bytes = omega arith; carried = omega arith; fewest = omega arith; others = on s.others }
      go (no m) =
          let b = s.bytes in
          let c = s.carried in
          let f = s.fewest in
          record {
            count = s.count + 1;
            room = s.room + 65536 - size;
            rest = s.rest;
            bytes = omega arith;
            carried = omega arith;
            fewest = omega arith;
            others = wider (s.room + 65536 - size) (omega arith) s.others;
          }

  -- a CREDIT
  credits : (v : ℕ) → Sum (offset + 48) (o - v)
  credits v = go (dec_le o v) (dec_lt (v + s.room) 65536)
    where
      on : Rest s.room s.rest → Rest (s.room + v) (s.rest + 48 + v)
      on (nothing e) = value (omega arith) (omega arith)
      on (plain e) = many (omega arith)
      on (attach e) = many (omega arith)
      on (many e) = many (omega arith)
      on (value e f) = many (omega arith)

      go : Dec (o ≤ v) → Dec (v + s.room < 65536) → Sum (offset + 48) (o - v)
      go (yes l) d = subst (Sum (offset + 48)) (omega arith) (clears 4 (value (omega arith) (omega arith)))
      go (no l) (yes m) =
          let b = s.bytes in
          let c = s.carried in
          record { count = s.count; room = s.room + v; rest = s.rest + 48 + v; bytes = omega arith; carried = omega arith; fewest = omega arith; others = on s.others }
      go (no l) (no m) =
          let b = s.bytes in
          let c = s.carried in
          let p : ℕ = o - v in
          let q : p + v ≡ o = omega arith in
          let n : data_needed p < s.count = omega arith in
          record {
            count = data_needed p;
            room = spare p;
            rest = offset + 48 - data_bytes p;
            bytes = omega arith;
            carried = omega arith;
            fewest = omega arith;
            others = many (omega arith);
          }

-- the payload lengths of the types
size_reset : (n : ℕ) → length_ok 3 n ≡ true → n ≡ 0
unfolding length_ok
size_reset n e = eqb-true n 0 e

size_data : (n : ℕ) → length_ok 5 n ≡ true → n ≤ 65536
unfolding length_ok
size_data n e = leb-true n 65536 (and_right (leb 1 n) (leb n 65536) e)

size_credit : (n : ℕ) → length_ok 9 n ≡ true → n ≡ 4
unfolding length_ok
size_credit n e = eqb-true n 4 e

size_other : (t n : ℕ) → (t ≡ 5 → ⊥) → length_ok t n ≡ true → Rest 0 (44 + n)
unfolding length_ok
size_other t n d =
    picked (λ (x : Bool). x ≡ true → Rest 0 (44 + n)) (eqb t 2)
    (λ _ e. let z : n ≡ 32 = eqb-true n 32 e in attach (omega arith))
    (λ _. picked (λ (x : Bool). x ≡ true → Rest 0 (44 + n)) (eqb t 5)
    (λ q e. absurd (d (eqb-true t 5 q)))
    (λ _. picked (λ (x : Bool). x ≡ true → Rest 0 (44 + n)) (eqb t 4 || (eqb t 8 || eqb t 9))
    (λ _ e. let z : n ≡ 4 = eqb-true n 4 e in value (omega arith) (omega arith))
    (λ _ e. let z : n ≡ 0 = eqb-true n 0 e in plain (omega arith))))

module _ (offset o t n : ℕ) (y : List ℕ) (l : length_ok t n ≡ true) (s : Sum offset o) where
  sum_after : Sum (offset + (44 + n)) (open_after o t n y)
  unfolding open_after
  sum_after =
      picked (Sum (offset + (44 + n))) (eqb t 3)
      (λ q. let z : n ≡ 0 = size_reset n (subst (λ (k : ℕ). length_ok k n ≡ true) (eqb-true t 3 q) l) in clears s n (plain (omega arith)))
      (λ _. picked (Sum (offset + (44 + n))) (eqb t 5)
      (λ q. carries s n (size_data n (subst (λ (k : ℕ). length_ok k n ≡ true) (eqb-true t 5 q) l)))
      (λ d. picked (Sum (offset + (44 + n))) (eqb t 9)
      (λ q. let z : n ≡ 4 = size_credit n (subst (λ (k : ℕ). length_ok k n ≡ true) (eqb-true t 9 q) l) in
      subst (λ (k : ℕ). Sum k (o - value_of y)) (omega arith) (credits s (value_of y)))
      (λ _. more s n (size_other t n (eqb-false t 5 d) l))))

-- what adds up still does after a record
pub keeps : (offset o t n : ℕ) (y : List ℕ) → length_ok t n ≡ true → adds_up offset o ≡ true → adds_up (offset + (44 + n)) (open_after o t n y) ≡ true
keeps offset o t n y l e = sum_is (offset + (44 + n)) (open_after o t n y) (sum_after offset o t n y l (sum_of offset o e))
