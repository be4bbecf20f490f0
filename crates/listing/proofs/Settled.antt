-- What a listing keeps of its parser. Cutting a parser down to that (`settled`) takes off no byte that is held and no number, and a push
-- from a parser that is cut down leaves one that `settled` cuts down. Assumes nothing.
use Prim.Native.Nat.{ℕ, zero, suc, ◌+◌, ◌-◌, ◌≤◌, min}
use mathlib.Core.Path.{◌≡◌, refl, sym, ap, subst, ◌∙◌}
use mathlib.Core.Bool.{Bool, true, ◌&&◌}
use mathlib.Core.List.{List, [], ◌∷◌, ◌++◌, append_assoc}
use native.Mathlib.Omega.{arith}
use native.Mathlib.Decide.{dec_le}
use lib.ListN.{length, take, drop, length-append, length-take, length-drop, drop_of_length-le}
use lib.Seq.{take_all, drop_at, drop-drop}
use lib.Dec.{eqb, ltb, lit≤}
use Rattle.std.specs.Prelude.{Option}
use Rattle.std.specs.List.{list_all}
use borrow.Author.Tests.{ltb-false, ne_eqb, eqb-true, eqb-false}
use Rattle.wire.specs.Bytes.{overlay}
use Rattle.wire.specs.Refusals.{pick, refusal, refused, first, passes}
use Rattle.wire.specs.Header.{type_of, length_of}
use Rattle.wire.specs.declared.errors.RecordError.{RecordError}
use Rattle.wire.proofs.Rows.{picked, and_right}
use Rattle.record.specs.Record.{all_zero, header_checks, payload_checks}
use Rattle.parser.specs.Push.{latched, latch, counts_ok, error_ok, sound_parser, Push, waiting, finish, body_taken, push_body, head_taken, head_with, push_head, push_rows, push, buffered_of}
use Rattle.parser.specs.declared.RecordParser.{RecordParser}
use Rattle.parser.specs.declared.Place.{Place}
use Rattle.parser.specs.declared.Place.TheVariants.{Piece, Stage}
use Rattle.parser.proofs.Cases.{sound_count, sound_empty}
use Rattle.parser.proofs.Latches.{refused_low}
use Rattle.listing.specs.Settled.{idle, settled, number_only, is_settled}

-- ---- header bytes that are 0 from an index on
all_are : (l : List ℕ) → list_all (λ b. eqb b 0) l ≡ all_zero l
unfolding all_zero
all_are [] = refl
all_are (x ∷ l) = ap (λ (b : Bool). eqb x 0 && b) (all_are l)

pub zeros_from : (l : List ℕ) (from at : ℕ) → length l ≡ 44 → at ≡ min from 44 → list_all (λ b. eqb b 0) (take (44 - at) (drop at l)) ≡ all_zero (drop from l)
zeros_from l from at n e =
    all_are (take (44 - at) (drop at l))
    ∙ ap all_zero (take_all (44 - at) (drop at l) (simp length-drop (omega arith)))
    ∙ ap all_zero (go (dec_le from 44))
  where
    go : Dec (from ≤ 44) → drop at l ≡ drop from l
    go (yes h) = let q : at ≡ from = omega arith in ap (λ (k : ℕ). drop k l) q
    go (no h) = drop_of_length-le l {i = at} (omega arith) ∙ sym (drop_of_length-le l {i = from} (omega arith))

-- ---- what `settled` leaves
-- with a byte of a header, all
module _ (p : RecordParser) where
  pub keeps_all : (p.header_len ≡ 0 → ⊥) → p ≡ settled p
  unfolding settled
  keeps_all h = simp (ne_eqb p.header_len 0 h)

-- of an error its number alone
abbrev Bare : ℕ → Option RecordError → Type 0
Bare n e = (number_only (refused e) ≡ true) × (n ≤ 9 → (refused e).number ≡ n)

bare_or : (n k : ℕ) (e x : Option RecordError) → Bare k e → k ≤ 9 → ((n ≡ k → ⊥) → Bare n x) → Bare n (pick (eqb n k) e x)
bare_or n k e x b l r = picked (Bare n) (eqb n k) (λ t. (b.0, λ _. b.1 l ∙ sym (eqb-true n k t))) (λ f. r (eqb-false n k f))

bare : (n : ℕ) → Bare n (latch (refusal n 0 0 0))
unfolding latch number_only all_zero
bare n =
    bare_or n 1 _ _ (refl, λ _. refl) (lit≤ tt) (λ a. bare_or n 2 _ _ (refl, λ _. refl) (lit≤ tt) (λ b. bare_or n 3 _ _ (refl, λ _. refl) (lit≤ tt)
    (λ c. bare_or n 4 _ _ (refl, λ _. refl) (lit≤ tt) (λ d. bare_or n 5 _ _ (refl, λ _. refl) (lit≤ tt) (λ e. bare_or n 6 _ _ (refl, λ _. refl) (lit≤ tt)
    (λ f. bare_or n 7 _ _ (refl, λ _. refl) (lit≤ tt) (λ g. bare_or n 8 _ _ (refl, λ _. refl) (lit≤ tt) (λ h. bare_or n 9 _ _ (refl, λ _. refl) (lit≤ tt)
    (λ i. (refl, λ l. omega arith))))))))))

module _ (p : RecordParser) where
  -- a latched error is one of 1 to 9
  error_low : (latched p).number ≤ 9
  error_low = refused_low p.error

  pub settled_number : (latched (settled p)).number ≡ (latched p).number
  unfolding settled
  settled_number = picked (λ (x : RecordParser). (latched x).number ≡ (latched p).number) (eqb p.header_len 0) (λ _. (bare (latched p).number).1 error_low) (λ _. refl)

  module _ (s : sound_parser p ≡ true) where
    pub settled_sound : sound_parser (settled p) ≡ true
    unfolding settled sound_parser counts_ok
    settled_sound =
        picked (λ (x : RecordParser). sound_parser x ≡ true) (eqb p.header_len 0)
        (λ z.
        rw ((bare (latched p).number).1 error_low)
        (subst (λ (k : ℕ). error_ok (latched p).number k ≡ true) (eqb-true p.header_len 0 z)
        (and_right (counts_ok p.header p.header_len p.payload_len) (error_ok (latched p).number p.header_len) s)))
        (λ _. s)

    pub settled_held : buffered_of (settled p) ≡ buffered_of p
    unfolding settled
    settled_held =
        picked (λ (x : RecordParser). buffered_of x ≡ buffered_of p) (eqb p.header_len 0)
        (λ z.
        let e : p.header_len ≡ 0 = eqb-true p.header_len 0 z in
        omega (arith, sound_empty p true (sym s) refl (λ q. omega arith)))
        (λ _. refl)

-- ---- a push
idle_settled : (n : ℕ) → is_settled (idle n) ≡ true
unfolding is_settled all_zero
idle_settled n = rw (bare n).0 refl

zero_drop : (n : ℕ) (l : List ℕ) → all_zero l ≡ true → all_zero (drop n l) ≡ true
unfolding all_zero
zero_drop zero l e = e
zero_drop (suc n) [] e = refl
zero_drop (suc n) (x ∷ l) e = zero_drop n l (and_right (eqb x 0) (all_zero l) e)

-- what stands behind s once it is laid over d
drop_laid : (d : List ℕ) (at : ℕ) (s : List ℕ) → drop (at + length s) (overlay d at s) ≡ drop (at + length s) d
unfolding overlay
drop_laid d at s = go (dec_le at (length d))
  where
    go : Dec (at ≤ length d) → drop (at + length s) (take at d ++ (s ++ drop (at + length s) d)) ≡ drop (at + length s) d
    go (yes l) =
        let w : length (take at d ++ s) ≡ at + length s = simp (length-append, length-take) (omega arith) in
        ap (drop (at + length s)) (sym (append_assoc (take at d) s (drop (at + length s) d))) ∙ drop_at (take at d ++ s) (drop (at + length s) d) (at + length s) w
    go (no l) =
        let w : length (take at d ++ (s ++ drop (at + length s) d)) ≤ at + length s = simp (length-append, length-take, length-drop) (omega arith) in
        drop_of_length-le (take at d ++ (s ++ drop (at + length s) d)) {i = at + length s} w ∙ sym (drop_of_length-le d {i = at + length s} (omega arith))

-- the header bytes that have not come stay 0
module _ (h : List ℕ) (n : ℕ) (piece : List ℕ) where
  front_zero : all_zero (drop n h) ≡ true → all_zero (drop (n + head_taken n piece) (head_with h n piece)) ≡ true
  unfolding head_with
  front_zero e =
      let x : List ℕ = take (head_taken n piece) piece in
      let l : length x ≡ head_taken n piece = length-take (head_taken n piece) piece ∙ omega arith in
      ap (λ (k : ℕ). all_zero (drop (n + k) (overlay h n x))) (sym l)
      ∙ ap all_zero (drop_laid h n x ∙ sym (drop-drop (length x) n h))
      ∙ zero_drop (length x) (drop n h) e

module _ (p : RecordParser) where
  kept : is_settled p ≡ true → is_settled (settled p) ≡ true
  unfolding settled
  kept e = picked (λ (x : RecordParser). is_settled x ≡ true) (eqb p.header_len 0) (λ _. idle_settled (latched p).number) (λ _. e)

abbrev Settles : Push → Type 0
Settles u = is_settled (settled u.answer.parser) ≡ true

waits_settled : (h : List ℕ) (n k t : ℕ) → all_zero (drop n h) ≡ true → is_settled (settled (waiting h n k t).parser) ≡ true
unfolding is_settled number_only all_zero
waits_settled h n k t e = kept (waiting h n k t).parser e

module _ (h : List ℕ) (k : ℕ) (held rest : List ℕ) (from : ℕ) (e : all_zero (drop 44 h) ≡ true) where
  finish_settled : (y : List ℕ) (t : ℕ) (place : Place) → Settles (finish h y t place)
  unfolding finish settled
  finish_settled y t place =
      picked Settles (passes (payload_checks (type_of h) y)) (λ _. idle_settled 0) (λ _. idle_settled _)

  body_settled : Settles (push_body h k held rest from)
  unfolding push_body
  body_settled =
      let n : ℕ = body_taken h k rest in
      picked Settles (ltb (k + n) (length_of h))
      (λ _. waits_settled h 44 (k + n) (from + n) e)
      (λ _. finish_settled (held ++ take n rest) (from + n) (pick (eqb k 0) (Piece from) Stage))

module _ (h : List ℕ) (n k : ℕ) (held piece : List ℕ) (low : n ≤ 44) (e : all_zero (drop n h) ≡ true) where
  abbrev H : List ℕ
  H = head_with h n piece

  abbrev m : ℕ
  m = head_taken n piece

  head_settled : Settles (push_head h n k held piece)
  unfolding push_head settled
  head_settled =
      picked Settles (ltb (n + m) 44)
      (λ _. waits_settled H (n + m) 0 m (front_zero h n piece e))
      (λ t.
      let l : 44 ≤ n + m = ltb-false (n + m) 44 t in
      let q : n + m ≡ 44 = omega arith in
      picked Settles (passes (header_checks H))
      (λ _. body_settled H k held (drop m piece) m (subst (λ (j : ℕ). all_zero (drop j H) ≡ true) q (front_zero h n piece e)))
      (λ _. idle_settled _))

pub settles : (p : RecordParser) (size : ℕ) (held piece : List ℕ) → sound_parser p ≡ true → is_settled p ≡ true → Settles (push p size held piece)
unfolding push is_settled
settles p size held piece s e =
    picked Settles (passes (first (push_rows p size)))
    (λ _. head_settled p.header p.header_len p.payload_len held piece (sound_count p s)
    (and_right (number_only (latched p)) (all_zero (drop p.header_len p.header)) e))
    (λ _. kept p e)
