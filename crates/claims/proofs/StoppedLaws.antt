-- Rows and pushes, by the numbers that they refuse with: a push of a sound parser with room gives up to 9. Assumes nothing.
use Prim.Native.Nat.{ℕ, ◌+◌, ◌≤◌, ◌<◌}
use mathlib.Core.Path.{◌≡◌, refl, sym, ◌∙◌}
use mathlib.Core.Bool.{Bool, true, false, ◌||◌}
use mathlib.Core.List.{List, [], ◌∷◌}
use native.Mathlib.Omega.{arith}
use lib.ListN.{drop}
use lib.Dec.{ltb, leb, eqb, lit≤, lit<}
use borrow.Author.Tests.{ne_eqb, ltb-true, ltb-false}
use Rattle.wire.specs.Refusals.{none, first, passes}
use Rattle.wire.specs.Header.{type_of, length_of}
use Rattle.wire.specs.declared.Refusal.{Refusal}
use Rattle.outer.specs.Outer.{max_payload}
use Rattle.wire.proofs.Rows.{Passed, picked, and_left, and_right}
use Rattle.record.specs.Record.{header_checks, payload_checks}
use Rattle.parser.specs.Push.{latched}
use Rattle.parser.specs.Push.{counts_ok, error_ok, sound_parser, Push, finish, body_taken, push_body, head_taken, head_with, push_head, push_rows, push, buffered_of}
use Rattle.parser.specs.declared.RecordParser.{RecordParser}
use Rattle.parser.specs.declared.Place.{Place}
use Rattle.claims.specs.States.{keeps_state}
use Rattle.claims.proofs.Outcomes.{true_not_false, Part, in_head, in_body, part_of, part_low}
use Rattle.parser.proofs.Latches.{header_low, payload_low}
use Rattle.claims.proofs.HostNever.{latched_low}

-- ---- rows
-- what holds of each row's refusal, and where nothing is refused
abbrev pub Every : (Refusal → Type 0) → List (Bool × Refusal) → Type 0
Every P [] = Unit {0}
Every P (row ∷ rows) = P row.1 × Every P rows

pub every_first : (P : Refusal → Type 0) (rows : List (Bool × Refusal)) → P none → Every P rows → P (first rows)
unfolding first
every_first P [] z n = z
every_first P (row ∷ rows) z n = picked P row.0 (λ _. every_first P rows z n.1) (λ _. n.0)

pub pass_none : (rows : List (Bool × Refusal)) → Passed rows → first rows ≡ none
unfolding first
pass_none [] p = refl
pass_none (row ∷ rows) p = rw p.0 (pass_none rows p.1)

-- refusals that fail the session
abbrev pub Fails : Refusal → Type 0
Fails r = keeps_state r ≡ false

not_among : (n a b c : ℕ) → 9 < a → 9 < b → 9 < c → n ≤ 9 → eqb n a || (eqb n b || eqb n c) ≡ false
not_among n a b c p q r l = rw (ne_eqb n a (λ e. omega arith), ne_eqb n b (λ e. omega arith), ne_eqb n c (λ e. omega arith))

pub low_fails : (r : Refusal) → r.number ≤ 9 → Fails r
low_fails r l = not_among r.number _ _ _ (lit< tt) (lit< tt) (lit< tt) l

-- ---- a push
abbrev Low : Push → Type 0
Low u = u.answer.refusal.number ≤ 9

finish_low : (h payload : List ℕ) (n : ℕ) (place : Place) → Low (finish h payload n place)
unfolding finish
finish_low h payload n place = picked Low (passes (payload_checks (type_of h) payload)) (λ _. lit≤ tt) (λ _. payload_low (type_of h) payload)

body_low : (h : List ℕ) (k : ℕ) (held rest : List ℕ) (from : ℕ) → Low (push_body h k held rest from)
unfolding push_body
body_low h k held rest from = picked Low (ltb (k + body_taken h k rest) (length_of h)) (λ _. lit≤ tt) (λ _. finish_low h _ _ _)

head_low : (header : List ℕ) (n k : ℕ) (held piece : List ℕ) → Low (push_head header n k held piece)
unfolding push_head
head_low header n k held piece =
    let h : List ℕ = head_with header n piece in
    picked Low (ltb (n + head_taken n piece) 44) (λ _. lit≤ tt)
    (λ _. picked Low (passes (header_checks h)) (λ _. body_low h k held (drop (head_taken n piece) piece) (head_taken n piece)) (λ _. header_low h))

rows_low : (p : RecordParser) (size : ℕ) → sound_parser p ≡ true → leb max_payload size ≡ true → (latched p).number ≤ 9 → (first (push_rows p size)).number ≤ 9
unfolding first
rows_low p size s room l = rw (s, room) (picked (λ (r : Refusal). r.number ≤ 9) (passes (latched p)) (λ _. lit≤ tt) (λ _. l))

pub push_low : (p : RecordParser) (size : ℕ) (held piece : List ℕ) → sound_parser p ≡ true → leb max_payload size ≡ true → (push p size held piece).answer.refusal.number ≤ 9
unfolding push sound_parser
push_low p size held piece s room =
    let l : (latched p).number ≤ 9 =
    latched_low (latched p).number p.header_len (and_right (counts_ok p.header p.header_len p.payload_len) (error_ok (latched p).number p.header_len) s)
    in
    picked Low (passes (first (push_rows p size))) (λ _. head_low p.header p.header_len p.payload_len held piece) (λ _. rows_low p size s room l)

-- ---- the bytes buffered after a push
-- n were before
pub record Buffers (n : ℕ) (u : Push) : Type 0 where
  pub waits : passes u.answer.refusal ≡ true → u.answer.complete ≡ false → buffered_of u.answer.parser ≡ n + u.answer.consumed
  pub done : u.answer.complete ≡ true → buffered_of u.answer.parser ≡ 0

refused_buffers : (n : ℕ) (u : Push) → passes u.answer.refusal ≡ false → u.answer.complete ≡ false → Buffers n u
refused_buffers n u p q = record { waits = λ x _. true_not_false (sym x ∙ p); done = λ x. true_not_false (sym x ∙ q) }

finish_buffers : (n : ℕ) (h payload : List ℕ) (taken : ℕ) (place : Place) → Buffers n (finish h payload taken place)
unfolding finish
finish_buffers n h payload taken place =
    picked (Buffers n) (passes (payload_checks (type_of h) payload)) (λ _. record { waits = λ _ x. true_not_false x; done = λ _. refl }) (λ p. refused_buffers n _ p refl)

body_buffers : (n : ℕ) (h : List ℕ) (k : ℕ) (held rest : List ℕ) (from : ℕ) → n + from ≡ 44 + k → Buffers n (push_body h k held rest from)
unfolding push_body
body_buffers n h k held rest from e =
    picked (Buffers n) (ltb (k + body_taken h k rest) (length_of h)) (λ _. record { waits = λ _ _. omega arith; done = λ x. true_not_false (sym x) }) (λ _. finish_buffers n h _ _ _)

head_buffers : (header : List ℕ) (n k : ℕ) (held piece : List ℕ) → Part header n k → Buffers (n + k) (push_head header n k held piece)
unfolding push_head
head_buffers header n k held piece part =
    let h : List ℕ = head_with header n piece in
    let low : n ≤ 44 = part_low part in
    picked (Buffers (n + k)) (ltb (n + head_taken n piece) 44)
    (λ p. let z : k ≡ 0 = none_yet part (omega (arith, ltb-true (n + head_taken n piece) 44 p)) in record { waits = λ _ _. omega arith; done = λ x. true_not_false (sym x) })
    (λ p. picked (Buffers (n + k)) (passes (header_checks h))
    (λ _. body_buffers (n + k) h k held (drop (head_taken n piece) piece) (head_taken n piece) (omega (arith, ltb-false (n + head_taken n piece) 44 p)))
    (λ q. refused_buffers (n + k) _ q refl))
  where
    none_yet : Part header n k → n < 44 → k ≡ 0
    none_yet (in_head x y) l = y
    none_yet (in_body x c y) l = absurd (omega arith)

pub push_buffers : (p : RecordParser) (size : ℕ) (held piece : List ℕ) → sound_parser p ≡ true → Buffers (buffered_of p) (push p size held piece)
unfolding push sound_parser
push_buffers p size held piece s =
    picked (Buffers (buffered_of p)) (passes (first (push_rows p size)))
    (λ _. head_buffers p.header p.header_len p.payload_len held piece
    (part_of p.header p.header_len p.payload_len (and_left (counts_ok p.header p.header_len p.payload_len) (error_ok (latched p).number p.header_len) s)))
    (λ q. refused_buffers (buffered_of p) _ q refl)
