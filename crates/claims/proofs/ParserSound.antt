-- A push leaves a sound parser sound, whatever stage it is lent. What it latches comes from the header checks or the payload checks, whose
-- numbers are 1 to 9. Assumes nothing.
use Prim.Native.Nat.{ℕ, ◌+◌, ◌<◌}
use mathlib.Core.Path.{◌≡◌, refl}
use mathlib.Core.Bool.{true}
use mathlib.Core.List.{List}
use native.Mathlib.Omega.{arith}
use lib.ListN.{drop}
use lib.Dec.{ltb}
use borrow.Author.Tests.{ltb-true, lt-ltb, ne_eqb}
use Rattle.std.specs.Prelude.{None}
use Rattle.wire.specs.Refusals.{first, passes}
use Rattle.wire.specs.Header.{type_of, length_of}
use Rattle.wire.proofs.Rows.{picked}
use Rattle.record.specs.Record.{header_checks, payload_checks}
use Rattle.parser.proofs.Latches.{latch_sound}
use Rattle.parser.specs.Push.{parser_of, counts_ok, error_ok, sound_parser, Push, finish, body_taken, push_body, head_taken, head_with, push_head, push_rows, push}
use Rattle.parser.specs.declared.RecordParser.{RecordParser}
use Rattle.parser.specs.declared.Place.{Place}

abbrev Sound : Push → Type 0
Sound u = sound_parser u.answer.parser ≡ true

module _ (h : List ℕ) where
  pub empty : sound_parser (parser_of h 0 0 None) ≡ true
  unfolding sound_parser counts_ok error_ok
  empty = refl

  filling : (n : ℕ) → n < 44 → sound_parser (parser_of h n 0 None) ≡ true
  unfolding sound_parser counts_ok error_ok
  filling n l = simp (ne_eqb n 44 (λ q. omega arith), lt-ltb n 44 l)

  holding : (k : ℕ) → passes (header_checks h) ≡ true → k < length_of h → sound_parser (parser_of h 44 k None) ≡ true
  unfolding sound_parser counts_ok error_ok
  holding k c l = simp (c, lt-ltb k (length_of h) l)

  finish_sound : (payload : List ℕ) (taken : ℕ) (place : Place) → Sound (finish h payload taken place)
  unfolding finish
  finish_sound payload taken place =
      picked Sound (passes (payload_checks (type_of h) payload)) (λ _. empty) (λ _. latch_sound h (payload_checks (type_of h) payload))

  body_sound : (k : ℕ) (held rest : List ℕ) (from : ℕ) → passes (header_checks h) ≡ true → Sound (push_body h k held rest from)
  unfolding push_body
  body_sound k held rest from c =
      picked Sound (ltb (k + body_taken h k rest) (length_of h))
      (λ l. holding (k + body_taken h k rest) c (ltb-true _ _ l))
      (λ _. finish_sound _ _ _)

head_sound : (header : List ℕ) (header_len k : ℕ) (held piece : List ℕ) → Sound (push_head header header_len k held piece)
unfolding push_head
head_sound header header_len k held piece =
    let h : List ℕ = head_with header header_len piece in
    picked Sound (ltb (header_len + head_taken header_len piece) 44)
    (λ l. filling h (header_len + head_taken header_len piece) (ltb-true _ _ l))
    (λ _. picked Sound (passes (header_checks h)) (λ c. body_sound h k held (drop (head_taken header_len piece) piece) (head_taken header_len piece) c) (λ _. latch_sound h (header_checks h)))

pub push_sound_lem : (p : RecordParser) (size : ℕ) (held piece : List ℕ) → sound_parser p ≡ true → Sound (push p size held piece)
unfolding push
push_sound_lem p size held piece s =
    picked Sound (passes (first (push_rows p size))) (λ _. head_sound p.header p.header_len p.payload_len held piece) (λ _. s)
