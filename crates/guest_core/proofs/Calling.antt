-- Payloads of one number: what an ACK and a CREDIT encode. Assumes nothing.
use Prim.Native.Nat.{ℕ, ◌+◌, ◌≤◌, ◌<◌, ◌^◌}
use mathlib.Core.Path.{◌≡◌, refl, ap}
use mathlib.Core.Bool.{Bool}
use mathlib.Core.List.{List, [], ◌∷◌}
use native.Mathlib.Omega.{arith}
use lib.ListN.{length}
use borrow.Author.Tests.{eq-eqb}
use Rattle.std.proofs.lemmas.Bool.Decides.{nat_tests}
use Rattle.wire.specs.Bytes.{to_le, overlay}
use Rattle.wire.specs.Refusals.{pick, refusal, none, first, passes}
use Rattle.wire.specs.declared.Refusal.{Refusal}
use Rattle.wire.proofs.NumberLaws.{from_to, length_to}
use Rattle.outer.specs.Outer.{window_ok, credit_ok, value_of, write, room_row}
use Rattle.record.specs.Types.{length_ok}
use Rattle.record.specs.Record.{encode_record, encode_rows}
use Rattle.session.specs.Checks.{next_row}
use Rattle.session.specs.Writes.{outcome, next_rows, not_encoded, identity_bytes, encode_next}
use Rattle.session.specs.declared.Identity.{Identity}

module _ (i : Identity) (s n : ℕ) (o : List ℕ) (at : ℕ) (low : n < 2 ^ 32) where
  -- a number of four bytes is the value of those bytes
  back : value_of (to_le 4 n) ≡ n
  unfolding value_of
  back = simp (eq-eqb (length (to_le 4 n)) 4 (length_to 4 n)) (from_to 4 n low)

  abbrev bytes_of : ℕ → List ℕ
  bytes_of t = identity_bytes t i s (to_le 4 n)

  ack_rows : first (encode_rows 4 i.instance_id i.epoch.0 s (to_le 4 n) o at) ≡ first ((window_ok n, refusal 8 n 0 0) ∷ room_row o at 48 ∷ [])
  unfolding first length_ok to_le
  ack_rows = ap (λ (j : ℕ). first ((window_ok j, refusal 8 j 0 0) ∷ room_row o at 48 ∷ [])) back

  pub ack_told : encode_record 4 i.instance_id i.epoch.0 s (to_le 4 n) o at ≡ write (first ((window_ok n, refusal 8 n 0 0) ∷ room_row o at 48 ∷ [])) (bytes_of 4) o at
  unfolding encode_record
  ack_told = ap (λ (v : Refusal). write v (bytes_of 4) o at) ack_rows

  module _ (some : 1 ≤ n) (most : n ≤ 4194314) where
    abbrev credit_rows : List (Bool × Refusal)
    credit_rows = next_row 9 s ∷ room_row o at 48 ∷ []

    credit_first : first (next_rows 9 i s (to_le 4 n) o at) ≡ first credit_rows
    unfolding first length_ok to_le credit_ok
    credit_first = let b = back in grind (arith, nat_tests)

    pub credit_told : encode_next 9 i s 0 (to_le 4 n) o at
        ≡ pick (passes (first credit_rows))
        (outcome (record { refusal = none; count = 0; next = at + length (bytes_of 9); sequence = record { 0 = s + 1 } }) (overlay o at (bytes_of 9)))
        (outcome (not_encoded (first credit_rows) s) o)
    unfolding encode_next
    credit_told = rw credit_first refl
