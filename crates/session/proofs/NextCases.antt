-- What the encoder of the next record answers for DATA of at most 65,536 bytes: of its own rows only an empty one and the room are left. Assumes nothing.
use Prim.Native.Nat.{ℕ, ◌+◌, min}
use mathlib.Core.Path.{◌≡◌, refl}
use mathlib.Core.Bool.{Bool}
use mathlib.Core.List.{List, [], ◌∷◌}
use native.Mathlib.Omega.{arith}
use lib.ListN.{length, take, length-take}
use lib.Dec.{leb}
use Rattle.std.proofs.lemmas.Bool.Decides.{nat_tests}
use Rattle.wire.specs.Bytes.{overlay}
use Rattle.wire.specs.Refusals.{pick, refusal, none, first, passes}
use Rattle.wire.specs.declared.Refusal.{Refusal}
use Rattle.outer.specs.Outer.{room_row}
use Rattle.record.specs.Types.{length_ok}
use Rattle.session.specs.Checks.{next_row}
use Rattle.session.specs.declared.Identity.{Identity}
use Rattle.session.specs.Writes.{outcome, next_rows, not_encoded, identity_bytes, encode_next, encode_data}

module _ (i : Identity) (s : ℕ) (bs o : List ℕ) (at : ℕ) where
  abbrev count : ℕ
  count = min (length bs) 65536

  abbrev data_rows : List (Bool × Refusal)
  data_rows = next_row 5 s ∷ (leb 1 (length bs), refusal 5 5 0 0) ∷ room_row o at (44 + count) ∷ []

  rows_are : first (next_rows 5 i s (take count bs) o at) ≡ first data_rows
  unfolding first length_ok
  rows_are = grind (arith, nat_tests, length-take {A = ℕ})

  abbrev data_bytes : List ℕ
  data_bytes = identity_bytes 5 i s (take count bs)

  pub data_told : encode_data i s bs o at
      ≡ pick (passes (first data_rows))
      (outcome (record { refusal = none; count = count; next = at + length data_bytes; sequence = record { 0 = s + 1 } }) (overlay o at data_bytes))
      (outcome (not_encoded (first data_rows) s) o)
  unfolding encode_next
  data_told = rw rows_are refl
