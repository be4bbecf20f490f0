-- Bytes laid over an output where they fit: they are read back from their position, and the output stays as long. And how long a record's
-- bytes are. Assumes nothing.
use Prim.Native.Nat.{ℕ, ◌+◌, ◌-◌, ◌≤◌}
use mathlib.Core.Path.{◌≡◌, ap, ◌∙◌}
use mathlib.Core.List.{List, ◌++◌}
use native.Mathlib.Omega.{arith}
use lib.ListN.{length, take, drop, length-append, length-take, length-drop}
use lib.Seq.{take_at, drop_at}
use Rattle.wire.specs.Bytes.{overlay}
use Rattle.wire.specs.Header.{header_bytes}
use Rattle.wire.proofs.Headers.{header_length}
use Rattle.record.specs.Record.{record_bytes}

module _ (o : List ℕ) (at : ℕ) (bytes : List ℕ) (room : at + length bytes ≤ length o) where
  pub laid_back : take (at + length bytes - at) (drop at (overlay o at bytes)) ≡ bytes
  unfolding overlay
  laid_back =
      let n : length (take at o) ≡ at = simp length-take (omega arith) in
      ap (take (at + length bytes - at)) (drop_at (take at o) (bytes ++ drop (at + length bytes) o) at n)
      ∙ take_at bytes (drop (at + length bytes) o) (at + length bytes - at) (omega arith)

  pub laid_length : length (overlay o at bytes) ≡ length o
  unfolding overlay
  laid_length = simp (length-append, length-take, length-drop) (omega arith)

-- a record is 44 bytes longer than its payload
pub record_length : (t : ℕ) (i : List ℕ) (e s : ℕ) (y : List ℕ) → length i ≡ 16 → length (record_bytes t i e s y) ≡ 44 + length y
record_length t i e s y z = length-append (header_bytes t i e s (length y)) y ∙ ap (λ (n : ℕ). n + length y) (header_length t i e s (length y) z)
