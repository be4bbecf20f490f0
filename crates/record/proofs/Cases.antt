-- Laws that the proofs of the checks and of the encoder use. Assumes nothing.
use Prim.Native.Nat.{ℕ, ◌+◌, ◌≤◌}
use mathlib.Core.Path.{◌≡◌, refl, sym, ap, ◌∙◌}
use mathlib.Core.Bool.{Bool, ◌&&◌}
use mathlib.Core.List.{List, [], ◌∷◌}
use lib.ListN.{length}
use lib.Dec.{eqb}
use Rattle.wire.specs.Refusals.{pick, none, first, passes}
use Rattle.outer.specs.Outer.{room_row}
use lib.Pointwise.{pointwise}
use Rattle.std.specs.Prelude.{replicate}
use Rattle.wire.proofs.Rows.{passed, first_append, Numbered}
use Rattle.record.proofs.TypesCases.{length_limit}
use Rattle.record.specs.Record.{all_zero}
use Rattle.record.specs.Record.{record_rows, encode_rows}

-- sixteen zeros byte by byte
pub zeros : (l : List ℕ) → length l ≡ 16 → pointwise eqb l (replicate 16 0) ≡ all_zero l
unfolding all_zero
zeros l n = ap (λ (k : ℕ). pointwise eqb l (replicate k 0)) (sym n) ∙ go l
  where
    go : (xs : List ℕ) → pointwise eqb xs (replicate (length xs) 0) ≡ all_zero xs
    go [] = refl
    go (x ∷ xs) = ap (λ (b : Bool). eqb x 0 && b) (go xs)

-- ---- the encoder's rows: those of the record, then 22
module _ (t : ℕ) (i : List ℕ) (e s : ℕ) (p : List ℕ) where
  -- each has a number
  named : Numbered (record_rows t i e s p)
  named = (refl, (refl, (refl, (refl, (refl, tt)))))

  pub then_room : (o : List ℕ) (at : ℕ)
      → first (encode_rows t i e s p o at) ≡ pick (passes (first (record_rows t i e s p))) (first (room_row o at (44 + length p) ∷ [])) (first (record_rows t i e s p))
  then_room o at = first_append (record_rows t i e s p) (room_row o at (44 + length p) ∷ []) named

  -- a payload that passes is no longer than the largest
  pub length_fits : none ≡ first (record_rows t i e s p) → length p ≤ 65536
  length_fits q = length_limit t (length p) (passed (record_rows t i e s p) named (ap passes (sym q))).0
