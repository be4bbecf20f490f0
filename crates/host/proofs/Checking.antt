-- What stops a record by its type and sequence, or else by its identity. Assumes nothing.
use mathlib.Core.Path.{◌≡◌}
use mathlib.Core.Bool.{Bool, false}
use mathlib.Core.List.{List, [], ◌∷◌}
use native.Mathlib.Omega.{arith}
use Rattle.std.proofs.lemmas.Bool.Decides.{nat_tests}
use Rattle.wire.specs.Refusals.{pick, first, passes}
use Rattle.wire.specs.declared.Refusal.{Refusal}

pub order_told : (a s n : Bool) (x y z : Refusal) (rows : List (Bool × Refusal)) → passes x ≡ false → passes y ≡ false → passes z ≡ false
    → first ((a, x) ∷ (s, y) ∷ (n, z) ∷ rows) ≡ pick (passes (first ((a, x) ∷ (s, y) ∷ (n, z) ∷ []))) (first rows) (first ((a, x) ∷ (s, y) ∷ (n, z) ∷ []))
unfolding first
order_told a s n x y z rows ex ey ez = grind (arith, nat_tests)
