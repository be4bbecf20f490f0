-- Parts of a slice up to its end, and copies of nothing and of all. Assumes nothing.
use Prim.Native.Nat.{ℕ, ◌+◌, ◌-◌}
use mathlib.Core.Path.{◌≡◌, ap, ◌∙◌}
use mathlib.Core.List.{List, [], ◌++◌}
use native.Mathlib.Omega.{arith}
use lib.ListN.{length, take, drop, length-drop, take-append-drop}
use lib.Seq.{take_all}
use Rattle.wire.specs.Bytes.{overlay, copied}
use Rattle.wire.proofs.Overlays.{copied_fits, overlay_all}

-- a part up to the end, as the code takes it
pub part_end : (n : ℕ) (l : List ℕ) → take (length l - n) (drop n l) ≡ drop n l
part_end n l = take_all (length l - n) (drop n l) (simp length-drop (omega arith))

-- nothing laid over a list leaves it
pub overlay_nothing : (d : List ℕ) (i : ℕ) → overlay d i [] ≡ d
unfolding overlay
overlay_nothing d i = let e : i + 0 ≡ i = omega arith in ap (λ (k : ℕ). take i d ++ drop k d) e ∙ take-append-drop i d

pub take_none : (n : ℕ) (l : List ℕ) → n ≡ 0 → take n l ≡ []
take_none n l e = rw e

-- a list copied from the start over one of its length is all that is left
pub copied_whole : (d s : List ℕ) (at : ℕ) → at ≡ 0 → length s ≡ length d → copied d at s ≡ s
copied_whole d s at e l = rw e (copied_fits d 0 s (omega arith) ∙ overlay_all d s l)
