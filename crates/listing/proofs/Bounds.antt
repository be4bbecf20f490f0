-- No more bytes are taken than the piece has: each push takes no more than are left, and the sum goes on from there. Assumes nothing.
use Prim.Native.Nat.{ℕ, zero, suc, ◌+◌, ◌-◌, ◌≤◌, min}
use mathlib.Core.Path.{◌≡◌, refl}
use mathlib.Core.Bool.{Bool, true, false, ◌&&◌}
use mathlib.Core.List.{List, ◌∷◌}
use native.Mathlib.Omega.{arith}
use lib.ListN.{length, drop, length-drop, length-take}
use lib.Dec.{leb, ltb}
use Rattle.wire.specs.Refusals.{refusal, first, passes}
use Rattle.wire.specs.declared.Refusal.{Refusal}
use Rattle.wire.proofs.Rows.{picked}
use Rattle.listing.specs.Reach.{limit}
use Rattle.listing.specs.Steps.{read_of, sound_listing, Outcome, step_of, lines, list_rows, readable, list_of}
use Rattle.listing.specs.declared.Listing.{Listing}
use Rattle.listing.proofs.Cases.{facts, Stepped, stepped}

abbrev Within : List ℕ → Outcome → Type 0
Within piece o = o.listed.taken ≤ length piece

pub lines_within : (n : ℕ) (s : Listing) (piece stage output : List ℕ) (taken at : ℕ) → sound_listing s ≡ true → read_of s + length piece ≤ limit + taken
    → taken ≤ length piece → Within piece (lines n s piece stage output taken at)
unfolding lines
lines_within zero s piece stage output taken at t l w = w
lines_within (suc n) s piece stage output taken at t l w =
    picked (Within piece) (ltb taken (length piece) && leb (at + 126) (length output))
    (λ h.
    let q : length (drop taken piece) ≡ length piece - taken = length-drop taken piece in
    let d : Stepped s (length (drop taken piece)) (step_of s (drop taken piece) stage output at).listed =
    stepped s (drop taken piece) stage output at t (omega arith)
    in
    picked (Within piece) (passes (step_of s (drop taken piece) stage output at).listed.refusal)
    (λ _. lines_within n _ piece _ _ _ _ d.sound (omega (arith, d.read)) (omega (arith, d.within)))
    (λ _. omega (arith, d.within)))
    (λ _. w)

-- where no row stops a call, the listing is sound
pub first_holds : (b : Bool) (rows : List (Bool × Refusal)) → passes (first ((b, refusal 23 0 0 0) ∷ rows)) ≡ true → b ≡ true
unfolding first
first_holds true rows e = refl
first_holds false rows e = e

pub list_within : (s : Listing) (piece stage output : List ℕ) → (list_of s piece stage output).listed.taken ≤ length piece
unfolding list_of
list_within s piece stage output =
    picked (Within piece) (passes (first (list_rows s stage output)))
    (λ p.
    let t : sound_listing s ≡ true = first_holds (sound_listing s) _ p in
    let k : length (readable s piece) ≡ min (limit - read_of s) (length piece) = length-take (limit - read_of s) piece in
    omega (arith, lines_within (length (readable s piece)) s (readable s piece) stage output 0 0 t (omega (arith, (facts s t).read)) (omega arith)))
    (λ _. omega arith)
