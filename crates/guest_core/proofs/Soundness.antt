-- What a sound session tells, and one that is Active with sound figures. Assumes nothing.
use Prim.Native.Nat.{ℕ, ◌≤◌}
use mathlib.Core.Path.{◌≡◌, sym, ◌∙◌}
use mathlib.Core.Bool.{Bool, true, false, not, ◌&&◌}
use native.Mathlib.Omega.{arith}
use lib.Dec.{leb}
use borrow.Author.Tests.{not-false}
use Rattle.std.proofs.lemmas.Bool.Decides.{nat_tests}
use Rattle.outer.specs.Outer.{credit_ok}
use Rattle.parser.specs.Push.{sound_parser}
use Rattle.guest_core.specs.State.{code, sound_guest, active_guest}
use Rattle.guest_core.specs.declared.GuestSession.{GuestSession}

module _ (g : GuestSession) (e : sound_guest g ≡ true) where
  pub sound_inside : sound_parser g.parser ≡ true
  unfolding sound_guest
  sound_inside = grind (arith, nat_tests)

  pub outstanding_low : g.outstanding ≤ g.window
  unfolding sound_guest
  outstanding_low = grind (arith, nat_tests)

  pub window_low : g.window ≤ 4194314
  unfolding sound_guest
  window_low = grind (arith, nat_tests)

  pub outstanding_most : g.outstanding ≤ 4194314
  outstanding_most = let w = window_low in let o = outstanding_low in omega arith

  -- a credit that is covered is in its limits
  pub credit_ok_lem : (n : ℕ) → leb 1 n && leb n g.outstanding ≡ true → credit_ok n ≡ true
  unfolding credit_ok
  credit_ok_lem n within = let o = outstanding_most in grind (arith, nat_tests)

-- the same from the code's test
pub sound_outstanding : (g : GuestSession) (b : Bool) → b ≡ sound_guest g → not b ≡ false → g.outstanding ≤ g.window
sound_outstanding g b eb n = outstanding_low g (sym eb ∙ not-false b n)

module _ (g : GuestSession) (a : active_guest g ≡ true) where
  pub active_state : code g.state ≡ 3
  unfolding active_guest
  active_state = grind (arith, nat_tests)

  pub active_low : g.outstanding ≤ g.window
  unfolding active_guest
  active_low = grind (arith, nat_tests)

  pub active_window : g.window ≤ 4194314
  unfolding active_guest
  active_window = grind (arith, nat_tests)

  pub active_sound : sound_parser g.parser ≡ true → sound_guest g ≡ true
  unfolding active_guest sound_guest
  active_sound p = grind (arith, nat_tests)
