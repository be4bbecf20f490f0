-- The answer of a receive is made of the push's answer alone. Assumes nothing.
use mathlib.Core.Path.{◌≡◌}
use native.Mathlib.Omega.{arith}
use Rattle.parser.specs.Push.{Push}
use Rattle.guest_core.specs.declared.GuestSession.{GuestSession}
use Rattle.guest.specs.Receive.{told, accept_reset, accept_data, accept, after_push}

pub answer_told : (g : GuestSession) (u : Push) → (after_push g u).answer ≡ (after_push g (told u.answer)).answer
unfolding after_push accept accept_reset accept_data
answer_told g u = grind arith
