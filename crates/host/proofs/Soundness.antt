-- What a sound session tells. Assumes nothing.
use mathlib.Core.Path.{◌≡◌}
use mathlib.Core.Bool.{true, not, ◌||◌}
use Rattle.wire.proofs.Rows.{and_left}
use Rattle.parser.specs.Push.{sound_parser}
use Rattle.session.specs.Checks.{holds}
use Rattle.host.specs.State.{is_attached, sound_host}
use Rattle.host.specs.declared.HostSession.{HostSession}

-- the parser of a sound session is sound
pub sound_inside : (h : HostSession) → sound_host h ≡ true → sound_parser h.parser ≡ true
unfolding sound_host
sound_inside h e = and_left (sound_parser h.parser) (not (is_attached h.state) || holds h.identity) e
