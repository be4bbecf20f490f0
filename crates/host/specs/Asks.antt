-- The rules of what a host's session is asked (01, "Host" and "What stops each operation").
use Rattle.std.specs.Prelude.{Option, None, Result, Ok, Err}
use Rattle.wire.specs.Refusals.{pick, refusal, none, refusal_of}
use Rattle.wire.specs.declared.Refusal.{Refusal}
use Rattle.wire.specs.declared.errors.Error.{Error}
use Rattle.parser.specs.Push.{Count, needed_of}
use Rattle.session.specs.declared.Identity.{Identity}
use Rattle.host.specs.State.{sound_host}
use Rattle.host.specs.declared.HostState.{HostState}
use Rattle.host.specs.declared.HostState.TheVariants as State
use Rattle.host.specs.declared.HostSession.{HostSession}

-- each ask: 23, then the value; they change nothing
-- what `state` answers: what is refused, and the state
pub record StateAnswer : Type 0 where
  pub refusal : Refusal
  pub state : HostState

abbrev pub state_with : Refusal → HostState → StateAnswer
state_with r s = record { refusal = r; state = s }

abbrev pub state_told : Result HostState Error → StateAnswer
state_told (Ok s) = state_with none s
state_told (Err e) = state_with (refusal_of e) State.Detached

unfoldable pub state_of : HostSession → StateAnswer
state_of h = pick (sound_host h) (state_with none h.state) (state_with (refusal 23 0 0 0) State.Detached)

-- what `identity` answers: what is refused, and the identity that is held
pub record IdentityAnswer : Type 0 where
  pub refusal : Refusal
  pub identity : Option Identity

abbrev pub identity_with : Refusal → Option Identity → IdentityAnswer
identity_with r i = record { refusal = r; identity = i }

abbrev pub identity_told : Result (Option Identity) Error → IdentityAnswer
identity_told (Ok i) = identity_with none i
identity_told (Err e) = identity_with (refusal_of e) None

unfoldable pub identity_of : HostSession → IdentityAnswer
identity_of h = pick (sound_host h) (identity_with none h.identity) (identity_with (refusal 23 0 0 0) None)

unfoldable pub needed_by : HostSession → Count
needed_by h = pick (sound_host h) (record { refusal = none; count = needed_of h.parser }) (record { refusal = refusal 23 0 0 0; count = 0 })
