-- The rules of what a guest's session answers when asked (01, "Guest"): 23, then the value. They change nothing.
use Rattle.std.specs.Prelude.{ℕ, Bool, true, false, Option, Some, None, Result, Ok, Err}
use Rattle.wire.specs.Refusals.{pick, refusal, none, refusal_of}
use Rattle.wire.specs.declared.Refusal.{Refusal}
use Rattle.wire.specs.declared.errors.Error.{Error}
use Rattle.parser.specs.Push.{Count, needed_of}
use Rattle.session.specs.declared.Identity.{Identity}
use Rattle.guest_core.specs.State.{is_active, sound_guest}
use Rattle.guest_core.specs.declared.GuestState.{GuestState}
use Rattle.guest_core.specs.declared.GuestState.TheVariants as State
use Rattle.guest_core.specs.declared.GuestSession.{GuestSession}

-- what each answers: what is refused, and the value
pub record StateAnswer : Type 0 where
  pub refusal : Refusal
  pub state : GuestState

pub record IdentityAnswer : Type 0 where
  pub refusal : Refusal
  pub identity : Option Identity

pub record WindowAnswer : Type 0 where
  pub refusal : Refusal
  pub present : Bool
  pub window : ℕ

pub record OutstandingAnswer : Type 0 where
  pub refusal : Refusal
  pub outstanding : ℕ

abbrev pub no_window : Refusal → WindowAnswer
no_window r = record { refusal = r; present = false; window = 0 }

abbrev pub state_told : Result GuestState Error → StateAnswer
state_told (Ok s) = record { refusal = none; state = s }
state_told (Err e) = record { refusal = refusal_of e; state = State.Detached }

abbrev pub identity_told : Result (Option Identity) Error → IdentityAnswer
identity_told (Ok i) = record { refusal = none; identity = i }
identity_told (Err e) = record { refusal = refusal_of e; identity = None }

abbrev pub window_told : Result (Option ℕ) Error → WindowAnswer
window_told (Ok (Some w)) = record { refusal = none; present = true; window = w }
window_told (Ok None) = no_window none
window_told (Err e) = no_window (refusal_of e)

abbrev pub outstanding_told : Result ℕ Error → OutstandingAnswer
outstanding_told (Ok n) = record { refusal = none; outstanding = n }
outstanding_told (Err e) = record { refusal = refusal_of e; outstanding = 0 }

-- the rules
unfoldable pub state_of : GuestSession → StateAnswer
state_of g = pick (sound_guest g) (record { refusal = none; state = g.state }) (record { refusal = refusal 23 0 0 0; state = State.Detached })

unfoldable pub identity_of : GuestSession → IdentityAnswer
identity_of g =
    pick (sound_guest g) (record { refusal = none; identity = g.identity })
    (record { refusal = refusal 23 0 0 0; identity = None })

-- none unless Active
unfoldable pub window_of : GuestSession → WindowAnswer
window_of g =
    pick (sound_guest g)
    (pick (is_active g.state) (record { refusal = none; present = true; window = g.window }) (no_window none))
    (no_window (refusal 23 0 0 0))

unfoldable pub outstanding_of : GuestSession → OutstandingAnswer
outstanding_of g = pick (sound_guest g) (record { refusal = none; outstanding = g.outstanding }) (record { refusal = refusal 23 0 0 0; outstanding = 0 })

unfoldable pub needed_by : GuestSession → Count
needed_by g = pick (sound_guest g) (record { refusal = none; count = needed_of g.parser }) (record { refusal = refusal 23 0 0 0; count = 0 })
