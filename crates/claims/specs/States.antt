-- What a session's asks answer, and which calls change nothing, over every list of calls: for a guest, then for a host. The figures are
-- folds over calls and answers, and never read the session. Gathered in `StateClaims`.
use Rattle.std.specs.Prelude.{ℕ, ◌≡◌, Bool, true, false, ◌||◌, List, [], ◌∷◌, eqb, Option, Some, None}
use Rattle.wire.specs.Refusals.{pick, none, passes}
use Rattle.wire.specs.declared.Refusal.{Refusal}
use Rattle.session.specs.Checks.{no_identity}
use Rattle.session.specs.declared.Identity.{Identity}
use Rattle.guest_core.specs.State as GuestIs
use Rattle.guest_core.specs.declared.GuestState.{GuestState}
use Rattle.guest_core.specs.declared.GuestState.TheVariants as State
use Rattle.guest_core.specs.Asks.{WindowAnswer}
use Rattle.guest.specs.Event.{GuestEvent}
use Rattle.guest.specs.Event as Event
use Rattle.claims.specs.GuestCalls.{Writing, attach, acknowledge, send, credit, ask_state, ask_identity, ask_window, Call, receive, write, disconnect, ask}
use Rattle.claims.specs.GuestCalls.{state, identity, window, Answer, told, refusal_of, event_of, step, fresh}
use Rattle.claims.specs.GuestHistory.{after, trace, history}
use Rattle.claims.specs.GuestClaims.{answers}
use Rattle.claims.specs.Release.{identity_in}
use Rattle.claims.specs.GuestHistory.{tally_of}
use Rattle.host.specs.State as HostIs
use Rattle.host.specs.declared.HostState.{HostState}
use Rattle.host.specs.declared.HostState.TheVariants as HostStates
use Rattle.host.specs.Event.{HostEvent}
use Rattle.host.specs.Event as HostEvents
use Rattle.claims.specs.HostCalls.{HostCall, HostAnswer, HostReply, HostPlace}
use Rattle.claims.specs.HostCalls as H
use Rattle.claims.specs.HostStream.{host_event_of}

-- ---- the guest's state
-- 01, receive: "All but 21, 20 and 23 leave Failed"
abbrev pub keeps_state : Refusal → Bool
keeps_state r = eqb r.number 20 || (eqb r.number 21 || eqb r.number 23)

-- 01, Guest: "An accepted RESET .. state Resetting"
abbrev pub after_event : GuestState → GuestEvent → GuestState
after_event st Event.Nothing = st
after_event st Event.Reset = State.Resetting
after_event st Event.Data = st

-- 01, Guest: "attach: Detached to Attaching"; "acknowledge .. state Active"
abbrev pub after_write : GuestState → Writing → GuestState
after_write st attach = State.Attaching
after_write st (acknowledge w) = State.Active
after_write st (send bytes) = st
after_write st (credit n) = st

-- 01, Guest: "disconnect leads to Closed; in Closed or Failed it succeeds and does nothing"; "19 .. leaves Failed"; of the calls that write:
-- "These change nothing."
unfoldable pub guest_state : GuestState → Call → Answer → GuestState
guest_state st (receive piece o lent) a = pick (passes (refusal_of a)) (after_event st (event_of a)) (pick (keeps_state (refusal_of a)) st State.Failed)
guest_state st (write w o at) a = pick (passes (refusal_of a)) (after_write st w) st
guest_state st disconnect a = pick (GuestIs.is_ended st) st (pick (passes (refusal_of a)) State.Closed State.Failed)
guest_state st (ask q) a = st

-- 01: "A fresh session is Detached"
abbrev pub state_after : List ℕ → List Call → GuestState
state_after s cs = history guest_state State.Detached (trace (fresh s) cs)

-- ---- the guest's identity and window
-- 01, Guest: "An accepted RESET ..: identity becomes its own"
abbrev pub named_by : Option Identity → GuestEvent → Identity → Option Identity
named_by i Event.Nothing new = i
named_by i Event.Reset new = Some new
named_by i Event.Data new = i

unfoldable pub identity_after : Option Identity → Call → Answer → Option Identity
identity_after i (receive piece o lent) a = named_by i (event_of a) (identity_in a)
identity_after i (write w o at) a = i
identity_after i disconnect a = i
identity_after i (ask q) a = i

abbrev pub identity_by : List ℕ → List Call → Option Identity
identity_by s cs = history identity_after None (trace (fresh s) cs)

-- 01, Shared checks: "A guest's `window` answers none unless Active"
abbrev pub window_in : GuestState → ℕ → WindowAnswer
window_in State.Detached w = record { refusal = none; present = false; window = 0 }
window_in State.Attaching w = record { refusal = none; present = false; window = 0 }
window_in State.Resetting w = record { refusal = none; present = false; window = 0 }
window_in State.Active w = record { refusal = none; present = true; window = w }
window_in State.Closed w = record { refusal = none; present = false; window = 0 }
window_in State.Failed w = record { refusal = none; present = false; window = 0 }

-- ---- what the guest's asks answer, after every list of calls, whatever stages are lent
abbrev pub StateTold : Type 0
StateTold = (s : List ℕ) (cs : List Call) → (step (after (fresh s) cs) (ask ask_state)).answer ≡ told (state (record { refusal = none; state = state_after s cs }))

abbrev pub IdentityTold : Type 0
IdentityTold =
    (s : List ℕ) (cs : List Call)
    → (step (after (fresh s) cs) (ask ask_identity)).answer ≡ told (identity (record { refusal = none; identity = identity_by s cs }))

abbrev pub WindowTold : Type 0
WindowTold = (s : List ℕ) (cs : List Call) → (step (after (fresh s) cs) (ask ask_window)).answer ≡ told (window (window_in (state_after s cs) (tally_of s cs).window))

-- ---- the guest's calls that change nothing
-- the states in which disconnect "succeeds and does nothing"
pub data Ended : GuestState → Type 0 where
  in_closed : Ended State.Closed
  in_failed : Ended State.Failed

-- 01: a receive refused with 21, 20 or 23, "nothing changed"; a refused call that writes, "These change nothing"; a disconnect "in Closed or
-- Failed", where it "does nothing"; "Calls that only ask, such as `window`, change nothing"
abbrev pub Idle : GuestState → Call → Answer → Type 0
Idle s (receive piece o lent) a = keeps_state (refusal_of a) ≡ true
Idle s (write w o at) a = passes (refusal_of a) ≡ false
Idle s disconnect a = Ended s
Idle s (ask q) a = Unit {0}

-- every later list of calls answers as if the call had not been made
abbrev pub RefusedChangesNothing : Type 0
RefusedChangesNothing =
    (s : List ℕ) (cs : List Call) (c : Call) → Idle (state_after s cs) c (step (after (fresh s) cs) c).answer
    → (ds : List Call) → answers (trace (step (after (fresh s) cs) c).after ds) ≡ answers (trace (after (fresh s) cs) ds)

-- ---- the host's state
-- 01, Host: "WAIT keeps Attaching, READY sets the identity (Attached), ERROR leads to Rejected, RESET to Reset"
abbrev pub after_host_event : HostState → HostEvent → HostState
after_host_event st HostEvents.Nothing = st
after_host_event st HostEvents.Wait = st
after_host_event st HostEvents.Attached = HostStates.Attached
after_host_event st HostEvents.Rejected = HostStates.Rejected
after_host_event st HostEvents.Data = st
after_host_event st HostEvents.Reset = HostStates.Reset

abbrev pub after_got : HostState → HostAnswer → HostState
after_got st a = pick (passes (H.refusal_of a)) (after_host_event st (host_event_of a)) (pick (keeps_state (H.refusal_of a)) st HostStates.Failed)

-- 01, Host: "disconnect acts in the first three states only; elsewhere it succeeds and does nothing"; "19 .. leaves Failed"
unfoldable pub host_state : HostState → HostCall → HostReply → HostState
host_state st (H.attach capability k output at) r = pick (passes (H.refusal_of r.answer)) HostStates.Attaching st
host_state st (H.receive piece) r = after_got st r.answer
host_state st (H.receive_short piece lent k) r = after_got st r.answer
host_state st (H.send bytes output at) r = st
host_state st H.disconnect r = pick (HostIs.is_begun st) (pick (passes (H.refusal_of r.answer)) HostStates.Closed HostStates.Failed) st
host_state st H.ask_state r = st
host_state st H.ask_identity r = st
host_state st H.ask_needed r = st

abbrev pub host_state_after : List ℕ → List HostCall → HostState
host_state_after s cs = H.host_history host_state HostStates.Detached (H.fresh_place s) cs

-- ---- the host's identity
-- 01, Host: "READY sets the identity (Attached) ..; Reset's identity is reported, not stored"
abbrev pub host_named_by : Option Identity → HostEvent → Identity → Option Identity
host_named_by i HostEvents.Nothing new = i
host_named_by i HostEvents.Wait new = i
host_named_by i HostEvents.Attached new = Some new
host_named_by i HostEvents.Rejected new = i
host_named_by i HostEvents.Data new = i
host_named_by i HostEvents.Reset new = i

-- the identity that an answer reports
abbrev pub host_identity_in : HostAnswer → Identity
host_identity_in (H.wrote r n next) = no_identity
host_identity_in (H.got r n event i place size) = i
host_identity_in (H.closed r) = no_identity
host_identity_in (H.told_state a) = no_identity
host_identity_in (H.told_identity a) = no_identity
host_identity_in (H.told_needed a) = no_identity

unfoldable pub host_identity_after : Option Identity → HostCall → HostReply → Option Identity
host_identity_after i c r = host_named_by i (host_event_of r.answer) (host_identity_in r.answer)

abbrev pub host_identity_by : List ℕ → List HostCall → Option Identity
host_identity_by s cs = H.host_history host_identity_after None (H.fresh_place s) cs

-- all replies, with all their bytes
unfoldable pub host_replies : HostPlace → List HostCall → List HostReply
host_replies p [] = []
host_replies p (c ∷ cs) = H.reply p c ∷ host_replies (H.next p c) cs

-- ---- what the host's asks answer
abbrev pub HostStateTold : Type 0
HostStateTold =
    (s : List ℕ) (cs : List HostCall)
    → (H.reply (H.after (H.fresh_place s) cs) H.ask_state).answer ≡ H.told_state (record { refusal = none; state = host_state_after s cs })

abbrev pub HostIdentityTold : Type 0
HostIdentityTold =
    (s : List ℕ) (cs : List HostCall)
    → (H.reply (H.after (H.fresh_place s) cs) H.ask_identity).answer ≡ H.told_identity (record { refusal = none; identity = host_identity_by s cs })

-- ---- the host's calls that change nothing
-- the states after the first three, in which disconnect "succeeds and does nothing"
pub data HostEnded : HostState → Type 0 where
  host_rejected : HostEnded HostStates.Rejected
  host_reset : HostEnded HostStates.Reset
  host_closed : HostEnded HostStates.Closed
  host_failed_lem : HostEnded HostStates.Failed

-- as the guest's; disconnect "elsewhere .. succeeds and does nothing"
abbrev pub HostIdle : HostState → HostCall → HostAnswer → Type 0
HostIdle s (H.attach capability k output at) a = passes (H.refusal_of a) ≡ false
HostIdle s (H.receive piece) a = keeps_state (H.refusal_of a) ≡ true
HostIdle s (H.receive_short piece lent k) a = keeps_state (H.refusal_of a) ≡ true
HostIdle s (H.send bytes output at) a = passes (H.refusal_of a) ≡ false
HostIdle s H.disconnect a = HostEnded s
HostIdle s H.ask_state a = Unit {0}
HostIdle s H.ask_identity a = Unit {0}
HostIdle s H.ask_needed a = Unit {0}

abbrev pub HostRefusedChangesNothing : Type 0
HostRefusedChangesNothing =
    (s : List ℕ) (cs : List HostCall) (c : HostCall) → HostIdle (host_state_after s cs) c (H.reply (H.after (H.fresh_place s) cs) c).answer
    → (ds : List HostCall) → host_replies (H.next (H.after (H.fresh_place s) cs) c) ds ≡ host_replies (H.after (H.fresh_place s) cs) ds

-- ---- the claims
pub record StateClaims : Type 0 where
  -- 01, Guest: "States Detached, Attaching, Resetting, Active, Closed, Failed. attach: Detached to Attaching. An accepted RESET .. state
  -- Resetting. acknowledge .. state Active. .. disconnect leads to Closed; in Closed or Failed it succeeds and does nothing."; receive: "All
  -- but 21, 20 and 23 leave Failed"; disconnect: "19 .. leaves Failed".
  -- Excludes a guest that is Closed after the third DATA, and one that a bad acknowledge window or a short output leaves Failed.
  pub guest_state_lem : StateTold
  -- 01, Guest: "An accepted RESET ..: identity becomes its own".
  -- Excludes a guest whose `identity` is always none, or is still that of the RESET before the last.
  pub guest_identity : IdentityTold
  -- 01, Shared checks: "A guest's `window` answers none unless Active"; Guest: acknowledge: "the window is set".
  -- Excludes a guest whose `window` is always none, and one that still shows it in Resetting, Closed or Failed.
  pub guest_window : WindowTold
  -- 01: "21; 20 wrong state .., nothing changed"; attach, acknowledge, send, credit: "These change nothing"; "Calls that only ask, such as
  -- `window`, change nothing"; disconnect "in Closed or Failed .. does nothing".
  -- Excludes a guest that counts refused calls, or whose ask or refused send changes what a later call answers.
  pub guest_idle : RefusedChangesNothing
  -- 01, Host: "States Detached, Attaching, Attached, Rejected, Reset, Closed, Failed. .. WAIT keeps Attaching, READY sets the identity
  -- (Attached), ERROR leads to Rejected, RESET to Reset; .. disconnect acts in the first three states only; elsewhere it succeeds and does
  -- nothing"; receive: "All but 21, 20 and 23 leave Failed"; disconnect: "19 .. leaves Failed".
  -- Excludes a host that WAIT makes Attached, one that is still Attached after RESET, and one that disconnect closes after ERROR.
  pub host_state_lem : HostStateTold
  -- 01, Host: "READY sets the identity (Attached) ..; Reset's identity is reported, not stored".
  -- Excludes a host whose `identity` is always none, and one that shows the identity of a RESET.
  pub host_identity : HostIdentityTold
  -- 01: "21; 20 wrong state .., nothing changed"; attach, send: "These change nothing"; "Calls that only ask .. change nothing"; disconnect
  -- "elsewhere .. does nothing".
  -- Excludes a host that counts refused calls, or whose ask or refused send changes what a later call answers.
  pub host_idle : HostRefusedChangesNothing
