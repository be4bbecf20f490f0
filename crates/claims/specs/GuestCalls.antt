-- A guest's calls as its caller makes them, and what the caller sees of each. A call runs the rule that the contract of the operation
-- states, so nothing is said here that the code does not do.
use Rattle.std.specs.Prelude.{ℕ, ◌-◌, List, [], take, drop}
use Rattle.wire.specs.Bytes.{Octets}
use Rattle.wire.specs.declared.Refusal.{Refusal}
use Rattle.parser.specs.Push.{payload_at}
use Rattle.parser.specs.declared.Place.{Place}
use Rattle.parser.specs.Push.{Count}
use Rattle.session.specs.declared.Identity.{Identity}
use Rattle.guest_core.specs.State.{fresh_guest}
use Rattle.guest.specs.Receive as Receive
use Rattle.guest_core.specs.Writes as Writes
use Rattle.guest_core.specs.Calls as Calls
use Rattle.guest_core.specs.Send as Sends
use Rattle.guest_core.specs.Asks as Asks
use Rattle.guest.specs.Event.{GuestEvent}
use Rattle.guest.specs.Event as Event
use Rattle.guest_core.specs.declared.GuestSession.{GuestSession}
use Rattle.guest.specs.Receive.{Received}
use Rattle.guest_core.specs.Calls.{Closed}
use Rattle.guest_core.specs.Asks.{StateAnswer}
use Rattle.guest_core.specs.Asks.{IdentityAnswer}
use Rattle.guest_core.specs.Asks.{WindowAnswer}
use Rattle.guest_core.specs.Asks.{OutstandingAnswer}

-- ---- calls
-- the stage that a receive is lent: the session's own, or another
pub data Lent : Type 0 where
  own : Lent
  other : (stage : List ℕ) → Lent

-- what a call that writes is given besides the output
pub data Writing : Type 0 where
  attach : Writing
  acknowledge : (window : ℕ) → Writing
  send : (bytes : List ℕ) → Writing
  credit : (amount : ℕ) → Writing

pub data Ask : Type 0 where
  ask_state ask_identity ask_window ask_outstanding ask_needed : Ask

-- The calls, with all that the caller passes. A piece is a list of bytes. Nothing else is asked of a value: what is claimed of every
-- list of calls holds in particular where a window or an amount is below 2^32.
pub data Call : Type 0 where
  receive : (piece : List ℕ) → Octets piece → Lent → Call
  write : Writing → (output : List ℕ) (at : ℕ) → Call
  disconnect : Call
  ask : Ask → Call

-- ---- answers
-- an ask's answer
pub data Told : Type 0 where
  state : StateAnswer → Told
  identity : IdentityAnswer → Told
  window : WindowAnswer → Told
  outstanding : OutstandingAnswer → Told
  needed : Count → Told

-- What the caller sees of a call: every field of the code's answer but the session; of a receive the payload that `payload` gives, and
-- of a call that writes the bytes of the output from the position given to the next one.
pub data Answer : Type 0 where
  received : Refusal → (consumed : ℕ) → GuestEvent → Identity → Place → (size : ℕ) → (payload : List ℕ) → Answer
  sent : Refusal → (count next : ℕ) → (written : List ℕ) → Answer
  closed : Refusal → Answer
  told : Told → Answer

abbrev pub told_refusal : Told → Refusal
told_refusal (state a) = a.refusal
told_refusal (identity a) = a.refusal
told_refusal (window a) = a.refusal
told_refusal (outstanding a) = a.refusal
told_refusal (needed a) = a.refusal

abbrev pub refusal_of : Answer → Refusal
refusal_of (received r n e i place size y) = r
refusal_of (sent r n next bytes) = r
refusal_of (closed r) = r
refusal_of (told a) = told_refusal a

-- the event that an answer reports, the bytes that it takes, and the payload that it hands out
abbrev pub event_of : Answer → GuestEvent
event_of (received r n e i place size y) = e
event_of (sent r n next bytes) = Event.Nothing
event_of (closed r) = Event.Nothing
event_of (told a) = Event.Nothing

abbrev pub consumed_of : Answer → ℕ
consumed_of (received r n e i place size y) = n
consumed_of (sent r n next bytes) = 0
consumed_of (closed r) = 0
consumed_of (told a) = 0

abbrev pub payload_of : Answer → List ℕ
payload_of (received r n e i place size y) = y
payload_of (sent r n next bytes) = []
payload_of (closed r) = []
payload_of (told a) = []

-- ---- one call
-- a session with its own stage
pub record Endpoint : Type 0 where
  pub session : GuestSession
  pub stage : List ℕ

abbrev pub endpoint : GuestSession → List ℕ → Endpoint
endpoint g s = record { session = g; stage = s }

-- what a call gives: the answer, and the session and stage that the next call gets
pub record Step : Type 0 where
  pub answer : Answer
  pub after : Endpoint

abbrev pub stage_of : Lent → List ℕ → List ℕ
stage_of own s = s
stage_of (other z) s = z

-- the session's own stage after a receive that leaves the stage lent as `left`
abbrev pub stage_left : Lent → List ℕ → List ℕ → List ℕ
stage_left own s left = left
stage_left (other z) s left = s

abbrev pub rule_of : Writing → GuestSession → List ℕ → ℕ → Writes.Outcome
rule_of attach g o at = Calls.attach g o at
rule_of (acknowledge w) g o at = Calls.acknowledge g w o at
rule_of (send bytes) g o at = Sends.send g bytes o at
rule_of (credit n) g o at = Sends.credit g n o at

abbrev pub tell : GuestSession → Ask → Told
tell g ask_state = state (Asks.state_of g)
tell g ask_identity = identity (Asks.identity_of g)
tell g ask_window = window (Asks.window_of g)
tell g ask_outstanding = outstanding (Asks.outstanding_of g)
tell g ask_needed = needed (Asks.needed_by g)

-- a receive's answer with a payload
abbrev pub received_as : Received → List ℕ → Answer
received_as r y = received r.refusal r.consumed r.event r.identity r.place r.length y

abbrev pub receive_step : Receive.Outcome → List ℕ → Lent → List ℕ → Step
receive_step r piece lent s =
    record {
      answer = received_as r.received (payload_at r.received.place r.received.length piece r.stage);
      after = endpoint r.received.session (stage_left lent s r.stage);
    }

abbrev pub write_step : Writes.Outcome → ℕ → List ℕ → Step
write_step r at s =
    record {
      answer = sent r.sent.refusal r.sent.count r.sent.next (take (r.sent.next - at) (drop at r.output));
      after = endpoint r.sent.session s;
    }

unfoldable pub step : Endpoint → Call → Step
step e (receive piece o lent) = receive_step (Receive.receive_of e.session piece (stage_of lent e.stage)) piece lent e.stage
step e (write w o at) = write_step (rule_of w e.session o at) at e.stage
step e disconnect =
    let r : Closed = Calls.disconnect e.session in
    record { answer = closed r.refusal; after = endpoint r.session e.stage }
step e (ask q) = record { answer = told (tell e.session q); after = e }

-- a fresh guest with a stage
abbrev pub fresh : List ℕ → Endpoint
fresh s = endpoint fresh_guest s
