-- The rule of a host's receive (01, "receive"). What it answers depends on the stage only by its length and by `held`, the payload bytes
-- that have come; what it leaves in the stage is a rule of its own, `receive_stage`.
use Rattle.std.specs.Prelude.{ℕ, Bool, List, [], ◌∷◌, length, leb, Option, Some, None, Result, Ok, Err}
use Rattle.wire.specs.Refusals.{pick, refusal, none, refusal_of, first, passes}
use Rattle.outer.specs.Outer.{max_payload}
use Rattle.wire.specs.declared.Refusal.{Refusal}
use Rattle.wire.specs.declared.errors.Error.{Error}
use Rattle.record.specs.declared.types.RecordType.{RecordType}
use Rattle.record.specs.declared.types.RecordType.TheVariants as Kind
use Rattle.record.specs.declared.Record.{Record}
use Rattle.parser.specs.Push.{Pushed, Push, push, push_stage, held_in}
use Rattle.parser.specs.declared.Place.{Place}
use Rattle.parser.specs.declared.Place.TheVariants.{Piece}
use Rattle.parser.specs.declared.RecordParser.{RecordParser}
use Rattle.session.specs.Checks.{no_identity, identity_of}
use Rattle.session.specs.declared.Identity.{Identity}
use Rattle.session.specs.declared.After.{After}
use Rattle.session.specs.declared.Received as code
use Rattle.host.specs.State.{is_open, sound_host, with_state, next_host}
use Rattle.host.specs.declared.HostState.{HostState}
use Rattle.host.specs.declared.HostState.TheVariants as State
use Rattle.host.specs.Checks.{record_rows}
use Rattle.host.specs.Event.{HostEvent}
use Rattle.host.specs.Event as Event
use Rattle.host.specs.declared.accept.HostEvent as code-event
use Rattle.host.specs.declared.accept.HostEvent.TheVariants as Told
use Rattle.host.specs.declared.HostSession.{HostSession}

-- ---- the answers
-- what a receive answers: what is refused, the bytes taken, the event with what it reports, and the session after it
pub record Received : Type 0 where
  pub refusal : Refusal
  pub consumed : ℕ
  pub event : HostEvent
  pub identity : Identity
  pub place : Place
  pub length : ℕ
  pub session : HostSession

-- what a receive does: its answer, the payload bytes held afterwards, and the payload handed out ([] where there is none)
pub record Receive : Type 0 where
  pub answer : Received
  pub held : List ℕ
  pub payload : List ℕ

-- a push by its answer alone: what the answer of a receive is made of
abbrev pub told : Pushed → Push
told a = record { answer = a; held = []; payload = [] }

abbrev pub answered : Refusal → ℕ → HostEvent → Identity → Place → ℕ → HostSession → Received
answered r consumed event i place n h =
    record { refusal = r; consumed = consumed; event = event; identity = i; place = place; length = n; session = h }

abbrev pub refused : Refusal → HostSession → Received
refused r h = answered r 0 Event.Nothing no_identity (Piece 0) 0 h

-- ---- the answers of the code
-- an event with what it reports: the identity of READY and RESET, or where the bytes of data lie
abbrev pub reported : Option code-event.HostEvent → ℕ → HostSession → Received
reported None consumed h = answered none consumed Event.Nothing no_identity (Piece 0) 0 h
reported (Some Told.Wait) consumed h = answered none consumed Event.Wait no_identity (Piece 0) 0 h
reported (Some (Told.Attached i)) consumed h = answered none consumed Event.Attached i (Piece 0) 0 h
reported (Some Told.Rejected) consumed h = answered none consumed Event.Rejected no_identity (Piece 0) 0 h
reported (Some (Told.Data place n)) consumed h = answered none consumed Event.Data no_identity place n h
reported (Some (Told.Reset i)) consumed h = answered none consumed Event.Reset i (Piece 0) 0 h

abbrev pub received_by : Result (code.Received code-event.HostEvent) Error → HostSession → Received
received_by (Ok r) h = reported r.event r.consumed h
received_by (Err e) h = refused (refusal_of e) h

abbrev pub received : After HostSession (code.Received code-event.HostEvent) → Received
received a = received_by a.answer a.session

-- a whole record with the bytes taken: the session after it and the event, or an error that leaves Failed with the parser as push left it
abbrev pub accepted : HostSession → RecordParser → ℕ → Result (HostSession × code-event.HostEvent) Error → Received
accepted h p consumed (Ok a) = reported (Some a.1) consumed a.0
accepted h p consumed (Err e) = refused (refusal_of e) (with_state h State.Failed p)

-- ---- the rule
-- Failed, other fields unchanged, the parser as push left it
abbrev pub fail_with : HostSession → Push → Refusal → Receive
fail_with h u r = record { answer = refused r (with_state h State.Failed u.answer.parser); held = u.held; payload = [] }

-- an event with no payload
abbrev pub reports : HostSession → Push → HostEvent → Identity → HostState → Option Identity → Receive
reports h u event i s o =
    record { answer = answered none u.answer.consumed event i (Piece 0) 0 (next_host h s u.answer.parser o); held = u.held; payload = [] }

-- WAIT keeps Attaching, READY sets the identity (Attached), ERROR leads to Rejected, RESET to Reset; Reset's identity is reported, not stored.
-- No other type is allowed
unfoldable pub effect : RecordType → HostSession → Push → Receive
effect Kind.GuestAttach h u = fail_with h u (refusal 10 1 0 0)
effect Kind.HostAttach h u = fail_with h u (refusal 10 2 0 0)
effect Kind.Reset h u = reports h u Event.Reset (identity_of u.answer.«record») State.Reset h.identity
effect Kind.Ack h u = fail_with h u (refusal 10 4 0 0)
effect Kind.Data h u =
    record {
      answer = answered none u.answer.consumed Event.Data no_identity u.answer.place u.answer.«record».length (next_host h h.state u.answer.parser h.identity);
      held = u.held;
      payload = u.payload;
    }
effect Kind.Wait h u = reports h u Event.Wait no_identity h.state h.identity
effect Kind.Ready h u = reports h u Event.Attached (identity_of u.answer.«record») State.Attached (Some (identity_of u.answer.«record»))
effect Kind.Error h u = reports h u Event.Rejected no_identity State.Rejected h.identity
effect Kind.Credit h u = fail_with h u (refusal 10 9 0 0)

-- a whole record
unfoldable pub accept : HostSession → Push → Receive
accept h u =
    let r : Record = u.answer.«record» in
    pick (passes (first (record_rows h r))) (effect r.record_type h u) (fail_with h u (first (record_rows h r)))

-- after the push: its refusal, no record yet, or a whole record
unfoldable pub after_push : HostSession → Push → Receive
after_push h u =
    pick (passes u.answer.refusal)
    (pick u.answer.complete
    (accept h u)
    (record { answer = answered none u.answer.consumed Event.Nothing no_identity (Piece 0) 0 (with_state h h.state u.answer.parser); held = u.held; payload = [] }))
    (fail_with h u u.answer.refusal)

-- 23, 21, 20: nothing changed
abbrev pub receive_rows : HostSession → ℕ → List (Bool × Refusal)
receive_rows h size =
    (sound_host h, refusal 23 0 0 0) ∷
    (leb max_payload size, refusal 21 0 0 0) ∷
    (is_open h.state, refusal 20 0 0 0) ∷
    []

-- size is the length of the stage
unfoldable pub receive : HostSession → ℕ → List ℕ → List ℕ → Receive
receive h size held piece =
    pick (passes (first (receive_rows h size)))
    (after_push h (push h.parser size held piece))
    (record { answer = refused (first (receive_rows h size)) h; held = held; payload = [] })

unfoldable pub receive_stage : HostSession → List ℕ → List ℕ → List ℕ
receive_stage h piece stage = pick (passes (first (receive_rows h (length stage)))) (push_stage h.parser piece stage) stage

-- what a receive answers, with the stage as it leaves it
pub record Outcome : Type 0 where
  pub received : Received
  pub stage : List ℕ

abbrev pub outcome : Received → List ℕ → Outcome
outcome r s = record { received = r; stage = s }

unfoldable pub receive_of : HostSession → List ℕ → List ℕ → Outcome
receive_of h piece stage = outcome (receive h (length stage) (held_in h.parser stage) piece).answer (receive_stage h piece stage)
