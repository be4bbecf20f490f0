-- The rule of a guest's receive (01, "receive"). What it answers depends on the stage only by its length and by `held`, the payload bytes
-- that have come; what it leaves in the stage is a rule of its own, `receive_stage`.
use Rattle.std.specs.Prelude.{ℕ, Bool, ◌&&◌, ◌||◌, List, [], ◌∷◌, length, eqb, leb, Option, Some, None, Result, Ok, Err}
use Rattle.wire.specs.Refusals.{pick, refusal, none, refusal_of, first, passes}
use Rattle.outer.specs.Outer.{max_payload}
use Rattle.wire.specs.declared.Refusal.{Refusal}
use Rattle.wire.specs.declared.errors.Error.{Error}
use Rattle.record.specs.Types.{code_of}
use Rattle.record.specs.declared.Record.{Record}
use Rattle.parser.specs.Push.{Pushed, Push, push, push_stage, held_in}
use Rattle.parser.specs.declared.Place.{Place}
use Rattle.parser.specs.declared.Place.TheVariants.{Piece}
use Rattle.parser.specs.declared.RecordParser.{RecordParser}
use Rattle.session.specs.Checks.{no_identity, identity_of}
use Rattle.session.specs.declared.Identity.{Identity}
use Rattle.session.specs.declared.After.{After}
use Rattle.session.specs.declared.Received as code
use Rattle.guest_core.specs.State.{is_open, is_active, sound_guest, with_state, reset_guest, data_guest}
use Rattle.guest_core.specs.declared.GuestState.{GuestState}
use Rattle.guest_core.specs.declared.GuestState.TheVariants as State
use Rattle.guest.specs.Event.{GuestEvent}
use Rattle.guest.specs.Event as Event
use Rattle.guest.specs.declared.accept.GuestEvent as code-event
use Rattle.guest.specs.declared.accept.GuestEvent.TheVariants as Told
use Rattle.guest_core.specs.declared.GuestSession.{GuestSession}
use Rattle.guest.specs.Checks.{reset_rows, data_rows}

-- ---- a whole record
-- 10 type neither Reset nor, when Active, Data (a type)
abbrev pub type_row : GuestState → ℕ → (Bool × Refusal)
type_row s t = (eqb t 3 || (is_active s && eqb t 5), refusal 10 t 0 0)

abbrev pub is_reset : Record → Bool
is_reset r = eqb (code_of r.record_type) 3

-- ---- the answers
-- what a receive answers: what is refused, the bytes taken, the event with what it reports, and the session after it
pub record Received : Type 0 where
  pub refusal : Refusal
  pub consumed : ℕ
  pub event : GuestEvent
  pub identity : Identity
  pub place : Place
  pub length : ℕ
  pub session : GuestSession

-- what a receive does: its answer, the payload bytes held afterwards, and the payload handed out ([] where there is none)
pub record Receive : Type 0 where
  pub answer : Received
  pub held : List ℕ
  pub payload : List ℕ

abbrev pub answered : Refusal → ℕ → GuestEvent → Identity → Place → ℕ → GuestSession → Received
answered r consumed event i place n g =
    record { refusal = r; consumed = consumed; event = event; identity = i; place = place; length = n; session = g }

abbrev pub refused : Refusal → GuestSession → Received
refused r g = answered r 0 Event.Nothing no_identity (Piece 0) 0 g

-- Failed, other fields unchanged, the parser as push left it
abbrev pub fail_with : GuestSession → Push → Refusal → Receive
fail_with g u r = record { answer = refused r (with_state g State.Failed u.answer.parser); held = u.held; payload = [] }

-- ---- the answers of the code
-- an event with what it reports: the identity of a reset, or where the bytes of data lie
abbrev pub reported : Option code-event.GuestEvent → ℕ → GuestSession → Received
reported None consumed g = answered none consumed Event.Nothing no_identity (Piece 0) 0 g
reported (Some (Told.Reset i)) consumed g = answered none consumed Event.Reset i (Piece 0) 0 g
reported (Some (Told.Data place n)) consumed g = answered none consumed Event.Data no_identity place n g

abbrev pub received_by : Result (code.Received code-event.GuestEvent) Error → GuestSession → Received
received_by (Ok r) g = reported r.event r.consumed g
received_by (Err e) g = refused (refusal_of e) g

abbrev pub received : After GuestSession (code.Received code-event.GuestEvent) → Received
received a = received_by a.answer a.session

-- a whole record with the bytes taken: the session after it and the event, or an error that leaves Failed with the parser as push left it
abbrev pub accepted : GuestSession → RecordParser → ℕ → Result (GuestSession × code-event.GuestEvent) Error → Received
accepted g p consumed (Ok a) = reported (Some a.1) consumed a.0
accepted g p consumed (Err e) = refused (refusal_of e) (with_state g State.Failed p)

-- ---- the rule
-- a push by its answer alone: what the answer of a receive is made of
abbrev pub told : Pushed → Push
told a = record { answer = a; held = []; payload = [] }

unfoldable pub accept_reset : GuestSession → Push → Receive
accept_reset g u =
    let r : Record = u.answer.«record» in
    let v : Refusal = first (reset_rows g.identity r) in
    pick (passes v)
    (record { answer = answered none u.answer.consumed Event.Reset (identity_of r) (Piece 0) 0 (reset_guest u.answer.parser r); held = u.held; payload = [] })
    (fail_with g u v)

unfoldable pub accept_data : GuestSession → Push → Receive
accept_data g u =
    let r : Record = u.answer.«record» in
    let v : Refusal = first (data_rows g r) in
    pick (passes v)
    (record {
      answer = answered none u.answer.consumed Event.Data no_identity u.answer.place r.length (data_guest g u.answer.parser r.length);
      held = u.held;
      payload = u.payload;
    })
    (fail_with g u v)

-- a whole record: 10, then by its type
unfoldable pub accept : GuestSession → Push → Receive
accept g u =
    let r : Record = u.answer.«record» in
    let v : Refusal = first (type_row g.state (code_of r.record_type) ∷ []) in
    pick (passes v) (pick (is_reset r) (accept_reset g u) (accept_data g u)) (fail_with g u v)

-- after the push: its refusal, no record yet, or a whole record
unfoldable pub after_push : GuestSession → Push → Receive
after_push g u =
    pick (passes u.answer.refusal)
    (pick u.answer.complete
    (accept g u)
    (record { answer = answered none u.answer.consumed Event.Nothing no_identity (Piece 0) 0 (with_state g g.state u.answer.parser); held = u.held; payload = [] }))
    (fail_with g u u.answer.refusal)

-- 23, 21, 20: nothing changed
abbrev pub receive_rows : GuestSession → ℕ → List (Bool × Refusal)
receive_rows g size =
    (sound_guest g, refusal 23 0 0 0) ∷
    (leb max_payload size, refusal 21 0 0 0) ∷
    (is_open g.state, refusal 20 0 0 0) ∷
    []

-- size is the length of the stage
unfoldable pub receive : GuestSession → ℕ → List ℕ → List ℕ → Receive
receive g size held piece =
    pick (passes (first (receive_rows g size)))
    (after_push g (push g.parser size held piece))
    (record { answer = refused (first (receive_rows g size)) g; held = held; payload = [] })

unfoldable pub receive_stage : GuestSession → List ℕ → List ℕ → List ℕ
receive_stage g piece stage = pick (passes (first (receive_rows g (length stage)))) (push_stage g.parser piece stage) stage

-- what a receive answers, with the stage as it leaves it
pub record Outcome : Type 0 where
  pub received : Received
  pub stage : List ℕ

abbrev pub outcome : Received → List ℕ → Outcome
outcome r s = record { received = r; stage = s }

unfoldable pub receive_of : GuestSession → List ℕ → List ℕ → Outcome
receive_of g piece stage = outcome (receive g (length stage) (held_in g.parser stage) piece).answer (receive_stage g piece stage)
