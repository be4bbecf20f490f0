-- The rules of a host's calls that write and of disconnect (01, "Host" and "What stops each operation").
use Rattle.std.specs.Prelude.{ℕ, ◌+◌, min, Bool, List, [], ◌∷◌, length, take, replicate, eqb, leb, Result, Ok, Err}
use Rattle.wire.specs.Bytes.{overlay}
use Rattle.wire.specs.Refusals.{pick, refusal, none, refusal_of, verdict, first, passes}
use Rattle.outer.specs.Outer.{max_payload, room_row}
use Rattle.wire.specs.declared.Refusal.{Refusal}
use Rattle.wire.specs.declared.errors.Error.{Error}
use Rattle.record.specs.Record.{record_bytes}
use Rattle.parser.specs.Push.{buffered_of}
use Rattle.session.specs.Checks.{held, next_row}
use Rattle.session.specs.Writes.{identity_bytes, not_encoded, encode_data}
use Rattle.session.specs.Writes as writing
use Rattle.session.specs.declared.After.{After}
use Rattle.session.specs.declared.Sent as code
use Rattle.host.specs.State.{is_detached, is_attached, is_begun, sound_host, with_state, sent_host}
use Rattle.host.specs.declared.HostState.TheVariants as State
use Rattle.host.specs.declared.HostSession.{HostSession}

-- 23 unsound
abbrev pub sound_row : HostSession → (Bool × Refusal)
sound_row h = (sound_host h, refusal 23 0 0 0)

-- ---- calls that write
-- what a call that writes answers: what is refused, the bytes of data taken by `send`, else 0, the position after the record and the
-- session after the call
pub record Sent : Type 0 where
  pub refusal : Refusal
  pub count : ℕ
  pub next : ℕ
  pub session : HostSession

-- with the output as it leaves it
pub record Outcome : Type 0 where
  pub sent : Sent
  pub output : List ℕ

abbrev pub outcome : Sent → List ℕ → Outcome
outcome r o = record { sent = r; output = o }

abbrev pub not_sent : Refusal → HostSession → Sent
not_sent r h = record { refusal = r; count = 0; next = 0; session = h }

abbrev pub sent_record : ℕ → ℕ → HostSession → Sent
sent_record count next h = record { refusal = none; count = count; next = next; session = h }

abbrev pub sent_by : Result code.Sent Error → HostSession → Sent
sent_by (Ok s) h = sent_record s.count s.next h
sent_by (Err e) h = not_sent (refusal_of e) h

abbrev pub sent : After HostSession code.Sent → Sent
sent a = sent_by a.answer a.session

-- where nothing is refused the record's bytes stand at the position; else nothing changes
unfoldable pub writes : Refusal → HostSession → HostSession → ℕ → List ℕ → List ℕ → ℕ → Outcome
writes r h after count bytes o at =
    pick (passes r)
    (outcome (sent_record count (at + length bytes) after) (overlay o at bytes))
    (outcome (not_sent r h) o)

-- attach: 20 not Detached; 22. It writes the 32 capability bytes
abbrev pub attach_rows : HostSession → List ℕ → ℕ → List (Bool × Refusal)
attach_rows h o at = sound_row h ∷ (is_detached h.state, refusal 20 0 0 0) ∷ room_row o at 76 ∷ []

unfoldable pub attach : HostSession → List ℕ → List ℕ → ℕ → Outcome
attach h capability o at =
    writes (first (attach_rows h o at)) h (with_state h State.Attaching h.parser) 0 (record_bytes 2 (replicate 16 0) 0 0 capability) o at

-- send: 20 not Attached; 16 (a 5); 5 for empty data; 22. It takes at most the first 65,536 bytes
abbrev pub send_count : List ℕ → ℕ
send_count bytes = min (length bytes) max_payload

abbrev pub send_rows : HostSession → List ℕ → List ℕ → ℕ → List (Bool × Refusal)
send_rows h bytes o at =
    sound_row h ∷
    (is_attached h.state, refusal 20 0 0 0) ∷
    next_row 5 h.send_sequence.0 ∷
    (leb 1 (length bytes), refusal 5 5 0 0) ∷
    room_row o at (44 + send_count bytes) ∷
    []

unfoldable pub send : HostSession → List ℕ → List ℕ → ℕ → Outcome
send h bytes o at =
    writes (first (send_rows h bytes o at)) h (sent_host h) (send_count bytes)
    (identity_bytes 5 (held h.identity) h.send_sequence.0 (take (send_count bytes) bytes)) o at

-- what a send encodes: 23, 20, then the encoder of the next record
unfoldable pub encoding : HostSession → List ℕ → List ℕ → ℕ → writing.Outcome
encoding h bytes o at =
    let r : Refusal = first (sound_row h ∷ (is_attached h.state, refusal 20 0 0 0) ∷ []) in
    pick (passes r)
    (encode_data (held h.identity) h.send_sequence.0 bytes o at)
    (writing.outcome (not_encoded r h.send_sequence.0) o)

-- ---- disconnect
-- what `disconnect` answers: what is refused, and the session after it
pub record Closed : Type 0 where
  pub refusal : Refusal
  pub session : HostSession

abbrev pub closed : After HostSession (Unit {0}) → Closed
closed a = record { refusal = verdict a.answer; session = a.session }

-- n bytes buffered: 19 (a count) leaves Failed, or with none it leads to Closed
abbrev pub ended : HostSession → ℕ → Closed
ended h n =
    pick (eqb n 0)
    (record { refusal = none; session = with_state h State.Closed h.parser })
    (record { refusal = refusal 19 n 0 0; session = with_state h State.Failed h.parser })

-- it acts in the first three states; elsewhere it succeeds and does nothing
unfoldable pub disconnect : HostSession → Closed
disconnect h =
    pick (sound_host h)
    (pick (is_begun h.state) (ended h (buffered_of h.parser)) (record { refusal = none; session = h }))
    (record { refusal = refusal 23 0 0 0; session = h })
