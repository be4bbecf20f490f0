-- What a host must accept, over every list of calls. `HostStream` says that it reports no record but those that `Leads` names, in their
-- order; here, that it reports each of these that comes, in pieces of any size. The figures come from the calls and the replies, never
-- from the session.
use Rattle.std.specs.Prelude.{ℕ, ◌+◌, ◌-◌, ◌^◌, ◌≤◌, ◌<◌, ◌≡◌, true, List, [], ◌∷◌, ◌++◌, length}
use Rattle.wire.specs.Refusals.{none, passes}
use Rattle.outer.specs.Outer.{max_payload}
use Rattle.record.specs.declared.Record.{Record}
use Rattle.host.specs.State.{is_open}
use Rattle.host.specs.declared.HostState.{HostState}
use Rattle.host.specs.Event as Event
use Rattle.claims.specs.Reading.{encoded, encodings}
use Rattle.claims.specs.Sent.{Encodable, AllEncodable}
use Rattle.claims.specs.GuestClaims.{Unfinished}
use Rattle.claims.specs.HostCalls.{HostCall, receive, ask_state, HostAnswer, told_state, refusal_of, HostReply, HostPlace, reply, fresh_place, after}
use Rattle.claims.specs.HostStream.{HostReport, wait_event, attached_event, rejected_event, data_event, reset_event, HostLog, no_host_log, host_logged, host_log_of}
use Rattle.claims.specs.HostStream.{Phase, attaching, attached, ended, Leads, AllBytes, host_event_of, host_consumed_of}

-- ---- figures
-- how far the stream has come, by the events alone: an Attached names the identity, a Rejected or a Reset ends it
abbrev pub phase_after : Phase → HostReport → Phase
phase_after p wait_event = p
phase_after p (attached_event i) = attached i
phase_after p rejected_event = ended
phase_after p (data_event payload) = p
phase_after p (reset_event i) = ended

unfoldable pub phase_by : Phase → List HostReport → Phase
phase_by p [] = p
phase_by p (e ∷ es) = phase_by (phase_after p e) es

-- the ask `state` answers this
abbrev pub HostTells : HostPlace → HostState → Type 0
HostTells p q = (reply p ask_state).answer ≡ told_state (record { refusal = none; state = q })

-- The bytes taken and those of a piece are together the encodings of some records, one for each event reported, and then `bytes`. The
-- first of `bytes` may have been taken before.
pub record HostComes (l : HostLog) (piece bytes : List ℕ) : Type 0 where
  pub records : List (Record × List ℕ)
  pub encodable : AllEncodable records
  pub count : length records ≡ length l.events
  pub joins : l.taken ++ piece ≡ encodings records ++ bytes

-- ---- pieces
-- a receive that is not refused and reports nothing took its whole piece; one that reports an event took some of it
pub record HostTakesItsPiece (piece : List ℕ) (a : HostAnswer) : Type 0 where
  pub waiting : passes (refusal_of a) ≡ true → host_event_of a ≡ Event.Nothing → host_consumed_of a ≡ length piece
  pub reporting : (host_event_of a ≡ Event.Nothing → ⊥) → 1 ≤ host_consumed_of a
  pub within : host_consumed_of a ≤ length piece

-- whatever the stage
abbrev pub HostPiecesTaken : Type 0
HostPiecesTaken = (s : List ℕ) (cs : List HostCall) (piece : List ℕ) → HostTakesItsPiece piece (reply (after (fresh_place s) cs) (receive piece)).answer

-- ---- what is due is accepted
-- A record as it is due: `Leads` allows it after the events reported, and its sequence is their number, which is not the last. `Leads`: WAIT,
-- READY of an identity or ERROR before an Attached; then DATA of the identity that Attached named, or RESET of its instance with a higher
-- epoch.
pub record HostIsDue (l : HostLog) (r : Record) (payload : List ℕ) (e : HostReport) : Type 0 where
  pub next : Phase
  pub leads : Leads (phase_by attaching l.events) (r, payload) e next
  pub sequence : r.sequence.0 ≡ length l.events
  pub not_last : r.sequence.0 < 2 ^ 64 - 1

-- a reply reports this event and no other, with its identity or payload, and took all of the piece but `more`, which stands at its end
pub record HostReports (e : HostReport) (piece more : List ℕ) (r : HostReply) : Type 0 where
  pub refusal : refusal_of r.answer ≡ none
  pub event : (host_logged no_host_log piece r.answer r.payload).events ≡ e ∷ []
  pub taken : host_consumed_of r.answer + length more ≡ length piece

-- the piece has the last byte of the record, and may have `more` behind it
abbrev pub HostDueAccepted : Type 0
HostDueAccepted =
    (s : List ℕ) → max_payload ≤ length s → (cs : List HostCall) → AllBytes cs
    → (q : HostState) → is_open q ≡ true → HostTells (after (fresh_place s) cs) q
    → (r : Record) (payload : List ℕ) → Encodable r payload → (e : HostReport) → HostIsDue (host_log_of s cs) r payload e
    → (piece more : List ℕ) → HostComes (host_log_of s cs) piece (encoded r payload ++ more)
    → HostReports e piece more (reply (after (fresh_place s) cs) (receive piece))

-- ---- what is not finished is awaited
-- an answer refuses nothing, reports nothing and took all of the piece
pub record HostWaits (piece : List ℕ) (a : HostAnswer) : Type 0 where
  pub refusal : refusal_of a ≡ none
  pub event : host_event_of a ≡ Event.Nothing
  pub taken : host_consumed_of a ≡ length piece

-- the piece ends within a record
abbrev pub HostUnfinishedAwaited : Type 0
HostUnfinishedAwaited =
    (s : List ℕ) → max_payload ≤ length s → (cs : List HostCall) → AllBytes cs
    → (q : HostState) → is_open q ≡ true → HostTells (after (fresh_place s) cs) q
    → (piece part : List ℕ) → Unfinished part → HostComes (host_log_of s cs) piece part
    → HostWaits piece (reply (after (fresh_place s) cs) (receive piece)).answer

pub record HostAcceptClaims : Type 0 where
  -- 01, Parser: "A push takes bytes up to the end of one record and no further". Rules out a host that answers every receive with nothing
  -- taken and no event.
  pub pieces : HostPiecesTaken
  -- 01, What stops each operation: "An operation gives its numbers only under these conditions", of Host next: "10 type outside Wait, Ready,
  -- Error when Attaching, or Data, Reset when Attached; 15; 16; Ready 11; Data 12, 13; Reset 11, 12, 14": a record with none of these is
  -- reported. Rules out a host that turns every record away, or only one that came in two pieces or with other bytes behind it.
  pub due : HostDueAccepted
  -- 01, Parser: "Header checks run when byte 44 has come, not sooner"; "after the payload 8, 9, 7"; then "Host next". Rules out a host that
  -- refuses bytes before a record's last one has come, or leaves some of them in the piece; with `fronts` of `ReleaseClaims`, one that
  -- refuses a record because it came in two pieces.
  pub waits : HostUnfinishedAwaited
