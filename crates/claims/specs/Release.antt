-- The release note as a claim: "After a lead is reattached, the scorer shows no sample from before it." And beside it: what a guest
-- accepts, what a call hands out, and what it leaves in the output. The figures come from the calls, the answers and the records sent,
-- never from the session.
use Rattle.std.specs.Prelude.{ℕ, ◌+◌, ◌-◌, ◌^◌, ◌≤◌, ◌<◌, ◌≡◌, true, false, List, [], ◌∷◌, ◌++◌, map, length, take}
use Rattle.wire.specs.Bytes.{overlay, Octets}
use Rattle.wire.specs.Refusals.{none, passes}
use Rattle.wire.specs.Header.{instance_of, epoch_of, sequence_of}
use Rattle.outer.specs.Outer.{max_payload}
use Rattle.record.specs.Types.{code_of}
use Rattle.record.specs.declared.Record.{Record}
use Rattle.session.specs.Checks.{identity_of, identity_ok, no_identity}
use Rattle.session.specs.declared.Identity.{Identity}
use Rattle.guest_core.specs.State.{is_open}
use Rattle.guest_core.specs.declared.GuestState.{GuestState}
use Rattle.guest_core.specs.declared.GuestState.TheVariants as State
use Rattle.guest.specs.Event.{GuestEvent}
use Rattle.guest.specs.Event as Event
use Rattle.claims.specs.Reading.{encoded, encodings}
use Rattle.claims.specs.Sent.{Encodable, AllEncodable}
use Rattle.claims.specs.GuestCalls.{Lent, own, Writing, Call, receive, write, disconnect, ask, ask_state, Answer, received, sent, closed, told, state}
use Rattle.claims.specs.GuestCalls.{refusal_of, event_of, consumed_of, payload_of, Endpoint, rule_of, step, fresh}
use Rattle.claims.specs.GuestHistory.{after, trace, history, AllOwnOrShorter, Tally, Transcript, transcript_of, tally_of, handed_bytes}
use Rattle.claims.specs.GuestClaims.{Unfinished}

-- ---- what a guest reports
-- an event as the caller gets it: a Reset with its identity, or Data with the payload handed out
pub data Report : Type 0 where
  reset_event : Identity → Report
  data_event : (payload : List ℕ) → Report

abbrev pub reported : GuestEvent → Identity → List ℕ → List Report
reported Event.Nothing i payload = []
reported Event.Reset i payload = reset_event i ∷ []
reported Event.Data i payload = data_event payload ∷ []

-- the identity that an answer reports
abbrev pub identity_in : Answer → Identity
identity_in (received r n e i place size y) = i
identity_in (sent r n next bytes) = no_identity
identity_in (closed r) = no_identity
identity_in (told a) = no_identity

-- all the bytes taken by the receives and all the events reported, each in order
pub record Log : Type 0 where
  pub taken : List ℕ
  pub events : List Report

abbrev pub no_log : Log
no_log = record { taken = []; events = [] }

unfoldable pub log : Log → Call → Answer → Log
log l (receive piece o lent) a = record { taken = l.taken ++ take (consumed_of a) piece; events = l.events ++ reported (event_of a) (identity_in a) (payload_of a) }
log l (write w o at) a = l
log l disconnect a = l
log l (ask q) a = l

-- every call on a guest since it was fresh, with a stage of any contents: what it took and reported, and the payloads that it handed out
-- since its last Reset event, whatever events they came with
abbrev pub log_of : List ℕ → List Call → Log
log_of s cs = history log no_log (trace (fresh s) cs)

abbrev pub handed_since : List ℕ → List Call → List (List ℕ)
handed_since s cs = (transcript_of s cs).handed

-- ---- records and events
-- how far a stream has come, by its records alone: no RESET yet, or the identity of the last one and the sequence due
pub data Progress : Type 0 where
  no_reset : Progress
  in_epoch : Identity → (due : ℕ) → Progress

-- a RESET that is the first, of another instance than the last one, or with a higher epoch
abbrev pub Newer : Progress → Record → Type 0
Newer no_reset r = Unit {0}
Newer (in_epoch i due) r = r.instance_id ≡ i.instance_id → i.epoch.0 < r.epoch.0

-- what a record leads to and the event that it makes: a RESET (type 3) of an identity, newer than the last, a Reset with that identity; and
-- then DATA (5) of that identity, with the sequence due, Data with exactly its payload. No other record is accepted, and a sequence that
-- has no next is not.
pub data Leads : Progress → (Record × List ℕ) → Report → Progress → Type 0 where
  leads_reset : (p : Progress) (r : Record) (payload : List ℕ) → code_of r.record_type ≡ 3 → identity_ok r.instance_id r.epoch.0 ≡ true → Newer p r
      → r.sequence.0 < 2 ^ 64 - 1 → Leads p (r, payload) (reset_event (identity_of r)) (in_epoch (identity_of r) (r.sequence.0 + 1))
  leads_data : (i : Identity) (due : ℕ) (r : Record) (payload : List ℕ) → code_of r.record_type ≡ 5 → identity_of r ≡ i → r.sequence.0 ≡ due
      → due < 2 ^ 64 - 1 → Leads (in_epoch i due) (r, payload) (data_event payload) (in_epoch i (due + 1))

-- one event for each record, in order
pub data GuestRecords : Progress → List (Record × List ℕ) → List Report → Progress → Type 0 where
  no_events : {p : Progress} → GuestRecords p [] [] p
  next_event : {p q z : Progress} {x : Record × List ℕ} {e : Report} {xs : List (Record × List ℕ)} {es : List Report} → Leads p x e q → GuestRecords q xs es z
      → GuestRecords p (x ∷ xs) (e ∷ es) z

-- DATA of one identity, with the sequences n, n + 1 and so on
pub data AllData (i : Identity) : ℕ → List (Record × List ℕ) → Type 0 where
  no_data : {n : ℕ} → AllData i n []
  more_data : {n : ℕ} {x : Record × List ℕ} {xs : List (Record × List ℕ)} → code_of x.0.record_type ≡ 5 → identity_of x.0 ≡ i → x.0.sequence.0 ≡ n
      → AllData i (n + 1) xs → AllData i n (x ∷ xs)

-- the first list ends in a RESET, and the second is DATA of its identity, with its sequence plus 1, plus 2 and so on; or both are empty
pub data SinceReset : List (Record × List ℕ) → List (Record × List ℕ) → Type 0 where
  nothing_yet : SinceReset [] []
  since_reset : (xs : List (Record × List ℕ)) (r : Record) (payload : List ℕ) {since : List (Record × List ℕ)} → code_of r.record_type ≡ 3
      → AllData (identity_of r) (r.sequence.0 + 1) since → SinceReset (xs ++ ((r, payload) ∷ [])) since

abbrev pub payloads_of : List (Record × List ℕ) → List (List ℕ)
payloads_of = map (λ (x : Record × List ℕ). x.1)

-- ---- the stream
-- The records taken, all of which the encoder accepts, are those up to and including the last RESET that was reported (`before`), and the DATA
-- reported since, of that RESET's identity (`since`). One event was reported for each, in order. The payloads handed out since the last
-- Reset event (`handed`) are those of `since`, and none of `before`. The bytes taken are the encodings of these records and the bytes of
-- an unfinished one: no whole record is kept back.
pub record GuestTaken (l : Log) (handed : List (List ℕ)) : Type 0 where
  pub before : List (Record × List ℕ)
  pub since : List (Record × List ℕ)
  pub progress : Progress
  pub events : GuestRecords no_reset (before ++ since) l.events progress
  pub reset : SinceReset before since
  pub shown : handed ≡ payloads_of since
  pub encodable : AllEncodable (before ++ since)
  pub rest : List ℕ
  pub taken : l.taken ≡ encodings (before ++ since) ++ rest
  pub unfinished : Unfinished rest

-- whatever bytes came, in whatever pieces, with whatever calls between; also of a guest that has Failed, since a call that is refused
-- answers 0 bytes taken and hands out nothing
abbrev pub StreamFollowed : Type 0
StreamFollowed = (s : List ℕ) → max_payload ≤ length s → (cs : List Call) → AllOwnOrShorter cs → GuestTaken (log_of s cs) (handed_since s cs)

-- ---- the release note
-- These records were sent, and the guest has taken the first bytes of them: a receive takes the first bytes of its piece (`PiecesTaken`), and the
-- rest is offered again.
pub record Delivered (records : List (Record × List ℕ)) (s : List ℕ) (cs : List Call) : Type 0 where
  pub encodable : AllEncodable records
  pub room : max_payload ≤ length s
  pub lent : AllOwnOrShorter cs
  pub more : List ℕ
  pub joins : (log_of s cs).taken ++ more ≡ encodings records

-- the records sent are those taken, in two parts as above, and those not yet taken whole
pub record ShowsNothingOlder (records : List (Record × List ℕ)) (l : Log) (handed : List (List ℕ)) : Type 0 where
  pub seen : GuestTaken l handed
  pub later : List (Record × List ℕ)
  pub parts : records ≡ seen.before ++ (seen.since ++ later)

abbrev pub ReleaseNote : Type 0
ReleaseNote = (records : List (Record × List ℕ)) (s : List ℕ) (cs : List Call) → Delivered records s cs → ShowsNothingOlder records (log_of s cs) (handed_since s cs)

-- what was handed out are payloads of records that stand next to each other here, in order
pub record ShownAmong (records : List (Record × List ℕ)) (handed : List (List ℕ)) : Type 0 where
  pub earlier : List (Record × List ℕ)
  pub shown : List (Record × List ℕ)
  pub later : List (Record × List ℕ)
  pub parts : records ≡ earlier ++ (shown ++ later)
  pub payloads : handed ≡ payloads_of shown

-- The same of every RESET that was reported (it is the record after `old`, and more events were reported than `old` has records): what was
-- handed out since the last Reset event comes after it. So of two RESETs, nothing of the epoch between shows after the second.
abbrev pub NothingBefore : Type 0
NothingBefore =
    (old behind : List (Record × List ℕ)) (r : Record) (payload : List ℕ) (s : List ℕ) (cs : List Call) → Delivered (old ++ ((r, payload) ∷ behind)) s cs
    → code_of r.record_type ≡ 3 → length old < length (log_of s cs).events → ShownAmong behind (handed_since s cs)

-- ---- what is due is accepted
-- the ask `state` answers this
abbrev pub Tells : Endpoint → GuestState → Type 0
Tells e q = (step e (ask ask_state)).answer ≡ told (state (record { refusal = none; state = q }))

-- The bytes taken since the last RESET and those of a piece are together the encodings of the DATA handed out since, and then `bytes`. The
-- first of `bytes` may have been taken before.
abbrev pub Comes : Transcript → List ℕ → List ℕ → Type 0
Comes t piece bytes = t.taken ++ piece ≡ handed_bytes t.reset t.handed ++ bytes

-- DATA as it is due after a list of calls: of the last RESET's identity, with the next sequence, which is not the last, within the window
pub record IsDue (t : Transcript) (l : Tally) (r : Record) (payload : List ℕ) : Type 0 where
  pub type : code_of r.record_type ≡ 5
  pub instance : r.instance_id ≡ instance_of t.reset
  pub epoch : r.epoch.0 ≡ epoch_of t.reset
  pub sequence : r.sequence.0 ≡ sequence_of t.reset + 1 + length t.handed
  pub not_last : r.sequence.0 < 2 ^ 64 - 1
  pub window : l.accepted + length payload ≤ l.credited + l.window

-- a RESET of an identity, of another instance than the last RESET or with a higher epoch, whose sequence is not the last
pub record IsNewReset (t : Transcript) (r : Record) : Type 0 where
  pub type : code_of r.record_type ≡ 3
  pub identity : identity_ok r.instance_id r.epoch.0 ≡ true
  pub newer : r.instance_id ≡ instance_of t.reset → epoch_of t.reset < r.epoch.0
  pub not_last : r.sequence.0 < 2 ^ 64 - 1

-- an answer reports this identity, and took all of the piece but `more`, which stands at its end
pub record Reattaches (i : Identity) (piece more : List ℕ) (a : Answer) : Type 0 where
  pub refusal : refusal_of a ≡ none
  pub event : event_of a ≡ Event.Reset
  pub named : identity_in a ≡ i
  pub taken : consumed_of a + length more ≡ length piece

-- an answer hands out this payload, and took all of the piece but `more`
pub record HandsOut (payload piece more : List ℕ) (a : Answer) : Type 0 where
  pub refusal : refusal_of a ≡ none
  pub event : event_of a ≡ Event.Data
  pub handed : payload_of a ≡ payload
  pub taken : consumed_of a + length more ≡ length piece

-- an answer refuses nothing, reports nothing and took all of the piece
pub record GuestWaits (piece : List ℕ) (a : Answer) : Type 0 where
  pub refusal : refusal_of a ≡ none
  pub event : event_of a ≡ Event.Nothing
  pub taken : consumed_of a ≡ length piece

-- the piece has the last byte of the record, and may have `more` behind it
abbrev pub DueAccepted : Type 0
DueAccepted =
    (s : List ℕ) → max_payload ≤ length s → (cs : List Call) → AllOwnOrShorter cs → Tells (after (fresh s) cs) State.Active
    → (r : Record) (payload : List ℕ) → Encodable r payload → IsDue (transcript_of s cs) (tally_of s cs) r payload
    → (piece more : List ℕ) → Comes (transcript_of s cs) piece (encoded r payload ++ more)
    → (o : Octets piece) → HandsOut payload piece more (step (after (fresh s) cs) (receive piece o own)).answer

abbrev pub NewResetAccepted : Type 0
NewResetAccepted =
    (s : List ℕ) → max_payload ≤ length s → (cs : List Call) → AllOwnOrShorter cs
    → (q : GuestState) → is_open q ≡ true → Tells (after (fresh s) cs) q
    → (r : Record) → Encodable r [] → IsNewReset (transcript_of s cs) r
    → (piece more : List ℕ) → Comes (transcript_of s cs) piece (encoded r [] ++ more)
    → (o : Octets piece) → Reattaches (identity_of r) piece more (step (after (fresh s) cs) (receive piece o own)).answer

-- the piece ends within a record
abbrev pub UnfinishedAwaited : Type 0
UnfinishedAwaited =
    (s : List ℕ) → max_payload ≤ length s → (cs : List Call) → AllOwnOrShorter cs
    → (q : GuestState) → is_open q ≡ true → Tells (after (fresh s) cs) q
    → (piece part : List ℕ) → Unfinished part → Comes (transcript_of s cs) piece part
    → (o : Octets piece) → GuestWaits piece (step (after (fresh s) cs) (receive piece o own)).answer

-- the first bytes of a record that the encoder takes, without the last one, are those of an unfinished record
abbrev pub FrontsUnfinished : Type 0
FrontsUnfinished = (r : Record) (payload part rest : List ℕ) → Encodable r payload → part ++ rest ≡ encoded r payload → 1 ≤ length rest → Unfinished part

-- ---- pieces
-- a receive that is not refused and reports nothing took its whole piece; one that reports an event took some of it
pub record TakesItsPiece (piece : List ℕ) (a : Answer) : Type 0 where
  pub waiting : passes (refusal_of a) ≡ true → event_of a ≡ Event.Nothing → consumed_of a ≡ length piece
  pub reporting : (event_of a ≡ Event.Nothing → ⊥) → 1 ≤ consumed_of a
  pub within : consumed_of a ≤ length piece

-- whatever stages are lent
abbrev pub PiecesTaken : Type 0
PiecesTaken = (s : List ℕ) (cs : List Call) (piece : List ℕ) (o : Octets piece) (lent : Lent) → TakesItsPiece piece (step (after (fresh s) cs) (receive piece o lent)).answer

-- ---- payloads
-- an answer hands out bytes only with the event Data; where it refuses, it hands out nothing, reports nothing and answers 0 bytes taken
pub record OnlyDataHands (a : Answer) : Type 0 where
  pub other_event : (event_of a ≡ Event.Data → ⊥) → payload_of a ≡ []
  pub refused : passes (refusal_of a) ≡ false → payload_of a ≡ []
  pub no_event : passes (refusal_of a) ≡ false → event_of a ≡ Event.Nothing
  pub none_taken : passes (refusal_of a) ≡ false → consumed_of a ≡ 0

-- whatever stages are lent
abbrev pub PayloadsWithData : Type 0
PayloadsWithData = (s : List ℕ) (cs : List Call) (c : Call) → OnlyDataHands (step (after (fresh s) cs) c).answer

-- ---- outputs
-- the bytes written, and the output as a call that writes leaves it
abbrev pub written_of : Answer → List ℕ
written_of (received r n e i place size y) = []
written_of (sent r n next bytes) = bytes
written_of (closed r) = []
written_of (told a) = []

abbrev pub output_after : Endpoint → Writing → List ℕ → ℕ → List ℕ
output_after e w output at = (rule_of w e.session output at).output

-- the bytes written stand at the position, and all others as they were; a refused call writes nothing
pub record Leaves (output : List ℕ) (at : ℕ) (a : Answer) (left : List ℕ) : Type 0 where
  pub laid : passes (refusal_of a) ≡ true → left ≡ overlay output at (written_of a)
  pub refused : passes (refusal_of a) ≡ false → (left ≡ output) × (written_of a ≡ [])
  pub same_length : length left ≡ length output

abbrev pub OutputsKept : Type 0
OutputsKept =
    (s : List ℕ) (cs : List Call) (w : Writing) (output : List ℕ) (at : ℕ)
    → Leaves output at (step (after (fresh s) cs) (write w output at)).answer (output_after (after (fresh s) cs) w output at)

pub record ReleaseClaims : Type 0 where
  -- 01, Guest and Parser, over whole lists: what was taken, reported and handed out are the same records, in order, each as it is due
  pub followed : StreamFollowed
  -- the release note: "After a lead is reattached, the scorer shows no sample from before it"
  pub note : ReleaseNote
  -- the same of each RESET that was reported, the last or an earlier one
  pub nothing_before : NothingBefore
  -- 01, Parser: "A push takes bytes up to the end of one record and no further"; with `note`, rules out "'Not yet' while a whole record has
  -- arrived"
  pub pieces : PiecesTaken
  -- 01, What stops each operation: "An operation gives its numbers only under these conditions", of Guest next: "Data: 15 sequence .. 12
  -- instance .. 13 epoch .. 16; 17 length above window less outstanding": DATA with none of these is handed out. Rules out "A link that turns
  -- every record away", or only one that came in two pieces or with other bytes behind it.
  pub due : DueAccepted
  -- 01: "Reset: 11 no identity .. 14 same instance, epoch not above .. 16 no next sequence": a RESET with none of these is reported, in
  -- Attaching, Resetting and Active. Rules out a guest that reattaches no lead, or only where the RESET came whole and alone.
  pub reattached : NewResetAccepted
  -- 01, Parser: "Header checks run when byte 44 has come, not sooner"; "after the payload 8, 9, 7"; then "Guest next". Rules out a guest that
  -- refuses bytes before a record's last one has come, as the magic after four, or leaves some of them in the piece.
  pub waits : UnfinishedAwaited
  -- 01, Record: "44 header bytes .. Then the payload": wherever a record is cut, its first part is an unfinished record. With `waits`, rules out a guest
  -- that refuses a record because it came in two pieces.
  pub fronts : FrontsUnfinished
  -- 01, Demand 3: "the DATA handed out": no other answer hands any bytes out, and a refused one takes and reports nothing
  pub payloads : PayloadsWithData
  -- 01, Encoder: "Writes at a position of the lent output"; "The other bytes keep their contents."
  pub outputs : OutputsKept
