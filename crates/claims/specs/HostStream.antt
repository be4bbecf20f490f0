-- The stream of a host, over every list of calls: which records it took, in which order, and what it reported of each. The figures come
-- from the calls and the replies, never from the session.
use Rattle.std.specs.Prelude.{ℕ, ◌+◌, ◌^◌, ◌≤◌, ◌<◌, ◌≡◌, true, false, List, [], ◌∷◌, ◌++◌, length, take}
use Rattle.wire.specs.Bytes.{overlay, Octets}
use Rattle.wire.specs.Refusals.{passes}
use Rattle.record.specs.Types.{code_of}
use Rattle.record.specs.declared.Record.{Record}
use Rattle.outer.specs.Outer.{max_payload}
use Rattle.session.specs.Checks.{identity_of, identity_ok}
use Rattle.session.specs.declared.Identity.{Identity}
use Rattle.host.specs.Calls as Calls
use Rattle.host.specs.Event.{HostEvent}
use Rattle.host.specs.Event as Event
use Rattle.claims.specs.Reading.{encodings}
use Rattle.claims.specs.Sent.{AllEncodable, FirstOf}
use Rattle.claims.specs.GuestClaims.{Unfinished}
use Rattle.claims.specs.HostCalls.{HostCall, attach, receive, receive_short, send, disconnect, ask_state, ask_identity, ask_needed}
use Rattle.claims.specs.HostCalls.{HostAnswer, wrote, got, closed, told_state, told_identity, told_needed, refusal_of, HostReply, reply, host_history, fresh_place, after}

-- ---- what a host reports
pub data HostReport : Type 0 where
  wait_event : HostReport
  attached_event : Identity → HostReport
  rejected_event : HostReport
  data_event : (payload : List ℕ) → HostReport
  reset_event : Identity → HostReport

abbrev pub host_reported : HostEvent → Identity → List ℕ → List HostReport
host_reported Event.Nothing i payload = []
host_reported Event.Wait i payload = wait_event ∷ []
host_reported Event.Attached i payload = attached_event i ∷ []
host_reported Event.Rejected i payload = rejected_event ∷ []
host_reported Event.Data i payload = data_event payload ∷ []
host_reported Event.Reset i payload = reset_event i ∷ []

-- all the bytes taken by the receives and all the events reported, each in order
pub record HostLog : Type 0 where
  pub taken : List ℕ
  pub events : List HostReport

abbrev pub no_host_log : HostLog
no_host_log = record { taken = []; events = [] }

abbrev pub host_logged : HostLog → List ℕ → HostAnswer → List ℕ → HostLog
host_logged l piece (wrote r count next) payload = l
host_logged l piece (got r n e i place size) payload = record { taken = l.taken ++ take n piece; events = l.events ++ host_reported e i payload }
host_logged l piece (closed r) payload = l
host_logged l piece (told_state a) payload = l
host_logged l piece (told_identity a) payload = l
host_logged l piece (told_needed a) payload = l

unfoldable pub host_log : HostLog → HostCall → HostReply → HostLog
host_log l (attach capability k output at) r = l
host_log l (receive piece) r = host_logged l piece r.answer r.payload
host_log l (receive_short piece lent k) r = host_logged l piece r.answer r.payload
host_log l (send bytes output at) r = l
host_log l disconnect r = l
host_log l ask_state r = l
host_log l ask_identity r = l
host_log l ask_needed r = l

-- every call on a host since it was fresh, with a stage of any contents: what it took and reported
abbrev pub host_log_of : List ℕ → List HostCall → HostLog
host_log_of s cs = host_history host_log no_host_log (fresh_place s) cs

-- ---- records and events
-- how far a host's stream has come, by its records alone
pub data Phase : Type 0 where
  attaching : Phase
  attached : Identity → Phase
  ended : Phase

-- what a record leads to and the event that it makes: WAIT (6) keeps attaching, READY (7) names an identity and ERROR (8) ends; then DATA
-- (5) of that identity, with exactly its payload, until RESET (3) of that instance with a higher epoch ends
pub data Leads : Phase → (Record × List ℕ) → HostReport → Phase → Type 0 where
  leads_wait : (r : Record) (payload : List ℕ) → code_of r.record_type ≡ 6 → Leads attaching (r, payload) wait_event attaching
  leads_ready : (r : Record) (payload : List ℕ) → code_of r.record_type ≡ 7 → identity_ok r.instance_id r.epoch.0 ≡ true → Leads attaching (r, payload) (attached_event (identity_of r)) (attached (identity_of r))
  leads_error : (r : Record) (payload : List ℕ) → code_of r.record_type ≡ 8 → Leads attaching (r, payload) rejected_event ended
  leads_data : (r : Record) (payload : List ℕ) (i : Identity) → code_of r.record_type ≡ 5 → identity_of r ≡ i
      → Leads (attached i) (r, payload) (data_event payload) (attached i)
  leads_reset : (r : Record) (payload : List ℕ) (i : Identity) → code_of r.record_type ≡ 3 → r.instance_id ≡ i.instance_id → i.epoch.0 < r.epoch.0
      → Leads (attached i) (r, payload) (reset_event (identity_of r)) ended

-- records with the sequences n, n + 1 and so on, one event for each, from one phase to another
pub data HostRecords : ℕ → Phase → List (Record × List ℕ) → List HostReport → Phase → Type 0 where
  no_records : {n : ℕ} {p : Phase} → HostRecords n p [] [] p
  next_record : {n : ℕ} {p q z : Phase} {x : Record × List ℕ} {e : HostReport} {xs : List (Record × List ℕ)} {es : List HostReport}
      → Leads p x e q → x.0.sequence.0 ≡ n → HostRecords (n + 1) q xs es z → HostRecords n p (x ∷ xs) (e ∷ es) z

-- ---- the claim
-- The bytes taken are exactly the encodings of the records reported, all of which the encoder accepts, with the sequences 0, 1, 2 and so
-- on, then the bytes of an unfinished record; none once ERROR or RESET has ended it. Whatever records were sent, those reported are the
-- first of them.
pub record HostTaken (l : HostLog) : Type 0 where
  pub records : List (Record × List ℕ)
  pub phase : Phase
  pub events : HostRecords 0 attaching records l.events phase
  pub within : length records < 2 ^ 64
  pub encodable : AllEncodable records
  pub rest : List ℕ
  pub taken : l.taken ≡ encodings records ++ rest
  pub unfinished : Unfinished rest
  pub at_end : phase ≡ ended → rest ≡ []
  pub sent_first : (sent : List (Record × List ℕ)) (more : List ℕ) → AllEncodable sent → l.taken ++ more ≡ encodings sent → FirstOf records sent

-- the pieces are bytes
abbrev pub PieceBytes : HostCall → Type 0
PieceBytes (attach capability l output at) = Unit {0}
PieceBytes (receive piece) = Octets piece
PieceBytes (receive_short piece lent l) = Octets piece
PieceBytes (send bytes output at) = Unit {0}
PieceBytes disconnect = Unit {0}
PieceBytes ask_state = Unit {0}
PieceBytes ask_identity = Unit {0}
PieceBytes ask_needed = Unit {0}

abbrev pub AllBytes : List HostCall → Type 0
AllBytes [] = Unit {0}
AllBytes (c ∷ cs) = PieceBytes c × AllBytes cs

-- ---- payloads and outputs
-- the event that an answer reports, and the bytes that it took
abbrev pub host_event_of : HostAnswer → HostEvent
host_event_of (wrote r count next) = Event.Nothing
host_event_of (got r n e i place size) = e
host_event_of (closed r) = Event.Nothing
host_event_of (told_state a) = Event.Nothing
host_event_of (told_identity a) = Event.Nothing
host_event_of (told_needed a) = Event.Nothing

abbrev pub host_consumed_of : HostAnswer → ℕ
host_consumed_of (wrote r count next) = 0
host_consumed_of (got r n e i place size) = n
host_consumed_of (closed r) = 0
host_consumed_of (told_state a) = 0
host_consumed_of (told_identity a) = 0
host_consumed_of (told_needed a) = 0

-- a reply hands out bytes only with the event Data; where it refuses, it hands out nothing, reports nothing and answers 0 bytes taken
pub record HostOnlyDataHands (r : HostReply) : Type 0 where
  pub other_event : (host_event_of r.answer ≡ Event.Data → ⊥) → r.payload ≡ []
  pub refused : passes (refusal_of r.answer) ≡ false → r.payload ≡ []
  pub no_event : passes (refusal_of r.answer) ≡ false → host_event_of r.answer ≡ Event.Nothing
  pub none_taken : passes (refusal_of r.answer) ≡ false → host_consumed_of r.answer ≡ 0

abbrev pub HostPayloadsWithData : Type 0
HostPayloadsWithData = (s : List ℕ) (cs : List HostCall) (c : HostCall) → HostOnlyDataHands (reply (after (fresh_place s) cs) c)

-- the bytes written stand at the position, and all others as they were; a refused call writes nothing
pub record HostLeaves (output : List ℕ) (at : ℕ) (r : HostReply) (left : List ℕ) : Type 0 where
  pub laid : passes (refusal_of r.answer) ≡ true → left ≡ overlay output at r.written
  pub refused : passes (refusal_of r.answer) ≡ false → (left ≡ output) × (r.written ≡ [])
  pub same_length : length left ≡ length output

pub record HostOutputsKept : Type 0 where
  pub attach : (s : List ℕ) (cs : List HostCall) (capability : List ℕ) (l : length capability ≡ 32) (output : List ℕ) (at : ℕ)
      → HostLeaves output at (reply (after (fresh_place s) cs) (attach capability l output at)) (Calls.attach (after (fresh_place s) cs).host capability output at).output
  pub send : (s : List ℕ) (cs : List HostCall) (bytes output : List ℕ) (at : ℕ)
      → HostLeaves output at (reply (after (fresh_place s) cs) (send bytes output at)) (Calls.send (after (fresh_place s) cs).host bytes output at).output

-- ---- the claims
-- every list of calls from a fresh host, refused calls and asks included, with a stage of any contents; also of a host that has Failed
abbrev pub HostStreamExact : Type 0
HostStreamExact = (s : List ℕ) (cs : List HostCall) → max_payload ≤ length s → AllBytes cs → HostTaken (host_log_of s cs)

pub record HostStreamClaims : Type 0 where
  -- 01, Host: "Received sequences run from 0 over every record"; the records in the order that it names: WAIT, READY or ERROR, DATA, RESET
  pub stream : HostStreamExact
  -- no event but Data hands any bytes out, and a refused receive takes and reports nothing
  pub payloads : HostPayloadsWithData
  -- 01, Encoder: "Writes at a position of the lent output"; "The other bytes keep their contents."
  pub outputs : HostOutputsKept
