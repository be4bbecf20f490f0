-- What the calls that write do write, after every list of calls: the record's bytes, how many bytes a send took, and the next position. The
-- figures come from calls and answers, never from the session. Gathered in `WrittenClaims`.
use Rattle.std.specs.Prelude.{ℕ, ◌+◌, min, ◌≡◌, true, false, List, [], length, take, replicate}
use Rattle.wire.specs.Bytes.{to_le}
use Rattle.wire.specs.Refusals.{pick, none, passes}
use Rattle.wire.specs.Header.{instance_of, epoch_of}
use Rattle.wire.specs.declared.Refusal.{Refusal}
use Rattle.record.specs.Record.{record_bytes}
use Rattle.session.specs.Checks.{no_identity}
use Rattle.session.specs.declared.Identity.{Identity}
use Rattle.guest.specs.Event.{GuestEvent}
use Rattle.guest.specs.Event as Event
use Rattle.host.specs.Event.{HostEvent}
use Rattle.host.specs.Event as HostEvents
use Rattle.claims.specs.GuestCalls.{Writing, attach, acknowledge, send, credit, Call, receive, write, disconnect, ask, Answer, received, sent, closed, told, refusal_of, event_of, step, fresh}
use Rattle.claims.specs.GuestHistory.{transcript_of, after, trace, history, AllOwnOrShorter}
use Rattle.claims.specs.HostCalls as Host
use Rattle.claims.specs.HostCalls.{HostCall, HostAnswer, HostReply}

-- ---- what a call that writes answers
-- as the caller sees it, of a guest or of a host
pub record Answered : Type 0 where
  pub refusal : Refusal
  pub count : ℕ
  pub next : ℕ
  pub written : List ℕ

abbrev pub answered : Refusal → ℕ → ℕ → List ℕ → Answered
answered r count next written = record { refusal = r; count = count; next = next; written = written }

-- `bytes` are the record's, at the position `at`; `took` is how many bytes of data it takes
pub record Writes (at took : ℕ) (bytes : List ℕ) (a : Answered) : Type 0 where
  -- 01, Encoder: "Writes at a position of the lent output"; excludes a call that writes zeros, nothing, or any other bytes
  pub written : passes a.refusal ≡ true → a.written ≡ bytes
  -- 01, Encoder: "and returns the next position"; excludes a call that answers another position than that behind its record
  pub next : passes a.refusal ≡ true → a.next ≡ at + length a.written
  -- 01, Guest: "send takes at most the first 65,536 bytes, returns how many"; excludes a count of other bytes than those taken
  pub counted : passes a.refusal ≡ true → a.count ≡ took
  -- what does not apply is zero; excludes a refused call that writes, or answers a position or a count
  pub refused : passes a.refusal ≡ false → (a.count ≡ 0) × ((a.next ≡ 0) × (a.written ≡ []))

-- 01, Guest: "send takes at most the first 65,536 bytes, returns how many."
abbrev pub send_takes : List ℕ → ℕ
send_takes bytes = min (length bytes) 65536

-- ---- a guest's figures
-- an answer of a call that writes; no such call gives another
abbrev pub guest_answered : Answer → Answered
guest_answered (received r n e i place size y) = answered none 0 0 []
guest_answered (sent r n next bytes) = answered r n next bytes
guest_answered (closed r) = answered none 0 0 []
guest_answered (told a) = answered none 0 0 []

-- How many records were sent since the last Reset event, or from the start: of acknowledge, send and credit, where not refused. 01, Guest:
-- an accepted RESET makes "send sequence .. 0"; "acknowledge writes ACK with sequence 0; send sequence becomes 1".
abbrev pub records_since : ℕ → GuestEvent → ℕ
records_since k Event.Nothing = k
records_since k Event.Reset = 0
records_since k Event.Data = k

abbrev pub with_record : ℕ → Writing → ℕ
with_record k attach = k
with_record k (acknowledge w) = k + 1
with_record k (send bytes) = k + 1
with_record k (credit n) = k + 1

unfoldable pub count_records : ℕ → Call → Answer → ℕ
count_records k (receive piece o lent) a = records_since k (event_of a)
count_records k (write w o at) a = pick (passes (refusal_of a)) (with_record k w) k
count_records k disconnect a = k
count_records k (ask q) a = k

-- after calls on a fresh guest with a stage: that figure, and the instance and the epoch of the last RESET reported
abbrev pub records_sent : List ℕ → List Call → ℕ
records_sent s cs = history count_records 0 (trace (fresh s) cs)

abbrev pub last_instance : List ℕ → List Call → List ℕ
last_instance s cs = instance_of (transcript_of s cs).reset

abbrev pub last_epoch : List ℕ → List Call → ℕ
last_epoch s cs = epoch_of (transcript_of s cs).reset

-- what a call that writes then answers
abbrev pub guest_answers : List ℕ → List Call → Writing → List ℕ → ℕ → Answered
guest_answers s cs w output at = guest_answered (step (after (fresh s) cs) (write w output at)).answer

-- ---- a host's figures
abbrev pub host_answered : HostAnswer → List ℕ → Answered
host_answered (Host.wrote r n next) written = answered r n next written
host_answered (Host.got r n e i place size) written = answered none 0 0 []
host_answered (Host.closed r) written = answered none 0 0 []
host_answered (Host.told_state a) written = answered none 0 0 []
host_answered (Host.told_identity a) written = answered none 0 0 []
host_answered (Host.told_needed a) written = answered none 0 0 []

-- the identity of the Attached event reported, and how many sends were not refused. 01, Host: "READY sets the identity (Attached)"; "send
-- sequences from 0".
pub record HostFigures : Type 0 where
  pub identity : Identity
  pub sends : ℕ

abbrev pub no_host_figures : HostFigures
no_host_figures = record { identity = no_identity; sends = 0 }

abbrev pub attached_by : HostFigures → HostEvent → Identity → HostFigures
attached_by l HostEvents.Nothing i = l
attached_by l HostEvents.Wait i = l
attached_by l HostEvents.Attached i = record { identity = i; sends = l.sends }
attached_by l HostEvents.Rejected i = l
attached_by l HostEvents.Data i = l
attached_by l HostEvents.Reset i = l

abbrev pub host_got : HostFigures → HostAnswer → HostFigures
host_got l (Host.wrote r n next) = l
host_got l (Host.got r n e i place size) = attached_by l e i
host_got l (Host.closed r) = l
host_got l (Host.told_state a) = l
host_got l (Host.told_identity a) = l
host_got l (Host.told_needed a) = l

unfoldable pub host_count : HostFigures → HostCall → HostReply → HostFigures
host_count l (Host.attach capability k output at) r = l
host_count l (Host.receive piece) r = host_got l r.answer
host_count l (Host.receive_short piece lent k) r = host_got l r.answer
host_count l (Host.send bytes output at) r = pick (passes (Host.refusal_of r.answer)) (record { identity = l.identity; sends = l.sends + 1 }) l
host_count l Host.disconnect r = l
host_count l Host.ask_state r = l
host_count l Host.ask_identity r = l
host_count l Host.ask_needed r = l

-- after calls on a fresh host with a stage: these figures, and what a call then answers
abbrev pub figures_of : List ℕ → List HostCall → HostFigures
figures_of s cs = Host.host_history host_count no_host_figures (Host.fresh_place s) cs

abbrev pub host_answers : List ℕ → List HostCall → HostCall → Answered
host_answers s cs c = let r : HostReply = Host.reply (Host.after (Host.fresh_place s) cs) c in host_answered r.answer r.written

-- ---- the claims, after every list of calls from a fresh session, refused calls and asks included, with a stage of any contents
abbrev pub AttachWrites : Type 0
AttachWrites = (s : List ℕ) (cs : List Call) (output : List ℕ) (at : ℕ) → Writes at 0 (record_bytes 1 (replicate 16 0) 0 0 []) (guest_answers s cs attach output at)

abbrev pub AcknowledgeWrites : Type 0
AcknowledgeWrites =
    (s : List ℕ) (cs : List Call) → AllOwnOrShorter cs → (window : ℕ) (output : List ℕ) (at : ℕ)
    → Writes at 0 (record_bytes 4 (last_instance s cs) (last_epoch s cs) 0 (to_le 4 window)) (guest_answers s cs (acknowledge window) output at)

abbrev pub SendWrites : Type 0
SendWrites =
    (s : List ℕ) (cs : List Call) → AllOwnOrShorter cs → (bytes output : List ℕ) (at : ℕ)
    → Writes at (send_takes bytes) (record_bytes 5 (last_instance s cs) (last_epoch s cs) (records_sent s cs) (take 65536 bytes)) (guest_answers s cs (send bytes) output at)

abbrev pub CreditWrites : Type 0
CreditWrites =
    (s : List ℕ) (cs : List Call) → AllOwnOrShorter cs → (amount : ℕ) (output : List ℕ) (at : ℕ)
    → Writes at 0 (record_bytes 9 (last_instance s cs) (last_epoch s cs) (records_sent s cs) (to_le 4 amount)) (guest_answers s cs (credit amount) output at)

abbrev pub HostAttachWrites : Type 0
HostAttachWrites =
    (s : List ℕ) (cs : List HostCall) (capability : List ℕ) (l : length capability ≡ 32) (output : List ℕ) (at : ℕ)
    → Writes at 0 (record_bytes 2 (replicate 16 0) 0 0 capability) (host_answers s cs (Host.attach capability l output at))

abbrev pub HostSendWrites : Type 0
HostSendWrites =
    (s : List ℕ) (cs : List HostCall) (bytes output : List ℕ) (at : ℕ)
    → Writes at (send_takes bytes) (record_bytes 5 (figures_of s cs).identity.instance_id (figures_of s cs).identity.epoch.0 (figures_of s cs).sends (take 65536 bytes))
    (host_answers s cs (Host.send bytes output at))

pub record WrittenClaims : Type 0 where
  -- 01, Record: "1 GuestAttach 0"; "Types 1 and 2 carry an all-zero instance, epoch 0 and sequence 0": excludes an attach that writes any other
  -- record, or none
  pub attach : AttachWrites
  -- 01, Guest: "acknowledge writes ACK with sequence 0"; of a RESET: "identity becomes its own"; Record: "An Ack value (the window)": excludes
  -- an ACK of another window, of another identity than the last RESET's, or with another sequence
  pub acknowledge : AcknowledgeWrites
  -- 01, Guest: "send takes at most the first 65,536 bytes, returns how many"; "send sequence becomes 1": excludes DATA of other bytes, of
  -- another identity, with a sequence left out or given twice, or with a count of other bytes than those taken
  pub send : SendWrites
  -- 01, Record: "9 Credit 4": excludes a CREDIT of another amount, identity or sequence
  pub credit : CreditWrites
  -- 01, Host: "attach writes the 32 capability bytes": excludes an attach that writes another capability
  pub host_attach : HostAttachWrites
  -- 01, Host: "send sequences from 0"; "READY sets the identity (Attached)": excludes DATA of another identity than READY's, of other bytes,
  -- or with a sequence left out or given twice
  pub host_send : HostSendWrites
