-- What is claimed of every list of calls on a guest, refused calls and asks included (01, "Demand 3 is a single claim about whole
-- lists"): the words that the claims need, then the claims. `Demand3` gathers them.
use Rattle.std.specs.Prelude.{ℕ, ◌+◌, ◌^◌, ◌≤◌, ◌<◌, ◌≡◌, true, false, List, [], ◌∷◌, ◌++◌, map, length}
use Rattle.wire.specs.Bytes.{Octets}
use Rattle.wire.specs.Refusals.{refusal, none, passes}
use Rattle.wire.specs.Header.{type_of, sequence_of, length_of}
use Rattle.outer.specs.Outer.{max_payload}
use Rattle.record.specs.Record.{header_checks}
use Rattle.parser.specs.Push.{buffered_of}
use Rattle.guest_core.specs.State.{is_failed, sound_guest}
use Rattle.guest_core.specs.Asks.{outstanding_of}
use Rattle.guest.specs.Event as Event
use Rattle.guest_core.specs.declared.GuestSession.{GuestSession}
use Rattle.guest_core.specs.Asks.{OutstandingAnswer}
use Rattle.claims.specs.GuestCalls.{own, other, Writing, Ask, Call, receive, write, disconnect, ask, Answer, refusal_of, event_of, Endpoint, step, fresh}
use Rattle.claims.specs.GuestHistory.{after, Seen, trace, history, AllOwnOrShorter, Tally, no_tally, count, Transcript, no_transcript, transcribe, handed_bytes}

-- ---- the sums
-- the figures of a history, and what the ask `outstanding` answers at its end
pub record Sums (l : Tally) (a : OutstandingAnswer) : Type 0 where
  pub answered : a.refusal ≡ none
  pub balance : l.accepted ≡ l.credited + a.outstanding
  pub bounded : a.outstanding ≤ l.window

-- ---- the stream
-- the 44 bytes of a RESET
pub record IsReset (h : List ℕ) : Type 0 where
  pub size : length h ≡ 44
  pub checked : passes (header_checks h) ≡ true
  pub type : type_of h ≡ 3

-- no RESET yet and nothing handed out, or a RESET
pub data Start (reset : List ℕ) (handed : List (List ℕ)) : Type 0 where
  nothing_yet : reset ≡ [] → handed ≡ [] → Start reset handed
  since : IsReset reset → Start reset handed

-- the bytes of an unfinished record: fewer than 44, or a header that passes the header checks and fewer payload bytes than its length
pub data Unfinished : List ℕ → Type 0 where
  in_header : (b : List ℕ) → length b < 44 → Unfinished b
  in_payload : (h y : List ℕ) → length h ≡ 44 → passes (header_checks h) ≡ true → length y < length_of h → Unfinished (h ++ y)

-- the bytes taken since the last RESET are the encodings of the DATA handed out since, then `buffered` bytes of an unfinished record; no
-- sequence of these passes 2^64
pub record TakenExactly (l : Transcript) (g : GuestSession) : Type 0 where
  pub start : Start l.reset l.handed
  pub within : sequence_of l.reset + length l.handed < 2 ^ 64
  pub rest : List ℕ
  pub joins : l.taken ≡ handed_bytes l.reset l.handed ++ rest
  pub buffered : length rest ≡ buffered_of g.parser
  pub unfinished : Unfinished rest

-- ---- two guests
-- a list from a fresh guest, with a stage of any contents, whose last call reports the Reset event
pub record ResetRun : Type 0 where
  pub stage : List ℕ
  pub calls : List Call
  pub last : Call
  pub room : length stage ≡ max_payload
  pub lent : AllOwnOrShorter (calls ++ (last ∷ []))
  pub reports : event_of (step (after (fresh stage) calls) last).answer ≡ Event.Reset

-- where it leads, and the RESET's 44 bytes
abbrev pub reached : ResetRun → Endpoint
reached r = after (fresh r.stage) (r.calls ++ (r.last ∷ []))

abbrev pub reset_bytes : ResetRun → List ℕ
reset_bytes r = (history transcribe no_transcript (trace (fresh r.stage) (r.calls ++ (r.last ∷ [])))).reset

-- calls made alike: the same piece, data, window, amount and position; outputs of equal length, and stages that are lent in the place of
-- the session's own, which are too short, of equal length. The contents of these may differ.
pub data Alike : Call → Call → Type 0 where
  receive_own : (piece : List ℕ) (o o' : Octets piece) → Alike (receive piece o own) (receive piece o' own)
  receive_short_lem : (piece : List ℕ) (o o' : Octets piece) (z z' : List ℕ) → length z < max_payload → length z ≡ length z'
      → Alike (receive piece o (other z)) (receive piece o' (other z'))
  write_alike : (w : Writing) (output output' : List ℕ) (at : ℕ) → length output ≡ length output' → Alike (write w output at) (write w output' at)
  disconnect_alike : Alike disconnect disconnect
  ask_alike : (q : Ask) → Alike (ask q) (ask q)

pub data AllAlike : List Call → List Call → Type 0 where
  none_alike : AllAlike [] []
  more_alike : {c d : Call} {cs ds : List Call} → Alike c d → AllAlike cs ds → AllAlike (c ∷ cs) (d ∷ ds)

-- what the caller gets of each call: the answer with all its fields, the payload and the bytes written
abbrev pub answers : List Seen → List Answer
answers = map (λ (x : Seen). x.answer)

-- ---- the claims
-- accepted = credited + outstanding and outstanding ≤ window, whatever stages are lent
abbrev pub SumsHold : Type 0
SumsHold = (s : List ℕ) (cs : List Call) → Sums (history count no_tally (trace (fresh s) cs)) (outstanding_of (after (fresh s) cs).session)

-- a guest that has not Failed has taken whole records, handed them out, and holds an unfinished one
abbrev pub StreamExact : Type 0
StreamExact =
    (s : List ℕ) (cs : List Call) → length s ≡ max_payload → AllOwnOrShorter cs → is_failed (after (fresh s) cs).session.state ≡ false
    → TakenExactly (history transcribe no_transcript (trace (fresh s) cs)) (after (fresh s) cs).session

-- two guests after the same RESET answer alike, whatever their pasts and the contents of their stages
abbrev pub GuestsAgree : Type 0
GuestsAgree =
    (r r' : ResetRun) → reset_bytes r ≡ reset_bytes r' → (ds ds' : List Call) → AllAlike ds ds'
    → answers (trace (reached r) ds) ≡ answers (trace (reached r') ds')

-- every session reached is sound, so that no call gets 23; whatever stages are lent
abbrev pub AlwaysSound : Type 0
AlwaysSound =
    (s : List ℕ) (cs : List Call)
    → (sound_guest (after (fresh s) cs).session ≡ true) × ((c : Call) → (refusal_of (step (after (fresh s) cs) c).answer).number ≡ 23 → ⊥)

-- a receive that is lent a shorter stage gets 21
abbrev pub ShorterRefused : Type 0
ShorterRefused =
    (s : List ℕ) (cs : List Call) (piece : List ℕ) (o : Octets piece) (z : List ℕ) → length z < max_payload
    → refusal_of (step (after (fresh s) cs) (receive piece o (other z))).answer ≡ refusal 21 0 0 0
