-- Lists of calls on a guest: where they lead, what is seen, and the figures of a history. A figure is a fold over what is seen, calls and
-- answers alone, and never reads the session.
use Rattle.std.specs.Prelude.{ℕ, ◌+◌, ◌-◌, ◌<◌, List, [], ◌∷◌, ◌++◌, length, take, drop}
use Rattle.wire.specs.Refusals.{pick, passes}
use Rattle.wire.specs.Header.{instance_of, epoch_of, sequence_of}
use Rattle.outer.specs.Outer.{max_payload}
use Rattle.record.specs.Record.{record_bytes}
use Rattle.guest.specs.Event.{GuestEvent}
use Rattle.guest.specs.Event as Event
use Rattle.claims.specs.GuestCalls.{own, other, Writing, attach, acknowledge, send, credit, Call, receive, write, disconnect, ask}
use Rattle.claims.specs.GuestCalls.{Answer, refusal_of, event_of, consumed_of, payload_of, Endpoint, step, fresh}

-- ---- lists of calls
-- each call gets the session and the stage that the last one left
unfoldable pub after : Endpoint → List Call → Endpoint
after e [] = e
after e (c ∷ cs) = after (step e c).after cs

-- what is seen of one call
pub record Seen : Type 0 where
  pub call : Call
  pub answer : Answer

unfoldable pub trace : Endpoint → List Call → List Seen
trace e [] = []
trace e (c ∷ cs) = record { call = c; answer = (step e c).answer } ∷ trace (step e c).after cs

unfoldable pub history : {A : Type 0} → (A → Call → Answer → A) → A → List Seen → A
history f a [] = a
history f a (x ∷ xs) = history f (f a x.call x.answer) xs

-- each receive is lent the session's own stage, or one that is shorter than 65,536 bytes
abbrev pub OwnOrShorter : Call → Type 0
OwnOrShorter (receive piece o own) = Unit {0}
OwnOrShorter (receive piece o (other stage)) = length stage < max_payload
OwnOrShorter (write w o at) = Unit {0}
OwnOrShorter disconnect = Unit {0}
OwnOrShorter (ask q) = Unit {0}

abbrev pub AllOwnOrShorter : List Call → Type 0
AllOwnOrShorter [] = Unit {0}
AllOwnOrShorter (c ∷ cs) = OwnOrShorter c × AllOwnOrShorter cs

-- ---- the sums
-- since the last Reset event, or from the start: the payload bytes handed out, the amounts of successful credit calls, and the window of
-- the successful acknowledge, or 0
pub record Tally : Type 0 where
  pub accepted : ℕ
  pub credited : ℕ
  pub window : ℕ

abbrev pub no_tally : Tally
no_tally = record { accepted = 0; credited = 0; window = 0 }

-- by the event that a receive reports, and by the call that writes
abbrev pub count_received : Tally → GuestEvent → List ℕ → Tally
count_received l Event.Nothing payload = l
count_received l Event.Reset payload = no_tally
count_received l Event.Data payload = record { accepted = l.accepted + length payload; credited = l.credited; window = l.window }

abbrev pub count_sent : Tally → Writing → Tally
count_sent l attach = l
count_sent l (acknowledge w) = record { accepted = l.accepted; credited = l.credited; window = w }
count_sent l (send bytes) = l
count_sent l (credit n) = record { accepted = l.accepted; credited = l.credited + n; window = l.window }

unfoldable pub count : Tally → Call → Answer → Tally
count l (receive piece o lent) a = count_received l (event_of a) (payload_of a)
count l (write w o at) a = pick (passes (refusal_of a)) (count_sent l w) l
count l disconnect a = l
count l (ask q) a = l

-- ---- the stream
-- the bytes taken since the last Reset event, or from the start; that RESET, which is the last 44 bytes taken when the event was
-- reported; and the payloads handed out since
pub record Transcript : Type 0 where
  pub taken : List ℕ
  pub reset : List ℕ
  pub handed : List (List ℕ)

abbrev pub no_transcript : Transcript
no_transcript = record { taken = []; reset = []; handed = [] }

abbrev pub last44 : List ℕ → List ℕ
last44 l = drop (length l - 44) l

-- by the event that a receive reports; t are the bytes that it took
abbrev pub transcribe_received : Transcript → GuestEvent → List ℕ → List ℕ → Transcript
transcribe_received l Event.Nothing t payload = record { taken = l.taken ++ t; reset = l.reset; handed = l.handed }
transcribe_received l Event.Reset t payload = record { taken = []; reset = last44 (l.taken ++ t); handed = [] }
transcribe_received l Event.Data t payload = record { taken = l.taken ++ t; reset = l.reset; handed = l.handed ++ (payload ∷ []) }

unfoldable pub transcribe : Transcript → Call → Answer → Transcript
transcribe l (receive piece o lent) a = transcribe_received l (event_of a) (take (consumed_of a) piece) (payload_of a)
transcribe l (write w o at) a = l
transcribe l disconnect a = l
transcribe l (ask q) a = l

-- the encodings of DATA with these payloads, with an identity and consecutive sequences from n on
unfoldable pub data_bytes : List ℕ → ℕ → ℕ → List (List ℕ) → List ℕ
data_bytes instance epoch n [] = []
data_bytes instance epoch n (d ∷ ds) = record_bytes 5 instance epoch n d ++ data_bytes instance epoch (n + 1) ds

-- with the RESET's identity and its sequence plus 1, plus 2 and so on
abbrev pub handed_bytes : List ℕ → List (List ℕ) → List ℕ
handed_bytes reset handed = data_bytes (instance_of reset) (epoch_of reset) (sequence_of reset + 1) handed

-- ---- every call on a guest since it was fresh, with a stage
abbrev pub tally_of : List ℕ → List Call → Tally
tally_of s cs = history count no_tally (trace (fresh s) cs)

abbrev pub transcript_of : List ℕ → List Call → Transcript
transcript_of s cs = history transcribe no_transcript (trace (fresh s) cs)
