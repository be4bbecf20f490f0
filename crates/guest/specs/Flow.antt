-- What the private functions of `receive` say of DATA that flows: pieces that are bytes of a header or of DATA that an Active session takes.
-- No rule of 01 is here: that the answer is the one of `receive_of` is what `Stepped` says.
use Rattle.std.specs.Prelude.{ℕ, ◌+◌, ◌^◌, ◌<◌, ◌≡◌, Bool, ◌&&◌, List, take, eqb, leb, ltb, Option, Some, None}
use Rattle.wire.specs.Refusals.{pick, first, passes}
use Rattle.wire.specs.Header.{type_of, length_of}
use Rattle.outer.specs.Outer.{max_payload}
use Rattle.record.specs.Record.{header_checks, record_of}
use Rattle.parser.specs.Push.{parser_of, clear, failed, push_body, body_stage}
use Rattle.parser.specs.Push as pushing
use Rattle.parser.specs.declared.Place.{Place}
use Rattle.parser.specs.declared.RecordParser.{RecordParser}
use Rattle.session.specs.Checks.{last_sequence}
use Rattle.guest_core.specs.State.{active_guest, with_state, data_guest}
use Rattle.guest_core.specs.declared.GuestSession.{GuestSession}
use Rattle.guest.specs.Checks.{data_rows}
use Rattle.guest.specs.Receive.{told, Received, reported, after_push, outcome}
use Rattle.guest.specs.declared.accept.GuestEvent.{GuestEvent}
use Rattle.guest.specs.declared.accept.GuestEvent.TheVariants as Told
use Rattle.guest.specs.declared.fast.Step.{Step}

-- an Active session that is sound, with no header held but one of DATA, and a whole stage
unfoldable pub flowing : GuestSession → ℕ → Bool
flowing g size = active_guest g && (clear g.parser && leb max_payload size)

-- a header of DATA that passes the header checks, and then 15, 12, 13, 16 and 17
unfoldable pub takes_data : GuestSession → List ℕ → Bool
takes_data g h = (eqb (type_of h) 5 && passes (header_checks h)) && passes (first (data_rows g (record_of h)))

-- what follows byte 44 of a header of which k payload bytes have come (01, "Parser")
abbrev pub after44 : List ℕ → ℕ → List ℕ → ℕ → List ℕ → pushing.Outcome
after44 h k rest from stage =
    pick (passes (header_checks h))
    (pushing.outcome (push_body h k (take k stage) rest from).answer (body_stage h k rest stage))
    (pushing.outcome (failed h (header_checks h)) stage)

-- so many bytes more leave the payload in progress unfinished
abbrev pub stays : RecordParser → ℕ → Bool
stays p n = eqb p.header_len 44 && ltb (p.payload_len + n) (length_of p.header)

-- ---- steps
abbrev pub waits_at : ℕ → ℕ → ℕ → Step
waits_at header_len payload_len consumed = record { header_len = header_len; payload_len = payload_len; received = record { consumed = consumed; event = None } }

abbrev pub hands_out : ℕ → ℕ → Place → Step
hands_out n consumed place = record { header_len = 0; payload_len = 0; received = record { consumed = consumed; event = Some (Told.Data place n) } }

-- the session after an event that left the parser p
abbrev pub session_after : Option GuestEvent → GuestSession → RecordParser → GuestSession
session_after None g p = with_state g g.state p
session_after (Some (Told.Reset i)) g p = with_state g g.state p
session_after (Some (Told.Data place n)) g p = data_guest g p n

-- what a receive answers whose step left the header h
abbrev pub stepped : Step → List ℕ → GuestSession → Received
stepped s h g = reported s.received.event s.received.consumed (session_after s.received.event g (parser_of h s.header_len s.payload_len None))

-- DATA that a step hands out has a sequence after it, and a sum with what is outstanding
abbrev pub Fits : Step → GuestSession → Type 0
Fits s g = (place : Place) (n : ℕ) → s.received.event ≡ Some (Told.Data place n) → (g.receive_sequence.0 < last_sequence) × (g.outstanding + n < 2 ^ 32)

-- a step did what the rule of the push asks, with what a receive makes of it; where there is none nothing was done
abbrev pub Stepped : Option Step → GuestSession → List ℕ → pushing.Outcome → List ℕ → List ℕ → Type 0
Stepped None g h u stage left = left ≡ stage
Stepped (Some s) g h u stage left = Fits s g × (outcome (stepped s h g) left ≡ outcome (after_push g (told u.pushed)).answer u.stage)
