-- The worked examples M1 to M10 of 01, of the rules themselves: sessions and records that they speak of, then the examples, gathered in
-- `MarkedExamples`. A receive is given the length of its stage and the payload bytes held, so that no stage is written out.
use Rattle.std.specs.Prelude.{ℕ, ◌+◌, ◌-◌, ◌^◌, ◌≤◌, ◌≡◌, List, [], ◌∷◌, ◌++◌, length, replicate, Some}
use Rattle.wire.specs.Bytes.{to_le}
use Rattle.wire.specs.Refusals.{refusal, none, passes}
use Rattle.wire.specs.Header.{header_bytes}
use Rattle.outer.specs.Outer as Outer
use Rattle.wire.specs.declared.Refusal.{Refusal}
use Rattle.record.specs.Record.{record_bytes, encode_record}
use Rattle.parser.specs.Push.{Push, push, fresh, needed_of, counted}
use Rattle.parser.specs.declared.RecordParser.{RecordParser}
use Rattle.session.specs.Checks.{identity}
use Rattle.session.specs.declared.Identity.{Identity}
use Rattle.guest_core.specs.State.{fresh_guest}
use Rattle.guest.specs.Receive.{Receive, receive}
use Rattle.guest_core.specs.Calls.{attach, acknowledge}
use Rattle.guest_core.specs.Send.{send, credit}
use Rattle.guest_core.specs.declared.GuestState.{GuestState}
use Rattle.guest_core.specs.declared.GuestState.TheVariants as State
use Rattle.guest.specs.Event as Event
use Rattle.guest_core.specs.declared.GuestSession.{GuestSession}

-- ---- what the examples speak of
-- the last sequence, and the one before it
abbrev pub last : ℕ
last = 2 ^ 64 - 1

abbrev pub last_but_one : ℕ
last_but_one = 2 ^ 64 - 2

-- the instance sixteen 11, another one, and an identity of the first at epoch 7
abbrev pub elevens : List ℕ
elevens = replicate 16 0x11

abbrev pub others : List ℕ
others = replicate 16 0x22

abbrev pub seventh : Identity
seventh = identity elevens 7

-- a guest at epoch 7 with nothing buffered: the sequences due and to send, window and outstanding
abbrev pub guest_in : GuestState → ℕ → ℕ → ℕ → ℕ → GuestSession
guest_in s due next window outstanding =
    record {
      state = s;
      parser = fresh;
      identity = Some seventh;
      receive_sequence = record { 0 = due };
      send_sequence = record { 0 = next };
      window = window;
      outstanding = outstanding;
    }

-- Active with window 65,536
abbrev pub active : ℕ → GuestSession
active outstanding = guest_in State.Active 1 1 65536 outstanding

-- a whole record pushed to a fresh parser, and received by a guest that holds no payload bytes
abbrev pub pushed : List ℕ → Push
pushed piece = push fresh 65536 [] piece

abbrev pub received : GuestSession → List ℕ → Receive
received g piece = receive g 65536 [] piece

-- a RESET, and a DATA of one byte
abbrev pub reset : List ℕ → ℕ → ℕ → List ℕ
reset instance epoch sequence = record_bytes 3 instance epoch sequence []

abbrev pub one : ℕ → List ℕ
one sequence = record_bytes 5 elevens 7 sequence (0x41 ∷ [])

-- ---- what is shown of several values
-- what encoder, parser and guest make of an ACK of window w
pub record AckGives (w : ℕ) (r : Refusal) : Type 0 where
  pub encoder : (encode_record 4 elevens 7 0 (to_le 4 w) (replicate 48 0) 0).answer.refusal ≡ r
  pub parser : (pushed (record_bytes 4 elevens 7 0 (to_le 4 w))).answer.refusal ≡ r
  pub whole : (pushed (record_bytes 4 elevens 7 0 (to_le 4 w))).answer.complete ≡ passes r
  pub guest : (acknowledge (guest_in State.Resetting 1 0 0 0) w (replicate 48 0) 0).sent.refusal ≡ r

-- what encoder and parser make of any DATA of n bytes; the parser refuses a length by the header alone
pub record DataGives (n : ℕ) (r : Refusal) : Type 0 where
  pub encoder : (payload o : List ℕ) → length payload ≡ n → 44 + n ≤ length o → (encode_record 5 elevens 7 1 payload o 0).answer.refusal ≡ r
  pub header : (pushed (header_bytes 5 elevens 7 1 n)).answer.refusal ≡ r
  pub parser : (payload : List ℕ) → length payload ≡ n → (pushed (record_bytes 5 elevens 7 1 payload)).answer.refusal ≡ r
  pub whole : (payload : List ℕ) → length payload ≡ n → (pushed (record_bytes 5 elevens 7 1 payload)).answer.complete ≡ passes r

-- a RESET that a guest accepts: it reports the event with the identity, and takes both over
pub record ResetAccepted (g : GuestSession) (instance : List ℕ) (epoch sequence : ℕ) : Type 0 where
  pub refusal : (received g (reset instance epoch sequence)).answer.refusal ≡ none
  pub event : (received g (reset instance epoch sequence)).answer.event ≡ Event.Reset
  pub reported : (received g (reset instance epoch sequence)).answer.identity ≡ identity instance epoch
  pub held : (received g (reset instance epoch sequence)).answer.session.identity ≡ Some (identity instance epoch)
  pub state : (received g (reset instance epoch sequence)).answer.session.state ≡ State.Resetting

-- a DATA of one byte that a guest accepts: it reports the event, hands out the byte, and adds 1 to what is outstanding
pub record DataAccepted (g : GuestSession) (sequence : ℕ) : Type 0 where
  pub refusal : (received g (one sequence)).answer.refusal ≡ none
  pub event : (received g (one sequence)).answer.event ≡ Event.Data
  pub payload : (received g (one sequence)).payload ≡ 0x41 ∷ []
  pub outstanding : (received g (one sequence)).answer.session.outstanding ≡ g.outstanding + 1

-- ---- the parser of M5, and the sessions of M9 and M10, one after the other
abbrev pub waiting : RecordParser
waiting = (pushed (replicate 43 0xFF)).answer.parser

abbrev pub full : GuestSession
full = (received (active 65535) (one 1)).answer.session

abbrev pub attached : GuestSession
attached = (attach fresh_guest (replicate 44 0) 0).sent.session

abbrev pub late : GuestSession
late = (received attached (reset elevens 7 last_but_one)).answer.session

abbrev pub late_active : GuestSession
late_active = (acknowledge late 65536 (replicate 48 0) 0).sent.session

-- ---- the examples
pub record MarkedExamples : Type 0 where
  -- 01: "M1 RESET, instance sixteen 11, epoch 7, sequence 0: 4E565853 0100 03 00, the instance, 07 and seven 00, eight 00, four 00."
  pub m1 : encode_record 3 elevens 7 0 [] (replicate 44 0xFF) 0
      ≡ Outer.outcome (record { refusal = none; next = 44 })
      (0x4E ∷ 0x56 ∷ 0x58 ∷ 0x53 ∷ 0x01 ∷ 0x00 ∷ 0x03 ∷ 0x00 ∷ (replicate 16 0x11 ++ (0x07 ∷ replicate 7 0x00 ++ (replicate 8 0x00 ++ replicate 4 0x00))))
  -- 01: "M2 Ack 65,535: 8; 65,536 accepted."
  pub m2 : AckGives 65535 (refusal 8 65535 0 0) × AckGives 65536 none
  -- 01: "M3 Ack 4,194,314 (0A 00 40 00) accepted; 4,194,315: 8."
  pub m3 : (to_le 4 4194314 ≡ 0x0A ∷ 0x00 ∷ 0x40 ∷ 0x00 ∷ []) × (AckGives 4194314 none × AckGives 4194315 (refusal 8 4194315 0 0))
  -- 01: "M4 Data length 0: 5; 1 and 65,536 accepted; 65,537: 5."
  pub m4 : DataGives 0 (refusal 5 5 0 0) × (DataGives 1 none × (DataGives 65536 none × DataGives 65537 (refusal 5 5 65537 0)))
  -- 01: "M5 43 bytes FF: taken, needed 1; one more FF: 1."
  pub m5 : ((pushed (replicate 43 0xFF)).answer.consumed ≡ 43)
      × (((pushed (replicate 43 0xFF)).answer.refusal ≡ none)
      × ((counted waiting (needed_of waiting) ≡ record { refusal = none; count = 1 })
      × ((push waiting 65536 [] (0xFF ∷ [])).answer.refusal ≡ refusal 1 0xFFFFFFFF 0 0)))
  -- 01: "M6 empty send, Active: 5; with send sequence 2^64 − 1: 16." Whatever the output.
  pub m6 : (o : List ℕ) (at : ℕ)
      → ((send (active 0) [] o at).sent.refusal ≡ refusal 5 5 0 0)
      × ((send (guest_in State.Active 1 last 65536 0) [] o at).sent.refusal ≡ refusal 16 5 0 0)
  -- 01: "M7 guest at epoch 7: same instance, epoch 7: 14; 8 accepted; another instance, epoch 1 accepted."
  pub m7 : ((received (active 0) (reset elevens 7 0)).answer.refusal ≡ refusal 14 7 7 0)
      × (ResetAccepted (active 0) elevens 8 0 × ResetAccepted (active 0) others 1 0)
  -- 01: "M8 outstanding 3: credit 0 and 4: 18; 3 leaves 0."
  pub m8 : ((credit (active 3) 0 (replicate 48 0) 0).sent.refusal ≡ refusal 18 3 0 0)
      × (((credit (active 3) 4 (replicate 48 0) 0).sent.refusal ≡ refusal 18 3 4 0)
      × (((credit (active 3) 3 (replicate 48 0) 0).sent.refusal ≡ none)
      × ((credit (active 3) 3 (replicate 48 0) 0).sent.session.outstanding ≡ 0)))
  -- 01: "M9 window 65,536, outstanding 65,535: Data of 1 accepted; one more: 17."
  pub m9 : DataAccepted (active 65535) 1 × ((received full (one 2)).answer.refusal ≡ refusal 17 65536 65536 1)
  -- 01: "M10 RESET with sequence 2^64 − 2 accepted, an acknowledge of 65,536, then Data of 1 with the same identity and sequence
  -- 2^64 − 1: 16."
  pub m10 : ResetAccepted attached elevens 7 last_but_one
      × (((acknowledge late 65536 (replicate 48 0) 0).sent.refusal ≡ none) × ((received late_active (one last)).answer.refusal ≡ refusal 16 5 0 0))
