-- A closed example: a session attached, reset by M1's RESET in two pieces, acknowledged, with one DATA and one credit, whatever its stage
-- holds. The answers are computed without a stage (`stageless`), and the figures of the history from them. So the premise of the claim on two
-- guests can be met.
use Prim.Native.Nat.{ℕ, zero, suc, ◌<◌}
use mathlib.Core.Path.{◌≡◌, refl, ap, ◌∙◌}
use mathlib.Core.List.{List, [], ◌∷◌, ◌++◌}
use lib.ListN.{length, replicate}
use lib.Dec.{lit<}
use Rattle.wire.specs.Bytes.{from_le, to_le, overlay, Octets, end, octet}
use Rattle.wire.specs.Refusals.{refusal, none, first}
use Rattle.wire.specs.Header.{magic_of, version_of, type_of, flags_of, instance_of, epoch_of, sequence_of, length_of, header_bytes}
use Rattle.outer.specs.Outer.{window_ok, credit_ok, value_of}
use Rattle.record.specs.Types.{type_at, length_ok}
use Rattle.record.specs.Record.{all_zero, payload_checks, header_checks, record_with, record_bytes}
use Rattle.parser.specs.Push.{counts_ok, error_ok, sound_parser, finish, push_body, head_with, push_head, push}
use Rattle.parser.specs.declared.Place.TheVariants.{Piece}
use Rattle.session.specs.Checks.{same, identity, no_identity, identity_ok, holds}
use Rattle.guest_core.specs.State.{fresh_guest, sound_guest}
use Rattle.guest.specs.Receive as R
use Rattle.guest_core.specs.Writes as W
use Rattle.guest_core.specs.Calls as C
use Rattle.guest_core.specs.Send as S
use Rattle.guest_core.specs.Asks as A
use Rattle.guest_core.specs.declared.GuestState.TheVariants as State
use Rattle.guest.specs.Event.{GuestEvent}
use Rattle.guest.specs.Event as Event
use Rattle.claims.specs.GuestCalls.{own, other, attach, acknowledge, credit, ask_state, ask_outstanding, Call, receive, write, ask, state, outstanding, Answer, received, sent, told, event_of, Endpoint, step, fresh}
use Rattle.claims.specs.GuestHistory.{after, Seen, trace, history, AllOwnOrShorter, no_tally, count, no_transcript, transcribe}
use Rattle.claims.specs.GuestClaims.{ResetRun, answers}
use Rattle.claims.proofs.GuestSound.{fresh_invariant}
use Rattle.claims.proofs.GuestStageless.{stageless, stageless_step, answers_stageless}

-- ---- the pieces: M1's first 8 bytes and the rest, and a DATA of three bytes
abbrev reset_head : List ℕ
reset_head = 0x4E ∷ 0x56 ∷ 0x58 ∷ 0x53 ∷ 1 ∷ 0 ∷ 3 ∷ 0 ∷ []

abbrev reset_tail : List ℕ
reset_tail = replicate 16 0x11 ++ (7 ∷ replicate 19 0)

abbrev data_piece : List ℕ
data_piece = 0x4E ∷ 0x56 ∷ 0x58 ∷ 0x53 ∷ 1 ∷ 0 ∷ 5 ∷ 0 ∷ (replicate 16 0x11 ++ (7 ∷ (replicate 7 0 ++ (1 ∷ (replicate 7 0 ++ (3 ∷ 0 ∷ 0 ∷ 0 ∷ 10 ∷ 20 ∷ 30 ∷ []))))))

repeated : (n x : ℕ) → x < 256 → {l : List ℕ} → Octets l → Octets (replicate n x ++ l)
repeated zero x h o = o
repeated (suc n) x h o = octet h (repeated n x h o)

pub head_octets : Octets reset_head
head_octets = octet (lit< tt) (octet (lit< tt) (octet (lit< tt) (octet (lit< tt) (octet (lit< tt) (octet (lit< tt) (octet (lit< tt) (octet (lit< tt) end)))))))

pub tail_octets : Octets reset_tail
tail_octets = repeated 16 0x11 (lit< tt) (octet (lit< tt) (repeated 19 0 (lit< tt) {l = []} end))

pub data_octets : Octets data_piece
data_octets =
    octet (lit< tt) (octet (lit< tt) (octet (lit< tt) (octet (lit< tt) (octet (lit< tt) (octet (lit< tt) (octet (lit< tt) (octet (lit< tt)
    (repeated 16 0x11 (lit< tt)
    (octet (lit< tt) (repeated 7 0 (lit< tt) (octet (lit< tt) (repeated 7 0 (lit< tt)
    (octet (lit< tt) (octet (lit< tt) (octet (lit< tt) (octet (lit< tt) (octet (lit< tt) (octet (lit< tt) (octet (lit< tt) end)))))))))))))))))))

-- ---- the calls and what is seen
abbrev before : List Call
before = write attach (replicate 44 9) 0 ∷ receive reset_head head_octets own ∷ []

abbrev calls : List Call
calls =
    before
    ++ (receive reset_tail tail_octets own
    ∷ ask ask_state
    ∷ receive data_piece data_octets (other [])
    ∷ write (acknowledge 65536) (replicate 50 9) 2
    ∷ receive data_piece data_octets own
    ∷ write (credit 2) (replicate 48 9) 0
    ∷ ask ask_outstanding ∷ [])

abbrev eleven : List ℕ
eleven = replicate 16 0x11

abbrev expected : List Answer
expected =
    sent none 0 44 (record_bytes 1 (replicate 16 0) 0 0 [])
    ∷ received none 8 Event.Nothing no_identity (Piece 0) 0 []
    ∷ received none 36 Event.Reset (identity eleven 7) (Piece 0) 0 []
    ∷ told (state (record { refusal = none; state = State.Resetting }))
    ∷ received (refusal 21 0 0 0) 0 Event.Nothing no_identity (Piece 0) 0 []
    ∷ sent none 0 50 (record_bytes 4 eleven 7 0 (0 ∷ 0 ∷ 1 ∷ 0 ∷ []))
    ∷ received none 47 Event.Data no_identity (Piece 44) 3 (10 ∷ 20 ∷ 30 ∷ [])
    ∷ sent none 0 48 (record_bytes 9 eleven 7 1 (2 ∷ 0 ∷ 0 ∷ 0 ∷ []))
    ∷ told (outstanding (record { refusal = none; outstanding = 1 }))
    ∷ []

computed : stageless fresh_guest [] calls ≡ expected
unfolding stageless stageless_step from_le to_le overlay first magic_of version_of type_of flags_of instance_of epoch_of sequence_of length_of
    header_bytes window_ok credit_ok value_of type_at length_ok all_zero payload_checks header_checks record_with counts_ok error_ok
    sound_parser finish push_body head_with push_head push same identity_ok holds sound_guest R.accept_reset R.accept_data R.accept
    R.after_push R.receive W.writes C.attach C.acknowledge S.send S.credit A.state_of A.outstanding_of
computed = refl

-- ---- the same of a session with a stage
-- what is seen is the calls with their answers
abbrev pub paired : List Call → List Answer → List Seen
paired [] xs = []
paired (c ∷ cs) [] = []
paired (c ∷ cs) (x ∷ xs) = record { call = c; answer = x } ∷ paired cs xs

pub trace_paired : (e : Endpoint) (cs : List Call) → trace e cs ≡ paired cs (answers (trace e cs))
unfolding trace
trace_paired e [] = refl
trace_paired e (c ∷ cs) = ap (λ (xs : List Seen). record { call = c; answer = (step e c).answer } ∷ xs) (trace_paired (step e c).after cs)

module _ (s : List ℕ) (room : length s ≡ 65536) where
  lent : AllOwnOrShorter calls
  lent = (tt, (tt, (tt, (tt, (lit< tt, (tt, (tt, (tt, (tt, tt)))))))))

  pub seen : trace (fresh s) calls ≡ paired calls expected
  seen = trace_paired (fresh s) calls ∙ ap (paired calls) (answers_stageless (fresh s) calls fresh_invariant room lent ∙ computed)

  pub sums : history count no_tally (trace (fresh s) calls) ≡ record { accepted = 3; credited = 2; window = 65536 }
  unfolding history count
  sums = ap (history count no_tally) seen

  pub stream : history transcribe no_transcript (trace (fresh s) calls) ≡ record { taken = data_piece; reset = reset_head ++ reset_tail; handed = (10 ∷ 20 ∷ 30 ∷ []) ∷ [] }
  unfolding history transcribe
  stream = ap (history transcribe no_transcript) seen

  -- the premise of the claim on two guests
  abbrev third : List Answer → GuestEvent
  third [] = Event.Nothing
  third (x ∷ []) = Event.Nothing
  third (x ∷ (y ∷ [])) = Event.Nothing
  third (x ∷ (y ∷ (z ∷ l))) = event_of z

  pub run : ResetRun
  unfolding after trace
  run =
      record {
        stage = s;
        calls = before;
        last = receive reset_tail tail_octets own;
        room = room;
        lent = (tt, (tt, (tt, tt)));
        reports = ap third (answers_stageless (fresh s) calls fresh_invariant room lent ∙ computed);
      }
