-- A closed example of the release note: a lead is reset at epoch 7, sends a sample of three bytes in two pieces, is reattached at epoch 8 and
-- sends one of one byte. The premises of the claim are met, and what is handed out since is the second sample alone. Assumes nothing.
use Prim.Native.Nat.{ℕ}
use mathlib.Core.Path.{◌≡◌, refl, ap, ◌∙◌}
use mathlib.Core.Bool.{Bool, true, ◌&&◌}
use mathlib.Core.List.{List, [], ◌∷◌, ◌++◌}
use lib.ListN.{length, take, drop, replicate}
use native.Mathlib.Omega.{arith}
use lib.Dec.{ltb, lit<}
use borrow.Author.Tests.{ltb-true}
use Rattle.wire.specs.Bytes.{from_le, to_le, overlay, Octets, end, octet}
use Rattle.wire.specs.Refusals.{none, first}
use Rattle.wire.specs.Header.{magic_of, version_of, type_of, flags_of, instance_of, epoch_of, sequence_of, length_of, header_bytes}
use Rattle.wire.proofs.Rows.{and_left, and_right}
use Rattle.outer.specs.Outer.{window_ok, credit_ok, value_of}
use Rattle.record.specs.Types.{type_at, length_ok}
use Rattle.record.specs.Record.{all_zero, payload_checks, header_checks, record_with, record_bytes}
use Rattle.record.specs.declared.types.RecordType.TheVariants as Kind
use Rattle.record.specs.declared.Record.{Record}
use Rattle.parser.specs.Push.{counts_ok, error_ok, sound_parser, finish, push_body, head_with, push_head, push}
use Rattle.parser.specs.declared.Place.TheVariants.{Piece, Stage}
use Rattle.session.specs.Checks.{same, identity, no_identity, identity_ok, holds}
use Rattle.guest_core.specs.State.{fresh_guest, sound_guest}
use Rattle.guest.specs.Receive as R
use Rattle.guest_core.specs.Writes as W
use Rattle.guest_core.specs.Calls as C
use Rattle.guest_core.specs.Asks as A
use Rattle.guest_core.specs.declared.GuestState.TheVariants as State
use Rattle.guest.specs.Event as Event
use Rattle.claims.specs.Reading.{record_from, encodings}
use Rattle.claims.specs.GuestCalls.{own, attach, acknowledge, ask_state, Call, receive, write, ask, state, Answer, received, sent, told, fresh}
use Rattle.claims.specs.GuestHistory.{trace, history, AllOwnOrShorter, no_transcript, transcribe}
use Rattle.claims.specs.Sent.{AllEncodable, none_left, one_more}
use Rattle.claims.specs.Release.{reset_event, data_event, no_log, log, log_of, handed_since, Delivered, ShowsNothingOlder, ShownAmong}
use Rattle.claims.proofs.GuestSound.{fresh_invariant}
use Rattle.claims.proofs.GuestStageless.{stageless, stageless_step, answers_stageless}
use Rattle.claims.proofs.GuestExamples.{paired, trace_paired}
use Rattle.claims.proofs.Release.{note, nothing_before}

-- ---- the records sent
abbrev lead : List ℕ
lead = replicate 16 0x11

abbrev sent_reset7 : Record × List ℕ
sent_reset7 = (record_from Kind.Reset lead 7 0 0, [])

abbrev sent_data7 : Record × List ℕ
sent_data7 = (record_from Kind.Data lead 7 1 3, 10 ∷ 20 ∷ 30 ∷ [])

abbrev sent_reset8 : Record × List ℕ
sent_reset8 = (record_from Kind.Reset lead 8 4 0, [])

abbrev sent_data8 : Record × List ℕ
sent_data8 = (record_from Kind.Data lead 8 5 1, 40 ∷ [])

abbrev records : List (Record × List ℕ)
records = sent_reset7 ∷ sent_data7 ∷ sent_reset8 ∷ sent_data8 ∷ []

pub encodable : AllEncodable records
unfolding first length_ok all_zero window_ok credit_ok
encodable =
    one_more {x = sent_reset7} (record { instance = refl; epoch = lit< tt; sequence = lit< tt; size = refl; rows = refl })
    (one_more {x = sent_data7} (record { instance = refl; epoch = lit< tt; sequence = lit< tt; size = refl; rows = refl })
    (one_more {x = sent_reset8} (record { instance = refl; epoch = lit< tt; sequence = lit< tt; size = refl; rows = refl })
    (one_more {x = sent_data8} (record { instance = refl; epoch = lit< tt; sequence = lit< tt; size = refl; rows = refl }) none_left)))

-- ---- lists of bytes, by a test
all_low : List ℕ → Bool
all_low [] = true
all_low (x ∷ xs) = ltb x 256 && all_low xs

low_octets : (l : List ℕ) → all_low l ≡ true → Octets l
unfolding all_low
low_octets [] e = end
low_octets (x ∷ xs) e = octet (ltb-true x 256 (and_left (ltb x 256) (all_low xs) e)) (low_octets xs (and_right (ltb x 256) (all_low xs) e))

-- ---- the pieces
abbrev reset7 : List ℕ
reset7 = record_bytes 3 lead 7 0 []

abbrev data7 : List ℕ
data7 = record_bytes 5 lead 7 1 (10 ∷ 20 ∷ 30 ∷ [])

abbrev reset8 : List ℕ
reset8 = record_bytes 3 lead 8 4 []

abbrev data8 : List ℕ
data8 = record_bytes 5 lead 8 5 (40 ∷ [])

pub reset7_octets : Octets reset7
unfolding all_low header_bytes to_le
reset7_octets = low_octets reset7 refl

pub front_octets : Octets (take 45 data7)
unfolding all_low header_bytes to_le
front_octets = low_octets (take 45 data7) refl

pub back_octets : Octets (drop 45 data7)
unfolding all_low header_bytes to_le
back_octets = low_octets (drop 45 data7) refl

pub reset8_octets : Octets reset8
unfolding all_low header_bytes to_le
reset8_octets = low_octets reset8 refl

pub data8_octets : Octets data8
unfolding all_low header_bytes to_le
data8_octets = low_octets data8 refl

-- ---- the calls and what is seen
abbrev calls : List Call
calls =
    write attach (replicate 44 9) 0
    ∷ receive reset7 reset7_octets own
    ∷ write (acknowledge 65536) (replicate 48 9) 0
    ∷ receive (take 45 data7) front_octets own
    ∷ receive (drop 45 data7) back_octets own
    ∷ receive reset8 reset8_octets own
    ∷ write (acknowledge 65536) (replicate 48 9) 0
    ∷ receive data8 data8_octets own
    ∷ ask ask_state
    ∷ []

abbrev expected : List Answer
expected =
    sent none 0 44 (record_bytes 1 (replicate 16 0) 0 0 [])
    ∷ received none 44 Event.Reset (identity lead 7) (Piece 0) 0 []
    ∷ sent none 0 48 (record_bytes 4 lead 7 0 (0 ∷ 0 ∷ 1 ∷ 0 ∷ []))
    ∷ received none 45 Event.Nothing no_identity (Piece 0) 0 []
    ∷ received none 2 Event.Data no_identity Stage 3 (10 ∷ 20 ∷ 30 ∷ [])
    ∷ received none 44 Event.Reset (identity lead 8) (Piece 0) 0 []
    ∷ sent none 0 48 (record_bytes 4 lead 8 0 (0 ∷ 0 ∷ 1 ∷ 0 ∷ []))
    ∷ received none 45 Event.Data no_identity (Piece 44) 1 (40 ∷ [])
    ∷ told (state (record { refusal = none; state = State.Active }))
    ∷ []

computed : stageless fresh_guest [] calls ≡ expected
unfolding stageless stageless_step from_le to_le overlay first magic_of version_of type_of flags_of instance_of epoch_of sequence_of length_of
    header_bytes window_ok credit_ok value_of type_at length_ok all_zero payload_checks header_checks record_with counts_ok error_ok
    sound_parser finish push_body head_with push_head push same identity_ok holds sound_guest R.accept_reset R.accept_data R.accept
    R.after_push R.receive W.writes C.attach C.acknowledge A.state_of
computed = refl

module _ (s : List ℕ) (room : length s ≡ 65536) where
  pub lent : AllOwnOrShorter calls
  lent = (tt, (tt, (tt, (tt, (tt, (tt, (tt, (tt, (tt, tt)))))))))

  seen : trace (fresh s) calls ≡ paired calls expected
  seen = trace_paired (fresh s) calls ∙ ap (paired calls) (answers_stageless (fresh s) calls fresh_invariant room lent ∙ computed)

  -- every byte of the records was taken
  pub taken : (log_of s calls).taken ++ [] ≡ encodings records
  unfolding history log encodings header_bytes to_le
  taken = ap (λ xs. (history log no_log xs).taken ++ []) seen

  pub events : (log_of s calls).events ≡ reset_event (identity lead 7) ∷ data_event (10 ∷ 20 ∷ 30 ∷ []) ∷ reset_event (identity lead 8) ∷ data_event (40 ∷ []) ∷ []
  unfolding history log
  events = ap (λ xs. (history log no_log xs).events) seen

  -- the sample from before is not among those handed out since
  pub handed : handed_since s calls ≡ (40 ∷ []) ∷ []
  unfolding history transcribe
  handed = ap (λ xs. (history transcribe no_transcript xs).handed) seen

  pub delivered : Delivered records s calls
  delivered = record { encodable = encodable; room = omega (arith, room); lent = lent; more = []; joins = taken }

  -- so the claims speak of it; of the second RESET, which stands behind two records, too
  pub met : ShowsNothingOlder records (log_of s calls) (handed_since s calls)
  met = note records s calls delivered

  pub met_second : ShownAmong (sent_data8 ∷ []) (handed_since s calls)
  met_second =
      nothing_before (sent_reset7 ∷ sent_data7 ∷ []) (sent_data8 ∷ []) sent_reset8.0 [] s calls delivered refl
      (let n : length (log_of s calls).events ≡ 4 = ap length events in omega arith)
