-- The stream: as long as a guest has not failed, the bytes taken since the last RESET are the encodings of the DATA handed out since, then
-- the bytes that the parser holds. Each thing that a call can do (`Effect`) keeps it so. Assumes nothing.
use Prim.Native.Nat.{ℕ, ◌+◌, ◌^◌, ◌≤◌, ◌<◌}
use mathlib.Core.Path.{◌≡◌, refl, sym, subst, ◌∙◌}
use mathlib.Core.Bool.{false}
use mathlib.Core.List.{List, [], ◌∷◌, ◌++◌, append-nil}
use native.Mathlib.Omega.{arith}
use lib.ListN.{length, length-append, length-take}
use lib.Seq.{take_all}
use lib.Dec.{lit<}
use Rattle.wire.specs.Bytes.{from_le, Octets}
use Rattle.wire.specs.Header.{sequence_of}
use Rattle.outer.specs.Outer.{max_payload}
use Rattle.parser.specs.Push.{held_in, buffered_of}
use Rattle.parser.specs.declared.RecordParser.{RecordParser}
use Rattle.session.specs.Checks.{identity_of}
use Rattle.guest_core.specs.State.{is_failed}
use Rattle.claims.specs.Reading.{held_bytes, Ready}
use Rattle.claims.specs.GuestCalls.{own, other, Call, Endpoint, Step, step, fresh}
use Rattle.claims.specs.GuestHistory.{after, trace, history, OwnOrShorter, AllOwnOrShorter, Transcript, no_transcript, transcribe, data_bytes}
use Rattle.claims.specs.GuestClaims.{IsReset, nothing_yet, since, Unfinished, in_header, in_payload, StreamExact}
use Rattle.claims.proofs.Outcomes.{true_not_false, Part, in_head, in_body, ready_part}
use Rattle.claims.proofs.GuestInvariant.{Invariant, invariant_ready, open_unfailed, detached_unfailed, resetting_unfailed, going_unfailed, active_live, resetting_live}
use Rattle.claims.proofs.GuestEffects.{Effect, effect_of}
use Rattle.claims.proofs.GuestEffects.{refuses_receive, fails, waits, resets, hands, refuses_write, attaches, acks, sends, credits, stays_ended, closes, fails_buffered, tells}
use Rattle.claims.proofs.GuestSound.{H-octets, invariant_next, invariant_after, fresh_invariant}
use Rattle.claims.proofs.GuestSums.{handed_is}
use Rattle.claims.proofs.GuestStages.{room_after}
use Rattle.claims.proofs.GuestTaken.{Continues, StreamAt, nothing_held, a_reset, reset_continues, reset_is, waits_join, data_joins, reset_within, data_within}

-- ---- one call
pub too_short : {A : Type 0} {n : ℕ} → max_payload ≤ n → n < max_payload → A
too_short p q = absurd (omega arith)

stream_step : {l : Transcript} {e : Endpoint} {c : Call} {t : Step} → Effect e c t → OwnOrShorter c → Invariant e.session
    → (is_failed e.session.state ≡ false → StreamAt l e) → is_failed t.after.session.state ≡ false → StreamAt (transcribe l c t.answer) t.after
unfolding transcribe data_bytes
stream_step {l} (refuses_receive piece o own r n) w f k x =
    record { start = (k x).start; within = (k x).within; joins = append-nil l.taken ∙ (k x).joins; continues = (k x).continues }
stream_step {l} (refuses_receive piece o (other z) r n) w f k x =
    record { start = (k x).start; within = (k x).within; joins = append-nil l.taken ∙ (k x).joins; continues = (k x).continues }
stream_step (fails piece o lent r u v n t) w f k x = true_not_false x
stream_step {l} {e} (waits piece o own u t) w f k x =
    record { start = (k x).start; within = (k x).within; joins = waits_join l e.session e.stage piece u (k x) t; continues = (k x).continues }
stream_step (waits piece o (other z) u t) w f k x = too_short t.room w
stream_step {l} {e} (resets piece o own u h y t q p) w f k x =
    let s = k (open_unfailed e.session.state t.opened) in
    let r = reset_is l e.session e.stage piece u s h y t q in
    record {
      start = since (subst IsReset (sym r) (a_reset t q));
      within = subst (λ (reset : List ℕ). sequence_of reset + 0 < 2 ^ 64) (sym r) (reset_within t p);
      joins = sym (nothing_held t);
      continues = λ _. subst (λ (reset : List ℕ). Continues reset [] (identity_of u.answer.«record») (u.answer.«record».sequence.0 + 1)) (sym r) (reset_continues t q);
    }
stream_step (resets piece o (other z) u h y t q p) w f k x = too_short t.room w
stream_step {l} {e} (hands piece o own u h y t a q p) w f k x =
    let s = k x in
    let continues = s.continues (active_live e.session.state a) in
    record {
      start = since continues.from;
      within = data_within t l.reset l.handed _ p continues;
      joins = data_joins l e.session e.stage piece u s h y t (subst Octets (sym t.matches.header) (H-octets f o)) q p continues _ (handed_is t);
      continues = λ _. record { from = continues.from; named = continues.named; next = simp length-append (omega (arith, continues.next)) };
    }
stream_step (hands piece o (other z) u h y t a q p) w f k x = too_short t.room w
stream_step (refuses_write wr o at r bytes n) w f k x = k x
stream_step {l} {e} (attaches o at n next bytes d) w f k x =
    let s = k (detached_unfailed e.session.state d) in record { start = s.start; within = s.within; joins = s.joins; continues = λ y. true_not_false (sym y) }
stream_step {l} {e} (acks v o at n next bytes d ok) w f k x =
    let s = k (resetting_unfailed e.session.state d) in
    record { start = s.start; within = s.within; joins = s.joins; continues = λ _. s.continues (resetting_live e.session.state d) }
stream_step (sends bs o at n next bytes d) w f k x = record { start = (k x).start; within = (k x).within; joins = (k x).joins; continues = (k x).continues }
stream_step (credits m o at n next bytes d q) w f k x = record { start = (k x).start; within = (k x).within; joins = (k x).joins; continues = (k x).continues }
stream_step stays_ended w f k x = k x
stream_step {l} {e} (closes d) w f k x =
    let s = k (going_unfailed e.session.state d) in record { start = s.start; within = s.within; joins = s.joins; continues = λ y. true_not_false (sym y) }
stream_step (fails_buffered r n d) w f k x = true_not_false x
stream_step (tells q a n) w f k x = k x

-- ---- lists of calls
unfoldable pub Streams : Transcript → Endpoint → Type 0
Streams l e = is_failed e.session.state ≡ false → StreamAt l e

pub stream_after : (l : Transcript) (e : Endpoint) (cs : List Call) → AllOwnOrShorter cs → Invariant e.session → Streams l e → Streams (history transcribe l (trace e cs)) (after e cs)
unfolding after trace history Streams
stream_after l e [] w f k = k
stream_after l e (c ∷ cs) w f k =
    stream_after (transcribe l c (step e c).answer) (step e c).after cs w.1 (invariant_next e c f) (stream_step (effect_of e f c) w.0 f k)

pub fresh_streams : (s : List ℕ) → Streams no_transcript (fresh s)
unfolding Streams data_bytes sequence_of from_le
fresh_streams s f = record { start = nothing_yet refl refl; within = lit< tt; joins = refl; continues = λ x. true_not_false (sym x) }

-- ---- the claim
pub held_unfinished : (p : RecordParser) (held : List ℕ) → Ready p held → Unfinished (held_bytes p held)
held_unfinished p held r = go (ready_part r)
  where
    go : Part p.header p.header_len p.payload_len → Unfinished (held_bytes p held)
    go (in_head x y) = in_header (held_bytes p held) (simp (length-append, length-take) (omega (arith, r.size, r.count)))
    go (in_body x c y) =
        let n : length p.header ≤ p.header_len = omega (arith, r.size) in
        subst (λ (h : List ℕ). Unfinished (h ++ held)) (sym (take_all p.header_len p.header n))
        (in_payload p.header held r.size c (omega (arith, r.count)))

pub held_length : (p : RecordParser) (held : List ℕ) → Ready p held → length (held_bytes p held) ≡ buffered_of p
held_length p held r = go (ready_part r)
  where
    go : Part p.header p.header_len p.payload_len → length (held_bytes p held) ≡ buffered_of p
    go (in_head x y) = simp (length-append, length-take) (omega (arith, r.size, r.count))
    go (in_body x c y) = simp (length-append, length-take) (omega (arith, r.size, r.count))

pub stream : StreamExact
unfolding Streams
stream s cs room w x =
    let e = after (fresh s) cs in
    let k = stream_after no_transcript (fresh s) cs w fresh_invariant (fresh_streams s) x in
    let n : max_payload ≤ length e.stage = omega (arith, room_after (fresh s) cs fresh_invariant) in
    let r = invariant_ready e.session (invariant_after (fresh s) cs fresh_invariant) x e.stage n in
    record {
      start = k.start;
      within = k.within;
      rest = held_bytes e.session.parser (held_in e.session.parser e.stage);
      joins = k.joins;
      buffered = held_length e.session.parser (held_in e.session.parser e.stage) r;
      unfinished = held_unfinished e.session.parser (held_in e.session.parser e.stage) r;
    }
