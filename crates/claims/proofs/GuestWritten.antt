-- What a guest's calls that write do write: where it receives, its identity is that of the last RESET (`stream_after`), and its send sequence
-- is the number of records sent since (`counted_after`). Assumes nothing.
use Prim.Native.Nat.{ℕ, ◌+◌, ◌≤◌}
use mathlib.Core.Path.{◌≡◌, refl, sym, ap, subst, ◌∙◌}
use mathlib.Core.Bool.{Bool, true, false}
use mathlib.Core.List.{List, [], ◌∷◌}
use native.Mathlib.Omega.{arith}
use lib.ListN.{length, take}
use lib.Dec.{leb}
use borrow.Author.Tests.{leb-true, eqb-true, ne_eqb}
use Rattle.wire.specs.Bytes.{to_le, overlay}
use Rattle.wire.specs.Refusals.{pick, first, passes}
use Rattle.wire.specs.declared.Refusal.{Refusal}
use Rattle.wire.proofs.Rows.{picked, passed, and_right}
use Rattle.record.specs.Record.{record_bytes}
use Rattle.session.specs.Checks.{held, identity}
use Rattle.guest_core.specs.State.{code, is_resetting, is_active, is_live, is_failed}
use Rattle.guest_core.specs.Writes as W
use Rattle.guest_core.specs.Calls as C
use Rattle.guest_core.specs.Send as S
use Rattle.guest_core.specs.declared.GuestState.{GuestState}
use Rattle.guest_core.specs.declared.GuestSession.{GuestSession}
use Rattle.claims.specs.GuestCalls.{Writing, Call, write, sent, Endpoint, Step, write_step, step, fresh}
use Rattle.claims.specs.GuestHistory.{after, trace, history, AllOwnOrShorter, no_transcript}
use Rattle.claims.specs.Written.{Writes, guest_answered, with_record, count_records, AttachWrites, AcknowledgeWrites, SendWrites, CreditWrites, last_instance, last_epoch, records_sent}
use Rattle.claims.proofs.Outcomes.{true_not_false}
use Rattle.claims.proofs.WrittenLaws.{laid_writes, nothing_written, take_most, in_output, same_bytes}
use Rattle.claims.proofs.GuestInvariant.{Invariant, active_live, resetting_live}
use Rattle.claims.proofs.GuestEffects.{Effect, effect_of}
use Rattle.claims.proofs.GuestEffects.{refuses_receive, fails, waits, resets, hands, refuses_write, attaches, acks, sends, credits, stays_ended, closes, fails_buffered, tells}
use Rattle.claims.proofs.GuestSound.{invariant_next, fresh_invariant}
use Rattle.claims.proofs.GuestStream.{Streams, stream_after, fresh_streams}

-- ---- the records sent
-- the send sequence; none is sent before the acknowledge
record Counted (k : ℕ) (g : GuestSession) : Type 0 where
  same : g.send_sequence.0 ≡ k
  idle : is_resetting g.state ≡ true → k ≡ 0

refused_records : (k : ℕ) (w : Writing) (o : List ℕ) (at : ℕ) (r : Refusal) (n next : ℕ) (bytes : List ℕ) → passes r ≡ false
    → count_records k (write w o at) (sent r n next bytes) ≡ k
unfolding count_records
refused_records k w o at r n next bytes e = ap (λ (t : Bool). pick t (with_record k w) k) e

-- Active is not Resetting
not_resetting : {A : Type 0} (g : GuestSession) → is_active g.state ≡ true → is_resetting g.state ≡ true → A
not_resetting g a r = absurd (omega (arith, eqb-true (code g.state) 3 a, eqb-true (code g.state) 2 r))

counted_step : {k : ℕ} {e : Endpoint} {c : Call} {t : Step} → Effect e c t → Counted k e.session → Counted (count_records k c t.answer) t.after.session
unfolding count_records
counted_step (refuses_receive piece o lent r n) s = s
counted_step (fails piece o lent r u v n t) s = record { same = s.same; idle = λ x. true_not_false (sym x) }
counted_step (waits piece o lent u t) s = record { same = s.same; idle = s.idle }
counted_step (resets piece o lent u h y t q p) s = record { same = refl; idle = λ _. refl }
counted_step (hands piece o lent u h y t a q p) s = record { same = s.same; idle = s.idle }
counted_step {k} {e} (refuses_write w o at r bytes n) s = subst (λ (x : ℕ). Counted x e.session) (sym (refused_records k w o at r 0 0 bytes n.0)) s
counted_step (attaches o at n next bytes d) s = record { same = s.same; idle = λ x. true_not_false (sym x) }
counted_step {k} (acks w o at n next bytes d ok) s = let z : k ≡ 0 = s.idle d in record { same = omega arith; idle = λ x. true_not_false (sym x) }
counted_step {k} {e} (sends bs o at n next bytes d) s = record { same = omega (arith, s.same); idle = λ x. not_resetting e.session d x }
counted_step {k} {e} (credits m o at n next bytes d q) s = record { same = omega (arith, s.same); idle = λ x. not_resetting e.session d x }
counted_step stays_ended s = s
counted_step (closes d) s = record { same = s.same; idle = λ x. true_not_false (sym x) }
counted_step (fails_buffered r n d) s = record { same = s.same; idle = λ x. true_not_false (sym x) }
counted_step (tells q a n) s = s

counted_after : (k : ℕ) (e : Endpoint) (cs : List Call) → Invariant e.session → Counted k e.session → Counted (history count_records k (trace e cs)) (after e cs).session
unfolding after trace history
counted_after k e [] f s = s
counted_after k e (c ∷ cs) f s = counted_after (count_records k c (step e c).answer) (step e c).after cs (invariant_next e c f) (counted_step (effect_of e f c) s)

pub sequence_is : (s : List ℕ) (cs : List Call) → (after (fresh s) cs).session.send_sequence.0 ≡ records_sent s cs
sequence_is s cs = (counted_after 0 (fresh s) cs fresh_invariant (record { same = refl; idle = λ _. refl })).same

-- ---- the identity
live_unfailed : (s : GuestState) → is_live s ≡ true → is_failed s ≡ false
live_unfailed s e = ne_eqb (code s) 5 (λ q. omega (arith, leb-true (code s) 3 (and_right (leb 2 (code s)) (leb (code s) 3) e)))

named_as : (s : List ℕ) (cs : List Call) → AllOwnOrShorter cs → is_live (after (fresh s) cs).session.state ≡ true
    → held (after (fresh s) cs).session.identity ≡ identity (last_instance s cs) (last_epoch s cs)
unfolding Streams
named_as s cs w a =
    let g : GuestSession = (after (fresh s) cs).session in
    ((stream_after no_transcript (fresh s) cs w fresh_invariant (fresh_streams s) (live_unfailed g.state a)).continues a).named

-- ---- one call
-- `due` are the bytes that the record has where the rows pass
module _ (stage : List ℕ) (rows : List (Bool × Refusal)) (g g' : GuestSession) (n : ℕ) (bytes due o : List ℕ) (at : ℕ)
    (room : passes (first rows) ≡ true → at ≤ length o) (same : passes (first rows) ≡ true → bytes ≡ due) where
  abbrev Fine : W.Outcome → Type 0
  Fine x = Writes at n due (guest_answered (write_step x at stage).answer)

  writes_fine : Fine (W.writes (first rows) g g' n bytes o at)
  unfolding W.writes
  writes_fine =
      picked Fine (passes (first rows))
      (λ p. subst (λ (b : List ℕ). Fine (W.outcome (W.sent_record n (at + length b) g') (overlay o at b))) (sym (same p)) (laid_writes o at n due (room p)))
      (λ p. nothing_written o at n due (first rows) p)

pub attach_writes : AttachWrites
unfolding step C.attach
attach_writes s cs o at =
    let g : GuestSession = (after (fresh s) cs).session in
    let rows = C.attach_rows g o at in
    writes_fine (after (fresh s) cs).stage rows g _ _ _ _ o at (λ p. in_output at 44 o (passed rows (refl, (refl, (refl, tt))) p).1.1.0) (λ _. refl)

pub acknowledge_writes : AcknowledgeWrites
unfolding step C.acknowledge
acknowledge_writes s cs w v o at =
    let g : GuestSession = (after (fresh s) cs).session in
    let rows = C.ack_rows g v o at in
    writes_fine (after (fresh s) cs).stage rows g _ _ _ _ o at
    (λ p. in_output at 48 o (passed rows (refl, (refl, (refl, (refl, tt)))) p).1.1.1.0)
    (λ p. same_bytes 4 (to_le 4 v) (named_as s cs w (resetting_live g.state (passed rows (refl, (refl, (refl, (refl, tt)))) p).1.0)) refl)

pub send_writes : SendWrites
unfolding step S.send
send_writes s cs w bytes o at =
    let g : GuestSession = (after (fresh s) cs).session in
    let rows = S.send_rows g bytes o at in
    writes_fine (after (fresh s) cs).stage rows g _ _ _ _ o at
    (λ p. in_output at (44 + S.send_count bytes) o (passed rows (refl, (refl, (refl, (refl, (refl, tt))))) p).1.1.1.1.0)
    (λ p.
    let i = named_as s cs w (active_live g.state (passed rows (refl, (refl, (refl, (refl, (refl, tt))))) p).1.0) in
    same_bytes 5 (take (S.send_count bytes) bytes) i (sequence_is s cs)
    ∙ ap (record_bytes 5 (last_instance s cs) (last_epoch s cs) (records_sent s cs)) (take_most 65536 bytes))

pub credit_writes : CreditWrites
unfolding step S.credit
credit_writes s cs w n o at =
    let g : GuestSession = (after (fresh s) cs).session in
    let rows = S.credit_rows g n o at in
    writes_fine (after (fresh s) cs).stage rows g _ _ _ _ o at
    (λ p. in_output at 48 o (passed rows (refl, (refl, (refl, (refl, (refl, tt))))) p).1.1.1.1.0)
    (λ p. same_bytes 9 (to_le 4 n) (named_as s cs w (active_live g.state (passed rows (refl, (refl, (refl, (refl, (refl, tt))))) p).1.0)) (sequence_is s cs))
