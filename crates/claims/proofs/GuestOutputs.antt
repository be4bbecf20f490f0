-- What a call takes, what it hands out and what it leaves in the output: a piece whole, where nothing is reported; a payload with Data
-- alone; and the bytes written at the position, all others as they were. For the output's length the identity's instance must be 16 bytes long, which every call keeps so. Assumes nothing.
use Prim.Native.Nat.{ℕ, ◌+◌, ◌-◌, ◌≤◌}
use mathlib.Core.Path.{◌≡◌, refl, sym, ap, ◌∙◌}
use mathlib.Core.Bool.{Bool, true}
use mathlib.Core.List.{List, [], ◌∷◌}
use native.Mathlib.Omega.{arith}
use lib.ListN.{length, take, drop, replicate, length-take}
use borrow.Author.Tests.{leb-true}
use Rattle.wire.specs.Bytes.{overlay, to_le, Octets}
use Rattle.session.specs.Checks.{held}
use Rattle.wire.specs.Refusals.{first, passes}
use Rattle.wire.specs.Header.{instance_of}
use Rattle.wire.specs.declared.Refusal.{Refusal}
use Rattle.wire.proofs.Rows.{picked, passed}
use Rattle.wire.proofs.NumberLaws.{length_to}
use Rattle.record.specs.Record.{record_with}
use Rattle.record.specs.declared.Record.{Record}
use Rattle.guest_core.specs.Writes as W
use Rattle.guest_core.specs.Calls as C
use Rattle.guest_core.specs.Send as S
use Rattle.guest_core.specs.declared.GuestSession.{GuestSession}
use Rattle.claims.specs.GuestCalls.{Lent, Writing, attach, acknowledge, send, credit, Call, receive, write, Endpoint, Step, write_step, step, fresh}
use Rattle.claims.specs.GuestHistory.{after}
use Rattle.claims.specs.Release.{TakesItsPiece, PiecesTaken, OnlyDataHands, PayloadsWithData, output_after, Leaves, OutputsKept}
use Rattle.claims.proofs.Outcomes.{true_not_false}
use Rattle.claims.proofs.Outputs.{laid_back, laid_length, record_length}
use Rattle.claims.proofs.GuestInvariant.{Invariant}
use Rattle.claims.proofs.GuestEffects.{Effect, effect_of}
use Rattle.claims.proofs.GuestEffects.{refuses_receive, fails, waits, resets, hands, refuses_write, attaches, acks, sends, credits, stays_ended, closes, fails_buffered, tells}
use Rattle.claims.proofs.GuestSound.{invariant_next, invariant_after, fresh_invariant}

-- ---- payloads
only_data : {e : Endpoint} {c : Call} {t : Step} → Effect e c t → OnlyDataHands t.answer
only_data (refuses_receive piece o lent r n) = record { other_event = λ _. refl; refused = λ _. refl; no_event = λ _. refl; none_taken = λ _. refl }
only_data (fails piece o lent r u v n t) = record { other_event = λ _. refl; refused = λ _. refl; no_event = λ _. refl; none_taken = λ _. refl }
only_data (waits piece o lent u t) = record { other_event = λ _. refl; refused = λ _. refl; no_event = λ _. refl; none_taken = λ x. true_not_false x }
only_data (resets piece o lent u h y t q p) = record { other_event = λ _. refl; refused = λ _. refl; no_event = λ x. true_not_false x; none_taken = λ x. true_not_false x }
only_data (hands piece o lent u h y t a q p) = record { other_event = λ n. absurd (n refl); refused = λ x. true_not_false x; no_event = λ x. true_not_false x; none_taken = λ x. true_not_false x }
only_data (refuses_write w o at r bytes n) = record { other_event = λ _. refl; refused = λ _. refl; no_event = λ _. refl; none_taken = λ _. refl }
only_data (attaches o at n next bytes d) = record { other_event = λ _. refl; refused = λ _. refl; no_event = λ _. refl; none_taken = λ _. refl }
only_data (acks v o at n next bytes d ok) = record { other_event = λ _. refl; refused = λ _. refl; no_event = λ _. refl; none_taken = λ _. refl }
only_data (sends bs o at n next bytes d) = record { other_event = λ _. refl; refused = λ _. refl; no_event = λ _. refl; none_taken = λ _. refl }
only_data (credits m o at n next bytes d q) = record { other_event = λ _. refl; refused = λ _. refl; no_event = λ _. refl; none_taken = λ _. refl }
only_data stays_ended = record { other_event = λ _. refl; refused = λ _. refl; no_event = λ _. refl; none_taken = λ _. refl }
only_data (closes d) = record { other_event = λ _. refl; refused = λ _. refl; no_event = λ _. refl; none_taken = λ _. refl }
only_data (fails_buffered r n d) = record { other_event = λ _. refl; refused = λ _. refl; no_event = λ _. refl; none_taken = λ _. refl }
only_data (tells q a n) = record { other_event = λ _. refl; refused = λ _. refl; no_event = λ _. refl; none_taken = λ _. refl }

pub payloads : PayloadsWithData
payloads s cs c = only_data (effect_of (after (fresh s) cs) (invariant_after (fresh s) cs fresh_invariant) c)

-- ---- pieces
takes_piece : {e : Endpoint} {piece : List ℕ} {o : Octets piece} {lent : Lent} {t : Step} → Effect e (receive piece o lent) t → TakesItsPiece piece t.answer
takes_piece (refuses_receive piece o lent r n) = record { waiting = λ p _. true_not_false (sym p ∙ n.0); reporting = λ x. absurd (x refl); within = omega arith }
takes_piece (fails piece o lent r u v n t) = record { waiting = λ p _. true_not_false (sym p ∙ n.0); reporting = λ x. absurd (x refl); within = omega arith }
takes_piece (waits piece o lent u t) = record { waiting = λ _ _. t.matches.taken; reporting = λ x. absurd (x refl); within = omega (arith, t.matches.taken) }
takes_piece (resets piece o lent u h y t q p) =
    record { waiting = λ _ x. (let z : ◌≡◌ {A = ℕ} 0 1 = cc in absurd (omega arith)); reporting = λ _. t.matches.some; within = t.matches.within }
takes_piece (hands piece o lent u h y t a q p) =
    record { waiting = λ _ x. (let z : ◌≡◌ {A = ℕ} 0 1 = cc in absurd (omega arith)); reporting = λ _. t.matches.some; within = t.matches.within }

pub pieces : PiecesTaken
pieces s cs piece o lent = takes_piece (effect_of (after (fresh s) cs) (invariant_after (fresh s) cs fresh_invariant) (receive piece o lent))

-- ---- the identity's instance is 16 bytes long
abbrev Sized : GuestSession → Type 0
Sized g = length (held g.identity).instance_id ≡ 16

sized_step : {e : Endpoint} {c : Call} {t : Step} → Effect e c t → Sized e.session → Sized t.after.session
unfolding record_with instance_of
sized_step (refuses_receive piece o lent r n) z = z
sized_step (fails piece o lent r u v n t) z = z
sized_step (waits piece o lent u t) z = z
sized_step (resets piece o lent u h y t q p) z = ap (λ (r : Record). length r.instance_id) t.matches.fields
sized_step (hands piece o lent u h y t a q p) z = z
sized_step (refuses_write w o at r bytes n) z = z
sized_step (attaches o at n next bytes d) z = z
sized_step (acks v o at n next bytes d ok) z = z
sized_step (sends bs o at n next bytes d) z = z
sized_step (credits m o at n next bytes d q) z = z
sized_step stays_ended z = z
sized_step (closes d) z = z
sized_step (fails_buffered r n d) z = z
sized_step (tells q a n) z = z

sized_after : (e : Endpoint) (cs : List Call) → Invariant e.session → Sized e.session → Sized (after e cs).session
unfolding after
sized_after e [] f z = z
sized_after e (c ∷ cs) f z = sized_after (step e c).after cs (invariant_next e c f) (sized_step (effect_of e f c) z)

-- ---- outputs
module _ (stage : List ℕ) (rows : List (Bool × Refusal)) (g g' : GuestSession) (n : ℕ) (bytes o : List ℕ) (at : ℕ)
    (room : passes (first rows) ≡ true → at + length bytes ≤ length o) where
  abbrev Fine : W.Outcome → Type 0
  Fine x = Leaves o at (write_step x at stage).answer x.output

  writes_leave : Fine (W.writes (first rows) g g' n bytes o at)
  unfolding W.writes
  writes_leave =
      picked Fine (passes (first rows))
      (λ p.
      record {
        laid = λ _. ap (overlay o at) (sym (laid_back o at bytes (room p)));
        refused = λ x. true_not_false x;
        same_length = laid_length o at bytes (room p);
      })
      (λ p.
      let z : 0 - at ≡ 0 = omega arith in
      record { laid = λ x. true_not_false (sym x ∙ p); refused = λ _. (refl, ap (λ (i : ℕ). take i (drop at o)) z); same_length = refl })

leave_as : (e : Endpoint) → Sized e.session → (w : Writing) (o : List ℕ) (at : ℕ) → Leaves o at (step e (write w o at)).answer (output_after e w o at)
unfolding step C.attach C.acknowledge S.send S.credit
leave_as e z attach o at =
    let g = e.session in
    let rows = C.attach_rows g o at in
    let l = record_length 1 (replicate 16 0) 0 0 [] refl in
    writes_leave e.stage rows g _ _ _ o at
    (λ p. let r : at + 44 ≤ length o = leb-true (at + 44) (length o) (passed rows (refl, (refl, (refl, tt))) p).1.1.0 in omega (arith, l))
leave_as e z (acknowledge w) o at =
    let g = e.session in
    let rows = C.ack_rows g w o at in
    let l = record_length 4 (held g.identity).instance_id (held g.identity).epoch.0 0 (to_le 4 w) z in
    writes_leave e.stage rows g _ _ _ o at
    (λ p. let r : at + 48 ≤ length o = leb-true (at + 48) (length o) (passed rows (refl, (refl, (refl, (refl, tt)))) p).1.1.1.0 in omega (arith, l, length_to 4 w))
leave_as e z (send bs) o at =
    let g = e.session in
    let rows = S.send_rows g bs o at in
    let k : ℕ = S.send_count bs in
    let l = record_length 5 (held g.identity).instance_id (held g.identity).epoch.0 g.send_sequence.0 (take k bs) z in
    let m : length (take k bs) ≡ k = simp length-take (omega arith) in
    writes_leave e.stage rows g _ _ _ o at
    (λ p. let r : at + (44 + k) ≤ length o = leb-true (at + (44 + k)) (length o) (passed rows (refl, (refl, (refl, (refl, (refl, tt))))) p).1.1.1.1.0 in omega (arith, l, m))
leave_as e z (credit m) o at =
    let g = e.session in
    let rows = S.credit_rows g m o at in
    let l = record_length 9 (held g.identity).instance_id (held g.identity).epoch.0 g.send_sequence.0 (to_le 4 m) z in
    writes_leave e.stage rows g _ _ _ o at
    (λ p. let r : at + 48 ≤ length o = leb-true (at + 48) (length o) (passed rows (refl, (refl, (refl, (refl, (refl, tt))))) p).1.1.1.1.0 in omega (arith, l, length_to 4 m))

pub outputs : OutputsKept
outputs s cs w o at = leave_as (after (fresh s) cs) (sized_after (fresh s) cs fresh_invariant refl) w o at
