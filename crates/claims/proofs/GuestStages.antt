-- The stage: a session's own keeps its length, and after a receive its first bytes are the payload bytes that the rule says are held. So
-- what a session answers does not depend on the contents of its stage otherwise (`stageless`). Assumes nothing.
use Prim.Native.Nat.{ℕ, ◌≤◌}
use mathlib.Core.Path.{◌≡◌, refl, ◌∙◌}
use mathlib.Core.Bool.{true}
use mathlib.Core.List.{List, [], ◌∷◌}
use lib.ListN.{length}
use borrow.Author.Tests.{leb-true}
use Rattle.wire.specs.Refusals.{first, passes}
use Rattle.outer.specs.Outer.{max_payload}
use Rattle.wire.specs.declared.Refusal.{Refusal}
use Rattle.wire.proofs.Rows.{passed, picked}
use Rattle.record.specs.Types.{code_of}
use Rattle.parser.specs.Push.{Push, push, push_stage, held_in, payload_at}
use Rattle.guest.specs.Checks.{reset_rows, data_rows}
use Rattle.guest.specs.Receive as R
use Rattle.guest_core.specs.declared.GuestSession.{GuestSession}
use Rattle.claims.specs.Reading.{Staged}
use Rattle.claims.specs.GuestCalls.{own, other, Call, Endpoint, Step, step}
use Rattle.claims.specs.GuestHistory.{after}
use Rattle.claims.proofs.Outcomes.{picked₂}
use Rattle.claims.proofs.Stages.{push_staged}
use Rattle.claims.proofs.GuestInvariant.{Invariant, invariant_ready, open_unfailed}
use Rattle.claims.proofs.GuestEffects.{Effect, effect_of}
use Rattle.claims.proofs.GuestEffects.{refuses_receive, fails, waits, resets, hands, refuses_write, attaches, acks, sends, credits, stays_ended, closes, fails_buffered, tells}
use Rattle.claims.proofs.GuestSound.{invariant_next}

-- ---- the length
room_step : {e : Endpoint} {c : Call} {t : Step} → Effect e c t → length t.after.stage ≡ length e.stage
room_step (refuses_receive piece o own r n) = refl
room_step (refuses_receive piece o (other z) r n) = refl
room_step (fails piece o own r u v n t) = t.staged.same_length
room_step (fails piece o (other z) r u v n t) = refl
room_step (waits piece o own u t) = t.staged.same_length
room_step (waits piece o (other z) u t) = refl
room_step (resets piece o own u h y t q p) = t.staged.same_length
room_step (resets piece o (other z) u h y t q p) = refl
room_step (hands piece o own u h y t a q p) = t.staged.same_length
room_step (hands piece o (other z) u h y t a q p) = refl
room_step (refuses_write w o at r bytes n) = refl
room_step (attaches o at n next bytes d) = refl
room_step (acks w o at n next bytes d ok) = refl
room_step (sends bs o at n next bytes d) = refl
room_step (credits m o at n next bytes d q) = refl
room_step stays_ended = refl
room_step (closes d) = refl
room_step (fails_buffered r n d) = refl
room_step (tells q a n) = refl

pub room_next : (e : Endpoint) (c : Call) → Invariant e.session → length (step e c).after.stage ≡ length e.stage
room_next e c f = room_step (effect_of e f c)

pub room_after : (e : Endpoint) (cs : List Call) → Invariant e.session → length (after e cs).stage ≡ length e.stage
unfolding after
room_after e [] f = refl
room_after e (c ∷ cs) f = room_after (step e c).after cs (invariant_next e c f) ∙ room_next e c f

-- ---- the payload bytes held, and the payload handed out
-- the stage left by a receive shows what the rule says
pub record StageAgrees (piece : List ℕ) (t : R.Receive) (left : List ℕ) : Type 0 where
  pub held : held_in t.answer.session.parser left ≡ t.held
  pub payload : payload_at t.answer.place t.answer.length piece left ≡ t.payload

module _ (g : GuestSession) (piece : List ℕ) (u : Push) (left : List ℕ) (room : ℕ) (l : Staged piece room u left) where
  agrees_fail : (r : Refusal) → StageAgrees piece (R.fail_with g u r) left
  agrees_fail r = record { held = l.held; payload = refl }

  agrees_accept : u.answer.complete ≡ true → StageAgrees piece (R.accept g u) left
  unfolding R.accept R.accept_reset R.accept_data
  agrees_accept c =
      picked (λ (t : R.Receive). StageAgrees piece t left) (passes (first (R.type_row g.state (code_of u.answer.«record».record_type) ∷ [])))
      (λ _. picked (λ (t : R.Receive). StageAgrees piece t left) (R.is_reset u.answer.«record»)
      (λ _. picked (λ (t : R.Receive). StageAgrees piece t left) (passes (first (reset_rows g.identity u.answer.«record»)))
      (λ _. record { held = l.held; payload = refl })
      (λ _. agrees_fail (first (reset_rows g.identity u.answer.«record»))))
      (λ _. picked (λ (t : R.Receive). StageAgrees piece t left) (passes (first (data_rows g u.answer.«record»)))
      (λ _. record { held = l.held; payload = l.lies c })
      (λ _. agrees_fail (first (data_rows g u.answer.«record»)))))
      (λ _. agrees_fail (first (R.type_row g.state (code_of u.answer.«record».record_type) ∷ [])))

  agrees_push : StageAgrees piece (R.after_push g u) left
  unfolding R.after_push
  agrees_push =
      picked (λ (t : R.Receive). StageAgrees piece t left) (passes u.answer.refusal)
      (λ _. picked (λ (t : R.Receive). StageAgrees piece t left) u.answer.complete agrees_accept (λ _. record { held = l.held; payload = refl }))
      (λ _. agrees_fail u.answer.refusal)

pub stage_agrees : (g : GuestSession) → Invariant g → (piece stage : List ℕ)
    → StageAgrees piece (R.receive g (length stage) (held_in g.parser stage) piece) (R.receive_stage g piece stage)
unfolding R.receive R.receive_stage
stage_agrees g f piece stage =
    let rows = R.receive_rows g (length stage) in
    picked₂ (StageAgrees piece) (passes (first rows))
    (λ p.
    let q = passed rows (refl, (refl, (refl, tt))) p in
    let room : max_payload ≤ length stage = leb-true max_payload (length stage) q.1.0 in
    agrees_push g piece (push g.parser (length stage) (held_in g.parser stage) piece) (push_stage g.parser piece stage) (length stage)
    (push_staged g.parser piece stage (invariant_ready g f (open_unfailed g.state q.1.1.0) stage room) room))
    (λ p. record { held = refl; payload = refl })
