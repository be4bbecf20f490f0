-- What a guest's asks answer, and which calls change nothing. After every call the session's state and identity are what the folds give
-- (`state_is`, `identity_after_lem`), and a call that changes nothing leaves the same session and stage. Assumes nothing.
use Prim.Native.Nat.{ℕ}
use Rattle.std.specs.Prelude.{Option}
use mathlib.Core.Path.{◌≡◌, refl, sym, ap, subst, ◌∙◌}
use mathlib.Core.Bool.{true, false}
use mathlib.Core.List.{List, [], ◌∷◌}
use native.Mathlib.Omega.{arith}
use lib.ListN.{length}
use Rattle.wire.specs.Bytes.{Octets}
use Rattle.wire.specs.Refusals.{pick, none, first, passes}
use Rattle.parser.specs.Push.{held_in}
use Rattle.session.specs.declared.Identity.{Identity}
use Rattle.guest_core.specs.State.{is_active, is_ended, sound_guest}
use Rattle.guest.specs.Receive as R
use Rattle.guest_core.specs.Asks as A
use Rattle.guest_core.specs.Calls as C
use Rattle.guest_core.specs.declared.GuestState.{GuestState}
use Rattle.guest_core.specs.declared.GuestState.TheVariants as State
use Rattle.guest_core.specs.declared.GuestSession.{GuestSession}
use Rattle.guest_core.specs.Calls.{Closed}
use Rattle.guest_core.specs.Asks.{StateAnswer}
use Rattle.guest_core.specs.Asks.{IdentityAnswer}
use Rattle.guest_core.specs.Asks.{WindowAnswer}
use Rattle.claims.specs.GuestCalls.{Lent, own, other, Writing, Call, receive, write, disconnect, ask}
use Rattle.claims.specs.GuestCalls.{state, identity, window, told, refusal_of, Endpoint, endpoint, stage_of, stage_left, Step, step, fresh}
use Rattle.claims.specs.GuestHistory.{after, trace, history, no_tally}
use Rattle.claims.specs.GuestClaims.{answers}
use Rattle.claims.specs.GuestHistory.{tally_of}
use Rattle.claims.specs.States.{keeps_state, identity_after, window_in, StateTold, IdentityTold, WindowTold, Ended, in_closed, in_failed, Idle, RefusedChangesNothing}
use Rattle.claims.proofs.Outcomes.{picked₂, true_not_false}
use Rattle.claims.proofs.GuestInvariant.{Invariant, invariant_sound}
use Rattle.claims.proofs.GuestEffects.{Effect, effect_of}
use Rattle.claims.proofs.GuestEffects.{refuses_receive, fails, waits, resets, hands, refuses_write, attaches, acks, sends, credits, stays_ended, closes, fails_buffered, tells}
use Rattle.claims.proofs.GuestSound.{invariant_next, invariant_after, fresh_invariant}
use Rattle.claims.proofs.GuestSums.{Figures, figures_after}
use Rattle.claims.proofs.GuestStopped.{told_state_lem, state_is, pushed_fails}

ended : {s : GuestState} → Ended s → is_ended s ≡ true
ended in_closed = refl
ended in_failed = refl

-- what the folds give of a list from a fresh guest
module _ (s : List ℕ) (cs : List Call) where
  abbrev e : Endpoint
  e = after (fresh s) cs

  kept : Invariant e.session
  kept = invariant_after (fresh s) cs fresh_invariant

  figures_are : Figures (tally_of s cs) e.session
  figures_are = figures_after no_tally (fresh s) cs fresh_invariant (omega arith)

pub state_told_lem : StateTold
unfolding step
state_told_lem s cs =
    ap (λ (a : StateAnswer). told (state a)) (told_state_lem (e s cs).session (invariant_sound _ (kept s cs)))
    ∙ (λ j. told (state (record { refusal = none; state = state_is s cs j })))

-- ---- the identity and the window
identity_step : {e : Endpoint} {c : Call} {t : Step} → Effect e c t → identity_after e.session.identity c t.answer ≡ t.after.session.identity
unfolding identity_after
identity_step (refuses_receive piece o lent r n) = refl
identity_step (fails piece o lent r u v n t) = refl
identity_step (waits piece o lent u t) = refl
identity_step (resets piece o lent u h y t q p) = refl
identity_step (hands piece o lent u h y t a q p) = refl
identity_step (refuses_write w o at r bytes n) = refl
identity_step (attaches o at n next bytes d) = refl
identity_step (acks v o at n next bytes d ok) = refl
identity_step (sends bs o at n next bytes d) = refl
identity_step (credits m o at n next bytes d q) = refl
identity_step stays_ended = refl
identity_step (closes d) = refl
identity_step (fails_buffered r n d) = refl
identity_step (tells q a n) = refl

identity_after_lem : (e : Endpoint) (cs : List Call) → Invariant e.session
    → history identity_after e.session.identity (trace e cs) ≡ (after e cs).session.identity
unfolding after trace history
identity_after_lem e [] f = refl
identity_after_lem e (c ∷ cs) f =
    ap (λ (i : Option Identity). history identity_after i (trace (step e c).after cs)) (identity_step (effect_of e f c))
    ∙ identity_after_lem (step e c).after cs (invariant_next e c f)

told_identity_lem : (g : GuestSession) → sound_guest g ≡ true → A.identity_of g ≡ record { refusal = none; identity = g.identity }
unfolding A.identity_of
told_identity_lem g e = rw e

pub identity_told_lem : IdentityTold
unfolding step
identity_told_lem s cs =
    ap (λ (a : IdentityAnswer). told (identity a)) (told_identity_lem (e s cs).session (invariant_sound _ (kept s cs)))
    ∙ ap (λ (i : Option Identity). told (identity (record { refusal = none; identity = i }))) (sym (identity_after_lem (fresh s) cs fresh_invariant))

window_as : (s : GuestState) (w : ℕ) → pick (is_active s) (record { refusal = none; present = true; window = w }) (A.no_window none) ≡ window_in s w
window_as State.Detached w = refl
window_as State.Attaching w = refl
window_as State.Resetting w = refl
window_as State.Active w = refl
window_as State.Closed w = refl
window_as State.Failed w = refl

told_window : (g : GuestSession) → sound_guest g ≡ true → A.window_of g ≡ window_in g.state g.window
unfolding A.window_of
told_window g e = rw e (window_as g.state g.window)

pub window_told : WindowTold
unfolding step
window_told s cs =
    ap (λ (a : WindowAnswer). told (window a)) (told_window (e s cs).session (invariant_sound _ (kept s cs)))
    ∙ (λ j. told (window (window_in (state_is s cs j) (sym (figures_are s cs).same j))))

-- ---- calls that change nothing
-- in Closed or Failed
ended_disconnect : (g : GuestSession) → sound_guest g ≡ true → is_ended g.state ≡ true → C.disconnect g ≡ record { refusal = none; session = g }
unfolding C.disconnect
ended_disconnect g sound d = rw (sound, d)

same_end : (e : Endpoint) (lent : Lent) → endpoint e.session (stage_left lent e.stage (stage_of lent e.stage)) ≡ e
same_end e own = refl
same_end e (other z) = refl

receive_idle : (e : Endpoint) → Invariant e.session → (piece : List ℕ) (o : Octets piece) (lent : Lent) → keeps_state (refusal_of (step e (receive piece o lent)).answer) ≡ true
    → (step e (receive piece o lent)).after ≡ e
unfolding step R.receive_of R.receive R.receive_stage
receive_idle e f piece o lent =
    let g : GuestSession = e.session in
    let z : List ℕ = stage_of lent e.stage in
    picked₂ (λ (r : R.Receive) (left : List ℕ). keeps_state r.answer.refusal ≡ true → endpoint r.answer.session (stage_left lent e.stage left) ≡ e)
    (passes (first (R.receive_rows g (length z))))
    (λ p x. true_not_false (sym x ∙ pushed_fails g f (length z) (held_in g.parser z) piece p))
    (λ _ _. same_end e lent)

write_idle : {e : Endpoint} {w : Writing} {o : List ℕ} {at : ℕ} {t : Step} → Effect e (write w o at) t → passes (refusal_of t.answer) ≡ false → t.after ≡ e
write_idle (refuses_write w o at r bytes n) x = refl
write_idle (attaches o at n next bytes d) x = true_not_false x
write_idle (acks v o at n next bytes d ok) x = true_not_false x
write_idle (sends bs o at n next bytes d) x = true_not_false x
write_idle (credits m o at n next bytes d q) x = true_not_false x

call_idle : (e : Endpoint) → Invariant e.session → (c : Call) → Idle e.session.state c (step e c).answer → (step e c).after ≡ e
unfolding step
call_idle e f (receive piece o lent) x = receive_idle e f piece o lent x
call_idle e f (write w o at) x = write_idle (effect_of e f (write w o at)) x
call_idle e f disconnect x = ap (λ (r : Closed). endpoint r.session e.stage) (ended_disconnect e.session (invariant_sound _ f) (ended x))
call_idle e f (ask q) x = refl

pub idle : RefusedChangesNothing
idle s cs c x ds =
    ap (λ (z : Endpoint). answers (trace z ds))
    (call_idle (e s cs) (kept s cs) c (subst (λ (y : GuestState). Idle y c (step (e s cs) c).answer) (sym (state_is s cs)) x))
