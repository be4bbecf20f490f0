-- The sums: accepted = credited + outstanding, and outstanding is within the window acknowledged; with any stages. Each thing that a
-- call can do (`Effect`) keeps the figures of the history and the session's own in step. Assumes nothing.
use Prim.Native.Nat.{ℕ, ◌+◌, ◌-◌, ◌≤◌}
use mathlib.Core.Path.{◌≡◌, refl, sym, ap, subst, ◌∙◌}
use mathlib.Core.Bool.{Bool, true, false}
use mathlib.Core.List.{List, [], ◌∷◌}
use native.Mathlib.Omega.{arith}
use lib.ListN.{length}
use borrow.Author.Tests.{leb-true}
use Rattle.wire.specs.Refusals.{pick, none, passes}
use Rattle.wire.specs.declared.Refusal.{Refusal}
use Rattle.record.specs.Record.{record_with}
use Rattle.record.specs.declared.Record.{Record}
use Rattle.parser.specs.Push.{Push, push_stage, payload_at}
use Rattle.guest_core.specs.State.{sound_guest}
use Rattle.guest_core.specs.Asks.{outstanding_of}
use Rattle.guest_core.specs.declared.GuestSession.{GuestSession}
use Rattle.claims.specs.GuestCalls.{Writing, Call, write, sent, Endpoint, Step, step, fresh}
use Rattle.claims.specs.GuestHistory.{after, trace, history, Tally, no_tally, count, count_sent}
use Rattle.claims.specs.GuestClaims.{Sums, SumsHold}
use Rattle.claims.proofs.Scans.{whole}
use Rattle.claims.proofs.GuestInvariant.{Invariant, invariant_sound}
use Rattle.claims.proofs.GuestEffects.{PushFacts, Effect, effect_of}
use Rattle.claims.proofs.GuestEffects.{refuses_receive, fails, waits, resets, hands, refuses_write, attaches, acks, sends, credits, stays_ended, closes, fails_buffered, tells}
use Rattle.claims.proofs.GuestSound.{invariant_next, invariant_after, fresh_invariant}

-- ---- the payload that a push hands out
module _ {g : GuestSession} {z piece h y : List ℕ} {u : Push} (t : PushFacts g z piece u (whole h y)) where
  -- as the caller has it, it is the record's payload, and as long as the record says
  pub handed_is : payload_at u.answer.place u.answer.«record».length piece (push_stage g.parser piece z) ≡ y
  handed_is = t.staged.lies t.matches.complete ∙ t.matches.payload

  pub handed_length : length (payload_at u.answer.place u.answer.«record».length piece (push_stage g.parser piece z)) ≡ u.answer.«record».length
  unfolding record_with
  handed_length = ap length handed_is ∙ t.matches.full ∙ sym (ap (λ (r : Record). r.length) t.matches.fields)

-- ---- one call
-- plain arithmetic: `omega` proves the record whole
pub record Figures (l : Tally) (g : GuestSession) : Type 0 where
  pub balance : l.accepted ≡ l.credited + g.outstanding
  pub bounded : g.outstanding ≤ g.window
  pub same : l.window ≡ g.window

refused_count : (l : Tally) (w : Writing) (o : List ℕ) (at : ℕ) (r : Refusal) (n next : ℕ) (bytes : List ℕ) → passes r ≡ false
    → count l (write w o at) (sent r n next bytes) ≡ l
unfolding count
refused_count l w o at r n next bytes e = ap (λ (t : Bool). pick t (count_sent l w) l) e

figures_step : {l : Tally} {e : Endpoint} {c : Call} {t : Step} → Effect e c t → Invariant e.session → Figures l e.session
    → Figures (count l c t.answer) t.after.session
unfolding count
figures_step (refuses_receive piece o lent r n) f s = omega arith
figures_step (fails piece o lent r u v n t) f s = omega arith
figures_step (waits piece o lent u t) f s = omega arith
figures_step (resets piece o lent u h y t k p) f s = omega arith
figures_step {l} {e} (hands piece o lent u h y t a k p) f s =
    let w : u.answer.«record».length ≤ e.session.window - e.session.outstanding = leb-true _ _ p.1.1.1.1.0 in
    omega (arith, handed_length t)
figures_step {l} {e} (refuses_write w o at r bytes n) f s = subst (λ (x : Tally). Figures x e.session) (sym (refused_count l w o at r 0 0 bytes n.0)) s
figures_step (attaches o at n next bytes d) f s = omega arith
figures_step {l} {e} (acks w o at n next bytes d ok) f s = let z : e.session.window ≡ 0 = f.idle d in omega arith
figures_step (sends bs o at n next bytes d) f s = omega arith
figures_step (credits m o at n next bytes d w) f s = omega arith
figures_step stays_ended f s = s
figures_step (closes d) f s = omega arith
figures_step (fails_buffered r n d) f s = omega arith
figures_step (tells q a n) f s = s

-- ---- lists of calls
pub figures_after : (l : Tally) (e : Endpoint) (cs : List Call) → Invariant e.session → Figures l e.session → Figures (history count l (trace e cs)) (after e cs).session
unfolding after trace history
figures_after l e [] f s = s
figures_after l e (c ∷ cs) f s = figures_after (count l c (step e c).answer) (step e c).after cs (invariant_next e c f) (figures_step (effect_of e f c) f s)

told_outstanding : (g : GuestSession) → sound_guest g ≡ true → outstanding_of g ≡ record { refusal = none; outstanding = g.outstanding }
unfolding outstanding_of
told_outstanding g e = rw e

pub sums : SumsHold
sums s cs =
    let k = figures_after no_tally (fresh s) cs fresh_invariant (omega arith) in
    subst (Sums (history count no_tally (trace (fresh s) cs))) (sym (told_outstanding _ (invariant_sound _ (invariant_after (fresh s) cs fresh_invariant))))
    (record { answered = refl; balance = k.balance; bounded = omega arith })
