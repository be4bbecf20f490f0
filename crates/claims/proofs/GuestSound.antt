-- Every session that calls from a fresh one reach has the invariant, hence is sound, and no call answers 23; with any stages. Each clause
-- of `invariant_step` is one thing that a call can do (`Effect`). Assumes nothing.
use Prim.Native.Nat.{ℕ, ◌-◌, ◌≤◌, ◌<◌}
use mathlib.Core.Path.{◌≡◌, refl, sym, ap, subst, ◌∙◌}
use mathlib.Core.Bool.{true}
use mathlib.Core.List.{List, [], ◌∷◌}
use native.Mathlib.Omega.{arith}
use lib.ListN.{length, replicate}
use lib.Dec.{leb}
use borrow.Author.Tests.{leb-true, eqb-false, lt-leb}
use Rattle.wire.specs.Bytes.{Octets}
use Rattle.wire.specs.Refusals.{refusal, first, passes}
use Rattle.outer.specs.Outer.{max_payload, window_ok}
use Rattle.wire.specs.declared.Refusal.{Refusal}
use Rattle.wire.proofs.Rows.{picked, and_right}
use Rattle.parser.specs.Push.{latched}
use Rattle.parser.proofs.Latches.{latch_sound}
use Rattle.claims.proofs.ParserSound.{empty}
use Rattle.parser.specs.Push.{Push, head_taken, head_with, held_in}
use Rattle.parser.specs.declared.RecordParser.{RecordParser}
use Rattle.session.specs.Checks.{holds}
use Rattle.guest_core.specs.State.{fresh_guest, sound_guest}
use Rattle.guest.specs.Receive.{Receive, receive_rows, receive, receive_of}
use Rattle.guest_core.specs.declared.GuestSession.{GuestSession}
use Rattle.claims.specs.GuestCalls.{Call, refusal_of, Endpoint, Step, step, fresh}
use Rattle.claims.specs.GuestHistory.{after}
use Rattle.claims.specs.GuestClaims.{AlwaysSound, ShorterRefused}
use Rattle.claims.proofs.Octets.{octets_overlay, octets_zeros}
use Rattle.claims.proofs.Scans.{Scan, unfinished, whole}
use Rattle.claims.proofs.Scans as Scans
use Rattle.claims.proofs.Outcomes.{true_not_false, ready_part}
use Rattle.claims.proofs.Pushes.{H-size}
use Rattle.claims.proofs.GuestInvariant.{ParserInvariant, Invariant, invariant_sound, detached_unfailed, resetting_unfailed, resetting_live, going_unfailed}
use Rattle.claims.proofs.GuestEffects.{PushFacts, Effect, effect_of}
use Rattle.claims.proofs.GuestEffects.{refuses_receive, fails, waits, resets, hands, refuses_write, attaches, acks, sends, credits, stays_ended, closes, fails_buffered, tells}

-- ---- the parser that a push leaves
module _ {g : GuestSession} (f : Invariant g) {piece : List ℕ} (o : Octets piece) where
  pub H-octets : Octets (head_with g.parser.header g.parser.header_len piece)
  unfolding head_with
  H-octets = octets_overlay g.parser.header g.parser.header_len (head_taken g.parser.header_len piece) piece f.parser.octets o

  pub push_leaves : {z : List ℕ} {u : Push} (v : Scan) → PushFacts g z piece u v → ParserInvariant u.answer.parser
  push_leaves unfinished t =
      record { sound = t.matches.ready.sound; size = t.matches.ready.size; octets = subst Octets (sym t.matches.header) H-octets }
  push_leaves (whole h y) t =
      subst ParserInvariant (sym t.matches.parser) (record { sound = empty h; size = t.matches.size; octets = subst Octets (sym t.matches.header) H-octets })
  push_leaves {z} (Scans.refused r) t =
      subst ParserInvariant (sym t.matches.parser)
      (record {
        sound = latch_sound _ r;
        size = H-size g.parser.header g.parser.header_len g.parser.payload_len (held_in g.parser z) piece f.parser.size t.ready.count (ready_part t.ready);
        octets = H-octets;
      })

-- a push that waits or completes a record latches no error
wait_clear : {g : GuestSession} {z piece : List ℕ} {u : Push} → PushFacts g z piece u unfinished → passes (latched u.answer.parser) ≡ true
wait_clear t = t.matches.ready.clear

whole_clear : {g : GuestSession} {z piece h y : List ℕ} {u : Push} → PushFacts g z piece u (whole h y) → passes (latched u.answer.parser) ≡ true
whole_clear t = ap (λ (p : RecordParser). passes (latched p)) t.matches.parser

-- ---- one call
window_low : (w : ℕ) → window_ok w ≡ true → w ≤ 4194314
unfolding window_ok
window_low w e = leb-true w 4194314 (and_right (leb 65536 w) (leb w 4194314) e)

invariant_step : {e : Endpoint} {c : Call} {t : Step} → Effect e c t → Invariant e.session → Invariant t.after.session
unfolding holds
invariant_step (refuses_receive piece o lent r n) f = f
invariant_step (fails piece o lent r u v n t) f =
    record { parser = push_leaves f o v t; clear = λ x. true_not_false x; limits = omega arith; idle = λ x. cc; named = λ x. cc }
invariant_step (waits piece o lent u t) f =
    record { parser = push_leaves f o unfinished t; clear = λ _. wait_clear t; limits = omega arith; idle = f.idle; named = f.named }
invariant_step (resets piece o lent u h y t k p) f =
    record { parser = push_leaves f o (whole h y) t; clear = λ _. whole_clear t; limits = omega arith; idle = λ _. refl; named = λ _. p.0 }
invariant_step {e} (hands piece o lent u h y t a k p) f =
    let w : u.answer.«record».length ≤ e.session.window - e.session.outstanding = leb-true _ _ p.1.1.1.1.0 in
    record { parser = push_leaves f o (whole h y) t; clear = λ _. whole_clear t; limits = omega arith; idle = f.idle; named = f.named }
invariant_step (refuses_write w o at r bytes n) f = f
invariant_step {e} (attaches o at n next bytes d) f =
    record { parser = f.parser; clear = λ _. f.clear (detached_unfailed e.session.state d); limits = omega arith; idle = λ x. cc; named = λ x. cc }
invariant_step {e} (acks w o at n next bytes d ok) f =
    let l = window_low w ok in
    record {
      parser = f.parser;
      clear = λ _. f.clear (resetting_unfailed e.session.state d);
      limits = omega arith;
      idle = λ x. cc;
      named = λ _. f.named (resetting_live e.session.state d);
    }
invariant_step (sends bs o at n next bytes d) f =
    record { parser = f.parser; clear = f.clear; limits = omega arith; idle = f.idle; named = f.named }
invariant_step (credits m o at n next bytes d l) f =
    record { parser = f.parser; clear = f.clear; limits = omega arith; idle = f.idle; named = f.named }
invariant_step stays_ended f = f
invariant_step {e} (closes d) f =
    record { parser = f.parser; clear = λ _. f.clear (going_unfailed e.session.state d); limits = omega arith; idle = λ x. cc; named = λ x. cc }
invariant_step (fails_buffered r n d) f =
    record { parser = f.parser; clear = λ x. true_not_false x; limits = omega arith; idle = λ x. cc; named = λ x. cc }
invariant_step (tells q a n) f = f

-- ---- lists of calls
pub invariant_next : (e : Endpoint) (c : Call) → Invariant e.session → Invariant (step e c).after.session
invariant_next e c f = invariant_step (effect_of e f c) f

pub invariant_after : (e : Endpoint) (cs : List Call) → Invariant e.session → Invariant (after e cs).session
unfolding after
invariant_after e [] f = f
invariant_after e (c ∷ cs) f = invariant_after (step e c).after cs (invariant_next e c f)

pub fresh_invariant : Invariant fresh_guest
fresh_invariant =
    record {
      parser = record { sound = empty (replicate 44 0); size = refl; octets = octets_zeros 44 };
      clear = λ _. refl;
      limits = omega arith;
      idle = λ _. refl;
      named = λ x. cc;
    }

-- no call answers 23
not_23 : {e : Endpoint} {c : Call} {t : Step} → Effect e c t → (refusal_of t.answer).number ≡ 23 → ⊥
not_23 (refuses_receive piece o lent r n) = eqb-false r.number 23 n.1
not_23 (fails piece o lent r u v n t) = eqb-false r.number 23 n.1
not_23 (waits piece o lent u t) = λ q. omega arith
not_23 (resets piece o lent u h y t k p) = λ q. omega arith
not_23 (hands piece o lent u h y t a k p) = λ q. omega arith
not_23 (refuses_write w o at r bytes n) = eqb-false r.number 23 n.1
not_23 (attaches o at n next bytes d) = λ q. omega arith
not_23 (acks w o at n next bytes d ok) = λ q. omega arith
not_23 (sends bs o at n next bytes d) = λ q. omega arith
not_23 (credits m o at n next bytes d l) = λ q. omega arith
not_23 stays_ended = λ q. omega arith
not_23 (closes d) = λ q. omega arith
not_23 (fails_buffered r n d) = eqb-false r.number 23 n.1
not_23 (tells q a n) = λ x. let z : ◌≡◌ {A = ℕ} 0 23 = ap (λ (r : Refusal). r.number) (sym n) ∙ x in omega arith

pub always_sound : AlwaysSound
always_sound s cs =
    let f = invariant_after (fresh s) cs fresh_invariant in
    (invariant_sound _ f, λ c. not_23 (effect_of (after (fresh s) cs) f c))

-- a receive that is lent a shorter stage
short_21 : (g : GuestSession) (n : ℕ) → sound_guest g ≡ true → n < max_payload → first (receive_rows g n) ≡ refusal 21 0 0 0
unfolding first
short_21 g n e l = rw (e, lt-leb max_payload n l)

pub shorter : ShorterRefused
unfolding step receive_of receive
shorter s cs piece o z l =
    let g = (after (fresh s) cs).session in
    let e = short_21 g (length z) (always_sound s cs).0 l in
    picked (λ (t : Receive). t.answer.refusal ≡ refusal 21 0 0 0) (passes (first (receive_rows g (length z))))
    (λ p. true_not_false (sym p ∙ ap (λ (r : Refusal). passes r) e)) (λ _. e)
