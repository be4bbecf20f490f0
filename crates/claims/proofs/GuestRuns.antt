-- Two guests: after a RESET the session is a function of its 44 bytes, and nothing is held; so all later answers are a function of these
-- bytes and the calls (`stageless`), and RESETs that agree give the same answers to calls made alike. Assumes nothing.
use Prim.Native.Nat.{ℕ}
use mathlib.Core.Path.{◌≡◌, refl, sym, ap, ◌∙◌}
use mathlib.Core.Bool.{false}
use mathlib.Core.List.{List, [], ◌∷◌, ◌++◌}
use Rattle.std.specs.Prelude.{None}
use Rattle.record.specs.Record.{record_of}
use Rattle.parser.specs.Push.{parser_of, held_in}
use Rattle.guest_core.specs.State.{is_failed, reset_guest}
use Rattle.guest.specs.Event as Event
use Rattle.guest_core.specs.declared.GuestSession.{GuestSession}
use Rattle.claims.specs.GuestCalls.{own, other, Call, Answer, event_of, Endpoint, Step, step, fresh}
use Rattle.claims.specs.GuestHistory.{after, trace, history, OwnOrShorter, AllOwnOrShorter, Transcript, no_transcript, transcribe}
use Rattle.claims.specs.GuestClaims.{ResetRun, reached, reset_bytes, answers, GuestsAgree}
use Rattle.claims.proofs.GuestInvariant.{open_unfailed}
use Rattle.claims.proofs.GuestEffects.{Effect, effect_of}
use Rattle.claims.proofs.GuestEffects.{refuses_receive, fails, waits, resets, hands, refuses_write, attaches, acks, sends, credits, stays_ended, closes, fails_buffered, tells}
use Rattle.claims.proofs.GuestSound.{invariant_after, fresh_invariant}
use Rattle.claims.proofs.GuestStages.{room_after}
use Rattle.claims.proofs.GuestTaken.{StreamAt, reset_is}
use Rattle.claims.proofs.GuestStream.{Streams, stream_after, fresh_streams, too_short}
use Rattle.claims.proofs.GuestStageless.{stageless, answers_stageless, all_alike_stageless, all_alike_left, all_alike_right}

-- the session after a RESET of these bytes
abbrev pub reset_session : List ℕ → GuestSession
reset_session h = reset_guest (parser_of h 0 0 None) (record_of h)

reset_step : {l : Transcript} {e : Endpoint} {c : Call} {t : Step} → Effect e c t → OwnOrShorter c → (is_failed e.session.state ≡ false → StreamAt l e)
    → event_of t.answer ≡ Event.Reset → t.after.session ≡ reset_session (transcribe l c t.answer).reset
unfolding transcribe
reset_step (refuses_receive piece o lent r n) w k x = cc
reset_step (fails piece o lent r u v n t) w k x = cc
reset_step (waits piece o lent u t) w k x = cc
reset_step {l} {e} (resets piece o own u h y t q p) w k x =
    let s = k (open_unfailed e.session.state t.opened) in
    (λ j. reset_guest (t.matches.parser j) (t.matches.fields j)) ∙ ap reset_session (sym (reset_is l e.session e.stage piece u s h y t q))
reset_step (resets piece o (other z) u h y t q p) w k x = too_short t.room w
reset_step (hands piece o lent u h y t a q p) w k x = cc
reset_step (refuses_write wr o at r bytes n) w k x = cc
reset_step (attaches o at n next bytes d) w k x = cc
reset_step (acks v o at n next bytes d ok) w k x = cc
reset_step (sends bs o at n next bytes d) w k x = cc
reset_step (credits m o at n next bytes d q) w k x = cc
reset_step stays_ended w k x = cc
reset_step (closes d) w k x = cc
reset_step (fails_buffered r n d) w k x = cc
reset_step (tells q a n) w k x = cc

-- ---- a list and one call more
after_append : (e : Endpoint) (cs ds : List Call) → after e (cs ++ ds) ≡ after (after e cs) ds
unfolding after
after_append e [] ds = refl
after_append e (c ∷ cs) ds = after_append (step e c).after cs ds

history_append : {A : Type 0} (f : A → Call → Answer → A) (l : A) (e : Endpoint) (cs ds : List Call)
    → history f l (trace e (cs ++ ds)) ≡ history f (history f l (trace e cs)) (trace (after e cs) ds)
unfolding after trace history
history_append f l e [] ds = refl
history_append f l e (c ∷ cs) ds = history_append f (f l c (step e c).answer) (step e c).after cs ds

lent_front : (cs ds : List Call) → AllOwnOrShorter (cs ++ ds) → AllOwnOrShorter cs
lent_front [] ds w = tt
lent_front (c ∷ cs) ds w = (w.0, lent_front cs ds w.1)

lent_back : (cs ds : List Call) → AllOwnOrShorter (cs ++ ds) → AllOwnOrShorter ds
lent_back [] ds w = w
lent_back (c ∷ cs) ds w = lent_back cs ds w.1

-- ---- the claim
module _ (r : ResetRun) where
  abbrev before : Endpoint
  before = after (fresh r.stage) r.calls

  abbrev all : List Call
  all = r.calls ++ (r.last ∷ [])

  session : (reached r).session ≡ reset_session (reset_bytes r)
  unfolding after trace history Streams
  session =
      let w : AllOwnOrShorter r.calls = lent_front r.calls (r.last ∷ []) r.lent in
      ap (λ (e : Endpoint). e.session) (after_append (fresh r.stage) r.calls (r.last ∷ []))
      ∙ reset_step (effect_of before (invariant_after (fresh r.stage) r.calls fresh_invariant) r.last) (lent_back r.calls (r.last ∷ []) r.lent).0
      (stream_after no_transcript (fresh r.stage) r.calls w fresh_invariant (fresh_streams r.stage)) r.reports
      ∙ sym (ap (λ (l : Transcript). reset_session l.reset) (history_append transcribe no_transcript (fresh r.stage) r.calls (r.last ∷ [])))

  -- everything later is a function of the RESET's bytes and the calls
  answers_reset : (ds : List Call) → AllOwnOrShorter ds → answers (trace (reached r) ds) ≡ stageless (reset_session (reset_bytes r)) [] ds
  answers_reset ds w =
      answers_stageless (reached r) ds (invariant_after (fresh r.stage) all fresh_invariant) (room_after (fresh r.stage) all fresh_invariant ∙ r.room) w
      ∙ (λ j. stageless (session j) (held_in (session j).parser (reached r).stage) ds)

pub two_guests : GuestsAgree
two_guests r r' e ds ds' k =
    answers_reset r ds (all_alike_left k)
    ∙ ap (λ (h : List ℕ). stageless (reset_session h) [] ds) e
    ∙ all_alike_stageless k (reset_session (reset_bytes r')) []
    ∙ sym (answers_reset r' ds' (all_alike_right k))
