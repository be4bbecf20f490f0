-- A guest without its stage: the answers to a list of calls are a function of the session, the payload bytes held and the calls
-- (`stageless`), and calls made alike get the same from it, since what is written does not depend on what the output held before.
-- Assumes nothing.
use Prim.Native.Nat.{ℕ, ◌+◌, ◌-◌, ◌≤◌, ◌<◌}
use mathlib.Core.Path.{◌≡◌, refl, sym, ap, ◌∙◌}
use mathlib.Core.Bool.{Bool, true, false, ◌&&◌}
use mathlib.Core.List.{List, [], ◌∷◌, ◌++◌}
use native.Mathlib.Omega.{arith}
use lib.ListN.{length, take, drop, length-take}
use lib.Seq.{drop_at, take_at}
use lib.Dec.{leb, eqb}
use borrow.Author.Tests.{leb-true}
use Rattle.wire.specs.Bytes.{overlay}
use Rattle.wire.specs.Refusals.{pick, refusal, none, first, passes}
use Rattle.outer.specs.Outer.{max_payload, window_ok}
use Rattle.wire.specs.declared.Refusal.{Refusal}
use Rattle.wire.proofs.Rows.{passed, picked}
use Rattle.parser.specs.Push.{held_in, payload_at, buffered_of}
use Rattle.session.specs.Checks.{next_row}
use Rattle.guest_core.specs.State.{is_detached, is_resetting, is_active, is_ended, sound_guest}
use Rattle.guest.specs.Receive as R
use Rattle.guest_core.specs.Writes as W
use Rattle.guest_core.specs.Calls as C
use Rattle.guest_core.specs.Send as S
use Rattle.guest_core.specs.declared.GuestSession.{GuestSession}
use Rattle.guest_core.specs.Calls.{Closed}
use Rattle.claims.specs.GuestCalls.{own, other, Writing, attach, acknowledge, send, credit, Call, receive, write, disconnect, ask}
use Rattle.claims.specs.GuestCalls.{Answer, sent, closed, told, received_as, Endpoint, endpoint, Step, rule_of, tell, write_step, step}
use Rattle.claims.specs.GuestHistory.{trace, OwnOrShorter, AllOwnOrShorter}
use Rattle.claims.specs.GuestClaims.{Alike, receive_own, receive_short_lem, write_alike, disconnect_alike, ask_alike, AllAlike, none_alike, more_alike, answers}
use Rattle.claims.proofs.Outcomes.{picked₂}
use Rattle.claims.proofs.GuestInvariant.{Invariant}
use Rattle.claims.proofs.GuestSound.{invariant_next}
use Rattle.claims.proofs.GuestStages.{room_next, stage_agrees}

-- ---- one call
-- what a call gives, with the payload bytes held in the place of the stage
pub record Stageless : Type 0 where
  pub answer : Answer
  pub session : GuestSession
  pub held : List ℕ

abbrev stageless_receive : R.Receive → Stageless
stageless_receive t = record { answer = received_as t.answer t.payload; session = t.answer.session; held = t.held }

-- held are the payload bytes that have come
unfoldable pub stageless_step : GuestSession → List ℕ → Call → Stageless
stageless_step g held (receive piece o own) = stageless_receive (R.receive g max_payload held piece)
stageless_step g held (receive piece o (other z)) = record { answer = received_as (R.refused (first (R.receive_rows g (length z))) g) []; session = g; held = held }
stageless_step g held (write w o at) = let t : Step = write_step (rule_of w g o at) at [] in record { answer = t.answer; session = t.after.session; held = held }
stageless_step g held disconnect = let r : Closed = C.disconnect g in record { answer = closed r.refusal; session = r.session; held = held }
stageless_step g held (ask q) = record { answer = told (tell g q); session = g; held = held }

-- the same of a step with its stage
abbrev stageless_of : Step → Stageless
stageless_of t = record { answer = t.answer; session = t.after.session; held = held_in t.after.session.parser t.after.stage }

-- a receive that is lent a short stage is refused
short_stops : (g : GuestSession) (n : ℕ) → n < max_payload → passes (first (R.receive_rows g n)) ≡ false
short_stops g n l = go (passes (first (R.receive_rows g n))) refl
  where
    go : (t : Bool) → passes (first (R.receive_rows g n)) ≡ t → t ≡ false
    go true e = let q = leb-true max_payload n (passed (R.receive_rows g n) (refl, (refl, (refl, tt))) e).1.0 in absurd (omega arith)
    go false e = refl

short_receive : (g : GuestSession) (n : ℕ) (held piece : List ℕ) → n < max_payload
    → R.receive g n held piece ≡ record { answer = R.refused (first (R.receive_rows g n)) g; held = held; payload = [] }
unfolding R.receive
short_receive g n held piece l = rw (short_stops g n l)

-- the calls that write and disconnect leave the parser
writes_keep : (r : Refusal) (g g' : GuestSession) (n : ℕ) (bytes o : List ℕ) (at : ℕ) → g'.parser ≡ g.parser
    → (W.writes r g g' n bytes o at).sent.session.parser ≡ g.parser
unfolding W.writes
writes_keep r g g' n bytes o at e = picked (λ (t : W.Outcome). t.sent.session.parser ≡ g.parser) (passes r) (λ _. e) (λ _. refl)

writing_keeps : (w : Writing) (g : GuestSession) (o : List ℕ) (at : ℕ) → (rule_of w g o at).sent.session.parser ≡ g.parser
unfolding C.attach C.acknowledge S.send S.credit
writing_keeps attach g o at = writes_keep _ g _ _ _ o at refl
writing_keeps (acknowledge w) g o at = writes_keep _ g _ _ _ o at refl
writing_keeps (send bs) g o at = writes_keep _ g _ _ _ o at refl
writing_keeps (credit n) g o at = writes_keep _ g _ _ _ o at refl

disconnect_keeps : (g : GuestSession) → (C.disconnect g).session.parser ≡ g.parser
unfolding C.disconnect
disconnect_keeps g =
    picked Keeps (sound_guest g)
    (λ _. picked Keeps (is_ended g.state) (λ _. refl) (λ _. picked Keeps (eqb (buffered_of g.parser) 0) (λ _. refl) (λ _. refl)))
    (λ _. refl)
  where
    Keeps : Closed → Type 0
    Keeps r = r.session.parser ≡ g.parser

-- a call with its stage is the call without
stageless_is : (e : Endpoint) (c : Call) → Invariant e.session → length e.stage ≡ max_payload → OwnOrShorter c
    → stageless_of (step e c) ≡ stageless_step e.session (held_in e.session.parser e.stage) c
unfolding step stageless_step R.receive_of
stageless_is e (receive piece o own) f room w =
    let g = e.session in
    let t = R.receive g (length e.stage) (held_in g.parser e.stage) piece in
    let q = stage_agrees g f piece e.stage in
    (λ j. record { answer = received_as t.answer (q.payload j); session = t.answer.session; held = q.held j })
    ∙ ap (λ (n : ℕ). stageless_receive (R.receive g n (held_in g.parser e.stage) piece)) room
stageless_is e (receive piece o (other z)) f room w =
    let g = e.session in
    let q = short_receive g (length z) (held_in g.parser z) piece w in
    λ j.
    record {
      answer = received_as (q j).answer (payload_at (q j).answer.place (q j).answer.length piece (R.receive_stage g piece z));
      session = (q j).answer.session;
      held = held_in (q j).answer.session.parser e.stage;
    }
stageless_is e (write w o at) f room k =
    let r = rule_of w e.session o at in
    let q = writing_keeps w e.session o at in
    λ j. record { answer = (write_step r at []).answer; session = r.sent.session; held = held_in (q j) e.stage }
stageless_is e disconnect f room w =
    let r = C.disconnect e.session in
    let q = disconnect_keeps e.session in
    λ j. record { answer = closed r.refusal; session = r.session; held = held_in (q j) e.stage }
stageless_is e (ask q) f room w = refl

-- ---- calls made alike
-- what is written stands there whatever the output held
written_is : (o bytes : List ℕ) (at : ℕ) → at ≤ length o → take (at + length bytes - at) (drop at (overlay o at bytes)) ≡ bytes
unfolding overlay
written_is o bytes at l =
    let n : at + length bytes - at ≡ length bytes = omega arith in
    let w : length (take at o) ≡ at = simp length-take (omega arith) in
    (λ j. take (n j) (drop_at (take at o) (bytes ++ drop (at + length bytes) o) at w j)) ∙ take_at bytes (drop (at + length bytes) o) (length bytes) refl

nothing_written : (o : List ℕ) (at : ℕ) → take (0 - at) (drop at o) ≡ []
nothing_written o at = let n : 0 - at ≡ 0 = omega arith in ap (λ (k : ℕ). take k (drop at o)) n

-- a call that writes, by its refusal
abbrev sent_step : Refusal → GuestSession → GuestSession → ℕ → List ℕ → ℕ → Step
sent_step r g g' n bytes at =
    pick (passes r)
    (record { answer = sent none n (at + length bytes) bytes; after = endpoint g' [] })
    (record { answer = sent r 0 0 []; after = endpoint g [] })

writes_as : (rows : List (Bool × Refusal)) (g g' : GuestSession) (n : ℕ) (bytes o : List ℕ) (at : ℕ) → (passes (first rows) ≡ true → at ≤ length o)
    → write_step (W.writes (first rows) g g' n bytes o at) at [] ≡ sent_step (first rows) g g' n bytes at
unfolding W.writes
writes_as rows g g' n bytes o at k =
    picked₂ (λ (t : W.Outcome) (x : Step). write_step t at [] ≡ x) (passes (first rows))
    (λ p j. record { answer = sent none n (at + length bytes) (written_is o bytes at (k p) j); after = endpoint g' [] })
    (λ p j. record { answer = sent (first rows) 0 0 (nothing_written o at j); after = endpoint g [] })

-- rows that look at the output's length alone, and let a record pass only where the position is in the output
alike_writes : (rows : ℕ → List (Bool × Refusal)) (g g' : GuestSession) (n : ℕ) (bytes o o' : List ℕ) (at : ℕ)
    → ((m : ℕ) → passes (first (rows m)) ≡ true → at ≤ m) → length o ≡ length o'
    → write_step (W.writes (first (rows (length o))) g g' n bytes o at) at [] ≡ write_step (W.writes (first (rows (length o'))) g g' n bytes o' at) at []
alike_writes rows g g' n bytes o o' at k e =
    writes_as (rows (length o)) g g' n bytes o at (k (length o))
    ∙ ap (λ (m : ℕ). sent_step (first (rows m)) g g' n bytes at) e
    ∙ sym (writes_as (rows (length o')) g g' n bytes o' at (k (length o')))

room_last : (at n m : ℕ) → leb (at + n) m ≡ true → at ≤ m
room_last at n m e = omega (arith, leb-true (at + n) m e)

alike_writing : (w : Writing) (g : GuestSession) (o o' : List ℕ) (at : ℕ) → length o ≡ length o'
    → write_step (rule_of w g o at) at [] ≡ write_step (rule_of w g o' at) at []
unfolding C.attach C.acknowledge S.send S.credit
alike_writing attach g o o' at =
    let rows : ℕ → List (Bool × Refusal) = λ m. W.sound_row g ∷ (is_detached g.state, refusal 20 0 0 0) ∷ (leb (at + 44) m, refusal 22 0 0 0) ∷ [] in
    alike_writes rows g _ _ _ o o' at (λ m e. room_last at 44 m (passed (rows m) (refl, (refl, (refl, tt))) e).1.1.0)
alike_writing (acknowledge w) g o o' at =
    let rows : ℕ → List (Bool × Refusal) = λ m.
    W.sound_row g ∷ (is_resetting g.state, refusal 20 0 0 0) ∷ (window_ok w, refusal 8 w 0 0) ∷ (leb (at + 48) m, refusal 22 0 0 0) ∷ []
    in
    alike_writes rows g _ _ _ o o' at (λ m e. room_last at 48 m (passed (rows m) (refl, (refl, (refl, (refl, tt)))) e).1.1.1.0)
alike_writing (send bs) g o o' at =
    let n = 44 + S.send_count bs in
    let rows : ℕ → List (Bool × Refusal) = λ m.
    W.sound_row g ∷
    (is_active g.state, refusal 20 0 0 0) ∷
    next_row 5 g.send_sequence.0 ∷ (leb 1 (length bs), refusal 5 5 0 0) ∷ (leb (at + n) m, refusal 22 0 0 0) ∷ []
    in
    alike_writes rows g _ _ _ o o' at (λ m e. room_last at n m (passed (rows m) (refl, (refl, (refl, (refl, (refl, tt))))) e).1.1.1.1.0)
alike_writing (credit n) g o o' at =
    let rows : ℕ → List (Bool × Refusal) = λ m.
    W.sound_row g ∷
    (is_active g.state, refusal 20 0 0 0) ∷
    (leb 1 n && leb n g.outstanding, refusal 18 g.outstanding n 0) ∷ next_row 9 g.send_sequence.0 ∷ (leb (at + 48) m, refusal 22 0 0 0) ∷ []
    in
    alike_writes rows g _ _ _ o o' at (λ m e. room_last at 48 m (passed (rows m) (refl, (refl, (refl, (refl, (refl, tt))))) e).1.1.1.1.0)

alike_stageless : {c d : Call} → Alike c d → (g : GuestSession) (held : List ℕ) → stageless_step g held c ≡ stageless_step g held d
unfolding stageless_step
alike_stageless (receive_own piece o o') g held = refl
alike_stageless (receive_short_lem piece o o' z z' l q) g held =
    λ j. record { answer = received_as (R.refused (first (R.receive_rows g (q j))) g) []; session = g; held = held }
alike_stageless (write_alike w o o' at q) g held =
    let k = alike_writing w g o o' at q in
    λ j. record { answer = (k j).answer; session = (k j).after.session; held = held }
alike_stageless disconnect_alike g held = refl
alike_stageless (ask_alike q) g held = refl

-- ---- lists of calls
unfoldable pub stageless : GuestSession → List ℕ → List Call → List Answer
stageless g held [] = []
stageless g held (c ∷ cs) = let t : Stageless = stageless_step g held c in t.answer ∷ stageless t.session t.held cs

abbrev continued : List Call → Stageless → List Answer
continued cs t = t.answer ∷ stageless t.session t.held cs

pub answers_stageless : (e : Endpoint) (cs : List Call) → Invariant e.session → length e.stage ≡ max_payload → AllOwnOrShorter cs
    → answers (trace e cs) ≡ stageless e.session (held_in e.session.parser e.stage) cs
unfolding trace stageless
answers_stageless e [] f room w = refl
answers_stageless e (c ∷ cs) f room w =
    ap (λ (xs : List Answer). (step e c).answer ∷ xs) (answers_stageless (step e c).after cs (invariant_next e c f) (room_next e c f ∙ room) w.1)
    ∙ ap (continued cs) (stageless_is e c f room w.0)

pub all_alike_stageless : {cs ds : List Call} → AllAlike cs ds → (g : GuestSession) (held : List ℕ) → stageless g held cs ≡ stageless g held ds
unfolding stageless
all_alike_stageless none_alike g held = refl
all_alike_stageless (more_alike {c} {d} {cs} {ds} k ks) g held =
    ap (continued cs) (alike_stageless k g held)
    ∙ ap (λ (xs : List Answer). (stageless_step g held d).answer ∷ xs) (all_alike_stageless ks (stageless_step g held d).session (stageless_step g held d).held)

-- calls made alike are lent the session's own stage or a shorter one, on either side
alike_lent : {c d : Call} → Alike c d → OwnOrShorter c × OwnOrShorter d
alike_lent (receive_own piece o o') = (tt, tt)
alike_lent (receive_short_lem piece o o' z z' l q) = (l, omega arith)
alike_lent (write_alike w o o' at q) = (tt, tt)
alike_lent disconnect_alike = (tt, tt)
alike_lent (ask_alike q) = (tt, tt)

pub all_alike_left : {cs ds : List Call} → AllAlike cs ds → AllOwnOrShorter cs
all_alike_left none_alike = tt
all_alike_left (more_alike k ks) = ((alike_lent k).0, all_alike_left ks)

pub all_alike_right : {cs ds : List Call} → AllAlike cs ds → AllOwnOrShorter ds
all_alike_right none_alike = tt
all_alike_right (more_alike k ks) = ((alike_lent k).1, all_alike_right ks)
