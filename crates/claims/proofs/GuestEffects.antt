-- What one call does, with what is known where it does it: every claim about lists of calls goes by these cases. The session has the
-- `Invariant`, so that no call answers 23 and a push tells what it took. Assumes nothing.
use Prim.Native.Nat.{ℕ, ◌-◌, ◌≤◌}
use mathlib.Core.Path.{◌≡◌, refl, sym, ap, subst, ◌∙◌}
use mathlib.Core.Bool.{Bool, true, false, ◌&&◌, ◌||◌}
use mathlib.Core.List.{List, [], ◌∷◌, ◌++◌}
use native.Mathlib.Omega.{arith}
use lib.ListN.{length}
use lib.Dec.{leb, eqb}
use borrow.Author.Tests.{leb-true, eqb-true, ne_eqb}
use Rattle.wire.specs.Bytes.{Octets}
use Rattle.wire.specs.Refusals.{refusal, none, first, passes}
use Rattle.outer.specs.Outer.{max_payload, window_ok}
use Rattle.wire.specs.declared.Refusal.{Refusal}
use Rattle.wire.proofs.Rows.{Passed, Numbered, passed, picked, and_left, and_right}
use Rattle.record.specs.Types.{code_of}
use Rattle.parser.specs.Push.{Push, push, push_stage, head_with, held_in, buffered_of}
use Rattle.parser.specs.declared.Place.TheVariants.{Piece}
use Rattle.session.specs.Checks.{no_identity, identity_of}
use Rattle.guest_core.specs.State.{is_detached, is_resetting, is_active, is_open, is_ended, sound_guest, with_state, reset_guest, data_guest, ack_guest, sent_guest}
use Rattle.guest.specs.Checks.{reset_rows, data_rows}
use Rattle.guest.specs.Receive as R
use Rattle.guest_core.specs.Writes as W
use Rattle.guest_core.specs.Calls as C
use Rattle.guest_core.specs.Send as S
use Rattle.guest_core.specs.Asks as A
use Rattle.guest_core.specs.declared.GuestState.TheVariants as State
use Rattle.guest.specs.Event as Event
use Rattle.guest_core.specs.declared.GuestSession.{GuestSession}
use Rattle.guest.specs.Receive.{Received}
use Rattle.guest_core.specs.Calls.{Closed}
use Rattle.guest_core.specs.Asks.{WindowAnswer}
use Rattle.claims.specs.Reading.{held_bytes, Ready, Staged}
use Rattle.claims.specs.GuestCalls.{Lent, Writing, attach, acknowledge, send, credit, Call, receive, write, disconnect, ask}
use Rattle.claims.specs.GuestCalls.{Ask, ask_state, ask_identity, ask_window, ask_outstanding, ask_needed}
use Rattle.claims.specs.GuestCalls.{Told, told_refusal, sent, closed, told, Endpoint, endpoint, Step, stage_of, tell, receive_step, write_step, step}
use Rattle.claims.proofs.Scans.{Scan, unfinished, whole, scan}
use Rattle.claims.proofs.Scans as Scans
use Rattle.claims.proofs.Outcomes as Outcomes
use Rattle.claims.proofs.Outcomes.{picked₂, true_not_false}
use Rattle.claims.proofs.Pushes.{push_matches}
use Rattle.claims.proofs.Stages.{push_staged}
use Rattle.claims.proofs.GuestInvariant.{Invariant, invariant_sound, invariant_ready, open_unfailed}

-- a refusal, and not 23
abbrev pub Stops : Refusal → Type 0
Stops r = (passes r ≡ false) × (eqb r.number 23 ≡ false)

-- a push of a receive that is lent the stage z: v is what the bytes held and the piece read as
pub record PushFacts (g : GuestSession) (z piece : List ℕ) (u : Push) (v : Scan) : Type 0 where
  pub opened : is_open g.state ≡ true
  pub room : max_payload ≤ length z
  pub ready : Ready g.parser (held_in g.parser z)
  pub matches : Outcomes.Matches (held_bytes g.parser (held_in g.parser z)) piece (head_with g.parser.header g.parser.header_len piece) u v
  pub staged : Staged piece (length z) u (push_stage g.parser piece z)

-- the step of a receive that answers r and leaves the stage lent as push leaves it
abbrev pub push_step : Endpoint → List ℕ → Lent → Received → Step
push_step e piece lent r = receive_step (R.outcome r (push_stage e.session.parser piece (stage_of lent e.stage))) piece lent e.stage

pub data Effect (e : Endpoint) : Call → Step → Type 0 where
  -- receive
  refuses_receive : (piece : List ℕ) (o : Octets piece) (lent : Lent) (r : Refusal) → Stops r
      → Effect e (receive piece o lent) (receive_step (R.outcome (R.refused r e.session) (stage_of lent e.stage)) piece lent e.stage)
  fails : (piece : List ℕ) (o : Octets piece) (lent : Lent) (r : Refusal) (u : Push) (v : Scan) → Stops r
      → PushFacts e.session (stage_of lent e.stage) piece u v
      → Effect e (receive piece o lent) (push_step e piece lent (R.refused r (with_state e.session State.Failed u.answer.parser)))
  waits : (piece : List ℕ) (o : Octets piece) (lent : Lent) (u : Push) → PushFacts e.session (stage_of lent e.stage) piece u unfinished
      → Effect e (receive piece o lent)
      (push_step e piece lent (R.answered none u.answer.consumed Event.Nothing no_identity (Piece 0) 0 (with_state e.session e.session.state u.answer.parser)))
  resets : (piece : List ℕ) (o : Octets piece) (lent : Lent) (u : Push) (h y : List ℕ) → PushFacts e.session (stage_of lent e.stage) piece u (whole h y)
      → code_of u.answer.«record».record_type ≡ 3 → Passed (reset_rows e.session.identity u.answer.«record»)
      → Effect e (receive piece o lent)
      (push_step e piece lent
      (R.answered none u.answer.consumed Event.Reset (identity_of u.answer.«record») (Piece 0) 0
      (reset_guest u.answer.parser u.answer.«record»)))
  hands : (piece : List ℕ) (o : Octets piece) (lent : Lent) (u : Push) (h y : List ℕ) → PushFacts e.session (stage_of lent e.stage) piece u (whole h y)
      → is_active e.session.state ≡ true → code_of u.answer.«record».record_type ≡ 5 → Passed (data_rows e.session u.answer.«record»)
      → Effect e (receive piece o lent)
      (push_step e piece lent
      (R.answered none u.answer.consumed Event.Data no_identity u.answer.place u.answer.«record».length
      (data_guest e.session u.answer.parser u.answer.«record».length)))
  -- calls that write
  refuses_write : (w : Writing) (o : List ℕ) (at : ℕ) (r : Refusal) (bytes : List ℕ) → Stops r → Effect e (write w o at) (record { answer = sent r 0 0 bytes; after = e })
  attaches : (o : List ℕ) (at n next : ℕ) (bytes : List ℕ) → is_detached e.session.state ≡ true
      → Effect e (write attach o at) (record { answer = sent none n next bytes; after = endpoint (with_state e.session State.Attaching e.session.parser) e.stage })
  acks : (w : ℕ) (o : List ℕ) (at n next : ℕ) (bytes : List ℕ) → is_resetting e.session.state ≡ true → window_ok w ≡ true
      → Effect e (write (acknowledge w) o at) (record { answer = sent none n next bytes; after = endpoint (ack_guest e.session w) e.stage })
  sends : (bs o : List ℕ) (at n next : ℕ) (bytes : List ℕ) → is_active e.session.state ≡ true
      → Effect e (write (send bs) o at) (record { answer = sent none n next bytes; after = endpoint (sent_guest e.session e.session.outstanding) e.stage })
  credits : (m : ℕ) (o : List ℕ) (at n next : ℕ) (bytes : List ℕ) → is_active e.session.state ≡ true → m ≤ e.session.outstanding
      → Effect e (write (credit m) o at) (record { answer = sent none n next bytes; after = endpoint (sent_guest e.session (e.session.outstanding - m)) e.stage })
  -- disconnect
  stays_ended : Effect e disconnect (record { answer = closed none; after = e })
  closes : is_ended e.session.state ≡ false
      → Effect e disconnect (record { answer = closed none; after = endpoint (with_state e.session State.Closed e.session.parser) e.stage })
  fails_buffered : (r : Refusal) → Stops r → is_ended e.session.state ≡ false
      → Effect e disconnect (record { answer = closed r; after = endpoint (with_state e.session State.Failed e.session.parser) e.stage })
  -- asks
  tells : (q : Ask) (a : Told) → told_refusal a ≡ none → Effect e (ask q) (record { answer = told a; after = e })

-- ---- rows: no refusal but that of the first row is 23
abbrev Others : List (Bool × Refusal) → Type 0
Others [] = Unit {0}
Others (row ∷ rows) = (eqb row.1.number 23 ≡ false) × Others rows

others : (rows : List (Bool × Refusal)) → Others rows → eqb (first rows).number 23 ≡ false
unfolding first
others [] n = refl
others (row ∷ rows) n = picked (λ (r : Refusal). eqb r.number 23 ≡ false) row.0 (λ _. others rows n.1) (λ _. n.0)

-- rows after the first, which holds
after_first : (t : Bool) (r : Refusal) (rows : List (Bool × Refusal)) → t ≡ true → first ((t, r) ∷ rows) ≡ first rows
unfolding first
after_first t r rows e = rw e

module _ (e : Endpoint) (invariant : Invariant e.session) where
  abbrev g : GuestSession
  g = e.session

  sound : sound_guest g ≡ true
  sound = invariant_sound g invariant

  -- ---- receive
  module _ (piece : List ℕ) (o : Octets piece) (lent : Lent) where
    abbrev z : List ℕ
    z = stage_of lent e.stage

    abbrev Got : R.Receive → Type 0
    Got t = Effect e (receive piece o lent) (push_step e piece lent t.answer)

    module _ (u : Push) (h y : List ℕ) (t : PushFacts g z piece u (whole h y)) where
      effect_reset : code_of u.answer.«record».record_type ≡ 3 → Got (R.accept_reset g u)
      unfolding R.accept_reset
      effect_reset k =
          let rows = reset_rows g.identity u.answer.«record» in
          picked Got (passes (first rows))
          (λ p. resets piece o lent u h y t k (passed rows (refl, (refl, (refl, tt))) p))
          (λ p. fails piece o lent (first rows) u (whole h y) (p, others rows (refl, (refl, (refl, tt)))) t)

      effect_data : is_active g.state ≡ true → code_of u.answer.«record».record_type ≡ 5 → Got (R.accept_data g u)
      unfolding R.accept_data
      effect_data a k =
          let rows = data_rows g u.answer.«record» in
          picked Got (passes (first rows))
          (λ p. hands piece o lent u h y t a k (passed rows (refl, (refl, (refl, (refl, (refl, tt))))) p))
          (λ p. fails piece o lent (first rows) u (whole h y) (p, others rows (refl, (refl, (refl, (refl, (refl, tt)))))) t)

      -- 10 was passed by a type that is not Reset
      is_data_lem : (c : ℕ) (s : Bool) → eqb c 3 || (s && eqb c 5) ≡ true → eqb c 3 ≡ false → (s ≡ true) × (c ≡ 5)
      is_data_lem c s p q =
          let r : s && eqb c 5 ≡ true = rw q at p in
          (and_left s (eqb c 5) r, eqb-true c 5 (and_right s (eqb c 5) r))

      effect_accept : Got (R.accept g u)
      unfolding R.accept
      effect_accept =
          let c = code_of u.answer.«record».record_type in
          let rows = R.type_row g.state c ∷ [] in
          picked Got (passes (first rows))
          (λ p. picked Got (eqb c 3)
          (λ k. effect_reset (eqb-true c 3 k))
          (λ k. let d = is_data_lem c (is_active g.state) (passed rows (refl, tt) p).0 k in effect_data d.0 d.1))
          (λ p. fails piece o lent (first rows) u (whole h y) (p, others rows (refl, tt)) t)

    effect_push : (u : Push) (v : Scan) → PushFacts g z piece u v → Got (R.after_push g u)
    unfolding R.after_push
    effect_push u unfinished t =
        picked Got (passes u.answer.refusal)
        (λ _. picked Got u.answer.complete (λ c. true_not_false (sym c ∙ t.matches.complete)) (λ _. waits piece o lent u t))
        (λ c. true_not_false (ap (λ (r : Refusal). passes r) (sym t.matches.refusal) ∙ c))
    effect_push u (whole h y) t =
        picked Got (passes u.answer.refusal)
        (λ _. picked Got u.answer.complete (λ _. effect_accept u h y t) (λ c. true_not_false (sym t.matches.complete ∙ c)))
        (λ c. true_not_false (ap (λ (r : Refusal). passes r) (sym t.matches.refusal) ∙ c))
    effect_push u (Scans.refused r) t =
        picked Got (passes u.answer.refusal)
        (λ c. true_not_false (sym c ∙ ap (λ (x : Refusal). passes x) t.matches.refusal ∙ t.matches.numbered))
        (λ c. fails piece o lent u.answer.refusal u (Scans.refused r)
        (c, subst (λ (x : Refusal). eqb x.number 23 ≡ false) (sym t.matches.refusal) (ne_eqb r.number 23 (λ q. omega (arith, t.matches.low)))) t)

    push_facts : is_open g.state ≡ true → max_payload ≤ length z
        → PushFacts g z piece (push g.parser (length z) (held_in g.parser z) piece) (scan (held_bytes g.parser (held_in g.parser z) ++ piece))
    push_facts a room =
        let r = invariant_ready g invariant (open_unfailed g.state a) z room in
        record {
          opened = a;
          room = room;
          ready = r;
          matches = push_matches g.parser (length z) (held_in g.parser z) piece r room;
          staged = push_staged g.parser piece z r room;
        }

    effect_receive : Effect e (receive piece o lent) (step e (receive piece o lent))
    unfolding step R.receive_of R.receive R.receive_stage
    effect_receive =
        let rows = R.receive_rows g (length z) in
        picked₂ (λ (t : R.Receive) (left : List ℕ). Effect e (receive piece o lent) (receive_step (R.outcome t.answer left) piece lent e.stage)) (passes (first rows))
        (λ p. let q = passed rows (refl, (refl, (refl, tt))) p in effect_push _ _ (push_facts q.1.1.0 (leb-true max_payload (length z) q.1.0)))
        (λ p. refuses_receive piece o lent (first rows) (p, ap (λ (r : Refusal). eqb r.number 23) (after_first _ _ _ sound) ∙ others _ (refl, (refl, tt))))

  -- ---- calls that write
  effect_write : (w : Writing) (o : List ℕ) (at : ℕ) (rows : List (Bool × Refusal)) → Numbered rows → Others rows → (g' : GuestSession) (n : ℕ) (bytes : List ℕ)
      → (Passed rows → (next : ℕ) (written : List ℕ) → Effect e (write w o at) (record { answer = sent none n next written; after = endpoint g' e.stage }))
      → Effect e (write w o at) (write_step (W.writes (first (W.sound_row g ∷ rows)) g g' n bytes o at) at e.stage)
  unfolding W.writes
  effect_write w o at rows numbered no-23 g' n bytes k =
      let same = after_first (sound_guest g) (refusal 23 0 0 0) rows sound in
      picked (λ (t : W.Outcome). Effect e (write w o at) (write_step t at e.stage)) (passes (first (W.sound_row g ∷ rows)))
      (λ p. k (passed rows numbered (ap (λ (r : Refusal). passes r) (sym same) ∙ p)) _ _)
      (λ p. refuses_write w o at (first (W.sound_row g ∷ rows)) _ (p, ap (λ (r : Refusal). eqb r.number 23) same ∙ others rows no-23))

  effect_writing : (w : Writing) (o : List ℕ) (at : ℕ) → Effect e (write w o at) (step e (write w o at))
  unfolding step C.attach C.acknowledge S.send S.credit
  effect_writing attach o at = effect_write attach o at _ (refl, (refl, tt)) (refl, (refl, tt)) _ _ _ (λ p next bytes. attaches o at _ next bytes p.0)
  effect_writing (acknowledge w) o at = effect_write (acknowledge w) o at _ (refl, (refl, (refl, tt))) (refl, (refl, (refl, tt))) _ _ _ (λ p next bytes. acks w o at _ next bytes p.0 p.1.0)
  effect_writing (send bs) o at =
      effect_write (send bs) o at _ (refl, (refl, (refl, (refl, tt)))) (refl, (refl, (refl, (refl, tt)))) _ _ _ (λ p next bytes. sends bs o at _ next bytes p.0)
  effect_writing (credit m) o at =
      effect_write (credit m) o at _ (refl, (refl, (refl, (refl, tt)))) (refl, (refl, (refl, (refl, tt)))) _ _ _
      (λ p next bytes. credits m o at _ next bytes p.0 (leb-true m g.outstanding (and_right (leb 1 m) (leb m g.outstanding) p.1.0)))

  -- ---- disconnect and asks
  abbrev Leaves : Closed → Type 0
  Leaves r = Effect e disconnect (record { answer = closed r.refusal; after = endpoint r.session e.stage })

  effect_disconnect : Effect e disconnect (step e disconnect)
  unfolding step C.disconnect
  effect_disconnect =
      picked Leaves (sound_guest g)
      (λ _. picked Leaves (is_ended g.state) (λ _. stays_ended)
      (λ d. picked Leaves (eqb (buffered_of g.parser) 0) (λ _. closes d) (λ _. fails_buffered _ (refl, refl) d)))
      (λ c. true_not_false (sym sound ∙ c))

  ask_answers : (q : Ask) → told_refusal (tell g q) ≡ none
  unfolding A.state_of A.identity_of A.window_of A.outstanding_of A.needed_by
  ask_answers ask_state = rw sound
  ask_answers ask_identity = rw sound
  ask_answers ask_window = rw sound (picked (λ (a : WindowAnswer). a.refusal ≡ none) (is_active g.state) (λ _. refl) (λ _. refl))
  ask_answers ask_outstanding = rw sound
  ask_answers ask_needed = rw sound

  pub effect_of : (c : Call) → Effect e c (step e c)
  unfolding step
  effect_of (receive piece o lent) = effect_receive piece o lent
  effect_of (write w o at) = effect_writing w o at
  effect_of disconnect = effect_disconnect
  effect_of (ask q) = tells q (tell g q) (ask_answers q)
