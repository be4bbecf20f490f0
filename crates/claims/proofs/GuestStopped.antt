-- What stops a guest's calls. Its state is the one to which the calls and answers led, and the bytes that it has buffered are those taken since
-- a record was reported (`At`): each call keeps it so. The rows of a call then say what the history says. Assumes nothing.
use Prim.Native.Nat.{ℕ, ◌+◌, ◌≤◌}
use mathlib.Core.Path.{◌≡◌, refl, sym, ap, subst, ◌∙◌}
use mathlib.Core.Bool.{Bool, true, false, not}
use mathlib.Core.List.{List, [], ◌∷◌}
use native.Mathlib.Omega.{arith}
use lib.ListN.{length}
use lib.Dec.{eqb}
use Rattle.wire.specs.Refusals.{pick, refusal, none, first, passes}
use Rattle.wire.specs.declared.Refusal.{Refusal}
use Rattle.wire.proofs.Rows.{Numbered, picked, passed, row_passes}
use Rattle.outer.specs.Outer.{window_ok}
use Rattle.record.specs.Types.{code_of}
use Rattle.parser.specs.Push.{Push, push, buffered_of}
use Rattle.guest_core.specs.State.{is_failed, is_open, is_ended, sound_guest}
use Rattle.guest_core.specs.Asks as A
use Rattle.guest.specs.Checks.{reset_rows, data_rows}
use Rattle.guest.specs.Receive as R
use Rattle.guest_core.specs.Writes as W
use Rattle.guest_core.specs.Calls as C
use Rattle.guest_core.specs.Send as S
use Rattle.guest_core.specs.declared.GuestState.{GuestState}
use Rattle.guest_core.specs.declared.GuestState.TheVariants as State
use Rattle.guest_core.specs.declared.GuestSession.{GuestSession}
use Rattle.guest_core.specs.Calls.{Closed}
use Rattle.claims.specs.GuestCalls.{Writing, attach, acknowledge, send, credit, Call, receive, write, disconnect, ask, Endpoint, stage_of, step, fresh, refusal_of}
use Rattle.claims.specs.GuestHistory.{after, trace, history, no_tally}
use Rattle.claims.specs.States.{keeps_state, after_event, after_write, guest_state, state_after}
use Rattle.claims.specs.Stopped.{receive_stops, StoppedBy, disconnect_stops, held_since, count_held, held_after, uncredited, guest_stops, WritesStopped, ReceivesStopped, DisconnectStopped}
use Rattle.claims.proofs.Outcomes.{true_not_false}
use Rattle.claims.proofs.StoppedLaws.{Fails, every_first, pass_none, low_fails, push_low, Buffers, push_buffers}
use Rattle.claims.proofs.GuestInvariant.{Invariant, invariant_sound, open_unfailed, detached_unfailed, resetting_unfailed, going_unfailed}
use Rattle.claims.proofs.GuestSound.{invariant_next, invariant_after, fresh_invariant}
use Rattle.claims.proofs.GuestSums.{figures_after}
use Rattle.claims.proofs.GuestWritten.{sequence_is}

-- ---- a receive
module _ (g : GuestSession) (i : Invariant g) (n : ℕ) (k : is_failed g.state ≡ false → buffered_of g.parser ≡ n) where
  -- the state that its answer says, and the bytes buffered
  record Goes (t : R.Receive) : Type 0 where
    led : t.answer.session.state
        ≡ pick (passes t.answer.refusal) (after_event g.state t.answer.event) (pick (keeps_state t.answer.refusal) g.state State.Failed)
    held : is_failed t.answer.session.state ≡ false → buffered_of t.answer.session.parser ≡ held_since n t.answer.event t.answer.consumed

  -- after the push
  abbrev Went : R.Receive → Type 0
  Went t = Goes t × Fails t.answer.refusal

  goes_failed : (u : Push) (r : Refusal) → passes r ≡ false → Fails r → Went (R.fail_with g u r)
  goes_failed u r p q = (record { led = rw (p, q); held = λ x. true_not_false x }, q)

  goes_accept : (u : Push) → buffered_of u.answer.parser ≡ 0 → Went (R.accept g u)
  unfolding R.accept R.accept_reset R.accept_data
  goes_accept u z =
      let c = code_of u.answer.«record».record_type in
      let rows = R.type_row g.state c ∷ [] in
      let resetting = reset_rows g.identity u.answer.«record» in
      let handing = data_rows g u.answer.«record» in
      picked Went (passes (first rows))
      (λ _. picked Went (R.is_reset u.answer.«record»)
      (λ _. picked Went (passes (first resetting)) (λ _. (record { led = refl; held = λ _. z }, refl)) (λ p. goes_failed u (first resetting) p (every_first Fails resetting refl (refl, (refl, (refl, tt))))))
      (λ _. picked Went (passes (first handing)) (λ _. (record { led = refl; held = λ _. z }, refl)) (λ p. goes_failed u (first handing) p (every_first Fails handing refl (refl, (refl, (refl, (refl, (refl, tt)))))))))
      (λ p. goes_failed u (first rows) p (every_first Fails rows refl (refl, tt)))

  goes_push : (u : Push) → is_failed g.state ≡ false → Buffers (buffered_of g.parser) u → u.answer.refusal.number ≤ 9 → Went (R.after_push g u)
  unfolding R.after_push
  goes_push u f b l =
      picked Went (passes u.answer.refusal)
      (λ p. picked Went u.answer.complete (λ q. goes_accept u (b.done q))
      (λ q. (record { led = refl; held = λ _. b.waits p q ∙ ap (λ (m : ℕ). m + u.answer.consumed) (k f) }, refl)))
      (λ p. goes_failed u u.answer.refusal p (low_fails u.answer.refusal l))

  -- and what stops it before
  record Received (size : ℕ) (t : R.Receive) : Type 0 where
    goes : Goes t
    stopped : StoppedBy (receive_stops (is_open g.state) size) t.answer.refusal

  goes_receive : (size : ℕ) (held piece : List ℕ) → Received size (R.receive g size held piece)
  unfolding R.receive
  goes_receive size held piece =
      let rows = R.receive_rows g size in
      let stops = receive_stops (is_open g.state) size in
      let same : first stops ≡ first rows = row_passes (sound_guest g) (refusal 23 0 0 0) (first stops) stops (invariant_sound g i) refl in
      let u : Push = push g.parser size held piece in
      picked (Received size) (passes (first rows))
      (λ p.
      let q = passed rows (refl, (refl, (refl, tt))) p in
      let w = goes_push u (open_unfailed g.state q.1.1.0) (push_buffers g.parser size held piece i.parser.sound) (push_low g.parser size held piece i.parser.sound q.1.0) in
      record { goes = w.0; stopped = record { stopped = λ x. true_not_false (sym (ap (λ (r : Refusal). passes r) same ∙ p) ∙ x); only = λ _. w.1 } })
      (λ p.
      let q : keeps_state (first rows) ≡ true = every_first (λ (r : Refusal). passes r ≡ false → keeps_state r ≡ true) rows (λ x. true_not_false x) ((λ _. refl), ((λ _. refl), ((λ _. refl), tt))) p in
      record {
        goes = record { led = rw (p, q); held = λ x. omega (arith, k x) };
        stopped = record { stopped = λ _. sym same; only = λ x. true_not_false (sym x ∙ ap (λ (r : Refusal). passes r) same ∙ p) };
      })

-- a refusal after the push fails the session
pub pushed_fails : (g : GuestSession) → Invariant g → (size : ℕ) (held piece : List ℕ) → passes (first (R.receive_rows g size)) ≡ true
    → keeps_state (R.after_push g (push g.parser size held piece)).answer.refusal ≡ false
pushed_fails g i size held piece p =
    let q = passed (R.receive_rows g size) (refl, (refl, (refl, tt))) p in
    (goes_push g i (buffered_of g.parser) (λ _. refl) (push g.parser size held piece) (open_unfailed g.state q.1.1.0)
    (push_buffers g.parser size held piece i.parser.sound) (push_low g.parser size held piece i.parser.sound q.1.0)).1

-- ---- the other calls
module _ (g : GuestSession) (n : ℕ) (k : is_failed g.state ≡ false → buffered_of g.parser ≡ n) where
  abbrev Holds : GuestSession → Type 0
  Holds z = is_failed z.state ≡ false → buffered_of z.parser ≡ n

  write_goes : (w : Writing) (r : Refusal) (g' : GuestSession) (m : ℕ) (bytes o : List ℕ) (at : ℕ) → g'.state ≡ after_write g.state w → (passes r ≡ true → Holds g')
      → ((W.writes r g g' m bytes o at).sent.session.state ≡ pick (passes (W.writes r g g' m bytes o at).sent.refusal) (after_write g.state w) g.state)
      × Holds (W.writes r g g' m bytes o at).sent.session
  unfolding W.writes
  write_goes w r g' m bytes o at e h =
      picked (λ (x : W.Outcome). (x.sent.session.state ≡ pick (passes x.sent.refusal) (after_write g.state w) g.state) × Holds x.sent.session) (passes r)
      (λ p. (e, h p)) (λ p. (rw p, k))

  close_goes : sound_guest g ≡ true
      → ((C.disconnect g).session.state ≡ pick (is_ended g.state) g.state (pick (passes (C.disconnect g).refusal) State.Closed State.Failed)) × Holds (C.disconnect g).session
  unfolding C.disconnect
  close_goes sound =
      let P : Closed → Type 0 =
      λ (x : Closed). (x.session.state ≡ pick (is_ended g.state) g.state (pick (passes x.refusal) State.Closed State.Failed)) × Holds x.session
      in
      picked P (sound_guest g)
      (λ _. picked P (is_ended g.state) (λ d. (rw d, k))
      (λ d. picked P (eqb (buffered_of g.parser) 0) (λ _. (rw d, λ _. k (going_unfailed g.state d))) (λ _. (rw d, λ x. true_not_false x))))
      (λ c. true_not_false (sym sound ∙ c))

goes : (e : Endpoint) → Invariant e.session → (n : ℕ) → (is_failed e.session.state ≡ false → buffered_of e.session.parser ≡ n) → (c : Call)
    → ((step e c).after.session.state ≡ guest_state e.session.state c (step e c).answer)
    × (is_failed (step e c).after.session.state ≡ false → buffered_of (step e c).after.session.parser ≡ count_held n c (step e c).answer)
unfolding step guest_state count_held R.receive_of C.attach C.acknowledge S.send S.credit
goes e f n k (receive piece o lent) = let t = (goes_receive e.session f n k _ _ piece).goes in (t.led, t.held)
goes e f n k (write attach o at) =
    let rows = C.attach_rows e.session o at in
    write_goes e.session n k attach _ _ _ _ o at refl (λ p _. k (detached_unfailed e.session.state (passed rows (refl, (refl, (refl, tt))) p).1.0))
goes e f n k (write (acknowledge w) o at) =
    let rows = C.ack_rows e.session w o at in
    write_goes e.session n k (acknowledge w) _ _ _ _ o at refl (λ p _. k (resetting_unfailed e.session.state (passed rows (refl, (refl, (refl, (refl, tt)))) p).1.0))
goes e f n k (write (send bytes) o at) = write_goes e.session n k (send bytes) _ _ _ _ o at refl (λ _. k)
goes e f n k (write (credit m) o at) = write_goes e.session n k (credit m) _ _ _ _ o at refl (λ _. k)
goes e f n k disconnect = close_goes e.session n k (invariant_sound e.session f)
goes e f n k (ask q) = (refl, k)

-- ---- lists of calls
record At (st : GuestState) (n : ℕ) (g : GuestSession) : Type 0 where
  state : g.state ≡ st
  held : is_failed g.state ≡ false → buffered_of g.parser ≡ n

at_after : (st : GuestState) (n : ℕ) (e : Endpoint) (cs : List Call) → Invariant e.session → At st n e.session
    → At (history guest_state st (trace e cs)) (history count_held n (trace e cs)) (after e cs).session
unfolding after trace history
at_after st n e [] f k = k
at_after st n e (c ∷ cs) f k =
    let t = goes e f n k.held c in
    at_after (guest_state st c (step e c).answer) (count_held n c (step e c).answer) (step e c).after cs (invariant_next e c f)
    (record { state = t.0 ∙ ap (λ (x : GuestState). guest_state x c (step e c).answer) k.state; held = t.1 })

reached_at : (s : List ℕ) (cs : List Call) → At (state_after s cs) (held_after s cs) (after (fresh s) cs).session
reached_at s cs = at_after State.Detached 0 (fresh s) cs fresh_invariant (record { state = refl; held = λ _. refl })

pub state_is : (s : List ℕ) (cs : List Call) → (after (fresh s) cs).session.state ≡ state_after s cs
state_is s cs = (reached_at s cs).state

-- ---- the claims
pub told_state_lem : (g : GuestSession) → sound_guest g ≡ true → A.state_of g ≡ record { refusal = none; state = g.state }
unfolding A.state_of
told_state_lem g e = rw e

-- a call answers what its rows say; the first is soundness
module _ (g g' : GuestSession) (sound : sound_guest g ≡ true) (rows : List (Bool × Refusal)) (numbered : Numbered rows) (n : ℕ) (bytes o : List ℕ) (at : ℕ) where
  abbrev all : List (Bool × Refusal)
  all = W.sound_row g ∷ rows

  refusal_is : (W.writes (first all) g g' n bytes o at).sent.refusal ≡ first rows
  unfolding W.writes
  refusal_is =
      picked (λ (x : W.Outcome). x.sent.refusal ≡ first all) (passes (first all)) (λ p. sym (pass_none all (passed all (refl, numbered) p))) (λ _. refl)
      ∙ sym (row_passes (sound_guest g) (refusal 23 0 0 0) (first rows) rows sound refl)

stops_as : (e : Endpoint) → sound_guest e.session ≡ true → (w : Writing) (o : List ℕ) (at : ℕ)
    → refusal_of (step e (write w o at)).answer ≡ first (guest_stops w e.session.state e.session.send_sequence.0 e.session.outstanding o at)
unfolding step C.attach C.acknowledge S.send S.credit window_ok
stops_as e k attach o at = refusal_is e.session _ k _ (refl, (refl, tt)) _ _ o at
stops_as e k (acknowledge w) o at = refusal_is e.session _ k _ (refl, (refl, (refl, tt))) _ _ o at
stops_as e k (send bytes) o at = refusal_is e.session _ k _ (refl, (refl, (refl, (refl, tt)))) _ _ o at
stops_as e k (credit n) o at = refusal_is e.session _ k _ (refl, (refl, (refl, (refl, tt)))) _ _ o at

pub writes_stopped : WritesStopped
writes_stopped s cs w o at =
    let e : Endpoint = after (fresh s) cs in
    let l = figures_after no_tally (fresh s) cs fresh_invariant (omega arith) in
    let m : e.session.outstanding ≡ uncredited s cs = omega (arith, l.balance) in
    stops_as e (invariant_sound e.session (invariant_after (fresh s) cs fresh_invariant)) w o at
    ∙ (λ j. first (guest_stops w (state_is s cs j) (sequence_is s cs j) (m j) o at))

pub receives_stopped : ReceivesStopped
unfolding step R.receive_of
receives_stopped s cs piece o lent =
    let e : Endpoint = after (fresh s) cs in
    let z : List ℕ = stage_of lent e.stage in
    let f = invariant_after (fresh s) cs fresh_invariant in
    subst (λ (st : GuestState). StoppedBy (receive_stops (is_open st) (length z)) (refusal_of (step e (receive piece o lent)).answer)) (state_is s cs)
    (goes_receive e.session f (held_after s cs) (reached_at s cs).held (length z) _ piece).stopped

close_stops : (g : GuestSession) (n : ℕ) → sound_guest g ≡ true → (is_failed g.state ≡ false → buffered_of g.parser ≡ n)
    → (C.disconnect g).refusal ≡ disconnect_stops (not (is_ended g.state)) n
unfolding C.disconnect first
close_stops g n sound k =
    let P : Closed → Type 0 = λ (x : Closed). x.refusal ≡ disconnect_stops (not (is_ended g.state)) n in
    picked P (sound_guest g)
    (λ _. picked P (is_ended g.state) (λ d. rw d)
    (λ d. let b : buffered_of g.parser ≡ n = k (going_unfailed g.state d) in
    picked P (eqb (buffered_of g.parser) 0)
    (λ q. rw (d, sym (ap (λ (m : ℕ). eqb m 0) b) ∙ q))
    (λ q. rw (d, sym (ap (λ (m : ℕ). eqb m 0) b) ∙ q) (ap (λ (m : ℕ). refusal 19 m 0 0) b))))
    (λ c. true_not_false (sym sound ∙ c))

pub disconnect_stopped : DisconnectStopped
unfolding step
disconnect_stopped s cs =
    let g : GuestSession = (after (fresh s) cs).session in
    close_stops g (held_after s cs) (invariant_sound g (invariant_after (fresh s) cs fresh_invariant)) (reached_at s cs).held
    ∙ ap (λ (st : GuestState). disconnect_stops (not (is_ended st)) (held_after s cs)) (state_is s cs)
