-- What stops a host's calls. Its state is the one to which the calls and replies led, and the bytes that it has buffered are those taken since a
-- record was reported (`At`): each call keeps it so. The rows of a call then say what these say. And all that stops calls, gathered. Assumes
-- nothing.
use Prim.Native.Nat.{ℕ, ◌+◌, ◌≤◌}
use mathlib.Core.Path.{◌≡◌, refl, sym, ap, subst, ◌∙◌}
use mathlib.Core.Bool.{Bool, true, false}
use mathlib.Core.List.{List, [], ◌∷◌}
use native.Mathlib.Omega.{arith}
use lib.ListN.{length}
use lib.Dec.{eqb, leb}
use borrow.Author.Tests.{eqb-true, leb-true, ne_eqb}
use Rattle.wire.specs.Refusals.{pick, refusal, none, first, passes}
use Rattle.session.specs.Checks.{held}
use Rattle.wire.specs.declared.Refusal.{Refusal}
use Rattle.wire.proofs.Rows.{Numbered, picked, passed, row_passes, and_right}
use Rattle.record.specs.Types.{code_of}
use Rattle.record.specs.declared.Record.{Record}
use Rattle.record.specs.declared.types.RecordType.{RecordType}
use Rattle.record.specs.declared.types.RecordType.TheVariants as Kind
use Rattle.parser.specs.Push.{Push, push, held_in, buffered_of}
use Rattle.session.specs.declared.Identity.{Identity}
use Rattle.host.specs.State.{code, is_begun, is_open, sound_host}
use Rattle.host.specs.Checks.{type_rows, record_rows}
use Rattle.host.specs.Asks as A
use Rattle.host.specs.Receive as R
use Rattle.host.specs.Calls as C
use Rattle.host.specs.declared.HostState.{HostState}
use Rattle.host.specs.declared.HostState.TheVariants as State
use Rattle.host.specs.declared.HostSession.{HostSession}
use Rattle.host.specs.Calls.{Closed}
use Rattle.claims.specs.HostCalls.{HostCall, attach, receive, receive_short, send, disconnect, ask_state, ask_identity, ask_needed, refusal_of, HostPlace, step, reply, next, fresh_place, after, host_history}
use Rattle.claims.specs.States.{keeps_state, after_host_event, host_state, host_state_after}
use Rattle.claims.specs.Stopped.{receive_stops, StoppedBy, disconnect_stops, host_held_since, host_count_held, host_held_after, host_attach_stops, host_send_stops}
use Rattle.claims.specs.Stopped.{HostAttachStopped, HostSendStopped, HostReceivesStopped, HostDisconnectStopped, StoppedClaims}
use Rattle.claims.proofs.Outcomes.{true_not_false}
use Rattle.claims.proofs.StoppedLaws.{Every, Fails, every_first, pass_none, low_fails, push_low, Buffers, push_buffers}
use Rattle.claims.proofs.HostSound.{Fit, fit_sound, fit_step, fresh_fit, fit_reached, always_sound}
use Rattle.claims.proofs.HostWritten.{host_sequence_is}
use Rattle.claims.proofs.GuestStopped.{writes_stopped, receives_stopped, disconnect_stopped}

-- ---- a receive
type_fails : (t : ℕ) (i : Identity) (r : Record) → Every Fails (type_rows t i r)
type_fails t i r =
    let P : List (Bool × Refusal) → Type 0 = Every Fails in
    picked P (eqb t 7) (λ _. (refl, tt)) (λ _. picked P (eqb t 5) (λ _. (refl, (refl, tt))) (λ _. picked P (eqb t 3) (λ _. (refl, (refl, (refl, tt)))) (λ _. tt)))

abbrev failed : HostState → Bool
failed st = eqb (code st) 6

-- a session in one of the first states has not Failed
begun_unfailed : (st : HostState) (m : ℕ) → code st ≤ m → m ≤ 5 → failed st ≡ false
begun_unfailed st m l q = ne_eqb (code st) 6 (λ e. omega arith)

module _ (h : HostSession) (f : Fit h) (n : ℕ) (k : failed h.state ≡ false → buffered_of h.parser ≡ n) where
  -- the state that its answer says, and the bytes buffered
  record Goes (t : R.Receive) : Type 0 where
    led : t.answer.session.state
        ≡ pick (passes t.answer.refusal) (after_host_event h.state t.answer.event) (pick (keeps_state t.answer.refusal) h.state State.Failed)
    held : failed t.answer.session.state ≡ false → buffered_of t.answer.session.parser ≡ host_held_since n t.answer.event t.answer.consumed

  -- after the push
  abbrev Went : R.Receive → Type 0
  Went t = Goes t × Fails t.answer.refusal

  goes_failed : (u : Push) (r : Refusal) → passes r ≡ false → Fails r → Went (R.fail_with h u r)
  goes_failed u r p q = (record { led = rw (p, q); held = λ x. true_not_false x }, q)

  goes_effect : (u : Push) → buffered_of u.answer.parser ≡ 0 → (t : RecordType) → Went (R.effect t h u)
  unfolding R.effect
  goes_effect u z Kind.GuestAttach = (record { led = refl; held = λ x. true_not_false x }, refl)
  goes_effect u z Kind.HostAttach = (record { led = refl; held = λ x. true_not_false x }, refl)
  goes_effect u z Kind.Reset = (record { led = refl; held = λ _. z }, refl)
  goes_effect u z Kind.Ack = (record { led = refl; held = λ x. true_not_false x }, refl)
  goes_effect u z Kind.Data = (record { led = refl; held = λ _. z }, refl)
  goes_effect u z Kind.Wait = (record { led = refl; held = λ _. z }, refl)
  goes_effect u z Kind.Ready = (record { led = refl; held = λ _. z }, refl)
  goes_effect u z Kind.Error = (record { led = refl; held = λ _. z }, refl)
  goes_effect u z Kind.Credit = (record { led = refl; held = λ x. true_not_false x }, refl)

  goes_push : (u : Push) → failed h.state ≡ false → Buffers (buffered_of h.parser) u → u.answer.refusal.number ≤ 9 → Went (R.after_push h u)
  unfolding R.after_push R.accept
  goes_push u w b l =
      let r : Record = u.answer.«record» in
      picked Went (passes u.answer.refusal)
      (λ p. picked Went u.answer.complete
      (λ q. picked Went (passes (first (record_rows h r))) (λ _. goes_effect u (b.done q) r.record_type)
      (λ x. goes_failed u (first (record_rows h r)) x
      (every_first Fails (record_rows h r) refl (refl, (refl, (refl, type_fails (code_of r.record_type) (held h.identity) r))))))
      (λ q. (record { led = refl; held = λ _. b.waits p q ∙ ap (λ (m : ℕ). m + u.answer.consumed) (k w) }, refl)))
      (λ p. goes_failed u u.answer.refusal p (low_fails u.answer.refusal l))

  -- and what stops it before
  record Received (size : ℕ) (t : R.Receive) : Type 0 where
    goes : Goes t
    stopped : StoppedBy (receive_stops (is_open h.state) size) t.answer.refusal

  goes_receive : (size : ℕ) (held piece : List ℕ) → Received size (R.receive h size held piece)
  unfolding R.receive
  goes_receive size held piece =
      let rows = R.receive_rows h size in
      let stops = receive_stops (is_open h.state) size in
      let same : first stops ≡ first rows = row_passes (sound_host h) (refusal 23 0 0 0) (first stops) stops (fit_sound h f) refl in
      let u : Push = push h.parser size held piece in
      picked (Received size) (passes (first rows))
      (λ p.
      let q = passed rows (refl, (refl, (refl, tt))) p in
      let l : code h.state ≤ 2 = leb-true (code h.state) 2 (and_right (leb 1 (code h.state)) (leb (code h.state) 2) q.1.1.0) in
      let w = goes_push u (begun_unfailed h.state 2 l (omega arith)) (push_buffers h.parser size held piece f.parser) (push_low h.parser size held piece f.parser q.1.0) in
      record { goes = w.0; stopped = record { stopped = λ x. true_not_false (sym (ap (λ (r : Refusal). passes r) same ∙ p) ∙ x); only = λ _. w.1 } })
      (λ p.
      let q : keeps_state (first rows) ≡ true = every_first (λ (r : Refusal). passes r ≡ false → keeps_state r ≡ true) rows (λ x. true_not_false x) ((λ _. refl), ((λ _. refl), ((λ _. refl), tt))) p in
      record {
        goes = record { led = rw (p, q); held = λ x. omega (arith, k x) };
        stopped = record { stopped = λ _. sym same; only = λ x. true_not_false (sym x ∙ ap (λ (r : Refusal). passes r) same ∙ p) };
      })

  -- ---- the other calls
  abbrev Holds : HostSession → Type 0
  Holds z = failed z.state ≡ false → buffered_of z.parser ≡ n

  attach_goes : (capability o : List ℕ) (at : ℕ)
      → ((C.attach h capability o at).sent.session.state ≡ pick (passes (C.attach h capability o at).sent.refusal) State.Attaching h.state)
      × Holds (C.attach h capability o at).sent.session
  unfolding C.attach C.writes
  attach_goes capability o at =
      let rows = C.attach_rows h o at in
      picked (λ (x : C.Outcome). (x.sent.session.state ≡ pick (passes x.sent.refusal) State.Attaching h.state) × Holds x.sent.session) (passes (first rows))
      (λ p.
      let d : code h.state ≡ 0 = eqb-true (code h.state) 0 (passed rows (refl, (refl, (refl, tt))) p).1.0 in
      (refl, λ _. k (begun_unfailed h.state 0 (omega arith) (omega arith))))
      (λ p. (rw p, k))

  send_goes : (bytes o : List ℕ) (at : ℕ) → ((C.send h bytes o at).sent.session.state ≡ h.state) × Holds (C.send h bytes o at).sent.session
  unfolding C.send C.writes
  send_goes bytes o at =
      picked (λ (x : C.Outcome). (x.sent.session.state ≡ h.state) × Holds x.sent.session) (passes (first (C.send_rows h bytes o at))) (λ _. (refl, k)) (λ _. (refl, k))

  close_goes : ((C.disconnect h).session.state ≡ pick (is_begun h.state) (pick (passes (C.disconnect h).refusal) State.Closed State.Failed) h.state) × Holds (C.disconnect h).session
  unfolding C.disconnect
  close_goes =
      let P : Closed → Type 0 =
      λ (x : Closed). (x.session.state ≡ pick (is_begun h.state) (pick (passes x.refusal) State.Closed State.Failed) h.state) × Holds x.session
      in
      picked P (sound_host h)
      (λ _. picked P (is_begun h.state)
      (λ d. picked P (eqb (buffered_of h.parser) 0)
      (λ _. (rw d, λ _. k (begun_unfailed h.state 2 (leb-true (code h.state) 2 d) (omega arith))))
      (λ _. (rw d, λ x. true_not_false x)))
      (λ d. (rw d, k)))
      (λ c. true_not_false (sym (fit_sound h f) ∙ c))

  close_stops : (C.disconnect h).refusal ≡ disconnect_stops (is_begun h.state) n
  unfolding C.disconnect first
  close_stops =
      let P : Closed → Type 0 = λ (x : Closed). x.refusal ≡ disconnect_stops (is_begun h.state) n in
      picked P (sound_host h)
      (λ _. picked P (is_begun h.state)
      (λ d. let b : buffered_of h.parser ≡ n = k (begun_unfailed h.state 2 (leb-true (code h.state) 2 d) (omega arith)) in
      picked P (eqb (buffered_of h.parser) 0)
      (λ q. rw (d, sym (ap (λ (m : ℕ). eqb m 0) b) ∙ q))
      (λ q. rw (d, sym (ap (λ (m : ℕ). eqb m 0) b) ∙ q) (ap (λ (m : ℕ). refusal 19 m 0 0) b)))
      (λ d. rw d))
      (λ c. true_not_false (sym (fit_sound h f) ∙ c))

  goes : (stage : List ℕ) (c : HostCall)
      → ((step h stage c).place.host.state ≡ host_state h.state c (step h stage c).reply)
      × (failed (step h stage c).place.host.state ≡ false → buffered_of (step h stage c).place.host.parser ≡ host_count_held n c (step h stage c).reply)
  unfolding step host_state host_count_held R.receive_of
  goes stage (attach capability m o at) = attach_goes capability o at
  goes stage (receive piece) = let t = (goes_receive (length stage) (held_in h.parser stage) piece).goes in (t.led, t.held)
  goes stage (receive_short piece lent m) = let t = (goes_receive (length lent) (held_in h.parser lent) piece).goes in (t.led, t.held)
  goes stage (send bytes o at) = send_goes bytes o at
  goes stage disconnect = close_goes
  goes stage ask_state = (refl, k)
  goes stage ask_identity = (refl, k)
  goes stage ask_needed = (refl, k)

-- a refusal after the push fails the session
pub pushed_fails : (h : HostSession) → Fit h → (size : ℕ) (held piece : List ℕ) → passes (first (R.receive_rows h size)) ≡ true
    → keeps_state (R.after_push h (push h.parser size held piece)).answer.refusal ≡ false
pushed_fails h f size held piece p =
    let q = passed (R.receive_rows h size) (refl, (refl, (refl, tt))) p in
    let l : code h.state ≤ 2 = leb-true (code h.state) 2 (and_right (leb 1 (code h.state)) (leb (code h.state) 2) q.1.1.0) in
    (goes_push h f (buffered_of h.parser) (λ _. refl) (push h.parser size held piece) (begun_unfailed h.state 2 l (omega arith))
    (push_buffers h.parser size held piece f.parser) (push_low h.parser size held piece f.parser q.1.0)).1

-- ---- lists of calls
record At (st : HostState) (n : ℕ) (h : HostSession) : Type 0 where
  state : h.state ≡ st
  held : failed h.state ≡ false → buffered_of h.parser ≡ n

at_after : (st : HostState) (n : ℕ) (p : HostPlace) (cs : List HostCall) → Fit p.host → At st n p.host → At (host_history host_state st p cs) (host_history host_count_held n p cs) (after p cs).host
unfolding after host_history
at_after st n p [] f k = k
at_after st n p (c ∷ cs) f k =
    let r = (step p.host p.stage c).reply in
    let t = goes p.host f n k.held p.stage c in
    at_after (host_state st c r) (host_count_held n c r) (next p c) cs (fit_step p.host p.stage c f)
    (record { state = t.0 ∙ ap (λ (x : HostState). host_state x c r) k.state; held = t.1 })

reached_at : (s : List ℕ) (cs : List HostCall) → At (host_state_after s cs) (host_held_after s cs) (after (fresh_place s) cs).host
reached_at s cs = at_after State.Detached 0 (fresh_place s) cs (fresh_fit s) (record { state = refl; held = λ _. refl })

pub state_is : (s : List ℕ) (cs : List HostCall) → (after (fresh_place s) cs).host.state ≡ host_state_after s cs
state_is s cs = (reached_at s cs).state

-- ---- the claims
pub told_state_lem : (h : HostSession) → sound_host h ≡ true → A.state_of h ≡ record { refusal = none; state = h.state }
unfolding A.state_of
told_state_lem h e = rw e

-- a call answers what its rows say; the first is soundness
module _ (h h' : HostSession) (sound : sound_host h ≡ true) (rows : List (Bool × Refusal)) (numbered : Numbered rows) (n : ℕ) (bytes o : List ℕ) (at : ℕ) where
  abbrev all : List (Bool × Refusal)
  all = C.sound_row h ∷ rows

  refusal_is : (C.writes (first all) h h' n bytes o at).sent.refusal ≡ first rows
  unfolding C.writes
  refusal_is =
      picked (λ (x : C.Outcome). x.sent.refusal ≡ first all) (passes (first all)) (λ p. sym (pass_none all (passed all (refl, numbered) p))) (λ _. refl)
      ∙ sym (row_passes (sound_host h) (refusal 23 0 0 0) (first rows) rows sound refl)

host_attach_stopped : HostAttachStopped
unfolding step C.attach
host_attach_stopped s cs capability l o at =
    refusal_is (after (fresh_place s) cs).host _ (always_sound s cs) _ (refl, (refl, tt)) _ _ o at ∙ (λ j. first (host_attach_stops (state_is s cs j) o at))

host_send_stopped : HostSendStopped
unfolding step C.send
host_send_stopped s cs bytes o at =
    refusal_is (after (fresh_place s) cs).host _ (always_sound s cs) _ (refl, (refl, (refl, (refl, tt)))) _ _ o at
    ∙ (λ j. first (host_send_stops (state_is s cs j) (host_sequence_is s cs j) bytes o at))

host_receives_stopped : HostReceivesStopped
unfolding step R.receive_of
host_receives_stopped s cs piece =
    let p : HostPlace = after (fresh_place s) cs in
    subst (λ (st : HostState). StoppedBy (receive_stops (is_open st) (length p.stage)) (refusal_of (reply p (receive piece)).answer)) (state_is s cs)
    (goes_receive p.host (fit_reached s cs) (host_held_after s cs) (reached_at s cs).held (length p.stage) _ piece).stopped

host_disconnect_stopped : HostDisconnectStopped
unfolding step
host_disconnect_stopped s cs =
    close_stops (after (fresh_place s) cs).host (fit_reached s cs) (host_held_after s cs) (reached_at s cs).held
    ∙ ap (λ (st : HostState). disconnect_stops (is_begun st) (host_held_after s cs)) (state_is s cs)

pub stopped_claims : StoppedClaims
stopped_claims =
    record {
      writes = writes_stopped;
      receives = receives_stopped;
      disconnect = disconnect_stopped;
      host_attach = host_attach_stopped;
      host_send = host_send_stopped;
      host_receives = host_receives_stopped;
      host_disconnect = host_disconnect_stopped;
    }
