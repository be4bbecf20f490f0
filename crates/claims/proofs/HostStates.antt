-- What a host's asks answer, where its calls succeed, and which change nothing. After every call the session's state and identity are what
-- the folds give, and a call that changes nothing leaves the same session and stage. Assumes nothing.
use Prim.Native.Nat.{ℕ}
use Rattle.std.specs.Prelude.{Option}
use mathlib.Core.Path.{◌≡◌, refl, sym, ap, subst, ◌∙◌}
use mathlib.Core.Bool.{true, false}
use mathlib.Core.List.{List, [], ◌∷◌}
use lib.ListN.{length}
use lib.Dec.{eqb}
use Rattle.wire.specs.Refusals.{none, first, passes}
use Rattle.wire.specs.declared.Refusal.{Refusal}
use Rattle.wire.proofs.Rows.{picked}
use Rattle.record.specs.declared.types.RecordType.{RecordType}
use Rattle.record.specs.declared.types.RecordType.TheVariants as Kind
use Rattle.parser.specs.Push.{Push, push, held_in, buffered_of}
use Rattle.session.specs.declared.Identity.{Identity}
use Rattle.host.specs.State.{is_begun, sound_host}
use Rattle.host.specs.Checks.{record_rows}
use Rattle.host.specs.Receive.{Receive, effect, accept, after_push, receive_rows, receive_stage, receive_of}
use Rattle.host.specs.Receive as R
use Rattle.host.specs.Asks as Asks
use Rattle.host.specs.Calls as Calls
use Rattle.host.specs.declared.HostState.{HostState}
use Rattle.host.specs.declared.HostSession.{HostSession}
use Rattle.host.specs.Calls.{Closed}
use Rattle.claims.specs.HostCalls.{HostCall, attach, receive, receive_short, send, disconnect, ask_state, ask_identity, ask_needed}
use Rattle.claims.specs.HostCalls.{told_state, told_identity, HostPlace, placed, step, reply, next, host_history, fresh_place, after}
use Rattle.claims.specs.States.{keeps_state, host_named_by, host_identity_after, host_replies, HostStateTold, HostIdentityTold}
use Rattle.claims.specs.States.{HostEnded, host_rejected, host_reset, host_closed, host_failed_lem, HostIdle, HostRefusedChangesNothing}
use Rattle.claims.proofs.Outcomes.{picked₂, true_not_false}
use Rattle.claims.proofs.HostStopped.{told_state_lem, state_is, pushed_fails}
use Rattle.claims.proofs.HostSound.{Fit, fit_sound, fit_step, fresh_fit, fit_reached}

ended : {s : HostState} → HostEnded s → is_begun s ≡ false
ended host_rejected = refl
ended host_reset = refl
ended host_closed = refl
ended host_failed_lem = refl

-- ---- a receive
-- the identity that it leaves
module _ (h : HostSession) where
  abbrev Named : Receive → Type 0
  Named r = host_named_by h.identity r.answer.event r.answer.identity ≡ r.answer.session.identity

  effect_named : (u : Push) (k : RecordType) → Named (effect k h u)
  unfolding effect
  effect_named u Kind.GuestAttach = refl
  effect_named u Kind.HostAttach = refl
  effect_named u Kind.Reset = refl
  effect_named u Kind.Ack = refl
  effect_named u Kind.Data = refl
  effect_named u Kind.Wait = refl
  effect_named u Kind.Ready = refl
  effect_named u Kind.Error = refl
  effect_named u Kind.Credit = refl

  receive_named : (size : ℕ) (held piece : List ℕ) → Named (R.receive h size held piece)
  unfolding R.receive after_push accept
  receive_named size held piece =
      let u : Push = push h.parser size held piece in
      picked Named (passes (first (receive_rows h size)))
      (λ _. picked Named (passes u.answer.refusal)
      (λ _. picked Named u.answer.complete
      (λ _. picked Named (passes (first (record_rows h u.answer.«record»))) (λ _. effect_named u u.answer.«record».record_type) (λ _. refl))
      (λ _. refl))
      (λ _. refl))
      (λ _. refl)

-- one that changes nothing
receive_idle : (h : HostSession) → Fit h → (stage piece : List ℕ) → keeps_state (R.receive h (length stage) (held_in h.parser stage) piece).answer.refusal ≡ true
    → ((R.receive h (length stage) (held_in h.parser stage) piece).answer.session ≡ h) × (receive_stage h piece stage ≡ stage)
unfolding R.receive receive_stage
receive_idle h f stage piece =
    picked₂ (λ (r : Receive) (left : List ℕ). keeps_state r.answer.refusal ≡ true → (r.answer.session ≡ h) × (left ≡ stage)) (passes (first (receive_rows h (length stage))))
    (λ p x. true_not_false (sym x ∙ pushed_fails h f (length stage) (held_in h.parser stage) piece p))
    (λ _ _. (refl, refl))

-- ---- calls that write
-- one that is refused leaves the session
not_written_lem : (r : Refusal) (h z : HostSession) (n : ℕ) (bytes o : List ℕ) (at : ℕ) → passes (Calls.writes r h z n bytes o at).sent.refusal ≡ false → (Calls.writes r h z n bytes o at).sent.session ≡ h
unfolding Calls.writes
not_written_lem r h z n bytes o at =
    picked (λ (x : Calls.Outcome). passes x.sent.refusal ≡ false → x.sent.session ≡ h) (passes r) (λ _ q. true_not_false q) (λ _ _. refl)

-- what both sessions have
kept_identity : (r : Refusal) (h z : HostSession) (n : ℕ) (bytes o : List ℕ) (at : ℕ) → h.identity ≡ z.identity
    → h.identity ≡ (Calls.writes r h z n bytes o at).sent.session.identity
unfolding Calls.writes
kept_identity r h z n bytes o at e = picked (λ (x : Calls.Outcome). h.identity ≡ x.sent.session.identity) (passes r) (λ _. e) (λ _. refl)

-- ---- disconnect
record Leaves (h : HostSession) (r : Closed) : Type 0 where
  identity : h.identity ≡ r.session.identity
  ends : is_begun h.state ≡ false → r ≡ record { refusal = none; session = h }

disconnect_leaves : (h : HostSession) → sound_host h ≡ true → Leaves h (Calls.disconnect h)
unfolding Calls.disconnect
disconnect_leaves h sound =
    picked (Leaves h) (sound_host h)
    (λ _. picked (Leaves h) (is_begun h.state)
    (λ d. picked (Leaves h) (eqb (buffered_of h.parser) 0)
    (λ _. record { identity = refl; ends = λ x. true_not_false (sym d ∙ x) })
    (λ _. record { identity = refl; ends = λ x. true_not_false (sym d ∙ x) }))
    (λ d. record { identity = refl; ends = λ _. refl }))
    (λ c. true_not_false (sym sound ∙ c))

-- ---- one call
identity_next : (h : HostSession) (stage : List ℕ) → Fit h → (c : HostCall)
    → host_identity_after h.identity c (step h stage c).reply ≡ (step h stage c).place.host.identity
unfolding host_identity_after step Calls.attach Calls.send receive_of
identity_next h stage f (attach capability k output at) = kept_identity _ h _ _ _ _ _ refl
identity_next h stage f (receive piece) = receive_named h (length stage) (held_in h.parser stage) piece
identity_next h stage f (receive_short piece lent k) = receive_named h (length lent) (held_in h.parser lent) piece
identity_next h stage f (send bytes output at) = kept_identity _ h _ _ _ _ _ refl
identity_next h stage f disconnect = (disconnect_leaves h (fit_sound h f)).identity
identity_next h stage f ask_state = refl
identity_next h stage f ask_identity = refl
identity_next h stage f ask_needed = refl

identity_asked : (h : HostSession) → sound_host h ≡ true → Asks.identity_of h ≡ record { refusal = none; identity = h.identity }
unfolding Asks.identity_of
identity_asked h e = rw e

call_idle : (h : HostSession) (stage : List ℕ) → Fit h → (c : HostCall) → HostIdle h.state c (step h stage c).reply.answer → (step h stage c).place ≡ placed h stage
unfolding step Calls.attach Calls.send receive_of
call_idle h stage f (attach capability k output at) x = ap (λ (z : HostSession). placed z stage) (not_written_lem _ h _ _ _ output at x)
call_idle h stage f (receive piece) x = let r = receive_idle h f stage piece x in λ j. placed (r.0 j) (r.1 j)
call_idle h stage f (receive_short piece lent k) x = ap (λ (z : HostSession). placed z stage) (receive_idle h f lent piece x).0
call_idle h stage f (send bytes output at) x = ap (λ (z : HostSession). placed z stage) (not_written_lem _ h _ _ _ output at x)
call_idle h stage f disconnect x = ap (λ (r : Closed). placed r.session stage) ((disconnect_leaves h (fit_sound h f)).ends (ended x))
call_idle h stage f ask_state x = refl
call_idle h stage f ask_identity x = refl
call_idle h stage f ask_needed x = refl

-- ---- lists of calls
identity_after_lem : (p : HostPlace) (cs : List HostCall) → Fit p.host → host_history host_identity_after p.host.identity p cs ≡ (after p cs).host.identity
unfolding after host_history
identity_after_lem p [] f = refl
identity_after_lem p (c ∷ cs) f =
    ap (λ (i : Option Identity). host_history host_identity_after i (next p c) cs) (identity_next p.host p.stage f c)
    ∙ identity_after_lem (next p c) cs (fit_step p.host p.stage c f)

-- ---- the claims
module _ (s : List ℕ) (cs : List HostCall) where
  abbrev p : HostPlace
  p = after (fresh_place s) cs

  sound : sound_host p.host ≡ true
  sound = fit_sound p.host (fit_reached s cs)

pub host_state_told : HostStateTold
unfolding step
host_state_told s cs = ap told_state (told_state_lem (p s cs).host (sound s cs)) ∙ (λ j. told_state (record { refusal = none; state = state_is s cs j }))

pub host_identity_told : HostIdentityTold
unfolding step
host_identity_told s cs =
    ap told_identity (identity_asked (p s cs).host (sound s cs))
    ∙ ap (λ (i : Option Identity). told_identity (record { refusal = none; identity = i })) (sym (identity_after_lem (fresh_place s) cs (fresh_fit s)))

pub host_idle : HostRefusedChangesNothing
host_idle s cs c x ds =
    ap (λ (z : HostPlace). host_replies z ds)
    (call_idle (p s cs).host (p s cs).stage (fit_reached s cs) c (subst (λ (y : HostState). HostIdle y c (reply (p s cs) c).answer) (sym (state_is s cs)) x))
