-- Every session that calls from a fresh host reach is sound. Its parser is, since a push leaves it so (`push_sound_lem`), and only READY leads
-- to Attached, whose rows ask for an identity. The stage plays no part. Assumes nothing.
use Prim.Native.Nat.{ℕ}
use mathlib.Core.Path.{◌≡◌, refl, sym, subst}
use mathlib.Core.Bool.{true}
use mathlib.Core.List.{List, [], ◌∷◌}
use lib.ListN.{length}
use lib.Dec.{eqb}
use Rattle.wire.specs.Refusals.{refusal, first, passes}
use Rattle.wire.specs.declared.Refusal.{Refusal}
use Rattle.wire.proofs.Rows.{picked, passed}
use Rattle.record.specs.Types.{code_of}
use Rattle.record.specs.declared.types.RecordType.{RecordType}
use Rattle.record.specs.declared.types.RecordType.TheVariants as Kind
use Rattle.record.specs.declared.Record.{Record}
use Rattle.parser.specs.Push.{sound_parser, counts_ok, error_ok, Push, push, held_in, buffered_of}
use Rattle.session.specs.Checks.{held, holds, sequence_row, next_row}
use Rattle.host.specs.State.{is_attached, is_begun, sound_host}
use Rattle.host.specs.Checks.{allowed, type_rows, record_rows}
use Rattle.host.specs.Receive.{Receive, effect, accept, after_push, receive_rows, receive, receive_of}
use Rattle.host.specs.Calls as Calls
use Rattle.host.specs.declared.HostSession.{HostSession}
use Rattle.host.specs.Calls.{Closed}
use Rattle.claims.specs.HostCalls.{HostCall, attach, receive_short, send, disconnect, ask_state, ask_identity, ask_needed, HostPlace, step, next, after, fresh_place}
use Rattle.claims.specs.HostCalls as Call
use Rattle.claims.proofs.Outcomes.{true_not_false, unless}
use Rattle.claims.proofs.ParserSound.{push_sound_lem}

-- what soundness says, in two parts
pub record Fit (h : HostSession) : Type 0 where
  pub parser : sound_parser h.parser ≡ true
  pub named : is_attached h.state ≡ true → holds h.identity ≡ true

pub fit_sound : (h : HostSession) → Fit h → sound_host h ≡ true
unfolding sound_host
fit_sound h f = rw (f.parser, unless (is_attached h.state) (holds h.identity) f.named)

-- ---- receive
abbrev FitAfter : Receive → Type 0
FitAfter r = Fit r.answer.session

module _ (h : HostSession) (f : Fit h) (u : Push) (s : sound_parser u.answer.parser ≡ true) where
  -- a READY whose rows pass carries an identity
  ready_named : u.answer.«record».record_type ≡ Kind.Ready → passes (first (record_rows h u.answer.«record»)) ≡ true
      → FitAfter (effect Kind.Ready h u)
  unfolding effect holds
  ready_named q e =
      let r : Record = u.answer.«record» in
      let t : passes (first ((allowed h.state 7, refusal 10 7 0 0) ∷ sequence_row h.receive_sequence.0 r.sequence.0 ∷ next_row 7 h.receive_sequence.0 ∷ type_rows 7 (held h.identity) r)) ≡ true =
      subst (λ (k : RecordType). passes (first ((allowed h.state (code_of k), refusal 10 (code_of k) 0 0) ∷ sequence_row h.receive_sequence.0 r.sequence.0 ∷ next_row (code_of k) h.receive_sequence.0 ∷ type_rows (code_of k) (held h.identity) r)) ≡ true) q e
      in
      record { parser = s; named = λ _. (passed _ (refl, (refl, (refl, (refl, tt)))) t).1.1.1.0 }

  effect_fits : (t : RecordType) → u.answer.«record».record_type ≡ t → passes (first (record_rows h u.answer.«record»)) ≡ true
      → FitAfter (effect t h u)
  unfolding effect
  effect_fits Kind.GuestAttach q e = record { parser = s; named = λ x. true_not_false (sym x) }
  effect_fits Kind.HostAttach q e = record { parser = s; named = λ x. true_not_false (sym x) }
  effect_fits Kind.Reset q e = record { parser = s; named = λ x. true_not_false (sym x) }
  effect_fits Kind.Ack q e = record { parser = s; named = λ x. true_not_false (sym x) }
  effect_fits Kind.Data q e = record { parser = s; named = f.named }
  effect_fits Kind.Wait q e = record { parser = s; named = f.named }
  effect_fits Kind.Ready q e = ready_named q e
  effect_fits Kind.Error q e = record { parser = s; named = λ x. true_not_false (sym x) }
  effect_fits Kind.Credit q e = record { parser = s; named = λ x. true_not_false (sym x) }

  accept_fits : FitAfter (accept h u)
  unfolding accept
  accept_fits =
      picked FitAfter (passes (first (record_rows h u.answer.«record»)))
      (effect_fits u.answer.«record».record_type refl)
      (λ _. record { parser = s; named = λ x. true_not_false (sym x) })

  after_fits : FitAfter (after_push h u)
  unfolding after_push
  after_fits =
      picked FitAfter (passes u.answer.refusal)
      (λ _. picked FitAfter u.answer.complete (λ _. accept_fits) (λ _. record { parser = s; named = f.named }))
      (λ _. record { parser = s; named = λ x. true_not_false (sym x) })

receive_fits : (h : HostSession) (size : ℕ) (held piece : List ℕ) → Fit h → FitAfter (receive h size held piece)
unfolding receive
receive_fits h size held piece f =
    picked FitAfter (passes (first (receive_rows h size)))
    (λ _. after_fits h f (push h.parser size held piece) (push_sound_lem h.parser size held piece f.parser))
    (λ _. f)

-- ---- the other calls
writes_fit : (r : Refusal) (h a : HostSession) (n : ℕ) (bytes o : List ℕ) (at : ℕ) → Fit h → Fit a → Fit (Calls.writes r h a n bytes o at).sent.session
unfolding Calls.writes
writes_fit r h a n bytes o at f g = picked (λ (x : Calls.Outcome). Fit x.sent.session) (passes r) (λ _. g) (λ _. f)

disconnect_fits : (h : HostSession) → Fit h → Fit (Calls.disconnect h).session
unfolding Calls.disconnect
disconnect_fits h f =
    let P : Closed → Type 0 = λ (x : Closed). Fit x.session in
    picked P (sound_host h)
    (λ _. picked P (is_begun h.state)
    (λ _. picked P (eqb (buffered_of h.parser) 0) (λ _. record { parser = f.parser; named = λ x. true_not_false (sym x) }) (λ _. record { parser = f.parser; named = λ x. true_not_false (sym x) }))
    (λ _. f))
    (λ _. f)

pub fit_step : (h : HostSession) (stage : List ℕ) (c : HostCall) → Fit h → Fit (step h stage c).place.host
unfolding step Calls.attach Calls.send receive_of
fit_step h stage (attach capability l output at) f = writes_fit _ h _ _ _ _ _ f (record { parser = f.parser; named = λ x. true_not_false (sym x) })
fit_step h stage (Call.receive piece) f = receive_fits h (length stage) (held_in h.parser stage) piece f
fit_step h stage (receive_short piece lent l) f = receive_fits h (length lent) (held_in h.parser lent) piece f
fit_step h stage (send bytes output at) f = writes_fit _ h _ _ _ _ _ f (record { parser = f.parser; named = f.named })
fit_step h stage disconnect f = disconnect_fits h f
fit_step h stage ask_state f = f
fit_step h stage ask_identity f = f
fit_step h stage ask_needed f = f

fit_after : (p : HostPlace) (cs : List HostCall) → Fit p.host → Fit (after p cs).host
unfolding after
fit_after p [] f = f
fit_after p (c ∷ cs) f = fit_after (next p c) cs (fit_step p.host p.stage c f)

pub fresh_fit : (s : List ℕ) → Fit (fresh_place s).host
unfolding sound_parser counts_ok error_ok
fresh_fit s = record { parser = refl; named = λ x. true_not_false (sym x) }

pub fit_reached : (s : List ℕ) (cs : List HostCall) → Fit (after (fresh_place s) cs).host
fit_reached s cs = fit_after (fresh_place s) cs (fresh_fit s)

pub always_sound : (s : List ℕ) (cs : List HostCall) → sound_host (after (fresh_place s) cs).host ≡ true
always_sound s cs = fit_sound _ (fit_reached s cs)
