-- What a host's calls that write do write: while it is Attached its identity is that of the Attached event, and its send sequence is the
-- number of sends that were not refused (`Noted`). Each call keeps it so. Assumes nothing.
use Prim.Native.Nat.{ℕ, ◌+◌, ◌≤◌}
use mathlib.Core.Path.{◌≡◌, refl, sym, ap, subst, ◌∙◌}
use mathlib.Core.Bool.{Bool, true}
use mathlib.Core.List.{List, [], ◌∷◌}
use lib.ListN.{length, take}
use lib.Dec.{eqb}
use Rattle.wire.specs.Bytes.{overlay}
use Rattle.session.specs.Checks.{held}
use Rattle.wire.specs.Refusals.{first, passes}
use Rattle.wire.specs.declared.Refusal.{Refusal}
use Rattle.wire.proofs.Rows.{picked, passed}
use Rattle.record.specs.Record.{record_bytes}
use Rattle.record.specs.declared.types.RecordType.{RecordType}
use Rattle.record.specs.declared.types.RecordType.TheVariants as Kind
use Rattle.parser.specs.Push.{Push, push, held_in, buffered_of}
use Rattle.host.specs.State.{is_attached, is_begun, sound_host}
use Rattle.host.specs.Checks.{record_rows}
use Rattle.host.specs.Receive as R
use Rattle.host.specs.Calls as C
use Rattle.host.specs.declared.HostSession.{HostSession}
use Rattle.host.specs.Calls.{Closed}
use Rattle.claims.specs.HostCalls.{HostCall, attach, receive, receive_short, send, disconnect, ask_state, ask_identity, ask_needed, HostPlace, sending, step, next, fresh_place, after, host_history}
use Rattle.claims.specs.Written.{Writes, host_answered, HostFigures, no_host_figures, attached_by, host_count, figures_of, HostAttachWrites, HostSendWrites}
use Rattle.claims.proofs.Outcomes.{true_not_false}
use Rattle.claims.proofs.WrittenLaws.{laid_writes, nothing_written, take_most, in_output, same_bytes}

-- ---- the figures
record Noted (l : HostFigures) (h : HostSession) : Type 0 where
  named : is_attached h.state ≡ true → (held h.identity) ≡ l.identity
  same : h.send_sequence.0 ≡ l.sends

module _ (l : HostFigures) (h : HostSession) (k : Noted l h) where
  abbrev Got : R.Receive → Type 0
  Got r = Noted (attached_by l r.answer.event r.answer.identity) r.answer.session

  effect_noted : (u : Push) (t : RecordType) → Got (R.effect t h u)
  unfolding R.effect
  effect_noted u Kind.GuestAttach = record { named = λ x. true_not_false (sym x); same = k.same }
  effect_noted u Kind.HostAttach = record { named = λ x. true_not_false (sym x); same = k.same }
  effect_noted u Kind.Reset = record { named = λ x. true_not_false (sym x); same = k.same }
  effect_noted u Kind.Ack = record { named = λ x. true_not_false (sym x); same = k.same }
  effect_noted u Kind.Data = record { named = k.named; same = k.same }
  effect_noted u Kind.Wait = record { named = k.named; same = k.same }
  effect_noted u Kind.Ready = record { named = λ _. refl; same = k.same }
  effect_noted u Kind.Error = record { named = λ x. true_not_false (sym x); same = k.same }
  effect_noted u Kind.Credit = record { named = λ x. true_not_false (sym x); same = k.same }

  push_noted : (u : Push) → Got (R.after_push h u)
  unfolding R.after_push R.accept
  push_noted u =
      picked Got (passes u.answer.refusal)
      (λ _. picked Got u.answer.complete
      (λ _. picked Got (passes (first (record_rows h u.answer.«record»))) (λ _. effect_noted u u.answer.«record».record_type) (λ _. record { named = λ x. true_not_false (sym x); same = k.same }))
      (λ _. record { named = k.named; same = k.same }))
      (λ _. record { named = λ x. true_not_false (sym x); same = k.same })

  receive_noted : (size : ℕ) (held piece : List ℕ) → Got (R.receive h size held piece)
  unfolding R.receive
  receive_noted size held piece = picked Got (passes (first (R.receive_rows h size))) (λ _. push_noted (push h.parser size held piece)) (λ _. k)

  attach_noted : (capability o : List ℕ) (at : ℕ) → Noted l (C.attach h capability o at).sent.session
  unfolding C.attach C.writes
  attach_noted capability o at =
      picked (λ (x : C.Outcome). Noted l x.sent.session) (passes (first (C.attach_rows h o at))) (λ _. record { named = λ x. true_not_false (sym x); same = k.same }) (λ _. k)

  close_noted : Noted l (C.disconnect h).session
  unfolding C.disconnect
  close_noted =
      let P : Closed → Type 0 = λ (x : Closed). Noted l x.session in
      picked P (sound_host h)
      (λ _. picked P (is_begun h.state)
      (λ _. picked P (eqb (buffered_of h.parser) 0) (λ _. record { named = λ x. true_not_false (sym x); same = k.same }) (λ _. record { named = λ x. true_not_false (sym x); same = k.same }))
      (λ _. k))
      (λ _. k)

  send_noted : (stage bytes o : List ℕ) (at : ℕ) → Noted (host_count l (send bytes o at) (step h stage (send bytes o at)).reply) (step h stage (send bytes o at)).place.host
  unfolding host_count step C.send C.writes
  send_noted stage bytes o at =
      let r : Refusal = first (C.send_rows h bytes o at) in
      picked (λ (x : C.Outcome). Noted (host_count l (send bytes o at) (sending stage at x).reply) x.sent.session) (passes r)
      (λ _. record { named = k.named; same = ap (λ (n : ℕ). n + 1) k.same })
      (λ p. rw p k)

  noted_step : (stage : List ℕ) (c : HostCall) → Noted (host_count l c (step h stage c).reply) (step h stage c).place.host
  unfolding host_count step R.receive_of
  noted_step stage (attach capability n o at) = attach_noted capability o at
  noted_step stage (receive piece) = receive_noted (length stage) (held_in h.parser stage) piece
  noted_step stage (receive_short piece lent n) = receive_noted (length lent) (held_in h.parser lent) piece
  noted_step stage (send bytes o at) = send_noted stage bytes o at
  noted_step stage disconnect = close_noted
  noted_step stage ask_state = k
  noted_step stage ask_identity = k
  noted_step stage ask_needed = k

noted_after : (l : HostFigures) (p : HostPlace) (cs : List HostCall) → Noted l p.host → Noted (host_history host_count l p cs) (after p cs).host
unfolding host_history after
noted_after l p [] k = k
noted_after l p (c ∷ cs) k = noted_after (host_count l c (step p.host p.stage c).reply) (next p c) cs (noted_step l p.host k p.stage c)

noted : (s : List ℕ) (cs : List HostCall) → Noted (figures_of s cs) (after (fresh_place s) cs).host
noted s cs = noted_after no_host_figures (fresh_place s) cs (record { named = λ x. true_not_false (sym x); same = refl })

pub host_sequence_is : (s : List ℕ) (cs : List HostCall) → (after (fresh_place s) cs).host.send_sequence.0 ≡ (figures_of s cs).sends
host_sequence_is s cs = (noted s cs).same

-- ---- one call
module _ (stage : List ℕ) (rows : List (Bool × Refusal)) (h h' : HostSession) (n : ℕ) (bytes due o : List ℕ) (at : ℕ)
    (room : passes (first rows) ≡ true → at ≤ length o) (same : passes (first rows) ≡ true → bytes ≡ due) where
  abbrev Fine : C.Outcome → Type 0
  Fine x = Writes at n due (host_answered (sending stage at x).reply.answer (sending stage at x).reply.written)

  writes_fine : Fine (C.writes (first rows) h h' n bytes o at)
  unfolding C.writes
  writes_fine =
      picked Fine (passes (first rows))
      (λ p. subst (λ (b : List ℕ). Fine (C.outcome (C.sent_record n (at + length b) h') (overlay o at b))) (sym (same p)) (laid_writes o at n due (room p)))
      (λ p. nothing_written o at n due (first rows) p)

pub host_attach_writes : HostAttachWrites
unfolding step C.attach
host_attach_writes s cs capability l o at =
    let h : HostSession = (after (fresh_place s) cs).host in
    let rows = C.attach_rows h o at in
    writes_fine (after (fresh_place s) cs).stage rows h _ _ _ _ o at (λ p. in_output at 76 o (passed rows (refl, (refl, (refl, tt))) p).1.1.0) (λ _. refl)

pub host_send_writes : HostSendWrites
unfolding step C.send
host_send_writes s cs bytes o at =
    let h : HostSession = (after (fresh_place s) cs).host in
    let l : HostFigures = figures_of s cs in
    let rows = C.send_rows h bytes o at in
    writes_fine (after (fresh_place s) cs).stage rows h _ _ _ _ o at
    (λ p. in_output at (44 + C.send_count bytes) o (passed rows (refl, (refl, (refl, (refl, (refl, tt))))) p).1.1.1.1.0)
    (λ p.
    let i = (noted s cs).named (passed rows (refl, (refl, (refl, (refl, (refl, tt))))) p).1.0 in
    same_bytes 5 (take (C.send_count bytes) bytes) i (noted s cs).same
    ∙ ap (record_bytes 5 l.identity.instance_id l.identity.epoch.0 l.sends) (take_most 65536 bytes))
