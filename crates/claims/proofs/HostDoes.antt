-- What a receive lent the session's own stage does to it: the stage stays as long, its first bytes are the payload bytes held, and the
-- payload handed out lies where the answer says. It leans on the same of one push (`push_staged`). While the session can still
-- receive, its parser can go on (`Ready`), so that the premises of that law hold again. Assumes nothing.
use Prim.Native.Nat.{ℕ}
use Rattle.std.specs.Prelude.{Option}
use Rattle.session.specs.declared.Identity.{Identity}
use mathlib.Core.Path.{◌≡◌, refl, sym, ap, ◌∙◌}
use mathlib.Core.Bool.{true}
use mathlib.Core.List.{List, ◌++◌}
use native.Mathlib.Omega.{arith}
use lib.ListN.{length}
use lib.Dec.{leb}
use Rattle.wire.specs.Refusals.{first, passes}
use Rattle.wire.specs.declared.Refusal.{Refusal}
use Rattle.wire.proofs.Rows.{picked, passed, and_right}
use Rattle.record.specs.declared.types.RecordType.{RecordType}
use Rattle.record.specs.declared.types.RecordType.TheVariants as Kind
use Rattle.parser.specs.Push.{Push, push, push_stage, held_in, head_with, payload_at}
use Rattle.wire.specs.declared.Sequence.{Sequence}
use Rattle.host.specs.State.{code, is_open, is_begun}
use Rattle.host.specs.Checks.{record_rows}
use Rattle.host.specs.Receive.{Receive, effect, accept, after_push, receive_rows, receive, receive_stage}
use Rattle.host.specs.declared.HostState.{HostState}
use Rattle.host.specs.declared.HostSession.{HostSession}
use Rattle.claims.specs.Reading.{held_bytes, Ready, Staged}
use Rattle.claims.proofs.Scans.{Scan, unfinished, whole, refused, scan}
use Rattle.claims.proofs.Outcomes.{picked₂, true_not_false, Matches}
use Rattle.claims.proofs.Pushes.{push_matches}
use Rattle.claims.proofs.Stages.{push_staged}
use Rattle.claims.proofs.Stream.{completed_ready}

-- a session beside its stage: in the states before an end its parser can go on
pub record Lands (h : HostSession) (held stage : List ℕ) : Type 0 where
  pub room : length stage ≡ 65536
  pub reads : held_in h.parser stage ≡ held
  pub ready : is_begun h.state ≡ true → Ready h.parser held

-- the same after a receive, with the payload that its answer names
pub record Landed (piece : List ℕ) (r : Receive) (stage : List ℕ) : Type 0 where
  pub lands : Lands r.answer.session r.held stage
  pub payload : payload_at r.answer.place r.answer.length piece stage ≡ r.payload

-- a push that is not refused leaves a parser that can go on
ready_as : (b piece H : List ℕ) (u : Push) (v : Scan) → Matches b piece H u v → passes u.answer.refusal ≡ true → Ready u.answer.parser u.held
ready_as b piece H u unfinished t e = t.ready
ready_as b piece H u (whole h y) t e = completed_ready t
ready_as b piece H u (refused r) t e = true_not_false (sym e ∙ ap (λ (x : Refusal). passes x) t.refusal ∙ t.numbered)

module _ (h : HostSession) (piece : List ℕ) (u : Push) (n : ℕ) (stage : List ℕ) (staged : Staged piece n u stage) (room : n ≡ 65536)
    (ready : passes u.answer.refusal ≡ true → Ready u.answer.parser u.held) where
  abbrev Here : Receive → Type 0
  Here r = Landed piece r stage

  -- any session with the parser that the push left
  module _ (e : passes u.answer.refusal ≡ true) where
    keeps : (s : HostState) (i : Option Identity) (due next : Sequence)
        → Lands (record { state = s; parser = u.answer.parser; identity = i; receive_sequence = due; send_sequence = next }) u.held stage
    keeps s i due next = record { room = staged.same_length ∙ room; reads = staged.held; ready = λ _. ready e }

    effect_lands : u.answer.complete ≡ true → (t : RecordType) → Here (effect t h u)
    unfolding effect
    effect_lands c Kind.GuestAttach = record { lands = keeps _ _ _ _; payload = refl }
    effect_lands c Kind.HostAttach = record { lands = keeps _ _ _ _; payload = refl }
    effect_lands c Kind.Reset = record { lands = keeps _ _ _ _; payload = refl }
    effect_lands c Kind.Ack = record { lands = keeps _ _ _ _; payload = refl }
    effect_lands c Kind.Data = record { lands = keeps _ _ _ _; payload = staged.lies c }
    effect_lands c Kind.Wait = record { lands = keeps _ _ _ _; payload = refl }
    effect_lands c Kind.Ready = record { lands = keeps _ _ _ _; payload = refl }
    effect_lands c Kind.Error = record { lands = keeps _ _ _ _; payload = refl }
    effect_lands c Kind.Credit = record { lands = keeps _ _ _ _; payload = refl }

    accept_lands : u.answer.complete ≡ true → Here (accept h u)
    unfolding accept
    accept_lands c =
        picked Here (passes (first (record_rows h u.answer.«record»)))
        (λ _. effect_lands c u.answer.«record».record_type)
        (λ _. record { lands = keeps _ _ _ _; payload = refl })

  after_lands : Here (after_push h u)
  unfolding after_push
  after_lands =
      picked Here (passes u.answer.refusal)
      (λ e. picked Here u.answer.complete (accept_lands e) (λ _. record { lands = keeps e _ _ _ _; payload = refl }))
      (λ _. record { lands = record { room = staged.same_length ∙ room; reads = staged.held; ready = λ x. true_not_false (sym x) }; payload = refl })

-- the states in which a host receives are among the first three
open_begun : (s : HostState) → is_open s ≡ true → is_begun s ≡ true
open_begun s e = and_right (leb 1 (code s)) (leb (code s) 2) e

module _ (h : HostSession) (piece stage : List ℕ) (l : Lands h (held_in h.parser stage) stage) where
  abbrev held : List ℕ
  held = held_in h.parser stage

  push_ready : Ready h.parser held → passes (push h.parser (length stage) held piece).answer.refusal ≡ true
      → Ready (push h.parser (length stage) held piece).answer.parser (push h.parser (length stage) held piece).held
  push_ready r =
      ready_as (held_bytes h.parser held) piece (head_with h.parser.header h.parser.header_len piece) (push h.parser (length stage) held piece)
      (scan (held_bytes h.parser held ++ piece)) (push_matches h.parser (length stage) held piece r (omega (arith, l.room)))

  pub receive_lands : Landed piece (receive h (length stage) held piece) (receive_stage h piece stage)
  unfolding receive receive_stage
  receive_lands =
      picked₂ (Landed piece) (passes (first (receive_rows h (length stage))))
      (λ e.
      let r : Ready h.parser held = l.ready (open_begun h.state (passed (receive_rows h (length stage)) (refl, (refl, (refl, tt))) e).1.1.0) in
      after_lands h piece (push h.parser (length stage) held piece) (length stage) (push_stage h.parser piece stage)
      (push_staged h.parser piece stage r (omega (arith, l.room))) l.room (push_ready r))
      (λ _. record { lands = l; payload = refl })
