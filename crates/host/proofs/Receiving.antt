-- The cases of a receive. Its answer is made of the push's answer alone. Assumes nothing.
use native.Mathlib.Omega.{arith}
use Prim.Native.Nat.{ℕ, ◌+◌, ◌<◌, ◌^◌}
use mathlib.Core.Path.{◌≡◌, refl, sym, ap, ◌∙◌}
use mathlib.Core.Bool.{Bool, true, ◌&&◌}
use mathlib.Core.List.{List}
use lib.ListN.{length}
use lib.Dec.{eqb, ltb}
use borrow.Author.Tests.{leb-true, eqb-true}
use Rattle.wire.specs.Refusals.{refusal, none, refusal_of, first, passes}
use Rattle.std.proofs.lemmas.Bool.Decides.{nat_tests}
use Rattle.wire.specs.Bytes.{copied}
use Rattle.wire.specs.Header.{length_of}
use Rattle.wire.specs.declared.errors.Error.{Error}
use Rattle.wire.proofs.Rows.{Passed, refuses, passed, and_left}
use Rattle.record.specs.Types.{code_of}
use Rattle.record.specs.declared.types.RecordType.{RecordType}
use Rattle.record.specs.declared.types.RecordType.TheVariants as Kind
use Rattle.parser.specs.Push.{Pushed, Push, waiting, push, push_stage, held_in, push_of, sound_parser}
use Rattle.parser.specs.Push as pushing
use Rattle.parser.specs.declared.RecordParser.{RecordParser}
use Rattle.parser.proofs.Cases.{length_low, sound_passes, open_taken}
use Rattle.host.specs.State.{with_state}
use Rattle.host.specs.Receive.{told, refused, effect, accept, after_push, receive_rows, receive, receive_stage, Outcome, outcome, receive_of}
use Rattle.host.specs.declared.HostState.TheVariants as State
use Rattle.host.specs.declared.HostSession.{HostSession}
use Rattle.host.proofs.Soundness.{sound_inside}

-- ---- a whole record of a type that no host takes
pub effect_other : (t : RecordType) (h : HostSession) (u : Pushed) → (t ≡ Kind.Wait → ⊥) → (t ≡ Kind.Ready → ⊥) → (t ≡ Kind.Error → ⊥) → (t ≡ Kind.Data → ⊥) → (t ≡ Kind.Reset → ⊥)
    → refused (refusal 10 (code_of t) 0 0) (with_state h State.Failed u.parser) ≡ (effect t h (told u)).answer
unfolding effect
effect_other t h u n6 n7 n8 n5 n3 = grind arith

-- ---- the answer of a receive is made of the push's answer alone
answer_told : (h : HostSession) (u : Push) → (after_push h u).answer ≡ (after_push h (told u.answer)).answer
unfolding after_push accept effect
answer_told h u = grind arith

-- ---- receive
-- a piece that leaves the payload in progress unfinished
abbrev pub stays : RecordParser → ℕ → Bool
stays p n = eqb p.header_len 44 && ltb (p.payload_len + n) (length_of p.header)

module _ (h : HostSession) (piece stage : List ℕ) where
  abbrev pub after : pushing.Outcome → Outcome
  after u = outcome (after_push h (told u.pushed)).answer u.stage

  pub stops : (e : Error) → refusal_of e ≡ first (receive_rows h (length stage)) → receive_of h piece stage ≡ outcome (refused (refusal_of e) h) stage
  unfolding receive_of receive receive_stage
  stops e q = simp (← q, refuses e) refl

  module _ (q : none ≡ first (receive_rows h (length stage))) where
    pub goes : receive_of h piece stage ≡ after (push_of h.parser piece stage)
    unfolding receive_of receive receive_stage push_of
    goes = grind (arith, answer_told)

    module _ (o : stays h.parser (length piece) ≡ true) where
      tests : Passed (receive_rows h (length stage))
      tests = passed (receive_rows h (length stage)) (refl, (refl, (refl, tt))) (ap passes (sym q))

      sound : sound_parser h.parser ≡ true
      sound = sound_inside h tests.0

      pub stays_low : h.parser.payload_len + length piece < 2 ^ 32
      stays_low = let s = length_low h.parser.header (sound_passes h.parser true (sym sound) refl (eqb-true h.parser.header_len 44 (and_left _ _ o))) in grind (arith, nat_tests)

      pub waits : receive_of h piece stage ≡ after (pushing.outcome (waiting h.parser.header 44 (h.parser.payload_len + length piece) (length piece)) (copied stage h.parser.payload_len piece))
      waits = goes ∙ ap after (sym (open_taken h.parser piece stage _ sound (leb-true 65536 (length stage) tests.1.0) o refl))
