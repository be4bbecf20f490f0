-- The answers of send and credit by what the encoder of their record answers. Assumes nothing.
use Prim.Native.Nat.{ℕ, ◌-◌, ◌<◌, ◌^◌}
use mathlib.Core.Path.{◌≡◌}
use mathlib.Core.List.{List}
use native.Mathlib.Omega.{arith}
use Rattle.std.proofs.lemmas.Bool.Decides.{nat_tests}
use Rattle.wire.specs.Refusals.{pick, first, passes}
use Rattle.session.specs.Writes as writing
use Rattle.session.proofs.NextCases.{data_told}
use Rattle.guest_core.specs.State.{with_sent}
use Rattle.guest_core.specs.Writes.{Outcome, outcome, not_sent, sent_record, writes}
use Rattle.guest_core.specs.Send.{send, encoding, credit, crediting}
use Rattle.guest_core.specs.declared.GuestSession.{GuestSession}
use Rattle.guest_core.proofs.Soundness.{outstanding_most}
use Rattle.guest_core.proofs.Calling.{credit_told}

module _ (g : GuestSession) (outstanding : ℕ) where
  abbrev pub by_encoded : writing.Outcome → Outcome
  by_encoded x =
      pick (passes x.encoded.refusal)
      (outcome (sent_record x.encoded.count x.encoded.next (with_sent g x.encoded.sequence.0 outstanding)) x.output)
      (outcome (not_sent x.encoded.refusal g) x.output)

module _ (g : GuestSession) (o : List ℕ) (at : ℕ) where
  pub by_encoding : (bs : List ℕ) → send g bs o at ≡ by_encoded g g.outstanding (encoding g bs o at)
  unfolding encoding send writes first
  by_encoding bs = grind (arith, nat_tests, data_told)

  pub by_crediting : (n : ℕ) → n < 2 ^ 32 → credit g n o at ≡ by_encoded g (g.outstanding - n) (crediting g n o at)
  unfolding crediting credit writes first
  by_crediting n low = grind (arith, nat_tests, credit_told, outstanding_most g)
