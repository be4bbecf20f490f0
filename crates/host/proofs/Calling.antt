-- The answer of a send by what its record's encoder answers. Assumes nothing.
use Prim.Native.Nat.{ℕ}
use mathlib.Core.Path.{◌≡◌}
use mathlib.Core.List.{List}
use native.Mathlib.Omega.{arith}
use Rattle.std.proofs.lemmas.Bool.Decides.{nat_tests}
use Rattle.wire.specs.Refusals.{pick, first, passes}
use Rattle.session.specs.Writes as writing
use Rattle.session.proofs.NextCases.{data_told}
use Rattle.host.specs.State.{with_sent}
use Rattle.host.specs.Calls.{Outcome, outcome, not_sent, sent_record, writes, send, encoding}
use Rattle.host.specs.declared.HostSession.{HostSession}

abbrev pub by_encoded : HostSession → writing.Outcome → Outcome
by_encoded h x =
    pick (passes x.encoded.refusal)
    (outcome (sent_record x.encoded.count x.encoded.next (with_sent h x.encoded.sequence.0)) x.output)
    (outcome (not_sent x.encoded.refusal h) x.output)

pub by_encoding : (h : HostSession) (bs o : List ℕ) (at : ℕ) → send h bs o at ≡ by_encoded h (encoding h bs o at)
unfolding encoding send writes first
by_encoding h bs o at = grind (arith, nat_tests, data_told)
