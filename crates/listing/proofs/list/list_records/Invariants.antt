-- `listing::list::list_records` meets its contract. The loop's invariant, `Going` of proofs/Lines: what is left to do is what was to be done at first, and nothing was refused. The measure is the bytes that are left, of which each turn takes one or more. Assumes nothing.
use Rattle.std.proofs.Common.{length, ◌-◌, ◌≡◌}
use Rattle.wire.specs.Refusals.{none, verdict}
use Rattle.listing.proofs.Lines.{Going}
use Rattle.listing.proofs.list.list_records.Given as goal

abbrev pub invariant-loop-done : goal.invariant-loop-done
invariant-loop-done l = Going l.fn.listing l.piece l.initial.stage l.initial.output l.done.listing l.stage l.output l.done.taken l.done.written × (verdict l.done.answer ≡ none)

abbrev pub decreases-loop-done : goal.decreases-loop-done
decreases-loop-done l = length l.piece - l.done.taken
