-- The loop's invariant of `nvxs_list::feed`, `FedSoFar` of proofs/Feeding: the calls so far were lent the piece's first bytes. The measure is the bytes that are left, of which each turn but the last takes one or more. Assumes nothing.
use Rattle.std.proofs.Common.{length, ◌-◌}
use Rattle.nvxs_list.proofs.Feeding.{FedSoFar}
use Rattle.nvxs_list.proofs.feed.Given as goal

abbrev pub invariant-loop-taken : goal.invariant-loop-taken
invariant-loop-taken l = FedSoFar l.initial.listing l.piece l.initial.stage l.listing l.stage l.taken

abbrev pub decreases-loop-taken : goal.decreases-loop-taken
decreases-loop-taken l = length l.piece - l.taken
