-- `receive_all` ends: the measure is what is left of the piece. Assumes nothing.
use Rattle.std.proofs.Common.{length}
use Rattle.bench_core.proofs.receive.Run.receive_all.Given as goal

abbrev pub decreases-loop-left : goal.decreases-loop-left
decreases-loop-left l = length l.left
