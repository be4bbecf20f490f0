-- `nvxs_list::feed` meets its contract: one more call is lent what is left of the piece, and no more is taken than that. Assumes nothing.
use Rattle.std.proofs.Common.{arith, rules}
use Rattle.nvxs_list.proofs.Feeding.{fed_first, fed_within, fed_more, feeds_stop}
use Rattle.nvxs_list.proofs.feed.Goals as goal

pub loop-taken-init : goal.loop-taken-init
loop-taken-init c = fed_first _ _ _

pub overflow_add-taken : goal.overflow_add-taken
overflow_add-taken c = omega (arith, fed_within c.loop-taken.invariant _ _ _ _ c.list-r.ensures)

pub returns-then-not-goes_on : goal.returns-then-not-goes_on
returns-then-not-goes_on c = feeds_stop (fed_more c.loop-taken.invariant _ _ _ _ c.list-r.ensures (search rules))

pub loop-taken-preserved : goal.loop-taken-preserved
loop-taken-preserved c = fed_more c.loop-taken.invariant _ _ _ _ c.list-r.ensures (search rules)
