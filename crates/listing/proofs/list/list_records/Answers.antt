use Rattle.std.proofs.Common.{rules}
use Rattle.listing.proofs.Lines.{answer_err, going_start, going_end, going_full, going_ready, going_out, going_on, going_smaller}
use Rattle.listing.proofs.list.list_records.Goals as goal

pub loop-done-init : goal.loop-done-init
loop-done-init c = going_start _ _ _ _ _ c.still-done.ensures c.requires

pub returns-then-last-done : goal.returns-then-last-done
returns-then-last-done c = going_full c.loop-done.invariant.0 _ c.loop-done.invariant.1 c.loop-done-test.true c.if-last-done.true

pub step-done-requires : goal.step-done-requires
step-done-requires c = going_ready c.loop-done.invariant.0 c.requires c.if-last-done.false

pub returns-then-is_err : goal.returns-then-is_err
returns-then-is_err c = going_out c.loop-done.invariant.0 c.requires c.if-last-done.false c.loop-done-test.true _ _ _ c.step-done.ensures (answer_err _ _ _ c.is_err.ensures.value c.if-is_err.true)

pub loop-done-smaller : goal.loop-done-smaller
loop-done-smaller c = going_smaller c.loop-done.invariant.0 c.requires c.if-last-done.false c.loop-done-test.true _ _ _ c.step-done.ensures (answer_err _ _ _ c.is_err.ensures.value c.if-is_err.false)

pub loop-done-preserved : goal.loop-done-preserved
loop-done-preserved c = going_on c.loop-done.invariant.0 c.requires c.if-last-done.false c.loop-done-test.true _ _ _ c.step-done.ensures (answer_err _ _ _ c.is_err.ensures.value c.if-is_err.false) (search rules) (search rules)

pub returns : goal.returns
returns c = going_end c.loop-done.invariant.0 _ c.loop-done.invariant.1 c.loop-done-test.false
