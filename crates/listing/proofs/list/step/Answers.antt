-- `listing::list::step` meets its contract. Each return is a case of its rule: `step_line`, `step_none` of proofs/Cases; the sums fit by `step_taken` and `step_fits`. Assumes nothing.
use Rattle.std.proofs.Common.{◌+◌, ◌≤◌, length, refl, arith}
use Rattle.listing.proofs.Cases.{step_taken, step_fits, step_line, step_none}
use Rattle.listing.proofs.list.step.Goals as goal

pub overflow_add-done : goal.overflow_add-done
overflow_add-done c = let l : c.args.done.now.taken + c.in-Ok.progress.consumed ≤ length c.args.piece.now = step_taken _ _ _ _ _ _ _ _ c.requires (rw c.in-Ok.is at c.push-answer.ensures) _ _ _ refl in omega arith

pub record_line-done-requires : goal.record_line-done-requires
record_line-done-requires c = step_fits _ _ _ _ _ _ _ _ c.requires (rw (c.in-Ok.is, c.in-Some.is) at c.push-answer.ensures) refl

pub returns-in-Some : goal.returns-in-Some
returns-in-Some c = step_line _ _ _ _ _ _ _ _ c.requires (rw (c.in-Ok.is, c.in-Some.is) at c.push-answer.ensures) _ _ _ _ refl c.payload-bytes.ensures c.record_line-done.ensures.next c.record_line-done.ensures.line

pub returns-in-None : goal.returns-in-None
returns-in-None c = step_none _ _ _ _ _ _ _ _ c.requires (rw (c.in-Ok.is, c.in-None.is) at c.push-answer.ensures) _ _ refl refl c.no_line.ensures

pub returns-in-Err : goal.returns-in-Err
returns-in-Err c = step_none _ _ _ _ _ _ _ _ c.requires (rw c.in-Err.is at c.push-answer.ensures) _ _ refl (omega arith) c.no_line-in-Err.ensures
