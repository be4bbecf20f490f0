-- `text::put_spaced` meets its contract: one more number after those that are put. Assumes nothing.
use Rattle.std.proofs.Common.{get_or, arith}
use Rattle.text.proofs.Digits.{number_length}
use Rattle.text.proofs.Puts.{spaced_none, spaced_more}
use Rattle.text.proofs.put_spaced.Goals as goal

pub loop-n-init : goal.loop-n-init
loop-n-init c = record { puts = spaced_none _ _ (omega (arith, c.requires)); within = omega arith }

pub loop-n-preserved : goal.loop-n-preserved
loop-n-preserved c =
    let p = c.loop-n.invariant in
    let s = c.put_number-next.ensures in
    record {
      puts = spaced_more _ c.loop-n-test.true p.puts s;
      within = omega (arith, p.within, s.next, number_length (get_or c.args.numbers.now c.loop-n.n-index 0) 32);
    }
