-- `text::put_spaced` meets its contract: the numbers so far are put, and each took at most 21 bytes. Assumes nothing.
use Rattle.std.proofs.Common.{◌+◌, ◌*◌, ◌≤◌, take}
use Rattle.text.specs.Decimal.{spaced, Puts}
use Rattle.text.proofs.put_spaced.Given as goal

abbrev pub invariant-loop-n : goal.invariant-loop-n
invariant-loop-n l = record { puts : Puts l.initial.output l.at (spaced (take l.n-index l.numbers)) l.next l.output; within : l.next ≤ l.at + 21 * l.n-index }
