-- `print::HexDisplay::fmt` meets its contract. The loop's invariant: what has been written are the digits of the bytes so far. Assumes nothing.
use Rattle.std.proofs.Common.{take}
use Rattle.std.specs.Fmt.{HasWritten, IsPlainFormatter}
use Rattle.print.specs.Text.{hex}
use Rattle.print.proofs.HexDisplay.fmt.Given as goal

abbrev pub invariant-loop-byte : goal.invariant-loop-byte
invariant-loop-byte g l =
    IsPlainFormatter l.initial.f → HasWritten g.W.Write.write_str_gives l.initial.f (hex (take l.byte-index l.byte-items)) l.f
