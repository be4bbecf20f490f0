-- `print::HexDisplay::fmt` meets its contract. A byte's digits are added to those before it. Assumes nothing.
use Rattle.std.proofs.Common.{rules, sym, ap, ◌∙◌, [], true}
use Rattle.std.proofs.lemmas.Fmt.{hex_byte}
use Rattle.std.proofs.lemmas.List.{take_more, flat_map_more}
use Rattle.std.proofs.Output.{has_written_append, has_written_of_eq}
use Rattle.std.specs.List.{flat_map}
use Rattle.print.specs.Text.{pair}
use Rattle.print.proofs.HexDisplay.fmt.Goals as goal

pub loop-byte-preserved : goal.loop-byte-preserved
unfolding pair
loop-byte-preserved g c = λ plain.
    has_written_of_eq _ _ _ _ _
    (flat_map_more pair [] _ _ ∙ ap (flat_map pair) (sym (take_more _ c.loop-byte.byte-index 0 (search rules))))
    (has_written_append _ _ _ _ _ _ (c.loop-byte.invariant plain)
    (has_written_of_eq _ _ _ _ _ (hex_byte true _ (search rules)) (search rules)))
