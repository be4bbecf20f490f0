-- `text::put_number` meets its contract: the library's digits are those of the definition, and one byte ends them. Assumes nothing.
use Rattle.std.proofs.Common.{◌∙◌, arith}
use Rattle.text.proofs.Puts.{number_puts}
use Rattle.text.proofs.put_number.Goals as goal

pub returns : goal.returns
returns c = number_puts c.args.n c.args.end c.ranges.n.fits (omega (arith, c.requires)) (c.as_bytes.ensures.value ∙ c.format.ensures.text) c.put-last.ensures
