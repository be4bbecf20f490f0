-- `text::lines::Line::put` meets its contract: five numbers with a space after each, and one that ends the line. Assumes nothing.
use Rattle.text.proofs.Texts.{text_not, text_done, line_puts}
use Rattle.text.proofs.lines.Line.put.Goals as goal

pub returns-then-not-has_room : goal.returns-then-not-has_room
returns-then-not-has_room c = text_not c.has_room.ensures _ c.if-not-has_room.true

pub returns : goal.returns
returns c = text_done c.has_room.ensures _ c.if-not-has_room.false (line_puts _ _ _ _ _ _ c.put_spaced-next.ensures.puts c.put_number.ensures)
