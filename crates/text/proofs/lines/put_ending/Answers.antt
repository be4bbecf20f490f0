-- `text::lines::put_ending` meets its contract: a word, two numbers with a space after each, and one that ends the line. Assumes nothing.
use Rattle.text.proofs.Texts.{text_not, text_done, ending_puts}
use Rattle.text.proofs.lines.put_ending.Goals as goal

pub returns-then-not-has_room : goal.returns-then-not-has_room
returns-then-not-has_room c = text_not c.has_room.ensures _ c.if-not-has_room.true

pub returns : goal.returns
returns c =
    text_done c.has_room.ensures _ c.if-not-has_room.false
    (ending_puts _ _ _ c.put-next.ensures c.put_spaced-next.ensures.puts c.put_number.ensures)
