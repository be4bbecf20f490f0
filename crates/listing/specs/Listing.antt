-- The listing of a capture (01, "The link listing"): what a whole input gives.
use Rattle.std.specs.Prelude.{ℕ, zero, suc, ◌+◌, ◌-◌, List, [], ◌++◌, length, take, drop, eqb, ltb}
use Rattle.wire.specs.Refusals.{pick, passes}
use Rattle.wire.specs.Header.{type_of, epoch_of, sequence_of, length_of}
use Rattle.outer.specs.Outer.{value_of}
use Rattle.record.specs.Record.{header_checks, payload_checks}
use Rattle.text.specs.Lines.{names, line, ending}
use Rattle.listing.specs.Reach.{limit}

-- ---- open
-- 0 after a RESET (3); a DATA (5) adds its length; a CREDIT (9) takes off its value, or all of open if that is less
unfoldable pub open_after : ℕ → ℕ → ℕ → List ℕ → ℕ
open_after o type size payload =
    pick (eqb type 3) 0
    (pick (eqb type 5) (o + size)
    (pick (eqb type 9) (o - value_of payload) o))

-- ---- the whole
-- The lines from a record's start on: its offset, open before it, and the bytes b from there. Fewer than 44 bytes, or a header with fewer
-- payload bytes than its length, are an unfinished record; a header or a payload that its checks refuse ends the listing. n is how many
-- records there may be, and one.
unfoldable pub list_from : ℕ → ℕ → ℕ → List ℕ → List ℕ
list_from zero offset o b = []
list_from (suc n) offset o b =
    let h : List ℕ = take 44 b in
    let y : List ℕ = take (length_of h) (drop 44 b) in
    let p : ℕ = open_after o (type_of h) (length_of h) y in
    pick (ltb (length b) 44) (ending offset 0 (length b))
    (pick (passes (header_checks h))
    (pick (ltb (length (drop 44 b)) (length_of h)) (ending offset 0 (length b))
    (pick (passes (payload_checks (type_of h) y))
    (line offset (type_of h) (epoch_of h) (sequence_of h) (length_of h) p ++ list_from n (offset + (44 + length_of h)) p (drop (44 + length_of h) b))
    (ending offset (payload_checks (type_of h) y).number 0)))
    (ending offset (header_checks h).number 0))

-- a record takes 44 bytes or more, so that there are no more records than bytes
abbrev pub lines_from : ℕ → ℕ → List ℕ → List ℕ
lines_from offset o b = list_from (suc (length b)) offset o b

unfoldable pub listing : List ℕ → List ℕ
listing input = names ++ lines_from 0 0 (take limit input)
