-- What a listing keeps of its parser.
use Rattle.std.specs.Prelude.{ℕ, Bool, ◌&&◌, drop, replicate, eqb}
use Rattle.wire.specs.Refusals.{pick, refusal}
use Rattle.wire.specs.declared.Refusal.{Refusal}
use Rattle.record.specs.Record.{all_zero}
use Rattle.parser.specs.Push.{parser_of, latched, latch}
use Rattle.parser.specs.declared.RecordParser.{RecordParser}

-- between records no byte of a header, and of the refusal that ended the capture its number alone
abbrev pub idle : ℕ → RecordParser
idle number = parser_of (replicate 44 0) 0 0 (latch (refusal number 0 0 0))

unfoldable pub settled : RecordParser → RecordParser
settled p = pick (eqb p.header_len 0) (idle (latched p).number) p

-- so what has not come of a header is 0, and so is all of a refusal but its number
unfoldable pub number_only : Refusal → Bool
number_only r = eqb r.a 0 && (eqb r.b 0 && (eqb r.c 0 && (all_zero r.expected && all_zero r.actual)))

unfoldable pub is_settled : RecordParser → Bool
is_settled p = number_only (latched p) && all_zero (drop p.header_len p.header)
