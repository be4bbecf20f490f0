-- What the vectors print of bytes, of a record's fields, of a case and of a refusal.
use Rattle.std.specs.Prelude.{ℕ, List, [], ◌∷◌, ◌++◌, ◌/◌, ◌%◌, true, codes, length, eqb}
use Rattle.std.specs.List.{flat_map}
use Rattle.std.specs.Fmt.{decimal, digit_glyph}
use Rattle.wire.specs.Refusals.{pick}
use Rattle.outer.specs.declared.OuterHeader.{OuterHeader}
use Rattle.wire.specs.declared.Refusal.{Refusal}

-- A byte's two digits in upper-case hexadecimal.
unfoldable pub pair : ℕ → List ℕ
pair byte = digit_glyph true (byte / 16) ∷ digit_glyph true (byte % 16) ∷ []

abbrev pub hex : List ℕ → List ℕ
hex bytes = flat_map pair bytes

abbrev pub fields : OuterHeader → List ℕ
fields header =
    codes "type " ++ decimal header.record_type
    ++ codes " instance " ++ hex header.instance_id
    ++ codes " epoch " ++ decimal header.epoch.0
    ++ codes " sequence " ++ decimal header.sequence.0
    ++ codes " length " ++ decimal header.length

abbrev pub case : OuterHeader → List ℕ → List ℕ
case header payload = fields header ++ pick (eqb (length payload) 4) (codes " payload " ++ hex payload) []

abbrev pub refused : Refusal → List ℕ
refused refusal =
    codes "refusal " ++ decimal refusal.number ++ codes " a " ++ decimal refusal.a ++ codes " b " ++ decimal refusal.b
