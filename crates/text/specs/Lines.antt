-- The lines of the listing (01, "The link listing"); a space is 32, the end of a line 10. And a line put into a buffer at a place.
use Rattle.std.specs.Prelude.{ℕ, ◌+◌, List, [], ◌∷◌, ◌++◌, length, leb}
use Rattle.wire.specs.Refusals.{pick}
use Rattle.wire.specs.Bytes.{overlay}
use Rattle.text.specs.Decimal.{number, Placed, placed}

-- ---- the lines
-- `at type epoch sequence length open`
unfoldable pub names : List ℕ
names =
    97 ∷ 116 ∷ 32 ∷ 116 ∷ 121 ∷ 112 ∷ 101 ∷ 32 ∷ 101 ∷ 112 ∷ 111 ∷ 99 ∷ 104 ∷ 32 ∷ 115 ∷ 101 ∷ 113 ∷ 117 ∷ 101 ∷ 110 ∷ 99 ∷ 101 ∷ 32
    ∷ 108 ∷ 101 ∷ 110 ∷ 103 ∷ 116 ∷ 104 ∷ 32 ∷ 111 ∷ 112 ∷ 101 ∷ 110 ∷ 10 ∷ []

-- byte offset, type, epoch, sequence, payload length, and open as it stands after the record
unfoldable pub line : ℕ → ℕ → ℕ → ℕ → ℕ → ℕ → List ℕ
line offset type epoch sequence size o =
    ((((number offset 32 ++ number type 32) ++ number epoch 32) ++ number sequence 32) ++ number size 32) ++ number o 10

-- `end`, the offset after the last whole record, the refusal or 0, the bytes of an unfinished record
unfoldable pub ending : ℕ → ℕ → ℕ → List ℕ
ending offset refusal unfinished = (((101 ∷ 110 ∷ 100 ∷ 32 ∷ []) ++ number offset 32) ++ number refusal 32) ++ number unfinished 10

-- ---- a line put
-- the room that a line may take: six numbers of up to 20 digits, and a byte after each
abbrev pub line_room : ℕ
line_room = 126

-- text is put where a line has room
unfoldable pub put_text : List ℕ → ℕ → List ℕ → Placed
put_text output at text =
    pick (leb (at + line_room) (length output)) (placed (at + length text) (overlay output at text)) (placed at output)
