-- The rules of the plain layer (01, "Plain layer"): what each operation answers and writes. Refusals 22 and 24 to 29 carry no figures.
use Rattle.std.specs.Prelude.{ℕ, ◌+◌, Bool, ◌&&◌, List, [], ◌∷◌, ◌++◌, length, replicate, eqb, leb, Option, Some, None, Result, Ok, Err}
use Rattle.wire.specs.Bytes.{from_le, overlay}
use Rattle.wire.specs.Refusals.{pick, refusal, none, refusal_of, first, passes}
use Rattle.wire.specs.Header.{magic, magic_of, version_of, type_of, flags_of, instance_of, epoch_of, sequence_of, length_of, header_bytes}
use Rattle.wire.specs.declared.Refusal.{Refusal}
use Rattle.outer.specs.declared.OuterHeader.{OuterHeader}
use Rattle.wire.specs.declared.errors.Error.{Error}

-- ---- limits
-- the largest payload
abbrev pub max_payload : ℕ
max_payload = 65536

-- the smallest and the largest window
abbrev pub min_window : ℕ
min_window = 65536

abbrev pub max_window : ℕ
max_window = 4194314

-- a window and a credit within their limits
unfoldable pub window_ok : ℕ → Bool
window_ok w = leb min_window w && leb w max_window

unfoldable pub credit_ok : ℕ → Bool
credit_ok n = leb 1 n && leb n max_window

-- ---- records written at a position
-- what an operation that writes answers: what is refused, and the position after the record
pub record Written : Type 0 where
  pub refusal : Refusal
  pub next : ℕ

abbrev pub written : Result ℕ Error → Written
written (Ok next) = record { refusal = none; next = next }
written (Err e) = record { refusal = refusal_of e; next = 0 }

-- what an operation that writes answers, with the output as it leaves it
pub record Outcome : Type 0 where
  pub answer : Written
  pub output : List ℕ

abbrev pub outcome : Written → List ℕ → Outcome
outcome r o = record { answer = r; output = o }

-- 22: the position is past the end, or fewer bytes are left than the record has
abbrev pub room_row : List ℕ → ℕ → ℕ → (Bool × Refusal)
room_row o at n = (leb (at + n) (length o), refusal 22 0 0 0)

-- where nothing is refused the record's bytes stand at the position, and the next position is after them; else nothing is written
unfoldable pub write : Refusal → List ℕ → List ℕ → ℕ → Outcome
write r bytes o at =
    pick (passes r)
    (outcome (record { refusal = none; next = at + length bytes }) (overlay o at bytes))
    (outcome (record { refusal = r; next = 0 }) o)

-- a record's header and payload written at a position, or 22: the code's last step in every operation that writes
unfoldable pub put_record : List ℕ → List ℕ → List ℕ → ℕ → Outcome
put_record header payload o at = write (first (room_row o at (length (header ++ payload)) ∷ [])) (header ++ payload) o at

-- 24, then 22
abbrev pub outer_rows : List ℕ → List ℕ → ℕ → List (Bool × Refusal)
outer_rows payload o at = (leb (length payload) max_payload, refusal 24 0 0 0) ∷ room_row o at (44 + length payload) ∷ []

unfoldable pub encode_outer : ℕ → List ℕ → ℕ → ℕ → List ℕ → List ℕ → ℕ → Outcome
encode_outer type instance epoch sequence payload o at =
    write (first (outer_rows payload o at)) (header_bytes type instance epoch sequence (length payload) ++ payload) o at

-- ---- a header read
-- what decoding a header answers: what is refused, and the header
pub record DecodedHeader : Type 0 where
  pub refusal : Refusal
  pub header : OuterHeader

-- no header
abbrev pub no_header : OuterHeader
no_header =
    record {
      record_type = 0;
      instance_id = replicate 16 0;
      epoch = record { 0 = 0 };
      sequence = record { 0 = 0 };
      length = 0;
    }

abbrev pub decoded_header : Result OuterHeader Error → DecodedHeader
decoded_header (Ok header) = record { refusal = none; header = header }
decoded_header (Err e) = record { refusal = refusal_of e; header = no_header }

-- the fields of a header's bytes
unfoldable pub header_of : List ℕ → OuterHeader
header_of h =
    record {
      record_type = type_of h;
      instance_id = instance_of h;
      epoch = record { 0 = epoch_of h };
      sequence = record { 0 = sequence_of h };
      length = length_of h;
    }

-- magic, version and flags
unfoldable pub outer_ok : List ℕ → Bool
outer_ok h = eqb (magic_of h) (from_le magic) && (eqb (version_of h) 1 && eqb (flags_of h) 0)

-- 25 magic, version or flags; then 26 length
abbrev pub header_rows : List ℕ → List (Bool × Refusal)
header_rows h = (outer_ok h, refusal 25 0 0 0) ∷ (leb (length_of h) max_payload, refusal 26 0 0 0) ∷ []

unfoldable pub decode_outer_header : List ℕ → DecodedHeader
decode_outer_header h =
    let r : Refusal = first (header_rows h) in
    pick (passes r) (record { refusal = none; header = header_of h }) (record { refusal = r; header = no_header })

-- ---- payloads of four bytes
-- the number of four bytes; none where they are not four, and 0 as the value then
unfoldable pub number_in : List ℕ → Option ℕ
number_in p = pick (eqb (length p) 4) (Some (from_le p)) None

unfoldable pub value_of : List ℕ → ℕ
value_of p = pick (eqb (length p) 4) (from_le p) 0
