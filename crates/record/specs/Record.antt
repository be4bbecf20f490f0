-- Header checks, payload checks, the encoder and a record's asks (01, "Record", "Encoder", "What stops each operation").
use Rattle.std.specs.Prelude.{ℕ, ◌+◌, Bool, true, not, ◌&&◌, ◌||◌, List, [], ◌∷◌, ◌++◌, length, replicate, eqb, Option, Some, None}
use Rattle.wire.specs.Bytes.{from_le}
use Rattle.wire.specs.Refusals.{pick, refusal, first}
use Rattle.wire.specs.Header.{magic, magic_of, version_of, type_of, flags_of, instance_of, epoch_of, sequence_of, length_of, header_bytes}
use Rattle.outer.specs.Outer.{window_ok, credit_ok, number_in, value_of, Outcome, room_row, write}
use Rattle.wire.specs.declared.Refusal.{Refusal}
use Rattle.record.specs.Types.{type_at, type_ok, bootstrap, length_ok, error_at}
use Rattle.record.specs.declared.types.RecordType.{RecordType}
use Rattle.record.specs.declared.types.RecordType.TheVariants.{GuestAttach}
use Rattle.record.specs.declared.types.ErrorCode.{ErrorCode}
use Rattle.record.specs.declared.Record.{Record}

-- ---- shared checks
-- whether all bytes are zero
unfoldable pub all_zero : List ℕ → Bool
all_zero [] = true
all_zero (x ∷ xs) = eqb x 0 && all_zero xs

-- 5 length (a type, b length)
abbrev pub length_row : ℕ → ℕ → (Bool × Refusal)
length_row t n = (length_ok t n, refusal 5 t n 0)

-- 6 nonzero field in types 1, 2 (a type)
abbrev pub bootstrap_row : ℕ → List ℕ → ℕ → ℕ → (Bool × Refusal)
bootstrap_row t instance epoch sequence = (not (bootstrap t) || (all_zero instance && (eqb epoch 0 && eqb sequence 0)), refusal 6 t 0 0)

-- 8 window, 9 credit, 7 error value (a value)
abbrev pub payload_rows : ℕ → List ℕ → List (Bool × Refusal)
payload_rows t payload =
    (not (eqb t 4) || window_ok (value_of payload), refusal 8 (value_of payload) 0 0) ∷
    (not (eqb t 9) || credit_ok (value_of payload), refusal 9 (value_of payload) 0 0) ∷
    (not (eqb t 8) || eqb (value_of payload) 1, refusal 7 (value_of payload) 0 0) ∷
    []

unfoldable pub payload_checks : ℕ → List ℕ → Refusal
payload_checks t payload = first (payload_rows t payload)

-- ---- a header read
-- 4 flags (a the value), 5, 6, of a type that is known
abbrev pub rest_rows : ℕ → List ℕ → List (Bool × Refusal)
rest_rows t h =
    (eqb (flags_of h) 0, refusal 4 (flags_of h) 0 0) ∷
    length_row t (length_of h) ∷
    bootstrap_row t (instance_of h) (epoch_of h) (sequence_of h) ∷
    []

-- 1 magic (a its bytes as a number), 2 version, 3 type, then 4, 5, 6
abbrev pub header_rows : List ℕ → List (Bool × Refusal)
header_rows h =
    (eqb (magic_of h) (from_le magic), refusal 1 (magic_of h) 0 0) ∷
    (eqb (version_of h) 1, refusal 2 (version_of h) 0 0) ∷
    (type_ok (type_of h), refusal 3 (type_of h) 0 0) ∷
    rest_rows (type_of h) h

unfoldable pub header_checks : List ℕ → Refusal
header_checks h = first (header_rows h)

-- the type that a code stands for; the first type for an unknown one, which the header checks refuse
abbrev pub type_from : Option RecordType → RecordType
type_from (Some t) = t
type_from None = GuestAttach

-- the fields of a header's bytes
unfoldable pub record_with : RecordType → List ℕ → Record
record_with t h =
    record {
      record_type = t;
      instance_id = instance_of h;
      epoch = record { 0 = epoch_of h };
      sequence = record { 0 = sequence_of h };
      length = length_of h;
    }

abbrev pub record_of : List ℕ → Record
record_of h = record_with (type_from (type_at (type_of h))) h

-- no record
abbrev pub no_record : Record
no_record =
    record {
      record_type = GuestAttach;
      instance_id = replicate 16 0;
      epoch = record { 0 = 0 };
      sequence = record { 0 = 0 };
      length = 0;
    }

-- ---- the encoder: 5, 6, then 8, 9, 7, then 22
abbrev pub record_rows : ℕ → List ℕ → ℕ → ℕ → List ℕ → List (Bool × Refusal)
record_rows t instance epoch sequence payload = length_row t (length payload) ∷ bootstrap_row t instance epoch sequence ∷ payload_rows t payload

abbrev pub encode_rows : ℕ → List ℕ → ℕ → ℕ → List ℕ → List ℕ → ℕ → List (Bool × Refusal)
encode_rows t instance epoch sequence payload o at = record_rows t instance epoch sequence payload ++ (room_row o at (44 + length payload) ∷ [])

-- a record's bytes
abbrev pub record_bytes : ℕ → List ℕ → ℕ → ℕ → List ℕ → List ℕ
record_bytes t instance epoch sequence payload = header_bytes t instance epoch sequence (length payload) ++ payload

unfoldable pub encode_record : ℕ → List ℕ → ℕ → ℕ → List ℕ → List ℕ → ℕ → Outcome
encode_record t instance epoch sequence payload o at =
    write (first (encode_rows t instance epoch sequence payload o at)) (record_bytes t instance epoch sequence payload) o at

-- ---- a record's asks: none but for types 4, 9 and 8; none where the payload is not four bytes (its value is then 0, no error code)
unfoldable pub value_in : ℕ → ℕ → List ℕ → Option ℕ
value_in wanted t payload = pick (eqb t wanted) (number_in payload) None

abbrev pub window_in : ℕ → List ℕ → Option ℕ
window_in = value_in 4

abbrev pub credit_in : ℕ → List ℕ → Option ℕ
credit_in = value_in 9

unfoldable pub error_in : ℕ → List ℕ → Option ErrorCode
error_in t payload = pick (eqb t 8) (error_at (value_of payload)) None
