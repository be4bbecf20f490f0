-- The encoders of the next record: 16 (a type), then the encoder's own refusals, 22 the last.
use Rattle.std.specs.Prelude.{ℕ, ◌+◌, min, Bool, List, [], ◌∷◌, ◌++◌, length, take, Result, Ok, Err}
use Rattle.wire.specs.Bytes.{overlay}
use Rattle.wire.specs.Refusals.{pick, none, refusal_of, first, passes}
use Rattle.outer.specs.Outer.{max_payload, room_row}
use Rattle.wire.specs.declared.Refusal.{Refusal}
use Rattle.wire.specs.declared.Sequence.{Sequence}
use Rattle.wire.specs.declared.errors.Error.{Error}
use Rattle.record.specs.Record.{record_rows, record_bytes}
use Rattle.session.specs.Checks.{next_row}
use Rattle.session.specs.declared.Identity.{Identity}
use Rattle.session.specs.declared.next.Encoded as code

-- what an encoder answers: what is refused, the bytes of data taken, the position after the record and the sequence after it
pub record Encoded : Type 0 where
  pub refusal : Refusal
  pub count : ℕ
  pub next : ℕ
  pub sequence : Sequence

-- with the output as it leaves it
pub record Outcome : Type 0 where
  pub encoded : Encoded
  pub output : List ℕ

abbrev pub outcome : Encoded → List ℕ → Outcome
outcome r o = record { encoded = r; output = o }

-- 16, then the encoder's refusals
abbrev pub next_rows : ℕ → Identity → ℕ → List ℕ → List ℕ → ℕ → List (Bool × Refusal)
next_rows t i sequence payload o at =
    next_row t sequence ∷ record_rows t i.instance_id i.epoch.0 sequence payload ++ (room_row o at (44 + length payload) ∷ [])

-- the bytes of a record with an identity
abbrev pub identity_bytes : ℕ → Identity → ℕ → List ℕ → List ℕ
identity_bytes t i sequence payload = record_bytes t i.instance_id i.epoch.0 sequence payload

-- nothing is encoded, and the sequence stays
abbrev pub not_encoded : Refusal → ℕ → Encoded
not_encoded r sequence = record { refusal = r; count = 0; next = 0; sequence = record { 0 = sequence } }

-- where an error stops it the sequence stays
abbrev pub encoded : ℕ → Result code.Encoded Error → Encoded
encoded sequence (Ok e) = record { refusal = none; count = e.sent.count; next = e.sent.next; sequence = e.sequence }
encoded sequence (Err e) = not_encoded (refusal_of e) sequence

unfoldable pub encode_next : ℕ → Identity → ℕ → ℕ → List ℕ → List ℕ → ℕ → Outcome
encode_next t i sequence count payload o at =
    let r : Refusal = first (next_rows t i sequence payload o at) in
    pick (passes r)
    (outcome (record { refusal = none; count = count; next = at + length (identity_bytes t i sequence payload); sequence = record { 0 = sequence + 1 } }) (overlay o at (identity_bytes t i sequence payload)))
    (outcome (not_encoded r sequence) o)

-- at most the first 65,536 bytes; the count says how many
abbrev pub encode_data : Identity → ℕ → List ℕ → List ℕ → ℕ → Outcome
encode_data i sequence bytes o at = encode_next 5 i sequence (min (length bytes) max_payload) (take (min (length bytes) max_payload) bytes) o at
