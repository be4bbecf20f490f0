-- The rules of a guest's send and credit (01, "Guest" and "What stops each operation").
use Rattle.std.specs.Prelude.{ℕ, ◌+◌, ◌-◌, min, Bool, ◌&&◌, List, [], ◌∷◌, length, take, leb}
use Rattle.wire.specs.Bytes.{to_le}
use Rattle.wire.specs.Refusals.{pick, refusal, first, passes}
use Rattle.outer.specs.Outer.{max_payload, room_row}
use Rattle.wire.specs.declared.Refusal.{Refusal}
use Rattle.session.specs.Checks.{held, next_row}
use Rattle.session.specs.Writes.{identity_bytes, not_encoded, encode_next, encode_data}
use Rattle.session.specs.Writes as writing
use Rattle.guest_core.specs.State.{is_active, sent_guest}
use Rattle.guest_core.specs.declared.GuestSession.{GuestSession}
use Rattle.guest_core.specs.Writes.{sound_row, Outcome, writes}

-- send: 20 not Active; 16 (a 5); 5 for empty data; 22. It takes at most the first 65,536 bytes
abbrev pub send_count : List ℕ → ℕ
send_count bytes = min (length bytes) max_payload

abbrev pub send_rows : GuestSession → List ℕ → List ℕ → ℕ → List (Bool × Refusal)
send_rows g bytes o at =
    sound_row g ∷
    (is_active g.state, refusal 20 0 0 0) ∷
    next_row 5 g.send_sequence.0 ∷
    (leb 1 (length bytes), refusal 5 5 0 0) ∷
    room_row o at (44 + send_count bytes) ∷
    []

unfoldable pub send : GuestSession → List ℕ → List ℕ → ℕ → Outcome
send g bytes o at =
    writes (first (send_rows g bytes o at)) g (sent_guest g g.outstanding) (send_count bytes)
    (identity_bytes 5 (held g.identity) g.send_sequence.0 (take (send_count bytes) bytes)) o at

-- what a send encodes: 23, 20, then the encoder of the next record
unfoldable pub encoding : GuestSession → List ℕ → List ℕ → ℕ → writing.Outcome
encoding g bytes o at =
    let r : Refusal = first (sound_row g ∷ (is_active g.state, refusal 20 0 0 0) ∷ []) in
    pick (passes r)
    (encode_data (held g.identity) g.send_sequence.0 bytes o at)
    (writing.outcome (not_encoded r g.send_sequence.0) o)

-- a CREDIT's last two: 16 (a 9); 22
abbrev pub write_rows : GuestSession → List ℕ → ℕ → List (Bool × Refusal)
write_rows g o at = next_row 9 g.send_sequence.0 ∷ room_row o at 48 ∷ []

-- 18 amount 0 or above outstanding (a outstanding, b amount)
abbrev pub covered_row : GuestSession → ℕ → (Bool × Refusal)
covered_row g n = (leb 1 n && leb n g.outstanding, refusal 18 g.outstanding n 0)

-- credit: 20; 18; 16 (a 9); 22
abbrev pub credit_rows : GuestSession → ℕ → List ℕ → ℕ → List (Bool × Refusal)
credit_rows g n o at = sound_row g ∷ (is_active g.state, refusal 20 0 0 0) ∷ covered_row g n ∷ write_rows g o at

unfoldable pub credit : GuestSession → ℕ → List ℕ → ℕ → Outcome
credit g n o at =
    writes (first (credit_rows g n o at)) g (sent_guest g (g.outstanding - n)) 0
    (identity_bytes 9 (held g.identity) g.send_sequence.0 (to_le 4 n)) o at

-- what a credit encodes: 23, 20, 18, then the encoder of the next record
unfoldable pub crediting : GuestSession → ℕ → List ℕ → ℕ → writing.Outcome
crediting g n o at =
    let r : Refusal = first (sound_row g ∷ (is_active g.state, refusal 20 0 0 0) ∷ covered_row g n ∷ []) in
    pick (passes r)
    (encode_next 9 (held g.identity) g.send_sequence.0 0 (to_le 4 n) o at)
    (writing.outcome (not_encoded r g.send_sequence.0) o)
