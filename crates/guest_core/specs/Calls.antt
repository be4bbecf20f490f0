-- The rules of a guest's attach, acknowledge and disconnect (01, "Guest" and "What stops each operation").
use Rattle.std.specs.Prelude.{ℕ, Bool, List, [], ◌∷◌, replicate, eqb}
use Rattle.wire.specs.Bytes.{to_le}
use Rattle.wire.specs.Refusals.{pick, refusal, none, verdict, first}
use Rattle.outer.specs.Outer.{window_ok, room_row}
use Rattle.wire.specs.declared.Refusal.{Refusal}
use Rattle.record.specs.Record.{record_bytes}
use Rattle.parser.specs.Push.{buffered_of}
use Rattle.session.specs.Checks.{held}
use Rattle.session.specs.Writes.{identity_bytes}
use Rattle.guest_core.specs.State.{is_detached, is_resetting, is_ended, sound_guest, with_state, ack_guest}
use Rattle.guest_core.specs.declared.GuestState.TheVariants as State
use Rattle.guest_core.specs.declared.GuestSession.{GuestSession}
use Rattle.guest_core.specs.Writes.{sound_row, Outcome, writes}
use Rattle.session.specs.declared.After.{After}

-- ---- calls that write
-- attach: 20 not Detached; 22
abbrev pub attach_rows : GuestSession → List ℕ → ℕ → List (Bool × Refusal)
attach_rows g o at = sound_row g ∷ (is_detached g.state, refusal 20 0 0 0) ∷ room_row o at 44 ∷ []

unfoldable pub attach : GuestSession → List ℕ → ℕ → Outcome
attach g o at =
    writes (first (attach_rows g o at)) g (with_state g State.Attaching g.parser) 0 (record_bytes 1 (replicate 16 0) 0 0 []) o at

-- acknowledge: 20 not Resetting; 8; 22. It writes ACK with sequence 0
abbrev pub ack_rows : GuestSession → ℕ → List ℕ → ℕ → List (Bool × Refusal)
ack_rows g w o at = sound_row g ∷ (is_resetting g.state, refusal 20 0 0 0) ∷ (window_ok w, refusal 8 w 0 0) ∷ room_row o at 48 ∷ []

unfoldable pub acknowledge : GuestSession → ℕ → List ℕ → ℕ → Outcome
acknowledge g w o at = writes (first (ack_rows g w o at)) g (ack_guest g w) 0 (identity_bytes 4 (held g.identity) 0 (to_le 4 w)) o at

-- ---- disconnect
-- what it answers: what is refused, and the session after it
pub record Closed : Type 0 where
  pub refusal : Refusal
  pub session : GuestSession

abbrev pub closed : After GuestSession (Unit {0}) → Closed
closed a = record { refusal = verdict a.answer; session = a.session }

-- in Closed or Failed it succeeds and does nothing; else 19 bytes buffered (a count) leaves Failed, or it leads to Closed
unfoldable pub disconnect : GuestSession → Closed
disconnect g =
    pick (sound_guest g)
    (pick (is_ended g.state)
    (record { refusal = none; session = g })
    (pick (eqb (buffered_of g.parser) 0)
    (record { refusal = none; session = with_state g State.Closed g.parser })
    (record { refusal = refusal 19 (buffered_of g.parser) 0 0; session = with_state g State.Failed g.parser })))
    (record { refusal = refusal 23 0 0 0; session = g })
