-- The rule of every call of a guest that writes (01, "What stops each operation").
use Rattle.std.specs.Prelude.{ℕ, ◌+◌, Bool, List, length, Result, Ok, Err}
use Rattle.wire.specs.Bytes.{overlay}
use Rattle.wire.specs.Refusals.{pick, refusal, none, refusal_of, passes}
use Rattle.wire.specs.declared.Refusal.{Refusal}
use Rattle.wire.specs.declared.errors.Error.{Error}
use Rattle.session.specs.declared.After.{After}
use Rattle.session.specs.declared.Sent as code
use Rattle.guest_core.specs.State.{sound_guest}
use Rattle.guest_core.specs.declared.GuestSession.{GuestSession}

-- 23 unsound
abbrev pub sound_row : GuestSession → (Bool × Refusal)
sound_row g = (sound_guest g, refusal 23 0 0 0)

-- what a call that writes answers: what is refused, the bytes of data taken by `send`, else 0, the position after the record, and the
-- session after the call
pub record Sent : Type 0 where
  pub refusal : Refusal
  pub count : ℕ
  pub next : ℕ
  pub session : GuestSession

-- with the output as it leaves it
pub record Outcome : Type 0 where
  pub sent : Sent
  pub output : List ℕ

abbrev pub outcome : Sent → List ℕ → Outcome
outcome r o = record { sent = r; output = o }

abbrev pub not_sent : Refusal → GuestSession → Sent
not_sent r g = record { refusal = r; count = 0; next = 0; session = g }

abbrev pub sent_record : ℕ → ℕ → GuestSession → Sent
sent_record count next g = record { refusal = none; count = count; next = next; session = g }

abbrev pub sent_by : Result code.Sent Error → GuestSession → Sent
sent_by (Ok s) g = sent_record s.count s.next g
sent_by (Err e) g = not_sent (refusal_of e) g

abbrev pub sent : After GuestSession code.Sent → Sent
sent a = sent_by a.answer a.session

-- where nothing is refused the record's bytes stand at the position; else nothing changes
unfoldable pub writes : Refusal → GuestSession → GuestSession → ℕ → List ℕ → List ℕ → ℕ → Outcome
writes r g after count bytes o at =
    pick (passes r)
    (outcome (sent_record count (at + length bytes) after) (overlay o at bytes))
    (outcome (not_sent r g) o)
