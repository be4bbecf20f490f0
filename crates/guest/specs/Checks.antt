-- What stops a whole record at a guest (01, "receive"): a RESET, and DATA.
use Rattle.std.specs.Prelude.{ℕ, ◌-◌, Bool, false, not, ◌&&◌, List, [], ◌∷◌, leb, Option, Some, None}
use Rattle.wire.specs.Refusals.{refusal}
use Rattle.wire.specs.declared.Refusal.{Refusal}
use Rattle.record.specs.declared.Record.{Record}
use Rattle.session.specs.Checks.{same, held, identity_row, next_row, sequence_row, instance_row, epoch_row}
use Rattle.session.specs.declared.Identity.{Identity}
use Rattle.guest_core.specs.declared.GuestSession.{GuestSession}

-- same instance, epoch not above
abbrev pub stale : Option Identity → List ℕ → ℕ → Bool
stale None instance epoch = false
stale (Some i) instance epoch = same instance i.instance_id && leb epoch i.epoch.0

-- 14 same instance, epoch not above (a current, b actual)
abbrev pub stale_row : Option Identity → Record → (Bool × Refusal)
stale_row i r = (not (stale i r.instance_id r.epoch.0), refusal 14 (held i).epoch.0 r.epoch.0 0)

-- Reset: 11 no identity, 14, 16 no next sequence
abbrev pub reset_rows : Option Identity → Record → List (Bool × Refusal)
reset_rows i r = identity_row 3 r.instance_id r.epoch.0 ∷ stale_row i r ∷ next_row 3 r.sequence.0 ∷ []

-- 17 length above window less outstanding (a window, b outstanding, c length)
abbrev pub window_row : ℕ → ℕ → ℕ → (Bool × Refusal)
window_row window outstanding n = (leb n (window - outstanding), refusal 17 window outstanding n)

-- Data: 15 sequence, 12 instance, 13 epoch, 16, 17
abbrev pub data_rows : GuestSession → Record → List (Bool × Refusal)
data_rows g r =
    sequence_row g.receive_sequence.0 r.sequence.0 ∷
    instance_row (held g.identity).instance_id r.instance_id ∷
    epoch_row (held g.identity).epoch.0 r.epoch.0 ∷
    next_row 5 g.receive_sequence.0 ∷
    window_row g.window g.outstanding r.length ∷
    []
