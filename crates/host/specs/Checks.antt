-- What stops a whole record at a host (01, "receive").
use Rattle.std.specs.Prelude.{ℕ, Bool, not, ◌&&◌, ◌||◌, List, [], ◌∷◌, ◌++◌, eqb, leb}
use Rattle.wire.specs.Refusals.{pick, refusal}
use Rattle.wire.specs.declared.Refusal.{Refusal}
use Rattle.record.specs.Types.{code_of}
use Rattle.record.specs.declared.Record.{Record}
use Rattle.session.specs.Checks.{held, identity_row, next_row, sequence_row, instance_row, epoch_row}
use Rattle.session.specs.declared.Identity.{Identity}
use Rattle.host.specs.State.{is_attaching, is_attached}
use Rattle.host.specs.declared.HostState.{HostState}
use Rattle.host.specs.declared.HostSession.{HostSession}

-- Wait, Ready, Error when Attaching; Data, Reset when Attached
abbrev pub allowed : HostState → ℕ → Bool
allowed s t = (is_attaching s && (eqb t 6 || (eqb t 7 || eqb t 8))) || (is_attached s && (eqb t 5 || eqb t 3))

-- 14 epoch not above (a current, b actual)
abbrev pub stale_row : ℕ → ℕ → (Bool × Refusal)
stale_row current actual = (not (leb actual current), refusal 14 current actual 0)

-- Ready 11; Data 12, 13; Reset 11, 12, 14; Wait and Error nothing more
abbrev pub type_rows : ℕ → Identity → Record → List (Bool × Refusal)
type_rows t i r =
    pick (eqb t 7) (identity_row 7 r.instance_id r.epoch.0 ∷ [])
    (pick (eqb t 5) (instance_row i.instance_id r.instance_id ∷ epoch_row i.epoch.0 r.epoch.0 ∷ [])
    (pick (eqb t 3)
    (identity_row 3 r.instance_id r.epoch.0 ∷ instance_row i.instance_id r.instance_id ∷ stale_row i.epoch.0 r.epoch.0 ∷ [])
    []))

-- 10 type (a type), 15 sequence, 16 no next sequence (a type)
abbrev pub order_rows : HostState → ℕ → ℕ → ℕ → List (Bool × Refusal)
order_rows s t actual due = (allowed s t, refusal 10 t 0 0) ∷ sequence_row due actual ∷ next_row t due ∷ []

-- 10, 15, 16, then by the type
abbrev pub record_rows : HostSession → Record → List (Bool × Refusal)
record_rows h r =
    let t : ℕ = code_of r.record_type in
    order_rows h.state t r.sequence.0 h.receive_sequence.0 ++ type_rows t (held h.identity) r
