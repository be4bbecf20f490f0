-- What latches: the refusals of the checks are 1 to 9, and each latches the error that it is of. Assumes nothing.
use Prim.Native.Nat.{ℕ, ◌≤◌}
use mathlib.Core.Path.{◌≡◌, refl}
use mathlib.Core.Bool.{Bool, true, false, ◌||◌}
use mathlib.Core.List.{List, [], ◌∷◌}
use lib.Dec.{eqb, lit≤}
use borrow.Author.Tests.{le-leb}
use Rattle.std.specs.Prelude.{Option, Some, None}
use Rattle.wire.specs.Refusals.{record_refusal, refused, first}
use Rattle.wire.proofs.Rows.{picked}
use Rattle.record.specs.Record.{header_checks, header_rows, payload_checks, payload_rows}
use Rattle.wire.specs.declared.Refusal.{Refusal}
use Rattle.wire.specs.declared.errors.RecordError.{RecordError}
use Rattle.wire.specs.declared.errors.RecordError.TheVariants.{Magic, Version, «Type», Flags, Length, BootstrapIdentity, ErrorCode, ReceiveWindow, Credit}
use Rattle.parser.specs.Push.{parser_of, counts_ok, error_ok, sound_parser, latch}

pub low : (e : RecordError) → (record_refusal e).number ≤ 9
low = elim [ Magic a ↦ lit≤ tt | Version a ↦ lit≤ tt | «Type» a ↦ lit≤ tt | Flags a ↦ lit≤ tt | Length a b ↦ lit≤ tt | BootstrapIdentity a ↦ lit≤ tt | ErrorCode a ↦ lit≤ tt | ReceiveWindow a ↦ lit≤ tt | Credit a ↦ lit≤ tt ]

pub latching : (e : RecordError) → Some e ≡ latch (record_refusal e)
unfolding latch
latching = elim [ Magic a ↦ refl | Version a ↦ refl | «Type» a ↦ refl | Flags a ↦ refl | Length a b ↦ refl | BootstrapIdentity a ↦ refl | ErrorCode a ↦ refl | ReceiveWindow a ↦ refl | Credit a ↦ refl ]

-- ---- the refusals of the checks
-- every row's refusal is 1 to 9, and is that of what it latches
abbrev Latches : List (Bool × Refusal) → Type 0
Latches [] = Unit {0}
Latches (row ∷ rows) = (row.1.number ≤ 9) × (refused (latch row.1) ≡ row.1) × Latches rows

first_latches : (rows : List (Bool × Refusal)) → Latches rows → ((first rows).number ≤ 9) × (refused (latch (first rows)) ≡ first rows)
unfolding first latch
first_latches [] l = (lit≤ tt, refl)
first_latches (row ∷ rows) l = picked (λ (r : Refusal). (r.number ≤ 9) × (refused (latch r) ≡ r)) row.0 (λ _. first_latches rows l.2) (λ _. (l.0, l.1))

header_all : (h : List ℕ) → ((header_checks h).number ≤ 9) × (refused (latch (header_checks h)) ≡ header_checks h)
unfolding header_checks latch
header_all h =
    first_latches (header_rows h)
    (lit≤ tt, refl, (lit≤ tt, refl, (lit≤ tt, refl, (lit≤ tt, refl, (lit≤ tt, refl, (lit≤ tt, refl, tt))))))

payload_all : (t : ℕ) (payload : List ℕ) → ((payload_checks t payload).number ≤ 9) × (refused (latch (payload_checks t payload)) ≡ payload_checks t payload)
unfolding payload_checks latch
payload_all t payload = first_latches (payload_rows t payload) (lit≤ tt, refl, (lit≤ tt, refl, (lit≤ tt, refl, tt)))

pub header_low : (h : List ℕ) → (header_checks h).number ≤ 9
header_low h = (header_all h).0

pub header_latches : (h : List ℕ) → refused (latch (header_checks h)) ≡ header_checks h
header_latches h = (header_all h).1

pub payload_low : (t : ℕ) (payload : List ℕ) → (payload_checks t payload).number ≤ 9
payload_low t payload = (payload_all t payload).0

pub payload_latches : (t : ℕ) (payload : List ℕ) → refused (latch (payload_checks t payload)) ≡ payload_checks t payload
payload_latches t payload = (payload_all t payload).1

-- ---- what is latched has a number up to 9
pub refused_low : (x : Option RecordError) → (refused x).number ≤ 9
refused_low None = lit≤ tt
refused_low (Some e) = low e

pub latch_sound : (h : List ℕ) (r : Refusal) → sound_parser (parser_of h 0 0 (latch r)) ≡ true
unfolding sound_parser counts_ok error_ok
latch_sound h r = simp (le-leb (refused (latch r)).number 9 (refused_low (latch r))) (go (eqb (refused (latch r)).number 0))
  where
    go : (t : Bool) → t || true ≡ true
    go true = refl
    go false = refl
