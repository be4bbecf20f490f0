-- What every session of a list of calls satisfies (`Invariant`): it is sound, its parser's header is 44 bytes, and no error is latched
-- unless it has Failed. So it can receive whatever stage of 65,536 bytes or more is lent. Assumes nothing.
use Prim.Native.Nat.{ℕ, ◌≤◌}
use mathlib.Core.Path.{◌≡◌}
use mathlib.Core.Bool.{true, false}
use mathlib.Core.List.{List}
use native.Mathlib.Omega.{arith}
use lib.ListN.{length, length-take}
use lib.Dec.{leb, eqb}
use borrow.Author.Tests.{leb-true, leb-false, eqb-true, le-leb, eq-eqb, ne_eqb}
use Rattle.wire.specs.Bytes.{Octets}
use Rattle.wire.specs.Refusals.{passes}
use Rattle.outer.specs.Outer.{max_payload}
use Rattle.wire.proofs.Rows.{and_left, and_right}
use Rattle.parser.specs.Push.{latched}
use Rattle.parser.specs.Push.{counts_ok, error_ok, sound_parser, held_in}
use Rattle.parser.specs.declared.RecordParser.{RecordParser}
use Rattle.session.specs.Checks.{holds}
use Rattle.guest_core.specs.State.{code, is_detached, is_resetting, is_active, is_failed, is_open, is_live, is_ended, sound_guest}
use Rattle.guest_core.specs.declared.GuestState.{GuestState}
use Rattle.guest_core.specs.declared.GuestSession.{GuestSession}
use Rattle.claims.specs.Reading.{Ready}
use Rattle.claims.proofs.Records.{length_low}
use Rattle.claims.proofs.Outcomes.{unless, Part, in_head, in_body, part_of}

-- ---- states
not_failed : (s : GuestState) → (code s ≡ 5 → ⊥) → is_failed s ≡ false
not_failed s h = ne_eqb (code s) 5 h

pub open_unfailed : (s : GuestState) → is_open s ≡ true → is_failed s ≡ false
open_unfailed s e = not_failed s (λ q. omega (arith, leb-true (code s) 3 (and_right (leb 1 (code s)) (leb (code s) 3) e)))

pub detached_unfailed : (s : GuestState) → is_detached s ≡ true → is_failed s ≡ false
detached_unfailed s e = not_failed s (λ q. omega (arith, eqb-true))

pub resetting_unfailed : (s : GuestState) → is_resetting s ≡ true → is_failed s ≡ false
resetting_unfailed s e = not_failed s (λ q. omega (arith, eqb-true))

pub going_unfailed : (s : GuestState) → is_ended s ≡ false → is_failed s ≡ false
going_unfailed s e = not_failed s (λ q. omega (arith, leb-false 4 (code s) e))

live : (s : GuestState) → 2 ≤ code s → code s ≤ 3 → is_live s ≡ true
live s p q = rw (le-leb 2 (code s) p, le-leb (code s) 3 q)

pub active_live : (s : GuestState) → is_active s ≡ true → is_live s ≡ true
active_live s e = live s (omega (arith, eqb-true)) (omega (arith, eqb-true))

pub resetting_live : (s : GuestState) → is_resetting s ≡ true → is_live s ≡ true
resetting_live s e = live s (omega (arith, eqb-true)) (omega (arith, eqb-true))

-- ---- sessions
-- plain arithmetic: `omega` proves the record whole
pub record Limits (g : GuestSession) : Type 0 where
  pub bounded : g.outstanding ≤ g.window
  pub limit : g.window ≤ 4194314

pub record ParserInvariant (p : RecordParser) : Type 0 where
  pub sound : sound_parser p ≡ true
  pub size : length p.header ≡ 44
  pub octets : Octets p.header

pub record Invariant (g : GuestSession) : Type 0 where
  pub parser : ParserInvariant g.parser
  pub clear : is_failed g.state ≡ false → passes (latched g.parser) ≡ true
  pub limits : Limits g
  pub idle : is_resetting g.state ≡ true → g.window ≡ 0
  pub named : is_live g.state ≡ true → holds g.identity ≡ true

pub invariant_sound : (g : GuestSession) → Invariant g → sound_guest g ≡ true
unfolding sound_guest
invariant_sound g f =
    rw (
      f.parser.sound,
      le-leb g.outstanding g.window (omega arith),
      le-leb g.window 4194314 (omega arith),
      unless (is_resetting g.state) (eqb g.window 0) (λ e. eq-eqb _ _ (f.idle e)),
      unless (is_live g.state) (holds g.identity) f.named,
    )

-- a sound parser counts no more payload bytes than a stage has
pub payload_within : (p : RecordParser) → sound_parser p ≡ true → p.payload_len ≤ max_payload
unfolding sound_parser
payload_within p e =
    go
    (part_of p.header p.header_len p.payload_len
    (and_left (counts_ok p.header p.header_len p.payload_len) (error_ok (latched p).number p.header_len) e))
  where
    go : Part p.header p.header_len p.payload_len → p.payload_len ≤ max_payload
    go (in_head x y) = omega arith
    go (in_body x c y) = omega (arith, length_low p.header c)

pub invariant_ready : (g : GuestSession) → Invariant g → is_failed g.state ≡ false → (z : List ℕ) → max_payload ≤ length z
    → Ready g.parser (held_in g.parser z)
invariant_ready g f u z room =
    let l = payload_within g.parser f.parser.sound in
    record { sound = f.parser.sound; clear = f.clear u; size = f.parser.size; count = simp length-take (omega arith) }
