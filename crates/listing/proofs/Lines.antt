-- The loop over a piece: what is left to do from where it stands is what was to be done at first, with enough pushes allowed for the
-- bytes that are left. Assumes nothing.
use Prim.Native.Nat.{ℕ, zero, suc, ◌+◌, ◌-◌, ◌≤◌, ◌<◌, min}
use mathlib.Core.Path.{◌≡◌, refl, sym, ap, subst, ◌∙◌}
use mathlib.Core.Bool.{Bool, true, false, not, ◌&&◌}
use mathlib.Core.List.{List, [], ◌∷◌, ◌++◌}
use native.Mathlib.Omega.{arith}
use lib.ListN.{length, take, drop, length-drop, length-take}
use lib.Dec.{leb}
use borrow.Author.Tests.{leb-true, le-leb, lt-leb, lt-ltb, le-ltb}
use Rattle.std.specs.Prelude.{Result, Ok, Err, is_err}
use Rattle.wire.specs.Refusals.{pick, refusal, none, verdict, first, passes}
use Rattle.wire.specs.declared.errors.Error.{Error}
use Rattle.wire.specs.declared.Refusal.{Refusal}
use Rattle.wire.proofs.Rows.{Passed, Numbered, refuses}
use Rattle.parser.specs.Push.{latched}
use Rattle.listing.specs.Reach.{limit}
use Rattle.listing.specs.Steps.{Listed, read_of, sound_listing, listed, Outcome, outcome, step_of, Ready, further, lines, sound_row, room_row, list_rows}
use Rattle.listing.specs.declared.Listing.{Listing}
use Rattle.listing.proofs.Cases.{facts, Stepped, stepped}

-- ---- one turn of the rule
module _ (s : Listing) (piece stage output : List ℕ) (taken at : ℕ) where
  abbrev stay : Outcome
  stay = outcome (listed none taken at s) stage output

  abbrev o : Outcome
  o = step_of s (drop taken piece) stage output at

  abbrev on : ℕ → Outcome
  on n = lines n o.listed.listing piece o.stage o.output (taken + o.listed.taken) o.listed.written

  abbrev out : Outcome
  out = outcome (listed o.listed.refusal (taken + o.listed.taken) o.listed.written o.listed.listing) o.stage o.output

  pub lines_end : (n : ℕ) → length piece ≤ taken → lines n s piece stage output taken at ≡ stay
  unfolding lines
  lines_end zero h = refl
  lines_end (suc n) h =
      ap (λ (t : Bool). pick (t && leb (at + 126) (length output)) (pick (passes o.listed.refusal) (on n) out) stay) (le-ltb taken (length piece) h)

  lines_full : (n : ℕ) → taken < length piece → length output < at + 126 → lines n s piece stage output taken at ≡ stay
  unfolding lines
  lines_full zero h l = refl
  lines_full (suc n) h l =
      λ j. pick (lt-ltb taken (length piece) h j && lt-leb (at + 126) (length output) l j) (pick (passes o.listed.refusal) (on n) out) stay

  module _ (n : ℕ) (h : taken < length piece) (l : at + 126 ≤ length output) where
    pub lines_step : (b : Bool) → passes o.listed.refusal ≡ b → lines (suc n) s piece stage output taken at ≡ pick b (on n) out
    unfolding lines
    lines_step b e = λ j. pick (lt-ltb taken (length piece) h j && le-leb (at + 126) (length output) l j) (pick (e j) (on n) out) stay

-- ---- the loop
pub record Going (s₀ : Listing) (piece stage₀ output₀ : List ℕ) (s : Listing) (stage output : List ℕ) (taken at : ℕ) : Type 0 where
  pub fuel : ℕ
  pub enough : length piece ≤ taken + fuel
  pub within : taken ≤ length piece
  pub same : lines fuel s piece stage output taken at ≡ lines (length piece) s₀ piece stage₀ output₀ 0 0
  pub sound : sound_listing s ≡ true
  pub read : read_of s + length piece ≤ limit + taken
  pub output_size : length output ≡ length output₀

going_first : (s : Listing) (piece stage output : List ℕ) → Ready s piece output 0 0 → Going s piece stage output s stage output 0 0
going_first s piece stage output r =
    record {
      fuel = length piece;
      enough = omega arith;
      within = omega arith;
      same = refl;
      sound = r.sound;
      read = r.read;
      output_size = refl;
    }

pub going_start : (d : Listed) (s : Listing) (piece stage output : List ℕ) → d ≡ listed none 0 0 s → Ready s piece output 0 0
    → Going s piece stage output d.listing stage output d.taken d.written × (d.refusal ≡ none)
going_start d s piece stage output e r = (
  subst (λ (x : Listed). Going s piece stage output x.listing stage output x.taken x.written) (sym e) (going_first s piece stage output r),
  ap (λ (x : Listed). x.refusal) e,
)

-- whether the answer is an error
pub answer_err : (x : Result (Unit {0}) Error) (b c : Bool) → b ≡ is_err x → b ≡ c → passes (verdict x) ≡ not c
answer_err (Ok u) b c e q = ap not (sym e ∙ q)
answer_err (Err x) b c e q = refuses x ∙ ap not (sym e ∙ q)

module _ {s₀ : Listing} {piece stage₀ output₀ : List ℕ} {s : Listing} {stage output : List ℕ} {taken at : ℕ} (g : Going s₀ piece stage₀ output₀ s stage output taken at) where
  pub going_end : (x : Refusal) → x ≡ none → length piece ≤ taken → outcome (listed x taken at s) stage output ≡ lines (length piece) s₀ piece stage₀ output₀ 0 0
  going_end x e h = ap (λ (y : Refusal). outcome (listed y taken at s) stage output) e ∙ sym (lines_end s piece stage output taken at g.fuel h) ∙ g.same

  pub going_full : (x : Refusal) → x ≡ none → taken < length piece → length output₀ - 126 < at
      → outcome (listed x taken at s) stage output ≡ lines (length piece) s₀ piece stage₀ output₀ 0 0
  going_full x e h l =
      ap (λ (y : Refusal). outcome (listed y taken at s) stage output) e ∙ sym (lines_full s piece stage output taken at g.fuel h (omega (arith, g.output_size))) ∙ g.same

  module _ (f : Ready s₀ piece output₀ 0 0) (l : at ≤ length output₀ - 126) where
    pub going_ready : Ready s piece output taken at
    going_ready = record { sound = g.sound; within = g.within; read = g.read; room = omega (arith, g.output_size, f.room) }

  module _ (f : Ready s₀ piece output₀ 0 0) (l : at ≤ length output₀ - 126) (h : taken < length piece) (r : Listed) (after o2 : List ℕ)
      (e : outcome r after o2 ≡ further taken (step_of s (drop taken piece) stage output at)) where
    rest_length : length (drop taken piece) ≡ length piece - taken
    rest_length = length-drop taken piece

    went : Stepped s (length (drop taken piece)) (step_of s (drop taken piece) stage output at).listed
    went = let q = rest_length in stepped s (drop taken piece) stage output at g.sound (omega (arith, g.read, g.within))

    -- what the answer has of the push
    same_refusal : r.refusal ≡ (step_of s (drop taken piece) stage output at).listed.refusal
    same_refusal = ap (λ (x : Outcome). x.listed.refusal) e

    same_taken : r.taken ≡ taken + (step_of s (drop taken piece) stage output at).listed.taken
    same_taken = ap (λ (x : Outcome). x.listed.taken) e

    same_listing : r.listing ≡ (step_of s (drop taken piece) stage output at).listed.listing
    same_listing = ap (λ (x : Outcome). x.listed.listing) e

    went_on : passes r.refusal ≡ true → passes (step_of s (drop taken piece) stage output at).listed.refusal ≡ true
    went_on z = ap (λ (x : Refusal). passes x) (sym same_refusal) ∙ z

    taken_within : r.taken ≤ length piece
    taken_within = let q = rest_length in omega (arith, went.within, g.within, same_taken)

    taken_some : passes r.refusal ≡ true → taken < r.taken
    taken_some z = let q = rest_length in omega (arith, went.some (went_on z) (omega arith), same_taken)

    pub going_smaller : passes r.refusal ≡ true → length piece - r.taken < length piece - taken
    going_smaller z = omega (arith, taken_some z, taken_within)

    turn : (n : ℕ) (b : Bool) → passes r.refusal ≡ b → lines (suc n) s piece stage output taken at
        ≡ pick b (lines n r.listing piece after o2 r.taken r.written) (outcome r after o2)
    turn n b q =
        lines_step s piece stage output taken at n h (going_ready f l).room b (ap (λ (x : Refusal). passes x) (sym same_refusal) ∙ q)
        ∙ (λ j. pick b (lines n (sym e j).listed.listing piece (sym e j).stage (sym e j).output (sym e j).listed.taken (sym e j).listed.written) (sym e j))

    pub going_out : passes r.refusal ≡ false → outcome r after o2 ≡ lines (length piece) s₀ piece stage₀ output₀ 0 0
    going_out z = go g.fuel g.enough g.same
      where
        go : (n : ℕ) → length piece ≤ taken + n → lines n s piece stage output taken at ≡ lines (length piece) s₀ piece stage₀ output₀ 0 0
            → outcome r after o2 ≡ lines (length piece) s₀ piece stage₀ output₀ 0 0
        go zero k w = absurd (omega arith)
        go (suc n) k w = sym (turn n false z) ∙ w

    pub going_on : passes r.refusal ≡ true → length after ≡ length stage → length o2 ≡ length output
        → Going s₀ piece stage₀ output₀ r.listing after o2 r.taken r.written × (r.refusal ≡ none)
    going_on z ls lo = (go g.fuel g.enough g.same, same_refusal ∙ went.nothing (went_on z))
      where
        go : (n : ℕ) → length piece ≤ taken + n → lines n s piece stage output taken at ≡ lines (length piece) s₀ piece stage₀ output₀ 0 0
            → Going s₀ piece stage₀ output₀ r.listing after o2 r.taken r.written
        go zero k w = absurd (omega arith)
        go (suc n) k w =
            record {
              fuel = n;
              enough = omega (arith, taken_some z);
              within = taken_within;
              same = sym (turn n true z) ∙ w;
              sound = ap sound_listing same_listing ∙ went.sound;
              read = omega (arith, ap read_of same_listing, went.read, g.read, same_taken);
              output_size = lo ∙ g.output_size;
            }

-- ---- the ways out of `list`
-- the first rows pass where nothing is refused
front_passed : (front back : List (Bool × Refusal)) → Numbered front → none ≡ first (front ++ back) → Passed front
unfolding first
front_passed [] back m e = tt
front_passed (row ∷ front) back m e = go row.0 refl e (front_passed front back m.1)
  where
    go : (t : Bool) → row.0 ≡ t → none ≡ pick t (first (front ++ back)) row.1 → (none ≡ first (front ++ back) → Passed front) → Passed (row ∷ front)
    go true h p k = (h, k p)
    go false h p k = let z : true ≡ false = ap (λ (r : Refusal). passes r) p ∙ m.0 in cc

-- the part of a piece that is read may be listed where nothing stops the call
pub list_ready : (s : Listing) (piece stage output : List ℕ) (k : ℕ) → k ≡ min (limit - read_of s) (length piece) → none ≡ first (list_rows s stage output)
    → Ready s (take k piece) output 0 0
list_ready s piece stage output k e q =
    let f : Passed (sound_row s ∷ (leb 65536 (length stage), refusal 21 0 0 0) ∷ room_row output ∷ []) =
    front_passed (sound_row s ∷ (leb 65536 (length stage), refusal 21 0 0 0) ∷ room_row output ∷ []) ((passes (latched s.parser), latched s.parser) ∷ []) (refl, (refl, (refl, tt))) q
    in
    record {
      sound = f.0;
      within = omega arith;
      read = omega (arith, length-take k piece, (facts s f.0).read);
      room = leb-true 126 (length output) f.1.1.0;
    }
