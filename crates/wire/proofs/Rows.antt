-- What rows tell: that an operation passes exactly where every test holds. Assumes nothing.
use mathlib.Core.Path.{◌≡◌, refl, sym, ap, ◌∙◌}
use mathlib.Core.Bool.{Bool, true, false, ◌&&◌}
use mathlib.Core.List.{List, [], ◌∷◌, ◌++◌}
use Rattle.std.specs.Prelude.{ℕ, eqb}
use borrow.Author.Tests.{eqb-false}
use Rattle.wire.specs.Refusals.{pick, record_refusal, refusal_of, first, passes}
use Rattle.wire.specs.declared.errors.RecordError.{RecordError}
use Rattle.wire.specs.declared.errors.RecordError.TheVariants.{Magic, Version, «Type», Flags, Length, BootstrapIdentity, ErrorCode, ReceiveWindow, Credit}
use Rattle.wire.specs.declared.errors.Error.{Error}
use Rattle.wire.specs.declared.errors.Error.TheVariants.{«Record», Unexpected, MissingIdentity, Instance, Epoch, StaleEpoch, Sequence, SequenceOverflow, Window, Uncovered, Truncated, InvalidState, ShortStage, ShortOutput, Unsound, OuterPayload, OuterHeader, OuterLength, AckPayload, CreditPayload, PayloadLength}
use Rattle.wire.specs.declared.Refusal.{Refusal}

-- every row's test holds
abbrev pub Passed : List (Bool × Refusal) → Type 0
Passed [] = Unit {0}
Passed (row ∷ rows) = (row.0 ≡ true) × Passed rows

-- every row's refusal has a number
abbrev pub Numbered : List (Bool × Refusal) → Type 0
Numbered [] = Unit {0}
Numbered (row ∷ rows) = (passes row.1 ≡ false) × Numbered rows

pub passed : (rows : List (Bool × Refusal)) → Numbered rows → passes (first rows) ≡ true → Passed rows
unfolding first
passed [] n e = tt
passed (row ∷ rows) n e = go row.0 refl e (passed rows n.1)
  where
    go : (t : Bool) → row.0 ≡ t → passes (pick t (first rows) row.1) ≡ true → (passes (first rows) ≡ true → Passed rows) → Passed (row ∷ rows)
    go true q p k = (q, k p)
    go false q p k = (cc n.0, k (cc n.0))

pub pass_all : (rows : List (Bool × Refusal)) → Passed rows → passes (first rows) ≡ true
unfolding first
pass_all [] p = refl
pass_all (row ∷ rows) p = rw p.0 (pass_all rows p.1)

pub and_left : (a b : Bool) → a && b ≡ true → a ≡ true
and_left true b e = refl
and_left false b e = e

pub and_right : (a b : Bool) → a && b ≡ true → b ≡ true
and_right true b e = e
and_right false b e = cc

-- by cases on a test
pub picked : {A : Type 0} (P : A → Type 0) (t : Bool) {x y : A} → (t ≡ true → P x) → (t ≡ false → P y) → P (pick t x y)
picked P true f g = f refl
picked P false f g = g refl

-- every error's refusal has a number
pub record_refuses : (e : RecordError) → passes (record_refusal e) ≡ false
record_refuses = elim [ Magic a ↦ refl | Version a ↦ refl | «Type» a ↦ refl | Flags a ↦ refl | Length a b ↦ refl | BootstrapIdentity a ↦ refl | ErrorCode a ↦ refl | ReceiveWindow a ↦ refl | Credit a ↦ refl ]

pub refuses : (e : Error) → passes (refusal_of e) ≡ false
refuses = elim [ «Record» e ↦ record_refuses e | Unexpected a ↦ refl | MissingIdentity a ↦ refl | Instance a b ↦ refl | Epoch a b ↦ refl | StaleEpoch a b ↦ refl | Sequence a b ↦ refl | SequenceOverflow a ↦ refl | Window a b c ↦ refl | Uncovered a b ↦ refl | Truncated a ↦ refl | InvalidState ↦ refl | ShortStage ↦ refl | ShortOutput ↦ refl | Unsound ↦ refl | OuterPayload ↦ refl | OuterHeader ↦ refl | OuterLength ↦ refl | AckPayload ↦ refl | CreditPayload ↦ refl | PayloadLength ↦ refl ]

-- ---- code that goes through rows
-- a row's test holds, and the rest decide
pub row_passes : (t : Bool) (r x : Refusal) (rows : List (Bool × Refusal)) → t ≡ true → x ≡ first rows → x ≡ first ((t, r) ∷ rows)
unfolding first
row_passes t r x rows e q = rw e q

pub numbered : (e : Error) → (refusal_of e).number ≡ 0 → ⊥
numbered e z = let k : true ≡ false = sym (ap (λ (n : ℕ). eqb n 0) z) ∙ refuses e in cc

-- rows that another function went through: they passed, and the rest decide
pub rows_pass : (front back : List (Bool × Refusal)) (x y : Refusal) → Numbered front → x ≡ first front → x.number ≡ 0 → y ≡ first back → y ≡ first (front ++ back)
unfolding first
rows_pass [] back x y m e n q = q
rows_pass (row ∷ front) back x y m e n q = go row.0 refl e (λ p. rows_pass front back x y m.1 p n q)
  where
    go : (t : Bool) → row.0 ≡ t → x ≡ pick t (first front) row.1 → (x ≡ first front → y ≡ first (front ++ back)) → y ≡ pick t (first (front ++ back)) row.1
    go true h p k = k p
    go false h p k = absurd (eqb-false row.1.number 0 m.0 (ap (λ (r : Refusal). r.number) (sym p) ∙ n))

-- rows after others: the first refuse, or the rest decide
pub first_append : (front back : List (Bool × Refusal)) → Numbered front → first (front ++ back) ≡ pick (passes (first front)) (first back) (first front)
unfolding first
first_append [] back m = refl
first_append (row ∷ front) back m =
    picked (λ (r : Refusal). pick row.0 (first (front ++ back)) row.1 ≡ pick (passes r) (first back) r) row.0
    (λ q. rw q (first_append front back m.1)) (λ q. rw (q, m.0))
