-- Types and their codes, and lengths: what the code's proofs and the layers above use. Assumes nothing.
use Prim.Native.Nat.{ℕ, ◌≤◌}
use mathlib.Core.Path.{◌≡◌, refl, sym, ap, ◌∙◌}
use mathlib.Core.Bool.{Bool, true, false, ◌||◌}
use native.Mathlib.Omega.{arith}
use Rattle.std.specs.Prelude.{Option, Some, None}
use lib.Dec.{eqb, leb}
use borrow.Author.Tests.{ne_eqb, eqb-true, leb-true}
use Rattle.wire.proofs.Rows.{picked, and_right}
use Rattle.record.specs.Types.{code_of, type_at, known, type_ok, length_ok}
use Rattle.record.specs.declared.types.RecordType.{RecordType}
use Rattle.record.specs.declared.types.RecordType.TheVariants.{GuestAttach, HostAttach, Reset, Ack, Data, Wait, Ready, Error, Credit}

-- a code that stands for a type is that type's
module _ (n : ℕ) where
  arm : (k : ℕ) (u t : RecordType) → code_of u ≡ k → eqb n k ≡ true → Some u ≡ Some t → code_of t ≡ n
  arm k u t c e q = let z : u ≡ t = cc in ap code_of (sym z) ∙ c ∙ sym (eqb-true n k e)

  pub known_code : (t : RecordType) → type_at n ≡ Some t → code_of t ≡ n
  unfolding type_at
  known_code t =
      let P : Option RecordType → Type 0 = λ (l : Option RecordType). l ≡ Some t → code_of t ≡ n in
      picked P (eqb n 1) (arm 1 GuestAttach t refl)
      (λ _. picked P (eqb n 2) (arm 2 HostAttach t refl)
      (λ _. picked P (eqb n 3) (arm 3 Reset t refl)
      (λ _. picked P (eqb n 4) (arm 4 Ack t refl)
      (λ _. picked P (eqb n 5) (arm 5 Data t refl)
      (λ _. picked P (eqb n 6) (arm 6 Wait t refl)
      (λ _. picked P (eqb n 7) (arm 7 Ready t refl)
      (λ _. picked P (eqb n 8) (arm 8 Error t refl)
      (λ _. picked P (eqb n 9) (arm 9 Credit t refl) (λ _ q. cc)))))))))

pub code_type : (t : RecordType) → type_at (code_of t) ≡ Some t
unfolding type_at
code_type GuestAttach = refl
code_type HostAttach = refl
code_type Reset = refl
code_type Ack = refl
code_type Data = refl
code_type Wait = refl
code_type Ready = refl
code_type Error = refl
code_type Credit = refl

pub code_low : (t : RecordType) → type_ok (code_of t) ≡ true
code_low t = ap known (code_type t)

pub unknown_code : (n : ℕ) → type_at n ≡ None → type_ok n ≡ false
unknown_code n e = ap known e

-- the codes of two types differ
pub other_code : (t u : RecordType) → (t ≡ u → ⊥) → eqb (code_of t) (code_of u) ≡ false
other_code t u n = ne_eqb (code_of t) (code_of u) (λ e. n (cc (ap type_at e, code_type t, code_type u)))

-- no length above the largest payload passes
pub length_limit : (t n : ℕ) → length_ok t n ≡ true → n ≤ 65536
unfolding length_ok
length_limit t n =
    let P : Bool → Type 0 = λ (b : Bool). b ≡ true → n ≤ 65536 in
    picked P (eqb t 2) (λ _ e. omega (arith, eqb-true))
    (λ _. picked P (eqb t 5) (λ _ e. leb-true n 65536 (and_right (leb 1 n) (leb n 65536) e))
    (λ _. picked P (eqb t 4 || (eqb t 8 || eqb t 9)) (λ _ e. omega (arith, eqb-true)) (λ _ e. omega (arith, eqb-true))))
