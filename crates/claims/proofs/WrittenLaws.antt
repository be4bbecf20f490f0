-- What a call that writes answers, of a guest or of a host: the bytes laid over the output are read back from the position. Assumes nothing.
use Prim.Native.Nat.{ℕ, ◌+◌, ◌-◌, ◌≤◌, min}
use mathlib.Core.Path.{◌≡◌, refl, sym, ap, ◌∙◌}
use mathlib.Core.Bool.{true, false}
use mathlib.Core.List.{List, ◌++◌}
use native.Mathlib.Omega.{arith}
use native.Mathlib.Decide.{dec_le}
use lib.ListN.{length, take, drop, length-take}
use lib.Seq.{take_at, drop_at, take_all}
use lib.Dec.{leb}
use borrow.Author.Tests.{leb-true}
use Rattle.wire.specs.Bytes.{overlay}
use Rattle.wire.specs.Refusals.{none, passes}
use Rattle.wire.specs.declared.Refusal.{Refusal}
use Rattle.record.specs.Record.{record_bytes}
use Rattle.session.specs.Writes.{identity_bytes}
use Rattle.session.specs.Checks.{identity}
use Rattle.session.specs.declared.Identity.{Identity}
use Rattle.claims.specs.Written.{answered, Writes}
use Rattle.claims.proofs.Outcomes.{true_not_false}

-- the bytes written are bytes' own
pub laid_writes : (o : List ℕ) (at n : ℕ) (bytes : List ℕ) → at ≤ length o
    → Writes at n bytes (answered none n (at + length bytes) (take (at + length bytes - at) (drop at (overlay o at bytes))))
unfolding overlay
laid_writes o at n bytes room =
    let m : length (take at o) ≡ at = simp length-take (omega arith) in
    let k : length bytes ≡ at + length bytes - at = omega arith in
    let e : take (at + length bytes - at) (drop at (overlay o at bytes)) ≡ bytes =
    ap (take (at + length bytes - at)) (drop_at (take at o) (bytes ++ drop (at + length bytes) o) at m)
    ∙ take_at bytes (drop (at + length bytes) o) (at + length bytes - at) k
    in
    record { written = λ _. e; next = λ _. ap (λ (l : List ℕ). at + length l) (sym e); counted = λ _. refl; refused = λ x. true_not_false x }

pub nothing_written : (o : List ℕ) (at n : ℕ) (bytes : List ℕ) (r : Refusal) → passes r ≡ false → Writes at n bytes (answered r 0 0 (take (0 - at) (drop at o)))
nothing_written o at n bytes r e =
    let k : 0 - at ≡ 0 = omega arith in
    record {
      written = λ x. true_not_false (sym x ∙ e);
      next = λ x. true_not_false (sym x ∙ e);
      counted = λ x. true_not_false (sym x ∙ e);
      refused = λ _. (refl, (refl, ap (λ (i : ℕ). take i (drop at o)) k));
    }

-- the first bytes, no more than there are
pub take_most : (n : ℕ) (l : List ℕ) → take (min (length l) n) l ≡ take n l
take_most n l = go (dec_le (length l) n)
  where
    go : Dec (length l ≤ n) → take (min (length l) n) l ≡ take n l
    go (yes p) = take_all (min (length l) n) l (omega arith) ∙ sym (take_all n l p)
    go (no p) = let e : min (length l) n ≡ n = omega arith in ap (λ (i : ℕ). take i l) e

-- the position lies in the output where the last row passes
pub in_output : (at n : ℕ) (o : List ℕ) → leb (at + n) (length o) ≡ true → at ≤ length o
in_output at n o e = let l : at + n ≤ length o = leb-true (at + n) (length o) e in omega arith

-- a record with another identity and sequence
pub same_bytes : (t : ℕ) {i : Identity} {instance : List ℕ} {epoch k n : ℕ} (y : List ℕ) → i ≡ identity instance epoch → k ≡ n
    → identity_bytes t i k y ≡ record_bytes t instance epoch n y
same_bytes t y e q = λ j. identity_bytes t (e j) (q j) y
