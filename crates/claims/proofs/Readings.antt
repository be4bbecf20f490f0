-- What a string of bytes reads as: records, one after the other, then bytes of an unfinished record or a refusal. A string has one
-- reading, and a reading goes on when more bytes come, as scans do (`scan_append`). Assumes nothing.
use Prim.Native.Nat.{ℕ}
use mathlib.Core.Path.{◌≡◌, refl, sym, ap, subst, ◌∙◌}
use mathlib.Core.Bool.{true}
use mathlib.Core.List.{List, [], ◌∷◌, ◌++◌, append_assoc}
use native.Mathlib.Omega.{arith}
use lib.ListN.{length, drop}
use lib.Seq.{drop_at}
use Rattle.wire.specs.Refusals.{passes}
use Rattle.wire.specs.Header.{type_of, length_of}
use Rattle.wire.specs.declared.Refusal.{Refusal}
use Rattle.record.specs.Record.{header_checks, payload_checks, record_of}
use Rattle.record.specs.declared.Record.{Record}
use Rattle.claims.proofs.Scans.{Scan, unfinished, whole, refused, scan, scan_append}

-- how it ends: with bytes of an unfinished record, or refused
pub data Stop : Type 0 where
  within : List ℕ → Stop
  refusing : Refusal → Stop

-- a header that passes, with a payload of the length that it says, which passes too
pub record Framed (h y : List ℕ) : Type 0 where
  pub size : length h ≡ 44
  pub checked : passes (header_checks h) ≡ true
  pub full : length y ≡ length_of h
  pub valued : passes (payload_checks (type_of h) y) ≡ true

pub data Reads : List ℕ → List (Record × List ℕ) → Stop → Type 0 where
  ends_within : {b : List ℕ} → scan b ≡ unfinished → Reads b [] (within b)
  ends_refused : {b : List ℕ} {r : Refusal} → scan b ≡ refused r → Reads b [] (refusing r)
  next_record : {b h y c : List ℕ} {rs : List (Record × List ℕ)} {e : Stop} → Framed h y → scan b ≡ whole h y → b ≡ (h ++ y) ++ c → Reads c rs e → Reads b ((record_of h, y) ∷ rs) e

pub zero_not_one : {A : Type 0} → ◌≡◌ {A = ℕ} 0 1 → A
zero_not_one e = absurd (omega arith)

-- a string reads as one list of records
pub reads_same : {b : List ℕ} {rs rs' : List (Record × List ℕ)} {e e' : Stop} → Reads b rs e → Reads b rs' e' → (rs ≡ rs') × (e ≡ e')
reads_same (ends_within p) (ends_within q) = (refl, refl)
reads_same (ends_within p) (ends_refused q) = zero_not_one (cc)
reads_same (ends_within p) (next_record i q f r) = zero_not_one (cc)
reads_same (ends_refused p) (ends_within q) = zero_not_one (cc)
reads_same (ends_refused {r = r} p) (ends_refused {r = r'} q) = let z : r ≡ r' = cc in (refl, ap refusing z)
reads_same (ends_refused p) (next_record i q f r) = zero_not_one (cc)
reads_same (next_record i p d s) (ends_within q) = zero_not_one (cc)
reads_same (next_record i p d s) (ends_refused q) = zero_not_one (cc)
reads_same (next_record {h = h} {y = y} {c = c} i p d s) (next_record {h = h'} {y = y'} {c = c'} {rs = rs'} {e = e'} i' q f r) =
    let eh : h ≡ h' = cc in
    let ey : y ≡ y' = cc in
    let ec : c' ≡ c =
    sym (drop_at (h ++ y) c' (length (h ++ y)) refl)
    ∙ ap (drop (length (h ++ y))) ((λ j. (eh j ++ ey j) ++ c') ∙ sym f ∙ d)
    ∙ drop_at (h ++ y) c (length (h ++ y)) refl
    in
    let k = reads_same s (subst (λ (x : List ℕ). Reads x rs' e') ec r) in
    ((λ j. (record_of (eh j), ey j) ∷ k.0 j), k.1)

-- more bytes behind
pub later : {v : Scan} (b y : List ℕ) → (v ≡ unfinished → ⊥) → scan b ≡ v → scan (b ++ y) ≡ v
later b y f e = scan_append b y (λ q. f (sym e ∙ q)) ∙ e

pub is_whole : {h y : List ℕ} → whole h y ≡ unfinished → ⊥
is_whole e = let z : ◌≡◌ {A = ℕ} 0 1 = cc in omega arith

is_refused : {r : Refusal} → refused r ≡ unfinished → ⊥
is_refused e = let z : ◌≡◌ {A = ℕ} 0 1 = cc in omega arith

pub behind : (a c y : List ℕ) {b : List ℕ} → b ≡ a ++ c → b ++ y ≡ a ++ (c ++ y)
behind a c y e = ap (λ (x : List ℕ). x ++ y) e ∙ append_assoc a c y

pub reads_on : {b l : List ℕ} {rs rs' : List (Record × List ℕ)} {e : Stop} (y : List ℕ) → Reads b rs (within l) → Reads (l ++ y) rs' e → Reads (b ++ y) (rs ++ rs') e
reads_on y (ends_within p) k = k
reads_on y (next_record {b = b} {h = h} {y = v} {c = c} i p d s) k = next_record i (later b y is_whole p) (behind (h ++ v) c y d) (reads_on y s k)

pub reads_refused : {b : List ℕ} {rs : List (Record × List ℕ)} {r : Refusal} (y : List ℕ) → Reads b rs (refusing r) → Reads (b ++ y) rs (refusing r)
reads_refused y (ends_refused {b = b} p) = ends_refused (later b y is_refused p)
reads_refused y (next_record {b = b} {h = h} {y = v} {c = c} i p d s) = next_record i (later b y is_whole p) (behind (h ++ v) c y d) (reads_refused y s)
