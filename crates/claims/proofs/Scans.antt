-- A string of bytes read from its start: no whole record yet, one record, or a refusal. More bytes behind a record or a refusal change
-- neither, since each is found in the bytes before (`scan_append`). Assumes nothing.
use Prim.Native.Nat.{ℕ, ◌≤◌, ◌<◌}
use mathlib.Core.Path.{◌≡◌, refl, sym, ap, ap₂, ◌∙◌}
use mathlib.Core.Bool.{Bool, true, false}
use mathlib.Core.List.{List, ◌++◌, append_assoc}
use native.Mathlib.Omega.{arith}
use native.Mathlib.Decide.{dec_lt}
use lib.ListN.{length, take, drop, length-append, take-append-drop, length-take}
use lib.Seq.{take_at, drop_at, take-append-le}
use lib.Dec.{ltb}
use borrow.Author.Tests.{lt-ltb, le-ltb}
use Rattle.wire.specs.Refusals.{pick, passes}
use Rattle.wire.specs.Header.{type_of, length_of}
use Rattle.wire.specs.declared.Refusal.{Refusal}
use Rattle.record.specs.Record.{header_checks, payload_checks}

-- what the first bytes of a string are: part of a record, a header and its payload, or no record
pub data Scan : Type 0 where
  unfinished : Scan
  whole : (h y : List ℕ) → Scan
  refused : Refusal → Scan

unfoldable pub scan_value : List ℕ → List ℕ → Scan
scan_value h y = pick (passes (payload_checks (type_of h) y)) (whole h y) (refused (payload_checks (type_of h) y))

unfoldable pub scan_body : List ℕ → List ℕ → Scan
scan_body h z = pick (ltb (length z) (length_of h)) unfinished (scan_value h (take (length_of h) z))

unfoldable pub scan_header : List ℕ → List ℕ → Scan
scan_header h z = pick (passes (header_checks h)) (scan_body h z) (refused (header_checks h))

unfoldable pub scan : List ℕ → Scan
scan b = pick (ltb (length b) 44) unfinished (scan_header (take 44 b) (drop 44 b))

pub scan_short : (b : List ℕ) → length b < 44 → scan b ≡ unfinished
unfolding scan
scan_short b h = simp (lt-ltb (length b) 44 h)

pub scan_cut : (h z : List ℕ) → length h ≡ 44 → scan (h ++ z) ≡ scan_header h z
unfolding scan
scan_cut h z e =
    let n : 44 ≤ length (h ++ z) = simp length-append (omega arith) in
    simp (le-ltb (length (h ++ z)) 44 n) (ap₂ scan_header (take_at h z 44 e) (drop_at h z 44 e))

-- ---- more bytes behind a record or a refusal change nothing
body_append : (h z y : List ℕ) → (scan_body h z ≡ unfinished → ⊥) → scan_body h (z ++ y) ≡ scan_body h z
unfolding scan_body
body_append h z y f = go (dec_lt (length z) (length_of h))
  where
    go : Dec (length z < length_of h) → scan_body h (z ++ y) ≡ scan_body h z
    go (yes l) = absurd (f (simp (lt-ltb (length z) (length_of h) l)))
    go (no l) =
        let m : length_of h ≤ length z = omega arith in
        let n : length_of h ≤ length (z ++ y) = simp length-append (omega arith) in
        simp (le-ltb (length z) (length_of h) m, le-ltb (length (z ++ y)) (length_of h) n) (ap (scan_value h) (take-append-le (length_of h) z y m))

header_append : (h z y : List ℕ) → (scan_header h z ≡ unfinished → ⊥) → scan_header h (z ++ y) ≡ scan_header h z
unfolding scan_header
header_append h z y = go (passes (header_checks h))
  where
    go : (t : Bool) → (pick t (scan_body h z) (refused (header_checks h)) ≡ unfinished → ⊥)
        → pick t (scan_body h (z ++ y)) (refused (header_checks h)) ≡ pick t (scan_body h z) (refused (header_checks h))
    go true f = body_append h z y f
    go false f = refl

pub scan_append : (b y : List ℕ) → (scan b ≡ unfinished → ⊥) → scan (b ++ y) ≡ scan b
scan_append b y f = go (dec_lt (length b) 44)
  where
    go : Dec (length b < 44) → scan (b ++ y) ≡ scan b
    go (yes l) = absurd (f (scan_short b l))
    go (no l) =
        let h : List ℕ = take 44 b in
        let z : List ℕ = drop 44 b in
        let e : length (take 44 b) ≡ 44 = simp length-take (omega arith) in
        let c : scan b ≡ scan_header h z = ap scan (sym (take-append-drop 44 b)) ∙ scan_cut h z e in
        let d : scan (b ++ y) ≡ scan_header h (z ++ y) =
        ap (λ (x : List ℕ). scan (x ++ y)) (sym (take-append-drop 44 b)) ∙ ap scan (append_assoc h z y) ∙ scan_cut h (z ++ y) e
        in
        d ∙ header_append h z y (λ q. f (c ∙ q)) ∙ sym c
