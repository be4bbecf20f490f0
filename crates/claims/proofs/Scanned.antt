-- The listing from a record's start on, by what a scan of the bytes says: an unfinished record, a refusal, or a record and the listing of
-- what follows it. More bytes behind a record or a refusal change neither (`scan_append`). Assumes nothing.
use Prim.Native.Nat.{ℕ, zero, suc, ◌+◌, ◌-◌, ◌≤◌, ◌<◌}
use mathlib.Core.Path.{◌≡◌, refl, sym, ap, ◌∙◌}
use mathlib.Core.Bool.{Bool, true, false}
use mathlib.Core.List.{List, ◌++◌, append_assoc}
use native.Mathlib.Omega.{arith}
use native.Mathlib.Decide.{dec_lt}
use lib.ListN.{length, take, drop, length-append, length-drop}
use lib.Seq.{take_at, drop_at}
use lib.Dec.{ltb}
use borrow.Author.Tests.{le-ltb}
use Rattle.wire.specs.Refusals.{pick, passes}
use Rattle.wire.specs.Header.{type_of, epoch_of, sequence_of, length_of}
use Rattle.wire.specs.declared.Refusal.{Refusal}
use Rattle.record.specs.Record.{header_checks, payload_checks}
use Rattle.claims.proofs.Scans.{Scan, unfinished, whole, refused, scan, scan_value, scan_body, scan_header, scan_short, scan_cut, scan_append}
use Rattle.text.specs.Lines.{line, ending}
use Rattle.listing.specs.Listing.{open_after, list_from, lines_from}

-- what is listed of bytes b, by their scan
say : ℕ → ℕ → ℕ → List ℕ → Scan → List ℕ
say n at o b unfinished = ending at 0 (length b)
say n at o b (whole h y) =
    line at (type_of h) (epoch_of h) (sequence_of h) (length_of h) (open_after o (type_of h) (length_of h) y)
    ++ list_from n (at + (44 + length_of h)) (open_after o (type_of h) (length_of h) y) (drop (44 + length_of h) b)
say n at o b (refused r) = ending at r.number 0

told : (n at o : ℕ) (b : List ℕ) → list_from (suc n) at o b ≡ say n at o b (scan b)
unfolding list_from scan scan_header scan_body scan_value say
told n at o b =
    go (ltb (length b) 44) (passes (header_checks h)) (ltb (length (drop 44 b)) (length_of h)) (passes (payload_checks (type_of h) y))
  where
    h : List ℕ
    h = take 44 b

    y : List ℕ
    y = take (length_of h) (drop 44 b)

    go : (t u v w : Bool)
        → pick t (ending at 0 (length b))
        (pick u
        (pick v (ending at 0 (length b)) (pick w (say n at o b (whole h y)) (ending at (payload_checks (type_of h) y).number 0)))
        (ending at (header_checks h).number 0))
        ≡ say n at o b (pick t unfinished (pick u (pick v unfinished (pick w (whole h y) (refused (payload_checks (type_of h) y)))) (refused (header_checks h))))
    go true u v w = refl
    go false false v w = refl
    go false true true w = refl
    go false true false true = refl
    go false true false false = refl

whole_long : (b h y : List ℕ) → scan b ≡ whole h y → 44 ≤ length b
whole_long b h y e = go (dec_lt (length b) 44)
  where
    go : Dec (length b < 44) → 44 ≤ length b
    go (yes l) = let z : unfinished ≡ whole h y = sym (scan_short b l) ∙ e in let w : ◌≡◌ {A = ℕ} 0 1 = cc in absurd (omega arith)
    go (no l) = omega arith

-- as many records as there are bytes, and one, are enough
fuels : (n m at o : ℕ) (b : List ℕ) → length b < n → length b < m → list_from n at o b ≡ list_from m at o b
unfolding say
fuels zero m at o b l k = absurd (omega arith)
fuels (suc n) zero at o b l k = absurd (omega arith)
fuels (suc n) (suc m) at o b l k = told n at o b ∙ says (scan b) refl (fuels n m) ∙ sym (told m at o b)
  where
    says : (v : Scan) → scan b ≡ v → ((at o : ℕ) (c : List ℕ) → length c < n → length c < m → list_from n at o c ≡ list_from m at o c) → say n at o b v ≡ say m at o b v
    says unfinished e f = refl
    says (refused r) e f = refl
    says (whole h y) e f =
        let z : 44 ≤ length b = whole_long b h y e in
        let q : length (drop (44 + length_of h) b) ≡ length b - (44 + length_of h) = length-drop (44 + length_of h) b in
        ap (λ (x : List ℕ). line at (type_of h) (epoch_of h) (sequence_of h) (length_of h) (open_after o (type_of h) (length_of h) y) ++ x)
        (f (at + (44 + length_of h)) (open_after o (type_of h) (length_of h) y) (drop (44 + length_of h) b) (omega arith) (omega arith))

-- ---- the three
pub unfinished_lines : (at o : ℕ) (b : List ℕ) → scan b ≡ unfinished → lines_from at o b ≡ ending at 0 (length b)
unfolding say
unfinished_lines at o b e = told (length b) at o b ∙ ap (say (length b) at o b) e

pub refused_lines : (at o : ℕ) (b c : List ℕ) (r : Refusal) → scan b ≡ refused r → lines_from at o (b ++ c) ≡ ending at r.number 0
unfolding say
refused_lines at o b c r e =
    told (length (b ++ c)) at o (b ++ c) ∙ ap (say (length (b ++ c)) at o (b ++ c)) (scan_append b c (λ q. never q) ∙ e)
  where
    never : scan b ≡ unfinished → ⊥
    never q = let z : refused r ≡ unfinished = sym e ∙ q in let w : ◌≡◌ {A = ℕ} 0 1 = cc in omega arith

module _ (at o : ℕ) (h y c : List ℕ) (size : length h ≡ 44) (ok : passes (header_checks h) ≡ true) (full : length y ≡ length_of h)
    (value : passes (payload_checks (type_of h) y) ≡ true) where
  framed : scan ((h ++ y) ++ c) ≡ whole h y
  unfolding scan_header scan_body scan_value
  framed =
      let n : length_of h ≤ length (y ++ c) = simp length-append (omega arith) in
      let t : take (length_of h) (y ++ c) ≡ y = take_at y c (length_of h) full in
      ap scan (append_assoc h y c)
      ∙ scan_cut h (y ++ c) size
      ∙ simp (scan_header, ok, scan_body, le-ltb (length (y ++ c)) (length_of h) n, t, scan_value, value)

  pub whole_lines : lines_from at o ((h ++ y) ++ c)
      ≡ line at (type_of h) (epoch_of h) (sequence_of h) (length_of h) (open_after o (type_of h) (length_of h) y)
      ++ lines_from (at + (44 + length_of h)) (open_after o (type_of h) (length_of h) y) c
  unfolding say
  whole_lines =
      let b : List ℕ = (h ++ y) ++ c in
      let p : ℕ = open_after o (type_of h) (length_of h) y in
      let l : length (h ++ y) ≡ 44 + length_of h = length-append h y ∙ omega arith in
      let k : length b ≡ 44 + length_of h + length c = length-append (h ++ y) c ∙ omega arith in
      let d : drop (44 + length_of h) b ≡ c = drop_at (h ++ y) c (44 + length_of h) l in
      told (length b) at o b
      ∙ ap (say (length b) at o b) framed
      ∙ ap (λ (x : List ℕ). line at (type_of h) (epoch_of h) (sequence_of h) (length_of h) p ++ x)
      (ap (list_from (length b) (at + (44 + length_of h)) p) d ∙ fuels (length b) (suc (length c)) (at + (44 + length_of h)) p c (omega arith) (omega arith))
