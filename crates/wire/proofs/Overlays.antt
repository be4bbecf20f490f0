-- A list laid over a part of another: copies side by side, copies that fit or not, and a write to a part of a slice. Assumes nothing.
use Prim.Native.Nat.{ℕ, ◌+◌, ◌≤◌, ◌<◌}
use mathlib.Core.Path.{◌≡◌, refl, sym, ap, ap₂, ◌∙◌}
use mathlib.Core.List.{List, [], ◌++◌, append_assoc, append-nil}
use native.Mathlib.Nat.{zero-add}
use native.Mathlib.Omega.{arith}
use lib.ListN.{length, take, drop, length-append, length-take, length-drop}
use lib.Seq.{drop-length, take_at, drop_at, drop-drop}
use borrow.Rule.Slice.PartMut.{put_mid}
use borrow.Author.Tests.{le-leb, lt-leb}
use Rattle.wire.specs.Bytes.{overlay, copied}

pub length_overlay : (d : List ℕ) (at : ℕ) (s : List ℕ) → at + length s ≤ length d → length (overlay d at s) ≡ length d
unfolding overlay
length_overlay d at s h = simp (length-append, length-take, length-drop) (omega arith)

-- what stands there now, before it and after it
module _ (d : List ℕ) (at : ℕ) (s : List ℕ) (h : at + length s ≤ length d) where
  pub take_overlay : take (at + length s) (overlay d at s) ≡ take at d ++ s
  unfolding overlay
  take_overlay =
      let w : length (take at d ++ s) ≡ at + length s = simp (length-append, length-take) (omega arith) in
      ap (take (at + length s)) (sym (append_assoc (take at d) s (drop (at + length s) d))) ∙ take_at (take at d ++ s) (drop (at + length s) d) (at + length s) w

  pub drop_overlay : drop (at + length s) (overlay d at s) ≡ drop (at + length s) d
  unfolding overlay
  drop_overlay =
      let w : length (take at d ++ s) ≡ at + length s = simp (length-append, length-take) (omega arith) in
      ap (drop (at + length s)) (sym (append_assoc (take at d) s (drop (at + length s) d))) ∙ drop_at (take at d ++ s) (drop (at + length s) d) (at + length s) w

  pub part_overlay : take (length s) (drop at (overlay d at s)) ≡ s
  unfolding overlay
  part_overlay =
      let w : length (take at d) ≡ at = simp length-take (omega arith) in
      ap (take (length s)) (drop_at (take at d) (s ++ drop (at + length s) d) at w) ∙ take_at s (drop (at + length s) d) (length s) refl

-- the same, of so many bytes
pub take_laid : (d s : List ℕ) (at n : ℕ) → n ≡ at + length s → n ≤ length d → take n (overlay d at s) ≡ take at d ++ s
take_laid d s at n e h = rw e (take_overlay d at s (omega arith))

-- two lists side by side are one
pub overlay_next : (d : List ℕ) (at : ℕ) (a b : List ℕ) → at + length (a ++ b) ≤ length d → overlay (overlay d at a) (at + length a) b ≡ overlay d at (a ++ b)
unfolding overlay
overlay_next d at a b room =
    let h : at + (length a + length b) ≤ length d = simp length-append at room in
    let n : at + length a + length b ≡ at + length (a ++ b) = simp length-append (omega arith) in
    let e : drop (at + length a + length b) (overlay d at a) ≡ drop (at + length (a ++ b)) d =
    sym (drop-drop (length b) (at + length a) (overlay d at a))
    ∙ ap (drop (length b)) (drop_overlay d at a (omega arith))
    ∙ drop-drop (length b) (at + length a) d
    ∙ ap (λ (k : ℕ). drop k d) n
    in
    ap₂ (λ (x y : List ℕ). x ++ (b ++ y)) (take_overlay d at a (omega arith)) e
    ∙ append_assoc (take at d) a (b ++ drop (at + length (a ++ b)) d)
    ∙ ap (λ (x : List ℕ). take at d ++ x) (sym (append_assoc a b (drop (at + length (a ++ b)) d)))

-- a list laid over one of its length is all of it
pub overlay_all : (d s : List ℕ) → length s ≡ length d → overlay d 0 s ≡ s
unfolding overlay
overlay_all d s h =
    let e : drop (0 + length s) d ≡ [] = ap (λ (k : ℕ). drop k d) (zero-add (length s) ∙ h) ∙ drop-length d in
    ap (λ (r : List ℕ). s ++ r) e ∙ append-nil s

-- a copy that fits, and one that doesn't
pub copied_fits : (d : List ℕ) (at : ℕ) (s : List ℕ) → at + length s ≤ length d → copied d at s ≡ overlay d at s
unfolding copied
copied_fits d at s h = simp (le-leb (at + length s) (length d) h)

pub copied_not : (d : List ℕ) (at : ℕ) (s : List ℕ) → length d < at + length s → copied d at s ≡ d
unfolding copied
copied_not d at s h = simp (lt-leb (at + length s) (length d) h)

-- a write to a part of a slice, of as many bytes as it has
pub put_overlay : (d : List ℕ) (at k : ℕ) (s : List ℕ) → k ≡ length s → put_mid at k d s ≡ overlay d at s
unfolding overlay
put_overlay d at k s e = rw (e, drop-drop (length s) at d) refl

pub ruleset copying = (copied_fits, copied_not, put_overlay)
