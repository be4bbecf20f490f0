-- Text put into a buffer, and more text after it, is one text put; and the ways of a put. It leans on the laws of one list laid over
-- another. Assumes nothing.
use Rattle.std.proofs.Common.{◌≡◌, ℕ, ◌+◌, ◌-◌, ◌≤◌, ◌<◌, List, [], ◌∷◌, ◌++◌, length, get_or, take, drop, refl, sym, ap, subst, ◌∙◌, add-one, arith, length-append, take-append-drop}
use Rattle.std.proofs.lemmas.List.{set_split, take_at, flat_map_more, take_more}
use Rattle.std.specs.Fmt.{decimal as printed}
use lib.ListN.{set}
use lib.Seq.{drop-drop}
use borrow.Rule.Slice.PartMut.{put_mid}
use Rattle.wire.specs.Bytes.{overlay}
use Rattle.wire.proofs.Overlays.{length_overlay, overlay_next}
use Rattle.text.specs.Decimal.{number, spaced, Puts}
use Rattle.text.proofs.Digits.{digits_few, decimal_printed}

pub puts_length : {d e a : List ℕ} {at r : ℕ} → Puts d at a r e → length e ≡ length d
puts_length {d} {e} {a} {at} {r} p = ap length p.bytes ∙ length_overlay d at a (omega (arith, p.next, p.within))

pub puts_then : {d e g a b : List ℕ} {at r q : ℕ} → Puts d at a r e → Puts e r b q g → Puts d at (a ++ b) q g
puts_then {d} {e} {g} {a} {b} {at} {r} {q} p s =
    let l : length e ≡ length d = puts_length p in
    let n : q ≡ at + length (a ++ b) = simp length-append (omega (arith, p.next, s.next)) in
    record {
      next = n;
      within = omega (arith, s.within, l);
      bytes = s.bytes ∙ (λ i. overlay (p.bytes i) (p.next i) b) ∙ overlay_next d at a b (omega (arith, s.within, l));
    }

-- what was put at the start of a buffer stands there
pub put_first : {old new text : List ℕ} {r : ℕ} → Puts old 0 text r new → take r new ≡ text
unfolding overlay
put_first {old} {new} {text} {r} p = (λ i. take (p.next i) (p.bytes i)) ∙ take_at text (drop (0 + length text) old) (0 + length text) (omega arith)

-- ---- text copied into a part of the buffer, and one byte stored
pub part_puts : {d e text : List ℕ} {at : ℕ} → at + length text ≤ length d → e ≡ text
    → Puts d at text (at + length text) (put_mid at (at + length text - at) d e)
unfolding overlay
part_puts {d} {e} {text} {at} room c =
    let k : at + length text - at ≡ length text = omega arith in
    record {
      next = refl;
      within = room;
      bytes = (λ i. put_mid at (k i) d (c i)) ∙ ap (λ x. take at d ++ (text ++ x)) (drop-drop (length text) at d);
    }

byte_puts : (e : List ℕ) (r x : ℕ) → r < length e → Puts e r (x ∷ []) (r + 1) (set e r x)
unfolding overlay
byte_puts e r x h = record { next = refl; within = omega arith; bytes = set_split e r x h ∙ rw add-one refl }

-- ---- numbers
pub number_puts : {d e text : List ℕ} {at r : ℕ} (n end : ℕ) → n < 18446744073709551616 → at + 21 ≤ length d → text ≡ printed n → Puts d at text r e
    → Puts d at (number n end) (r + 1) (set e r end)
unfolding number
number_puts {d} {e} {text} {at} {r} n end fits room t p =
    let few : length text ≤ 20 = rw t (digits_few n fits) in
    subst (λ x. Puts d at (x ++ (end ∷ [])) (r + 1) (set e r end)) (t ∙ decimal_printed n fits)
    (puts_then p (byte_puts e r end (omega (arith, p.next, puts_length p))))

pub spaced_none : (d : List ℕ) (at : ℕ) → at ≤ length d → Puts d at [] at d
unfolding overlay
spaced_none d at h = record { next = omega arith; within = h; bytes = sym (ap (λ k. take at d ++ drop k d) (omega arith) ∙ take-append-drop at d) }

pub spaced_more : {d e g : List ℕ} {at i r q : ℕ} (ns : List ℕ) → i < length ns → Puts d at (spaced (take i ns)) r e → Puts e r (number (get_or ns i 0) 32) q g
    → Puts d at (spaced (take (i + 1) ns)) q g
spaced_more {d} {e} {g} {at} {i} {r} {q} ns h p s =
    let w : spaced (take i ns) ++ number (get_or ns i 0) 32 ≡ spaced (take (i + 1) ns) =
    flat_map_more (λ n. number n 32) [] (take i ns) (get_or ns i 0) ∙ ap spaced (sym (take_more ns i 0 h))
    in
    subst (λ x. Puts d at x q g) w (puts_then p s)
