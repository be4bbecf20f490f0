-- A line is its numbers put one after the other. And the ways of each put. Assumes nothing.
use Rattle.std.proofs.Common.{◌≡◌, ℕ, ◌+◌, ◌≤◌, Bool, true, false, List, [], ◌∷◌, ◌++◌, length, refl, sym, ap, subst, ◌∙◌, append_assoc, append-nil}
use Rattle.std.specs.Prelude.{leb}
use borrow.Author.Tests.{le-leb}
use Rattle.wire.specs.Refusals.{pick}
use Rattle.wire.specs.Bytes.{overlay}
use Rattle.text.specs.Decimal.{number, spaced, Puts, placed}
use Rattle.text.proofs.Puts.{puts_then}
use Rattle.text.specs.Lines.{line, ending, put_text}

-- ---- the ways of a put
module _ {d : List ℕ} {at : ℕ} {b : Bool} (room : b ≡ leb (at + 126) (length d)) where
  pub text_not : (text : List ℕ) → b ≡ false → placed at d ≡ put_text d at text
  unfolding put_text
  text_not text h = simp (sym room ∙ h) refl

  pub text_done : {e : List ℕ} {r : ℕ} (text : List ℕ) → b ≡ true → Puts d at text r e → placed r e ≡ put_text d at text
  unfolding put_text
  text_done text h p = simp (sym room ∙ h) (λ i. placed (p.next i) (p.bytes i))

-- ---- the lines
line_spaced : (a b c e f g : ℕ) → spaced (a ∷ b ∷ c ∷ e ∷ f ∷ []) ++ number g 10 ≡ line a b c e f g
unfolding line
line_spaced a b c e f g = simp (append_assoc, append-nil) refl

ending_spaced : (a b c : ℕ) → ((101 ∷ 110 ∷ 100 ∷ 32 ∷ []) ++ spaced (a ∷ b ∷ [])) ++ number c 10 ≡ ending a b c
unfolding ending
ending_spaced a b c = simp (append_assoc, append-nil) refl

pub line_puts : {d d1 d2 : List ℕ} {at r q : ℕ} (a b c e f g : ℕ) → Puts d at (spaced (a ∷ b ∷ c ∷ e ∷ f ∷ [])) r d1 → Puts d1 r (number g 10) q d2
    → Puts d at (line a b c e f g) q d2
line_puts {d} {d2 = d2} {at = at} {q = q} a b c e f g p s = subst (λ x. Puts d at x q d2) (line_spaced a b c e f g) (puts_then p s)

pub ending_puts : {d d1 d2 d3 : List ℕ} {at o r q : ℕ} (a b c : ℕ) → Puts d at (101 ∷ 110 ∷ 100 ∷ 32 ∷ []) o d1 → Puts d1 o (spaced (a ∷ b ∷ [])) r d2
    → Puts d2 r (number c 10) q d3 → Puts d at (ending a b c) q d3
ending_puts {d} {d3 = d3} {at = at} {q = q} a b c t p s = subst (λ x. Puts d at x q d3) (ending_spaced a b c) (puts_then (puts_then t p) s)

-- text put where a line has room
pub text_puts : (d : List ℕ) (at : ℕ) (text : List ℕ) (r : ℕ) (e : List ℕ) → at + 126 ≤ length d → placed r e ≡ put_text d at text
    → placed r e ≡ placed (at + length text) (overlay d at text)
unfolding put_text
text_puts d at text r e h q = q ∙ ap (λ t. pick t (placed (at + length text) (overlay d at text)) (placed at d)) (le-leb (at + 126) (length d) h)
