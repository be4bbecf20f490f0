-- A call of `list` writes a beginning of what is still to be written, and so do calls one after the other: each turn of the loop is one
-- push, and texts put one after the other are one text. Assumes nothing.
use Rattle.parser.specs.Push.{latched}
use Prim.Native.Nat.{ℕ, zero, suc, ◌+◌, ◌-◌, ◌≤◌, min}
use mathlib.Core.Path.{◌≡◌, refl, sym, ap, subst, ◌∙◌}
use mathlib.Core.Bool.{Bool, true, false, ◌&&◌}
use mathlib.Core.List.{List, [], ◌++◌, append_assoc}
use native.Mathlib.Omega.{arith}
use lib.ListN.{length, drop, length-drop, length-take, take-append-drop}
use lib.Seq.{drop-drop, drop-append-le}
use lib.Dec.{leb, ltb}
use borrow.Author.Tests.{leb-true}
use Rattle.wire.specs.Refusals.{pick, refusal, none, first, passes}
use Rattle.outer.specs.Outer.{max_payload}
use Rattle.wire.specs.declared.Refusal.{Refusal}
use Rattle.wire.proofs.Rows.{picked, and_right}
use Rattle.claims.proofs.Outcomes.{true_not_false}
use Rattle.text.specs.Decimal.{Puts}
use Rattle.text.proofs.Puts.{puts_length, puts_then, put_first, spaced_none}
use Rattle.text.specs.Lines.{line_room}
use Rattle.listing.specs.Reach.{limit}
use Rattle.listing.specs.Steps.{read_of, sound_listing, Outcome, step_of, lines, list_rows, readable, list_of}
use Rattle.listing.specs.Calls.{Calls, stop, call, written}
use Rattle.listing.specs.declared.Listing.{Listing}
use Rattle.listing.proofs.Cases.{facts, Stepped, stepped}
use Rattle.listing.proofs.Bounds.{lines_within}
use Rattle.claims.specs.Claims.{joined}
use Rattle.claims.proofs.Futures.{future, Good, Writes, writes}

-- from `taken` bytes of a piece on
record Run (s : Listing) (stage piece output : List ℕ) (taken at : ℕ) (o : Outcome) : Type 0 where
  text : List ℕ
  puts : Puts output at text o.listed.written o.output
  good : Good o.listed.listing o.stage
  law : (rest : List ℕ) → text ++ future o.listed.listing o.stage (drop o.listed.taken piece ++ rest) ≡ future s stage (drop taken piece ++ rest)

stays : (s : Listing) (stage piece output : List ℕ) (taken at : ℕ) → Good s stage → at ≤ length output → (o : Outcome) → o.listed.written ≡ at → o.output ≡ output
    → o.listed.listing ≡ s → o.stage ≡ stage → o.listed.taken ≡ taken → Run s stage piece output taken at o
stays s stage piece output taken at g l o ew eo es et ek =
    record {
      text = [];
      puts = subst (λ (n : ℕ). Puts output at [] n o.output) (sym ew) (subst (Puts output at [] at) (sym eo) (spaced_none output at l));
      good = subst (λ (x : Listing). Good x o.stage) (sym es) (subst (Good s) (sym et) g);
      law = λ rest. λ i. future (es i) (et i) (drop (ek i) piece ++ rest);
    }

lines_run : (n : ℕ) (s : Listing) (piece stage output : List ℕ) (taken at : ℕ) → Good s stage → passes (latched s.parser) ≡ true → taken ≤ length piece
    → read_of s + length piece ≤ limit + taken → at ≤ length output → Run s stage piece output taken at (lines n s piece stage output taken at)
unfolding lines
lines_run zero s piece stage output taken at g c w l r = stays s stage piece output taken at g r _ refl refl refl refl refl
lines_run (suc n) s piece stage output taken at g c w l r =
    picked (Run s stage piece output taken at) (ltb taken (length piece) && leb (at + 126) (length output))
    (λ t.
    let o : Outcome = step_of s (drop taken piece) stage output at in
    let q : length (drop taken piece) ≡ length piece - taken = length-drop taken piece in
    let m : at + 126 ≤ length output = leb-true (at + 126) (length output) (and_right (ltb taken (length piece)) (leb (at + 126) (length output)) t) in
    let k : Stepped s (length (drop taken piece)) o.listed = stepped s (drop taken piece) stage output at g.sound (omega arith) in
    let d : Writes s stage (drop taken piece) output at o = writes s stage (drop taken piece) output at g c (omega arith) m in
    let e : (rest : List ℕ) → d.text ++ future o.listed.listing o.stage (drop (taken + o.listed.taken) piece ++ rest) ≡ future s stage (drop taken piece ++ rest) =
    λ rest.
    ap (λ (x : List ℕ). d.text ++ future o.listed.listing o.stage (x ++ rest)) (more o.listed.taken) ∙ d.law rest
    in
    picked (Run s stage piece output taken at) (passes o.listed.refusal)
    (λ p.
    let z = lines_run n o.listed.listing piece o.stage o.output (taken + o.listed.taken) o.listed.written d.good (d.clear p) (omega (arith, k.within)) (omega (arith, k.read))
    (omega (arith, d.puts.within, puts_length d.puts)) in
    record {
      text = d.text ++ z.text;
      puts = puts_then d.puts z.puts;
      good = z.good;
      law = λ rest. append_assoc d.text z.text _ ∙ ap (λ (x : List ℕ). d.text ++ x) (z.law rest) ∙ e rest;
    })
    (λ p. record { text = d.text; puts = d.puts; good = d.good; law = e }))
    (λ _. stays s stage piece output taken at g r _ refl refl refl refl refl)
  where
    more : (k : ℕ) → drop (taken + k) piece ≡ drop k (drop taken piece)
    more k = sym (drop-drop k taken piece)

-- ---- a call
-- where no row stops it the listing is sound, the output has room for a line, and no refusal is latched
rows_tell : (a b c d : Bool) (r : Refusal) → passes r ≡ d
    → passes (pick a (pick b (pick c (pick d none r) (refusal 22 0 0 0)) (refusal 21 0 0 0)) (refusal 23 0 0 0)) ≡ true
    → (a ≡ true) × (c ≡ true) × (d ≡ true)
rows_tell true true true true r q e = (refl, refl, refl)
rows_tell true true true false r q e = true_not_false (sym e ∙ q)
rows_tell true true false d r q e = true_not_false (sym e)
rows_tell true false c d r q e = true_not_false (sym e)
rows_tell false b c d r q e = true_not_false (sym e)

pub list_passes : (s : Listing) (stage output : List ℕ) → passes (first (list_rows s stage output)) ≡ true
    → (sound_listing s ≡ true) × (leb line_room (length output) ≡ true) × (passes (latched s.parser) ≡ true)
unfolding first
list_passes s stage output =
    rows_tell (sound_listing s) (leb max_payload (length stage)) (leb line_room (length output)) (passes (latched s.parser)) (latched s.parser) refl

module _ (s : Listing) (piece stage output : List ℕ) (g : Good s stage) where
  list_run : Run s stage piece output 0 0 (list_of s piece stage output)
  unfolding list_of
  list_run =
      picked (Run s stage piece output 0 0) (passes (first (list_rows s stage output)))
      (λ p.
      let m : List ℕ = readable s piece in
      let l : length m ≡ min (limit - read_of s) (length piece) = length-take (limit - read_of s) piece in
      let f = facts s g.sound in
      let z = lines_run (length m) s m stage output 0 0 g (list_passes s stage output p).2 (omega arith) (omega (arith, f.read)) (omega arith) in
      let o : Outcome = lines (length m) s m stage output 0 0 in
      let w : o.listed.taken ≤ length m = lines_within (length m) s m stage output 0 0 g.sound (omega (arith, f.read)) (omega arith) in
      let x : List ℕ = drop (limit - read_of s) piece in
      record {
        text = z.text;
        puts = z.puts;
        good = z.good;
        law = λ rest.
            ap (λ (y : List ℕ). z.text ++ future o.listed.listing o.stage y)
            (ap (λ (y : List ℕ). drop o.listed.taken y ++ rest) (sym (take-append-drop (limit - read_of s) piece))
            ∙ ap (λ (y : List ℕ). y ++ rest) (drop-append-le o.listed.taken m x w)
            ∙ append_assoc (drop o.listed.taken m) x rest)
            ∙ z.law (x ++ rest)
            ∙ ap (future s stage) (sym (append_assoc m x rest) ∙ ap (λ (y : List ℕ). y ++ rest) (take-append-drop (limit - read_of s) piece));
      })
      (λ _. stays s stage piece output 0 0 g (omega arith) _ refl refl refl refl refl)

-- ---- calls one after the other
pub calls_write : {s t : Listing} {stage input left after : List ℕ} {texts : List (List ℕ)} → Calls s stage input left t after texts → Good s stage
    → (joined texts ++ future t after left ≡ future s stage input) × Good t after
unfolding joined
calls_write stop g = (refl, g)
calls_write {s} {t} {stage} {left = left} {after = after} (call {texts = texts} piece rest output l c) g =
    let w : List ℕ = written (list_of s piece stage output) in
    let z = list_run s piece stage output g in
    let k = calls_write c z.good in (
      append_assoc w (joined texts) (future t after left)
          ∙ (λ i. put_first z.puts i ++ k.0 i)
          ∙ z.law rest,
      k.1,
    )
