-- The loop over a piece: the calls so far were lent its first bytes, and one more call is lent the rest. Assumes nothing.
use Prim.Native.Nat.{ℕ, ◌+◌, ◌-◌, ◌≤◌}
use mathlib.Core.Path.{◌≡◌, refl, sym, ap, subst, ◌∙◌}
use mathlib.Core.List.{List, [], ◌∷◌, ◌++◌, append-nil}
use native.Mathlib.Omega.{arith}
use lib.ListN.{length, take, drop, length-drop}
use lib.Seq.{drop-drop}
use Rattle.wire.proofs.PartLaws.{part_end}
use Rattle.text.specs.Lines.{line_room}
use Rattle.listing.specs.Steps.{Listed, Outcome, outcome, list_of}
use Rattle.listing.specs.Calls.{Calls, stop, call, written}
use Rattle.listing.specs.declared.Listing.{Listing}
use Rattle.listing.proofs.Bounds.{list_within}
use Rattle.std.specs.Prelude.{Option, Some, None}
use Rattle.std.specs.Io.KnownBytes.{Keeps, Consumes}
use Rattle.nvxs_list.specs.Feeding.{Feeds}
use Rattle.std.specs.declared.ops.ControlFlow.TheVariants.{Break}

-- one more call
calls_more : {s t : Listing} {stage input left after : List ℕ} {texts : List (List ℕ)} → Calls s stage input left t after texts → (piece rest output : List ℕ)
    → left ≡ piece ++ rest → line_room ≤ length output
    → Calls s stage input (drop (list_of t piece after output).listed.taken piece ++ rest) (list_of t piece after output).listed.listing
    (list_of t piece after output).stage (texts ++ (written (list_of t piece after output) ∷ []))
calls_more {s} {stage = stage} stop piece rest output e l =
    subst (λ (x : List ℕ). Calls s stage x (drop (list_of s piece stage output).listed.taken piece ++ rest) (list_of s piece stage output).listed.listing
    (list_of s piece stage output).stage (written (list_of s piece stage output) ∷ [])) (sym e) (call piece rest output l stop)
calls_more (call p r o k c) piece rest output e l = call p r o k (calls_more c piece rest output e l)

-- what holds at the head of the loop
pub record FedSoFar (s₀ : Listing) (piece stage₀ : List ℕ) (s : Listing) (stage : List ℕ) (taken : ℕ) : Type 0 where
  pub texts : List (List ℕ)
  pub calls : Calls s₀ stage₀ piece (drop taken piece) s stage texts
  pub within : taken ≤ length piece

pub fed_first : (s : Listing) (piece stage : List ℕ) → FedSoFar s piece stage s stage 0
fed_first s piece stage = record { texts = []; calls = stop; within = omega arith }

module _ {s₀ : Listing} {piece stage₀ : List ℕ} {s : Listing} {stage : List ℕ} {taken : ℕ} (f : FedSoFar s₀ piece stage₀ s stage taken)
    (r : Listed) (output after o2 : List ℕ)
    (e : outcome r after o2 ≡ list_of s (take (length piece - taken) (drop taken piece)) stage output) where
  told : outcome r after o2 ≡ list_of s (drop taken piece) stage output
  told = e ∙ ap (λ (x : List ℕ). list_of s x stage output) (part_end taken piece)

  pub fed_within : taken + r.taken ≤ length piece
  fed_within =
      let w : r.taken ≤ length (drop taken piece) = subst (λ (x : Outcome). x.listed.taken ≤ length (drop taken piece)) (sym told) (list_within s (drop taken piece) stage output) in
      let q : length (drop taken piece) ≡ length piece - taken = length-drop taken piece in
      omega (arith, f.within)

  pub fed_more : 126 ≤ length output → FedSoFar s₀ piece stage₀ r.listing after (taken + r.taken)
  fed_more room =
      let x : List ℕ = drop taken piece in
      let c = calls_more f.calls x [] output (sym (append-nil x)) room in
      let d : drop r.taken x ++ [] ≡ drop (taken + r.taken) piece = append-nil (drop r.taken x) ∙ drop-drop r.taken taken piece in
      record {
        texts = f.texts ++ (written (list_of s x stage output) ∷ []);
        calls =
            subst (λ (y : List ℕ). Calls s₀ stage₀ piece y r.listing after (f.texts ++ (written (list_of s x stage output) ∷ []))) d
            (subst (λ (o : Outcome). Calls s₀ stage₀ piece (drop o.listed.taken x ++ []) o.listed.listing o.stage (f.texts ++ (written (list_of s x stage output) ∷ [])))
            (sym told) c);
        within = fed_within;
      }

module _ {s₀ : Listing} {piece stage₀ : List ℕ} {s : Listing} {stage : List ℕ} {taken : ℕ} (f : FedSoFar s₀ piece stage₀ s stage taken) where
  -- the ways out: it stops, or the piece is at its end
  pub feeds_stop : Feeds s₀ piece stage₀ (Break s) stage
  feeds_stop = record { left = drop taken piece; texts = f.texts; calls = f.calls; all = λ t e. cc }

-- where reading ended nothing was consumed, and nothing is handed on
module _ (s : Listing) (buffer stage : List ℕ) (old new : Option (List ℕ)) where
  pub feeds_end : Consumes old new [] → (n : ℕ) × Consumes old new (take n buffer) × Feeds s (take n buffer) stage (Break s) stage
  feeds_end h = (0, h, record { left = []; texts = []; calls = stop; all = λ t e. refl })

  pub feeds_failed : Keeps old new → (n : ℕ) × Consumes old new (take n buffer) × Feeds s (take n buffer) stage (Break s) stage
  feeds_failed k = feeds_end (kept old new k)
    where
      kept : (a b : Option (List ℕ)) → Keeps a b → Consumes a b []
      kept None b q = tt
      kept (Some x) None q = q
      kept (Some x) (Some y) q = sym q
