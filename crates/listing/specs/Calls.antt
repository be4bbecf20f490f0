-- Calls of the listing one after the other, over a whole capture.
use Rattle.std.specs.Prelude.{ℕ, ◌≤◌, ◌≡◌, false, List, [], ◌∷◌, ◌++◌, length, take, drop}
use Rattle.wire.specs.Refusals.{passes}
use Rattle.parser.specs.Push.{latched}
use Rattle.listing.specs.Reach.{limit}
use Rattle.text.specs.Lines.{line_room}
use Rattle.listing.specs.Steps.{Outcome, read_of, list_of}
use Rattle.listing.specs.declared.Listing.{Listing}

-- what a call has written
abbrev pub written : Outcome → List ℕ
written o = take o.listed.written o.output

-- `Calls s stage input left t after texts`: calls of `list` from s, lent the stage. Each is lent any first part of what is left of the
-- input, and an output of any contents with room for a line. They leave t and the stage `after` with `left` to come, and texts is what
-- each has written.
pub data Calls : Listing → List ℕ → List ℕ → List ℕ → Listing → List ℕ → List (List ℕ) → Type 0 where
  stop : {s : Listing} {stage input : List ℕ} → Calls s stage input input s stage []
  call : {s t : Listing} {stage left after : List ℕ} {texts : List (List ℕ)} (piece rest output : List ℕ)
      → line_room ≤ length output
      → Calls (list_of s piece stage output).listed.listing (list_of s piece stage output).stage (drop (list_of s piece stage output).listed.taken piece ++ rest) left t after texts
      → Calls s stage (piece ++ rest) left t after (written (list_of s piece stage output) ∷ texts)

-- Nothing more is read: all was taken, the capture was refused, or reading ended at 2^62 bytes.
pub data Ended (t : Listing) (left : List ℕ) : Type 0 where
  all_taken : left ≡ [] → Ended t left
  refused : passes (latched t.parser) ≡ false → Ended t left
  full : read_of t ≡ limit → Ended t left
