-- What handing a piece to the listing leaves.
use Rattle.std.specs.Prelude.{ℕ, ◌≡◌, List, []}
use Rattle.listing.specs.Calls.{Calls}
use Rattle.listing.specs.declared.Listing.{Listing}
use Rattle.std.specs.declared.ops.ControlFlow.{ControlFlow}
use Rattle.std.specs.declared.ops.ControlFlow.TheVariants.{Continue, Break}

-- the listing after a piece, whether there is more to read or not
abbrev pub fed : ControlFlow Listing Listing → Listing
fed (Continue s) = s
fed (Break s) = s

-- the listing and the stage are those that calls of `list` leave, which were lent the piece's bytes in order; where there is more to
-- read, all of them
pub record Feeds (s : Listing) (piece stage : List ℕ) (r : ControlFlow Listing Listing) (after : List ℕ) : Type 0 where
  pub left : List ℕ
  pub texts : List (List ℕ)
  pub calls : Calls s stage piece left (fed r) after texts
  pub all : (t : Listing) → r ≡ Continue t → left ≡ []
