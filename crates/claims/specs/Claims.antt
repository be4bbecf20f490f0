-- What is claimed of the listing over whole captures (01, "The link listing"), gathered in `ListingClaims`.
use Rattle.parser.specs.Push.{latched}
use Rattle.std.specs.Prelude.{ℕ, ◌+◌, ◌≤◌, ◌<◌, ◌≡◌, true, List, [], ◌∷◌, ◌++◌, length, take}
use Rattle.wire.specs.Bytes.{Octets}
use Rattle.wire.specs.Refusals.{passes}
use Rattle.outer.specs.Outer as outer
use Rattle.outer.specs.Outer.{max_payload}
use Rattle.text.specs.Lines.{line_room}
use Rattle.listing.specs.Reach.{limit, refused_bytes}
use Rattle.listing.specs.Listing.{listing}
use Rattle.listing.specs.Steps.{fresh, read_of, sound_listing, list_of, names_of, end_of}
use Rattle.listing.specs.Calls.{Calls, Ended}
use Rattle.listing.specs.declared.Listing.{Listing}
use Rattle.claims.specs.Example.{capture, printed}

-- texts one after the other
unfoldable pub joined : List (List ℕ) → List ℕ
joined [] = []
joined (x ∷ xs) = x ++ joined xs

-- what a call that writes one line has written
abbrev pub text : outer.Outcome → List ℕ
text o = take o.answer.next o.output

-- However the input is cut into pieces, and whatever outputs with room for a line and whatever stage are lent: the line of names, what
-- the calls of `list` write until nothing more is read, and the last line are together the listing of the input.
abbrev pub OutputIsListing : Type 0
OutputIsListing =
    (input left stage after front back : List ℕ) (t : Listing) (texts : List (List ℕ))
    → max_payload ≤ length stage → line_room ≤ length front → line_room ≤ length back → Calls fresh stage input left t after texts → Ended t left
    → text (names_of front) ++ (joined texts ++ text (end_of t back)) ≡ listing input

-- No listing that calls leave is unsound.
abbrev pub NeverUnsound : Type 0
NeverUnsound =
    (input left stage after : List ℕ) (t : Listing) (texts : List (List ℕ))
    → max_payload ≤ length stage → Calls fresh stage input left t after texts → sound_listing t ≡ true

-- The bytes of a value of the type `Listing`: a header has 44, and each field of a refusal 16.
pub record Sized (s : Listing) : Type 0 where
  pub header : length s.parser.header ≡ 44
  pub octets : Octets s.parser.header
  pub expected : length (latched s.parser).expected ≡ 16
  pub actual : length (latched s.parser).actual ≡ 16

-- A capture, and calls to the end of reading that leave s. The capture has as many bytes as s has read.
pub record Reached (s : Listing) (stage : List ℕ) : Type 0 where
  pub input : List ℕ
  pub left : List ℕ
  pub after : List ℕ
  pub texts : List (List ℕ)
  pub octets : Octets input
  pub size : length input ≡ read_of s + refused_bytes (latched s.parser).number
  pub calls : Calls fresh stage input left s after texts
  pub ended : Ended s left

-- Every sound listing is one that calls leave. With `NeverUnsound`: exactly the listings that no calls leave get 23.
abbrev pub SoundIsReached : Type 0
SoundIsReached = (s : Listing) (stage : List ℕ) → max_payload ≤ length stage → Sized s → sound_listing s ≡ true → Reached s stage

-- A call that is lent bytes before reading ends takes one or more, or answers a refusal; so the calls come to an end.
abbrev pub TakesSome : Type 0
TakesSome =
    (s : Listing) (piece stage output : List ℕ) → 0 < length piece → read_of s < limit → passes (list_of s piece stage output).listed.refusal ≡ true
    → 0 < (list_of s piece stage output).listed.taken

-- Bytes from 2^62 on change nothing.
abbrev pub ReadingEnds : Type 0
ReadingEnds = (input : List ℕ) → listing (take limit input) ≡ listing input

pub record ListingClaims : Type 0 where
  -- 01: "A program reads from standard input a capture .. It prints a line of names, then a line of values for each record .. The last line"
  pub output : OutputIsListing
  -- 01, What stops each operation: "23, value unsound"
  pub sound : NeverUnsound
  pub reached : SoundIsReached
  pub some : TakesSome
  -- 01: "Reading ends at 2^62 bytes as at the end of the input"
  pub ends : ReadingEnds
  -- 01: "For a RESET .. it is"
  pub example : listing capture ≡ printed
