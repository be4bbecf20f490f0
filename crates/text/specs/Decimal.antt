-- Numbers in decimal, and text put into a buffer at a place.
use Rattle.std.specs.Prelude.{ℕ, zero, suc, ◌+◌, ◌/◌, ◌%◌, ◌≤◌, ◌≡◌, List, [], ◌∷◌, ◌++◌, length, ltb}
use Rattle.std.specs.List.{flat_map}
use Rattle.wire.specs.Refusals.{pick}
use Rattle.wire.specs.Bytes.{overlay}

-- the decimal digits of n, with no leading zero, if there are at most as many as the first argument says
unfoldable pub decimal_in : ℕ → ℕ → List ℕ
decimal_in zero n = []
decimal_in (suc k) n = pick (ltb n 10) ((48 + n) ∷ []) (decimal_in k (n / 10) ++ ((48 + n % 10) ∷ []))

-- of a number below 2^64, which has at most 20
unfoldable pub decimal : ℕ → List ℕ
decimal n = decimal_in 20 n

-- a number and the byte that ends it
unfoldable pub number : ℕ → ℕ → List ℕ
number n end = decimal n ++ (end ∷ [])

-- each number and a space after it
abbrev pub spaced : List ℕ → List ℕ
spaced ns = flat_map (λ n. number n 32) ns

-- text was put into old at a place, and nothing else was changed; r is the place after it
pub record Puts (old : List ℕ) (at : ℕ) (text : List ℕ) (r : ℕ) (new : List ℕ) : Type 0 where
  pub next : r ≡ at + length text
  pub within : r ≤ length old
  pub bytes : new ≡ overlay old at text

-- the next place, with the buffer
pub record Placed : Type 0 where
  pub next : ℕ
  pub output : List ℕ

abbrev pub placed : ℕ → List ℕ → Placed
placed next output = record { next = next; output = output }
