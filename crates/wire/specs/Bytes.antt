-- Little-endian numbers, parts of a list, and a list with another laid over a part of it.
use Rattle.std.specs.Prelude.{ℕ, zero, suc, ◌+◌, ◌*◌, ◌/◌, ◌%◌, ◌<◌, List, [], ◌∷◌, ◌++◌, length, get_or, take, drop, leb}
use Rattle.wire.specs.Refusals.{pick}

-- the number that a list of bytes holds, the lowest first
unfoldable pub from_le : List ℕ → ℕ
from_le [] = 0
from_le (x ∷ xs) = x + 256 * from_le xs

-- the lowest `width` bytes of a number, the lowest first
unfoldable pub to_le : ℕ → ℕ → List ℕ
to_le zero v = []
to_le (suc width) v = v % 256 ∷ to_le width (v / 256)

-- the n bytes from index i on, 0 past the end
abbrev pub bytes_at : ℕ → ℕ → List ℕ → List ℕ
bytes_at i zero l = []
bytes_at i (suc n) l = get_or l i 0 ∷ bytes_at (i + 1) n l

-- d with s in the place of what stood from index i on
unfoldable pub overlay : List ℕ → ℕ → List ℕ → List ℕ
overlay d i s = take i d ++ (s ++ drop (i + length s) d)

-- every number of the list is a byte
pub data Octets : List ℕ → Type 0 where
  end : Octets []
  octet : {x : ℕ} {xs : List ℕ} → x < 256 → Octets xs → Octets (x ∷ xs)

-- s laid over d where it fits, else d unchanged: what `copy_at` does
unfoldable pub copied : List ℕ → ℕ → List ℕ → List ℕ
copied d i s = pick (leb (i + length s) (length d)) (overlay d i s) d
