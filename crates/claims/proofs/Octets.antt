-- Parts of lists of bytes are lists of bytes, and the number that bytes make is below 256 to their count. Assumes nothing.
use Prim.Native.Nat.{ℕ, zero, suc, ◌+◌, ◌*◌, ◌^◌, ◌<◌}
use mathlib.Core.Path.{◌≡◌}
use mathlib.Core.List.{List, [], ◌∷◌, ◌++◌}
use native.Mathlib.Omega.{arith}
use lib.ListN.{length, take, drop, replicate}
use native.Mathlib.Nat.{pow-suc}
use Rattle.wire.specs.Bytes.{from_le, overlay, Octets, end, octet}

pub octets_take : (n : ℕ) {l : List ℕ} → Octets l → Octets (take n l)
octets_take zero o = end
octets_take (suc n) end = end
octets_take (suc n) (octet h o) = octet h (octets_take n o)

octets_drop : (n : ℕ) {l : List ℕ} → Octets l → Octets (drop n l)
octets_drop zero o = o
octets_drop (suc n) end = end
octets_drop (suc n) (octet h o) = octets_drop n o

pub octets_append : {l k : List ℕ} → Octets l → Octets k → Octets (l ++ k)
octets_append end q = q
octets_append (octet h o) q = octet h (octets_append o q)

-- bytes laid over bytes
pub octets_overlay : (d : List ℕ) (at n : ℕ) (s : List ℕ) → Octets d → Octets s → Octets (overlay d at (take n s))
unfolding overlay
octets_overlay d at n s od os = octets_append (octets_take at od) (octets_append (octets_take n os) (octets_drop (at + length (take n s)) od))

pub octets_zeros : (n : ℕ) → Octets (replicate n 0)
octets_zeros zero = end
octets_zeros (suc n) = octet {x = 0} (omega arith) (octets_zeros n)

-- the parts of bytes joined
pub octets_front : (a c : List ℕ) → Octets (a ++ c) → Octets a
octets_front [] c o = end
octets_front (x ∷ a) c (octet h o) = octet h (octets_front a c o)

pub octets_back : (a c : List ℕ) → Octets (a ++ c) → Octets c
octets_back [] c o = o
octets_back (x ∷ a) c (octet h o) = octets_back a c o

pub from_low : {l : List ℕ} → Octets l → from_le l < 256 ^ length l
unfolding from_le
from_low end = omega arith
from_low (octet {x = x} {xs = l} h o) =
    let k : from_le l < 256 ^ length l = from_low o in
    let p : 256 ^ suc (length l) ≡ 256 ^ length l * 256 = pow-suc 256 (length l) in
    omega arith
