-- Numbers of any width: bytes read one by one, what the library's readers and writers of numbers say, and
-- that reading and writing undo one another. Each law is stated once, over the width. Assumes nothing.
use Prim.Native.Nat.{ℕ, zero, suc, ◌+◌, ◌*◌, ◌/◌, ◌%◌, ◌^◌, ◌≤◌, ◌<◌}
use mathlib.Core.Path.{◌≡◌, refl, sym, ap, ◌∙◌}
use mathlib.Core.List.{List, [], ◌∷◌, ◌++◌}
use native.Mathlib.Nat.{mul_assoc, pow-succ', pow-suc}
use Rattle.std.proofs.Math.Nat.{div-div-eq-div-mul}
use native.Mathlib.Numerals.{add-one}
use native.Mathlib.Omega.{arith}
use lib.ListN.{length, get_or, take, drop, length-take}
use lib.Seq.{drop-cons, take_all, take-suc}
use Rattle.std.specs.Int.{w16, w32, w64, from_le_bytes, sum_through, byte_worth, byte_at, bytes_low_first}
use Rattle.std.specs.Prelude.{slice_index}
use Rattle.wire.specs.Bytes.{from_le, to_le, bytes_at, Octets, end, octet}

pub at_part : (n i : ℕ) (l : List ℕ) → i + n ≤ length l → bytes_at i n l ≡ take n (drop i l)
at_part zero i l h = refl
at_part (suc n) i l h =
    let k : i < length l = omega arith in
    rw (drop-cons l i 0 k) (ap (λ (t : List ℕ). get_or l i 0 ∷ t) (at_part n (i + 1) l (omega arith) ∙ rw add-one))

pub at_whole : (n : ℕ) (l : List ℕ) → length l ≡ n → bytes_at 0 n l ≡ l
at_whole n l e = at_part n 0 l (omega arith) ∙ take_all n l (omega arith)

pub length_at : (i n : ℕ) (l : List ℕ) → length (bytes_at i n l) ≡ n
length_at i zero l = refl
length_at i (suc n) l = ap suc (length_at (i + 1) n l)

-- bytes read from bytes are bytes
pub octet_at : {l : List ℕ} → Octets l → (i : ℕ) → get_or l i 0 < 256
octet_at end i = omega arith
octet_at (octet h o) zero = h
octet_at (octet h o) (suc i) = octet_at o i

pub at_octets : (i n : ℕ) {l : List ℕ} → Octets l → Octets (bytes_at i n l)
at_octets i zero o = end
at_octets i (suc n) o = octet (octet_at o i) (at_octets (i + 1) n o)

-- a number is its lower bytes and its higher bytes
pub from_append : (xs ys : List ℕ) → from_le (xs ++ ys) ≡ from_le xs + 256 ^ length xs * from_le ys
unfolding from_le
from_append [] ys = omega arith
from_append (x ∷ xs) ys =
    let p : 256 ^ suc (length xs) * from_le ys ≡ 256 * (256 ^ length xs * from_le ys) = rw pow-succ' (mul_assoc 256 (256 ^ length xs) (from_le ys)) in
    omega (arith, from_append xs ys, p)

-- ---- what the library's `from_le_bytes` and `to_le_bytes` say is `from_le` and `to_le`, at each width
low_bytes : (bs : List ℕ) (n : ℕ) → n < length bs → sum_through (λ (i : ℕ). byte_worth i (slice_index bs i)) n ≡ from_le (take (suc n) bs)
unfolding from_le
low_bytes [] zero h = absurd (omega arith)
low_bytes (x ∷ bs) zero h = omega arith
low_bytes bs (suc n) h =
    let w : length (take (suc n) bs) ≡ suc n = simp length-take (omega arith) in
    let b = get_or bs (suc n) 0 in
    let t : take (suc (suc n)) bs ≡ take (suc n) bs ++ (b ∷ []) = take-suc bs (suc n) 0 h in
    rw (low_bytes bs n (omega arith), t, from_append (take (suc n) bs) (b ∷ []), w) (omega arith)

all_bytes : (bs : List ℕ) (n : ℕ) → length bs ≡ suc n → from_le bs ≡ sum_through (λ (i : ℕ). byte_worth i (slice_index bs i)) n
all_bytes bs n e = ap from_le (sym (take_all (suc n) bs (omega arith))) ∙ sym (low_bytes bs n (omega arith))

pub read_2 : (bs : List ℕ) → length bs ≡ 2 → from_le bs ≡ from_le_bytes w16 bs
read_2 bs e = all_bytes bs 1 e

pub read_4 : (bs : List ℕ) → length bs ≡ 4 → from_le bs ≡ from_le_bytes w32 bs
read_4 bs e = all_bytes bs 3 e

pub read_8 : (bs : List ℕ) → length bs ≡ 8 → from_le bs ≡ from_le_bytes w64 bs
read_8 bs e = all_bytes bs 7 e

pub ruleset reading = (at_part, read_2, read_4, read_8)

low_byte : (i v : ℕ) → v / 256 ^ i % 256 ≡ byte_at i v
low_byte zero v = omega arith
low_byte (suc i) v = refl

bytes_from : (k i v : ℕ) → to_le k (v / 256 ^ i) ≡ bytes_low_first i k v
unfolding to_le
bytes_from zero i v = refl
bytes_from (suc k) i v =
    let next : v / 256 ^ i / 256 ≡ v / 256 ^ suc i = div-div-eq-div-mul v (256 ^ i) 256 ∙ ap (λ (d : ℕ). v / d) (sym (pow-suc 256 i)) in
    rw (next, low_byte i v) (ap (λ (l : List ℕ). byte_at i v ∷ l) (bytes_from k (suc i) v))

pub written : (k v : ℕ) → to_le k v ≡ bytes_low_first 0 k v
written k v = let e : v / 256 ^ 0 ≡ v = omega arith in ap (to_le k) (sym e) ∙ bytes_from k 0 v

-- writing undoes reading
pub to_from : {l : List ℕ} → Octets l → to_le (length l) (from_le l) ≡ l
unfolding from_le to_le
to_from end = refl
to_from (octet {x = x} {xs = xs} h o) =
    let v = from_le xs in
    let e : (x + 256 * v) % 256 ≡ x = omega arith in
    let f : (x + 256 * v) / 256 ≡ v = omega arith in
    rw (e, f, to_from o)

-- reading undoes writing
pub from_to : (n v : ℕ) → v < 256 ^ n → from_le (to_le n v) ≡ v
unfolding from_le to_le
from_to zero v h = omega arith
from_to (suc n) v h =
    let k : v < 256 ^ n * 256 = rw pow-suc at h in
    let q : v / 256 < 256 ^ n = omega arith in
    omega (arith, from_to n (v / 256) q)

pub length_to : (n v : ℕ) → length (to_le n v) ≡ n
unfolding to_le
length_to zero v = refl
length_to (suc n) v = ap suc (length_to n (v / 256))
