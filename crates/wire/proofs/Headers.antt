-- A header's 44 bytes: as the code builds them, and that they are the encoding of the fields read from them. Assumes nothing.
use Prim.Native.Nat.{ℕ, ◌+◌, ◌≤◌}
use mathlib.Core.Path.{◌≡◌, refl, sym, ap, subst, ◌∙◌}
use mathlib.Core.List.{List, [], ◌∷◌, ◌++◌, append_assoc, append-nil}
use native.Mathlib.Omega.{arith}
use lib.ListN.{length, set, replicate, take, drop, length-append, length-set, length-take, length-drop}
use Rattle.std.proofs.lemmas.List.{drop-replicate}
use lib.Dec.{lit<}
use Rattle.wire.proofs.Overlays.{overlay_next, overlay_all}
use Rattle.wire.specs.Bytes.{overlay, from_le, to_le, bytes_at, Octets, end, octet}
use Rattle.wire.specs.Header.{magic, magic_of, version_of, type_of, flags_of, instance_of, epoch_of, sequence_of, length_of, header_bytes}
use Rattle.std.specs.Int.{w32, from_le_bytes}
use Rattle.wire.proofs.NumberLaws.{at_whole, at_octets, length_at, length_to, to_from, read_4, written}

-- ---- a header as the code writes it: each part laid behind those that stand there
pub laid_behind : (d a b : List ℕ) (n : ℕ) → n ≡ length a → n + length b ≤ length d → overlay (overlay d 0 a) n b ≡ overlay d 0 (a ++ b)
laid_behind d a b n e h = let q : n ≡ 0 + length a = omega arith in rw q (overlay_next d 0 a b (simp length-append (omega arith)))

pub ruleset writing = (laid_behind, overlay_all, written, length-append, append_assoc)

-- its length
pub header_length : (t : ℕ) (i : List ℕ) (e s n : ℕ) → length i ≡ 16 → length (header_bytes t i e s n) ≡ 44
unfolding header_bytes
header_length t i e s n l = simp length-append (omega (arith, l, length_to 2 1, length_to 8 e, length_to 8 s, length_to 4 n))

-- the number of the magic, as the library reads it
pub magic_read : from_le_bytes w32 magic ≡ from_le magic
magic_read = sym (read_4 magic refl)

-- ---- a header whose magic, version and flags are right is the encoding of its fields
magic_octets : Octets magic
magic_octets = octet (lit< tt) (octet (lit< tt) (octet (lit< tt) (octet (lit< tt) end)))

number_back : (h : List ℕ) → Octets h → (i n : ℕ) → to_le n (from_le (bytes_at i n h)) ≡ bytes_at i n h
number_back h o i n = subst (λ (k : ℕ). to_le k (from_le (bytes_at i n h)) ≡ bytes_at i n h) (length_at i n h) (to_from (at_octets i n o))

pub header_back : (h : List ℕ) → length h ≡ 44 → Octets h → magic_of h ≡ from_le magic → version_of h ≡ 1 → flags_of h ≡ 0
    → header_bytes (type_of h) (instance_of h) (epoch_of h) (sequence_of h) (length_of h) ≡ h
unfolding header_bytes magic_of version_of type_of flags_of instance_of epoch_of sequence_of length_of
header_back h size o em ev ef =
    let m : magic ≡ bytes_at 0 4 h = sym (to_from magic_octets) ∙ ap (to_le 4) (sym em) ∙ number_back h o 0 4 in
    let v : to_le 2 1 ≡ bytes_at 4 2 h = ap (to_le 2) (sym ev) ∙ number_back h o 4 2 in
    let e = number_back h o 24 8 in
    let s = number_back h o 32 8 in
    let n = number_back h o 40 4 in
    (λ j. m j ++ (v j ++ (bytes_at 6 1 h ++ (sym ef j ∷ (bytes_at 8 16 h ++ (e j ++ (s j ++ n j)))))))
    ∙ at_whole 44 h size
