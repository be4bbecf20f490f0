-- The 44 bytes of a header (01, "Record"): where each field stands, and the bytes that given fields make.
use Rattle.std.specs.Prelude.{ℕ, List, [], ◌∷◌, ◌++◌, get_or}
use Rattle.wire.specs.Bytes.{from_le, to_le, bytes_at}

-- "NVXS"
abbrev pub magic : List ℕ
magic = 0x4E ∷ 0x56 ∷ 0x58 ∷ 0x53 ∷ []

unfoldable pub magic_of : List ℕ → ℕ
magic_of h = from_le (bytes_at 0 4 h)

unfoldable pub version_of : List ℕ → ℕ
version_of h = from_le (bytes_at 4 2 h)

unfoldable pub type_of : List ℕ → ℕ
type_of h = get_or h 6 0

unfoldable pub flags_of : List ℕ → ℕ
flags_of h = get_or h 7 0

unfoldable pub instance_of : List ℕ → List ℕ
instance_of h = bytes_at 8 16 h

unfoldable pub epoch_of : List ℕ → ℕ
epoch_of h = from_le (bytes_at 24 8 h)

unfoldable pub sequence_of : List ℕ → ℕ
sequence_of h = from_le (bytes_at 32 8 h)

unfoldable pub length_of : List ℕ → ℕ
length_of h = from_le (bytes_at 40 4 h)

-- magic, version 1, type, flags 0, instance, epoch, sequence, payload length
unfoldable pub header_bytes : ℕ → List ℕ → ℕ → ℕ → ℕ → List ℕ
header_bytes type instance epoch sequence size =
    magic ++ (to_le 2 1 ++ (type ∷ 0 ∷ (instance ++ (to_le 8 epoch ++ (to_le 8 sequence ++ to_le 4 size)))))
