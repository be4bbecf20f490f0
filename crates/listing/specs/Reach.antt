-- Which offset and open whole records can leave. A record has 44 bytes and its payload: none (types 1, 3, 6, 7), 32 bytes (2), 4 bytes
-- (4, 8, 9), or 1 to 65,536 (5, DATA).
use Rattle.std.specs.Prelude.{ℕ, ◌+◌, ◌-◌, ◌*◌, ◌/◌, Bool, ◌&&◌, ◌||◌, eqb, leb}
use Rattle.wire.specs.Refusals.{pick}
use Rattle.outer.specs.Outer.{max_payload}

-- reading ends at 2^62 bytes
abbrev pub limit : ℕ
limit = 4611686018427387904

-- the fewest DATA records that leave open, the bytes they take, and the bytes that they could carry beyond open
abbrev pub data_needed : ℕ → ℕ
data_needed o = (o + 65535) / max_payload

abbrev pub data_bytes : ℕ → ℕ
data_bytes o = o + 44 * data_needed o

abbrev pub spare : ℕ → ℕ
spare o = max_payload * data_needed o - o

-- Bytes beyond those: none; one record of 44 or of 76 bytes; one of 48, an ACK, or a CREDIT that took off what the DATA carried beyond
-- open; or, from 88 on, any number: records of 44 bytes or more, and a RESET after them.
unfoldable pub others : ℕ → ℕ → Bool
others room rest = eqb rest 0 || (eqb rest 44 || (eqb rest 76 || (leb 88 rest || (leb 48 rest && leb rest (48 + room)))))

-- some list of whole records has this many bytes and leaves this open
unfoldable pub adds_up : ℕ → ℕ → Bool
adds_up offset o = leb (data_bytes o) offset && others (spare o) (offset - data_bytes o)

-- the bytes of a refused record that were read: its header (1 to 6), or its header and its value (7 to 9)
unfoldable pub refused_bytes : ℕ → ℕ
refused_bytes number = pick (eqb number 0) 0 (pick (leb number 6) 44 48)

-- some capture leaves these counts: at most 2^62 bytes were read, with those of a refused record, and its whole records add up
abbrev pub reached : ℕ → ℕ → ℕ → ℕ → Bool
reached offset o held number = leb (offset + held + refused_bytes number) limit && adds_up offset o
