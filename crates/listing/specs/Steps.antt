-- The listing made a piece at a time: what each call answers, and what it leaves in the stage and the output.
use Rattle.std.specs.Prelude.{ℕ, zero, suc, ◌+◌, ◌-◌, ◌≤◌, ◌≡◌, Bool, true, ◌&&◌, List, [], ◌∷◌, length, take, drop, leb, ltb, Result}
use Rattle.wire.specs.Bytes.{overlay}
use Rattle.wire.specs.Refusals.{pick, refusal, none, first, passes, verdict}
use Rattle.outer.specs.Outer as outer
use Rattle.outer.specs.Outer.{max_payload, write}
use Rattle.wire.specs.declared.Refusal.{Refusal}
use Rattle.wire.specs.declared.errors.Error.{Error}
use Rattle.record.specs.Types.{code_of}
use Rattle.record.specs.declared.Record.{Record}
use Rattle.parser.specs.Push as parser
use Rattle.parser.specs.Push.{Pushed, latched, sound_parser, push_of, buffered_of, payload_at}
use Rattle.parser.specs.declared.RecordParser.{RecordParser}
use Rattle.listing.specs.Reach.{limit, adds_up, refused_bytes}
use Rattle.listing.specs.Settled.{settled, is_settled}
use Rattle.text.specs.Lines.{line_room, names, line, ending}
use Rattle.listing.specs.Listing.{open_after}
use Rattle.listing.specs.declared.Listing.{Listing}
use Rattle.listing.specs.declared.Listed as code

abbrev pub listing_of : RecordParser → ℕ → ℕ → Listing
listing_of p offset o = record { parser = p; offset = offset; «open» = o }

-- a listing at the start of a capture
abbrev pub fresh : Listing
fresh = listing_of parser.fresh 0 0

-- how many bytes were read: up to the record under way, and those of it
abbrev pub read_of : Listing → ℕ
read_of s = s.offset + buffered_of s.parser

-- ---- soundness
-- a sound parser of which no more is kept, at most 2^62 bytes read, and an offset and open that whole records leave: exactly what calls
-- can leave (`NeverUnsound` and `SoundIsReached` of the claims)
unfoldable pub sound_listing : Listing → Bool
sound_listing s =
    sound_parser s.parser
    && (is_settled s.parser && (leb (read_of s + refused_bytes (latched s.parser).number) limit && adds_up s.offset s.«open»))

-- ---- what a call answers
-- what is refused, the bytes taken of the piece, the bytes written at the start of the output, and the listing after it
pub record Listed : Type 0 where
  pub refusal : Refusal
  pub taken : ℕ
  pub written : ℕ
  pub listing : Listing

abbrev pub listed : Refusal → ℕ → ℕ → Listing → Listed
listed r taken written s = record { refusal = r; taken = taken; written = written; listing = s }

-- what the code has done, with what it answers: an error, or none
abbrev pub told : Result (Unit {0}) Error → code.Listed → Listed
told answer u = listed (verdict answer) u.taken u.written u.listing

abbrev pub answered : code.Listed → Listed
answered u = told u.answer u

-- with stage and output as it leaves them
pub record Outcome : Type 0 where
  pub listed : Listed
  pub stage : List ℕ
  pub output : List ℕ

abbrev pub outcome : Listed → List ℕ → List ℕ → Outcome
outcome r stage output = record { listed = r; stage = stage; output = output }

-- ---- one push
-- open after a record
abbrev pub opens : Listing → Record → List ℕ → ℕ
opens s r payload = open_after s.«open» (code_of r.record_type) r.length payload

-- a record's line
unfoldable pub line_of : Listing → Record → List ℕ → List ℕ
line_of s r payload = line s.offset (code_of r.record_type) r.epoch.0 r.sequence.0 r.length (opens s r payload)

-- the answer for a complete record whose line stands at a position
unfoldable pub record_listed : Listing → Pushed → List ℕ → ℕ → Listed
record_listed s a payload at =
    listed none a.consumed (at + length (line_of s a.«record» payload))
    (listing_of (settled a.parser) (s.offset + (44 + a.«record».length)) (opens s a.«record» payload))

-- a push answers: the record's line, or no line
unfoldable pub pushed : Listing → List ℕ → List ℕ → ℕ → parser.Outcome → Outcome
pushed s piece output at o =
    let a : Pushed = o.pushed in
    let payload : List ℕ = payload_at a.place a.«record».length piece o.stage in
    pick a.complete
    (outcome (record_listed s a payload at) o.stage (overlay output at (line_of s a.«record» payload)))
    (outcome (listed a.refusal a.consumed at (listing_of (settled a.parser) s.offset s.«open»)) o.stage output)

abbrev pub step_of : Listing → List ℕ → List ℕ → List ℕ → ℕ → Outcome
step_of s piece stage output at = pushed s piece output at (push_of s.parser piece stage)

-- the same with n bytes of the piece taken before
abbrev pub further : ℕ → Outcome → Outcome
further n o =
    outcome (listed o.listed.refusal (n + o.listed.taken) o.listed.written o.listed.listing) o.stage o.output

-- the listing after a complete record, with a new parser
abbrev pub after_record : Listing → Record → List ℕ → Listing
after_record s r payload = listing_of parser.fresh (s.offset + (44 + r.length)) (opens s r payload)

-- What a push of what is left of a piece needs, where so many bytes of it are taken: a sound listing, no byte behind reading's limit, and
-- room for a line at the place.
pub record Ready (s : Listing) (piece output : List ℕ) (taken at : ℕ) : Type 0 where
  pub sound : sound_listing s ≡ true
  pub within : taken ≤ length piece
  pub read : read_of s + length piece ≤ limit + taken
  pub room : at + line_room ≤ length output

-- ---- a piece
-- record by record, while bytes are left, the output has room for a line and nothing is refused; at most n pushes
unfoldable pub lines : ℕ → Listing → List ℕ → List ℕ → List ℕ → ℕ → ℕ → Outcome
lines zero s piece stage output taken at = outcome (listed none taken at s) stage output
lines (suc n) s piece stage output taken at =
    let o : Outcome = step_of s (drop taken piece) stage output at in
    let r : Listed = o.listed in
    pick (ltb taken (length piece) && leb (at + line_room) (length output))
    (pick (passes r.refusal)
    (lines n r.listing piece o.stage o.output (taken + r.taken) r.written)
    (outcome (listed r.refusal (taken + r.taken) r.written r.listing) o.stage o.output))
    (outcome (listed none taken at s) stage output)

abbrev pub sound_row : Listing → (Bool × Refusal)
sound_row s = (sound_listing s, refusal 23 0 0 0)

abbrev pub room_row : List ℕ → (Bool × Refusal)
room_row output = (leb line_room (length output), refusal 22 0 0 0)

-- 23 unsound, 21 stage under 65,536 bytes, 22 output too short for a line, the capture's own refusal
abbrev pub list_rows : Listing → List ℕ → List ℕ → List (Bool × Refusal)
list_rows s stage output =
    sound_row s ∷ (leb max_payload (length stage), refusal 21 0 0 0) ∷ room_row output ∷ (passes (latched s.parser), latched s.parser) ∷ []

-- the bytes of a piece that are read: reading ends at 2^62
abbrev pub readable : Listing → List ℕ → List ℕ
readable s piece = take (limit - read_of s) piece

unfoldable pub list_of : Listing → List ℕ → List ℕ → List ℕ → Outcome
list_of s piece stage output =
    pick (passes (first (list_rows s stage output)))
    (lines (length (readable s piece)) s (readable s piece) stage output 0 0)
    (outcome (listed (first (list_rows s stage output)) 0 0 s) stage output)

-- ---- the line of names and the last line
-- 22, or the names
abbrev pub names_of : List ℕ → outer.Outcome
names_of output = write (first (room_row output ∷ [])) names output 0

-- the unfinished record's bytes are those that the parser holds: none after a refusal
unfoldable pub end_line : Listing → List ℕ
end_line s = ending s.offset (latched s.parser).number (buffered_of s.parser)

-- 23, 22, or the last line
abbrev pub end_of : Listing → List ℕ → outer.Outcome
end_of s output = write (first (sound_row s ∷ room_row output ∷ [])) (end_line s) output 0
