-- What is claimed of reading and writing records, over the rules of the parser and the encoder: the words that the claims need, then
-- the claims, gathered in `ReadingClaims`.
use Rattle.std.specs.Prelude.{ℕ, zero, suc, ◌+◌, ◌^◌, ◌≤◌, ◌<◌, ◌≡◌, true, false, List, [], ◌∷◌, ◌++◌, length, take, drop, eqb}
use Rattle.wire.specs.Bytes.{overlay, Octets}
use Rattle.wire.specs.Refusals.{pick, none, first, passes}
use Rattle.outer.specs.Outer as Outer
use Rattle.outer.specs.Outer.{max_payload}
use Rattle.wire.specs.declared.Refusal.{Refusal}
use Rattle.record.specs.Types.{code_of}
use Rattle.record.specs.Record.{record_rows, record_bytes, encode_record}
use Rattle.record.specs.declared.types.RecordType.{RecordType}
use Rattle.record.specs.declared.Record.{Record}
use Rattle.parser.specs.Push.{latched}
use Rattle.parser.specs.Push.{sound_parser, Push, stopped, push, push_stage, Outcome, push_of, fresh, held_in, payload_at, needed_of, buffered_of}
use Rattle.parser.specs.declared.RecordParser.{RecordParser}
use Rattle.parser.specs.Push.{Pushed}

-- ---- parsers and records
-- the bytes that a parser holds: of the header, and `held`, of the payload
abbrev pub held_bytes : RecordParser → List ℕ → List ℕ
held_bytes p held = take p.header_len p.header ++ held

-- a parser that can go on: sound, with no latched error, its header 44 bytes long, and as many payload bytes held as it counts
pub record Ready (p : RecordParser) (held : List ℕ) : Type 0 where
  pub sound : sound_parser p ≡ true
  pub clear : passes (latched p) ≡ true
  pub size : length p.header ≡ 44
  pub count : length held ≡ p.payload_len

-- a record of given fields
abbrev pub record_from : RecordType → List ℕ → ℕ → ℕ → ℕ → Record
record_from t instance epoch sequence size =
    record { record_type = t; instance_id = instance; epoch = record { 0 = epoch }; sequence = record { 0 = sequence }; length = size }

-- the bytes that the encoder makes of a record and its payload
abbrev pub encoded : Record → List ℕ → List ℕ
encoded r payload = record_bytes (code_of r.record_type) r.instance_id r.epoch.0 r.sequence.0 payload

-- the same, of several records one after the other
unfoldable pub encodings : List (Record × List ℕ) → List ℕ
encodings [] = []
encodings (r ∷ rs) = encoded r.0 r.1 ++ encodings rs

-- pieces one after the other
unfoldable pub joined : List (List ℕ) → List ℕ
joined [] = []
joined (x ∷ xs) = x ++ joined xs

-- the payload that an answer names
abbrev pub payload_of : Outcome → List ℕ → List ℕ
payload_of o piece = payload_at o.pushed.place o.pushed.«record».length piece o.stage

-- ---- one push
-- what a push that completes nothing does: the bytes held are those held before and those taken, and the whole piece is taken
pub record Waits (p : RecordParser) (held piece : List ℕ) (u : Push) : Type 0 where
  pub joins : held_bytes u.answer.parser u.held ≡ held_bytes p held ++ take u.answer.consumed piece
  pub taken : u.answer.consumed ≡ length piece
  pub ready : Ready u.answer.parser u.held
  pub octets : Octets u.answer.parser.header

-- what a push that completes a record does: the bytes held before and those taken are the record's encoding, and nothing is held
pub record Completes (p : RecordParser) (held piece : List ℕ) (u : Push) : Type 0 where
  pub joins : held_bytes p held ++ take u.answer.consumed piece ≡ encoded u.answer.«record» u.payload
  pub size : u.answer.«record».length ≡ length u.payload
  pub taken : u.answer.consumed ≤ length piece
  pub refusal : u.answer.refusal ≡ none
  pub empty : held_bytes u.answer.parser u.held ≡ []
  pub ready : Ready u.answer.parser u.held
  pub octets : Octets u.answer.parser.header

-- what a push that refuses does: one of 1 to 9 is latched, nothing is taken and nothing held
pub record Refuses (u : Push) : Type 0 where
  pub number : u.answer.refusal.number ≤ 9
  pub taken : u.answer.consumed ≡ 0
  pub error : latched u.answer.parser ≡ u.answer.refusal
  pub empty : held_bytes u.answer.parser u.held ≡ []
  pub sound : sound_parser u.answer.parser ≡ true

-- the three together
pub record Streams (p : RecordParser) (held piece : List ℕ) (u : Push) : Type 0 where
  pub waits : passes u.answer.refusal ≡ true → u.answer.complete ≡ false → Waits p held piece u
  pub completes : u.answer.complete ≡ true → Completes p held piece u
  pub refuses : passes u.answer.refusal ≡ false → Refuses u

-- a push of a parser with a latched error gives it again and changes nothing; 44 bytes are needed and none are buffered
pub record Again (p : RecordParser) (u : Push) : Type 0 where
  pub answer : u.answer ≡ stopped p (latched p)
  pub needed : needed_of p ≡ 44
  pub buffered : buffered_of p ≡ 0

-- the stage `s` that a push leaves, where it had `room` bytes before: as long, with the payload bytes held at its start; and the payload
-- of a completed record lies where the answer says
pub record Staged (piece : List ℕ) (room : ℕ) (u : Push) (s : List ℕ) : Type 0 where
  pub same_length : length s ≡ room
  pub held : held_in u.answer.parser s ≡ u.held
  pub lies : u.answer.complete ≡ true → payload_at u.answer.place u.answer.«record».length piece s ≡ u.payload

-- ---- the encoder
-- the encoder takes a record and its payload, and writes these bytes wherever there is room
pub record Encodes (r : Record) (payload bytes : List ℕ) : Type 0 where
  pub rows : passes (first (record_rows (code_of r.record_type) r.instance_id r.epoch.0 r.sequence.0 payload)) ≡ true
  pub writes : (o : List ℕ) (at : ℕ) → at + length bytes ≤ length o
      → encode_record (code_of r.record_type) r.instance_id r.epoch.0 r.sequence.0 payload o at
      ≡ Outer.outcome (record { refusal = none; next = at + length bytes }) (overlay o at bytes)

-- ---- pieces pushed one after the other, up to the first record
pub data Fed : Type 0 where
  -- the pieces ended, and every push took its whole piece and completed nothing
  pending : Fed
  -- a record, its payload, and how many bytes were taken altogether; every push before took its whole piece and completed nothing
  delivered : Record → List ℕ → ℕ → Fed
  -- a push was refused, or completed nothing and left bytes of its piece
  broken : Fed

-- n bytes were taken before
unfoldable pub feed : ℕ → RecordParser → List ℕ → List (List ℕ) → Fed
feed n p stage [] = pending
feed n p stage (x ∷ xs) =
    let o : Outcome = push_of p x stage in
    let a : Pushed = o.pushed in
    pick (passes a.refusal)
    (pick a.complete
    (delivered a.«record» (payload_of o x) (n + a.consumed))
    (pick (eqb a.consumed (length x)) (feed (n + a.consumed) a.parser o.stage xs) broken))
    broken

-- ---- a whole stream
-- what comes of a stream: the records with their payloads, the refusal that ended it (number 0: none), and parser and stage as left
pub record Run : Type 0 where
  pub records : List (Record × List ℕ)
  pub refusal : Refusal
  pub parser : RecordParser
  pub stage : List ℕ

-- no record
abbrev pub ran : Refusal → RecordParser → List ℕ → Run
ran r p stage = record { records = []; refusal = r; parser = p; stage = stage }

-- records before those of a run
abbrev pub following : List (Record × List ℕ) → Run → Run
following rs r = record { records = rs ++ r.records; refusal = r.refusal; parser = r.parser; stage = r.stage }

-- a piece is pushed, and after each record what is left of it, until a push completes nothing; at most n pushes
unfoldable pub drain : ℕ → RecordParser → List ℕ → List ℕ → Run
drain zero p stage piece = ran none p stage
drain (suc n) p stage piece =
    let o : Outcome = push_of p piece stage in
    let a : Pushed = o.pushed in
    pick a.complete
    (following ((a.«record», payload_of o piece) ∷ []) (drain n a.parser o.stage (drop a.consumed piece)))
    (ran a.refusal a.parser o.stage)

-- pieces one after the other, up to a refusal; each record takes at least one byte, so that one push more than the piece has
-- bytes is enough
unfoldable pub drained : RecordParser → List ℕ → List (List ℕ) → Run
drained p stage [] = ran none p stage
drained p stage (x ∷ xs) =
    let r : Run = drain (suc (length x)) p stage x in
    pick (passes r.refusal) (following r.records (drained r.parser r.stage xs)) r

-- what a caller sees of a run: the records with their payloads, the refusal, and at the end what the parser needs, counts and holds
pub record Seen : Type 0 where
  pub records : List (Record × List ℕ)
  pub refusal : Refusal
  pub needed : ℕ
  pub buffered : ℕ
  pub held : List ℕ

abbrev pub seen : Run → Seen
seen r =
    record {
      records = r.records;
      refusal = r.refusal;
      needed = needed_of r.parser;
      buffered = buffered_of r.parser;
      held = held_bytes r.parser (held_in r.parser r.stage);
    }

-- ---- the claims
-- A fresh parser can go on, with any stage.
abbrev pub FreshReady : Type 0
FreshReady = (stage : List ℕ) → Ready fresh (held_in fresh stage) × Octets fresh.header

-- The bytes held and the bytes taken are, in order, the bytes held afterwards, or the encoding of the record that is completed.
abbrev pub PushStreams : Type 0
PushStreams =
    (p : RecordParser) (size : ℕ) (held piece : List ℕ) → Ready p held → Octets p.header → Octets piece → max_payload ≤ size
    → Streams p held piece (push p size held piece)

-- With fewer than 44 bytes held and in the piece nothing is refused and nothing completed.
abbrev pub NotSooner : Type 0
NotSooner =
    (p : RecordParser) (size : ℕ) (held piece : List ℕ) → Ready p held → max_payload ≤ size → length (held_bytes p held) + length piece < 44
    → ((push p size held piece).answer.refusal ≡ none) × ((push p size held piece).answer.complete ≡ false)

-- The stage that a push leaves begins with the payload bytes held, and a payload lies where the answer says.
abbrev pub PushStages : Type 0
PushStages =
    (p : RecordParser) (piece stage : List ℕ) → Ready p (held_in p stage) → max_payload ≤ length stage
    → Staged piece (length stage) (push p (length stage) (held_in p stage) piece) (push_stage p piece stage)

-- A latched error is given again.
abbrev pub ErrorsLatch : Type 0
ErrorsLatch =
    (p : RecordParser) (size : ℕ) (held piece : List ℕ) → sound_parser p ≡ true → passes (latched p) ≡ false → max_payload ≤ size
    → Again p (push p size held piece)

-- A push leaves a sound parser sound, whatever it answers.
abbrev pub PushKeepsSound : Type 0
PushKeepsSound =
    (p : RecordParser) (size : ℕ) (held piece : List ℕ) → sound_parser p ≡ true → length p.header ≡ 44 → length held ≡ p.payload_len
    → sound_parser (push p size held piece).answer.parser ≡ true

-- Of a completed record the encoder writes exactly the bytes that it was read from.
abbrev pub EncodingUndoesReading : Type 0
EncodingUndoesReading =
    (p : RecordParser) (size : ℕ) (held piece : List ℕ) → Ready p held → Octets p.header → Octets piece → max_payload ≤ size
    → (u : Push) → u ≡ push p size held piece → u.answer.complete ≡ true
    → Encodes u.answer.«record» u.payload (held_bytes p held ++ take u.answer.consumed piece)

-- The bytes of a record that the encoder takes, in pieces of any size, are read as that record by the push that takes the last of them;
-- every push before takes its whole piece, and completes and refuses nothing. Other bytes may follow (`rest`).
abbrev pub ReadingUndoesEncoding : Type 0
ReadingUndoesEncoding =
    (t : RecordType) (instance : List ℕ) (epoch sequence : ℕ) (payload stage rest : List ℕ) (pieces : List (List ℕ))
    → length instance ≡ 16 → epoch < 2 ^ 64 → sequence < 2 ^ 64 → passes (first (record_rows (code_of t) instance epoch sequence payload)) ≡ true
    → max_payload ≤ length stage → joined pieces ≡ record_bytes (code_of t) instance epoch sequence payload ++ rest
    → feed 0 fresh stage pieces ≡ delivered (record_from t instance epoch sequence (length payload)) payload (44 + length payload)

-- Two callers whose pieces join to the same bytes see the same, in particular one who has them in one piece. Their stages need to agree
-- on the bytes held only.
abbrev pub CuttingNeverMatters : Type 0
CuttingNeverMatters =
    (p : RecordParser) (s t : List ℕ) (xs ys : List (List ℕ)) → Ready p (held_in p s) → held_in p t ≡ held_in p s
    → max_payload ≤ length s → max_payload ≤ length t → joined xs ≡ joined ys → seen (drained p s xs) ≡ seen (drained p t ys)

-- what a run did with its bytes: they are the encodings of the records, in order, and then the bytes of an unfinished record
pub record Accounts (bytes : List ℕ) (r : Run) : Type 0 where
  pub joins : bytes ≡ encodings r.records ++ (seen r).held
  pub ready : Ready r.parser (held_in r.parser r.stage)

-- Where no refusal ended a stream, the bytes held first and those of the pieces are all accounted for.
abbrev pub NothingLost : Type 0
NothingLost =
    (p : RecordParser) (s : List ℕ) (xs : List (List ℕ)) → Ready p (held_in p s) → Octets (held_bytes p (held_in p s)) → Octets (joined xs) → max_payload ≤ length s
    → passes (drained p s xs).refusal ≡ true → Accounts (held_bytes p (held_in p s) ++ joined xs) (drained p s xs)

pub record ReadingClaims : Type 0 where
  -- 01, One receive: "A fresh session is Detached with nothing buffered"; the premises below are met at the start
  pub start : FreshReady
  -- 01, Parser: "A push takes bytes up to the end of one record and no further"; "1 to 9 latch"
  pub streams : PushStreams
  -- 01, Parser: "Header checks run when byte 44 has come, not sooner"; rules out "refusing magic after four bytes"
  pub not_sooner : NotSooner
  -- 01, Parser: "Each payload byte taken goes to its own place in the stage"; "The payload is handed over as a part of the piece in that
  -- case, else of the stage"
  pub stages : PushStages
  -- 01, Parser: "An error is latched: later pushes give it again, `needed` is 44, `buffered` 0"
  pub latch : ErrorsLatch
  -- 01, What stops each operation: "23, value unsound": never of the parser that a push left, where the first one was sound
  pub sound : PushKeepsSound
  -- 01, Encoder and Parser, undoing one another: no record is read that the encoder would not write, byte for byte
  pub encode_read : EncodingUndoesReading
  -- 01, Encoder and Parser, undoing one another: every record that the encoder writes is read; rules out "'Not yet' while a whole record
  -- has arrived"
  pub read_encoded : ReadingUndoesEncoding
  -- 01, Parser, over whole lists of pushes: pieces of any size; rules out "reading old stage bytes beyond the payload"
  pub cutting : CuttingNeverMatters
  -- 01, Parser, over whole lists of pushes; rules out one "that consumes bytes and does nothing"
  pub nothing_lost : NothingLost
