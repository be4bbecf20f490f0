-- What is claimed of reading whole lists of records: every list that the encoder takes is read back, whatever the pieces; and where a
-- stream was refused, the records read before stand in it. Gathered in `SentClaims`.
use Rattle.std.specs.Prelude.{ℕ, ◌^◌, ◌≤◌, ◌<◌, ◌≡◌, true, false, List, [], ◌∷◌, ◌++◌, length}
use Rattle.wire.specs.Bytes.{Octets}
use Rattle.wire.specs.Refusals.{none, first, passes}
use Rattle.wire.specs.Header.{type_of, length_of}
use Rattle.wire.specs.declared.Refusal.{Refusal}
use Rattle.outer.specs.Outer.{max_payload}
use Rattle.record.specs.Types.{code_of}
use Rattle.record.specs.Record.{record_rows, header_checks, payload_checks}
use Rattle.record.specs.declared.Record.{Record}
use Rattle.parser.specs.Push.{fresh, held_in}
use Rattle.parser.specs.declared.RecordParser.{RecordParser}
use Rattle.claims.specs.Reading.{held_bytes, Ready, encodings, joined, Run, drained, seen}
use Rattle.claims.specs.GuestClaims.{Unfinished}

-- ---- records that the encoder takes
-- a record and its payload: the fields fit their bytes, the length is the payload's, and the encoder refuses nothing
pub record Encodable (r : Record) (payload : List ℕ) : Type 0 where
  pub instance : length r.instance_id ≡ 16
  pub epoch : r.epoch.0 < 2 ^ 64
  pub sequence : r.sequence.0 < 2 ^ 64
  pub size : r.length ≡ length payload
  pub rows : passes (first (record_rows (code_of r.record_type) r.instance_id r.epoch.0 r.sequence.0 payload)) ≡ true

pub data AllEncodable : List (Record × List ℕ) → Type 0 where
  none_left : AllEncodable []
  one_more : {x : Record × List ℕ} {xs : List (Record × List ℕ)} → Encodable x.0 x.1 → AllEncodable xs → AllEncodable (x ∷ xs)

-- records that are the first of a list
pub record FirstOf (xs all : List (Record × List ℕ)) : Type 0 where
  pub later : List (Record × List ℕ)
  pub parts : all ≡ xs ++ later

-- ---- a list read back
-- a run read exactly these records with their payloads, refused nothing, and holds the bytes `rest` of an unfinished record
pub record ReadBack (sent : List (Record × List ℕ)) (rest : List ℕ) (r : Run) : Type 0 where
  pub records : r.records ≡ sent
  pub refusal : r.refusal ≡ none
  pub held : (seen r).held ≡ rest

-- ---- a stream refused
-- the bytes begin with 44 of which the header checks give r, or with a header that passes them and a payload of which its checks give r
pub data RefusedBy (r : Refusal) : List ℕ → Type 0 where
  in_header : (h more : List ℕ) → length h ≡ 44 → header_checks h ≡ r → RefusedBy r (h ++ more)
  in_payload : (h y more : List ℕ) → length h ≡ 44 → passes (header_checks h) ≡ true → length y ≡ length_of h → payload_checks (type_of h) y ≡ r
      → RefusedBy r (h ++ (y ++ more))

-- the bytes are the encodings of the records read, in order, and then those that were refused
pub record RefusedAfter (bytes : List ℕ) (r : Run) : Type 0 where
  pub rest : List ℕ
  pub joins : bytes ≡ encodings r.records ++ rest
  pub refused : RefusedBy r.refusal rest

-- ---- the claims
-- Where the encodings of one list are the first bytes of those of another, its records are the first of the other's.
abbrev pub EncodingsUnique : Type 0
EncodingsUnique =
    (xs ys : List (Record × List ℕ)) (more : List ℕ) → AllEncodable xs → AllEncodable ys → encodings xs ++ more ≡ encodings ys → FirstOf xs ys

-- Every list of records that the encoder takes, cut into pieces of any size, is read as exactly these records, and nothing is refused. The
-- bytes of an unfinished record may follow (`rest`, perhaps none), and are held.
abbrev pub ReadingUndoesEncodings : Type 0
ReadingUndoesEncodings =
    (sent : List (Record × List ℕ)) (rest stage : List ℕ) (pieces : List (List ℕ)) → AllEncodable sent → Unfinished rest → max_payload ≤ length stage
    → joined pieces ≡ encodings sent ++ rest → ReadBack sent rest (drained fresh stage pieces)

-- Where a refusal ended a stream, the encodings of the records read before it are the first of its bytes, and what follows them is what
-- was refused.
abbrev pub RefusedAfterRecords : Type 0
RefusedAfterRecords =
    (p : RecordParser) (s : List ℕ) (xs : List (List ℕ)) → Ready p (held_in p s) → Octets (held_bytes p (held_in p s)) → Octets (joined xs) → max_payload ≤ length s
    → passes (drained p s xs).refusal ≡ false → RefusedAfter (held_bytes p (held_in p s) ++ joined xs) (drained p s xs)

pub record SentClaims : Type 0 where
  -- 01, Record: "44 header bytes", the last of them the length, "Then the payload": bytes have one reading
  pub unique : EncodingsUnique
  -- 01, Encoder and Parser, undoing one another over whole lists: "A push takes bytes up to the end of one record and no further"; rules out
  -- "a link that turns every record away" and one "that decodes in its first push and only pretends later"
  pub read_back : ReadingUndoesEncodings
  -- 01, What stops each operation: "An operation gives its numbers only under these conditions", over whole lists of pushes
  pub refused_after : RefusedAfterRecords
