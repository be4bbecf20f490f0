-- The parser's rules (01, "Parser"). What a push answers depends on the stage only by its length and by `held`, the payload bytes that
-- have come: the first `payload_len` bytes of the stage. What a push leaves in the stage is a rule of its own, `push_stage`.
use Rattle.std.specs.Prelude.{ℕ, ◌+◌, ◌-◌, min, Bool, true, false, not, ◌&&◌, ◌||◌, List, [], ◌∷◌, ◌++◌, length, take, drop, replicate, eqb, leb, ltb, Option, Some, None, Result, Ok, Err}
use Rattle.wire.specs.Bytes.{overlay}
use Rattle.wire.specs.Refusals.{pick, refusal, none, refusal_of, refused, first, passes}
use Rattle.wire.specs.Header.{type_of, length_of}
use Rattle.outer.specs.Outer.{max_payload}
use Rattle.wire.specs.declared.Refusal.{Refusal}
use Rattle.wire.specs.declared.errors.Error.{Error}
use Rattle.wire.specs.declared.errors.RecordError.{RecordError}
use Rattle.wire.specs.declared.errors.RecordError.TheVariants.{Magic, Version, «Type», Flags, Length, BootstrapIdentity, ErrorCode, ReceiveWindow, Credit}
use Rattle.record.specs.Record.{header_checks, payload_checks, record_of, no_record}
use Rattle.record.specs.declared.Record.{Record}
use Rattle.parser.specs.declared.RecordParser.{RecordParser}
use Rattle.parser.specs.declared.Place.{Place}
use Rattle.parser.specs.declared.Place.TheVariants.{Piece, Stage}
use Rattle.parser.specs.declared.Complete.{Complete}
use Rattle.parser.specs.declared.Pushed as code
use Rattle.parser.specs.declared.Progress.{Progress}

abbrev pub parser_of : List ℕ → ℕ → ℕ → Option RecordError → RecordParser
parser_of h header_len payload_len error = record { header = h; header_len = header_len; payload_len = payload_len; error = error }

-- a parser at the start of a stream
abbrev pub fresh : RecordParser
fresh = parser_of (replicate 44 0) 0 0 None

-- the refusal that the stream ended with, number 0 where it has not
abbrev pub latched : RecordParser → Refusal
latched p = refused p.error

-- ---- soundness
-- the header count is at most 44, and 44 exactly while a header is held; a held header passes the header checks and has fewer payload
-- bytes than its length, and without one there are none
unfoldable pub counts_ok : List ℕ → ℕ → ℕ → Bool
counts_ok h header_len payload_len =
    pick (eqb header_len 44) (passes (header_checks h) && ltb payload_len (length_of h)) (ltb header_len 44 && eqb payload_len 0)

-- a latched error is one of 1 to 9 and goes with count 0
unfoldable pub error_ok : ℕ → ℕ → Bool
error_ok number header_len = eqb number 0 || (leb number 9 && eqb header_len 0)

unfoldable pub sound_parser : RecordParser → Bool
sound_parser p = counts_ok p.header p.header_len p.payload_len && error_ok (latched p).number p.header_len

-- sound with no error, and a header that is held is one of DATA
unfoldable pub clear : RecordParser → Bool
clear p = sound_parser p && (eqb (latched p).number 0 && (not (eqb p.header_len 44) || eqb (type_of p.header) 5))

-- ---- a push
-- what a push answers: what is refused, the bytes taken, whether a record is complete, the record and where its payload lies, and the parser
-- after it
pub record Pushed : Type 0 where
  pub refusal : Refusal
  pub consumed : ℕ
  pub complete : Bool
  pub «record» : Record
  pub place : Place
  pub parser : RecordParser

-- what a push does: its answer, the payload bytes held afterwards, and the payload of the record that it completed ([] where it completed none)
pub record Push : Type 0 where
  pub answer : Pushed
  pub held : List ℕ
  pub payload : List ℕ

-- nothing changed
abbrev pub stopped : RecordParser → Refusal → Pushed
stopped p r = record { refusal = r; consumed = 0; complete = false; «record» = no_record; place = Piece 0; parser = p }

-- no record yet
abbrev pub waiting : List ℕ → ℕ → ℕ → ℕ → Pushed
waiting h header_len payload_len taken =
    record { refusal = none; consumed = taken; complete = false; «record» = no_record; place = Piece 0; parser = parser_of h header_len payload_len None }

-- the error of 1 to 9 that a refusal latches
unfoldable pub latch : Refusal → Option RecordError
latch r =
    pick (eqb r.number 1) (Some (Magic r.a))
    (pick (eqb r.number 2) (Some (Version r.a))
    (pick (eqb r.number 3) (Some («Type» r.a))
    (pick (eqb r.number 4) (Some (Flags r.a))
    (pick (eqb r.number 5) (Some (Length r.a r.b))
    (pick (eqb r.number 6) (Some (BootstrapIdentity r.a))
    (pick (eqb r.number 7) (Some (ErrorCode r.a))
    (pick (eqb r.number 8) (Some (ReceiveWindow r.a))
    (pick (eqb r.number 9) (Some (Credit r.a)) None))))))))

-- 1 to 9 latch
abbrev pub failed : List ℕ → Refusal → Pushed
failed h r = record { refusal = r; consumed = 0; complete = false; «record» = no_record; place = Piece 0; parser = parser_of h 0 0 (latch r) }

-- a record is complete
abbrev pub completed : List ℕ → ℕ → Place → Pushed
completed h taken place =
    record { refusal = none; consumed = taken; complete = true; «record» = record_of h; place = place; parser = parser_of h 0 0 None }

-- after the payload: 8, 9, 7
unfoldable pub finish : List ℕ → List ℕ → ℕ → Place → Push
finish h payload taken place =
    pick (passes (payload_checks (type_of h) payload))
    (record { answer = completed h taken place; held = []; payload = payload })
    (record { answer = failed h (payload_checks (type_of h) payload); held = []; payload = [] })

-- how many payload bytes are taken: k have come, rest is the piece from the header's end on
abbrev pub body_taken : List ℕ → ℕ → List ℕ → ℕ
body_taken h k rest = min (length_of h - k) (length rest)

-- the payload step: the payload lies in the piece where one push takes its first and last byte, else in the stage
unfoldable pub push_body : List ℕ → ℕ → List ℕ → List ℕ → ℕ → Push
push_body h k held rest from =
    let n : ℕ = body_taken h k rest in
    pick (ltb (k + n) (length_of h))
    (record { answer = waiting h 44 (k + n) (from + n); held = held ++ take n rest; payload = [] })
    (finish h (held ++ take n rest) (from + n) (pick (eqb k 0) (Piece from) Stage))

-- how many header bytes are taken, and the header with them
abbrev pub head_taken : ℕ → List ℕ → ℕ
head_taken header_len piece = min (44 - header_len) (length piece)

unfoldable pub head_with : List ℕ → ℕ → List ℕ → List ℕ
head_with h header_len piece = overlay h header_len (take (head_taken header_len piece) piece)

-- the header step; the header checks run when byte 44 has come (and pass again while a header is held, since the parser is sound)
unfoldable pub push_head : List ℕ → ℕ → ℕ → List ℕ → List ℕ → Push
push_head header header_len k held piece =
    let n : ℕ = head_taken header_len piece in
    let h : List ℕ = head_with header header_len piece in
    pick (ltb (header_len + n) 44)
    (record { answer = waiting h (header_len + n) 0 n; held = []; payload = [] })
    (pick (passes (header_checks h))
    (push_body h k held (drop n piece) n)
    (record { answer = failed h (header_checks h); held = []; payload = [] }))

-- 23 unsound, 21 stage under 65,536 bytes, the latched error
abbrev pub push_rows : RecordParser → ℕ → List (Bool × Refusal)
push_rows p size =
    (sound_parser p, refusal 23 0 0 0) ∷
    (leb max_payload size, refusal 21 0 0 0) ∷
    (passes (latched p), latched p) ∷
    []

-- size is the length of the stage
unfoldable pub push : RecordParser → ℕ → List ℕ → List ℕ → Push
push p size held piece =
    pick (passes (first (push_rows p size)))
    (push_head p.header p.header_len p.payload_len held piece)
    (record { answer = stopped p (first (push_rows p size)); held = held; payload = [] })

-- ---- the stage that a push leaves
-- each payload byte taken goes to its own place, except where one push takes a payload's first and last byte
unfoldable pub body_stage : List ℕ → ℕ → List ℕ → List ℕ → List ℕ
body_stage h k rest stage =
    let n : ℕ = body_taken h k rest in
    pick (eqb k 0 && leb (length_of h) n) stage (overlay stage k (take n rest))

unfoldable pub head_stage : List ℕ → ℕ → ℕ → List ℕ → List ℕ → List ℕ
head_stage header header_len k piece stage =
    let n : ℕ = head_taken header_len piece in
    let h : List ℕ = head_with header header_len piece in
    pick (ltb (header_len + n) 44) stage (pick (passes (header_checks h)) (body_stage h k (drop n piece) stage) stage)

unfoldable pub push_stage : RecordParser → List ℕ → List ℕ → List ℕ
push_stage p piece stage =
    pick (passes (first (push_rows p (length stage)))) (head_stage p.header p.header_len p.payload_len piece stage) stage

-- the payload bytes held: the first of the stage
abbrev pub held_in : RecordParser → List ℕ → List ℕ
held_in p stage = take p.payload_len stage

-- the answer of the code: an error, or the bytes taken and the record that they complete
abbrev pub progressed : Option Complete → ℕ → RecordParser → Pushed
progressed None consumed p = record { refusal = none; consumed = consumed; complete = false; «record» = no_record; place = Piece 0; parser = p }
progressed (Some c) consumed p = record { refusal = none; consumed = consumed; complete = true; «record» = c.«record»; place = c.place; parser = p }

abbrev pub answered : Result Progress Error → RecordParser → Pushed
answered (Ok g) p = progressed g.complete g.consumed p
answered (Err e) p = stopped p (refusal_of e)

abbrev pub pushed : code.Pushed → Pushed
pushed u = answered u.answer u.parser

-- what a push answers, with the stage as it leaves it
pub record Outcome : Type 0 where
  pub pushed : Pushed
  pub stage : List ℕ

abbrev pub outcome : Pushed → List ℕ → Outcome
outcome r s = record { pushed = r; stage = s }

unfoldable pub push_of : RecordParser → List ℕ → List ℕ → Outcome
push_of p piece stage = outcome (push p (length stage) (held_in p stage) piece).answer (push_stage p piece stage)

-- ---- where a payload lies
abbrev pub payload_at : Place → ℕ → List ℕ → List ℕ → List ℕ
payload_at (Piece at) size piece stage = take size (drop at piece)
payload_at Stage size piece stage = take size stage

-- ---- asks: 23, then the number
-- what an ask answers: what is refused, and a number of bytes
pub record Count : Type 0 where
  pub refusal : Refusal
  pub count : ℕ

abbrev pub count_of : Result ℕ Error → Count
count_of (Ok n) = record { refusal = none; count = n }
count_of (Err e) = record { refusal = refusal_of e; count = 0 }

-- bytes that the header or the payload in progress still needs
unfoldable pub needed_of : RecordParser → ℕ
needed_of p = pick (eqb p.header_len 44) (length_of p.header - p.payload_len) (44 - p.header_len)

-- bytes of the unfinished record
abbrev pub buffered_of : RecordParser → ℕ
buffered_of p = p.header_len + p.payload_len

unfoldable pub counted : RecordParser → ℕ → Count
counted p n = pick (sound_parser p) (record { refusal = none; count = n }) (record { refusal = refusal 23 0 0 0; count = 0 })

-- the end of the stream: 23, 19 bytes of an unfinished record (a count)
abbrev pub end_rows : RecordParser → List (Bool × Refusal)
end_rows p = (sound_parser p, refusal 23 0 0 0) ∷ (eqb (buffered_of p) 0, refusal 19 (buffered_of p) 0 0) ∷ []
