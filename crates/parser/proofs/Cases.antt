-- What a header that passes and a sound parser tell, and the cases of a push that the code and the layers above use. Assumes nothing.
use Prim.Native.Nat.{ℕ, ◌+◌, ◌-◌, ◌≤◌, ◌<◌, min}
use mathlib.Core.Path.{◌≡◌, refl, sym, ap, ◌∙◌}
use mathlib.Core.Bool.{Bool, true, false, not, ◌&&◌}
use mathlib.Core.List.{List}
use native.Mathlib.Omega.{arith}
use lib.Seq.{take_all}
use lib.ListN.{length, take, drop, length-take}
use lib.Dec.{eqb, ltb}
use Rattle.wire.specs.Bytes.{overlay, copied}
use Rattle.wire.specs.Refusals.{pick, none, first, passes}
use Rattle.wire.specs.Header.{type_of, length_of}
use Rattle.std.proofs.lemmas.Bool.Decides.{nat_tests}
use Rattle.wire.proofs.Overlays.{copied_fits, take_laid}
use Rattle.wire.proofs.Rows.{passed}
use Rattle.record.specs.Types.{code_of, type_at, type_ok}
use Rattle.record.specs.Record.{header_rows, header_checks, record_with, record_of, type_from}
use Rattle.record.specs.declared.types.RecordType.{RecordType}
use Rattle.std.specs.Prelude.{Option, Some, None}
use Rattle.record.proofs.TypesCases.{known_code, unknown_code, length_limit}
use Rattle.parser.specs.declared.RecordParser.{RecordParser}
use Rattle.parser.specs.declared.Place.TheVariants.{Piece, Stage}
use Rattle.parser.specs.Push.{counts_ok, error_ok, latched, sound_parser, Pushed, waiting, failed, finish, push_body, head_taken, head_with, push_head, push_rows, push}
use Rattle.parser.specs.Push.{body_stage, head_stage, push_stage, Outcome, outcome, push_of}
use Rattle.wire.proofs.PartLaws.{part_end, overlay_nothing, take_none}

-- ---- a header that passes
module _ (h : List ℕ) (ok : passes (header_checks h) ≡ true) where
  checks_told : passes (first (header_rows h)) ≡ true
  unfolding header_checks
  checks_told = ok

  -- its code is that of the type read
  pub type_code : code_of (record_of h).record_type ≡ type_of h
  unfolding record_with
  type_code = go (type_at (type_of h)) refl
    where
      p : type_ok (type_of h) ≡ true
      p = (passed (header_rows h) (refl, (refl, (refl, (refl, (refl, (refl, tt)))))) checks_told).1.1.0

      go : (l : Option RecordType) → type_at (type_of h) ≡ l → code_of (type_from l) ≡ type_of h
      go (Some t) e = known_code (type_of h) t e
      go None e = cc (unknown_code (type_of h) e, p)

  pub length_low : length_of h ≤ 65536
  length_low = length_limit (type_of h) (length_of h) (passed (header_rows h) (refl, (refl, (refl, (refl, (refl, (refl, tt)))))) checks_told).1.1.1.1.0

-- ---- the payload step
module _ (h : List ℕ) (size k : ℕ) (rest : List ℕ) (from : ℕ) (stage : List ℕ) (n : ℕ) (u : Pushed) (ez : size ≡ length_of h) (en : n ≡ min (size - k) (length rest)) where
  abbrev part : List ℕ
  part = take (n - 0) (drop 0 rest)

  pub body_waits : (st : List ℕ) → 65536 ≤ length stage → passes (header_checks h) ≡ true → k + n < size → st ≡ copied stage k part → u ≡ waiting h 44 (k + n) (from + n)
      → outcome u st ≡ outcome (push_body h k (take k stage) rest from).answer (body_stage h k rest stage)
  unfolding push_body body_stage
  body_waits st room ok l es eu = grind (arith, nat_tests, length_low, copied_fits, length-take)

  module _ (l : size ≤ k + n) (fits : k ≤ length_of h) where
    pub body_piece : k ≡ 0 → u ≡ (finish h part (from + n) (Piece from)).answer
        → outcome u stage ≡ outcome (push_body h k (take k stage) rest from).answer (body_stage h k rest stage)
    unfolding push_body body_stage
    body_piece z eu = grind (arith, nat_tests, take_none)

    pub body_stage_lem : (st : List ℕ) → 65536 ≤ length stage → passes (header_checks h) ≡ true → (k ≡ 0 → ⊥) → st ≡ copied stage k part → u ≡ (finish h (take (size - 0) (drop 0 st)) (from + n) Stage).answer
        → outcome u st ≡ outcome (push_body h k (take k stage) rest from).answer (body_stage h k rest stage)
    unfolding push_body body_stage
    body_stage_lem st room ok z es eu = grind (arith, nat_tests, length_low, copied_fits, take_laid, length-take)

-- ---- the header step
-- what follows byte 44 where k payload bytes have come
abbrev after44 : List ℕ → ℕ → List ℕ → ℕ → List ℕ → Outcome
after44 h k rest from stage =
    pick (passes (header_checks h))
    (outcome (push_body h k (take k stage) rest from).answer (body_stage h k rest stage))
    (outcome (failed h (header_checks h)) stage)

-- a header with the bytes of a piece that are its own
module _ (head piece : List ℕ) (had n : ℕ) (b : List ℕ) (size : length head ≡ 44) (low : had ≤ 44) (en : n ≡ min (44 - had) (length piece))
    (eb : b ≡ copied head had (take (n - 0) (drop 0 piece))) where
  pub bytes_are : b ≡ head_with head had piece
  unfolding head_with
  bytes_are = grind (arith, copied_fits, length-take)

module _ (head piece : List ℕ) (had n : ℕ) (b : List ℕ) (en : n ≡ min (44 - had) (length piece)) (eh : b ≡ head_with head had piece) where
  module _ (stage : List ℕ) (k : ℕ) (u : Pushed) where
    pub head_waits : had + n < 44 → u ≡ waiting b (had + n) 0 n → outcome u stage ≡ outcome (push_head head had k (take k stage) piece).answer (head_stage head had k piece stage)
    unfolding push_head head_stage
    head_waits l eu = grind (arith, nat_tests)

    pub head_checked : (st : List ℕ) → 44 ≤ had + n → outcome u st ≡ after44 b k (take (length piece - n) (drop n piece)) n stage
        → outcome u st ≡ outcome (push_head head had k (take k stage) piece).answer (head_stage head had k piece stage)
    unfolding push_head head_stage
    head_checked st l q = grind (arith, nat_tests, part_end)

-- ---- what soundness tells
-- the counts of a sound parser: a held header with payload bytes to come, or header bytes alone
pub held_counts : (h : List ℕ) (n k : ℕ) → counts_ok h n k ≡ true → n ≡ 44 → (passes (header_checks h) ≡ true) × (k < length_of h)
unfolding counts_ok
held_counts h n k e q = grind (arith, nat_tests)

pub filling_counts : (h : List ℕ) (n k : ℕ) → counts_ok h n k ≡ true → (n ≡ 44 → ⊥) → (n < 44) × (k ≡ 0)
unfolding counts_ok
filling_counts h n k e q = grind (arith, nat_tests)

module _ (p : RecordParser) (b : Bool) (eb : b ≡ sound_parser p) (n : not b ≡ false) where
  pub sound_passes : p.header_len ≡ 44 → passes (header_checks p.header) ≡ true
  unfolding sound_parser counts_ok
  sound_passes e = grind (arith, nat_tests)

  pub sound_empty : (p.header_len ≡ 44 → ⊥) → p.payload_len ≡ 0
  unfolding sound_parser counts_ok
  sound_empty e = grind (arith, nat_tests)

-- ---- while a header is held a push takes no header byte and leaves it
module _ (h : List ℕ) (n k : ℕ) (piece : List ℕ) (full : n ≡ 44) where
  none_taken : head_taken n piece ≡ 0
  none_taken = omega arith

  pub same_header : head_with h n piece ≡ h
  unfolding head_with
  same_header = ap (overlay h n) (take_none (head_taken n piece) piece none_taken) ∙ overlay_nothing h n

  module _ (ok : passes (header_checks h) ≡ true) where
    pub held_push : (held : List ℕ) → push_head h n k held piece ≡ push_body h k held piece 0
    unfolding push_head
    held_push held = grind (arith, nat_tests, same_header)

    pub held_stage : (stage : List ℕ) → head_stage h n k piece stage ≡ body_stage h k piece stage
    unfolding head_stage
    held_stage stage = grind (arith, nat_tests, same_header)

module _ (p : RecordParser) (ok : sound_parser p ≡ true) where
  pub sound_count : p.header_len ≤ 44
  unfolding sound_parser counts_ok
  sound_count = grind (arith, nat_tests)

  pub sound_room : (piece : List ℕ) → p.payload_len ≤ length_of (head_with p.header p.header_len piece)
  unfolding sound_parser counts_ok
  sound_room piece = grind (arith, nat_tests, same_header)

-- ---- push
module _ (p : RecordParser) (piece stage : List ℕ) (q : none ≡ first (push_rows p (length stage))) where
  pub push_goes : (u : Pushed) (st : List ℕ)
      → outcome u st ≡ outcome (push_head p.header p.header_len p.payload_len (take p.payload_len stage) piece).answer (head_stage p.header p.header_len p.payload_len piece stage)
      → outcome u st ≡ push_of p piece stage
  unfolding push_of push push_stage
  push_goes u st e = let f : passes (first (push_rows p (length stage))) ≡ true = ap passes (sym q) in simp f e

-- ---- a piece that leaves the payload in progress unfinished
module _ (p : RecordParser) (n : ℕ) where
  abbrev stays : Bool
  stays = eqb p.header_len 44 && ltb (p.payload_len + n) (length_of p.header)

-- no error is latched while a header is held
pub sound_clear : (p : RecordParser) → sound_parser p ≡ true → p.header_len ≡ 44 → (latched p).number ≡ 0
unfolding sound_parser error_ok
sound_clear p ok full = grind (arith, nat_tests)

pub open_taken : (p : RecordParser) (piece stage st : List ℕ) → sound_parser p ≡ true → 65536 ≤ length stage → stays p (length piece) ≡ true → st ≡ copied stage p.payload_len piece
    → outcome (waiting p.header 44 (p.payload_len + length piece) (length piece)) st ≡ push_of p piece stage
unfolding push_of push push_stage push_body body_stage first
open_taken p piece stage st ok room o es = grind (arith, nat_tests, held_push, held_stage, sound_passes, sound_clear, copied_fits, length_low, take_all)
