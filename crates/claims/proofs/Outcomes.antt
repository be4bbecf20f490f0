-- Parsers that can go on: in the header, or in the payload under a header that passes; what they hold is part of a record. And the
-- outcomes of a push, each with all that is known there: it waits, completes a record, or fails. Assumes nothing.
use Prim.Native.Nat.{ℕ, ◌≤◌, ◌<◌}
use mathlib.Core.Path.{◌≡◌, refl, ap, ◌∙◌}
use mathlib.Core.Bool.{Bool, true, false, not, ◌||◌, true≢false}
use mathlib.Core.List.{List, [], ◌++◌}
use native.Mathlib.Omega.{arith}
use lib.ListN.{length, take, length-append, length-take}
use lib.Seq.{take_all}
use lib.Dec.{ltb, eqb}
use borrow.Author.Tests.{ltb-true, eqb-true, lt-ltb, eq-eqb, ne_eqb}
use Rattle.std.specs.Prelude.{None}
use Rattle.wire.specs.Refusals.{pick, none, passes}
use Rattle.wire.specs.Header.{type_of, length_of}
use Rattle.wire.specs.declared.Refusal.{Refusal}
use Rattle.wire.proofs.Rows.{picked, and_left, and_right}
use Rattle.record.specs.Record.{header_checks, payload_checks, record_of}
use Rattle.parser.specs.Push.{latched, latch}
use Rattle.parser.specs.Push.{parser_of, counts_ok, error_ok, sound_parser, Push}
use Rattle.parser.specs.declared.RecordParser.{RecordParser}
use Rattle.claims.specs.Reading.{held_bytes, Ready}
use Rattle.claims.proofs.Scans.{Scan, unfinished, whole, refused, scan, scan_value, scan_body, scan_header, scan_short, scan_cut}

-- by cases on a test that two values share
pub picked₂ : {A B : Type 0} (P : A → B → Type 0) (t : Bool) {x y : A} {x' y' : B} → (t ≡ true → P x x') → (t ≡ false → P y y') → P (pick t x y) (pick t x' y')
picked₂ P true f g = f refl
picked₂ P false f g = g refl

pub true_not_false : {A : Type 0} → true ≡ false → A
true_not_false e = absurd (true≢false e)

-- what holds where a test passes
pub unless : (a b : Bool) → (a ≡ true → b ≡ true) → not a || b ≡ true
unless true b f = f refl
unless false b f = refl

-- ---- soundness
-- in the header, or in the payload under a header that passes
pub data Part (h : List ℕ) (hl k : ℕ) : Type 0 where
  in_head : hl < 44 → k ≡ 0 → Part h hl k
  in_body : hl ≡ 44 → passes (header_checks h) ≡ true → k < length_of h → Part h hl k

pub part_of : (h : List ℕ) (hl k : ℕ) → counts_ok h hl k ≡ true → Part h hl k
unfolding counts_ok
part_of h hl k =
    picked (λ (t : Bool). t ≡ true → Part h hl k) (eqb hl 44)
    (λ q e. in_body (eqb-true hl 44 q) (and_left (passes (header_checks h)) (ltb k (length_of h)) e) (ltb-true k (length_of h) (and_right (passes (header_checks h)) (ltb k (length_of h)) e)))
    (λ q e. in_head (ltb-true hl 44 (and_left (ltb hl 44) (eqb k 0) e)) (eqb-true k 0 (and_right (ltb hl 44) (eqb k 0) e)))

pub part_sound : {h : List ℕ} {hl k : ℕ} → Part h hl k → sound_parser (parser_of h hl k None) ≡ true
unfolding sound_parser counts_ok error_ok
part_sound {h} {hl} {k} (in_head x y) = simp (ne_eqb hl 44 (λ e. omega arith), lt-ltb hl 44 x, eq-eqb k 0 y)
part_sound {h} {hl} {k} (in_body e c l) = simp (eq-eqb hl 44 e, c, lt-ltb k (length_of h) l)

pub ready_part : {p : RecordParser} {held : List ℕ} → Ready p held → Part p.header p.header_len p.payload_len
unfolding sound_parser
ready_part {p} r =
    part_of p.header p.header_len p.payload_len
    (and_left (counts_ok p.header p.header_len p.payload_len) (error_ok (latched p).number p.header_len) r.sound)

pub part_low : {h : List ℕ} {hl k : ℕ} → Part h hl k → hl ≤ 44
part_low (in_head x y) = omega arith
part_low (in_body x c y) = omega arith

pub part_ready : {h : List ℕ} {hl k : ℕ} (held : List ℕ) → Part h hl k → length h ≡ 44 → length held ≡ k → Ready (parser_of h hl k None) held
part_ready held x size count = record { sound = part_sound x; clear = refl; size = size; count = count }

-- what such a parser holds is part of a record
pub ready_scan : (p : RecordParser) (held : List ℕ) → Ready p held → scan (held_bytes p held) ≡ unfinished
unfolding scan_header scan_body
ready_scan p held r = go (ready_part r)
  where
    go : Part p.header p.header_len p.payload_len → scan (held_bytes p held) ≡ unfinished
    go (in_head x y) = scan_short (held_bytes p held) (simp (length-append, length-take) (omega (arith, r.size, r.count)))
    go (in_body x c y) =
        let s : length p.header ≡ 44 = r.size in
        let l : length held < length_of p.header = omega (arith, r.count) in
        ap (λ (a : List ℕ). scan (a ++ held)) (take_all p.header_len p.header (omega arith))
        ∙ scan_cut p.header held s
        ∙ ap (λ (t : Bool). pick t (scan_body p.header held) (refused (header_checks p.header))) c
        ∙ ap (λ (t : Bool). pick t unfinished (scan_value p.header (take (length_of p.header) held))) (lt-ltb (length held) (length_of p.header) l)

-- ---- what a push tells, by what the scan says; H is the header array afterwards
pub record Pending (b piece H : List ℕ) (u : Push) : Type 0 where
  pub refusal : u.answer.refusal ≡ none
  pub complete : u.answer.complete ≡ false
  pub taken : u.answer.consumed ≡ length piece
  pub header : u.answer.parser.header ≡ H
  pub ready : Ready u.answer.parser u.held
  pub joins : held_bytes u.answer.parser u.held ≡ b ++ piece

pub record Completed (b piece H : List ℕ) (u : Push) (h y : List ℕ) : Type 0 where
  pub refusal : u.answer.refusal ≡ none
  pub complete : u.answer.complete ≡ true
  pub fields : u.answer.«record» ≡ record_of h
  pub payload : u.payload ≡ y
  pub parser : u.answer.parser ≡ parser_of h 0 0 None
  pub held : u.held ≡ []
  pub header : h ≡ H
  pub size : length h ≡ 44
  pub checked : passes (header_checks h) ≡ true
  pub valued : passes (payload_checks (type_of h) y) ≡ true
  pub full : length y ≡ length_of h
  pub joins : b ++ take u.answer.consumed piece ≡ h ++ y
  pub some : 1 ≤ u.answer.consumed
  pub within : u.answer.consumed ≤ length piece

pub record Refused (H : List ℕ) (u : Push) (r : Refusal) : Type 0 where
  pub refusal : u.answer.refusal ≡ r
  pub complete : u.answer.complete ≡ false
  pub numbered : passes r ≡ false
  pub low : r.number ≤ 9
  pub taken : u.answer.consumed ≡ 0
  pub parser : u.answer.parser ≡ parser_of H 0 0 (latch r)
  pub latches : latched (parser_of H 0 0 (latch r)) ≡ r
  pub held : u.held ≡ []

abbrev pub Matches : List ℕ → List ℕ → List ℕ → Push → Scan → Type 0
Matches b piece H u unfinished = Pending b piece H u
Matches b piece H u (whole h y) = Completed b piece H u h y
Matches b piece H u (refused r) = Refused H u r
