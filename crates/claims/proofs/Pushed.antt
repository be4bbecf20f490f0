-- What a push adds to the reading of a stream: nothing, or one record (`Reads`), by what it tells of the bytes held and the piece. Assumes
-- nothing.
use Prim.Native.Nat.{ℕ, ◌+◌, ◌≤◌}
use mathlib.Core.Path.{◌≡◌, sym, ap, subst, ◌∙◌}
use mathlib.Core.List.{List, [], ◌∷◌, ◌++◌, append-nil}
use native.Mathlib.Omega.{arith}
use lib.ListN.{length, take, length-append, length-take}
use lib.Seq.{take_all}
use borrow.Author.Tests.{le-ltb}
use Rattle.wire.specs.Header.{length_of}
use Rattle.record.specs.Record.{record_of}
use Rattle.parser.specs.Push.{Push, held_in}
use Rattle.claims.specs.Reading.{held_bytes}
use Rattle.claims.proofs.Scans.{whole, scan, scan_value, scan_body, scan_header, scan_short, scan_cut}
use Rattle.claims.proofs.Outcomes.{ready_scan, Pending, Completed}
use Rattle.claims.proofs.Readings.{Framed, within, Reads, ends_within, next_record}

-- a header and a payload that pass scan as such
framed_scans : (h y : List ℕ) → Framed h y → scan (h ++ y) ≡ whole h y
unfolding scan_header scan_body scan_value
framed_scans h y f =
    let n : length_of h ≤ length y = omega (arith, f.full) in
    let m : length y ≤ length_of h = omega (arith, f.full) in
    scan_cut h y f.size ∙ simp (scan_header, f.checked, scan_body, le-ltb (length y) (length_of h) n, take_all (length_of h) y m, scan_value, f.valued)

module _ {b piece H : List ℕ} {u : Push} where
  pub waits_reads : (s : List ℕ) → Pending b piece H u → held_in u.answer.parser s ≡ u.held
      → Reads (b ++ take u.answer.consumed piece) [] (within (held_bytes u.answer.parser (held_in u.answer.parser s)))
  waits_reads s t e =
      let q : held_bytes u.answer.parser (held_in u.answer.parser s) ≡ b ++ take u.answer.consumed piece =
      ap (held_bytes u.answer.parser) e ∙ t.joins ∙ ap (λ (x : List ℕ). b ++ x) (sym (take_all u.answer.consumed piece (omega (arith, t.taken))))
      in
      subst (λ (x : List ℕ). Reads x [] (within (held_bytes u.answer.parser (held_in u.answer.parser s)))) q
      (ends_within (ap scan (ap (held_bytes u.answer.parser) e) ∙ ready_scan u.answer.parser u.held t.ready))

  pub whole_reads : {h y : List ℕ} (s : List ℕ) → Completed b piece H u h y
      → Reads (b ++ take u.answer.consumed piece) ((record_of h, y) ∷ []) (within (held_bytes u.answer.parser (held_in u.answer.parser s)))
  whole_reads {h} {y} s t =
      let f : Framed h y = record { size = t.size; checked = t.checked; full = t.full; valued = t.valued } in
      let q : [] ≡ held_bytes u.answer.parser (held_in u.answer.parser s) = sym (λ j. held_bytes (t.parser j) (held_in (t.parser j) s)) in
      subst (λ (x : List ℕ). Reads (b ++ take u.answer.consumed piece) ((record_of h, y) ∷ []) (within x)) q
      (next_record f (ap scan t.joins ∙ framed_scans h y f) (t.joins ∙ sym (append-nil (h ++ y))) (ends_within (scan_short [] (omega arith))))

-- a push that completes a record took all of the piece but what stands behind the record
pub all_but : {b piece H h y : List ℕ} {u : Push} (more : List ℕ) → Completed b piece H u h y → b ++ piece ≡ (h ++ y) ++ more → u.answer.consumed + length more ≡ length piece
all_but {b} {piece} {H} {h} {y} {u} more t e =
    let n : length (b ++ take u.answer.consumed piece) ≡ length (h ++ y) = ap length t.joins in
    let m : length (b ++ piece) ≡ length ((h ++ y) ++ more) = ap length e in
    omega (arith, length-append b (take u.answer.consumed piece), length-take u.answer.consumed piece, length-append b piece, length-append (h ++ y) more, t.within)
