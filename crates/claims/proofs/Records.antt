-- A header that passes its checks with a payload that passes its own is a record that the encoder's rows pass, and the header and
-- payload are its encoding; and the encoding of a record that the rows pass scans as that record. Both directions go row by row,
-- over the laws of headers of `wire`. Assumes nothing.
use Prim.Native.Nat.{ℕ, ◌+◌, ◌^◌, ◌≤◌, ◌<◌}
use mathlib.Core.Path.{◌≡◌, refl, sym, ap, ap₂, ◌∙◌}
use mathlib.Core.Bool.{true, false, ◌&&◌}
use mathlib.Core.List.{List, ◌++◌, append_assoc}
use native.Mathlib.Omega.{arith}
use lib.ListN.{length, take, length-append}
use lib.Seq.{take_at}
use lib.Dec.{eqb}
use borrow.Author.Tests.{le-ltb, eqb-true}
use Rattle.wire.specs.Bytes.{from_le, Octets}
use Rattle.wire.specs.Refusals.{none, first, passes}
use Rattle.wire.specs.Header.{magic, magic_of, version_of, type_of, flags_of, instance_of, epoch_of, sequence_of, length_of, header_bytes}
use Rattle.outer.specs.Outer.{header_of, outer_ok, decode_outer_header}
use Rattle.outer.specs.Outer as Outer
use Rattle.outer.specs.declared.OuterHeader.{OuterHeader}
use Rattle.outer.specs.Outer.{DecodedHeader}
use Rattle.wire.proofs.Rows.{Passed, passed, pass_all, picked, and_left, and_right}
use Rattle.wire.proofs.Headers.{header_length, header_back}
use Rattle.outer.proofs.RoundTrips.{fields_of, header_decodes}
use Rattle.record.specs.Types.{code_of, type_at, type_ok, length_ok}
use Rattle.record.specs.Record.{header_rows, header_checks, payload_rows, payload_checks, bootstrap_row, record_rows, record_bytes, record_of, record_with, type_from}
use Rattle.record.specs.declared.types.RecordType.{RecordType}
use Rattle.std.specs.Prelude.{Option, Some, None}
use Rattle.record.proofs.TypesCases.{known_code, unknown_code, code_low, code_type, length_limit}
use Rattle.claims.specs.Reading.{record_from, encoded}
use Rattle.claims.proofs.Scans.{whole, scan, scan_value, scan_body, scan_header, scan_cut}

-- ---- a header that passes
pub checks_passed : (h : List ℕ) → passes (header_checks h) ≡ true → Passed (header_rows h)
unfolding header_checks
checks_passed h e = passed (header_rows h) (refl, (refl, (refl, (refl, (refl, (refl, tt)))))) e

-- the code of the type that a known code stands for
pub known_back : (n : ℕ) → type_ok n ≡ true → code_of (type_from (type_at n)) ≡ n
known_back n ok = go (type_at n) refl
  where
    go : (l : Option RecordType) → type_at n ≡ l → code_of (type_from l) ≡ n
    go (Some t) e = known_code n t e
    go None e = let z : true ≡ false = sym ok ∙ unknown_code n e in cc

module _ (h : List ℕ) (ok : passes (header_checks h) ≡ true) where
  pub length_low : length_of h ≤ 65536
  length_low = length_limit (type_of h) (length_of h) (checks_passed h ok).1.1.1.1.0

  pub code_is : code_of (record_of h).record_type ≡ type_of h
  unfolding record_with
  code_is = known_back (type_of h) (checks_passed h ok).1.1.0

  module _ (y : List ℕ) (full : length y ≡ length_of h) where
    -- the encoder's rows pass
    pub rows_pass : passes (payload_checks (type_of h) y) ≡ true
        → passes (first (record_rows (code_of (record_of h).record_type) (record_of h).instance_id (record_of h).epoch.0 (record_of h).sequence.0 y)) ≡ true
    unfolding record_with payload_checks
    rows_pass e =
        let p = checks_passed h ok in
        let q = passed (payload_rows (type_of h) y) (refl, (refl, (refl, tt))) e in
        let l : length_ok (type_of h) (length y) ≡ true = ap (length_ok (type_of h)) full ∙ p.1.1.1.1.0 in
        ap (λ (t : ℕ). passes (first (record_rows t (instance_of h) (epoch_of h) (sequence_of h) y))) code_is
        ∙ pass_all (record_rows (type_of h) (instance_of h) (epoch_of h) (sequence_of h) y) (l, (p.1.1.1.1.1.0, q))

    -- header and payload are the record's encoding
    pub encoded_back : length h ≡ 44 → Octets h → encoded (record_of h) y ≡ h ++ y
    unfolding record_with
    encoded_back size o =
        let p = checks_passed h ok in
        let b : header_bytes (type_of h) (instance_of h) (epoch_of h) (sequence_of h) (length_of h) ≡ h =
        header_back h size o (eqb-true (magic_of h) (from_le magic) p.0) (eqb-true (version_of h) 1 p.1.0) (eqb-true (flags_of h) 0 p.1.1.1.0)
        in
        (λ j. header_bytes (code_is j) (instance_of h) (epoch_of h) (sequence_of h) (full j) ++ y) ∙ ap (λ (x : List ℕ). x ++ y) b

-- ---- a header that was encoded
-- what a decoded header has
decoded : (h : List ℕ) (f : OuterHeader) → decode_outer_header h ≡ record { refusal = none; header = f } → (outer_ok h ≡ true) × (header_of h ≡ f)
unfolding decode_outer_header
decoded h f =
    picked (λ (x : DecodedHeader). x ≡ record { refusal = none; header = f } → (outer_ok h ≡ true) × (header_of h ≡ f))
    (passes (first (Outer.header_rows h)))
    (λ q e. ((passed (Outer.header_rows h) (refl, (refl, tt)) q).0, ap (λ (x : DecodedHeader). x.header) e))
    (λ q e. let z : passes (first (Outer.header_rows h)) ≡ true = ap (λ (x : DecodedHeader). passes x.refusal) e in let w : true ≡ false = sym z ∙ q in (cc, cc))

module _ (t : RecordType) (i : List ℕ) (e s : ℕ) (y : List ℕ) (li : length i ≡ 16) (ie : e < 2 ^ 64) (is : s < 2 ^ 64)
    (ok : passes (first (record_rows (code_of t) i e s y)) ≡ true) where
  abbrev head : List ℕ
  head = header_bytes (code_of t) i e s (length y)

  rows : Passed (record_rows (code_of t) i e s y)
  rows = passed (record_rows (code_of t) i e s y) (refl, (refl, (refl, (refl, (refl, tt))))) ok

  size_low : length y ≤ 65536
  size_low = length_limit (code_of t) (length y) rows.0

  fields : (outer_ok head ≡ true) × (header_of head ≡ fields_of (code_of t) i e s (length y))
  fields = decoded head (fields_of (code_of t) i e s (length y)) (header_decodes (code_of t) i e s (length y) ie is li size_low)

  type_read : type_of head ≡ code_of t
  unfolding header_of
  type_read = ap (λ (x : OuterHeader). x.record_type) fields.1

  pub length_read : length_of head ≡ length y
  unfolding header_of
  length_read = ap (λ (x : OuterHeader). x.length) fields.1

  instance_read : instance_of head ≡ i
  unfolding header_of
  instance_read = ap (λ (x : OuterHeader). x.instance_id) fields.1

  epoch_read : epoch_of head ≡ e
  unfolding header_of
  epoch_read = ap (λ (x : OuterHeader). x.epoch.0) fields.1

  sequence_read : sequence_of head ≡ s
  unfolding header_of
  sequence_read = ap (λ (x : OuterHeader). x.sequence.0) fields.1

  pub header_passes : passes (header_checks head) ≡ true
  unfolding header_checks outer_ok
  header_passes =
      let a : eqb (magic_of head) (from_le magic) ≡ true = and_left (eqb (magic_of head) (from_le magic)) (eqb (version_of head) 1 && eqb (flags_of head) 0) fields.0 in
      let r : eqb (version_of head) 1 && eqb (flags_of head) 0 ≡ true = and_right (eqb (magic_of head) (from_le magic)) (eqb (version_of head) 1 && eqb (flags_of head) 0) fields.0 in
      let v : eqb (version_of head) 1 ≡ true = and_left (eqb (version_of head) 1) (eqb (flags_of head) 0) r in
      let f : eqb (flags_of head) 0 ≡ true = and_right (eqb (version_of head) 1) (eqb (flags_of head) 0) r in
      let k : type_ok (type_of head) ≡ true = ap type_ok type_read ∙ code_low t in
      let l : length_ok (type_of head) (length_of head) ≡ true = ap₂ length_ok type_read length_read ∙ rows.0 in
      let z : (bootstrap_row (type_of head) (instance_of head) (epoch_of head) (sequence_of head)).0 ≡ true =
      (λ j. (bootstrap_row (type_read j) (instance_read j) (epoch_read j) (sequence_read j)).0) ∙ rows.1.0
      in
      pass_all (header_rows head) (a, (v, (k, (f, (l, (z, tt))))))

  pub payload_passes : passes (payload_checks (type_of head) y) ≡ true
  unfolding payload_checks
  payload_passes = ap (λ (k : ℕ). passes (first (payload_rows k y))) type_read ∙ pass_all (payload_rows (code_of t) y) rows.1.1

  -- the encoding, whatever follows it, scans as its header and payload
  pub encoding_scans : (rest : List ℕ) → scan (record_bytes (code_of t) i e s y ++ rest) ≡ whole head y
  unfolding scan_header scan_body scan_value
  encoding_scans rest =
      let n : length_of head ≤ length (y ++ rest) = simp length-append (omega (arith, length_read)) in
      let c : take (length_of head) (y ++ rest) ≡ y = take_at y rest (length_of head) (sym length_read) in
      ap scan (append_assoc head y rest)
      ∙ scan_cut head (y ++ rest) (header_length (code_of t) i e s (length y) li)
      ∙ simp (scan_header, header_passes, scan_body, le-ltb (length (y ++ rest)) (length_of head) n, c, scan_value, payload_passes)

  -- and its fields are those given
  pub encoding_record : record_of head ≡ record_from t i e s (length y)
  unfolding record_with
  encoding_record =
      (λ j. record_from (type_from (type_at (type_read j))) (instance_read j) (epoch_read j) (sequence_read j) (length_read j))
      ∙ ap (λ (l : Option RecordType). record_from (type_from l) i e s (length y)) (code_type t)

  pub encoding_length : length (head ++ y) ≡ 44 + length y
  encoding_length = length-append head y ∙ ap (λ (n : ℕ). n + length y) (header_length (code_of t) i e s (length y) li)
