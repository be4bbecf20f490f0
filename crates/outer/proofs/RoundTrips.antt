-- The plain layer, there and back: the header that `encode_outer` wrote decodes to the fields given, and a header that decodes
-- is the encoding of what was decoded. Assumes nothing.
use Prim.Native.Nat.{ℕ, ◌+◌, ◌^◌, ◌≤◌, ◌<◌}
use mathlib.Core.Path.{◌≡◌, refl, sym, ap, ◌∙◌}
use mathlib.Core.Bool.{true, ◌&&◌}
use mathlib.Core.List.{List, ◌++◌}
use native.Mathlib.Omega.{arith}
use lib.ListN.{length, take, drop, length-append}
use lib.Seq.{take-take, take_at}
use lib.Dec.{eqb}
use borrow.Author.Tests.{eqb-true, leb-true, le-leb}
use Rattle.wire.specs.Bytes.{from_le, to_le, bytes_at, overlay, Octets}
use Rattle.wire.specs.Refusals.{none, first, passes}
use Rattle.wire.specs.Header.{magic, magic_of, version_of, type_of, flags_of, instance_of, epoch_of, sequence_of, length_of, header_bytes}
use Rattle.outer.specs.Outer.{Outcome, write, encode_outer, outer_rows, header_rows, header_of, outer_ok, decode_outer_header}
use Rattle.wire.specs.declared.Refusal.{Refusal}
use Rattle.outer.specs.declared.OuterHeader.{OuterHeader}
use Rattle.outer.specs.Outer.{DecodedHeader}
use Rattle.wire.proofs.NumberLaws.{at_whole, from_to}
use Rattle.wire.proofs.Headers.{header_length, header_back}
use Rattle.wire.proofs.Overlays.{part_overlay}
use Rattle.wire.proofs.Rows.{passed, and_left, and_right, picked}

-- ---- decoding undoes encoding
abbrev pub fields_of : ℕ → List ℕ → ℕ → ℕ → ℕ → OuterHeader
fields_of t i e s n = record { record_type = t; instance_id = i; epoch = record { 0 = e }; sequence = record { 0 = s }; length = n }

module _ (t : ℕ) (i : List ℕ) (e s n : ℕ) (ie : e < 2 ^ 64) (is : s < 2 ^ 64) where
  size_is : (h : List ℕ) → header_of h ≡ fields_of t i e s n → length_of h ≡ n
  unfolding header_of
  size_is h q = ap (λ (x : OuterHeader). x.length) q

  -- the instance written out, so that the 44 bytes compute
  spelled : n < 2 ^ 32 → header_of (header_bytes t (bytes_at 0 16 i) e s n) ≡ fields_of t (bytes_at 0 16 i) e s n
  unfolding header_of header_bytes type_of instance_of epoch_of sequence_of length_of to_le
  spelled h =
      let a : from_le (to_le 8 e) ≡ e = from_to 8 e ie in
      let b : from_le (to_le 8 s) ≡ s = from_to 8 s is in
      let c : from_le (to_le 4 n) ≡ n = from_to 4 n h in
      λ j. fields_of t (bytes_at 0 16 i) (a j) (b j) (c j)

  spelled_ok : outer_ok (header_bytes t (bytes_at 0 16 i) e s n) ≡ true
  unfolding outer_ok header_bytes magic_of version_of flags_of to_le from_le
  spelled_ok = refl

  pub header_decodes : length i ≡ 16 → n ≤ 65536 → decode_outer_header (header_bytes t i e s n) ≡ record { refusal = none; header = fields_of t i e s n }
  unfolding decode_outer_header first
  header_decodes li h =
      let w : bytes_at 0 16 i ≡ i = at_whole 16 i li in
      let ok : outer_ok (header_bytes t i e s n) ≡ true = ap (λ (l : List ℕ). outer_ok (header_bytes t l e s n)) (sym w) ∙ spelled_ok in
      let f : header_of (header_bytes t i e s n) ≡ fields_of t i e s n =
      ap (λ (l : List ℕ). header_of (header_bytes t l e s n)) (sym w) ∙ spelled (omega arith) ∙ ap (λ (l : List ℕ). fields_of t l e s n) w
      in
      let g : length_of (header_bytes t i e s n) ≡ n = size_is (header_bytes t i e s n) f in
      simp (ok, le-leb (length_of (header_bytes t i e s n)) 65536 (omega arith)) (ap (λ (x : OuterHeader). record { refusal = none; header = x }) f)

written : (r : Refusal) (bytes o : List ℕ) (at : ℕ) → passes (write r bytes o at).answer.refusal ≡ true → (passes r ≡ true) × ((write r bytes o at).output ≡ overlay o at bytes)
unfolding write
written r bytes o at =
    picked (λ (x : Outcome). passes x.answer.refusal ≡ true → (passes r ≡ true) × (x.output ≡ overlay o at bytes)) (passes r) (λ q e. (q, refl)) (λ q e. (e, cc))

pub decode_encoded : (t : ℕ) (i : List ℕ) (e s : ℕ) (payload o : List ℕ) (at : ℕ) → length i ≡ 16 → e < 2 ^ 64 → s < 2 ^ 64
    → passes (encode_outer t i e s payload o at).answer.refusal ≡ true
    → decode_outer_header (take 44 (drop at (encode_outer t i e s payload o at).output)) ≡ record { refusal = none; header = fields_of t i e s (length payload) }
unfolding encode_outer
decode_encoded t i e s payload o at li ie is ok =
    let head : List ℕ = header_bytes t i e s (length payload) in
    let w = written (first (outer_rows payload o at)) (head ++ payload) o at ok in
    let p = passed (outer_rows payload o at) (refl, (refl, tt)) w.0 in
    let size : length payload ≤ 65536 = leb-true (length payload) 65536 p.0 in
    let room : at + (44 + length payload) ≤ length o = leb-true (at + (44 + length payload)) (length o) p.1.0 in
    let hl : length head ≡ 44 = header_length t i e s (length payload) li in
    let n : length (head ++ payload) ≡ 44 + length payload = length-append head payload ∙ ap (λ (k : ℕ). k + length payload) hl in
    let cut : take 44 (drop at (overlay o at (head ++ payload))) ≡ head =
    sym (take-take 44 (length (head ++ payload)) (drop at (overlay o at (head ++ payload))) (omega arith))
    ∙ ap (take 44) (part_overlay o at (head ++ payload) (omega arith))
    ∙ take_at head payload 44 hl
    in
    ap (λ (b : List ℕ). decode_outer_header (take 44 (drop at b))) w.1 ∙ ap decode_outer_header cut ∙ header_decodes t i e s (length payload) ie is li size

-- ---- encoding undoes decoding
-- the bytes that a decoded header makes
abbrev pub encoded_header : OuterHeader → List ℕ
encoded_header d = header_bytes d.record_type d.instance_id d.epoch.0 d.sequence.0 d.length

decoded : (h : List ℕ) → passes (decode_outer_header h).refusal ≡ true → (passes (first (header_rows h)) ≡ true) × ((decode_outer_header h).header ≡ header_of h)
unfolding decode_outer_header
decoded h =
    picked (λ (x : DecodedHeader). passes x.refusal ≡ true → (passes (first (header_rows h)) ≡ true) × (x.header ≡ header_of h))
    (passes (first (header_rows h))) (λ q e. (q, refl)) (λ q e. (e, cc))

pub encode_decoded : (h : List ℕ) → length h ≡ 44 → Octets h → passes (decode_outer_header h).refusal ≡ true → encoded_header (decode_outer_header h).header ≡ h
unfolding header_of outer_ok
encode_decoded h size o ok =
    let d = decoded h ok in
    let p = passed (header_rows h) (refl, (refl, tt)) d.0 in
    let m : magic_of h ≡ from_le magic = eqb-true (magic_of h) (from_le magic) (and_left (eqb (magic_of h) (from_le magic)) (eqb (version_of h) 1 && eqb (flags_of h) 0) p.0) in
    let r : eqb (version_of h) 1 && eqb (flags_of h) 0 ≡ true = and_right (eqb (magic_of h) (from_le magic)) (eqb (version_of h) 1 && eqb (flags_of h) 0) p.0 in
    let v : version_of h ≡ 1 = eqb-true (version_of h) 1 (and_left (eqb (version_of h) 1) (eqb (flags_of h) 0) r) in
    let f : flags_of h ≡ 0 = eqb-true (flags_of h) 0 (and_right (eqb (version_of h) 1) (eqb (flags_of h) 0) r) in
    ap encoded_header d.1 ∙ header_back h size o m v f
