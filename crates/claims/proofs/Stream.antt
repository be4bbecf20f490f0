-- The stream law of one push, and that encoding undoes reading. Both read off what a push tells (`push_matches`): a header that passed is
-- the encoding of its fields, and the encoder's rows are those that it passed. Assumes nothing.
use Prim.Native.Nat.{ℕ, ◌+◌, ◌≤◌}
use mathlib.Core.Path.{◌≡◌, refl, sym, ap, subst, subst₂, subst₃, ◌∙◌}
use mathlib.Core.Bool.{Bool, true}
use mathlib.Core.List.{List, [], ◌++◌}
use native.Mathlib.Omega.{arith}
use lib.ListN.{length, take, length-append}
use lib.Seq.{take_all}
use borrow.Author.Tests.{le-leb}
use Rattle.wire.specs.Bytes.{overlay, Octets}
use Rattle.wire.specs.Refusals.{pick, none, first, passes}
use Rattle.wire.specs.Header.{type_of, length_of}
use Rattle.outer.specs.Outer.{outcome, write}
use Rattle.wire.specs.declared.Refusal.{Refusal}
use Rattle.wire.proofs.Rows.{passed, pass_all}
use Rattle.record.specs.Types.{code_of}
use Rattle.record.specs.Record.{header_checks, payload_checks, record_of, record_with, record_rows, encode_rows, encode_record}
use Rattle.record.specs.declared.Record.{Record}
use Rattle.parser.specs.Push.{latched}
use Rattle.parser.proofs.Latches.{latch_sound}
use Rattle.parser.specs.Push.{sound_parser, Push, head_taken, head_with, push}
use Rattle.parser.specs.declared.RecordParser.{RecordParser}
use Rattle.claims.specs.Reading.{held_bytes, Ready, encoded, Streams, Refuses, Encodes, NotSooner, EncodingUndoesReading}
use Rattle.claims.proofs.Octets.{octets_overlay}
use Rattle.claims.proofs.Scans.{Scan, unfinished, whole, refused, scan, scan_short}
use Rattle.claims.proofs.Records.{rows_pass, encoded_back}
use Rattle.claims.proofs.Outcomes.{true_not_false, in_head, part_ready, Completed, Refused, Matches}
use Rattle.claims.proofs.Pushes.{push_matches}

-- ---- a completed record
module _ {b piece H : List ℕ} {u : Push} {h y : List ℕ} (e : Completed b piece H u h y) where
  -- nothing is held afterwards
  pub completed_ready : Ready u.answer.parser u.held
  completed_ready = subst₂ Ready (sym e.parser) (sym e.held) (part_ready [] (in_head (omega arith) refl) e.size refl)

  pub completed_empty : held_bytes u.answer.parser u.held ≡ []
  completed_empty = λ j. held_bytes (e.parser j) (e.held j)

  pub completed_length : u.answer.«record».length ≡ length y
  unfolding record_with
  completed_length = ap (λ (r : Record). r.length) e.fields ∙ sym e.full

  -- the bytes that it was read from are its encoding
  completed_encoded : Octets H → encoded u.answer.«record» u.payload ≡ h ++ y
  completed_encoded o = (λ j. encoded (e.fields j) (e.payload j)) ∙ encoded_back h e.checked y e.full e.size (subst Octets (sym e.header) o)

-- ---- a refusal
module _ {H : List ℕ} {u : Push} {r : Refusal} (e : Refused H u r) where
  pub refused_latches : Refuses u
  refused_latches =
      record {
        number = subst (λ (x : Refusal). x.number ≤ 9) (sym e.refusal) e.low;
        taken = e.taken;
        error = ap latched e.parser ∙ e.latches ∙ sym e.refusal;
        empty = λ j. held_bytes (e.parser j) (e.held j);
        sound = ap sound_parser e.parser ∙ latch_sound H r;
      }

-- ---- the stream law
module _ (p : RecordParser) (held piece : List ℕ) (u : Push) (H : List ℕ) (o : Octets H) where
  streams_as : (v : Scan) → Matches (held_bytes p held) piece H u v → Streams p held piece u
  streams_as unfinished t =
      record {
        waits = λ _ _.
            record {
              joins = t.joins ∙ ap (λ (x : List ℕ). held_bytes p held ++ x) (sym (take_all u.answer.consumed piece (omega (arith, t.taken))));
              taken = t.taken;
              ready = t.ready;
              octets = subst Octets (sym t.header) o;
            };
        completes = λ c. true_not_false (sym c ∙ t.complete);
        refuses = λ c. true_not_false (ap (λ (x : Refusal). passes x) (sym t.refusal) ∙ c);
      }
  streams_as (whole h y) t =
      record {
        waits = λ _ c. true_not_false (sym t.complete ∙ c);
        completes = λ _.
            record {
              joins = t.joins ∙ sym (completed_encoded t o);
              size = completed_length t ∙ ap length (sym t.payload);
              taken = t.within;
              refusal = t.refusal;
              empty = completed_empty t;
              ready = completed_ready t;
              octets = subst Octets (sym (ap (λ (q : RecordParser). q.header) t.parser ∙ t.header)) o;
            };
        refuses = λ c. true_not_false (ap (λ (x : Refusal). passes x) (sym t.refusal) ∙ c);
      }
  streams_as (refused r) t =
      record {
        waits = λ c _. true_not_false (sym c ∙ ap (λ (x : Refusal). passes x) t.refusal ∙ t.numbered);
        completes = λ c. true_not_false (sym c ∙ t.complete);
        refuses = λ _. refused_latches t;
      }

module _ (p : RecordParser) (size : ℕ) (held piece : List ℕ) (r : Ready p held) (oh : Octets p.header) (op : Octets piece) (room : 65536 ≤ size) where
  abbrev H : List ℕ
  H = head_with p.header p.header_len piece

  H-octets : Octets H
  unfolding head_with
  H-octets = octets_overlay p.header p.header_len (head_taken p.header_len piece) piece oh op

  pub stream : Streams p held piece (push p size held piece)
  stream = streams_as p held piece (push p size held piece) H H-octets (scan (held_bytes p held ++ piece)) (push_matches p size held piece r room)

-- ---- fewer than 44 bytes
pub not_sooner : NotSooner
not_sooner p size held piece r room l =
    let e : scan (held_bytes p held ++ piece) ≡ unfinished = scan_short (held_bytes p held ++ piece) (omega (arith, length-append (held_bytes p held) piece)) in
    let t = subst (Matches (held_bytes p held) piece (head_with p.header p.header_len piece) (push p size held piece)) e (push_matches p size held piece r room) in
    (t.refusal, t.complete)

-- ---- encoding undoes reading
module _ (h y : List ℕ) (size : length h ≡ 44) (o : Octets h) (ok : passes (header_checks h) ≡ true) (full : length y ≡ length_of h)
    (value : passes (payload_checks (type_of h) y) ≡ true) where
  abbrev r : Record
  r = record_of h

  rows : passes (first (record_rows (code_of r.record_type) r.instance_id r.epoch.0 r.sequence.0 y)) ≡ true
  rows = rows_pass h ok y full value

  room_too : (out : List ℕ) (at : ℕ) → at + length (h ++ y) ≤ length out
      → passes (first (encode_rows (code_of r.record_type) r.instance_id r.epoch.0 r.sequence.0 y out at)) ≡ true
  room_too out at l =
      let q = passed (record_rows (code_of r.record_type) r.instance_id r.epoch.0 r.sequence.0 y) (refl, (refl, (refl, (refl, (refl, tt))))) rows in
      let n : at + (44 + length y) ≤ length out = omega (arith, length-append h y) in
      pass_all (encode_rows (code_of r.record_type) r.instance_id r.epoch.0 r.sequence.0 y out at)
      (q.0, (q.1.0, (q.1.1.0, (q.1.1.1.0, (q.1.1.1.1.0, (le-leb (at + (44 + length y)) (length out) n, tt))))))

  encodes : Encodes r y (h ++ y)
  unfolding encode_record write
  encodes =
      record {
        rows = rows;
        writes = λ out at l.
            ap (λ (t : Bool). pick t (outcome (record { refusal = none; next = at + length (encoded r y) }) (overlay out at (encoded r y)))
            (outcome (record { refusal = first (encode_rows (code_of r.record_type) r.instance_id r.epoch.0 r.sequence.0 y out at); next = 0 }) out))
            (room_too out at l)
            ∙ ap (λ (x : List ℕ). outcome (record { refusal = none; next = at + length x }) (overlay out at x)) (encoded_back h ok y full size o);
      }

module _ (b piece H : List ℕ) (o : Octets H) where
  encodes_as : (u : Push) (v : Scan) → Matches b piece H u v → u.answer.complete ≡ true → Encodes u.answer.«record» u.payload (b ++ take u.answer.consumed piece)
  encodes_as u unfinished t c = true_not_false (sym c ∙ t.complete)
  encodes_as u (whole h y) t c =
      subst₃ Encodes (sym t.fields) (sym t.payload) (sym t.joins)
      (encodes h y t.size (subst Octets (sym t.header) o) t.checked t.full t.valued)
  encodes_as u (refused r) t c = true_not_false (sym c ∙ t.complete)

pub encode_read : EncodingUndoesReading
encode_read p size held piece r oh op room u e =
    encodes_as (held_bytes p held) piece (head_with p.header p.header_len piece) (H-octets p size held piece r oh op room) u (scan (held_bytes p held ++ piece))
    (subst (λ (x : Push). Matches (held_bytes p held) piece (head_with p.header p.header_len piece) x (scan (held_bytes p held ++ piece))) (sym e) (push_matches p size held piece r room))
