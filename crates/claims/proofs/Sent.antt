-- Whole lists of records: the encodings of a list that the encoder takes read as that list (`sent_reads`), so that bytes which begin like
-- them read as its first records (`reads_front`); and a refusal comes after the encodings of the records read. Assumes nothing.
use Prim.Native.Nat.{ℕ, ◌+◌, ◌≤◌, ◌<◌}
use mathlib.Core.Path.{◌≡◌, refl, sym, ap, subst, ◌∙◌}
use mathlib.Core.Bool.{Bool, true, false}
use mathlib.Core.List.{List, [], ◌∷◌, ◌++◌, append_assoc, append-nil}
use native.Mathlib.Omega.{arith}
use native.Mathlib.Decide.{dec_lt}
use lib.ListN.{length, take, drop, length-append, length-take, take-append-drop}
use lib.Seq.{drop_at}
use borrow.Author.Tests.{lt-ltb, le-ltb}
use Rattle.wire.specs.Bytes.{Octets}
use Rattle.wire.specs.Refusals.{pick, passes}
use Rattle.wire.specs.Header.{type_of, instance_of, epoch_of, sequence_of, length_of, header_bytes}
use Rattle.wire.specs.declared.Refusal.{Refusal}
use Rattle.wire.proofs.Headers.{header_length}
use Rattle.wire.proofs.NumberLaws.{at_octets}
use Rattle.record.specs.Types.{code_of}
use Rattle.record.specs.Record.{header_checks, payload_checks, record_with, record_of}
use Rattle.record.specs.declared.Record.{Record}
use Rattle.parser.specs.Push.{fresh}
use Rattle.claims.specs.Reading.{encoded, encodings, Run, drained}
use Rattle.claims.specs.GuestClaims as G
use Rattle.claims.specs.GuestClaims.{Unfinished}
use Rattle.claims.specs.Sent.{Encodable, AllEncodable, none_left, one_more, ReadBack, RefusedBy, in_header, in_payload, RefusedAfter, EncodingsUnique, ReadingUndoesEncodings, RefusedAfterRecords, SentClaims}
use Rattle.claims.proofs.Octets.{octets_append, octets_front, octets_back, from_low}
use Rattle.claims.proofs.Scans.{unfinished, whole, refused, scan, scan_value, scan_body, scan_header, scan_short, scan_cut}
use Rattle.claims.proofs.Records.{encoding_scans, encoding_record, length_read, header_passes, payload_passes, rows_pass, encoded_back}
use Rattle.claims.proofs.Outcomes.{true_not_false}
use Rattle.claims.proofs.Readings as Readings
use Rattle.claims.proofs.Readings.{Framed, Stop, within, refusing, Reads, ends_within, ends_refused, next_record, zero_not_one, reads_same, is_whole, behind}
use Rattle.claims.proofs.Feeds.{fresh_ready}
use Rattle.claims.proofs.Cuts.{Drains, goes, stops, drained_reads}

-- ---- the bytes of an unfinished record scan as such
pub unfinished_scan : {b : List ℕ} → Unfinished b → scan b ≡ unfinished
unfolding scan_header scan_body
unfinished_scan (G.in_header b l) = scan_short b l
unfinished_scan (G.in_payload h y s c l) =
    scan_cut h y s
    ∙ ap (λ (t : Bool). pick t (scan_body h y) (refused (header_checks h))) c
    ∙ ap (λ (t : Bool). pick t unfinished (scan_value h (take (length_of h) y))) (lt-ltb (length y) (length_of h) l)

-- ---- one record that the encoder takes
module _ (r : Record) (y : List ℕ) (k : Encodable r y) where
  abbrev pub head : List ℕ
  head = header_bytes (code_of r.record_type) r.instance_id r.epoch.0 r.sequence.0 (length y)

  pub sent_framed : Framed head y
  sent_framed =
      record {
        size = header_length (code_of r.record_type) r.instance_id r.epoch.0 r.sequence.0 (length y) k.instance;
        checked = header_passes r.record_type r.instance_id r.epoch.0 r.sequence.0 y k.instance k.epoch k.sequence k.rows;
        full = sym (length_read r.record_type r.instance_id r.epoch.0 r.sequence.0 y k.instance k.epoch k.sequence k.rows);
        valued = payload_passes r.record_type r.instance_id r.epoch.0 r.sequence.0 y k.instance k.epoch k.sequence k.rows;
      }

  pub sent_scans : (rest : List ℕ) → scan (encoded r y ++ rest) ≡ whole head y
  sent_scans rest = encoding_scans r.record_type r.instance_id r.epoch.0 r.sequence.0 y k.instance k.epoch k.sequence k.rows rest

  pub sent_record_lem : record_of head ≡ r
  sent_record_lem =
      encoding_record r.record_type r.instance_id r.epoch.0 r.sequence.0 y k.instance k.epoch k.sequence k.rows
      ∙ (λ j. record { record_type = r.record_type; instance_id = r.instance_id; epoch = r.epoch; sequence = r.sequence; length = sym k.size j })

-- ---- lists that the encoder takes
pub sent_reads : {sent : List (Record × List ℕ)} {rest : List ℕ} → AllEncodable sent → Unfinished rest → Reads (encodings sent ++ rest) sent (within rest)
unfolding encodings
sent_reads none_left u = ends_within (unfinished_scan u)
sent_reads {rest = rest} (one_more {x = x} {xs = xs} k ks) u =
    let b : List ℕ = (encoded x.0 x.1 ++ encodings xs) ++ rest in
    let d : b ≡ encoded x.0 x.1 ++ (encodings xs ++ rest) = append_assoc (encoded x.0 x.1) (encodings xs) rest in
    subst (λ (i : Record). Reads b ((i, x.1) ∷ xs) (within rest)) (sent_record_lem x.0 x.1 k)
    (next_record (sent_framed x.0 x.1 k) (ap scan d ∙ sent_scans x.0 x.1 k (encodings xs ++ rest)) d (sent_reads ks u))

-- ---- records that bytes read as are such that the encoder takes
framed_encodable : (h y : List ℕ) → Framed h y → Octets h → Encodable (record_of h) y
unfolding record_with instance_of epoch_of sequence_of
framed_encodable h y f o =
    record {
      instance = refl;
      epoch = from_low (at_octets 24 8 o);
      sequence = from_low (at_octets 32 8 o);
      size = sym f.full;
      rows = rows_pass h f.checked y f.full f.valued;
    }

pub reads_encodable : {b : List ℕ} {rs : List (Record × List ℕ)} {e : Stop} → Reads b rs e → Octets b → AllEncodable rs
reads_encodable (ends_within p) o = none_left
reads_encodable (ends_refused p) o = none_left
reads_encodable (next_record {b = b} {h = h} {y = y} {c = c} f p d s) o =
    let o1 : Octets ((h ++ y) ++ c) = subst Octets d o in
    one_more {x = (record_of h, y)} (framed_encodable h y f (octets_front h y (octets_front (h ++ y) c o1))) (reads_encodable s (octets_back (h ++ y) c o1))

-- ---- bytes that begin like the encodings of a list read as its first records
pub record Front (b held : List ℕ) (rs records : List (Record × List ℕ)) : Type 0 where
  pub later : List (Record × List ℕ)
  pub parts : records ≡ rs ++ later
  pub joins : b ≡ encodings rs ++ held

pub reads_front : {b held : List ℕ} {rs records : List (Record × List ℕ)} → Reads b rs (within held) → AllEncodable records → (more : List ℕ)
    → b ++ more ≡ encodings records → Front b held rs records
unfolding encodings
reads_front {records = records} (ends_within p) ks more e = record { later = records; parts = refl; joins = refl }
reads_front (next_record {b = b} {h = h} {y = y} {c = c} f p d s) none_left more e =
    let n : length ((h ++ y) ++ (c ++ more)) ≡ 0 = ap length (sym (behind (h ++ y) c more d) ∙ e) in
    let m : length ((h ++ y) ++ (c ++ more)) ≡ length (h ++ y) + length (c ++ more) = length-append (h ++ y) (c ++ more) in
    absurd (omega (arith, length-append h y, f.size))
reads_front {held = held} (next_record {b = b} {h = h} {y = y} {c = c} {rs = rs} f p d s) (one_more {x = x} {xs = xs} k ks) more e =
    let z : whole h y ≡ whole (head x.0 x.1 k) x.1 = sym (Readings.later b more is_whole p) ∙ ap scan e ∙ sent_scans x.0 x.1 k (encodings xs) in
    let eh : h ≡ head x.0 x.1 k = cc in
    let ey : y ≡ x.1 = cc in
    let i : record_of h ≡ x.0 = ap record_of eh ∙ sent_record_lem x.0 x.1 k in
    let w : h ++ y ≡ encoded x.0 x.1 = λ j. eh j ++ ey j in
    let q : c ++ more ≡ encodings xs =
    sym (drop_at (h ++ y) (c ++ more) (length (h ++ y)) refl)
    ∙ ap (drop (length (h ++ y))) (sym (behind (h ++ y) c more d) ∙ e ∙ ap (λ (l : List ℕ). l ++ encodings xs) (sym w))
    ∙ drop_at (h ++ y) (encodings xs) (length (h ++ y)) refl
    in
    let t : Front c held rs xs = reads_front s ks more q in
    record {
      later = t.later;
      parts = λ j. (sym i j, sym ey j) ∷ t.parts j;
      joins = d ∙ (λ j. w j ++ t.joins j) ∙ sym (append_assoc (encoded x.0 x.1) (encodings rs) held) ∙ (λ j. (encoded (sym i j) (sym ey j) ++ encodings rs) ++ held);
    }

pub unique : EncodingsUnique
unique xs ys more kx ky e =
    let r : Reads (encodings xs) xs (within []) = subst (λ (b : List ℕ). Reads b xs (within [])) (append-nil (encodings xs)) (sent_reads kx (G.in_header [] (omega arith))) in
    let t = reads_front r ky more e in
    record { later = t.later; parts = t.parts }

-- ---- the claim of a list read back
back_as : {sent : List (Record × List ℕ)} {b rest : List ℕ} {r : Run} → Reads b sent (within rest) → Drains b r → ReadBack sent rest r
back_as {sent} {b} {rest} {r} k (goes z c q) =
    let s = reads_same q k in
    record { records = s.0; refusal = z; held = cc s.1 }
back_as k (stops z h w q) = zero_not_one (cc (reads_same q k).1)

read_back : ReadingUndoesEncodings
read_back sent rest stage pieces ks u room e =
    back_as (sent_reads ks u) (subst (λ (b : List ℕ). Drains b (drained fresh stage pieces)) e (drained_reads pieces fresh stage (record { ready = (fresh_ready stage).0; room = room })))

-- ---- what was refused
module _ {r : Refusal} where
  value_refused : (h y more : List ℕ) → length h ≡ 44 → passes (header_checks h) ≡ true → length y ≡ length_of h → scan_value h y ≡ refused r → RefusedBy r (h ++ (y ++ more))
  unfolding scan_value
  value_refused h y more size ok full = go (passes (payload_checks (type_of h) y))
    where
      go : (t : Bool) → pick t (whole h y) (refused (payload_checks (type_of h) y)) ≡ refused r → RefusedBy r (h ++ (y ++ more))
      go true e = zero_not_one (cc)
      go false e = in_payload h y more size ok full (cc)

  body_refused : (h z : List ℕ) → length h ≡ 44 → passes (header_checks h) ≡ true → scan_body h z ≡ refused r → RefusedBy r (h ++ z)
  unfolding scan_body
  body_refused h z size ok = go (dec_lt (length z) (length_of h))
    where
      go : Dec (length z < length_of h) → scan_body h z ≡ refused r → RefusedBy r (h ++ z)
      go (yes l) e = let q : unfinished ≡ refused r = rw (lt-ltb (length z) (length_of h) l) at e in zero_not_one (cc)
      go (no l) e =
          let m : length_of h ≤ length z = omega arith in
          let q : scan_value h (take (length_of h) z) ≡ refused r = rw (le-ltb (length z) (length_of h) m) at e in
          subst (λ (x : List ℕ). RefusedBy r (h ++ x)) (take-append-drop (length_of h) z)
          (value_refused h (take (length_of h) z) (drop (length_of h) z) size ok (simp length-take (omega arith)) q)

  header_refused : (h z : List ℕ) → length h ≡ 44 → scan_header h z ≡ refused r → RefusedBy r (h ++ z)
  unfolding scan_header
  header_refused h z size = go (passes (header_checks h)) refl
    where
      go : (t : Bool) → passes (header_checks h) ≡ t → pick t (scan_body h z) (refused (header_checks h)) ≡ refused r → RefusedBy r (h ++ z)
      go true ok e = body_refused h z size ok e
      go false ok e = in_header h z size (cc)

  scan_refused : (b : List ℕ) → scan b ≡ refused r → RefusedBy r b
  scan_refused b e = go (dec_lt (length b) 44)
    where
      go : Dec (length b < 44) → RefusedBy r b
      go (yes l) = let q : unfinished ≡ refused r = sym (scan_short b l) ∙ e in zero_not_one (cc)
      go (no l) =
          let size : length (take 44 b) ≡ 44 = simp length-take (omega arith) in
          subst (RefusedBy r) (take-append-drop 44 b)
          (header_refused (take 44 b) (drop 44 b) size (sym (scan_cut (take 44 b) (drop 44 b) size) ∙ ap scan (take-append-drop 44 b) ∙ e))

record Stopped (b : List ℕ) (rs : List (Record × List ℕ)) (r : Refusal) : Type 0 where
  rest : List ℕ
  joins : b ≡ encodings rs ++ rest
  refused : RefusedBy r rest

reads_stopped : {b : List ℕ} {rs : List (Record × List ℕ)} {r : Refusal} → Reads b rs (refusing r) → Octets b → Stopped b rs r
unfolding encodings
reads_stopped (ends_refused {b = b} p) o = record { rest = b; joins = refl; refused = scan_refused b p }
reads_stopped (next_record {b = b} {h = h} {y = y} {c = c} {rs = rs} f p d s) o =
    let o1 : Octets ((h ++ y) ++ c) = subst Octets d o in
    let e : encoded (record_of h) y ≡ h ++ y = encoded_back h f.checked y f.full f.size (octets_front h y (octets_front (h ++ y) c o1)) in
    let t = reads_stopped s (octets_back (h ++ y) c o1) in
    record {
      rest = t.rest;
      joins = d ∙ (λ j. sym e j ++ t.joins j) ∙ sym (append_assoc (encoded (record_of h) y) (encodings rs) t.rest);
      refused = t.refused;
    }

after_as : {b : List ℕ} {r : Run} → Drains b r → Octets b → passes r.refusal ≡ false → RefusedAfter b r
after_as (goes z c k) o e = true_not_false (ap (λ (x : Refusal). passes x) (sym z) ∙ e)
after_as (stops z h w k) o e = let t = reads_stopped k o in record { rest = t.rest; joins = t.joins; refused = t.refused }

refused_after : RefusedAfterRecords
refused_after p s xs r oh ox room e = after_as (drained_reads xs p s (record { ready = r; room = room })) (octets_append oh ox) e

pub sent_claims : SentClaims
sent_claims = record { unique = unique; read_back = read_back; refused_after = refused_after }
