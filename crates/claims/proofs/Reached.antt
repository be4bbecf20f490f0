-- Every sound listing is reached. Records of all zeros but for type and payload, one to a call, give each offset and open that adds up:
-- other records first, then as few DATA as carry open, or a little more of them and a CREDIT. A last call is lent the bytes that the
-- listing holds, or a record that is refused. Assumes nothing.
use Prim.Native.Nat.{ℕ, zero, suc, ◌+◌, ◌-◌, ◌*◌, ◌/◌, ◌%◌, ◌^◌, ◌≤◌, ◌<◌}
use mathlib.Core.Path.{◌≡◌, refl, sym, ap, subst, ◌∙◌}
use mathlib.Core.Bool.{Bool, true, ◌&&◌, ◌||◌}
use mathlib.Core.List.{List, [], ◌∷◌, ◌++◌, append-nil}
use native.Mathlib.Omega.{arith}
use native.Mathlib.Decide.{dec_lt, ℕ_discrete}
use lib.ListN.{length, take, drop, replicate, length-append, length-replicate, length-take, length-drop, take-append-drop}
use lib.Seq.{take_at, take_all, drop_at}
use lib.Dec.{eqb, leb, ltb}
use borrow.Author.Tests.{le-leb, leb-true, eq-eqb, ne_eqb, eqb-true, lt-ltb, le-ltb, ltb-true}
use Rattle.std.specs.Prelude.{Option, Some, None}
use Rattle.wire.specs.Bytes.{from_le, to_le, overlay, Octets, end, octet}
use Rattle.wire.specs.Refusals.{pick, refusal, none, first, passes}
use Rattle.wire.specs.Header.{magic_of, version_of, type_of, flags_of, instance_of, epoch_of, sequence_of, length_of, header_bytes}
use Rattle.wire.specs.Refusals as refusals
use Rattle.wire.specs.declared.Refusal.{Refusal}
use Rattle.wire.specs.declared.errors.RecordError.{RecordError}
use Rattle.wire.proofs.Rows.{pass_all, picked, and_left, and_right}
use Rattle.wire.proofs.NumberLaws.{from_to, length_to}
use Rattle.outer.specs.Outer.{max_payload, value_of, window_ok, credit_ok}
use Rattle.record.specs.Types.{code_of, length_ok, type_at}
use Rattle.record.specs.declared.types.RecordType.{RecordType}
use Rattle.record.specs.declared.types.RecordType.TheVariants.{HostAttach, Reset, Ack, Data, Credit}
use Rattle.record.specs.Record.{all_zero, header_checks, payload_checks, record_rows, record_bytes}
use Rattle.parser.specs.Push.{latched, latch}
use Rattle.parser.proofs.Latches.{latching}
use Rattle.parser.specs.Push as parser
use Rattle.parser.specs.Push.{parser_of, counts_ok, error_ok, sound_parser, Push, stopped, waiting, failed, finish, body_taken, push_body, head_taken, head_with, push_head, push_rows, push, held_in, buffered_of}
use Rattle.parser.specs.declared.RecordParser.{RecordParser}
use Rattle.parser.specs.declared.Place.TheVariants.{Piece}
use Rattle.parser.proofs.Cases.{held_counts, filling_counts}
use Rattle.claims.specs.Reading.{record_from}
use Rattle.claims.proofs.Octets.{octets_take, octets_append, octets_zeros}
use Rattle.claims.proofs.Records.{encoding_scans, encoding_record, encoding_length}
use Rattle.claims.proofs.Scans.{refused, scan, scan_value, scan_body, scan_header}
use Rattle.claims.proofs.Latch.{again}
use Rattle.claims.proofs.Feeds.{fresh_ready}
use Rattle.text.specs.Lines.{line_room}
use Rattle.listing.specs.Reach.{limit, others, adds_up, refused_bytes}
use Rattle.listing.specs.Listing.{open_after}
use Rattle.listing.specs.Settled.{idle, settled, number_only, is_settled}
use Rattle.listing.specs.Steps.{listing_of, fresh, sound_listing, list_of, Outcome}
use Rattle.listing.specs.Calls as calls
use Rattle.listing.specs.Calls.{Calls, stop, call, written, all_taken}
use Rattle.listing.specs.declared.Listing.{Listing}
use Rattle.listing.proofs.Settled.{keeps_all}
use Rattle.listing.proofs.Cases.{facts}
use Rattle.listing.proofs.Sums.{Rest, nothing, plain, attach, many, value, Sum, sum_of, refused_0}
use Rattle.claims.specs.Claims.{Sized, Reached, SoundIsReached}
use Rattle.claims.proofs.Futures.{Good}
use Rattle.claims.proofs.OneCall.{calls_more, calls_then, At, Took, took, waits, fails}

-- ---- the start
pub first_good : (stage : List ℕ) → max_payload ≤ length stage → Good fresh stage
unfolding sound_listing sound_parser counts_ok error_ok is_settled number_only all_zero adds_up others refused_bytes
first_good stage l = record { sound = refl; room = l; ready = λ _. (fresh_ready stage).0 }

-- ---- bytes
octets_to : (n v : ℕ) → Octets (to_le n v)
unfolding to_le
octets_to zero v = end
octets_to (suc n) v = octet {x = v % 256} (omega arith) (octets_to n (v / 256))

abbrev zeros : List ℕ
zeros = replicate 16 0

octets_header : (t n : ℕ) → t < 256 → Octets (header_bytes t zeros 0 0 n)
unfolding header_bytes
octets_header t n l =
    (octet {x = 78} (omega arith) (octet {x = 86} (omega arith) (octet {x = 88} (omega arith) (octet {x = 83} (omega arith)
    (octets_append (octets_to 2 1) (octet {x = t} l (octet {x = 0} (omega arith)
    (octets_append (octets_zeros 16) (octets_append (octets_to 8 0) (octets_append (octets_to 8 0) (octets_to 4 n)))))))))))

value_back : (v : ℕ) → v < 2 ^ 32 → value_of (to_le 4 v) ≡ v
unfolding value_of
value_back v h = simp (eq-eqb (length (to_le 4 v)) 4 (length_to 4 v)) (from_to 4 v h)

credit_ok_lem : (v : ℕ) → 1 ≤ v → v ≤ 4194314 → credit_ok v ≡ true
unfolding credit_ok
credit_ok_lem v a b = λ j. le-leb 1 v a j && le-leb v 4194314 b j

-- the output of each call
abbrev out : List ℕ
out = replicate 126 0

out_room : line_room ≤ length out
out_room = omega (arith, length-replicate {A = ℕ} 126 0)

-- ---- whole records
record Reach (stage : List ℕ) (offset o : ℕ) : Type 0 where
  input : List ℕ
  t : Listing
  after : List ℕ
  texts : List (List ℕ)
  octets : Octets input
  size : length input ≡ offset
  calls : Calls fresh stage input [] t after texts
  at : At t after
  offset_is : t.offset ≡ offset
  open_is : t.«open» ≡ o

-- one call more
one_more : {stage input after : List ℕ} {t : Listing} {texts : List (List ℕ)} → Calls fresh stage input [] t after texts → (piece : List ℕ)
    → Calls fresh stage (input ++ piece) (drop (list_of t piece after out).listed.taken piece) (list_of t piece after out).listed.listing (list_of t piece after out).stage (texts ++ (written (list_of t piece after out) ∷ []))
one_more {after = after} {t = t} c piece =
    let x : Outcome = list_of t piece after out in
    let left : List ℕ = drop x.listed.taken piece in
    let z : Calls x.listed.listing x.stage (left ++ []) left x.listed.listing x.stage [] = rw (append-nil left) stop in
    let d : Calls t after (piece ++ []) left x.listed.listing x.stage (written x ∷ []) = call piece [] out out_room z in
    calls_then (calls_more c piece) (rw (append-nil piece) at d)

module _ (stage : List ℕ) where
  reach_0 : max_payload ≤ length stage → Reach stage 0 0
  reach_0 l =
      record {
        input = [];
        t = fresh;
        after = stage;
        texts = [];
        octets = end;
        size = refl;
        calls = stop;
        at = record { good = first_good stage l; parser = refl };
        offset_is = refl;
        open_is = refl;
      }

  module _ {f o : ℕ} (r : Reach stage f o) where
    reach_record : (k : RecordType) (y : List ℕ) → code_of k < 256 → Octets y → passes (first (record_rows (code_of k) zeros 0 0 y)) ≡ true
        → f + (44 + length y) ≤ limit → Reach stage (f + (44 + length y)) (open_after o (code_of k) (length y) y)
    reach_record k y code octets ok l =
        let piece : List ℕ = record_bytes (code_of k) zeros 0 0 y in
        let x : Outcome = list_of r.t piece r.after out in
        let n : length piece ≡ 44 + length y = encoding_length k zeros 0 0 y refl (omega arith) (omega arith) ok in
        let q = ap scan (sym (append-nil piece)) ∙ encoding_scans k zeros 0 0 y refl (omega arith) (omega arith) ok [] in
        let w : Took r.t r.after piece out r.at (omega (arith, r.offset_is)) (omega arith) out_room x (length y) (open_after r.t.«open» (code_of k) (length y) y) =
        took r.t r.after piece out r.at (omega (arith, r.offset_is)) (omega arith) out_room (header_bytes (code_of k) zeros 0 0 (length y)) y (record_from k zeros 0 0 (length y)) q n
        (encoding_record k zeros 0 0 y refl (omega arith) (omega arith) ok)
        in
        record {
          input = r.input ++ piece;
          t = x.listed.listing;
          after = x.stage;
          texts = r.texts ++ (written x ∷ []);
          octets = octets_append r.octets (octets_append (octets_header (code_of k) (length y) code) octets);
          size = length-append r.input piece ∙ omega (arith, r.size);
          calls = rw w.all at (one_more r.calls piece);
          at = w.at;
          offset_is = w.offset ∙ ap (λ (i : ℕ). i + (44 + length y)) r.offset_is;
          open_is = w.«open» ∙ ap (λ (i : ℕ). open_after i (code_of k) (length y) y) r.open_is;
        }

    reset : f + 44 ≤ limit → Reach stage (f + 44) 0
    unfolding open_after first length_ok
    reset l = reach_record Reset [] (omega arith) end refl l

    host_attach : f + 76 ≤ limit → Reach stage (f + 76) o
    unfolding open_after first length_ok all_zero
    host_attach l = reach_record HostAttach (replicate 32 0) (omega arith) (octets_zeros 32) refl l

    -- of a window of 65,536
    ack : f + 48 ≤ limit → Reach stage (f + 48) o
    unfolding open_after first length_ok value_of from_le window_ok
    ack l = reach_record Ack (0 ∷ 0 ∷ 1 ∷ 0 ∷ []) (omega arith) (octet {x = 0} (omega arith) (octet {x = 0} (omega arith) (octet {x = 1} (omega arith) (octet {x = 0} (omega arith) end)))) refl l

    datum : (n : ℕ) → 1 ≤ n → n ≤ 65536 → f + (44 + n) ≤ limit → Reach stage (f + (44 + n)) (o + n)
    unfolding open_after length_ok
    datum n a b l =
        let y : List ℕ = replicate n 0 in
        let e : length y ≡ n = length-replicate {A = ℕ} n 0 in
        subst (λ (i : ℕ). Reach stage (f + (44 + i)) (o + i)) e
        (reach_record Data y (omega arith) (octets_zeros n)
        (pass_all (record_rows 5 zeros 0 0 y) (λ j. le-leb 1 (length y) (omega arith) j && le-leb (length y) 65536 (omega arith) j, (refl, (refl, (refl, (refl, tt)))))) (omega arith))

    credit : (v : ℕ) → 1 ≤ v → v ≤ 65536 → f + 48 ≤ limit → Reach stage (f + 48) (o - v)
    unfolding open_after length_ok
    credit v a b l =
        let y : List ℕ = to_le 4 v in
        let e : length y ≡ 4 = length_to 4 v in
        let q : value_of y ≡ v = value_back v (omega arith) in
        subst (λ (i : ℕ). Reach stage (f + (44 + i)) (o - v)) e
        (subst (λ (i : ℕ). Reach stage (f + (44 + length y)) (o - i)) q
        (reach_record Credit y (omega arith) (octets_to 4 v)
        (pass_all (record_rows 9 zeros 0 0 y) (eq-eqb (length y) 4 e, (refl, (refl, (ap credit_ok q ∙ credit_ok_lem v a (omega arith), (refl, tt)))))) (omega arith)))

  module _ (room : max_payload ≤ length stage) where
    -- any number of bytes from 88 on, and open 0
    far : (n x : ℕ) → x ≤ n → 88 ≤ x → x ≤ limit → Reach stage x 0
    far zero x l m k = absurd (omega arith)
    far (suc n) x l m k = go (dec_lt x 132) (ℕ_discrete x 88) (far n (x - 44))
      where
        go : Dec (x < 132) → Dec (x ≡ 88) → (x - 44 ≤ n → 88 ≤ x - 44 → x - 44 ≤ limit → Reach stage (x - 44) 0) → Reach stage x 0
        go (yes a) (yes b) g = subst (λ (i : ℕ). Reach stage i 0) (sym b) (reset (reset (reach_0 room) (omega arith)) (omega arith))
        go (yes a) (no b) g =
            let e : 0 + (44 + (x - 88)) + 44 ≡ x = omega arith in
            subst (λ (i : ℕ). Reach stage i 0) e (reset (datum (reach_0 room) (x - 88) (omega arith) (omega arith) (omega arith)) (omega arith))
        go (no a) b g =
            let e : x - 44 + 44 ≡ x = omega arith in
            subst (λ (i : ℕ). Reach stage i 0) e (reset (g (omega arith) (omega arith) (omega arith)) (omega arith))

    -- d DATA records, all but the last of 65,536 bytes
    datas : (d f p : ℕ) → Reach stage f 0 → p ≤ 65536 * d → 65536 * d < p + 65536 → f + p + 44 * d ≤ limit → Reach stage (f + p + 44 * d) p
    datas zero f p r a b l =
        let z : 0 ≡ p = omega arith in
        let e : f ≡ f + p + 44 * 0 = omega arith in
        subst (λ (i : ℕ). Reach stage i p) e (subst (Reach stage f) z r)
    datas (suc d) f p r a b l =
        let n : ℕ = p - 65536 * d in
        let e : f + 65536 * d + 44 * d + (44 + n) ≡ f + p + 44 * suc d = omega arith in
        let z : 65536 * d + n ≡ p = omega arith in
        subst (λ (i : ℕ). Reach stage i p) e
        (subst (Reach stage (f + 65536 * d + 44 * d + (44 + n))) z
        (datum (datas d f (65536 * d) r (omega arith) (omega arith) (omega arith)) n (omega arith) (omega arith) (omega arith)))

    module _ (offset o : ℕ) (s : Sum offset o) (l : offset ≤ limit) where
      abbrev d : ℕ
      d = s.count

      -- after x bytes of other records
      behind : (x : ℕ) → s.rest ≡ x → Reach stage x 0 → Reach stage offset o
      behind x e r =
          let b = s.bytes in
          let c = s.carried in
          let g = s.fewest in
          let q : x + o + 44 * d ≡ offset = omega arith in
          subst (λ (i : ℕ). Reach stage i o) q (datas d x o r (omega arith) (omega arith) (omega arith))

      sums : Reach stage offset o
      sums = go s.others
        where
          -- a CREDIT of v behind DATA that carry open and v
          credited : (v : ℕ) → s.rest ≡ 48 + v → 1 ≤ v → v ≤ s.room → Reach stage offset o
          credited v e a m =
              let b = s.bytes in
              let c = s.carried in
              let g = s.fewest in
              let q : 0 + (o + v) + 44 * d + 48 ≡ offset = omega arith in
              let z : o + v - v ≡ o = omega arith in
              subst (λ (i : ℕ). Reach stage i o) q
              (subst (Reach stage (0 + (o + v) + 44 * d + 48)) z
              (credit (datas d 0 (o + v) (reach_0 room) (omega arith) (omega arith) (omega arith)) v a (omega arith) (omega arith)))

          go : Rest s.room s.rest → Reach stage offset o
          go (nothing e) = behind 0 e (reach_0 room)
          go (plain e) = behind 44 e (reset (reach_0 room) (omega arith))
          go (attach e) = behind 76 e (host_attach (reach_0 room) (omega arith))
          go (many e) = behind s.rest refl (far s.rest s.rest (omega arith) e (omega (arith, s.bytes)))
          go (value a b) = four (ℕ_discrete s.rest 48)
            where
              four : Dec (s.rest ≡ 48) → Reach stage offset o
              four (yes e) = behind 48 e (ack (reach_0 room) (omega arith))
              four (no e) = let z : s.rest ≡ 48 + (s.rest - 48) = omega arith in credited (s.rest - 48) z (omega arith) (omega arith)

-- ---- records that are refused
record Bad (n : ℕ) : Type 0 where
  piece : List ℕ
  octets : Octets piece
  size : length piece ≡ refused_bytes n
  told : Refusal
  scans : scan piece ≡ refused told
  number : told.number ≡ n

-- whether every number of a list is a byte
bytes? : List ℕ → Bool
bytes? [] = true
bytes? (x ∷ l) = ltb x 256 && bytes? l

octets_of : (l : List ℕ) → bytes? l ≡ true → Octets l
unfolding bytes?
octets_of [] e = end
octets_of (x ∷ l) e = octet (ltb-true x 256 (and_left (ltb x 256) (bytes? l) e)) (octets_of l (and_right (ltb x 256) (bytes? l) e))

-- magic and version, type and flags
abbrev begins : ℕ → ℕ → List ℕ → List ℕ
begins t flags l = 78 ∷ 86 ∷ 88 ∷ 83 ∷ 1 ∷ 0 ∷ t ∷ flags ∷ l

-- a value of 0
abbrev valued : ℕ → List ℕ
valued t = begins t 0 (replicate 32 0 ++ (4 ∷ 0 ∷ 0 ∷ 0 ∷ 0 ∷ 0 ∷ 0 ∷ 0 ∷ []))

bad : (n : ℕ) (l : List ℕ) (r : Refusal) → bytes? l ≡ true → length l ≡ refused_bytes n → scan l ≡ refused r → r.number ≡ n → Bad n
bad n l r o e q w = record { piece = l; octets = octets_of l o; size = e; told = r; scans = q; number = w }

-- the number is k, or above it
up : {n : ℕ} (k : ℕ) → Bad k → (k < n → Bad n) → k ≤ n → Bad n
up {n} k b f l = go (dec_lt k n)
  where
    go : Dec (k < n) → Bad n
    go (yes m) = f m
    go (no m) = let e : k ≡ n = omega arith in subst Bad e b

refused_some : (n : ℕ) → 1 ≤ n → 44 ≤ refused_bytes n
unfolding refused_bytes
refused_some n l = simp (ne_eqb n 0 (λ z. omega arith)) (picked (λ (i : ℕ). 44 ≤ i) (leb n 6) (λ _. omega arith) (λ _. omega arith))

bads : (n : ℕ) → 1 ≤ n → n ≤ 9 → Bad n
unfolding bytes? scan scan_header scan_body scan_value header_checks payload_checks first magic_of version_of type_of flags_of instance_of epoch_of sequence_of length_of from_le type_at length_ok all_zero value_of window_ok credit_ok refused_bytes
bads n a b =
    up 1 (bad 1 (replicate 44 0) (refusal 1 0 0 0) refl refl refl refl)
    (up 2 (bad 2 (78 ∷ 86 ∷ 88 ∷ 83 ∷ replicate 40 0) (refusal 2 0 0 0) refl refl refl refl)
    (up 3 (bad 3 (begins 0 0 (replicate 36 0)) (refusal 3 0 0 0) refl refl refl refl)
    (up 4 (bad 4 (begins 1 1 (replicate 36 0)) (refusal 4 1 0 0) refl refl refl refl)
    (up 5 (bad 5 (begins 5 0 (replicate 36 0)) (refusal 5 5 0 0) refl refl refl refl)
    (up 6 (bad 6 (begins 1 0 (1 ∷ replicate 35 0)) (refusal 6 1 0 0) refl refl refl refl)
    (up 7 (bad 7 (valued 8) (refusal 7 0 0 0) refl refl refl refl)
    (up 8 (bad 8 (valued 4) (refusal 8 0 0 0) refl refl refl refl)
    (up 9 (bad 9 (valued 9) (refusal 9 0 0 0) refl refl refl refl)
    (λ c. absurd (omega arith))))))))))
    a

-- ---- what a sound listing keeps
-- two lists of zeros of one length are the same
zeros_are : (l : List ℕ) → all_zero l ≡ true → l ≡ replicate (length l) 0
unfolding all_zero
zeros_are [] e = refl
zeros_are (x ∷ l) e = λ i. eqb-true x 0 (and_left (eqb x 0) (all_zero l) e) i ∷ zeros_are l (and_right (eqb x 0) (all_zero l) e) i

zeros_of : (n : ℕ) (l : List ℕ) → length l ≡ n → all_zero l ≡ true → l ≡ replicate n 0
zeros_of n l e z = zeros_are l z ∙ ap (λ (k : ℕ). replicate k 0) e

drop_zeros : (n m : ℕ) → drop {A = ℕ} n (replicate m 0) ≡ replicate (m - n) 0
drop_zeros zero m = let e : m ≡ m - 0 = omega arith in ap (λ (k : ℕ). replicate k 0) e
drop_zeros (suc n) zero = let e : 0 ≡ 0 - suc n = omega arith in ap (λ (k : ℕ). replicate k 0) e
drop_zeros (suc n) (suc m) = let e : m - n ≡ suc m - suc n = omega arith in drop_zeros n m ∙ ap (λ (k : ℕ). replicate k 0) e

-- a refusal that is its number alone
number_is : (r : Refusal) → number_only r ≡ true → length r.expected ≡ 16 → length r.actual ≡ 16 → r ≡ refusal r.number 0 0 0
unfolding number_only
number_is r t x y =
    let t1 = and_right (eqb r.a 0) (eqb r.b 0 && (eqb r.c 0 && (all_zero r.expected && all_zero r.actual))) t in
    let t2 = and_right (eqb r.b 0) (eqb r.c 0 && (all_zero r.expected && all_zero r.actual)) t1 in
    let t3 = and_right (eqb r.c 0) (all_zero r.expected && all_zero r.actual) t2 in
    let ea : r.a ≡ 0 = eqb-true r.a 0 (and_left (eqb r.a 0) (eqb r.b 0 && (eqb r.c 0 && (all_zero r.expected && all_zero r.actual))) t) in
    let eb : r.b ≡ 0 = eqb-true r.b 0 (and_left (eqb r.b 0) (eqb r.c 0 && (all_zero r.expected && all_zero r.actual)) t1) in
    let ec : r.c ≡ 0 = eqb-true r.c 0 (and_left (eqb r.c 0) (all_zero r.expected && all_zero r.actual) t2) in
    let ex : r.expected ≡ replicate 16 0 = zeros_of 16 r.expected x (and_left (all_zero r.expected) (all_zero r.actual) t3) in
    let ey : r.actual ≡ replicate 16 0 = zeros_of 16 r.actual y (and_right (all_zero r.expected) (all_zero r.actual) t3) in
    λ i. record { number = r.number; a = ea i; b = eb i; c = ec i; expected = ex i; actual = ey i }

-- ---- bytes that a parser holds
-- a push from the start that leaves header bytes h and k payload bytes
record Part (h : List ℕ) (n k : ℕ) : Type 0 where
  piece : List ℕ
  octets : Octets piece
  size : length piece ≡ n + k
  pushes : (stage : List ℕ) → 65536 ≤ length stage → (push parser.fresh (length stage) (held_in parser.fresh stage) piece).answer ≡ waiting h n k (length piece)

module _ (h : List ℕ) (o : Octets h) (l : length h ≡ 44) where
  starts : (piece stage : List ℕ) → 65536 ≤ length stage → push parser.fresh (length stage) [] piece ≡ push_head (replicate 44 0) 0 0 [] piece
  unfolding push sound_parser counts_ok error_ok
  starts piece stage r =
      ap (λ (t : Bool). pick t (push_head (replicate 44 0) 0 0 [] piece) (record { answer = stopped parser.fresh (first (push_rows parser.fresh (length stage))); held = []; payload = [] }))
      (pass_all (push_rows parser.fresh (length stage)) (refl, (le-leb 65536 (length stage) r, (refl, tt))))

  -- not the whole of a header: the rest is 0
  module _ (n : ℕ) (low : n < 44) (z : all_zero (drop n h) ≡ true) where
    long : length (take n h) ≡ n
    long = length-take n h ∙ omega arith

    taken : head_taken 0 (take n h) ≡ n
    taken = omega (arith, long)

    front : head_with (replicate 44 0) 0 (take n h) ≡ h
    unfolding head_with overlay
    front =
        let same : take (head_taken 0 (take n h)) (take n h) ≡ take n h = take_all (head_taken 0 (take n h)) (take n h) (omega (arith, taken, long)) in
        let rest : length (drop n h) ≡ 44 - n = length-drop n h ∙ omega arith in
        ap (λ (x : List ℕ). x ++ drop (0 + length x) (replicate 44 0)) same
        ∙ ap (λ (k : ℕ). take n h ++ drop (0 + k) (replicate 44 0)) long
        ∙ ap (λ (x : List ℕ). take n h ++ x) (drop_zeros (0 + n) 44 ∙ ap (λ (k : ℕ). replicate (44 - k) 0) (let q : 0 + n ≡ n = omega arith in q) ∙ sym (zeros_of (44 - n) (drop n h) rest z))
        ∙ take-append-drop n h

    waits_for : (push_head (replicate 44 0) 0 0 [] (take n h)).answer ≡ waiting h n 0 (length (take n h))
    unfolding push_head
    waits_for =
        let q : 0 + head_taken 0 (take n h) ≡ n = omega (arith, taken) in
        let H : List ℕ = head_with (replicate 44 0) 0 (take n h) in
        let m : ℕ = head_taken 0 (take n h) in
        ap (λ (t : Bool). (pick t (record { answer = waiting H (0 + m) 0 m; held = []; payload = [] })
        (pick (passes (header_checks H)) (push_body H 0 [] (drop m (take n h)) m) (record { answer = failed H (header_checks H); held = []; payload = [] }))).answer)
        (lt-ltb (0 + head_taken 0 (take n h)) 44 (omega arith))
        ∙ (λ i. waiting (front i) (q i) 0 ((taken ∙ sym long) i))

    in_head_part : Part h n 0
    in_head_part =
        record { piece = take n h; octets = octets_take n o; size = long ∙ omega arith; pushes = λ stage r. ap (λ (u : Push). u.answer) (starts (take n h) stage r) ∙ waits_for }

  -- a header that passes, and k of its payload bytes
  module _ (k : ℕ) (ok : passes (header_checks h) ≡ true) (low : k < length_of h) where
    abbrev y : List ℕ
    y = replicate k 0

    y_long : length y ≡ k
    y_long = length-replicate {A = ℕ} k 0

    body_long : length (h ++ y) ≡ 44 + k
    body_long = length-append h y ∙ omega (arith, y_long)

    abbrev piece : List ℕ
    piece = h ++ y

    head_taken_lem : head_taken 0 piece ≡ 44
    head_taken_lem = omega (arith, body_long)

    body_front : head_with (replicate 44 0) 0 piece ≡ h
    unfolding head_with overlay
    body_front =
        let same : take (head_taken 0 piece) piece ≡ h = take_at h y (head_taken 0 piece) (omega (arith, head_taken_lem)) in
        ap (λ (x : List ℕ). x ++ drop (0 + length x) (replicate 44 0)) same ∙ ap (λ (j : ℕ). h ++ drop (0 + j) (replicate 44 0)) l ∙ append-nil h

    body_taken_lem : body_taken h 0 y ≡ k
    body_taken_lem = omega (arith, y_long)

    body_waits : (push_body h 0 [] y 44).answer ≡ waiting h 44 k (length piece)
    unfolding push_body
    body_waits =
        let q : 0 + body_taken h 0 y ≡ k = omega (arith, body_taken_lem) in
        let w : 44 + body_taken h 0 y ≡ length piece = omega (arith, body_taken_lem, body_long) in
        ap (λ (t : Bool). (pick t (record { answer = waiting h 44 (0 + body_taken h 0 y) (44 + body_taken h 0 y); held = [] ++ take (body_taken h 0 y) y; payload = [] })
        (finish h ([] ++ take (body_taken h 0 y) y) (44 + body_taken h 0 y) (Piece 44))).answer)
        (lt-ltb (0 + body_taken h 0 y) (length_of h) (omega arith))
        ∙ (λ i. waiting h 44 (q i) (w i))

    body_waits_for : (push_head (replicate 44 0) 0 0 [] piece).answer ≡ waiting h 44 k (length piece)
    unfolding push_head
    body_waits_for =
        let W : Push = record { answer = waiting (head_with (replicate 44 0) 0 piece) (0 + head_taken 0 piece) 0 (head_taken 0 piece); held = []; payload = [] } in
        (λ i.
        (pick (le-ltb (0 + head_taken 0 piece) 44 (omega (arith, head_taken_lem)) i) W
        (pick (passes (header_checks (body_front i))) (push_body (body_front i) 0 [] (drop (head_taken_lem i) piece) (head_taken_lem i)) (record { answer = failed (body_front i) (header_checks (body_front i)); held = []; payload = [] }))
        ).answer)
        ∙ ap (λ (t : Bool). (pick t (push_body h 0 [] (drop 44 piece) 44) (record { answer = failed h (header_checks h); held = []; payload = [] })).answer) ok
        ∙ ap (λ (z : List ℕ). (push_body h 0 [] z 44).answer) (drop_at h y 44 l)
        ∙ body_waits

    in_body_part : Part h 44 k
    in_body_part =
        record { piece = piece; octets = octets_append o (octets_zeros k); size = body_long; pushes = λ stage r. ap (λ (u : Push). u.answer) (starts piece stage r) ∙ body_waits_for }

-- an error of which no more is kept than its number is the one that this number latches
error_back : (x : Option RecordError) → refusals.refused x ≡ refusal (refusals.refused x).number 0 0 0 → x ≡ latch (refusal (refusals.refused x).number 0 0 0)
unfolding latch
error_back None q = refl
error_back (Some e) q = latching e ∙ ap latch q

-- ---- what is reached
module _ (s : Listing) (stage : List ℕ) (room : max_payload ≤ length stage) (z : Sized s) (t : sound_listing s ≡ true) where
  abbrev p : RecordParser
  p = s.parser

  abbrev n : ℕ
  n = (latched p).number

  r : Reach stage s.offset s.«open»
  r = let f = facts s t in sums stage room s.offset s.«open» (sum_of s.offset s.«open» f.sums) (omega (arith, f.read))

  counts : counts_ok p.header p.header_len p.payload_len ≡ true
  unfolding sound_parser
  counts = and_left (counts_ok p.header p.header_len p.payload_len) (error_ok n p.header_len) (facts s t).parser

  -- a latched error is one of 1 to 9, and goes with no header byte
  latched_low : 1 ≤ n → (n ≤ 9) × (p.header_len ≡ 0)
  unfolding sound_parser error_ok
  latched_low e =
      let w : leb n 9 && eqb p.header_len 0 ≡ true =
      sym (ap (λ (x : Bool). x || (leb n 9 && eqb p.header_len 0)) (ne_eqb n 0 (λ q. omega arith)))
      ∙ and_right (counts_ok p.header p.header_len p.payload_len) (error_ok n p.header_len) (facts s t).parser
      in
      (leb-true n 9 (and_left (leb n 9) (eqb p.header_len 0) w), eqb-true p.header_len 0 (and_right (leb n 9) (eqb p.header_len 0) w))

  error_is : (latched p) ≡ refusal n 0 0 0
  unfolding is_settled
  error_is = number_is (latched p) (and_left (number_only (latched p)) (all_zero (drop p.header_len p.header)) (facts s t).settled) z.expected z.actual

  zero_behind : all_zero (drop p.header_len p.header) ≡ true
  unfolding is_settled
  zero_behind = and_right (number_only (latched p)) (all_zero (drop p.header_len p.header)) (facts s t).settled

  error_latch : p.error ≡ latch (refusal n 0 0 0)
  error_latch = error_back p.error error_is

  -- no header byte is held
  idle_is : p.header_len ≡ 0 → p ≡ idle n
  idle_is e =
      let k : p.payload_len ≡ 0 = (filling_counts p.header p.header_len p.payload_len counts (λ q. omega arith)).1 in
      let h : p.header ≡ replicate 44 0 = zeros_of 44 p.header z.header (subst (λ (j : ℕ). all_zero (drop j p.header) ≡ true) e zero_behind) in
      λ i. parser_of (h i) (e i) (k i) (error_latch i)

  -- the last call leaves s
  leaves : (x : Listing) → x.parser ≡ p → x.offset ≡ s.offset → x.«open» ≡ s.«open» → x ≡ s
  leaves x a b c = λ i. listing_of (a i) (b i) (c i)

  -- nothing is held
  between : p.header_len ≡ 0 → n ≡ 0 → Reached s stage
  unfolding latch
  between e q =
      let k : p.payload_len ≡ 0 = (filling_counts p.header p.header_len p.payload_len counts (λ q. omega arith)).1 in
      record {
        input = r.input;
        left = [];
        after = r.after;
        texts = r.texts;
        octets = r.octets;
        size = r.size ∙ omega (arith, refused_0 n q);
        calls = subst (λ (x : Listing). Calls fresh stage r.input [] x r.after r.texts)
            (leaves r.t (r.at.parser ∙ ap idle (sym q) ∙ sym (idle_is e)) r.offset_is r.open_is) r.calls;
        ended = all_taken refl;
      }

  -- the first part of a record is held
  under_way : Part p.header p.header_len p.payload_len → (p.header_len ≡ 0 → ⊥) → Reached s stage
  unfolding latch
  under_way b e =
      let q : n ≡ 0 = clear in
      let f = facts s t in
      let w = waits r.t r.after b.piece out r.at (omega (arith, r.offset_is, b.size, f.read)) (omega (arith, b.size)) out_room p.header p.header_len p.payload_len
      (b.pushes r.after r.at.good.room) in
      let x : Outcome = list_of r.t b.piece r.after out in
      let same : x.listed.listing ≡ s =
      w.1
      ∙ leaves (listing_of (settled (parser_of p.header p.header_len p.payload_len None)) r.t.offset r.t.«open»)
      (sym (keeps_all (parser_of p.header p.header_len p.payload_len None) e)
      ∙ (λ i. parser_of p.header p.header_len p.payload_len (sym (error_latch ∙ ap (λ (j : ℕ). latch (refusal j 0 0 0)) q) i)))
      r.offset_is r.open_is
      in
      record {
        input = r.input ++ b.piece;
        left = drop x.listed.taken b.piece;
        after = x.stage;
        texts = r.texts ++ (written x ∷ []);
        octets = octets_append r.octets b.octets;
        size = length-append r.input b.piece ∙ omega (arith, r.size, b.size, refused_0 n q);
        calls = subst (λ (l : Listing). Calls fresh stage (r.input ++ b.piece) (drop x.listed.taken b.piece) l x.stage (r.texts ++ (written x ∷ []))) same (one_more r.calls b.piece);
        ended = all_taken w.0;
      }
    where
      clear : n ≡ 0
      clear = go (dec_lt 0 n)
        where
          go : Dec (0 < n) → n ≡ 0
          go (yes l) = absurd (e (latched_low l).1)
          go (no l) = omega arith

  -- the last record was refused
  stopped_at : 1 ≤ n → Reached s stage
  stopped_at e =
      let b : Bad n = bads n e (latched_low e).0 in
      let f = facts s t in
      let none_held : buffered_of p ≡ 0 = (again p 65536 [] [] f.parser (ne_eqb n 0 (λ q. omega arith)) (omega arith)).buffered in
      let some : 44 ≤ refused_bytes n = refused_some n e in
      let w = fails r.t r.after b.piece out r.at (omega (arith, r.offset_is, b.size, f.all)) (omega (arith, b.size)) out_room b.told b.scans in
      let x : Outcome = list_of r.t b.piece r.after out in
      let same : x.listed.listing ≡ s =
      w ∙ leaves (listing_of (idle b.told.number) r.t.offset r.t.«open») (ap idle b.number ∙ sym (idle_is (latched_low e).1)) r.offset_is r.open_is
      in
      record {
        input = r.input ++ b.piece;
        left = drop x.listed.taken b.piece;
        after = x.stage;
        texts = r.texts ++ (written x ∷ []);
        octets = octets_append r.octets b.octets;
        size = length-append r.input b.piece ∙ omega (arith, r.size, b.size);
        calls = subst (λ (l : Listing). Calls fresh stage (r.input ++ b.piece) (drop x.listed.taken b.piece) l x.stage (r.texts ++ (written x ∷ []))) same (one_more r.calls b.piece);
        ended = calls.refused (ne_eqb n 0 (λ q. omega arith));
      }

pub reached : SoundIsReached
reached s stage room z t = go (dec_lt 0 (latched s.parser).number) (ℕ_discrete s.parser.header_len 0) (ℕ_discrete s.parser.header_len 44)
  where
    p : RecordParser
    p = s.parser

    go : Dec (0 < (latched p).number) → Dec (p.header_len ≡ 0) → Dec (p.header_len ≡ 44) → Reached s stage
    go (yes e) a b = stopped_at s stage room z t e
    go (no e) (yes a) b = between s stage room z t a (omega arith)
    go (no e) (no a) (yes b) =
        let c = held_counts p.header p.header_len p.payload_len (counts s stage room z t) b in
        under_way s stage room z t (subst (λ (j : ℕ). Part p.header j p.payload_len) (sym b) (in_body_part p.header z.octets z.header p.payload_len c.0 c.1)) a
    go (no e) (no a) (no b) =
        let c = filling_counts p.header p.header_len p.payload_len (counts s stage room z t) b in
        under_way s stage room z t (subst (Part p.header p.header_len) (sym c.1) (in_head_part p.header z.octets z.header p.header_len c.0 (zero_behind s stage room z t))) a
