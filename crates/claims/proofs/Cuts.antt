-- Cutting never matters: whatever the pieces, a caller sees what the whole string of bytes reads as (`Reads`), and that reading is one
-- (`reads_same`). It leans on what a push tells of the bytes held and the piece. Assumes nothing.
use Prim.Native.Nat.{ℕ, zero, suc, ◌+◌, ◌-◌, ◌≤◌, ◌<◌}
use mathlib.Core.Path.{◌≡◌, refl, sym, ap, ap₂, subst, ◌∙◌}
use mathlib.Core.Bool.{Bool, true, false}
use mathlib.Core.List.{List, [], ◌∷◌, ◌++◌, append_assoc, append-nil}
use native.Mathlib.Omega.{arith}
use lib.ListN.{length, take, drop, length-append, length-take, length-drop, take-append-drop}
use lib.Seq.{take_at, take_all}
use lib.Dec.{ltb}
use borrow.Author.Tests.{lt-ltb, le-ltb, eq-eqb, ne_eqb}
use Rattle.wire.specs.Refusals.{pick, none, passes}
use Rattle.wire.specs.Header.{length_of}
use Rattle.wire.specs.declared.Refusal.{Refusal}
use Rattle.record.specs.Record.{record_of}
use Rattle.record.specs.declared.Record.{Record}
use Rattle.parser.specs.Push.{latch}
use Rattle.parser.specs.Push.{Push, parser_of, push, head_with, push_stage, push_of, held_in, needed_of, buffered_of}
use Rattle.parser.specs.declared.RecordParser.{RecordParser}
use Rattle.claims.specs.Reading.{held_bytes, Ready, joined, payload_of, Run, ran, following, drain, drained, Seen, seen, CuttingNeverMatters}
use Rattle.claims.proofs.Scans.{Scan, unfinished, whole, refused, scan}
use Rattle.claims.proofs.Outcomes.{Part, in_head, in_body, part_low, ready_part, ready_scan, Matches}
use Rattle.claims.proofs.Readings.{Framed, within, refusing, Reads, ends_within, ends_refused, next_record, zero_not_one, reads_same, reads_on, reads_refused}
use Rattle.claims.proofs.Stream.{completed_ready, completed_empty}
use Rattle.claims.proofs.Feeds.{Placed, bytes_in, matches, placed_next, bytes_next, payload_next}

-- ---- a run is what the string reads as
pub data Drains (b : List ℕ) (r : Run) : Type 0 where
  goes : r.refusal ≡ none → Placed r.parser r.stage → Reads b r.records (within (bytes_in r.parser r.stage)) → Drains b r
  stops : passes r.refusal ≡ false → (h : List ℕ) → r.parser ≡ parser_of h 0 0 (latch r.refusal) → Reads b r.records (refusing r.refusal) → Drains b r

record_drains : {b h y c : List ℕ} {i : Record × List ℕ} {r : Run} → Framed h y → scan b ≡ whole h y → b ≡ (h ++ y) ++ c → i ≡ (record_of h, y)
    → Drains c r → Drains b (following (i ∷ []) r)
record_drains {b} {r = r} f p d q (goes z w k) =
    goes z w (subst (λ (x : Record × List ℕ). Reads b (x ∷ r.records) (within (bytes_in r.parser r.stage))) (sym q) (next_record f p d k))
record_drains {b} {r = r} f p d q (stops z h w k) = stops z h w (subst (λ (x : Record × List ℕ). Reads b (x ∷ r.records) (refusing r.refusal)) (sym q) (next_record f p d k))

follow_drains : {b l : List ℕ} {rs : List (Record × List ℕ)} {r : Run} (y : List ℕ) → Reads b rs (within l) → Drains (l ++ y) r → Drains (b ++ y) (following rs r)
follow_drains y s (goes z w k) = goes z w (reads_on y s k)
follow_drains y s (stops z h w k) = stops z h w (reads_on y s k)

module _ (p : RecordParser) (stage piece : List ℕ) (c : Placed p stage) where
  abbrev b : List ℕ
  b = bytes_in p stage

  abbrev u : Push
  u = push p (length stage) (held_in p stage) piece

  abbrev s : List ℕ
  s = push_stage p piece stage

  abbrev next : ℕ → Run
  next n = drain n u.answer.parser s (drop u.answer.consumed piece)

  abbrev item : Record × List ℕ
  item = (u.answer.«record», payload_of (push_of p piece stage) piece)

  drain_is : (n : ℕ) (t : Bool) → u.answer.complete ≡ t → drain (suc n) p stage piece ≡ pick t (following (item ∷ []) (next n)) (ran u.answer.refusal u.answer.parser s)
  unfolding drain push_of
  drain_is n t e = ap (λ (x : Bool). pick x (following (item ∷ []) (next n)) (ran u.answer.refusal u.answer.parser s)) e

  drain_as : (n : ℕ) (v : Scan) → scan (b ++ piece) ≡ v → Matches b piece (head_with p.header p.header_len piece) u v → length piece ≤ n
      → ((q : RecordParser) (t x : List ℕ) → length x < n → Placed q t → Drains (bytes_in q t ++ x) (drain n q t x))
      → Drains (b ++ piece) (drain (suc n) p stage piece)
  drain_as n unfinished q t l k =
      subst (Drains (b ++ piece)) (sym (drain_is n false t.complete))
      (goes t.refusal (placed_next p piece stage c t.ready)
      (subst (λ (x : List ℕ). Reads (b ++ piece) [] (within x)) (sym (bytes_next p piece stage c ∙ t.joins)) (ends_within q)))
  drain_as n (whole h y) q t l k =
      let m : length (drop u.answer.consumed piece) < n = simp length-drop (omega (arith, t.some, t.within)) in
      let d : b ++ piece ≡ (h ++ y) ++ drop u.answer.consumed piece =
      ap (λ (x : List ℕ). b ++ x) (sym (take-append-drop u.answer.consumed piece))
      ∙ sym (append_assoc b (take u.answer.consumed piece) (drop u.answer.consumed piece))
      ∙ ap (λ (x : List ℕ). x ++ drop u.answer.consumed piece) t.joins
      in
      subst (Drains (b ++ piece)) (sym (drain_is n true t.complete))
      (record_drains (record { size = t.size; checked = t.checked; full = t.full; valued = t.valued }) q d (λ j. (t.fields j, (payload_next p piece stage c t.complete ∙ t.payload) j))
      (subst (λ (x : List ℕ). Drains (x ++ drop u.answer.consumed piece) (next n)) (bytes_next p piece stage c ∙ completed_empty t)
      (k u.answer.parser s (drop u.answer.consumed piece) m (placed_next p piece stage c (completed_ready t)))))
  drain_as n (refused r) q t l k =
      subst (Drains (b ++ piece)) (sym (drain_is n false t.complete))
      (stops (ap (λ (x : Refusal). passes x) t.refusal ∙ t.numbered) (head_with p.header p.header_len piece)
      (t.parser ∙ ap (λ (x : Refusal). parser_of (head_with p.header p.header_len piece) 0 0 (latch x)) (sym t.refusal))
      (subst (λ (x : Refusal). Reads (b ++ piece) [] (refusing x)) (sym t.refusal) (ends_refused q)))

drain_reads : (n : ℕ) (p : RecordParser) (stage piece : List ℕ) → length piece < n → Placed p stage → Drains (bytes_in p stage ++ piece) (drain n p stage piece)
drain_reads zero p stage piece l c = absurd (omega arith)
drain_reads (suc n) p stage piece l c = drain_as p stage piece c n (scan (bytes_in p stage ++ piece)) refl (matches p piece stage c) (omega arith) (drain_reads n)

-- ---- lists of pieces
-- the first piece goes through, and the rest follow; or it ends in a refusal
drained_as : {a : List ℕ} {r : Run} {f : Run} (y : List ℕ) → Drains a r → (Placed r.parser r.stage → Drains (bytes_in r.parser r.stage ++ y) f)
    → Drains (a ++ y) (pick (passes r.refusal) (following r.records f) r)
drained_as {a} {r} {f} y (goes z w k) g =
    subst (λ (t : Bool). Drains (a ++ y) (pick t (following r.records f) r)) (sym (ap (λ (x : Refusal). passes x) z)) (follow_drains y k (g w))
drained_as {a} {r} {f} y (stops z h w k) g =
    subst (λ (t : Bool). Drains (a ++ y) (pick t (following r.records f) r)) (sym z) (stops z h w (reads_refused y k))

pub drained_reads : (xs : List (List ℕ)) (p : RecordParser) (stage : List ℕ) → Placed p stage → Drains (bytes_in p stage ++ joined xs) (drained p stage xs)
unfolding drained joined
drained_reads [] p stage c =
    goes refl c (subst (λ (x : List ℕ). Reads x [] (within (bytes_in p stage))) (sym (append-nil (bytes_in p stage))) (ends_within (ready_scan p (held_in p stage) c.ready)))
drained_reads (x ∷ xs) p stage c =
    let r : Run = drain (suc (length x)) p stage x in
    subst (λ (a : List ℕ). Drains a (pick (passes r.refusal) (following r.records (drained r.parser r.stage xs)) r)) (append_assoc (bytes_in p stage) x (joined xs))
    (drained_as (joined xs) (drain_reads (suc (length x)) p stage x (omega arith) c) (drained_reads xs r.parser r.stage))

-- ---- what a caller sees
-- what the parser needs, told by the bytes held
needs : List ℕ → ℕ
needs b = pick (ltb (length b) 44) (44 - length b) (length_of (take 44 b) + 44 - length b)

module _ (p : RecordParser) (stage : List ℕ) (c : Placed p stage) where
  bytes_length : buffered_of p ≡ length (bytes_in p stage)
  bytes_length =
      let l : p.header_len ≤ 44 = part_low (ready_part c.ready) in
      let e : length (take p.header_len p.header) ≡ p.header_len = length-take p.header_len p.header ∙ omega (arith, c.ready.size) in
      sym (length-append (take p.header_len p.header) (held_in p stage) ∙ ap₂ (λ (i j : ℕ). i + j) e c.ready.count)

  needed_by_lem : Part p.header p.header_len p.payload_len → needed_of p ≡ needs (bytes_in p stage)
  unfolding needed_of needs
  needed_by_lem (in_head x y) =
      let n = bytes_length in
      ap (λ (t : Bool). pick t (length_of p.header - p.payload_len) (44 - p.header_len)) (ne_eqb p.header_len 44 (λ e. omega arith))
      ∙ (let q : 44 - p.header_len ≡ 44 - length (bytes_in p stage) = omega arith in q)
      ∙ sym (ap (λ (t : Bool). pick t (44 - length (bytes_in p stage)) (length_of (take 44 (bytes_in p stage)) + 44 - length (bytes_in p stage))) (lt-ltb (length (bytes_in p stage)) 44 (omega arith)))
  needed_by_lem (in_body x v y) =
      let n = bytes_length in
      let z : length p.header ≡ 44 = c.ready.size in
      let h : take 44 (bytes_in p stage) ≡ p.header =
      ap (λ (a : List ℕ). take 44 (a ++ held_in p stage)) (take_all p.header_len p.header (omega arith)) ∙ take_at p.header (held_in p stage) 44 z
      in
      let q : length_of p.header - p.payload_len ≡ length_of p.header + 44 - length (bytes_in p stage) = omega arith in
      ap (λ (t : Bool). pick t (length_of p.header - p.payload_len) (44 - p.header_len)) (eq-eqb p.header_len 44 x)
      ∙ q
      ∙ ap (λ (a : List ℕ). length_of a + 44 - length (bytes_in p stage)) (sym h)
      ∙ sym (ap (λ (t : Bool). pick t (44 - length (bytes_in p stage)) (length_of (take 44 (bytes_in p stage)) + 44 - length (bytes_in p stage))) (le-ltb (length (bytes_in p stage)) 44 (omega arith)))

-- where a string was read to its end, and where it was refused
abbrev ended : List (Record × List ℕ) → Refusal → List ℕ → Seen
ended rs r b = record { records = rs; refusal = r; needed = needs b; buffered = length b; held = b }

see_goes : (r : Run) → r.refusal ≡ none → Placed r.parser r.stage → seen r ≡ ended r.records none (bytes_in r.parser r.stage)
see_goes r z c =
    λ j.
    record {
      records = r.records;
      refusal = z j;
      needed = needed_by_lem r.parser r.stage c (ready_part c.ready) j;
      buffered = bytes_length r.parser r.stage c j;
      held = bytes_in r.parser r.stage;
    }

see_stops : (r : Run) (h : List ℕ) → r.parser ≡ parser_of h 0 0 (latch r.refusal) → seen r ≡ ended r.records r.refusal []
unfolding needed_of needs
see_stops r h w = λ j. seen (record { records = r.records; refusal = r.refusal; parser = w j; stage = r.stage })

same_seen : {b : List ℕ} {r r' : Run} → Drains b r → Drains b r' → seen r ≡ seen r'
same_seen {r = r} {r' = r'} (goes z c k) (goes z' c' k') =
    let q = reads_same k k' in
    let l : bytes_in r.parser r.stage ≡ bytes_in r'.parser r'.stage = cc q.1 in
    see_goes r z c ∙ (λ j. ended (q.0 j) none (l j)) ∙ sym (see_goes r' z' c')
same_seen {r = r} {r' = r'} (goes z c k) (stops z' h w k') = zero_not_one (cc (reads_same k k').1)
same_seen {r = r} {r' = r'} (stops z h w k) (goes z' c' k') = zero_not_one (cc (reads_same k k').1)
same_seen {r = r} {r' = r'} (stops z h w k) (stops z' h' w' k') =
    let q = reads_same k k' in
    let e : r.refusal ≡ r'.refusal = cc q.1 in
    see_stops r h w ∙ (λ j. ended (q.0 j) (e j) []) ∙ sym (see_stops r' h' w')

pub cutting : CuttingNeverMatters
cutting p s t xs ys r e rs rt q =
    let a : Placed p s = record { ready = r; room = rs } in
    let b : Placed p t = record { ready = subst (Ready p) (sym e) r; room = rt } in
    let f : bytes_in p t ++ joined ys ≡ bytes_in p s ++ joined xs = λ j. held_bytes p (e j) ++ sym q j in
    same_seen (drained_reads xs p s a) (subst (λ (x : List ℕ). Drains x (drained p t ys)) f (drained_reads ys p t b))
