-- A call of `list` that is lent bytes from a record's start on: a whole record, the first part of one, or one that is refused; and calls
-- one after the other. Assumes nothing.
use Prim.Native.Nat.{ℕ, zero, suc, ◌+◌, ◌-◌, ◌≤◌, ◌<◌}
use mathlib.Core.Path.{◌≡◌, refl, sym, ap, subst, ◌∙◌}
use mathlib.Core.Bool.{Bool, true, false}
use mathlib.Core.List.{List, [], ◌++◌, append_assoc}
use native.Mathlib.Omega.{arith}
use lib.ListN.{length, take, drop, length-append, length-take}
use lib.Seq.{take_all, drop-length}
use borrow.Author.Tests.{le-leb}
use Rattle.std.specs.Prelude.{None}
use Rattle.wire.specs.Refusals.{pick, none, first, passes}
use Rattle.wire.specs.declared.Refusal.{Refusal}
use Rattle.wire.proofs.Rows.{pass_all}
use Rattle.record.specs.Types.{code_of}
use Rattle.record.specs.Record.{record_of}
use Rattle.record.specs.declared.Record.{Record}
use Rattle.parser.specs.Push.{latched}
use Rattle.parser.specs.Push as parser
use Rattle.parser.specs.Push.{parser_of, Push, waiting, push, head_with, push_stage, held_in, buffered_of}
use Rattle.parser.specs.declared.RecordParser.{RecordParser}
use Rattle.parser.specs.Push.{Pushed}
use Rattle.claims.proofs.Scans.{Scan, whole, refused, scan}
use Rattle.claims.proofs.Outcomes.{Completed, Refused, Matches}
use Rattle.claims.proofs.Feeds.{Placed, bytes_in, matches}
use Rattle.text.specs.Lines.{line_room}
use Rattle.listing.specs.Reach.{limit}
use Rattle.listing.specs.Listing.{open_after}
use Rattle.listing.specs.Settled.{idle, settled}
use Rattle.listing.specs.Steps.{listing_of, read_of, listed, Outcome, outcome, record_listed, step_of, lines, list_rows, readable, list_of}
use Rattle.listing.specs.Calls.{Calls, stop, call}
use Rattle.listing.specs.declared.Listing.{Listing}
use Rattle.listing.proofs.Lines.{lines_end, lines_step}
use Rattle.claims.proofs.Futures.{Good, Writes, writes, step_is, payload_is}

-- ---- calls one after the other
-- more bytes to come change nothing
pub calls_more : {s t : Listing} {stage input left after : List ℕ} {texts : List (List ℕ)} → Calls s stage input left t after texts
    → (new : List ℕ) → Calls s stage (input ++ new) (left ++ new) t after texts
calls_more stop new = stop
calls_more {s} {t} {stage} {left = left} {after = after} (call {texts = texts} piece rest output l c) new =
    rw (append_assoc piece rest new)
    (call piece (rest ++ new) output l (rw (append_assoc (drop (list_of s piece stage output).listed.taken piece) rest new) at (calls_more c new)))

pub calls_then : {s t u : Listing} {stage input mid left between after : List ℕ} {texts more : List (List ℕ)} → Calls s stage input mid t between texts
    → Calls t between mid left u after more → Calls s stage input left u after (texts ++ more)
calls_then stop d = d
calls_then (call piece rest output l c) d = call piece rest output l (calls_then c d)

-- ---- a call that is one push
-- between records
pub record At (s : Listing) (stage : List ℕ) : Type 0 where
  pub good : Good s stage
  pub parser : s.parser ≡ parser.fresh

module _ {s : Listing} {stage : List ℕ} (e : At s stage) where
  clear : passes (latched s.parser) ≡ true
  clear = ap (λ (p : RecordParser). passes (latched p)) e.parser

  empty : bytes_in s.parser stage ≡ []
  empty = ap (λ (p : RecordParser). bytes_in p stage) e.parser

  at_held : buffered_of s.parser ≡ 0
  at_held = ap (λ (p : RecordParser). buffered_of p) e.parser

-- what a call answers after one push
abbrev after_one : Refusal → Outcome → Outcome
after_one r o = outcome (listed r (0 + o.listed.taken) o.listed.written o.listed.listing) o.stage o.output

module _ (s : Listing) (stage piece output : List ℕ) (e : At s stage) (few : s.offset + length piece ≤ limit) (some : 0 < length piece) (room : line_room ≤ length output) where
  abbrev o : Outcome
  o = step_of s piece stage output 0

  few_read : read_of s + length piece ≤ limit
  few_read = omega (arith, at_held e)

  call_is : list_of s piece stage output ≡ lines (length piece) s piece stage output 0 0
  unfolding list_of
  call_is =
      ap (λ (t : Bool). pick t (lines (length (readable s piece)) s (readable s piece) stage output 0 0) (outcome (listed (first (list_rows s stage output)) 0 0 s) stage output))
      (pass_all (list_rows s stage output) (e.good.sound, (le-leb 65536 (length stage) e.good.room, (le-leb 126 (length output) room, (clear e, tt)))))
      ∙ ap (λ (x : List ℕ). lines (length x) s x stage output 0 0) (take_all (limit - read_of s) piece (let z = few_read in omega arith))

  one_on : passes o.listed.refusal ≡ true → o.listed.taken ≡ length piece → list_of s piece stage output ≡ after_one none o
  one_on p q = call_is ∙ go (length piece) refl
    where
      go : (n : ℕ) → n ≡ length piece → lines n s piece stage output 0 0 ≡ after_one none o
      go zero z = absurd (omega arith)
      go (suc n) z =
          lines_step s piece stage output 0 0 n some room true p
          ∙ lines_end o.listed.listing piece o.stage o.output (0 + o.listed.taken) o.listed.written n (omega arith)

  one_out : passes o.listed.refusal ≡ false → list_of s piece stage output ≡ after_one o.listed.refusal o
  one_out p = call_is ∙ go (length piece) refl
    where
      go : (n : ℕ) → n ≡ length piece → lines n s piece stage output 0 0 ≡ after_one o.listed.refusal o
      go zero z = absurd (omega arith)
      go (suc n) z = lines_step s piece stage output 0 0 n some room false p

  dropped : (n : ℕ) → n ≡ length piece → drop (0 + n) piece ≡ []
  dropped n q = let z : 0 + n ≡ length piece = omega arith in ap (λ (i : ℕ). drop i piece) z ∙ drop-length piece

  -- ---- what the push does
  placed : Placed s.parser stage
  placed = record { ready = e.good.ready (clear e); room = e.good.room }

  abbrev u : Push
  u = push s.parser (length stage) (held_in s.parser stage) piece

  abbrev a : Pushed
  a = u.answer

  abbrev b : List ℕ
  b = bytes_in s.parser stage

  abbrev H : List ℕ
  H = head_with s.parser.header s.parser.header_len piece

  abbrev after : List ℕ
  after = push_stage s.parser piece stage

  told : (v : Scan) → scan piece ≡ v → Matches b piece H u v
  told v q = subst (Matches b piece H u) (ap (λ (x : List ℕ). scan (x ++ piece)) (empty e) ∙ q) (matches s.parser piece stage placed)

  wrote : Writes s stage piece output 0 o
  wrote = writes s stage piece output 0 e.good (clear e) few_read room

  -- a whole record
  pub record Took (x : Outcome) (size p : ℕ) : Type 0 where
    pub all : drop x.listed.taken piece ≡ []
    pub at : At x.listed.listing x.stage
    pub offset : x.listed.listing.offset ≡ s.offset + (44 + size)
    pub «open» : x.listed.listing.«open» ≡ p

  pub took : (h y : List ℕ) (r : Record) → scan piece ≡ whole h y → length piece ≡ 44 + length y → record_of h ≡ r
      → Took (list_of s piece stage output) r.length (open_after s.«open» (code_of r.record_type) r.length y)
  unfolding record_listed settled parser.latch
  took h y r q l w =
      let t : Completed b piece H u h y = told (whole h y) q in
      let f : a.«record» ≡ r = t.fields ∙ w in
      let k : length (take a.consumed piece) ≡ 44 + length y =
      ap (λ (x : List ℕ). length (x ++ take a.consumed piece)) (sym (empty e)) ∙ ap length t.joins ∙ length-append h y ∙ omega (arith, t.size)
      in
      let n : a.consumed ≡ length piece = omega (arith, length-take a.consumed piece, t.within) in
      let m = step_is s stage piece output 0 e.good (clear e) few_read room true t.complete in
      let c : list_of s piece stage output ≡ after_one none o =
      one_on (ap (λ (x : Outcome). passes x.listed.refusal) m) (ap (λ (x : Outcome). x.listed.taken) m ∙ n)
      in
      let d = c ∙ ap (after_one none) m in
      let y' = payload_is s stage piece output 0 e.good (clear e) few_read room h y t in
      record {
        all = ap (λ (x : Outcome). drop x.listed.taken piece) d ∙ dropped a.consumed n;
        at =
            subst (λ (x : Outcome). At x.listed.listing x.stage) (sym c)
            (record {
              good = wrote.good;
              parser = ap (λ (x : Outcome). x.listed.listing.parser) m ∙ ap settled t.parser;
            });
        offset = ap (λ (x : Outcome). x.listed.listing.offset) d ∙ ap (λ (x : Record). s.offset + (44 + x.length)) f;
        «open» =
            ap (λ (x : Outcome). x.listed.listing.«open») d
            ∙ (λ j. open_after s.«open» (code_of (f j).record_type) (f j).length (y' j));
      }

  -- the first part of a record: the push waits for more
  pub waits : (h : List ℕ) (n k : ℕ) → (push parser.fresh (length stage) (held_in parser.fresh stage) piece).answer ≡ waiting h n k (length piece)
      → (drop (list_of s piece stage output).listed.taken piece ≡ []) × ((list_of s piece stage output).listed.listing ≡ listing_of (settled (parser_of h n k None)) s.offset s.«open»)
  waits h n k q =
      let w : a ≡ waiting h n k (length piece) = ap (λ (p : RecordParser). (push p (length stage) (held_in p stage) piece).answer) e.parser ∙ q in
      let m = step_is s stage piece output 0 e.good (clear e) few_read room false (ap (λ (x : Pushed). x.complete) w) in
      let taken : a.consumed ≡ length piece = ap (λ (x : Pushed). x.consumed) w in
      let c : list_of s piece stage output ≡ after_one none o =
      one_on (ap (λ (x : Outcome). passes x.listed.refusal) m ∙ ap (λ (x : Pushed). passes x.refusal) w) (ap (λ (x : Outcome). x.listed.taken) m ∙ taken)
      in
      let d = c ∙ ap (after_one none) m in (
        ap (λ (x : Outcome). drop x.listed.taken piece) d ∙ dropped a.consumed taken,
        ap (λ (x : Outcome). x.listed.listing) d ∙ ap (λ (x : Pushed). listing_of (settled x.parser) s.offset s.«open») w,
      )

  -- a record that is refused
  pub fails : (r : Refusal) → scan piece ≡ refused r → (list_of s piece stage output).listed.listing ≡ listing_of (idle r.number) s.offset s.«open»
  unfolding settled
  fails r q =
      let t : Refused H u r = told (refused r) q in
      let m = step_is s stage piece output 0 e.good (clear e) few_read room false t.complete in
      let c : list_of s piece stage output ≡ after_one o.listed.refusal o =
      one_out (ap (λ (x : Outcome). passes x.listed.refusal) m ∙ ap (λ (x : Refusal). passes x) t.refusal ∙ t.numbered)
      in
      ap (λ (x : Outcome). x.listed.listing) (c ∙ ap (λ (x : Outcome). after_one x.listed.refusal x) m)
      ∙ ap (λ (x : RecordParser). listing_of (settled x) s.offset s.«open») t.parser
      ∙ ap (λ (x : Refusal). listing_of (idle x.number) s.offset s.«open») t.latches
