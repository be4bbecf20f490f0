-- A listing stands for what is still to be written, as a function of the bytes still to come (`future`): the lines from its offset on of
-- the bytes held and those bytes. A push writes a beginning of that and leaves the rest, by what a scan of the bytes held and the piece
-- says. Assumes nothing.
use Prim.Native.Nat.{ℕ, ◌+◌, ◌-◌, ◌≤◌}
use mathlib.Core.Path.{◌≡◌, refl, sym, ap, ap₂, subst, ◌∙◌}
use mathlib.Core.Bool.{Bool, true, false}
use mathlib.Core.List.{List, [], ◌++◌, append_assoc}
use native.Mathlib.Omega.{arith}
use lib.ListN.{length, take, drop, length-append, length-take, take-append-drop}
use lib.Seq.{take-append-add, drop-length}
use lib.Dec.{eqb}
use borrow.Author.Tests.{eqb-true}
use Rattle.wire.specs.Bytes.{overlay}
use Rattle.wire.specs.Refusals.{pick, passes}
use Rattle.wire.specs.Header.{type_of, epoch_of, sequence_of, length_of}
use Rattle.wire.specs.declared.Refusal.{Refusal}
use Rattle.wire.proofs.Rows.{picked}
use Rattle.record.specs.Types.{code_of}
use Rattle.record.specs.Record.{record_with}
use Rattle.record.specs.declared.Record.{Record}
use Rattle.parser.specs.Push.{latched}
use Rattle.parser.specs.Push.{sound_parser, Push, push, head_with, push_stage, push_of, held_in, buffered_of, payload_at}
use Rattle.parser.specs.declared.RecordParser.{RecordParser}
use Rattle.parser.specs.Push.{Pushed}
use Rattle.parser.proofs.Cases.{sound_empty}
use Rattle.claims.specs.Reading.{Ready}
use Rattle.claims.proofs.Scans.{Scan, unfinished, whole, refused, scan}
use Rattle.claims.proofs.Records.{code_is}
use Rattle.claims.proofs.Outcomes.{true_not_false, part_low, ready_part, Pending, Completed, Refused, Matches}
use Rattle.claims.proofs.Stages.{push_staged}
use Rattle.claims.proofs.Stream.{completed_ready, completed_empty}
use Rattle.claims.proofs.Feeds.{Placed, bytes_in, matches, placed_next, bytes_next, payload_next}
use Rattle.text.specs.Decimal.{Puts}
use Rattle.text.proofs.Digits.{number_length}
use Rattle.text.proofs.Puts.{spaced_none}
use Rattle.text.specs.Lines.{line, ending}
use Rattle.listing.specs.Reach.{limit}
use Rattle.listing.specs.Listing.{open_after, lines_from}
use Rattle.listing.specs.Settled.{idle, settled}
use Rattle.listing.specs.Steps.{listing_of, read_of, sound_listing, listed, Outcome, outcome, opens, line_of, record_listed, pushed, step_of}
use Rattle.listing.specs.declared.Listing.{Listing}
use Rattle.listing.proofs.Counts.{came}
use Rattle.listing.proofs.Settled.{settled_number, settled_sound}
use Rattle.listing.proofs.Cases.{facts, Stepped, stepped}
use Rattle.claims.proofs.Scanned.{refused_lines, whole_lines}

-- what is still to be written, with l to come
unfoldable pub future : Listing → List ℕ → List ℕ → List ℕ
future s stage l =
    pick (passes (latched s.parser))
    (lines_from s.offset s.«open» (take (limit - s.offset) (bytes_in s.parser stage ++ l)))
    (ending s.offset (latched s.parser).number 0)

pub future_on : (s : Listing) (stage l : List ℕ) → passes (latched s.parser) ≡ true
    → future s stage l ≡ lines_from s.offset s.«open» (take (limit - s.offset) (bytes_in s.parser stage ++ l))
unfolding future
future_on s stage l e =
    ap (λ (t : Bool). pick t (lines_from s.offset s.«open» (take (limit - s.offset) (bytes_in s.parser stage ++ l))) (ending s.offset (latched s.parser).number 0)) e

pub future_off : (s : Listing) (stage l : List ℕ) → passes (latched s.parser) ≡ false → future s stage l ≡ ending s.offset (latched s.parser).number 0
unfolding future
future_off s stage l e =
    ap (λ (t : Bool). pick t (lines_from s.offset s.«open» (take (limit - s.offset) (bytes_in s.parser stage ++ l))) (ending s.offset (latched s.parser).number 0)) e

-- a listing that calls leave, with its stage
pub record Good (s : Listing) (stage : List ℕ) : Type 0 where
  pub sound : sound_listing s ≡ true
  pub room : 65536 ≤ length stage
  pub ready : passes (latched s.parser) ≡ true → Ready s.parser (held_in s.parser stage)

-- one push: a text is put, and what is still to be written is what was, without it
pub record Writes (s : Listing) (stage piece output : List ℕ) (at : ℕ) (o : Outcome) : Type 0 where
  pub text : List ℕ
  pub puts : Puts output at text o.listed.written o.output
  pub good : Good o.listed.listing o.stage
  pub clear : passes o.listed.refusal ≡ true → passes (latched o.listed.listing.parser) ≡ true
  pub law : (rest : List ℕ) → text ++ future o.listed.listing o.stage (drop o.listed.taken piece ++ rest) ≡ future s stage (piece ++ rest)

line_length : (a b c d e f : ℕ) → length (line a b c d e f) ≤ 126
unfolding line
line_length a b c d e f =
    simp length-append
    (omega (arith, number_length a 32, number_length b 32, number_length c 32, number_length d 32, number_length e 32, number_length f 10))

-- the bytes held are as many as the parser counts
pub held_length : (p : RecordParser) (stage : List ℕ) → Ready p (held_in p stage) → length (bytes_in p stage) ≡ buffered_of p
held_length p stage r =
    let l : p.header_len ≤ 44 = part_low (ready_part r) in
    let e : length (take p.header_len p.header) ≡ p.header_len = length-take p.header_len p.header ∙ omega (arith, r.size) in
    length-append (take p.header_len p.header) (held_in p stage) ∙ ap₂ (λ (i j : ℕ). i + j) e r.count

-- ---- the parser that is kept: what it holds and what is still to be written stay
module _ (p : RecordParser) (sound : sound_parser p ≡ true) where
  none_held : eqb p.header_len 0 ≡ true → (stage : List ℕ) → bytes_in p stage ≡ []
  none_held z stage =
      let e : p.header_len ≡ 0 = eqb-true p.header_len 0 z in
      let k : p.payload_len ≡ 0 = sound_empty p true (sym sound) refl (λ q. omega arith) in
      λ i. take (e i) p.header ++ take (k i) stage

  idle_number : eqb p.header_len 0 ≡ true → (latched (idle (latched p).number)).number ≡ (latched p).number
  unfolding settled
  idle_number z = ap (λ (t : Bool). (latched (pick t (idle (latched p).number) p)).number) (sym z) ∙ settled_number p

  future_settled : (offset o : ℕ) (stage l : List ℕ) → future (listing_of (settled p) offset o) stage l ≡ future (listing_of p offset o) stage l
  unfolding settled future
  future_settled offset o stage l =
      picked (λ (x : RecordParser). future (listing_of x offset o) stage l ≡ future (listing_of p offset o) stage l) (eqb p.header_len 0)
      (λ z.
      (λ i. pick (eqb ((idle_number z) i) 0) (lines_from offset o (take (limit - offset) l)) (ending offset ((idle_number z) i) 0))
      ∙ ap (λ (x : List ℕ). pick (passes (latched p)) (lines_from offset o (take (limit - offset) (x ++ l))) (ending offset (latched p).number 0)) (sym (none_held z stage)))
      (λ _. refl)

pub settled_passes : (p : RecordParser) → passes (latched (settled p)) ≡ passes (latched p)
settled_passes p = ap (λ (n : ℕ). eqb n 0) (settled_number p)

module _ (p : RecordParser) (stage : List ℕ) (r : Ready p (held_in p stage)) where
  settled_size : length (settled p).header ≡ 44
  unfolding settled
  settled_size = picked (λ (x : RecordParser). length x.header ≡ 44) (eqb p.header_len 0) (λ _. refl) (λ _. r.size)

  settled_count : length (held_in (settled p) stage) ≡ (settled p).payload_len
  unfolding settled
  settled_count = picked (λ (x : RecordParser). length (held_in x stage) ≡ x.payload_len) (eqb p.header_len 0) (λ _. refl) (λ _. r.count)

  settled_ready : Ready (settled p) (held_in (settled p) stage)
  settled_ready = record { sound = settled_sound p r.sound; clear = settled_passes p ∙ r.clear; size = settled_size; count = settled_count }

module _ (s : Listing) (stage piece output : List ℕ) (at : ℕ) (good : Good s stage) (on : passes (latched s.parser) ≡ true) (few : read_of s + length piece ≤ limit)
    (room : at + 126 ≤ length output) where
  placed : Placed s.parser stage
  placed = record { ready = good.ready on; room = good.room }

  abbrev u : Push
  u = push s.parser (length stage) (held_in s.parser stage) piece

  abbrev a : Pushed
  a = u.answer

  abbrev after : List ℕ
  after = push_stage s.parser piece stage

  abbrev b : List ℕ
  b = bytes_in s.parser stage

  abbrev payload : List ℕ
  payload = payload_at a.place a.«record».length piece after

  abbrev lined : Outcome
  lined = outcome (record_listed s a payload at) after (overlay output at (line_of s a.«record» payload))

  abbrev quiet : Outcome
  quiet = outcome (listed a.refusal a.consumed at (listing_of (settled a.parser) s.offset s.«open»)) after output

  pub step_is : (t : Bool) → a.complete ≡ t → step_of s piece stage output at ≡ pick t lined quiet
  unfolding pushed push_of
  step_is t e = ap (λ (x : Bool). pick x lined quiet) e

  push_sound_lem : sound_parser a.parser ≡ true
  push_sound_lem = (came s.parser (length stage) (held_in s.parser stage) piece (facts s good.sound).parser).sound

  sound_is : (o : Outcome) → step_of s piece stage output at ≡ o → Stepped s (length piece) o.listed
  sound_is o e = subst (λ (x : Outcome). Stepped s (length piece) x.listed) e (stepped s piece stage output at good.sound few)

  -- the bytes to come of the whole, cut behind a front that is within the limit
  cut : (front c : List ℕ) (n : ℕ) → length front + n ≡ limit - s.offset → take (limit - s.offset) (front ++ c) ≡ front ++ take n c
  cut front c n e = ap (λ (k : ℕ). take k (front ++ c)) (sym e) ∙ take-append-add front c n

  b_length : length b ≡ buffered_of s.parser
  b_length = held_length s.parser stage (good.ready on)

  -- ---- an unfinished record
  waits : Pending b piece (head_with s.parser.header s.parser.header_len piece) u → Writes s stage piece output at (step_of s piece stage output at)
  waits t =
      let e : step_of s piece stage output at ≡ quiet = step_is false t.complete in
      let w = sound_is quiet e in
      let r = placed_next s.parser piece stage placed t.ready in
      let j : bytes_in a.parser after ≡ b ++ piece = bytes_next s.parser piece stage placed ∙ t.joins in
      let d : drop a.consumed piece ≡ [] = ap (λ (k : ℕ). drop k piece) t.taken ∙ drop-length piece in
      subst (Writes s stage piece output at) (sym e)
      (record {
        text = [];
        puts = spaced_none output at (omega arith);
        good = record { sound = w.sound; room = r.room; ready = λ _. settled_ready a.parser after r.ready };
        clear = λ _. settled_passes a.parser ∙ t.ready.clear;
        law = λ rest.
            future_settled a.parser push_sound_lem s.offset s.«open» after (drop a.consumed piece ++ rest)
            ∙ future_on (listing_of a.parser s.offset s.«open») after (drop a.consumed piece ++ rest) t.ready.clear
            ∙ ap (λ (x : List ℕ). lines_from s.offset s.«open» (take (limit - s.offset) x))
            ((λ i. j i ++ (d i ++ rest)) ∙ append_assoc b piece rest)
            ∙ sym (future_on s stage (piece ++ rest) on);
      })

  -- ---- a refusal
  fails : (r : Refusal) → scan (b ++ piece) ≡ refused r → Refused (head_with s.parser.header s.parser.header_len piece) u r
      → Writes s stage piece output at (step_of s piece stage output at)
  fails r v t =
      let e : step_of s piece stage output at ≡ quiet = step_is false t.complete in
      let w = sound_is quiet e in
      let x : latched a.parser ≡ r = ap latched t.parser ∙ t.latches in
      let off : passes (latched a.parser) ≡ false = ap (λ (y : Refusal). passes y) x ∙ t.numbered in
      let l : length (b ++ piece) ≡ length b + length piece = length-append b piece in
      let staged = push_staged s.parser piece stage (good.ready on) good.room in
      subst (Writes s stage piece output at) (sym e)
      (record {
        text = [];
        puts = spaced_none output at (omega arith);
        good = record { sound = w.sound; room = omega (arith, staged.same_length, good.room); ready = λ q. true_not_false (sym q ∙ settled_passes a.parser ∙ off) };
        clear = λ q. true_not_false (sym q ∙ ap (λ (y : Refusal). passes y) t.refusal ∙ t.numbered);
        law = λ rest.
            future_settled a.parser push_sound_lem s.offset s.«open» after (drop a.consumed piece ++ rest)
            ∙ future_off (listing_of a.parser s.offset s.«open») after (drop a.consumed piece ++ rest) off
            ∙ ap (λ (y : Refusal). ending s.offset y.number 0) x
            ∙ sym (refused_lines s.offset s.«open» (b ++ piece) (take (limit - s.offset - length (b ++ piece)) rest) r v)
            ∙ ap (lines_from s.offset s.«open»)
            (sym (cut (b ++ piece) rest (limit - s.offset - length (b ++ piece)) (let q = b_length in omega arith)) ∙ ap (take (limit - s.offset)) (append_assoc b piece rest))
            ∙ sym (future_on s stage (piece ++ rest) on);
      })

  -- ---- a record
  module _ (h y : List ℕ) (t : Completed b piece (head_with s.parser.header s.parser.header_len piece) u h y) where
    size_is : a.«record».length ≡ length_of h
    unfolding record_with
    size_is = ap (λ (r : Record). r.length) t.fields

    pub payload_is : payload ≡ y
    unfolding push_of
    payload_is = payload_next s.parser piece stage placed t.complete ∙ t.payload

    open_is : opens s a.«record» payload ≡ open_after s.«open» (type_of h) (length_of h) y
    unfolding record_with
    open_is =
        (λ i. open_after s.«open» (code_of (t.fields i).record_type) (t.fields i).length (payload_is i))
        ∙ ap (λ (k : ℕ). open_after s.«open» k (length_of h) y) (code_is h t.checked)

    line_is : line_of s a.«record» payload
        ≡ line s.offset (type_of h) (epoch_of h) (sequence_of h) (length_of h) (open_after s.«open» (type_of h) (length_of h) y)
    unfolding line_of record_with
    line_is =
        (λ i. line s.offset (code_of (t.fields i).record_type) (t.fields i).epoch.0 (t.fields i).sequence.0 (t.fields i).length (open_is i))
        ∙ ap (λ (k : ℕ). line s.offset k (epoch_of h) (sequence_of h) (length_of h) (open_after s.«open» (type_of h) (length_of h) y)) (code_is h t.checked)

    abbrev next : Listing
    next = listing_of (settled a.parser) (s.offset + (44 + a.«record».length)) (opens s a.«record» payload)

    bytes_are : (rest : List ℕ) → b ++ (piece ++ rest) ≡ (h ++ y) ++ (drop a.consumed piece ++ rest)
    bytes_are rest =
        ap (λ (x : List ℕ). b ++ (x ++ rest)) (sym (take-append-drop a.consumed piece))
        ∙ ap (λ (x : List ℕ). b ++ x) (append_assoc (take a.consumed piece) (drop a.consumed piece) rest)
        ∙ sym (append_assoc b (take a.consumed piece) (drop a.consumed piece ++ rest))
        ∙ ap (λ (x : List ℕ). x ++ (drop a.consumed piece ++ rest)) t.joins

    next_lines : (rest : List ℕ) → s.offset + (44 + a.«record».length) ≤ limit
        → line_of s a.«record» payload ++ future next after (drop a.consumed piece ++ rest) ≡ future s stage (piece ++ rest)
    next_lines rest l =
        let z = size_is in
        let c : List ℕ = drop a.consumed piece ++ rest in
        let p : ℕ = open_after s.«open» (type_of h) (length_of h) y in
        let k : length (h ++ y) ≡ 44 + length_of h = length-append h y ∙ omega (arith, t.size, t.full) in
        let f : future next after c ≡ lines_from (s.offset + (44 + length_of h)) p (take (limit - (s.offset + (44 + length_of h))) c) =
        future_settled a.parser push_sound_lem (s.offset + (44 + a.«record».length)) (opens s a.«record» payload) after c
        ∙ future_on (listing_of a.parser (s.offset + (44 + a.«record».length)) (opens s a.«record» payload)) after c (completed_ready t).clear
        ∙ (λ i. lines_from (s.offset + (44 + z i)) (open_is i) (take (limit - (s.offset + (44 + z i))) ((bytes_next s.parser piece stage placed ∙ completed_empty t) i ++ c)))
        in
        (λ i. line_is i ++ f i)
        ∙ sym (whole_lines s.offset s.«open» h y (take (limit - (s.offset + (44 + length_of h))) c) t.size t.checked t.full t.valued)
        ∙ ap (lines_from s.offset s.«open»)
        (sym (cut (h ++ y) c (limit - (s.offset + (44 + length_of h))) (omega arith)) ∙ ap (take (limit - s.offset)) (sym (bytes_are rest)))
        ∙ sym (future_on s stage (piece ++ rest) on)

    completes : Writes s stage piece output at (step_of s piece stage output at)
    unfolding record_listed line_of
    completes =
        let e : step_of s piece stage output at ≡ lined = step_is true t.complete in
        let w = sound_is lined e in
        let r = placed_next s.parser piece stage placed (completed_ready t) in
        let m = line_length s.offset (code_of a.«record».record_type) a.«record».epoch.0 a.«record».sequence.0 a.«record».length (opens s a.«record» payload) in
        subst (Writes s stage piece output at) (sym e)
        (record {
          text = line_of s a.«record» payload;
          puts = record { next = refl; within = omega arith; bytes = refl };
          good = record { sound = w.sound; room = r.room; ready = λ _. settled_ready a.parser after r.ready };
          clear = λ _. settled_passes a.parser ∙ (completed_ready t).clear;
          law = λ rest. next_lines rest (let f = facts next w.sound in omega (arith, f.read));
        })

  pub writes : Writes s stage piece output at (step_of s piece stage output at)
  writes = go (scan (b ++ piece)) refl (matches s.parser piece stage placed)
    where
      go : (v : Scan) → scan (b ++ piece) ≡ v → Matches b piece (head_with s.parser.header s.parser.header_len piece) u v
          → Writes s stage piece output at (step_of s piece stage output at)
      go unfinished e t = waits t
      go (whole h y) e t = completes h y t
      go (refused r) e t = fails r e t
