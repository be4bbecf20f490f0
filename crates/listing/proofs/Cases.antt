-- What a sound listing has, and what one push does from it. Assumes nothing.
use Prim.Native.Nat.{ℕ, ◌+◌, ◌-◌, ◌^◌, ◌≤◌, ◌<◌}
use mathlib.Core.Path.{◌≡◌, refl, sym, ap, ◌∙◌}
use mathlib.Core.Bool.{Bool, true, false, ◌&&◌}
use mathlib.Core.List.{List}
use Rattle.std.specs.Prelude.{Option, None, Some}
use native.Mathlib.Omega.{arith}
use lib.ListN.{length, take, drop, length-drop}
use lib.Dec.{leb}
use borrow.Author.Tests.{le-leb, leb-true, eq-eqb}
use Rattle.std.proofs.lemmas.Bool.Decides.{nat_tests}
use Rattle.wire.specs.Refusals.{none, passes}
use Rattle.wire.proofs.PartLaws.{part_end}
use Rattle.wire.proofs.Rows.{picked, and_left, and_right}
use Rattle.record.specs.Types.{code_of}
use Rattle.parser.specs.Push as parser
use Rattle.parser.specs.Push.{Pushed, latched, progressed, sound_parser, push_of, push, held_in, buffered_of, Count, count_of, counted, payload_at}
use Rattle.parser.specs.declared.Complete.{Complete}
use Rattle.parser.specs.declared.RecordParser.{RecordParser}
use Rattle.text.specs.Decimal.{placed}
use Rattle.text.specs.Lines.{put_text}
use Rattle.text.proofs.Texts.{text_puts}
use Rattle.listing.specs.Reach.{limit, adds_up, refused_bytes}
use Rattle.listing.proofs.Sums.{adds_low}
use Rattle.listing.specs.Settled.{idle, settled, is_settled}
use Rattle.listing.specs.Steps.{Listed, listing_of, read_of, sound_listing, listed, Outcome, outcome, line_of, record_listed, pushed, step_of, after_record, Ready, further}
use Rattle.listing.specs.declared.Listing.{Listing}
use Rattle.listing.proofs.Kept.{keeps}
use Rattle.listing.proofs.Counts.{Came, came}
use Rattle.listing.proofs.Settled.{settled_number, settled_sound, settled_held, settles}

-- ---- soundness
pub record Facts (s : Listing) : Type 0 where
  pub parser : sound_parser s.parser ≡ true
  pub settled : is_settled s.parser ≡ true
  pub sums : adds_up s.offset s.«open» ≡ true
  pub «open» : s.«open» ≤ s.offset
  pub read : read_of s ≤ limit
  pub all : read_of s + refused_bytes (latched s.parser).number ≤ limit

module _ (s : Listing) where
  abbrev few : Bool
  few = leb (read_of s + refused_bytes (latched s.parser).number) limit

  pub facts : sound_listing s ≡ true → Facts s
  unfolding sound_listing
  facts t =
      let k : is_settled s.parser && (few && adds_up s.offset s.«open») ≡ true =
      and_right (sound_parser s.parser) (is_settled s.parser && (few && adds_up s.offset s.«open»)) t
      in
      let q : few && adds_up s.offset s.«open» ≡ true = and_right (is_settled s.parser) (few && adds_up s.offset s.«open») k in
      let l : read_of s + refused_bytes (latched s.parser).number ≤ limit =
      leb-true (read_of s + refused_bytes (latched s.parser).number) limit (and_left few (adds_up s.offset s.«open») q)
      in
      let e : adds_up s.offset s.«open» ≡ true = and_right few (adds_up s.offset s.«open») q in
      record {
        parser = and_left (sound_parser s.parser) (is_settled s.parser && (few && adds_up s.offset s.«open»)) t;
        settled = and_left (is_settled s.parser) (few && adds_up s.offset s.«open») k;
        sums = e;
        «open» = omega (arith, adds_low s.offset s.«open» e);
        read = omega arith;
        all = l;
      }

  from_facts : sound_parser s.parser ≡ true → is_settled s.parser ≡ true → adds_up s.offset s.«open» ≡ true
      → read_of s + refused_bytes (latched s.parser).number ≤ limit → sound_listing s ≡ true
  unfolding sound_listing
  from_facts p k e l = λ j. p j && (k j && (le-leb (read_of s + refused_bytes (latched s.parser).number) limit l j && e j))

-- ---- one push
no_bytes : (n : ℕ) → refused_bytes n ≡ 0 → n ≡ 0
unfolding refused_bytes
no_bytes n = grind (arith, nat_tests)

-- after a complete record what is kept of the parser is a new one
new_after : (p : RecordParser) → buffered_of p + refused_bytes (latched p).number ≡ 0 → settled p ≡ parser.fresh
unfolding settled parser.latch
new_after p z =
    let n : (latched p).number ≡ 0 = no_bytes (latched p).number (omega arith) in
    let h : p.header_len ≡ 0 = omega arith in
    simp (eq-eqb p.header_len 0 h) (ap idle n)

consumed_is : (k : Option Complete) (n : ℕ) (p : RecordParser) → (progressed k n p).consumed ≡ n
consumed_is None n p = refl
consumed_is (Some k) n p = refl

-- a push of what is left of a piece, and what it answers
module _ (s : Listing) (piece stage output : List ℕ) (taken at : ℕ) (a : Pushed) (after : List ℕ) (g : Ready s piece output taken at)
    (e : parser.outcome a after ≡ push_of s.parser (take (length piece - taken) (drop taken piece)) stage) where
  abbrev rest : List ℕ
  rest = drop taken piece

  abbrev done : Outcome
  done = further taken (step_of s rest stage output at)

  told : parser.outcome a after ≡ push_of s.parser rest stage
  told = e ∙ ap (λ (x : List ℕ). push_of s.parser x stage) (part_end taken piece)

  came_of : Came (buffered_of s.parser) (refused_bytes (latched s.parser).number) (length rest) a
  unfolding push_of
  came_of = rw (ap (λ (o : parser.Outcome). o.pushed) (sym told)) at (came s.parser (length stage) (held_in s.parser stage) rest (facts s g.sound).parser)

  step_within : taken + a.consumed ≤ length piece
  step_within = let q : length rest ≡ length piece - taken = length-drop taken piece in omega (arith, came_of.within, g.within)

  pub step_taken : (k : Option Complete) (n : ℕ) (p : RecordParser) → a ≡ progressed k n p → taken + n ≤ length piece
  step_taken k n p q = omega (arith, step_within, ap (λ (x : Pushed). x.consumed) q, consumed_is k n p)

  pub step_fits : a.complete ≡ true → (s.«open» ≤ s.offset) × (s.offset + (44 + a.«record».length) < 2 ^ 64)
  step_fits c = ((facts s g.sound).«open», omega (arith, came_of.whole c, step_within, g.read))

  pub step_none : (n : ℕ) (r : Listed) → a.complete ≡ false → n ≡ taken + a.consumed → r ≡ listed a.refusal n at (listing_of (settled a.parser) s.offset s.«open»)
      → outcome r after output ≡ done
  unfolding pushed
  step_none n r t k w = simp (← told, t, ← k, w)

  pub step_line : (payload o2 : List ℕ) (t : Listing) (r : ℕ) → a.complete ≡ true
      → payload ≡ payload_at a.place a.«record».length (take (length piece - taken) rest) after
      → t ≡ after_record s a.«record» payload → placed r o2 ≡ put_text output at (line_of s a.«record» payload)
      → outcome (listed none (taken + a.consumed) r t) after o2 ≡ done
  unfolding pushed record_listed
  step_line payload o2 t r c ep et w =
      let y = ep ∙ ap (λ (x : List ℕ). payload_at a.place a.«record».length x after) (part_end taken piece) in
      let n = new_after a.parser (came_of.empty c) in
      let p = text_puts output at (line_of s a.«record» payload) r o2 g.room w in
      simp (← told, c, n, ← y, et) (λ j. outcome (listed none (taken + a.consumed) (p j).next (after_record s a.«record» payload)) after (p j).output)

-- what one push does with the counts of a sound listing, lent no more bytes than may be read
pub record Stepped (s : Listing) (n : ℕ) (r : Listed) : Type 0 where
  pub within : r.taken ≤ n
  pub some : passes r.refusal ≡ true → 0 < n → 0 < r.taken
  pub nothing : passes r.refusal ≡ true → r.refusal ≡ none
  pub sound : sound_listing r.listing ≡ true
  pub read : read_of r.listing ≤ read_of s + r.taken

module _ (s : Listing) (piece stage output : List ℕ) (at : ℕ) (t : sound_listing s ≡ true) (l : read_of s + length piece ≤ limit) where
  abbrev a : Pushed
  a = (push s.parser (length stage) (held_in s.parser stage) piece).answer

  abbrev y : List ℕ
  y = payload_at a.place a.«record».length piece (push_of s.parser piece stage).stage

  k : Came (buffered_of s.parser) (refused_bytes (latched s.parser).number) (length piece) a
  k = came s.parser (length stage) (held_in s.parser stage) piece (facts s t).parser

  -- the parser that is kept
  kept : is_settled (settled a.parser) ≡ true
  kept = let f = facts s t in settles s.parser (length stage) (held_in s.parser stage) piece f.parser f.settled

  same_held : buffered_of (settled a.parser) ≡ buffered_of a.parser
  same_held = settled_held a.parser k.sound

  same_refused : refused_bytes (latched (settled a.parser)).number ≡ refused_bytes (latched a.parser).number
  same_refused = ap refused_bytes (settled_number a.parser)

  pub stepped : Stepped s (length piece) (step_of s piece stage output at).listed
  unfolding push_of pushed record_listed
  stepped =
      let f = facts s t in
      let b = k in
      picked (λ (o : Outcome). Stepped s (length piece) o.listed) a.complete
      (λ c.
      let w : buffered_of s.parser + a.consumed ≡ 44 + a.«record».length = b.whole c in
      let z : buffered_of a.parser + refused_bytes (latched a.parser).number ≡ 0 = b.empty c in
      let g = same_held in
      let i = same_refused in
      record {
        within = b.within;
        some = λ _. b.some (b.clear c);
        nothing = λ _. refl;
        sound = from_facts _ (settled_sound a.parser b.sound) kept (keeps s.offset s.«open» (code_of a.«record».record_type) a.«record».length y (b.sized c) f.sums) (omega (arith, b.within));
        read = omega arith;
      })
      (λ c.
      let z : buffered_of a.parser ≤ buffered_of s.parser + a.consumed = b.kept c in
      let g = same_held in
      let i = same_refused in
      record {
        within = b.within;
        some = b.some;
        nothing = b.nothing;
        sound = from_facts _ (settled_sound a.parser b.sound) kept f.sums
            (omega (arith, b.below (limit - s.offset) c (omega (arith, f.all)) (omega arith), f.read));
        read = omega arith;
      })
