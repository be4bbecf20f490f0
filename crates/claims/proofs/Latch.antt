-- A latched error is given again, and every push leaves a sound parser sound: the counts of a parser with an error are 0, and each
-- outcome of a push names the parser that it leaves. Assumes nothing.
use Prim.Native.Nat.{ℕ, ◌+◌, ◌-◌, ◌≤◌}
use mathlib.Core.Path.{◌≡◌, refl, sym, ap, ap₂, ◌∙◌}
use mathlib.Core.Bool.{Bool, true, false, ◌&&◌, ◌||◌}
use mathlib.Core.List.{List, [], ◌++◌}
use native.Mathlib.Omega.{arith}
use lib.Dec.{leb, eqb}
use borrow.Author.Tests.{leb-true, le-leb, eqb-true, ne_eqb}
use Rattle.wire.specs.Refusals.{pick, refusal, none, first, passes}
use Rattle.wire.specs.Header.{length_of}
use Rattle.wire.specs.declared.Refusal.{Refusal}
use Rattle.wire.proofs.Rows.{and_left, and_right}
use Rattle.parser.specs.Push.{latched}
use Rattle.parser.specs.Push.{counts_ok, error_ok, sound_parser, Push, stopped, head_with, push_head, push_rows, push, needed_of}
use Rattle.parser.specs.declared.RecordParser.{RecordParser}
use Rattle.parser.specs.Push.{Pushed}
use Rattle.claims.specs.Reading.{held_bytes, Ready, Again, PushKeepsSound}
use Rattle.claims.proofs.Scans.{Scan, unfinished, whole, refused, scan}
use Rattle.claims.proofs.Outcomes.{true_not_false, Part, in_head, in_body, part_of, Matches}
use Rattle.claims.proofs.Pushes.{push_matches}
use Rattle.claims.proofs.Stream.{completed_ready, refused_latches}

or_right : (a b : Bool) → a ≡ false → a || b ≡ true → b ≡ true
or_right true b q e = cc
or_right false b q e = e

-- ---- what a push does that its rows stop
module _ (p : RecordParser) (size : ℕ) (held piece : List ℕ) where
  pub push_stops : passes (first (push_rows p size)) ≡ false → (push p size held piece).answer ≡ stopped p (first (push_rows p size))
  unfolding push
  push_stops e =
      ap (λ (t : Bool). (pick t (push_head p.header p.header_len p.payload_len held piece)
      (record { answer = stopped p (first (push_rows p size)); held = held; payload = [] })).answer) e

  -- ---- a latched error
  module _ (sound : sound_parser p ≡ true) (refusing : passes (latched p) ≡ false) (room : 65536 ≤ size) where
    first_error : first (push_rows p size) ≡ (latched p)
    unfolding first
    first_error =
        λ j. pick (sound j) (pick (le-leb 65536 size room j) (pick (refusing j) none (latched p)) (refusal 21 0 0 0)) (refusal 23 0 0 0)

    no_header : p.header_len ≡ 0
    unfolding sound_parser error_ok
    no_header =
        eqb-true p.header_len 0
        (and_right (leb (latched p).number 9) (eqb p.header_len 0)
        (or_right (eqb (latched p).number 0) (leb (latched p).number 9 && eqb p.header_len 0) refusing
        (and_right (counts_ok p.header p.header_len p.payload_len) (error_ok (latched p).number p.header_len) sound)))

    no_payload : Part p.header p.header_len p.payload_len → p.payload_len ≡ 0
    no_payload (in_head x y) = y
    no_payload (in_body x c y) = absurd (omega (arith, no_header))

    counts : Part p.header p.header_len p.payload_len
    unfolding sound_parser
    counts =
        part_of p.header p.header_len p.payload_len
        (and_left (counts_ok p.header p.header_len p.payload_len) (error_ok (latched p).number p.header_len) sound)

    needs_all : needed_of p ≡ 44
    unfolding needed_of
    needs_all =
        ap (λ (t : Bool). pick t (length_of p.header - p.payload_len) (44 - p.header_len)) (ne_eqb p.header_len 44 (λ e. omega (arith, no_header)))
        ∙ ap (λ (n : ℕ). 44 - n) no_header

    pub again : Again p (push p size held piece)
    again =
        record {
          answer = push_stops (ap (λ (r : Refusal). passes r) first_error ∙ refusing) ∙ ap (stopped p) first_error;
          needed = needs_all;
          buffered = ap₂ (λ (a b : ℕ). a + b) no_header (no_payload counts);
        }

-- ---- soundness
sound_as : (b piece H : List ℕ) (u : Push) (v : Scan) → Matches b piece H u v → sound_parser u.answer.parser ≡ true
sound_as b piece H u unfinished t = t.ready.sound
sound_as b piece H u (whole h y) t = (completed_ready t).sound
sound_as b piece H u (refused r) t = (refused_latches t).sound

-- rows that let a push pass: the stage is long enough, and no error is latched
rows_tell : (a b c : Bool) (r : Refusal) → passes r ≡ c → a ≡ true → passes (pick a (pick b (pick c none r) (refusal 21 0 0 0)) (refusal 23 0 0 0)) ≡ true
    → (b ≡ true) × (c ≡ true)
rows_tell true true true r q e f = (refl, refl)
rows_tell true true false r q e f = true_not_false (sym f ∙ q)
rows_tell true false c r q e f = true_not_false (sym f)
rows_tell false b c r q e f = true_not_false (sym e)

pub sound : PushKeepsSound
unfolding first
sound p size held piece s l c = go (passes (first (push_rows p size))) refl
  where
    go : (t : Bool) → passes (first (push_rows p size)) ≡ t → sound_parser (push p size held piece).answer.parser ≡ true
    go true e =
        let q = rows_tell (sound_parser p) (leb 65536 size) (passes (latched p)) (latched p) refl s e in
        let r : Ready p held = record { sound = s; clear = q.1; size = l; count = c } in
        sound_as (held_bytes p held) piece (head_with p.header p.header_len piece) (push p size held piece) (scan (held_bytes p held ++ piece))
        (push_matches p size held piece r (leb-true 65536 size q.0))
    go false e = ap (λ (u : Pushed). sound_parser u.parser) (push_stops p size held piece e) ∙ s
