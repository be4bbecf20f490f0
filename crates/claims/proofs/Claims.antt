-- The claims of `specs/Claims.antt`. At the start what is still to be written is the listing without its names; where nothing more is
-- read it is the last line; and calls in between write what is missing (`calls_write`). Assumes nothing.
use Prim.Native.Nat.{ℕ, zero, suc, ◌+◌, ◌-◌, ◌≤◌, ◌<◌, min}
use mathlib.Core.Path.{◌≡◌, refl, sym, ap, subst, ◌∙◌}
use mathlib.Core.Bool.{Bool, true, false, ◌&&◌}
use mathlib.Core.List.{List, [], ◌∷◌, ◌++◌, append-nil}
use native.Mathlib.Omega.{arith}
use lib.ListN.{length, take, drop, length-take}
use lib.Seq.{take_at, take_all}
use lib.Dec.{leb, ltb}
use borrow.Author.Tests.{le-leb, leb-true, eqb-true, lt-ltb}
use Rattle.wire.specs.Bytes.{overlay, from_le, to_le}
use Rattle.wire.specs.Header.{magic_of, version_of, type_of, flags_of, instance_of, epoch_of, sequence_of, length_of, header_bytes}
use Rattle.wire.specs.Refusals.{pick, none, first, passes}
use Rattle.outer.specs.Outer.{write, value_of, window_ok, credit_ok}
use Rattle.record.specs.Types.{length_ok, type_at}
use Rattle.record.specs.Record.{all_zero, header_checks, payload_checks}
use Rattle.text.specs.Decimal.{number, decimal, decimal_in}
use Rattle.outer.specs.Outer as outer
use Rattle.wire.specs.declared.Refusal.{Refusal}
use Rattle.wire.proofs.Rows.{picked, pass_all}
use Rattle.parser.specs.Push.{latched}
use Rattle.parser.specs.Push.{buffered_of, held_in}
use Rattle.claims.proofs.Outcomes.{true_not_false, ready_scan}
use Rattle.claims.proofs.Feeds.{bytes_in}
use Rattle.claims.proofs.Latch.{again}
use Rattle.text.specs.Lines.{names, line, ending, line_room}
use Rattle.listing.specs.Reach.{limit}
use Rattle.listing.specs.Listing.{open_after, list_from, lines_from, listing}
use Rattle.listing.specs.Steps.{fresh, read_of, sound_listing, listed, Outcome, outcome, step_of, sound_row, room_row, lines, list_rows, readable, list_of, names_of, end_line, end_of}
use Rattle.listing.specs.Calls.{Ended, all_taken, refused, full}
use Rattle.listing.specs.declared.Listing.{Listing}
use Rattle.listing.proofs.Cases.{facts, Stepped, stepped}
use Rattle.claims.specs.Claims.{joined, text, OutputIsListing, NeverUnsound, TakesSome, ReadingEnds, ListingClaims}
use Rattle.claims.specs.Example.{capture, printed}
use Rattle.claims.proofs.Scanned.{unfinished_lines}
use Rattle.claims.proofs.Futures.{future, future_on, future_off, Good, held_length}
use Rattle.claims.proofs.Runs.{list_passes, calls_write}
use Rattle.claims.proofs.Reached.{first_good, reached}

-- ---- one line written
write_text : (v : Refusal) (bytes o : List ℕ) → passes v ≡ true → text (write v bytes o 0) ≡ bytes
unfolding write overlay
write_text v bytes o e =
    ap (λ (t : Bool). text (pick t (outer.outcome (record { refusal = none; next = 0 + length bytes }) (overlay o 0 bytes)) (outer.outcome (record { refusal = v; next = 0 }) o))) e
    ∙ take_at bytes (drop (0 + length bytes) o) (0 + length bytes) (omega arith)

names_text : (o : List ℕ) → line_room ≤ length o → text (names_of o) ≡ names
names_text o l = write_text (first (room_row o ∷ [])) names o (pass_all (room_row o ∷ []) (le-leb 126 (length o) l, tt))

end_text : (t : Listing) (o : List ℕ) → sound_listing t ≡ true → line_room ≤ length o → text (end_of t o) ≡ end_line t
end_text t o s l = write_text (first (sound_row t ∷ room_row o ∷ [])) (end_line t) o (pass_all (sound_row t ∷ room_row o ∷ []) (s, (le-leb 126 (length o) l, tt)))

-- ---- the start
first_future : (stage input : List ℕ) → future fresh stage input ≡ lines_from 0 0 (take limit input)
first_future stage input = future_on fresh stage input refl

-- ---- the end
module _ (t : Listing) (after left : List ℕ) (g : Good t after) where
  abbrev b : List ℕ
  b = bytes_in t.parser after

  -- with no refusal, where none of the bytes to come is read
  held_only : passes (latched t.parser) ≡ true → take (limit - t.offset) (b ++ left) ≡ b → future t after left ≡ end_line t
  unfolding end_line
  held_only on e =
      let z : (latched t.parser).number ≡ 0 = eqb-true (latched t.parser).number 0 on in
      future_on t after left on
      ∙ ap (lines_from t.offset t.«open») e
      ∙ unfinished_lines t.offset t.«open» b (ready_scan t.parser (held_in t.parser after) (g.ready on))
      ∙ (λ i. ending t.offset (sym z i) (held_length t.parser after (g.ready on) i))

  end_refused : passes (latched t.parser) ≡ false → future t after left ≡ end_line t
  unfolding end_line
  end_refused off =
      let f = facts t g.sound in
      future_off t after left off ∙ ap (ending t.offset (latched t.parser).number) (sym (again t.parser 65536 [] [] f.parser off (omega arith)).buffered)

  end_future : Ended t left → future t after left ≡ end_line t
  end_future e = go (passes (latched t.parser)) refl e
    where
      go : (p : Bool) → passes (latched t.parser) ≡ p → Ended t left → future t after left ≡ end_line t
      go false off e = end_refused off
      go true on (refused off) = end_refused off
      go true on (all_taken q) =
          let f = facts t g.sound in
          let l : length b ≡ buffered_of t.parser = held_length t.parser after (g.ready on) in
          held_only on (ap (λ (x : List ℕ). take (limit - t.offset) (b ++ x)) q ∙ ap (take (limit - t.offset)) (append-nil b) ∙ take_all (limit - t.offset) b (omega (arith, f.read)))
      go true on (full q) =
          let l : length b ≡ buffered_of t.parser = held_length t.parser after (g.ready on) in
          held_only on (take_at b left (limit - t.offset) (omega arith))

-- ---- the claims
output : OutputIsListing
unfolding listing
output input left stage after front back t texts room lf lb c e =
    let k = calls_write c (first_good stage room) in
    (λ i. names_text front lf i ++ (joined texts ++ (end_text t back k.1.sound lb ∙ sym (end_future t after left k.1 e)) i))
    ∙ ap (λ (x : List ℕ). names ++ x) (k.0 ∙ first_future stage input)

sound : NeverUnsound
sound input left stage after t texts room c = (calls_write c (first_good stage room)).1.sound

-- what was taken stays taken
lines_grow : (n : ℕ) (s : Listing) (piece stage o : List ℕ) (taken at : ℕ) → taken ≤ (lines n s piece stage o taken at).listed.taken
unfolding lines
lines_grow zero s piece stage o taken at = omega arith
lines_grow (suc n) s piece stage o taken at =
    picked (λ (x : Outcome). taken ≤ x.listed.taken) (ltb taken (length piece) && leb (at + 126) (length o))
    (λ _. picked (λ (x : Outcome). taken ≤ x.listed.taken) (passes (step_of s (drop taken piece) stage o at).listed.refusal)
    (λ _. omega (
      arith,
      lines_grow n (step_of s (drop taken piece) stage o at).listed.listing piece (step_of s (drop taken piece) stage o at).stage
          (step_of s (drop taken piece) stage o at).output (taken + (step_of s (drop taken piece) stage o at).listed.taken) (step_of s (drop taken piece) stage o at).listed.written,
    ))
    (λ _. omega arith))
    (λ _. omega arith)

abbrev Some : Outcome → Type 0
Some x = passes x.listed.refusal ≡ true → 0 < x.listed.taken

lines_some : (n : ℕ) (s : Listing) (piece stage o : List ℕ) → 0 < n → n ≡ length piece → sound_listing s ≡ true → read_of s + length piece ≤ limit → 126 ≤ length o
    → Some (lines n s piece stage o 0 0)
unfolding lines
lines_some zero s piece stage o z e t l r = absurd (omega arith)
lines_some (suc n) s piece stage o z e t l r =
    let x : Outcome = step_of s piece stage o 0 in
    let k : Stepped s (length piece) x.listed = stepped s piece stage o 0 t l in
    subst Some (sym (λ i. pick (lt-ltb 0 (length piece) (omega arith) i && le-leb (0 + 126) (length o) r i)
    (pick (passes x.listed.refusal) (lines n x.listed.listing piece x.stage x.output (0 + x.listed.taken) x.listed.written)
    (outcome (listed x.listed.refusal (0 + x.listed.taken) x.listed.written x.listed.listing) x.stage x.output))
    (outcome (listed none 0 0 s) stage o)))
    (picked Some (passes x.listed.refusal)
    (λ p _. omega (arith, k.some p (omega arith), lines_grow n x.listed.listing piece x.stage x.output (0 + x.listed.taken) x.listed.written))
    (λ f p. true_not_false (sym p ∙ f)))

some : TakesSome
unfolding list_of
some s piece stage o z l =
    picked Some (passes (first (list_rows s stage o)))
    (λ p.
    let m : List ℕ = readable s piece in
    let k : length m ≡ min (limit - read_of s) (length piece) = length-take (limit - read_of s) piece in
    let q = list_passes s stage o p in
    lines_some (length m) s m stage o (omega arith) refl q.0 (omega (arith, (facts s q.0).read)) (leb-true 126 (length o) q.1))
    (λ f p. true_not_false (sym p ∙ f))

ends : ReadingEnds
unfolding listing
ends input = ap (λ (x : List ℕ). names ++ lines_from 0 0 x) (take_all limit (take limit input) (simp length-take (omega arith)))

-- 01's listing, computed
example : listing capture ≡ printed
unfolding listing capture printed names list_from line ending open_after number decimal decimal_in header_checks payload_checks first from_le to_le header_bytes magic_of version_of type_of flags_of instance_of epoch_of sequence_of length_of length_ok type_at all_zero value_of window_ok credit_ok
example = refl

pub claims : ListingClaims
claims = record { output = output; sound = sound; reached = reached; some = some; ends = ends; example = example }
