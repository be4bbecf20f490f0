-- Why the fast path of a receive answers what its rule asks: a step is a push whose answer is known from few tests, it waits, or it completes
-- DATA that passes the rows. It leans on the cases of the push (`Rattle.parser.proofs.Cases`). Assumes nothing.
use Prim.Native.Nat.{ℕ, ◌+◌, ◌-◌, ◌^◌, ◌≤◌, ◌<◌, min}
use mathlib.Core.Path.{◌≡◌, refl, sym, ap, ◌∙◌}
use mathlib.Core.Bool.{Bool, true, false}
use mathlib.Core.List.{List}
use native.Mathlib.Omega.{arith}
use lib.ListN.{length, take, drop}
use Rattle.std.proofs.lemmas.Bool.Decides.{nat_tests}
use Rattle.wire.specs.Bytes.{copied}
use Rattle.wire.specs.Refusals.{none, first, passes}
use Rattle.wire.specs.Header.{type_of, length_of}
use Rattle.record.specs.Record.{header_checks, payload_checks, record_with}
use Rattle.parser.specs.Push.{Push, Pushed, parser_of, latched, sound_parser, clear, waiting, completed, finish, push_body, body_stage, head_taken, head_with, push_rows, push_of, push, push_stage, held_in}
use Rattle.parser.specs.Push as pushing
use Rattle.parser.specs.declared.Place.{Place}
use Rattle.parser.specs.declared.Place.TheVariants.{Piece, Stage}
use Rattle.parser.proofs.Cases.{type_code, length_low, sound_passes, body_waits, body_piece, body_stage_lem, sound_count, head_waits, head_checked, push_goes, sound_room, open_taken}
use Rattle.session.specs.Checks.{last_sequence}
use Rattle.guest_core.specs.State.{active_guest, sound_guest}
use Rattle.guest_core.specs.declared.GuestSession.{GuestSession}
use Rattle.guest.specs.Receive.{told, accept, accept_data, after_push, receive_rows, Outcome, outcome, receive, receive_stage, receive_of}
use Rattle.guest.specs.Flow.{flowing, takes_data, after44, stays, waits_at, hands_out, stepped}
use Rattle.guest.proofs.Receiving.{answer_told}

-- what a receive makes of a push
abbrev after : GuestSession → pushing.Outcome → Outcome
after g u = outcome (after_push g (told u.pushed)).answer u.stage

-- ---- what is known while DATA may flow
module _ (g : GuestSession) (n : ℕ) (f : flowing g n ≡ true) where
  pub flow_active : active_guest g ≡ true
  unfolding flowing
  flow_active = grind (arith, nat_tests)

  pub flow_whole : 65536 ≤ n
  unfolding flowing
  flow_whole = grind (arith, nat_tests)

  pub flow_sound : sound_parser g.parser ≡ true
  unfolding flowing clear
  flow_sound = grind (arith, nat_tests)

  pub flow_count : g.parser.header_len ≤ 44
  flow_count = sound_count g.parser flow_sound

  -- nothing stops the push, nor the receive
  flow_pushes : none ≡ first (push_rows g.parser n)
  unfolding flowing clear first
  flow_pushes = grind (arith, nat_tests)

  flow_receives : none ≡ first (receive_rows g n)
  unfolding flowing clear first active_guest sound_guest
  flow_receives = grind (arith, nat_tests)

-- ---- the receive
module _ (g : GuestSession) (piece stage : List ℕ) (f : flowing g (length stage) ≡ true) where
  -- nothing stops it
  pub goes : after g (push_of g.parser piece stage) ≡ receive_of g piece stage
  unfolding receive_of receive receive_stage push_of
  goes = grind (arith, answer_told, flow_receives g (length stage) f)

-- ---- DATA that the session takes
-- a test that failed
pub takes_none : (b : Bool) → false ≡ true → b ≡ true
takes_none b e = cc

module _ (g : GuestSession) (h : List ℕ) (t : takes_data g h ≡ true) where
  pub takes_next : g.receive_sequence.0 < last_sequence
  unfolding takes_data first record_with
  takes_next = grind (arith, nat_tests)

  pub takes_passes : passes (header_checks h) ≡ true
  unfolding takes_data
  takes_passes = grind (arith, nat_tests)

  takes_five : type_of h ≡ 5
  unfolding takes_data
  takes_five = grind (arith, nat_tests)

  -- a payload of DATA has no checks of its own
  finishes : (payload : List ℕ) (n : ℕ) (place : Place) → completed h n place ≡ (finish h payload n place).answer
  unfolding takes_data finish payload_checks first
  finishes payload n place = simp takes_five

  module _ (a : active_guest g ≡ true) where
    pub takes_room : (n : ℕ) → n ≡ length_of h → g.outstanding + n < 2 ^ 32
    unfolding takes_data first record_with active_guest
    takes_room n e = grind (arith, nat_tests)

    -- what a receive makes of it
    takes_out : (n : ℕ) (place : Place) → (after_push g (told (completed h n place))).answer ≡ stepped (hands_out (length_of h) n place) h g
    unfolding after_push accept accept_data takes_data record_with first active_guest
    takes_out n place = grind (arith, nat_tests, type_code h takes_passes)

-- ---- byte 44 has come
module _ (g : GuestSession) (h rest stage : List ℕ) (size n from : ℕ) (t : takes_data g h ≡ true) (a : active_guest g ≡ true) (room : 65536 ≤ length stage)
    (ez : size ≡ length_of h) (en : n ≡ min (size - g.parser.payload_len) (length rest)) where
  abbrev k : ℕ
  k = g.parser.payload_len

  abbrev part : List ℕ
  part = take (n - 0) (drop 0 rest)

  -- what follows is the payload step
  body : (v : Pushed) (left : List ℕ) → pushing.outcome v left ≡ pushing.outcome (push_body h k (take k stage) rest from).answer (body_stage h k rest stage)
      → after g (after44 h k rest from stage) ≡ outcome (after_push g (told v)).answer left
  body v left e = simp (takes_passes g h t) (ap (after g) (sym e))

  pub data_waits : k + n < size → after g (after44 h k rest from stage) ≡ outcome (stepped (waits_at 44 (k + n) (from + n)) h g) (copied stage k part)
  unfolding after_push
  data_waits l = body _ _ (body_waits h size k rest from stage n (waiting h 44 (k + n) (from + n)) ez en _ room (takes_passes g h t) l refl refl)

  module _ (l : size ≤ k + n) (fits : k ≤ length_of h) where
    pub data_piece : k ≡ 0 → after g (after44 h k rest from stage) ≡ outcome (stepped (hands_out size (from + n) (Piece from)) h g) stage
    data_piece z =
        rw ez (body _ _ (body_piece h size k rest from stage n (completed h (from + n) (Piece from)) ez en l fits z (finishes g h t _ _ _))
        ∙ ap (λ r. outcome r stage) (takes_out g h t a (from + n) (Piece from)))

    pub data_stage : (k ≡ 0 → ⊥) → after g (after44 h k rest from stage) ≡ outcome (stepped (hands_out size (from + n) Stage) h g) (copied stage k part)
    data_stage z =
        rw ez (body _ _ (body_stage_lem h size k rest from stage n (completed h (from + n) Stage) ez en l fits _ room (takes_passes g h t) z refl (finishes g h t _ _ _))
        ∙ ap (λ r. outcome r (copied stage k part)) (takes_out g h t a (from + n) Stage))

pub ruleset data_steps = (data_waits, data_piece, data_stage, takes_next, takes_room)

-- ---- header bytes
module _ (g : GuestSession) (piece stage : List ℕ) (n : ℕ) (h : List ℕ) (f : flowing g (length stage) ≡ true) (en : n ≡ head_taken g.parser.header_len piece)
    (eh : h ≡ head_with g.parser.header g.parser.header_len piece) where
  abbrev had : ℕ
  had = g.parser.header_len

  pub front_waits : had + n < 44 → after g (push_of g.parser piece stage) ≡ outcome (stepped (waits_at (had + n) 0 n) h g) stage
  unfolding after_push
  front_waits l =
      ap (after g) (sym (push_goes g.parser piece stage (flow_pushes g _ f) _ stage
      (head_waits g.parser.header piece had n h en eh stage g.parser.payload_len (waiting h (had + n) 0 n) l refl)))

  pub front_goes : 44 ≤ had + n → push_of g.parser piece stage ≡ after44 h g.parser.payload_len (take (length piece - n) (drop n piece)) n stage
  front_goes l =
      let w : pushing.Outcome = after44 h g.parser.payload_len (take (length piece - n) (drop n piece)) n stage in
      sym (push_goes g.parser piece stage (flow_pushes g _ f) w.pushed w.stage
      (head_checked g.parser.header piece had n h en eh stage g.parser.payload_len w.pushed w.stage l refl))

  pub front_room : g.parser.payload_len ≤ length_of h
  front_room = rw eh (sound_room g.parser (flow_sound g _ f) piece)

pub ruleset head_steps = (flow_active, flow_whole, flow_count, front_waits, front_goes, front_room)

-- ---- the payload in progress stays unfinished
module _ (g : GuestSession) (piece stage : List ℕ) (f : flowing g (length stage) ≡ true) (o : stays g.parser (length piece) ≡ true) where
  abbrev come : ℕ
  come = g.parser.payload_len + length piece

  full : g.parser.header_len ≡ 44
  full = grind (arith, nat_tests)

  pub stays_low : come < 2 ^ 32
  stays_low = let s = length_low g.parser.header (sound_passes g.parser true (sym (flow_sound g _ f)) refl full) in grind (arith, nat_tests)

  pub stays_waits : receive_of g piece stage
      ≡ outcome (stepped (waits_at g.parser.header_len come (length piece)) g.parser.header g) (copied stage g.parser.payload_len piece)
  unfolding after_push
  stays_waits =
      sym (goes g piece stage f)
      ∙ ap (after g) (sym (open_taken g.parser piece stage _ (flow_sound g _ f) (flow_whole g _ f) o refl))
      ∙ ap (λ (j : ℕ). outcome (stepped (waits_at j come (length piece)) g.parser.header g) (copied stage g.parser.payload_len piece)) (sym full)
