-- A sound host never answers 23: it is the number of each call's first row alone, whose test is soundness; all other rows have other
-- numbers, and what a push refuses has a number up to 9 or 21. So a shorter stage gets 21, the next row. Assumes nothing.
use Prim.Native.Nat.{ℕ, ◌+◌, ◌≤◌, ◌<◌}
use mathlib.Core.Path.{◌≡◌, refl}
use mathlib.Core.Bool.{Bool, true, false, ◌&&◌, ◌||◌}
use mathlib.Core.List.{List, [], ◌∷◌}
use native.Mathlib.Omega.{arith}
use lib.ListN.{length, drop}
use lib.Dec.{ltb, leb, eqb}
use borrow.Author.Tests.{leb-true, lt-leb, eqb-true, eqb-false, ne_eqb}
use Rattle.wire.specs.Refusals.{refusal, first, passes}
use Rattle.session.specs.Checks.{held}
use Rattle.wire.specs.Header.{type_of, length_of}
use Rattle.wire.specs.declared.Refusal.{Refusal}
use Rattle.wire.proofs.Rows.{picked, and_left, and_right}
use Rattle.record.specs.Types.{code_of}
use Rattle.record.specs.Record.{header_checks, payload_checks}
use Rattle.record.specs.declared.types.RecordType.{RecordType}
use Rattle.record.specs.declared.types.RecordType.TheVariants as Kind
use Rattle.record.specs.declared.Record.{Record}
use Rattle.parser.specs.Push.{latched}
use Rattle.parser.specs.Push.{counts_ok, error_ok, sound_parser, Push, finish, body_taken, push_body, head_taken, head_with, push_head, push_rows, push, held_in, buffered_of}
use Rattle.parser.specs.declared.RecordParser.{RecordParser}
use Rattle.parser.specs.declared.Place.{Place}
use Rattle.session.specs.declared.Identity.{Identity}
use Rattle.host.specs.State.{is_begun, sound_host}
use Rattle.host.specs.Checks.{type_rows, record_rows}
use Rattle.host.specs.Receive as Receive
use Rattle.host.specs.Asks as Asks
use Rattle.host.specs.Calls as Calls
use Rattle.host.specs.declared.HostSession.{HostSession}
use Rattle.host.specs.Calls.{Closed}
use Rattle.claims.specs.HostCalls.{HostCall, attach, receive, receive_short, send, disconnect, ask_state, ask_identity, ask_needed, refusal_of, step, reply, after, fresh_place}
use Rattle.parser.proofs.Latches.{header_low, payload_low}
use Rattle.claims.proofs.HostSound.{fit_reached, always_sound}

-- a refusal other than 23, and rows of such
abbrev Not : Refusal → Type 0
Not r = eqb r.number 23 ≡ false

abbrev Nots : List (Bool × Refusal) → Type 0
Nots [] = Unit {0}
Nots (row ∷ rows) = Not row.1 × Nots rows

first_not : (rows : List (Bool × Refusal)) → Nots rows → Not (first rows)
unfolding first
first_not [] n = refl
first_not (row ∷ rows) n = picked Not row.0 (λ _. first_not rows n.1) (λ _. n.0)

-- rows whose first test holds
held_first : (t : Bool) (r : Refusal) (rows : List (Bool × Refusal)) → t ≡ true → Nots rows → Not (first ((t, r) ∷ rows))
unfolding first
held_first t r rows e n = rw e (first_not rows n)

low_not : (r : Refusal) → r.number ≤ 9 → Not r
low_not r l = ne_eqb r.number 23 (λ e. omega arith)

-- ---- a push
abbrev NotPush : Push → Type 0
NotPush u = Not u.answer.refusal

finish_not : (h payload : List ℕ) (n : ℕ) (place : Place) → NotPush (finish h payload n place)
unfolding finish
finish_not h payload n place =
    picked NotPush (passes (payload_checks (type_of h) payload)) (λ _. refl) (λ _. low_not (payload_checks (type_of h) payload) (payload_low (type_of h) payload))

body_not : (h : List ℕ) (k : ℕ) (held rest : List ℕ) (from : ℕ) → NotPush (push_body h k held rest from)
unfolding push_body
body_not h k held rest from = picked NotPush (ltb (k + body_taken h k rest) (length_of h)) (λ _. refl) (λ _. finish_not h _ _ _)

head_not : (header : List ℕ) (n k : ℕ) (held piece : List ℕ) → NotPush (push_head header n k held piece)
unfolding push_head
head_not header n k held piece =
    let h : List ℕ = head_with header n piece in
    picked NotPush (ltb (n + head_taken n piece) 44) (λ _. refl)
    (λ _. picked NotPush (passes (header_checks h)) (λ _. body_not h k held (drop (head_taken n piece) piece) (head_taken n piece)) (λ _. low_not (header_checks h) (header_low h)))

-- a latched error has a number up to 9
pub latched_low : (number n : ℕ) → error_ok number n ≡ true → number ≤ 9
unfolding error_ok
latched_low number n = go (eqb number 0) refl
  where
    go : (t : Bool) → eqb number 0 ≡ t → t || (leb number 9 && eqb n 0) ≡ true → number ≤ 9
    go true q e = let z : number ≡ 0 = eqb-true number 0 q in omega arith
    go false q e = leb-true number 9 (and_left (leb number 9) (eqb n 0) e)

push_not : (p : RecordParser) (size : ℕ) (held piece : List ℕ) → sound_parser p ≡ true → NotPush (push p size held piece)
unfolding push sound_parser
push_not p size held piece s =
    let l : (latched p).number ≤ 9 =
    latched_low (latched p).number p.header_len (and_right (counts_ok p.header p.header_len p.payload_len) (error_ok (latched p).number p.header_len) s)
    in
    picked NotPush (passes (first (push_rows p size))) (λ _. head_not p.header p.header_len p.payload_len held piece)
    (λ _. held_first (sound_parser p) _ _ s (refl, (low_not (latched p) l, tt)))

-- ---- a receive
abbrev NotReceive : Receive.Receive → Type 0
NotReceive r = Not r.answer.refusal

type_not : (t : ℕ) (i : Identity) (r : Record) → Nots (type_rows t i r)
type_not t i r =
    picked Nots (eqb t 7) (λ _. (refl, tt))
    (λ _. picked Nots (eqb t 5) (λ _. (refl, (refl, tt))) (λ _. picked Nots (eqb t 3) (λ _. (refl, (refl, (refl, tt)))) (λ _. tt)))

module _ (h : HostSession) (u : Push) where
  effect_not : (t : RecordType) → NotReceive (Receive.effect t h u)
  unfolding Receive.effect
  effect_not Kind.GuestAttach = refl
  effect_not Kind.HostAttach = refl
  effect_not Kind.Reset = refl
  effect_not Kind.Ack = refl
  effect_not Kind.Data = refl
  effect_not Kind.Wait = refl
  effect_not Kind.Ready = refl
  effect_not Kind.Error = refl
  effect_not Kind.Credit = refl

  accept_not : NotReceive (Receive.accept h u)
  unfolding Receive.accept
  accept_not =
      let r : Record = u.answer.«record» in
      picked NotReceive (passes (first (record_rows h r))) (λ _. effect_not r.record_type)
      (λ _. first_not (record_rows h r) (refl, (refl, (refl, type_not (code_of r.record_type) (held h.identity) r))))

  after_not : NotPush u → NotReceive (Receive.after_push h u)
  unfolding Receive.after_push
  after_not n =
      picked NotReceive (passes u.answer.refusal) (λ _. picked NotReceive u.answer.complete (λ _. accept_not) (λ _. refl)) (λ _. n)

module _ (h : HostSession) (sound : sound_host h ≡ true) where
  receive_not : (size : ℕ) (held piece : List ℕ) → sound_parser h.parser ≡ true → NotReceive (Receive.receive h size held piece)
  unfolding Receive.receive
  receive_not size held piece s =
      picked NotReceive (passes (first (Receive.receive_rows h size)))
      (λ _. after_not h (push h.parser size held piece) (push_not h.parser size held piece s))
      (λ _. held_first (sound_host h) _ _ sound (refl, (refl, tt)))

  -- ---- the other calls
  writes_not : (r : Refusal) (a : HostSession) (n : ℕ) (bytes o : List ℕ) (at : ℕ) → Not r → Not (Calls.writes r h a n bytes o at).sent.refusal
  unfolding Calls.writes
  writes_not r a n bytes o at e = picked (λ (x : Calls.Outcome). Not x.sent.refusal) (passes r) (λ _. refl) (λ _. e)

  step_not : (stage : List ℕ) (c : HostCall) → sound_parser h.parser ≡ true → Not (refusal_of (step h stage c).reply.answer)
  unfolding step Calls.attach Calls.send Calls.disconnect Asks.state_of Asks.identity_of Asks.needed_by Receive.receive_of
  step_not stage (attach capability l output at) s = writes_not _ _ _ _ _ _ (held_first (sound_host h) _ _ sound (refl, (refl, tt)))
  step_not stage (receive piece) s = receive_not (length stage) (held_in h.parser stage) piece s
  step_not stage (receive_short piece lent l) s = receive_not (length lent) (held_in h.parser lent) piece s
  step_not stage (send bytes output at) s = writes_not _ _ _ _ _ _ (held_first (sound_host h) _ _ sound (refl, (refl, (refl, (refl, tt)))))
  step_not stage disconnect s =
      let P : Closed → Type 0 = λ (x : Closed). Not x.refusal in
      rw sound (picked P (is_begun h.state) (λ _. picked P (eqb (buffered_of h.parser) 0) (λ _. refl) (λ _. refl)) (λ _. refl))
  step_not stage ask_state s = rw sound
  step_not stage ask_identity s = rw sound
  step_not stage ask_needed s = rw sound

  short_is : (piece lent stage : List ℕ) (l : length lent < 65536) → refusal_of (step h stage (receive_short piece lent l)).reply.answer ≡ refusal 21 0 0 0
  unfolding step Receive.receive_of Receive.receive first
  short_is piece lent stage l = rw (sound, lt-leb 65536 (length lent) l)

pub never_23 : (s : List ℕ) (cs : List HostCall) (c : HostCall) → (refusal_of (reply (after (fresh_place s) cs) c).answer).number ≡ 23 → ⊥
never_23 s cs c =
    eqb-false _ 23 (step_not (after (fresh_place s) cs).host (always_sound s cs) (after (fresh_place s) cs).stage c (fit_reached s cs).parser)

pub short_21 : (s : List ℕ) (cs : List HostCall) (piece lent : List ℕ) (l : length lent < 65536)
    → refusal_of (reply (after (fresh_place s) cs) (receive_short piece lent l)).answer ≡ refusal 21 0 0 0
short_21 s cs piece lent l = short_is (after (fresh_place s) cs).host (always_sound s cs) piece lent (after (fresh_place s) cs).stage l
