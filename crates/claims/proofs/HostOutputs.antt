-- What a host's call hands out and what it leaves in the output: a payload with Data alone; and the bytes written at the position, all
-- others as they were. For the output's length the identity's instance must be 16 bytes long, which every call keeps so: it comes from
-- a header of 44 bytes. Assumes nothing.
use Prim.Native.Nat.{ℕ, ◌+◌, ◌≤◌, ◌-◌}
use mathlib.Core.Path.{◌≡◌, refl, sym, ap, ◌∙◌}
use mathlib.Core.Bool.{Bool, true}
use mathlib.Core.List.{List, [], ◌∷◌}
use native.Mathlib.Omega.{arith}
use lib.ListN.{length, take, drop, replicate, length-take}
use lib.Dec.{eqb, ltb}
use borrow.Author.Tests.{leb-true}
use Rattle.std.specs.Prelude.{Option, None}
use Rattle.wire.specs.declared.errors.RecordError.{RecordError}
use Rattle.wire.specs.Bytes.{overlay}
use Rattle.session.specs.Checks.{held}
use Rattle.wire.specs.Refusals.{first, passes, none}
use Rattle.wire.specs.declared.Refusal.{Refusal}
use Rattle.wire.proofs.Rows.{picked, passed}
use Rattle.record.specs.declared.types.RecordType.{RecordType}
use Rattle.record.specs.declared.types.RecordType.TheVariants as Kind
use Rattle.parser.specs.Push.{latch}
use Rattle.parser.specs.Push.{Push, push, held_in, head_with, payload_at, buffered_of, parser_of, finish, body_taken, push_body, head_taken, push_head, push_rows}
use Rattle.session.specs.declared.Identity.{Identity}
use Rattle.host.specs.State.{is_begun, sound_host}
use Rattle.host.specs.Checks.{record_rows}
use Rattle.host.specs.Receive.{Receive, effect, accept, after_push, receive_rows, receive_stage, receive_of}
use Rattle.host.specs.Receive as R
use Rattle.host.specs.Calls as Calls
use Rattle.host.specs.declared.HostSession.{HostSession}
use Rattle.host.specs.Calls.{Closed}
use Rattle.host.specs.Event.{HostEvent}
use Rattle.host.specs.Event as Event
use Rattle.parser.specs.declared.Place.TheVariants.{Piece}
use Rattle.claims.specs.HostCalls.{HostCall, attach, receive, receive_short, send, disconnect, ask_state, ask_identity, ask_needed, got, HostPlace, sending, step, next, fresh_place, after}
use Rattle.claims.specs.HostStream.{HostOnlyDataHands, HostLeaves, HostOutputsKept, HostStreamClaims}
use Rattle.claims.proofs.Outcomes.{true_not_false}
use Rattle.parser.specs.declared.RecordParser.{RecordParser}
use Rattle.parser.specs.declared.Place.{Place}
use Rattle.record.specs.Record.{record_of, record_with, payload_checks, header_checks}
use Rattle.wire.specs.Header.{instance_of, type_of, length_of}
use Rattle.claims.proofs.Outputs.{laid_back, laid_length, record_length}
use Rattle.claims.proofs.HostStream.{host_stream}

-- ---- payloads
abbrev Hands : Receive → List ℕ → List ℕ → Type 0
Hands r piece z =
    HostOnlyDataHands (record {
      answer = got r.answer.refusal r.answer.consumed r.answer.event r.answer.identity r.answer.place r.answer.length;
      payload = payload_at r.answer.place r.answer.length piece z;
      written = [];
    })

-- a refusal, and an event without a payload
refused_hands : {refusal : Refusal} {i : Identity} → HostOnlyDataHands (record { answer = got refusal 0 Event.Nothing i (Piece 0) 0; payload = []; written = [] })
refused_hands = record { other_event = λ _. refl; refused = λ _. refl; no_event = λ _. refl; none_taken = λ _. refl }

reports_hands : {n : ℕ} {e : HostEvent} {i : Identity} → HostOnlyDataHands (record { answer = got none n e i (Piece 0) 0; payload = []; written = [] })
reports_hands = record { other_event = λ _. refl; refused = λ _. refl; no_event = λ x. true_not_false x; none_taken = λ x. true_not_false x }

module _ (h : HostSession) (piece z : List ℕ) where
  effect_hands : (t : RecordType) (u : Push) → Hands (effect t h u) piece z
  unfolding effect
  effect_hands Kind.GuestAttach u = refused_hands
  effect_hands Kind.HostAttach u = refused_hands
  effect_hands Kind.Reset u = reports_hands
  effect_hands Kind.Ack u = refused_hands
  effect_hands Kind.Data u = record { other_event = λ n. absurd (n refl); refused = λ x. true_not_false x; no_event = λ x. true_not_false x; none_taken = λ x. true_not_false x }
  effect_hands Kind.Wait u = reports_hands
  effect_hands Kind.Ready u = reports_hands
  effect_hands Kind.Error u = reports_hands
  effect_hands Kind.Credit u = refused_hands

  abbrev Handed : Receive → Type 0
  Handed r = Hands r piece z

  push_hands : (u : Push) → Handed (after_push h u)
  unfolding after_push accept
  push_hands u =
      picked Handed (passes u.answer.refusal)
      (λ _. picked Handed u.answer.complete
      (λ _. picked Handed (passes (first (record_rows h u.answer.«record»))) (λ _. effect_hands u.answer.«record».record_type u) (λ _. refused_hands))
      (λ _. reports_hands))
      (λ _. refused_hands)

  receive_hands : (size : ℕ) (held : List ℕ) → Handed (R.receive h size held piece)
  unfolding R.receive
  receive_hands size held = picked Handed (passes (first (receive_rows h size))) (λ _. push_hands (push h.parser size held piece)) (λ _. refused_hands)

hands_as : (h : HostSession) (stage : List ℕ) (c : HostCall) → HostOnlyDataHands (step h stage c).reply
unfolding step receive_of
hands_as h stage (attach capability l output at) = record { other_event = λ _. refl; refused = λ _. refl; no_event = λ _. refl; none_taken = λ _. refl }
hands_as h stage (receive piece) = receive_hands h piece (receive_stage h piece stage) (length stage) (held_in h.parser stage)
hands_as h stage (receive_short piece lent l) = receive_hands h piece (receive_stage h piece lent) (length lent) (held_in h.parser lent)
hands_as h stage (send bytes output at) = record { other_event = λ _. refl; refused = λ _. refl; no_event = λ _. refl; none_taken = λ _. refl }
hands_as h stage disconnect = record { other_event = λ _. refl; refused = λ _. refl; no_event = λ _. refl; none_taken = λ _. refl }
hands_as h stage ask_state = record { other_event = λ _. refl; refused = λ _. refl; no_event = λ _. refl; none_taken = λ _. refl }
hands_as h stage ask_identity = record { other_event = λ _. refl; refused = λ _. refl; no_event = λ _. refl; none_taken = λ _. refl }
hands_as h stage ask_needed = record { other_event = λ _. refl; refused = λ _. refl; no_event = λ _. refl; none_taken = λ _. refl }

-- ---- the identity's instance is 16 bytes long
-- a parser whose header has 44 bytes
pub record Sized (p : RecordParser) : Type 0 where
  pub header : length p.header ≡ 44
  pub count : p.header_len ≤ 44

-- a push leaves it so, and a whole record has an instance of 16 bytes
record PushSized (u : Push) : Type 0 where
  parser : Sized u.answer.parser
  instance : u.answer.complete ≡ true → length u.answer.«record».instance_id ≡ 16

module _ (h : List ℕ) (size : length h ≡ 44) where
  waiting_sized : (n k : ℕ) → n ≤ 44 → Sized (parser_of h n k None)
  waiting_sized n k l = record { header = size; count = l }

  latched_sized : (e : Option RecordError) → Sized (parser_of h 0 0 e)
  latched_sized e = record { header = size; count = omega arith }

  instance_length : length (record_of h).instance_id ≡ 16
  unfolding record_with instance_of
  instance_length = refl

  finish_sized : (payload : List ℕ) (taken : ℕ) (place : Place) → PushSized (finish h payload taken place)
  unfolding finish
  finish_sized payload taken place =
      picked PushSized (passes (payload_checks (type_of h) payload))
      (λ _. record { parser = latched_sized None; instance = λ _. instance_length })
      (λ _. record { parser = latched_sized (latch (payload_checks (type_of h) payload)); instance = λ x. true_not_false (sym x) })

  body_sized : (k : ℕ) (held rest : List ℕ) (from : ℕ) → PushSized (push_body h k held rest from)
  unfolding push_body
  body_sized k held rest from =
      picked PushSized (ltb (k + body_taken h k rest) (length_of h))
      (λ _. record { parser = waiting_sized 44 _ (omega arith); instance = λ x. true_not_false (sym x) })
      (λ _. finish_sized _ _ _)

push_sized : (p : RecordParser) (size : ℕ) (held piece : List ℕ) → Sized p → PushSized (push p size held piece)
unfolding push push_head head_with
push_sized p size held piece s =
    let n : ℕ = head_taken p.header_len piece in
    let m : length (take n piece) ≡ n = simp length-take (omega arith) in
    let h : List ℕ = overlay p.header p.header_len (take n piece) in
    let l : length h ≡ 44 = laid_length p.header p.header_len (take n piece) (omega (arith, s.header, s.count)) ∙ s.header in
    picked PushSized (passes (first (push_rows p size)))
    (λ _. picked PushSized (ltb (p.header_len + n) 44)
    (λ k. record { parser = waiting_sized h l _ 0 (omega (arith, s.count)); instance = λ x. true_not_false (sym x) })
    (λ _. picked PushSized (passes (header_checks h)) (λ _. body_sized h l _ _ _ _) (λ _. record { parser = latched_sized h l (latch (header_checks h)); instance = λ x. true_not_false (sym x) })))
    (λ _. record { parser = s; instance = λ x. true_not_false (sym x) })

pub record SizedHost (h : HostSession) : Type 0 where
  pub parser : Sized h.parser
  pub instance : length (held h.identity).instance_id ≡ 16

abbrev SizedAfter : Receive → Type 0
SizedAfter r = SizedHost r.answer.session

module _ (h : HostSession) (s : SizedHost h) (u : Push) (t : PushSized u) where
  effect_sized : u.answer.complete ≡ true → (k : RecordType) → SizedAfter (effect k h u)
  unfolding effect
  effect_sized c Kind.GuestAttach = record { parser = t.parser; instance = s.instance }
  effect_sized c Kind.HostAttach = record { parser = t.parser; instance = s.instance }
  effect_sized c Kind.Reset = record { parser = t.parser; instance = s.instance }
  effect_sized c Kind.Ack = record { parser = t.parser; instance = s.instance }
  effect_sized c Kind.Data = record { parser = t.parser; instance = s.instance }
  effect_sized c Kind.Wait = record { parser = t.parser; instance = s.instance }
  effect_sized c Kind.Ready = record { parser = t.parser; instance = t.instance c }
  effect_sized c Kind.Error = record { parser = t.parser; instance = s.instance }
  effect_sized c Kind.Credit = record { parser = t.parser; instance = s.instance }

  pushed_sized : SizedAfter (after_push h u)
  unfolding after_push accept
  pushed_sized =
      picked SizedAfter (passes u.answer.refusal)
      (λ _. picked SizedAfter u.answer.complete
      (λ c. picked SizedAfter (passes (first (record_rows h u.answer.«record»))) (λ _. effect_sized c u.answer.«record».record_type) (λ _. record { parser = t.parser; instance = s.instance }))
      (λ _. record { parser = t.parser; instance = s.instance }))
      (λ _. record { parser = t.parser; instance = s.instance })

receive_sized : (h : HostSession) (size : ℕ) (held piece : List ℕ) → SizedHost h → SizedAfter (R.receive h size held piece)
unfolding R.receive
receive_sized h size held piece s =
    picked SizedAfter (passes (first (receive_rows h size)))
    (λ _. pushed_sized h s (push h.parser size held piece) (push_sized h.parser size held piece s.parser))
    (λ _. s)

writes_sized : (r : Refusal) (h a : HostSession) (n : ℕ) (bytes o : List ℕ) (at : ℕ) → SizedHost h → SizedHost a → SizedHost (Calls.writes r h a n bytes o at).sent.session
unfolding Calls.writes
writes_sized r h a n bytes o at s t = picked (λ (x : Calls.Outcome). SizedHost x.sent.session) (passes r) (λ _. t) (λ _. s)

disconnect_sized : (h : HostSession) → SizedHost h → SizedHost (Calls.disconnect h).session
unfolding Calls.disconnect
disconnect_sized h s =
    let P : Closed → Type 0 = λ (x : Closed). SizedHost x.session in
    picked P (sound_host h)
    (λ _. picked P (is_begun h.state)
    (λ _. picked P (eqb (buffered_of h.parser) 0) (λ _. record { parser = s.parser; instance = s.instance }) (λ _. record { parser = s.parser; instance = s.instance }))
    (λ _. s))
    (λ _. s)

sized_step : (h : HostSession) (stage : List ℕ) (c : HostCall) → SizedHost h → SizedHost (step h stage c).place.host
unfolding step Calls.attach Calls.send receive_of
sized_step h stage (attach capability l output at) s = writes_sized _ h _ _ _ _ _ s (record { parser = s.parser; instance = s.instance })
sized_step h stage (receive piece) s = receive_sized h (length stage) (held_in h.parser stage) piece s
sized_step h stage (receive_short piece lent l) s = receive_sized h (length lent) (held_in h.parser lent) piece s
sized_step h stage (send bytes output at) s = writes_sized _ h _ _ _ _ _ s (record { parser = s.parser; instance = s.instance })
sized_step h stage disconnect s = disconnect_sized h s
sized_step h stage ask_state s = s
sized_step h stage ask_identity s = s
sized_step h stage ask_needed s = s

sized_after : (p : HostPlace) (cs : List HostCall) → SizedHost p.host → SizedHost (after p cs).host
unfolding after
sized_after p [] s = s
sized_after p (c ∷ cs) s = sized_after (next p c) cs (sized_step p.host p.stage c s)

pub reached_sized : (s : List ℕ) (cs : List HostCall) → SizedHost (after (fresh_place s) cs).host
reached_sized s cs = sized_after (fresh_place s) cs (record { parser = record { header = refl; count = omega arith }; instance = refl })

-- ---- outputs
module _ (stage : List ℕ) (rows : List (Bool × Refusal)) (h a : HostSession) (n : ℕ) (bytes o : List ℕ) (at : ℕ)
    (room : passes (first rows) ≡ true → at + length bytes ≤ length o) where
  abbrev Fine : Calls.Outcome → Type 0
  Fine x = HostLeaves o at (sending stage at x).reply x.output

  writes_leave : Fine (Calls.writes (first rows) h a n bytes o at)
  unfolding Calls.writes
  writes_leave =
      picked Fine (passes (first rows))
      (λ p. record { laid = λ _. ap (overlay o at) (sym (laid_back o at bytes (room p))); refused = λ x. true_not_false x; same_length = laid_length o at bytes (room p) })
      (λ p.
      let z : 0 - at ≡ 0 = omega arith in
      record { laid = λ x. true_not_false (sym x ∙ p); refused = λ _. (refl, ap (λ (i : ℕ). take i (drop at o)) z); same_length = refl })

attach_leaves : (h : HostSession) (stage capability : List ℕ) (l : length capability ≡ 32) (o : List ℕ) (at : ℕ)
    → HostLeaves o at (step h stage (attach capability l o at)).reply (Calls.attach h capability o at).output
unfolding step Calls.attach
attach_leaves h stage capability l o at =
    let rows = Calls.attach_rows h o at in
    let n = record_length 2 (replicate 16 0) 0 0 capability refl in
    writes_leave stage rows h _ _ _ o at (λ p. let k : at + 76 ≤ length o = leb-true (at + 76) (length o) (passed rows (refl, (refl, (refl, tt))) p).1.1.0 in omega (arith, n))

send_leaves : (h : HostSession) → SizedHost h → (stage bytes o : List ℕ) (at : ℕ) → HostLeaves o at (step h stage (send bytes o at)).reply (Calls.send h bytes o at).output
unfolding step Calls.send
send_leaves h s stage bytes o at =
    let rows = Calls.send_rows h bytes o at in
    let k : ℕ = Calls.send_count bytes in
    let n = record_length 5 (held h.identity).instance_id (held h.identity).epoch.0 h.send_sequence.0 (take k bytes) s.instance in
    let m : length (take k bytes) ≡ k = simp length-take (omega arith) in
    writes_leave stage rows h _ _ _ o at
    (λ p. let r : at + (44 + k) ≤ length o = leb-true (at + (44 + k)) (length o) (passed rows (refl, (refl, (refl, (refl, (refl, tt))))) p).1.1.1.1.0 in omega (arith, n, m))

outputs : HostOutputsKept
outputs =
    record {
      attach = λ s cs capability l o at. attach_leaves (after (fresh_place s) cs).host (after (fresh_place s) cs).stage capability l o at;
      send = λ s cs bytes o at. send_leaves (after (fresh_place s) cs).host (reached_sized s cs) (after (fresh_place s) cs).stage bytes o at;
    }

pub host_stream_claims : HostStreamClaims
host_stream_claims = record { stream = host_stream; payloads = λ s cs c. hands_as (after (fresh_place s) cs).host (after (fresh_place s) cs).stage c; outputs = outputs }
