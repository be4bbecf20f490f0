-- What a host must accept. A push goes by what the bytes held and the piece read as (`push_matches`), an encoding reads as its record
-- whatever stands behind it (`sent_scans`), and the rows of the record pass, since the history says what the session holds (`Followed`).
-- Assumes nothing.
use Prim.Native.Nat.{ℕ, ◌+◌, ◌≤◌, ◌<◌}
use mathlib.Core.Path.{◌≡◌, refl, sym, ap, subst, ◌∙◌}
use mathlib.Core.Bool.{Bool, true, false, not}
use mathlib.Core.List.{List, [], ◌∷◌, ◌++◌, append_assoc}
use native.Mathlib.Omega.{arith}
use lib.ListN.{length, take, drop, length-take}
use lib.Seq.{drop_at}
use lib.Dec.{eqb, ltb, leb}
use borrow.Author.Tests.{le-leb, leb-true, lt-leb, eq-eqb, eqb-true, ne_eqb, lt-ltb}
use Rattle.wire.specs.Refusals.{none, first, passes}
use Rattle.wire.specs.Header.{type_of, length_of}
use Rattle.wire.specs.declared.Refusal.{Refusal}
use Rattle.wire.proofs.Rows.{Passed, picked, passed, pass_all, and_left, and_right}
use Rattle.outer.specs.Outer.{max_payload}
use Rattle.record.specs.Types.{code_of, type_at}
use Rattle.record.specs.Record.{header_checks, payload_checks, all_zero}
use Rattle.record.specs.declared.types.RecordType.{RecordType}
use Rattle.record.specs.declared.types.RecordType.TheVariants as Kind
use Rattle.std.specs.Prelude.{Some}
use Rattle.record.specs.declared.Record.{Record}
use Rattle.record.proofs.TypesCases.{code_type}
use Rattle.parser.specs.Push.{latched}
use Rattle.parser.specs.Push.{Push, push, push_rows, push_head, push_body, finish, head_taken, body_taken, push_stage, held_in, head_with, payload_at, buffered_of}
use Rattle.parser.specs.declared.Place.{Place}
use Rattle.parser.specs.declared.Place.TheVariants.{Piece}
use Rattle.parser.specs.declared.RecordParser.{RecordParser}
use Rattle.std.specs.Prelude.{Option, Some, None}
use Rattle.session.specs.Checks.{held, same, identity_of, identity_ok, holds, last_sequence}
use Rattle.session.specs.declared.Identity.{Identity}
use Rattle.host.specs.State.{code, is_detached, is_attaching, is_attached, is_open, is_begun, sound_host}
use Rattle.host.specs.Checks.{order_rows, type_rows, record_rows}
use Rattle.host.specs.Receive.{Receive, effect, accept, after_push, receive_rows, receive_stage, receive_of}
use Rattle.host.specs.Receive as R
use Rattle.host.specs.Calls as Calls
use Rattle.host.specs.Asks as Asks
use Rattle.host.specs.declared.HostState.{HostState}
use Rattle.host.specs.declared.HostSession.{HostSession}
use Rattle.host.specs.Calls.{Closed}
use Rattle.host.specs.Event.{HostEvent}
use Rattle.host.specs.Event as Event
use Rattle.host.specs.Asks.{StateAnswer}
use Rattle.claims.specs.Reading.{Ready, encoded, encodings}
use Rattle.claims.specs.Sent.{Encodable, AllEncodable, none_left, one_more}
use Rattle.claims.specs.HostCalls.{HostCall, attach, receive, receive_short, send, disconnect, ask_state, ask_identity, ask_needed, got, HostPlace, step, next, fresh_place, after, host_history}
use Rattle.claims.specs.HostStream.{HostReport, wait_event, attached_event, rejected_event, data_event, reset_event, host_reported, HostLog, no_host_log, host_log, host_log_of}
use Rattle.claims.specs.HostStream.{Phase, attaching, attached, Leads, leads_wait, leads_ready, leads_error, leads_data, leads_reset, HostRecords, no_records, next_record, AllBytes}
use Rattle.claims.specs.HostAccepts.{phase_by, HostTells, HostComes, HostTakesItsPiece, HostPiecesTaken, HostDueAccepted, HostUnfinishedAwaited, HostAcceptClaims}
use Rattle.claims.proofs.Scans.{Scan, unfinished, whole, refused, scan}
use Rattle.claims.proofs.Outcomes.{picked₂, true_not_false, Matches, Completed}
use Rattle.claims.proofs.Pushed.{all_but}
use Rattle.claims.proofs.Stages.{push_staged}
use Rattle.claims.proofs.Readings as Readings
use Rattle.claims.proofs.Readings.{within, Reads, ends_within, is_whole, behind}
use Rattle.claims.proofs.Feeds.{Placed, bytes_in, matches}
use Rattle.claims.proofs.Sent.{unfinished_scan, head, sent_scans, sent_record_lem}
use Rattle.claims.proofs.GuestInvariant.{payload_within}
use Rattle.claims.proofs.GuestTaken.{same_self}
use Rattle.claims.proofs.HostSound.{fit_reached, always_sound}
use Rattle.claims.proofs.HostOutputs.{reached_sized}
use Rattle.claims.proofs.HostStream.{Stands, at_start, in_session, stopped, open_unfailed, Followed, Follows, follow_step, fresh_followed}

-- ---- where a list of calls has led
follow_after : (l : HostLog) (p : HostPlace) (cs : List HostCall) → AllBytes cs → Follows l p.host p.stage
    → Follows (host_history host_log l p cs) (after p cs).host (after p cs).stage
unfolding host_history after
follow_after l p [] w f = f
follow_after l p (c ∷ cs) w f = follow_after (host_log l c (step p.host p.stage c).reply) (next p c) cs w.1 (follow_step l p.host p.stage f c w.0)

-- the events lead where the records do, one for each
records_phase : {n : ℕ} {p q : Phase} {xs : List (Record × List ℕ)} {es : List HostReport} → HostRecords n p xs es q → phase_by p es ≡ q
unfolding phase_by
records_phase no_records = refl
records_phase (next_record (leads_wait r y c) s k) = records_phase k
records_phase (next_record (leads_ready r y c i) s k) = records_phase k
records_phase (next_record (leads_error r y c) s k) = records_phase k
records_phase (next_record (leads_data r y i c m) s k) = records_phase k
records_phase (next_record (leads_reset r y i c m l) s k) = records_phase k

records_count : {n : ℕ} {p q : Phase} {xs : List (Record × List ℕ)} {es : List HostReport} → HostRecords n p xs es q → length xs ≡ length es
records_count no_records = refl
records_count (next_record l s k) = let n = records_count k in omega arith

-- what stands behind as many records as were read
reads_behind : {b held : List ℕ} {rs xs : List (Record × List ℕ)} → Reads b rs (within held) → AllEncodable xs → length xs ≡ length rs → (x y : List ℕ)
    → b ++ x ≡ encodings xs ++ y → held ++ x ≡ y
unfolding encodings
reads_behind (ends_within p) none_left n x y e = e
reads_behind (ends_within p) (one_more k ks) n x y e = absurd (omega arith)
reads_behind (Readings.next_record f p d s) none_left n x y e = absurd (omega arith)
reads_behind (Readings.next_record {b = b} {h = h} {y = v} {c = c} {rs = rs} f p d s) (one_more {x = r} {xs = xs} k ks) n x y e =
    let e1 : b ++ x ≡ encoded r.0 r.1 ++ (encodings xs ++ y) = e ∙ append_assoc (encoded r.0 r.1) (encodings xs) y in
    let z : whole h v ≡ whole (head r.0 r.1 k) r.1 = sym (Readings.later b x is_whole p) ∙ ap scan e1 ∙ sent_scans r.0 r.1 k (encodings xs ++ y) in
    let eh : h ≡ head r.0 r.1 k = cc in
    let ey : v ≡ r.1 = cc in
    let w : h ++ v ≡ encoded r.0 r.1 = λ j. eh j ++ ey j in
    let q : c ++ x ≡ encodings xs ++ y =
    sym (drop_at (h ++ v) (c ++ x) (length (h ++ v)) refl)
    ∙ ap (drop (length (h ++ v))) (sym (behind (h ++ v) c x d) ∙ e1 ∙ ap (λ (l : List ℕ). l ++ (encodings xs ++ y)) (sym w))
    ∙ drop_at (h ++ v) (encodings xs ++ y) (length (h ++ v)) refl
    in
    reads_behind s ks (omega arith) x y q

-- ---- where a session stands, by the phase
open_low : (s : HostState) → is_open s ≡ true → 1 ≤ code s
open_low s e = leb-true 1 (code s) (and_left (leb 1 (code s)) (leb (code s) 2) e)

open_high : (s : HostState) → is_open s ≡ true → code s ≤ 2
open_high s e = leb-true (code s) 2 (and_right (leb 1 (code s)) (leb (code s) 2) e)

is_attaching_lem : {s : HostState} {i : Identity} {b : List ℕ} {p : Phase} → is_open s ≡ true → Stands s i b p → p ≡ attaching → is_attaching s ≡ true
is_attaching_lem {s} o (at_start e) q = eq-eqb (code s) 1 (omega (arith, open_low s o, leb-true (code s) 1 e))
is_attaching_lem o (in_session e) q = let z : ◌≡◌ {A = ℕ} 0 1 = cc in absurd (omega arith)
is_attaching_lem {s} o (stopped e z) q = absurd (omega (arith, open_high s o, leb-true 3 (code s) e))

is_attached_lem : {s : HostState} {i : Identity} {b : List ℕ} {p : Phase} {j : Identity} → is_open s ≡ true → Stands s i b p → p ≡ attached j → (is_attached s ≡ true) × (i ≡ j)
is_attached_lem o (at_start e) q = let z : ◌≡◌ {A = ℕ} 0 1 = cc in absurd (omega arith)
is_attached_lem o (in_session e) q = (e, cc)
is_attached_lem {s} o (stopped e z) q = absurd (omega (arith, open_high s o, leb-true 3 (code s) e))

-- the record that leads on, and its event
data Due (p : Phase) (x : Record × List ℕ) : HostReport → Type 0 where
  is_wait : p ≡ attaching → code_of x.0.record_type ≡ 6 → Due p x wait_event
  is_ready : p ≡ attaching → code_of x.0.record_type ≡ 7 → identity_ok x.0.instance_id x.0.epoch.0 ≡ true → Due p x (attached_event (identity_of x.0))
  is_error : p ≡ attaching → code_of x.0.record_type ≡ 8 → Due p x rejected_event
  is_data_lem : (i : Identity) → p ≡ attached i → code_of x.0.record_type ≡ 5 → identity_of x.0 ≡ i → Due p x (data_event x.1)
  is_reset_lem : (i : Identity) → p ≡ attached i → code_of x.0.record_type ≡ 3 → x.0.instance_id ≡ i.instance_id → i.epoch.0 < x.0.epoch.0
      → Due p x (reset_event (identity_of x.0))

leads_due : {p q : Phase} {x : Record × List ℕ} {e : HostReport} → Leads p x e q → Due p x e
leads_due (leads_wait r y c) = is_wait refl c
leads_due (leads_ready r y c i) = is_ready refl c i
leads_due (leads_error r y c) = is_error refl c
leads_due (leads_data r y i c m) = is_data_lem i refl c m
leads_due (leads_reset r y i c m l) = is_reset_lem i refl c m l

same_kind : (t k : RecordType) → code_of t ≡ code_of k → t ≡ k
same_kind t k e = let z : Some t ≡ Some k = sym (code_type t) ∙ ap type_at e ∙ code_type k in cc

-- a higher epoch of an identity's instance makes an identity
still_identity : (i : Identity) (instance : List ℕ) (epoch : ℕ) → identity_ok i.instance_id i.epoch.0 ≡ true → instance ≡ i.instance_id → i.epoch.0 < epoch
    → identity_ok instance epoch ≡ true
unfolding identity_ok
still_identity i instance epoch k e l =
    rw (e, and_left (not (all_zero i.instance_id)) (not (eqb i.epoch.0 0)) k, ne_eqb epoch 0 (λ q. omega arith))

-- ---- one receive
record Reported (e : HostReport) (piece more : List ℕ) (t : Receive) (left : List ℕ) : Type 0 where
  refusal : t.answer.refusal ≡ none
  event : host_reported t.answer.event t.answer.identity (payload_at t.answer.place t.answer.length piece left) ≡ e ∷ []
  taken : t.answer.consumed + length more ≡ length piece

record Awaited (piece : List ℕ) (t : Receive) (left : List ℕ) : Type 0 where
  refusal : t.answer.refusal ≡ none
  event : t.answer.event ≡ Event.Nothing
  taken : t.answer.consumed ≡ length piece

-- one that is open goes to `after_push`
-- an identity that is held is one
held_ok : (i : Option Identity) → holds i ≡ true → identity_ok (held i).instance_id (held i).epoch.0 ≡ true
unfolding holds
held_ok None e = true_not_false (sym e)
held_ok (Some j) e = e

module _ (h : HostSession) (stage piece : List ℕ) (placed : Placed h.parser stage) (sound : sound_host h ≡ true) (opened : is_open h.state ≡ true) where
  abbrev b : List ℕ
  b = bytes_in h.parser stage

  abbrev u : Push
  u = push h.parser (length stage) (held_in h.parser stage) piece

  abbrev left : List ℕ
  left = push_stage h.parser piece stage

  abbrev H : List ℕ
  H = head_with h.parser.header h.parser.header_len piece

  receive_pushes : (P : Receive → List ℕ → Type 0) → P (after_push h u) left → P (R.receive h (length stage) (held_in h.parser stage) piece) (receive_stage h piece stage)
  unfolding R.receive receive_stage
  receive_pushes P x =
      picked₂ P (passes (first (receive_rows h (length stage)))) (λ _. x)
      (λ q. true_not_false (sym (pass_all (receive_rows h (length stage)) (sound, (le-leb _ _ placed.room, (opened, tt)))) ∙ q))

  -- the bytes of an unfinished record
  awaits : scan (b ++ piece) ≡ unfinished → Awaited piece (R.receive h (length stage) (held_in h.parser stage) piece) (receive_stage h piece stage)
  unfolding after_push
  awaits e =
      let t : Matches b piece H u unfinished = subst (Matches b piece H u) e (matches h.parser piece stage placed) in
      let P : Receive → Type 0 = λ (r : Receive). Awaited piece r left in
      receive_pushes (Awaited piece)
      (picked P (passes u.answer.refusal)
      (λ _. picked P u.answer.complete (λ q. true_not_false (sym q ∙ t.complete)) (λ _. record { refusal = refl; event = refl; taken = t.taken }))
      (λ q. true_not_false (ap (λ (v : Refusal). passes v) (sym t.refusal) ∙ q)))

  -- the bytes of a whole record
  module _ (more : List ℕ) (r : Record) (y : List ℕ) (k : Encodable r y) (comes : b ++ piece ≡ encoded r y ++ more) where
    completed : Completed b piece H u (head r y k) y
    completed = subst (Matches b piece H u) (ap scan comes ∙ sent_scans r y k more) (matches h.parser piece stage placed)

    same_record : u.answer.«record» ≡ r
    same_record = completed.fields ∙ sent_record_lem r y k

    abbrev rows_of : RecordType → List (Bool × Refusal)
    rows_of t = order_rows h.state (code_of t) r.sequence.0 h.receive_sequence.0 ++ type_rows (code_of t) (held h.identity) r

    -- where its rows pass, a receive does what its type says
    receive_takes : (e : HostReport) (t : RecordType) → code_of r.record_type ≡ code_of t → Passed (rows_of t) → Reported e piece more (effect t h u) left
        → Reported e piece more (R.receive h (length stage) (held_in h.parser stage) piece) (receive_stage h piece stage)
    unfolding after_push accept
    receive_takes e t c p x =
        let P : Receive → Type 0 = λ (a : Receive). Reported e piece more a left in
        let kind : r.record_type ≡ t = same_kind r.record_type t c in
        let rows : passes (first (record_rows h u.answer.«record»)) ≡ true =
        ap (λ (a : Record). passes (first (record_rows h a))) same_record
        ∙ ap (λ (a : RecordType). passes (first (rows_of a))) kind
        ∙ pass_all (rows_of t) p
        in
        receive_pushes (Reported e piece more)
        (picked P (passes u.answer.refusal)
        (λ _. picked P u.answer.complete
        (λ _. picked P (passes (first (record_rows h u.answer.«record»)))
        (λ _. subst (λ (a : RecordType). P (effect a h u)) (sym (ap (λ (a : Record). a.record_type) same_record ∙ kind)) x)
        (λ q. true_not_false (sym rows ∙ q)))
        (λ q. true_not_false (sym completed.complete ∙ q)))
        (λ q. true_not_false (ap (λ (v : Refusal). passes v) (sym completed.refusal) ∙ q)))

    module _ (named : is_attached h.state ≡ true → holds h.identity ≡ true) (sequence : r.sequence.0 ≡ h.receive_sequence.0)
        (last : h.receive_sequence.0 < last_sequence) where
      by_due : {p : Phase} {e : HostReport} → Stands h.state (held h.identity) b p → Due p (r, y) e
          → Reported e piece more (R.receive h (length stage) (held_in h.parser stage) piece) (receive_stage h piece stage)
      unfolding effect holds
      by_due s (is_wait q c) =
          let a : is_attaching h.state ≡ true = is_attaching_lem opened s q in
          receive_takes wait_event Kind.Wait c (rw a, (eq-eqb _ _ sequence, (lt-ltb _ _ last, tt)))
          (record { refusal = refl; event = refl; taken = all_but more completed comes })
      by_due s (is_ready q c i) =
          let a : is_attaching h.state ≡ true = is_attaching_lem opened s q in
          receive_takes (attached_event (identity_of r)) Kind.Ready c (rw a, (eq-eqb _ _ sequence, (lt-ltb _ _ last, (i, tt))))
          (record { refusal = refl; event = ap (λ (a : Record). attached_event (identity_of a) ∷ []) same_record; taken = all_but more completed comes })
      by_due s (is_error q c) =
          let a : is_attaching h.state ≡ true = is_attaching_lem opened s q in
          receive_takes rejected_event Kind.Error c (rw a, (eq-eqb _ _ sequence, (lt-ltb _ _ last, tt)))
          (record { refusal = refl; event = refl; taken = all_but more completed comes })
      by_due s (is_data_lem i q c m) =
          let a = is_attached_lem opened s q in
          let j : identity_of r ≡ held h.identity = m ∙ sym a.1 in
          let inst : r.instance_id ≡ (held h.identity).instance_id = ap (λ (x : Identity). x.instance_id) j in
          let epoch : r.epoch.0 ≡ (held h.identity).epoch.0 = ap (λ (x : Identity). x.epoch.0) j in
          let same_instance_lem : same r.instance_id (held h.identity).instance_id ≡ true =
          ap (λ (x : List ℕ). same x (held h.identity).instance_id) inst ∙ same_self (held h.identity).instance_id
          in
          let pay : payload_at u.answer.place u.answer.«record».length piece left ≡ y =
          (push_staged h.parser piece stage placed.ready placed.room).lies completed.complete ∙ completed.payload
          in
          let b1 : is_attaching h.state ≡ false = ne_eqb (code h.state) 1 (λ z. omega (arith, eqb-true (code h.state) 2 a.0)) in
          receive_takes (data_event y) Kind.Data c (rw (b1, a.0), (eq-eqb _ _ sequence, (lt-ltb _ _ last, (same_instance_lem, (eq-eqb _ _ epoch, tt)))))
          (record { refusal = refl; event = ap (λ (x : List ℕ). data_event x ∷ []) pay; taken = all_but more completed comes })
      by_due s (is_reset_lem i q c m l) =
          let a = is_attached_lem opened s q in
          let inst : r.instance_id ≡ (held h.identity).instance_id = m ∙ ap (λ (x : Identity). x.instance_id) (sym a.1) in
          let epoch : (held h.identity).epoch.0 ≡ i.epoch.0 = ap (λ (x : Identity). x.epoch.0) a.1 in
          let above : (held h.identity).epoch.0 < r.epoch.0 = omega arith in
          let same_instance_lem : same r.instance_id (held h.identity).instance_id ≡ true =
          ap (λ (x : List ℕ). same x (held h.identity).instance_id) inst ∙ same_self (held h.identity).instance_id
          in
          let ok : identity_ok r.instance_id r.epoch.0 ≡ true =
          still_identity (held h.identity) r.instance_id r.epoch.0 (held_ok h.identity (named a.0)) inst above
          in
          let new : not (leb r.epoch.0 (held h.identity).epoch.0) ≡ true = rw (lt-leb r.epoch.0 (held h.identity).epoch.0 above) in
          let b1 : is_attaching h.state ≡ false = ne_eqb (code h.state) 1 (λ z. omega (arith, eqb-true (code h.state) 2 a.0)) in
          receive_takes (reset_event (identity_of r)) Kind.Reset c
          (rw (b1, a.0), (eq-eqb _ _ sequence, (lt-ltb _ _ last, (ok, (same_instance_lem, (new, tt))))))
          (record { refusal = refl; event = ap (λ (x : Record). reset_event (identity_of x) ∷ []) same_record; taken = all_but more completed comes })

-- ---- the host that a list of calls leaves
told_state_lem : (h : HostSession) (q : HostState) → sound_host h ≡ true → Asks.state_of h ≡ record { refusal = none; state = q } → h.state ≡ q
unfolding Asks.state_of
told_state_lem h q e t = ap (λ (x : StateAnswer). x.state) (rw e at t)

module _ (s : List ℕ) (room : max_payload ≤ length s) (cs : List HostCall) (w : AllBytes cs) (q : HostState) (opened : is_open q ≡ true)
    (told : HostTells (after (fresh_place s) cs) q) where
  abbrev p : HostPlace
  p = after (fresh_place s) cs

  open_is : is_open p.host.state ≡ true
  unfolding step
  open_is = ap is_open (told_state_lem p.host q (always_sound s cs) (cc told)) ∙ opened

  followed : Followed (host_log_of s cs) p.host p.stage
  followed = follow_after no_host_log (fresh_place s) cs w (λ _. fresh_followed s room) (open_unfailed p.host.state open_is)

  held_comes : (piece bytes : List ℕ) → HostComes (host_log_of s cs) piece bytes → bytes_in p.host.parser p.stage ++ piece ≡ bytes
  held_comes piece bytes c = reads_behind followed.reads c.encodable (c.count ∙ sym (records_count followed.events)) piece bytes c.joins

due : HostDueAccepted
unfolding step receive_of
due s room cs w q opened told r y k e d piece more c =
    let p : HostPlace = after (fresh_place s) cs in
    let f = followed s room cs w q opened told in
    let n = records_count f.events in
    let t =
    by_due p.host p.stage piece f.placed (always_sound s cs) (open_is s room cs w q opened told) more r y k (held_comes s room cs w q opened told piece _ c)
    (fit_reached s cs).named (omega (arith, d.sequence, f.due)) (omega (arith, d.sequence, d.not_last, f.due)) f.stands
    (leads_due (subst (λ (x : Phase). Leads x (r, y) e d.next) (records_phase f.events) d.leads))
    in
    record { refusal = t.refusal; event = t.event; taken = t.taken }

waiting : HostUnfinishedAwaited
unfolding step receive_of
waiting s room cs w q opened told piece part f c =
    let p : HostPlace = after (fresh_place s) cs in
    let t =
    awaits p.host p.stage piece (followed s room cs w q opened told).placed (always_sound s cs) (open_is s room cs w q opened told)
    (ap scan (held_comes s room cs w q opened told piece part c) ∙ unfinished_scan f)
    in
    record { refusal = t.refusal; event = t.event; taken = t.taken }

-- ---- pieces
-- no error is latched in the first three states, whatever the stage
abbrev Clear : HostSession → Type 0
Clear h = is_begun h.state ≡ true → passes (latched h.parser) ≡ true

-- a push that is not refused latches none
push_clear : (p : RecordParser) (size : ℕ) (held piece : List ℕ) → passes (push p size held piece).answer.refusal ≡ true → passes (latched (push p size held piece).answer.parser) ≡ true
unfolding push push_head push_body finish
push_clear p size held piece =
    let P : Push → Type 0 = λ (u : Push). passes u.answer.refusal ≡ true → passes (latched u.answer.parser) ≡ true in
    let n : ℕ = head_taken p.header_len piece in
    let d : List ℕ = head_with p.header p.header_len piece in
    let m : ℕ = body_taken d p.payload_len (drop n piece) in
    let y : List ℕ = held ++ take m (drop n piece) in
    picked P (passes (first (push_rows p size)))
    (λ _. picked P (ltb (p.header_len + n) 44) (λ _ _. refl)
    (λ _. picked P (passes (header_checks d))
    (λ _. picked P (ltb (p.payload_len + m) (length_of d)) (λ _ _. refl)
    (λ _. picked P (passes (payload_checks (type_of d) y)) (λ _ _. refl) (λ q x. true_not_false (sym x ∙ q))))
    (λ q x. true_not_false (sym x ∙ q))))
    (λ q x. true_not_false (sym x ∙ q))

abbrev ClearAfter : Receive → Type 0
ClearAfter r = Clear r.answer.session

effect_clear : (h : HostSession) (u : Push) → passes (latched u.answer.parser) ≡ true → (t : RecordType) → ClearAfter (effect t h u)
unfolding effect
effect_clear h u c Kind.GuestAttach x = c
effect_clear h u c Kind.HostAttach x = c
effect_clear h u c Kind.Reset x = c
effect_clear h u c Kind.Ack x = c
effect_clear h u c Kind.Data x = c
effect_clear h u c Kind.Wait x = c
effect_clear h u c Kind.Ready x = c
effect_clear h u c Kind.Error x = c
effect_clear h u c Kind.Credit x = c

receive_clear : (h : HostSession) (size : ℕ) (held piece : List ℕ) → Clear h → ClearAfter (R.receive h size held piece)
unfolding R.receive after_push accept
receive_clear h size held piece k =
    let u : Push = push h.parser size held piece in
    picked ClearAfter (passes (first (receive_rows h size)))
    (λ _. picked ClearAfter (passes u.answer.refusal)
    (λ e.
    let c = push_clear h.parser size held piece e in
    picked ClearAfter u.answer.complete
    (λ _. picked ClearAfter (passes (first (record_rows h u.answer.«record»))) (λ _. effect_clear h u c u.answer.«record».record_type) (λ _ _. c))
    (λ _ _. c))
    (λ _ x. true_not_false (sym x)))
    (λ _. k)

clear_step : (h : HostSession) (stage : List ℕ) (c : HostCall) → Clear h → Clear (step h stage c).place.host
unfolding step Calls.attach Calls.send Calls.writes Calls.disconnect receive_of
clear_step h stage (attach capability l output at) k =
    picked (λ (x : Calls.Outcome). Clear x.sent.session) (passes (first (Calls.attach_rows h output at)))
    (λ p _. let d : is_detached h.state ≡ true = (passed (Calls.attach_rows h output at) (refl, (refl, (refl, tt))) p).1.0 in k (le-leb (code h.state) 2 (omega (arith, eqb-true (code h.state) 0 d))))
    (λ _. k)
clear_step h stage (receive piece) k = receive_clear h (length stage) (held_in h.parser stage) piece k
clear_step h stage (receive_short piece lent l) k = receive_clear h (length lent) (held_in h.parser lent) piece k
clear_step h stage (send bytes output at) k = picked (λ (x : Calls.Outcome). Clear x.sent.session) (passes (first (Calls.send_rows h bytes output at))) (λ _. k) (λ _. k)
clear_step h stage disconnect k =
    let P : Closed → Type 0 = λ (x : Closed). Clear x.session in
    picked P (sound_host h)
    (λ _. picked P (is_begun h.state) (λ _. picked P (eqb (buffered_of h.parser) 0) (λ _ x. true_not_false (sym x)) (λ _ x. true_not_false (sym x))) (λ _. k))
    (λ _. k)
clear_step h stage ask_state k = k
clear_step h stage ask_identity k = k
clear_step h stage ask_needed k = k

clear_after : (p : HostPlace) (cs : List HostCall) → Clear p.host → Clear (after p cs).host
unfolding after
clear_after p [] k = k
clear_after p (c ∷ cs) k = clear_after (next p c) cs (clear_step p.host p.stage c k)

-- what one receive takes
module _ (h : HostSession) (piece : List ℕ) where
  abbrev Takes : Receive → Type 0
  Takes r = HostTakesItsPiece piece (got r.answer.refusal r.answer.consumed r.answer.event r.answer.identity r.answer.place r.answer.length)

  refused_takes : {r : Refusal} {i : Identity} → passes r ≡ false → HostTakesItsPiece piece (got r 0 Event.Nothing i (Piece 0) 0)
  refused_takes q = record { waiting = λ p _. true_not_false (sym p ∙ q); reporting = λ x. absurd (x refl); within = omega arith }

  module _ (u : Push) (b H d y : List ℕ) (t : Matches b piece H u (whole d y)) where
    reports_takes : {e : HostEvent} {i : Identity} {place : Place} {n : ℕ} → (e ≡ Event.Nothing → ⊥) → HostTakesItsPiece piece (got none u.answer.consumed e i place n)
    reports_takes f = record { waiting = λ _ x. absurd (f x); reporting = λ _. t.some; within = t.within }

    effect_takes : (k : RecordType) → Takes (effect k h u)
    unfolding effect
    effect_takes Kind.GuestAttach = refused_takes refl
    effect_takes Kind.HostAttach = refused_takes refl
    effect_takes Kind.Reset = reports_takes (λ x. let z : ◌≡◌ {A = ℕ} 0 1 = cc in omega arith)
    effect_takes Kind.Ack = refused_takes refl
    effect_takes Kind.Data = reports_takes (λ x. let z : ◌≡◌ {A = ℕ} 0 1 = cc in omega arith)
    effect_takes Kind.Wait = reports_takes (λ x. let z : ◌≡◌ {A = ℕ} 0 1 = cc in omega arith)
    effect_takes Kind.Ready = reports_takes (λ x. let z : ◌≡◌ {A = ℕ} 0 1 = cc in omega arith)
    effect_takes Kind.Error = reports_takes (λ x. let z : ◌≡◌ {A = ℕ} 0 1 = cc in omega arith)
    effect_takes Kind.Credit = refused_takes refl

  push_takes : (u : Push) (b H : List ℕ) (v : Scan) → Matches b piece H u v → Takes (after_push h u)
  unfolding after_push accept
  push_takes u b H unfinished t =
      picked Takes (passes u.answer.refusal)
      (λ _. picked Takes u.answer.complete (λ q. true_not_false (sym q ∙ t.complete))
      (λ _. record { waiting = λ _ _. t.taken; reporting = λ x. absurd (x refl); within = omega (arith, t.taken) }))
      refused_takes
  push_takes u b H (whole d y) t =
      picked Takes (passes u.answer.refusal)
      (λ _. picked Takes u.answer.complete
      (λ _. picked Takes (passes (first (record_rows h u.answer.«record»))) (λ _. effect_takes u b H d y t u.answer.«record».record_type) refused_takes)
      (λ q. true_not_false (sym t.complete ∙ q)))
      refused_takes
  push_takes u b H (refused r) t =
      picked Takes (passes u.answer.refusal) (λ q. true_not_false (sym q ∙ ap (λ (x : Refusal). passes x) t.refusal ∙ t.numbered)) refused_takes

pieces : HostPiecesTaken
unfolding step receive_of R.receive
pieces s cs piece =
    let h : HostSession = (after (fresh_place s) cs).host in
    let stage : List ℕ = (after (fresh_place s) cs).stage in
    let rows = receive_rows h (length stage) in
    let fit = fit_reached s cs in
    picked (Takes h piece) (passes (first rows))
    (λ p.
    let w = passed rows (refl, (refl, (refl, tt))) p in
    let room : 65536 ≤ length stage = leb-true 65536 (length stage) w.1.0 in
    let begun : is_begun h.state ≡ true = and_right (leb 1 (code h.state)) (leb (code h.state) 2) w.1.1.0 in
    let l = payload_within h.parser fit.parser in
    let r : Ready h.parser (held_in h.parser stage) =
    record {
      sound = fit.parser;
      clear = clear_after (fresh_place s) cs (λ _. refl) begun;
      size = (reached_sized s cs).parser.header;
      count = simp length-take (omega arith);
    }
    in
    let b : List ℕ = bytes_in h.parser stage in
    push_takes h piece (push h.parser (length stage) (held_in h.parser stage) piece) b (head_with h.parser.header h.parser.header_len piece)
    (scan (b ++ piece)) (matches h.parser piece stage (record { ready = r; room = room })))
    (λ q. refused_takes h piece q)

pub host_accept_claims : HostAcceptClaims
host_accept_claims = record { pieces = pieces; due = due; waits = waiting }
