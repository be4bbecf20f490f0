-- The stream of a host. As long as it has not Failed, the bytes that it took read as the records that it reported, each with the sequence
-- due, and its state is the one to which they led (`Followed`). Each call keeps it so. Assumes nothing.
use Prim.Native.Nat.{ℕ, ◌+◌, ◌^◌, ◌≤◌, ◌<◌}
use Rattle.std.proofs.lemmas.List.{nil_from_length}
use Rattle.std.specs.Prelude.{Option, Some}
use mathlib.Core.Path.{◌≡◌, refl, sym, ap, subst, ◌∙◌}
use mathlib.Core.Bool.{Bool, true, false, not, ◌&&◌, ◌||◌}
use mathlib.Core.List.{List, [], ◌∷◌, ◌++◌, append-nil}
use native.Mathlib.Omega.{arith}
use lib.ListN.{length, take, length-append}
use lib.Dec.{leb, eqb, lit<}
use borrow.Author.Tests.{leb-true, leb-false, le-leb, eqb-true, ltb-true, ne_eqb}
use Rattle.wire.specs.Bytes.{Octets, end}
use Rattle.wire.specs.Refusals.{first, passes}
use Rattle.wire.specs.declared.Refusal.{Refusal}
use Rattle.wire.specs.declared.Sequence.{Sequence}
use Rattle.wire.proofs.Rows.{picked, passed, and_right}
use Rattle.record.specs.Types.{code_of}
use Rattle.record.specs.declared.types.RecordType.{RecordType}
use Rattle.record.specs.declared.types.RecordType.TheVariants as Kind
use Rattle.record.specs.declared.Record.{Record}
use Rattle.parser.specs.Push.{Push, push, push_stage, held_in, head_with, payload_at, buffered_of}
use Rattle.session.specs.Checks.{held, identity, identity_of, last_sequence}
use Rattle.session.specs.declared.Identity.{Identity}
use Rattle.host.specs.State.{code, is_detached, is_attaching, is_attached, is_open, is_begun, sound_host, next_host}
use Rattle.host.specs.Checks.{allowed, order_rows, type_rows, record_rows}
use Rattle.host.specs.Receive.{Receive, effect, accept, after_push, receive_rows, receive_stage, receive_of}
use Rattle.host.specs.Receive as R
use Rattle.host.specs.Calls as Calls
use Rattle.host.specs.declared.HostState.{HostState}
use Rattle.host.specs.declared.HostState.TheVariants as State
use Rattle.host.specs.declared.HostSession.{HostSession}
use Rattle.host.specs.Calls.{Closed}
use Rattle.host.specs.Event as Event
use Rattle.claims.specs.Reading.{held_bytes}
use Rattle.claims.specs.HostCalls.{HostCall, attach, receive, receive_short, send, disconnect, ask_state, ask_identity, ask_needed, HostPlace, step, next, fresh_place, host_history}
use Rattle.claims.specs.HostStream.{HostReport, wait_event, attached_event, rejected_event, data_event, reset_event, host_reported, HostLog, no_host_log, host_log}
use Rattle.claims.specs.HostStream.{Phase, attaching, attached, ended, Leads, leads_wait, leads_ready, leads_error, leads_data, leads_reset, HostRecords, no_records, next_record}
use Rattle.claims.specs.HostStream.{PieceBytes, AllBytes, HostStreamExact}
use Rattle.claims.proofs.Octets.{octets_append, octets_take}
use Rattle.claims.proofs.Scans.{Scan, unfinished, whole, refused, scan, scan_short}
use Rattle.claims.proofs.Outcomes.{picked₂, true_not_false, Matches}
use Rattle.claims.proofs.Readings.{within, Reads, ends_within, reads_on}
use Rattle.claims.proofs.Feeds.{Placed, bytes_in, matches, placed_next, fresh_ready}
use Rattle.claims.proofs.Stages.{push_staged}
use Rattle.claims.proofs.Stream.{completed_ready}
use Rattle.claims.proofs.Kept.{reads_encodings}
use Rattle.claims.proofs.Pushed.{waits_reads, whole_reads}
use Rattle.claims.proofs.GuestTaken.{same_true}
use Rattle.claims.proofs.GuestStream.{held_unfinished, held_length}
use Rattle.claims.proofs.Sent.{reads_front, reads_encodable}
use Rattle.outer.specs.Outer.{max_payload}
use Rattle.claims.specs.GuestClaims.{Unfinished}

-- ---- one more record
more_record : {n : ℕ} {p q z : Phase} {x : Record × List ℕ} {e : HostReport} {xs : List (Record × List ℕ)} {es : List HostReport}
    → HostRecords n p xs es q → Leads q x e z → x.0.sequence.0 ≡ n + length xs → HostRecords n p (xs ++ (x ∷ [])) (es ++ (e ∷ [])) z
more_record {n} {x = x} no_records k s = let q : x.0.sequence.0 ≡ n = omega arith in next_record k q no_records
more_record {n} {x = x} (next_record {xs = xs} l m ks) k s = let q : x.0.sequence.0 ≡ n + 1 + length xs = omega arith in next_record l m (more_record ks k q)

-- ---- where a session stands
-- s its state, i its identity, b the bytes held
pub data Stands (s : HostState) (i : Identity) (b : List ℕ) : Phase → Type 0 where
  at_start : leb (code s) 1 ≡ true → Stands s i b attaching
  in_session : is_attached s ≡ true → Stands s i b (attached i)
  stopped : {p : Phase} → leb 3 (code s) ≡ true → b ≡ [] → Stands s i b p

module _ {s : HostState} {i : Identity} {b : List ℕ} where
  -- by the state
  when_attaching : {p : Phase} → Stands s i b p → is_attaching s ≡ true → p ≡ attaching
  when_attaching (at_start e) q = refl
  when_attaching (in_session e) q = absurd (omega (arith, eqb-true (code s) 2 e, eqb-true (code s) 1 q))
  when_attaching (stopped e z) q = absurd (omega (arith, leb-true 3 (code s) e, eqb-true (code s) 1 q))

  when_attached : {p : Phase} → Stands s i b p → is_attached s ≡ true → p ≡ attached i
  when_attached (at_start e) q = absurd (omega (arith, leb-true (code s) 1 e, eqb-true (code s) 2 q))
  when_attached (in_session e) q = refl
  when_attached (stopped e z) q = absurd (omega (arith, leb-true 3 (code s) e, eqb-true (code s) 2 q))

  -- other bytes held, where it still receives
  other_bytes : {p : Phase} (c : List ℕ) → Stands s i b p → is_open s ≡ true → Stands s i c p
  other_bytes c (at_start e) q = at_start e
  other_bytes c (in_session e) q = in_session e
  other_bytes c (stopped e z) q = absurd (omega (arith, leb-true 3 (code s) e, leb-true (code s) 2 (and_right (leb 1 (code s)) (leb (code s) 2) q)))

  -- attach
  attach_stands : {p : Phase} → Stands s i b p → is_detached s ≡ true → Stands State.Attaching i b p
  attach_stands (at_start e) q = at_start refl
  attach_stands (in_session e) q = absurd (omega (arith, eqb-true (code s) 2 e, eqb-true (code s) 0 q))
  attach_stands (stopped e z) q = absurd (omega (arith, leb-true 3 (code s) e, eqb-true (code s) 0 q))

  at_end : {p : Phase} → Stands s i b p → p ≡ ended → b ≡ []
  at_end (at_start e) q = let z : ◌≡◌ {A = ℕ} 0 1 = cc in absurd (omega arith)
  at_end (in_session e) q = let z : ◌≡◌ {A = ℕ} 0 1 = cc in absurd (omega arith)
  at_end (stopped e z) q = z

abbrev pub host_failed : HostState → Bool
host_failed s = eqb (code s) 6

not_failed : (s : HostState) (n : ℕ) → code s ≤ n → n ≤ 5 → host_failed s ≡ false
not_failed s n l m = ne_eqb (code s) 6 (λ e. omega arith)

pub open_unfailed : (s : HostState) → is_open s ≡ true → host_failed s ≡ false
open_unfailed s e = not_failed s 2 (leb-true (code s) 2 (and_right (leb 1 (code s)) (leb (code s) 2) e)) (omega arith)

-- ---- what holds after every call
pub record Followed (l : HostLog) (h : HostSession) (stage : List ℕ) : Type 0 where
  pub records : List (Record × List ℕ)
  pub phase : Phase
  pub events : HostRecords 0 attaching records l.events phase
  pub due : h.receive_sequence.0 ≡ length records
  pub low : length records < 2 ^ 64
  pub reads : Reads l.taken records (within (bytes_in h.parser stage))
  pub octets : Octets l.taken
  pub stands : Stands h.state (held h.identity) (bytes_in h.parser stage) phase
  pub placed : Placed h.parser stage

-- another state and send sequence
moved : {l : HostLog} {h : HostSession} {stage : List ℕ} (f : Followed l h stage) (s : HostState) (sends : Sequence)
    → Stands s (held h.identity) (bytes_in h.parser stage) f.phase
    → Followed l (record { state = s; parser = h.parser; identity = h.identity; receive_sequence = h.receive_sequence; send_sequence = sends }) stage
moved f s sends k =
    record { records = f.records; phase = f.phase; events = f.events; due = f.due; low = f.low; reads = f.reads; octets = f.octets; stands = k; placed = f.placed }

-- tests of `allowed`
left_only : (a b : Bool) → (a && true) || (b && false) ≡ true → a ≡ true
left_only true b e = refl
left_only false true e = e
left_only false false e = e

right_only : (a b : Bool) → (a && false) || (b && true) ≡ true → b ≡ true
right_only true true e = e
right_only true false e = e
right_only false true e = e
right_only false false e = e

not-true : (a : Bool) → not a ≡ true → a ≡ false
not-true true e = sym e
not-true false e = refl

-- ---- a receive lent the session's own stage
module _ (l : HostLog) (h : HostSession) (stage piece : List ℕ) (o : Octets piece) (f : Followed l h stage) where
  abbrev left : List ℕ
  left = push_stage h.parser piece stage

  abbrev u : Push
  u = push h.parser (length stage) (held_in h.parser stage) piece

  abbrev more : List ℕ
  more = take u.answer.consumed piece

  -- the log with what an answer adds
  abbrev logged : Receive → List ℕ → HostLog
  logged r z =
      record {
        taken = l.taken ++ take r.answer.consumed piece;
        events = l.events ++ host_reported r.answer.event r.answer.identity (payload_at r.answer.place r.answer.length piece z);
      }

  abbrev Got : Receive → Type 0
  Got r = host_failed r.answer.session.state ≡ false → Followed (logged r left) r.answer.session left

  more_octets : Octets (l.taken ++ more)
  more_octets = octets_append f.octets (octets_take u.answer.consumed o)

  module _ (opened : is_open h.state ≡ true) where
    -- no record yet
    waits : Matches (bytes_in h.parser stage) piece (head_with h.parser.header h.parser.header_len piece) u unfinished → Got (after_push h u)
    unfolding after_push
    waits t =
        picked Got (passes u.answer.refusal)
        (λ _. picked Got u.answer.complete
        (λ c. true_not_false (sym c ∙ t.complete))
        (λ _ _.
        record {
          records = f.records;
          phase = f.phase;
          events = rw (append-nil l.events) f.events;
          due = f.due;
          low = f.low;
          reads = subst (λ (rs : List (Record × List ℕ)). Reads (l.taken ++ more) rs (within (bytes_in u.answer.parser left))) (append-nil f.records)
              (reads_on more f.reads (waits_reads left t (push_staged h.parser piece stage f.placed.ready f.placed.room).held));
          octets = more_octets;
          stands = other_bytes (bytes_in u.answer.parser left) f.stands opened;
          placed = placed_next h.parser piece stage f.placed t.ready;
        }))
        (λ c. true_not_false (ap (λ (r : Refusal). passes r) (sym t.refusal) ∙ c))

    -- a whole record
    module _ (d y : List ℕ) (t : Matches (bytes_in h.parser stage) piece (head_with h.parser.header h.parser.header_len piece) u (whole d y)) where
      abbrev r : Record
      r = u.answer.«record»

      nothing_held : bytes_in u.answer.parser left ≡ []
      nothing_held = λ j. held_bytes (t.parser j) (held_in (t.parser j) left)

      -- one that passes the rows
      accepted : (s : HostState) (i : Option Identity) (e : HostReport) (q : Phase) → Leads f.phase (r, y) e q → eqb r.sequence.0 h.receive_sequence.0 ≡ true
          → h.receive_sequence.0 < last_sequence → Stands s (held i) [] q
          → Followed (record { taken = l.taken ++ more; events = l.events ++ (e ∷ []) }) (next_host h s u.answer.parser i) left
      accepted s i e q k n m z =
          let same : r.sequence.0 ≡ h.receive_sequence.0 = eqb-true r.sequence.0 h.receive_sequence.0 n in
          let sequence : r.sequence.0 ≡ 0 + length f.records = omega (arith, f.due) in
          let a : length (f.records ++ ((r, y) ∷ [])) ≡ length f.records + 1 = length-append f.records ((r, y) ∷ []) in
          record {
            records = f.records ++ ((r, y) ∷ []);
            phase = q;
            events = more_record f.events k sequence;
            due = omega (arith, f.due, a);
            low = omega (arith, f.due, a, m);
            reads = reads_on more f.reads
                (subst (λ (x : Record). Reads (bytes_in h.parser stage ++ more) ((x, y) ∷ []) (within (bytes_in u.answer.parser left))) (sym t.fields) (whole_reads left t));
            octets = more_octets;
            stands = subst (λ (b : List ℕ). Stands s (held i) b q) (sym nothing_held) z;
            placed = placed_next h.parser piece stage f.placed (completed_ready t);
          }

      abbrev rows_of : ℕ → List (Bool × Refusal)
      rows_of k = order_rows h.state k r.sequence.0 h.receive_sequence.0 ++ type_rows k (held h.identity) r

      from_attaching : allowed h.state 6 ≡ true → (e : HostReport) (q : Phase) → Leads attaching (r, y) e q → Leads f.phase (r, y) e q
      from_attaching a e q k = subst (λ (p : Phase). Leads p (r, y) e q) (sym (when_attaching f.stands (left_only (is_attaching h.state) (is_attached h.state) a))) k

      from_attached : allowed h.state 5 ≡ true → (e : HostReport) (q : Phase) → Leads (attached (held h.identity)) (r, y) e q → Leads f.phase (r, y) e q
      from_attached a e q k = subst (λ (p : Phase). Leads p (r, y) e q) (sym (when_attached f.stands (right_only (is_attaching h.state) (is_attached h.state) a))) k

      by_type : (k : RecordType) → r.record_type ≡ k → passes (first (rows_of (code_of k))) ≡ true → Got (effect k h u)
      unfolding effect
      by_type Kind.GuestAttach c p x = true_not_false x
      by_type Kind.HostAttach c p x = true_not_false x
      by_type Kind.Reset c p x =
          let w = passed (rows_of 3) (refl, (refl, (refl, (refl, (refl, (refl, tt)))))) p in
          let z : (held h.identity).epoch.0 < r.epoch.0 =
          (let g = leb-false r.epoch.0 (held h.identity).epoch.0 (not-true (leb r.epoch.0 (held h.identity).epoch.0) w.1.1.1.1.1.0) in omega arith)
          in
          accepted State.Reset h.identity (reset_event (identity_of r)) ended
          (from_attached w.0 _ _ (leads_reset r y (held h.identity) (ap code_of c) (same_true r.instance_id (held h.identity).instance_id w.1.1.1.1.0) z))
          w.1.0 (ltb-true h.receive_sequence.0 last_sequence w.1.1.0) (stopped refl refl)
      by_type Kind.Ack c p x = true_not_false x
      by_type Kind.Data c p x =
          let w = passed (rows_of 5) (refl, (refl, (refl, (refl, (refl, tt))))) p in
          let i : Identity = (held h.identity) in
          let inst : r.instance_id ≡ i.instance_id = same_true r.instance_id i.instance_id w.1.1.1.0 in
          let epoch : r.epoch.0 ≡ i.epoch.0 = eqb-true r.epoch.0 i.epoch.0 w.1.1.1.1.0 in
          let pay : payload_at u.answer.place r.length piece left ≡ y =
          (push_staged h.parser piece stage f.placed.ready f.placed.room).lies t.complete ∙ t.payload
          in
          subst
          (λ (v : List ℕ).
          Followed (record { taken = l.taken ++ more; events = l.events ++ (data_event v ∷ []) }) (next_host h h.state u.answer.parser h.identity) left)
          (sym pay)
          (accepted h.state h.identity (data_event y) (attached i) (from_attached w.0 _ _ (leads_data r y i (ap code_of c) (λ j. identity (inst j) (epoch j))))
          w.1.0 (ltb-true h.receive_sequence.0 last_sequence w.1.1.0)
          (in_session (right_only (is_attaching h.state) (is_attached h.state) w.0)))
      by_type Kind.Wait c p x =
          let w = passed (rows_of 6) (refl, (refl, (refl, tt))) p in
          accepted h.state h.identity wait_event attaching (from_attaching w.0 _ _ (leads_wait r y (ap code_of c)))
          w.1.0 (ltb-true h.receive_sequence.0 last_sequence w.1.1.0)
          (at_start (le-leb (code h.state) 1 (omega (arith, eqb-true (code h.state) 1 (left_only (is_attaching h.state) (is_attached h.state) w.0)))))
      by_type Kind.Ready c p x =
          let w = passed (rows_of 7) (refl, (refl, (refl, (refl, tt)))) p in
          accepted State.Attached (Some (identity_of r)) (attached_event (identity_of r)) (attached (identity_of r)) (from_attaching w.0 _ _ (leads_ready r y (ap code_of c) w.1.1.1.0))
          w.1.0 (ltb-true h.receive_sequence.0 last_sequence w.1.1.0) (in_session refl)
      by_type Kind.Error c p x =
          let w = passed (rows_of 8) (refl, (refl, (refl, tt))) p in
          accepted State.Rejected h.identity rejected_event ended (from_attaching w.0 _ _ (leads_error r y (ap code_of c)))
          w.1.0 (ltb-true h.receive_sequence.0 last_sequence w.1.1.0) (stopped refl refl)
      by_type Kind.Credit c p x = true_not_false x

      completes : Got (after_push h u)
      unfolding after_push accept
      completes =
          picked Got (passes u.answer.refusal)
          (λ _. picked Got u.answer.complete
          (λ _. picked Got (passes (first (record_rows h r))) (by_type r.record_type refl) (λ _ x. true_not_false x))
          (λ c. true_not_false (sym t.complete ∙ c)))
          (λ c. true_not_false (ap (λ (v : Refusal). passes v) (sym t.refusal) ∙ c))

    after_push_lem : (v : Scan) → Matches (bytes_in h.parser stage) piece (head_with h.parser.header h.parser.header_len piece) u v → Got (after_push h u)
    unfolding after_push
    after_push_lem unfinished t = waits t
    after_push_lem (whole d y) t = completes d y t
    after_push_lem (refused r) t =
        picked Got (passes u.answer.refusal)
        (λ c. true_not_false (sym c ∙ ap (λ (v : Refusal). passes v) t.refusal ∙ t.numbered))
        (λ _ x. true_not_false x)

-- ---- one call
abbrev pub Follows : HostLog → HostSession → List ℕ → Type 0
Follows l h stage = host_failed h.state ≡ false → Followed l h stage

-- nothing taken and nothing reported
nothing_more : {l : HostLog} {h : HostSession} {stage : List ℕ} → Followed l h stage → Followed (record { taken = l.taken ++ []; events = l.events ++ [] }) h stage
nothing_more {l} {h} {stage} f =
    subst (λ (x : HostLog). Followed x h stage) (sym (λ j. record { taken = append-nil l.taken j; events = append-nil l.events j })) f

module _ (l : HostLog) (h : HostSession) (stage : List ℕ) (k : Follows l h stage) where
  own_follows : (piece : List ℕ) → Octets piece → Follows (host_log l (receive piece) (step h stage (receive piece)).reply) (step h stage (receive piece)).place.host (step h stage (receive piece)).place.stage
  unfolding host_log step receive_of R.receive receive_stage
  own_follows piece o =
      picked₂
      (λ (r : Receive) (z : List ℕ).
      Follows (record {
        taken = l.taken ++ take r.answer.consumed piece;
        events = l.events ++ host_reported r.answer.event r.answer.identity (payload_at r.answer.place r.answer.length piece z);
      }) r.answer.session z)
      (passes (first (receive_rows h (length stage))))
      (λ e.
      let opened : is_open h.state ≡ true = (passed (receive_rows h (length stage)) (refl, (refl, (refl, tt))) e).1.1.0 in
      let f = k (open_unfailed h.state opened) in
      after_push_lem l h stage piece o f opened (scan (bytes_in h.parser stage ++ piece)) (matches h.parser piece stage f.placed))
      (λ _ x. nothing_more (k x))

  short_follows : (piece lent : List ℕ) (n : length lent < 65536)
      → Follows (host_log l (receive_short piece lent n) (step h stage (receive_short piece lent n)).reply) (step h stage (receive_short piece lent n)).place.host stage
  unfolding host_log step receive_of R.receive receive_stage
  short_follows piece lent n =
      picked₂
      (λ (r : Receive) (z : List ℕ).
      Follows (record {
        taken = l.taken ++ take r.answer.consumed piece;
        events = l.events ++ host_reported r.answer.event r.answer.identity (payload_at r.answer.place r.answer.length piece z);
      }) r.answer.session stage)
      (passes (first (receive_rows h (length lent))))
      (λ e. let m : 65536 ≤ length lent = leb-true 65536 (length lent) (passed (receive_rows h (length lent)) (refl, (refl, (refl, tt))) e).1.0 in absurd (omega arith))
      (λ _ x. nothing_more (k x))

  writes_follow : (rows : List (Bool × Refusal)) (a : HostSession) (n : ℕ) (bytes o : List ℕ) (at : ℕ) → (passes (first rows) ≡ true → Follows l a stage)
      → Follows l (Calls.writes (first rows) h a n bytes o at).sent.session stage
  unfolding Calls.writes
  writes_follow rows a n bytes o at g = picked (λ (x : Calls.Outcome). Follows l x.sent.session stage) (passes (first rows)) g (λ _. k)

  closes : Follows l (Calls.disconnect h).session stage
  unfolding Calls.disconnect
  closes =
      let P : Closed → Type 0 = λ (x : Closed). Follows l x.session stage in
      picked P (sound_host h)
      (λ _. picked P (is_begun h.state)
      (λ b. picked P (eqb (buffered_of h.parser) 0)
      (λ z _.
      let f = k (not_failed h.state 2 (leb-true (code h.state) 2 b) (omega arith)) in
      let e : length (bytes_in h.parser stage) ≡ 0 = held_length h.parser (held_in h.parser stage) f.placed.ready ∙ eqb-true (buffered_of h.parser) 0 z in
      moved f State.Closed h.send_sequence (stopped refl (nil_from_length (bytes_in h.parser stage) e)))
      (λ _ x. true_not_false x))
      (λ _. k))
      (λ _. k)

  pub follow_step : (c : HostCall) → PieceBytes c → Follows (host_log l c (step h stage c).reply) (step h stage c).place.host (step h stage c).place.stage
  unfolding host_log step Calls.attach Calls.send
  follow_step (attach capability n output at) w =
      writes_follow (Calls.attach_rows h output at) _ _ _ _ _
      (λ p _.
      let d : is_detached h.state ≡ true = (passed (Calls.attach_rows h output at) (refl, (refl, (refl, tt))) p).1.0 in
      let f = k (not_failed h.state 0 (omega (arith, eqb-true (code h.state) 0 d)) (omega arith)) in
      moved f State.Attaching h.send_sequence (attach_stands f.stands d))
  follow_step (receive piece) w = own_follows piece w
  follow_step (receive_short piece lent n) w = short_follows piece lent n
  follow_step (send bytes output at) w = writes_follow (Calls.send_rows h bytes output at) _ _ _ _ _ (λ _ x. let f = k x in moved f h.state _ f.stands)
  follow_step disconnect w = closes
  follow_step ask_state w = k
  follow_step ask_identity w = k
  follow_step ask_needed w = k

-- ---- what is kept whatever becomes of the session
record Seen (l : HostLog) : Type 0 where
  records : List (Record × List ℕ)
  phase : Phase
  events : HostRecords 0 attaching records l.events phase
  low : length records < 2 ^ 64
  rest : List ℕ
  reads : Reads l.taken records (within rest)
  octets : Octets l.taken
  unfinished : Unfinished rest
  ended_empty : phase ≡ ended → rest ≡ []

seen_as : {l : HostLog} {h : HostSession} {stage : List ℕ} → Followed l h stage → Seen l
seen_as {l} {h} {stage} f =
    record {
      records = f.records;
      phase = f.phase;
      events = f.events;
      low = f.low;
      rest = bytes_in h.parser stage;
      reads = f.reads;
      octets = f.octets;
      unfinished = held_unfinished h.parser (held_in h.parser stage) f.placed.ready;
      ended_empty = at_end f.stands;
    }

-- a receive that leaves a Failed host took nothing and reports nothing
abbrev Quiet : Receive → Type 0
Quiet r = host_failed r.answer.session.state ≡ true → (r.answer.consumed ≡ 0) × (r.answer.event ≡ Event.Nothing)

module _ (h : HostSession) (u : Push) (opened : is_open h.state ≡ true) where
  effect_quiet : (t : RecordType) → Quiet (effect t h u)
  unfolding effect
  effect_quiet Kind.GuestAttach x = (refl, refl)
  effect_quiet Kind.HostAttach x = (refl, refl)
  effect_quiet Kind.Reset x = true_not_false (sym x)
  effect_quiet Kind.Ack x = (refl, refl)
  effect_quiet Kind.Data x = true_not_false (sym x ∙ open_unfailed h.state opened)
  effect_quiet Kind.Wait x = true_not_false (sym x ∙ open_unfailed h.state opened)
  effect_quiet Kind.Ready x = true_not_false (sym x)
  effect_quiet Kind.Error x = true_not_false (sym x)
  effect_quiet Kind.Credit x = (refl, refl)

  push_quiet : Quiet (after_push h u)
  unfolding after_push accept
  push_quiet =
      picked Quiet (passes u.answer.refusal)
      (λ _. picked Quiet u.answer.complete
      (λ _. picked Quiet (passes (first (record_rows h u.answer.«record»))) (λ _. effect_quiet u.answer.«record».record_type) (λ _ _. (refl, refl)))
      (λ _ x. true_not_false (sym x ∙ open_unfailed h.state opened)))
      (λ _ _. (refl, refl))

receive_quiet : (h : HostSession) (size : ℕ) (held piece : List ℕ) → Quiet (R.receive h size held piece)
unfolding R.receive
receive_quiet h size held piece =
    picked Quiet (passes (first (receive_rows h size)))
    (λ e. push_quiet h (push h.parser size held piece) (passed (receive_rows h size) (refl, (refl, (refl, tt))) e).1.1.0)
    (λ _ _. (refl, refl))

quiet_log : (l : HostLog) (piece z : List ℕ) (r : Receive) → (r.answer.consumed ≡ 0) × (r.answer.event ≡ Event.Nothing)
    → ◌≡◌ {A = HostLog} (record {
      taken = l.taken ++ take r.answer.consumed piece;
      events = l.events ++ host_reported r.answer.event r.answer.identity (payload_at r.answer.place r.answer.length piece z);
    }) l
quiet_log l piece z r q =
    (λ j.
    record {
      taken = l.taken ++ take (q.0 j) piece;
      events = l.events ++ host_reported (q.1 j) r.answer.identity (payload_at r.answer.place r.answer.length piece z);
    })
    ∙ (λ j. record { taken = append-nil l.taken j; events = append-nil l.events j })

-- so a call that leaves a Failed host adds nothing to what was seen
failed_log : (l : HostLog) (h : HostSession) (stage : List ℕ) (c : HostCall) → host_failed (step h stage c).place.host.state ≡ true → host_log l c (step h stage c).reply ≡ l
unfolding host_log step receive_of
failed_log l h stage (attach capability n output at) x = refl
failed_log l h stage (receive piece) x = let r = R.receive h (length stage) (held_in h.parser stage) piece in quiet_log l piece (receive_stage h piece stage) r (receive_quiet h _ _ piece x)
failed_log l h stage (receive_short piece lent n) x = let r = R.receive h (length lent) (held_in h.parser lent) piece in quiet_log l piece (receive_stage h piece lent) r (receive_quiet h _ _ piece x)
failed_log l h stage (send bytes output at) x = refl
failed_log l h stage disconnect x = refl
failed_log l h stage ask_state x = refl
failed_log l h stage ask_identity x = refl
failed_log l h stage ask_needed x = refl

-- ---- lists of calls
-- by whether the host has Failed
seen_by : {l : HostLog} {h : HostSession} {stage : List ℕ} (b : Bool) → host_failed h.state ≡ b → Follows l h stage → (host_failed h.state ≡ true → Seen l) → Seen l
seen_by true x f k = k x
seen_by false x f k = seen_as (f x)

seen_after : (l : HostLog) (p : HostPlace) (cs : List HostCall) → AllBytes cs → Follows l p.host p.stage → Seen l → Seen (host_history host_log l p cs)
unfolding host_history
seen_after l p [] w f k = k
seen_after l p (c ∷ cs) w f k =
    let m : HostLog = host_log l c (step p.host p.stage c).reply in
    let g : Follows m (next p c).host (next p c).stage = follow_step l p.host p.stage f c w.0 in
    seen_after m (next p c) cs w.1 g
    (seen_by (host_failed (next p c).host.state) refl g (λ x. subst Seen (sym (failed_log l p.host p.stage c x)) k))

pub fresh_followed : (s : List ℕ) → max_payload ≤ length s → Followed no_host_log (fresh_place s).host s
fresh_followed s room =
    record {
      records = [];
      phase = attaching;
      events = no_records;
      due = refl;
      low = lit< tt;
      reads = ends_within (scan_short [] (omega arith));
      octets = end;
      stands = at_start refl;
      placed = record { ready = (fresh_ready s).0; room = room };
    }

-- ---- the claim
pub host_stream : HostStreamExact
host_stream s cs room w =
    let f = fresh_followed s room in
    let k = seen_after no_host_log (fresh_place s) cs w (λ _. f) (seen_as f) in
    record {
      records = k.records;
      phase = k.phase;
      events = k.events;
      within = k.low;
      encodable = reads_encodable k.reads k.octets;
      rest = k.rest;
      taken = reads_encodings k.reads k.octets;
      unfinished = k.unfinished;
      at_end = k.ended_empty;
      sent_first = λ sent more ks e. let t = reads_front k.reads ks more e in record { later = t.later; parts = t.parts };
    }
