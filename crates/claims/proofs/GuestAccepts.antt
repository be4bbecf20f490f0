-- What is due is accepted, in pieces of any size: a push goes by what the bytes held and the piece read as (`push_matches`), an encoding
-- reads as its record whatever stands behind it (`sent_scans`), and the rows of DATA and of a RESET pass, since the history says what the
-- session holds (`Stream`, `Figures`). Assumes nothing.
use Prim.Native.Nat.{ℕ, ◌+◌, ◌-◌, ◌≤◌, ◌<◌}
use Rattle.std.specs.Prelude.{Option, Some, None}
use mathlib.Core.Path.{◌≡◌, refl, sym, ap, subst, ◌∙◌}
use mathlib.Core.Bool.{Bool, true, false, not, ◌&&◌}
use mathlib.Core.List.{List, [], ◌∷◌, ◌++◌, append_assoc}
use native.Mathlib.Omega.{arith}
use native.Mathlib.Decide.{dec_le, dec_lt}
use lib.ListN.{length, take, drop, length-append, length-drop, take-append-drop}
use lib.Seq.{take_at, drop_at, take-append-le}
use lib.Dec.{leb}
use borrow.Author.Tests.{le-leb, leb-true, lt-leb, eq-eqb, eqb-true, lt-ltb}
use Rattle.wire.specs.Refusals.{none, first, passes}
use Rattle.wire.specs.Header.{instance_of, epoch_of, length_of}
use Rattle.wire.specs.declared.Refusal.{Refusal}
use Rattle.wire.proofs.Rows.{Passed, pass_all, picked, and_right}
use Rattle.outer.specs.Outer.{max_payload}
use Rattle.record.specs.Types.{code_of}
use Rattle.record.specs.declared.Record.{Record}
use Rattle.parser.specs.Push.{Push, push, held_in, head_with}
use Rattle.session.specs.Checks.{held, same, identity_of}
use Rattle.session.specs.declared.Identity.{Identity}
use Rattle.guest_core.specs.State.{code, is_active, is_live, is_open, sound_guest}
use Rattle.guest_core.specs.Asks.{state_of}
use Rattle.guest.specs.Checks.{stale, reset_rows, data_rows}
use Rattle.guest.specs.Receive as R
use Rattle.guest_core.specs.declared.GuestState.{GuestState}
use Rattle.guest_core.specs.declared.GuestState.TheVariants as State
use Rattle.guest_core.specs.Asks.{StateAnswer}
use Rattle.guest.specs.Event as Event
use Rattle.guest_core.specs.declared.GuestSession.{GuestSession}
use Rattle.claims.specs.Reading.{held_bytes, encoded}
use Rattle.claims.specs.GuestCalls.{Call, Endpoint, Step, step, fresh}
use Rattle.claims.specs.GuestHistory.{after, AllOwnOrShorter, Transcript, no_tally, no_transcript, handed_bytes}
use Rattle.claims.specs.GuestClaims.{Unfinished, in_header, in_payload}
use Rattle.claims.specs.Sent.{Encodable}
use Rattle.claims.specs.Release.{Tells, Comes, DueAccepted, NewResetAccepted, UnfinishedAwaited, FrontsUnfinished}
use Rattle.claims.specs.GuestHistory.{transcript_of}
use Rattle.claims.proofs.Scans.{unfinished, scan}
use Rattle.claims.proofs.Outcomes.{true_not_false, Matches, Completed}
use Rattle.claims.proofs.Pushes.{push_matches}
use Rattle.claims.proofs.Pushed.{all_but}
use Rattle.claims.proofs.Sent.{unfinished_scan, head, sent_framed, sent_scans, sent_record_lem}
use Rattle.claims.proofs.GuestInvariant.{Invariant, invariant_sound, invariant_ready, open_unfailed, active_live}
use Rattle.claims.proofs.GuestEffects.{Effect, effect_of}
use Rattle.claims.proofs.GuestEffects.{refuses_receive, fails, waits, resets, hands, refuses_write, attaches, acks, sends, credits, stays_ended, closes, fails_buffered, tells}
use Rattle.claims.proofs.GuestSound.{invariant_next, invariant_after, fresh_invariant}
use Rattle.claims.proofs.GuestSums.{figures_after}
use Rattle.claims.proofs.GuestStages.{room_after, stage_agrees}
use Rattle.claims.proofs.GuestTaken.{same_self, same_true, Continues, StreamAt}
use Rattle.claims.proofs.GuestStream.{Streams, stream_after, fresh_streams}

-- what stands behind the same bytes
behind_same : (a x y : List ℕ) → a ++ x ≡ a ++ y → x ≡ y
behind_same a x y e = sym (drop_at a x (length a) refl) ∙ ap (drop (length a)) e ∙ drop_at a y (length a) refl

-- the state that the ask answers
told_state_lem : (g : GuestSession) (q : GuestState) → sound_guest g ≡ true → state_of g ≡ record { refusal = none; state = q } → g.state ≡ q
unfolding state_of
told_state_lem g q e t = ap (λ (x : StateAnswer). x.state) (rw e at t)

-- ---- one receive
-- what the session holds is what the record says
record Fits (g : GuestSession) (r : Record) (payload : List ℕ) : Type 0 where
  active : is_active g.state ≡ true
  type : code_of r.record_type ≡ 5
  instance : r.instance_id ≡ (held g.identity).instance_id
  epoch : r.epoch.0 ≡ (held g.identity).epoch.0
  sequence : r.sequence.0 ≡ g.receive_sequence.0
  not_last : g.receive_sequence.0 < 18446744073709551615
  window : length payload ≤ g.window - g.outstanding

record Handed (payload piece more : List ℕ) (t : R.Receive) : Type 0 where
  refusal : t.answer.refusal ≡ none
  event : t.answer.event ≡ Event.Data
  handed : t.payload ≡ payload
  taken : t.answer.consumed + length more ≡ length piece

record Renewed (i : Identity) (piece more : List ℕ) (t : R.Receive) : Type 0 where
  refusal : t.answer.refusal ≡ none
  event : t.answer.event ≡ Event.Reset
  named : t.answer.identity ≡ i
  taken : t.answer.consumed + length more ≡ length piece

record Awaited (piece : List ℕ) (t : R.Receive) : Type 0 where
  refusal : t.answer.refusal ≡ none
  event : t.answer.event ≡ Event.Nothing
  taken : t.answer.consumed ≡ length piece

-- a receive that is open goes to `after_push`
module _ (g : GuestSession) (i : Invariant g) (stage : List ℕ) (room : max_payload ≤ length stage) (opened : is_open g.state ≡ true) (piece : List ℕ) where
  abbrev b : List ℕ
  b = held_bytes g.parser (held_in g.parser stage)

  abbrev u : Push
  u = push g.parser (length stage) (held_in g.parser stage) piece

  pushes : Matches b piece (head_with g.parser.header g.parser.header_len piece) u (scan (b ++ piece))
  pushes = push_matches g.parser (length stage) (held_in g.parser stage) piece (invariant_ready g i (open_unfailed g.state opened) stage room) room

  receive_pushes : (P : R.Receive → Type 0) → P (R.after_push g u) → P (R.receive g (length stage) (held_in g.parser stage) piece)
  unfolding R.receive
  receive_pushes P x =
      picked P (passes (first (R.receive_rows g (length stage)))) (λ _. x)
      (λ q. true_not_false (sym (pass_all (R.receive_rows g (length stage)) (invariant_sound g i, (le-leb _ _ room, (opened, tt)))) ∙ q))

  -- the bytes of an unfinished record
  awaits : scan (b ++ piece) ≡ unfinished → Awaited piece (R.receive g (length stage) (held_in g.parser stage) piece)
  unfolding R.after_push
  awaits e =
      let t : Matches b piece (head_with g.parser.header g.parser.header_len piece) u unfinished =
      subst (Matches b piece (head_with g.parser.header g.parser.header_len piece) u) e pushes
      in
      receive_pushes (Awaited piece)
      (picked (Awaited piece) (passes u.answer.refusal)
      (λ _. picked (Awaited piece) u.answer.complete (λ q. true_not_false (sym q ∙ t.complete)) (λ _. record { refusal = refl; event = refl; taken = t.taken }))
      (λ q. true_not_false (ap (λ (v : Refusal). passes v) (sym t.refusal) ∙ q)))

module _ (g : GuestSession) (i : Invariant g) (stage : List ℕ) (room : max_payload ≤ length stage) (opened : is_open g.state ≡ true) (piece more : List ℕ)
    (r : Record) (y : List ℕ) (k : Encodable r y) (comes : b g i stage room opened piece ++ piece ≡ encoded r y ++ more) where
  abbrev v : Push
  v = u g i stage room opened piece

  completed : Completed (b g i stage room opened piece) piece (head_with g.parser.header g.parser.header_len piece) v (head r y k) y
  completed =
      subst (Matches (b g i stage room opened piece) piece (head_with g.parser.header g.parser.header_len piece) v)
      (ap scan comes ∙ sent_scans r y k more) (pushes g i stage room opened piece)

  -- the record that the push answers is the one sent
  same_record : v.answer.«record» ≡ r
  same_record = completed.fields ∙ sent_record_lem r y k

  all_taken : v.answer.consumed + length more ≡ length piece
  all_taken = all_but more completed comes

  -- a receive of it goes to `accept`
  receive_accepts : (P : R.Receive → Type 0) → P (R.accept g v) → P (R.receive g (length stage) (held_in g.parser stage) piece)
  unfolding R.after_push
  receive_accepts P x =
      receive_pushes g i stage room opened piece P
      (picked P (passes v.answer.refusal)
      (λ _. picked P v.answer.complete (λ _. x) (λ q. true_not_false (sym completed.complete ∙ q)))
      (λ q. true_not_false (ap (λ (x : Refusal). passes x) (sym completed.refusal) ∙ q)))

  module _ (f : Fits g r y) where
    abbrev Good : R.Receive → Type 0
    Good t = Handed y piece more t

    data_passes : passes (first (data_rows g v.answer.«record»)) ≡ true
    data_passes =
        let n : r.length ≤ g.window - g.outstanding = omega (arith, f.window, k.size) in
        ap (λ (x : Record). passes (first (data_rows g x))) same_record
        ∙ pass_all (data_rows g r) (
          eq-eqb _ _ f.sequence,
          (
            ap (λ (x : List ℕ). same x (held g.identity).instance_id) f.instance ∙ same_self (held g.identity).instance_id,
            (eq-eqb _ _ f.epoch, (lt-ltb _ _ f.not_last, (le-leb _ _ n, tt))),
          ),
        )

    code_five : code_of v.answer.«record».record_type ≡ 5
    code_five = ap (λ (x : Record). code_of x.record_type) same_record ∙ f.type

    type_passes : passes (first (R.type_row g.state (code_of v.answer.«record».record_type) ∷ [])) ≡ true
    unfolding first
    type_passes = rw (code_five, f.active)

    accepts : Good (R.accept g v)
    unfolding R.accept R.accept_data
    accepts =
        picked Good (passes (first (R.type_row g.state (code_of v.answer.«record».record_type) ∷ [])))
        (λ _. picked Good (R.is_reset v.answer.«record»)
        (λ q. absurd (omega (arith, eqb-true (code_of v.answer.«record».record_type) 3 q, code_five)))
        (λ _. picked Good (passes (first (data_rows g v.answer.«record»)))
        (λ _. record { refusal = refl; event = refl; handed = completed.payload; taken = all_taken })
        (λ q. true_not_false (sym data_passes ∙ q))))
        (λ q. true_not_false (sym type_passes ∙ q))

  module _ (c : code_of r.record_type ≡ 3) (p : Passed (reset_rows g.identity r)) where
    abbrev Fresh : R.Receive → Type 0
    Fresh t = Renewed (identity_of r) piece more t

    code_three : code_of v.answer.«record».record_type ≡ 3
    code_three = ap (λ (x : Record). code_of x.record_type) same_record ∙ c

    reset_type : passes (first (R.type_row g.state (code_of v.answer.«record».record_type) ∷ [])) ≡ true
    unfolding first
    reset_type = rw code_three

    reset_passes : passes (first (reset_rows g.identity v.answer.«record»)) ≡ true
    reset_passes = ap (λ (x : Record). passes (first (reset_rows g.identity x))) same_record ∙ pass_all (reset_rows g.identity r) p

    renews : Fresh (R.accept g v)
    unfolding R.accept R.accept_reset
    renews =
        picked Fresh (passes (first (R.type_row g.state (code_of v.answer.«record».record_type) ∷ [])))
        (λ _. picked Fresh (R.is_reset v.answer.«record»)
        (λ _. picked Fresh (passes (first (reset_rows g.identity v.answer.«record»)))
        (λ _. record { refusal = refl; event = refl; named = ap identity_of same_record; taken = all_taken })
        (λ q. true_not_false (sym reset_passes ∙ q)))
        (λ q. true_not_false (sym (eq-eqb (code_of v.answer.«record».record_type) 3 code_three) ∙ q)))
        (λ q. true_not_false (sym reset_type ∙ q))

-- ---- the guest that a list of calls leaves
module _ (s : List ℕ) (room : max_payload ≤ length s) (cs : List Call) (w : AllOwnOrShorter cs) (q : GuestState) (opened : is_open q ≡ true)
    (told : Tells (after (fresh s) cs) q) where
  abbrev e : Endpoint
  e = after (fresh s) cs

  abbrev t : Transcript
  t = transcript_of s cs

  invariant : Invariant e.session
  invariant = invariant_after (fresh s) cs fresh_invariant

  state_is : e.session.state ≡ q
  unfolding step
  state_is = told_state_lem e.session q (invariant_sound e.session invariant) (cc told)

  open_is : is_open e.session.state ≡ true
  open_is = ap is_open state_is ∙ opened

  roomy : max_payload ≤ length e.stage
  roomy = omega (arith, room_after (fresh s) cs fresh_invariant)

  streams : StreamAt t e
  unfolding Streams
  streams = stream_after no_transcript (fresh s) cs w fresh_invariant (fresh_streams s) (open_unfailed e.session.state open_is)

  -- what stands behind the DATA handed out are the bytes held and the piece
  held_comes : (piece bytes : List ℕ) → Comes t piece bytes → held_bytes e.session.parser (held_in e.session.parser e.stage) ++ piece ≡ bytes
  held_comes piece bytes k =
      let d : List ℕ = handed_bytes t.reset t.handed in
      let h : List ℕ = held_bytes e.session.parser (held_in e.session.parser e.stage) in
      behind_same d (h ++ piece) bytes (sym (append_assoc d h piece) ∙ ap (λ (x : List ℕ). x ++ piece) (sym streams.joins) ∙ k)

-- ---- DATA that is due
pub due : DueAccepted
unfolding step R.receive_of
due s room cs w a r y k d piece more c o =
    let e : Endpoint = after (fresh s) cs in
    let g : GuestSession = e.session in
    let i : Invariant g = invariant_after (fresh s) cs fresh_invariant in
    let active : is_active g.state ≡ true = ap is_active (state_is s room cs w State.Active refl a) in
    let m = streams s room cs w State.Active refl a in
    let n = m.continues (active_live g.state active) in
    let l = figures_after no_tally (fresh s) cs fresh_invariant (omega arith) in
    let fits : Fits g r y =
    record {
      active = active;
      type = d.type;
      instance = d.instance ∙ sym (ap (λ (x : Identity). x.instance_id) n.named);
      epoch = d.epoch ∙ sym (ap (λ (x : Identity). x.epoch.0) n.named);
      sequence = d.sequence ∙ sym n.next;
      not_last = omega (arith, d.not_last, d.sequence, n.next);
      window = omega (arith, d.window, l.balance, l.bounded, l.same);
    }
    in
    let opened : is_open g.state ≡ true = open_is s room cs w State.Active refl a in
    let z : max_payload ≤ length e.stage = roomy s room cs w State.Active refl a in
    let h : held_bytes g.parser (held_in g.parser e.stage) ++ piece ≡ encoded r y ++ more = held_comes s room cs w State.Active refl a piece _ c in
    let t = receive_accepts g i e.stage z opened piece more r y k h (Handed y piece more) (accepts g i e.stage z opened piece more r y k h fits) in
    record { refusal = t.refusal; event = t.event; handed = (stage_agrees g i piece e.stage).payload ∙ t.handed; taken = t.taken }

-- ---- the bytes of an unfinished record
pub waiting : UnfinishedAwaited
unfolding step R.receive_of
waiting s room cs w q opened told piece part f c o =
    let e : Endpoint = after (fresh s) cs in
    let h = held_comes s room cs w q opened told piece part c in
    let t = awaits e.session (invariant_after (fresh s) cs fresh_invariant) e.stage (roomy s room cs w q opened told) (open_is s room cs w q opened told) piece (ap scan h ∙ unfinished_scan f) in
    record { refusal = t.refusal; event = t.event; taken = t.taken }

-- the first bytes of an encoding are such
pub fronts : FrontsUnfinished
fronts r y part rest k e n = go (dec_lt (length part) 44)
  where
    go : Dec (length part < 44) → Unfinished part
    go (yes l) = in_header part l
    go (no l) =
        let h : List ℕ = head r y k in
        let f = sent_framed r y k in
        let t : h ≡ take 44 part = sym (take_at h y 44 f.size) ∙ ap (take 44) (sym e) ∙ take-append-le 44 part rest (omega arith) in
        let m : length (drop 44 part) < length_of h =
        omega (arith, length-drop 44 part, length-append part rest, length-append h y, ap length e, f.size, f.full)
        in
        subst Unfinished (ap (λ (x : List ℕ). x ++ drop 44 part) t ∙ take-append-drop 44 part) (in_payload h (drop 44 part) f.size f.checked m)

-- ---- the RESET of a lead that is reattached
-- before the first RESET no identity is held
abbrev Blank : GuestSession → Type 0
Blank g = leb (code g.state) 1 ≡ true → g.identity ≡ None

blank_step : {e : Endpoint} {c : Call} {t : Step} → Effect e c t → Blank e.session → Blank t.after.session
blank_step (refuses_receive piece o lent r n) b = b
blank_step (fails piece o lent r u v n t) b = λ x. true_not_false (sym x)
blank_step (waits piece o lent u t) b = b
blank_step (resets piece o lent u h y t q p) b = λ x. true_not_false (sym x)
blank_step (hands piece o lent u h y t a q p) b = b
blank_step (refuses_write w o at r bytes n) b = b
blank_step {e} (attaches o at n next bytes d) b = λ _. b (le-leb (code e.session.state) 1 (omega (arith, eqb-true (code e.session.state) 0 d)))
blank_step (acks v o at n next bytes d ok) b = λ x. true_not_false (sym x)
blank_step (sends bs o at n next bytes d) b = b
blank_step (credits m o at n next bytes d q) b = b
blank_step stays_ended b = b
blank_step (closes d) b = λ x. true_not_false (sym x)
blank_step (fails_buffered r n d) b = λ x. true_not_false (sym x)
blank_step (tells q a n) b = b

blank_after : (e : Endpoint) (cs : List Call) → Invariant e.session → Blank e.session → Blank (after e cs).session
unfolding after
blank_after e [] f b = b
blank_after e (c ∷ cs) f b = blank_after (step e c).after cs (invariant_next e c f) (blank_step (effect_of e f c) b)

-- a state that receives and is not live is Attaching
not_live : (s : GuestState) → is_open s ≡ true → is_live s ≡ false → leb (code s) 1 ≡ true
not_live s a b =
    let high : code s ≤ 3 = leb-true (code s) 3 (and_right (leb 1 (code s)) (leb (code s) 3) a) in
    go (dec_le 2 (code s)) high
  where
    go : Dec (2 ≤ code s) → code s ≤ 3 → leb (code s) 1 ≡ true
    go (yes l) h = true_not_false (sym (rw (le-leb 2 (code s) l, le-leb (code s) 3 h)) ∙ b)
    go (no l) h = le-leb (code s) 1 (omega arith)

not_both : (b c : Bool) → (b ≡ true → c ≡ false) → not (b && c) ≡ true
not_both false c f = refl
not_both true c f = rw (f refl)

not_stale : (i : Option Identity) (instance : List ℕ) (epoch : ℕ) → (same instance (held i).instance_id ≡ true → leb epoch (held i).epoch.0 ≡ false)
    → not (stale i instance epoch) ≡ true
not_stale None instance epoch f = refl
not_stale (Some j) instance epoch f = not_both (same instance j.instance_id) (leb epoch j.epoch.0) f

new_enough : (g : GuestSession) (r : Record) (reset : List ℕ) (handed : List (List ℕ)) → is_open g.state ≡ true → Blank g
    → (is_live g.state ≡ true → Continues reset handed (held g.identity) g.receive_sequence.0)
    → (r.instance_id ≡ instance_of reset → epoch_of reset < r.epoch.0)
    → not (stale g.identity r.instance_id r.epoch.0) ≡ true
new_enough g r reset handed opened b continues newer = go (is_live g.state) refl
  where
    go : (t : Bool) → is_live g.state ≡ t
        → not (stale g.identity r.instance_id r.epoch.0) ≡ true
    go false q = rw (b (not_live g.state opened q))
    go true q =
        let c = continues q in
        let epoch : (held g.identity).epoch.0 ≡ epoch_of reset = ap (λ (x : Identity). x.epoch.0) c.named in
        not_stale g.identity r.instance_id r.epoch.0
        (λ x.
        let above : epoch_of reset < r.epoch.0 = newer (same_true _ _ x ∙ ap (λ (y : Identity). y.instance_id) c.named) in
        let l : (held g.identity).epoch.0 < r.epoch.0 = omega arith in
        lt-leb r.epoch.0 (held g.identity).epoch.0 l)

pub reattached : NewResetAccepted
unfolding step R.receive_of
reattached s room cs w q open-q told r k d piece more c o =
    let e : Endpoint = after (fresh s) cs in
    let g : GuestSession = e.session in
    let i : Invariant g = invariant_after (fresh s) cs fresh_invariant in
    let opened : is_open g.state ≡ true = open_is s room cs w q open-q told in
    let z : max_payload ≤ length e.stage = roomy s room cs w q open-q told in
    let m = streams s room cs w q open-q told in
    let last : r.sequence.0 < 18446744073709551615 = omega (arith, d.not_last) in
    let rows : Passed (reset_rows g.identity r) =
    (d.identity, (new_enough g r _ _ opened (blank_after (fresh s) cs fresh_invariant (λ _. refl)) m.continues d.newer, (lt-ltb _ _ last, tt)))
    in
    let h : held_bytes g.parser (held_in g.parser e.stage) ++ piece ≡ encoded r [] ++ more = held_comes s room cs w q open-q told piece _ c in
    let t =
    receive_accepts g i e.stage z opened piece more r [] k h (Renewed (identity_of r) piece more) (renews g i e.stage z opened piece more r [] k h d.type rows)
    in
    record { refusal = t.refusal; event = t.event; named = t.named; taken = t.taken }
