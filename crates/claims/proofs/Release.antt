-- The release note. As long as a guest has not Failed, the bytes that it took read as the records that it reported, and what it handed out
-- since the last Reset event are the payloads of those since the last RESET (`Followed`): each thing that a call can do (`Effect`) keeps it
-- so. Bytes that begin like the encodings of a list read as its first records (`reads_front`). Assumes nothing.
use Prim.Native.Nat.{ℕ, ◌+◌, ◌≤◌, ◌<◌, ◌-◌, ◌^◌}
use Rattle.std.specs.Prelude.{Option, Some}
use mathlib.Core.Path.{◌≡◌, refl, sym, ap, subst, subst₂, ◌∙◌}
use mathlib.Core.Bool.{Bool, true, false, not, ◌&&◌}
use mathlib.Core.List.{List, [], ◌∷◌, ◌++◌, append_assoc, append-nil, map-append}
use native.Mathlib.Omega.{arith}
use lib.ListN.{length, take, length-append}
use borrow.Author.Tests.{eqb-true, ltb-true, leb-false, le-leb}
use Rattle.outer.specs.Outer.{max_payload}
use Rattle.wire.specs.declared.Sequence.{Sequence}
use Rattle.wire.proofs.Rows.{Passed, and_right}
use Rattle.record.specs.Types.{code_of}
use Rattle.record.specs.declared.Record.{Record}
use Rattle.parser.specs.Push.{Push, held_in, push_stage}
use Rattle.session.specs.Checks.{held, identity, identity_of, same}
use Rattle.session.specs.declared.Identity.{Identity}
use Rattle.guest_core.specs.State.{is_failed, is_live, code, is_open}
use Rattle.guest.specs.Checks.{data_rows, reset_rows, stale}
use Rattle.guest_core.specs.declared.GuestState.{GuestState}
use Rattle.guest_core.specs.declared.GuestSession.{GuestSession}
use Rattle.claims.specs.Reading.{held_bytes, Ready, encodings}
use Rattle.claims.specs.GuestCalls.{own, other, Call, Endpoint, endpoint, Step, step, fresh}
use Rattle.claims.specs.GuestHistory.{trace, history, OwnOrShorter, AllOwnOrShorter, Transcript, no_transcript, transcribe}
use Rattle.claims.specs.GuestClaims.{Unfinished}
use Rattle.claims.proofs.Scans.{whole, scan_short}
use Rattle.claims.proofs.Outcomes.{true_not_false}
use Rattle.claims.proofs.Readings.{within, Reads, ends_within, reads_on}
use Rattle.claims.proofs.Pushed.{waits_reads, whole_reads}
use Rattle.claims.proofs.Sent.{unique, reads_encodable}
use Rattle.claims.proofs.GuestInvariant.{Invariant, invariant_ready, open_unfailed, detached_unfailed, resetting_unfailed, going_unfailed, active_live, resetting_live}
use Rattle.claims.proofs.GuestEffects.{PushFacts, Effect, effect_of}
use Rattle.claims.proofs.GuestEffects.{refuses_receive, fails, waits, resets, hands, refuses_write, attaches, acks, sends, credits, stays_ended, closes, fails_buffered, tells}
use Rattle.claims.proofs.GuestSound.{invariant_next, fresh_invariant}
use Rattle.claims.proofs.GuestSums.{handed_is}
use Rattle.claims.proofs.GuestStages.{room_next}
use Rattle.claims.proofs.GuestTaken.{same_true, same_self}
use Rattle.claims.proofs.GuestStream.{too_short, held_unfinished}
use Rattle.claims.specs.Release.{Report, reset_event, data_event, Log, no_log, log, log_of, Progress, no_reset, in_epoch, Leads, leads_reset, leads_data, GuestRecords, no_events, next_event, AllData, no_data, more_data, SinceReset, nothing_yet, since_reset, payloads_of, StreamFollowed, ReleaseNote, ShownAmong, NothingBefore}
use lib.Dec.{leb}
use Rattle.wire.specs.Bytes.{Octets, end}
use Rattle.claims.proofs.Octets.{octets_append, octets_take}
use Rattle.claims.proofs.Kept.{reads_encodings}

-- ---- one more of each
more_event : {p q z : Progress} {xs : List (Record × List ℕ)} {es : List Report} {x : Record × List ℕ} {e : Report} → GuestRecords p xs es q → Leads q x e z
    → GuestRecords p (xs ++ (x ∷ [])) (es ++ (e ∷ [])) z
more_event no_events m = next_event m no_events
more_event (next_event n ns) m = next_event n (more_event ns m)

all_more : {i : Identity} {n : ℕ} {xs : List (Record × List ℕ)} (x : Record × List ℕ) → AllData i n xs → code_of x.0.record_type ≡ 5 → identity_of x.0 ≡ i
    → x.0.sequence.0 ≡ n + length xs → AllData i n (xs ++ (x ∷ []))
all_more {n = n} x no_data c k s = let q : x.0.sequence.0 ≡ n = omega arith in more_data c k q no_data
all_more {n = n} x (more_data {xs = xs} d m r ds) c k s = let q : x.0.sequence.0 ≡ n + 1 + length xs = omega arith in more_data d m r (all_more x ds c k q)

-- ---- the session goes on from the last RESET
-- while it is live, it holds the RESET's identity and the sequence due; and it has left Detached and Attaching for good
record Holds (g : GuestSession) (i : Identity) (due : ℕ) : Type 0 where
  held : g.identity ≡ Some i
  sequence : g.receive_sequence.0 ≡ due

data Origin (g : GuestSession) : List (Record × List ℕ) → List (Record × List ℕ) → Progress → Type 0 where
  nowhere : is_live g.state ≡ false → Origin g [] [] no_reset
  somewhere : (xs : List (Record × List ℕ)) (r : Record) (payload : List ℕ) {since : List (Record × List ℕ)} (due : ℕ) → code_of r.record_type ≡ 3
      → AllData (identity_of r) (r.sequence.0 + 1) since → due ≡ r.sequence.0 + 1 + length since → 2 ≤ code g.state
      → (is_live g.state ≡ true → Holds g (identity_of r) due) → Origin g (xs ++ ((r, payload) ∷ [])) since (in_epoch (identity_of r) due)

origin_since : {g : GuestSession} {before since : List (Record × List ℕ)} {p : Progress} → Origin g before since p → SinceReset before since
origin_since (nowhere e) = nothing_yet
origin_since (somewhere xs r y due c ds n b k) = since_reset xs r y c ds

-- a session with the same identity and sequence due, live only if the other was
origin_kept : {g : GuestSession} {before since : List (Record × List ℕ)} {p : Progress} (z : GuestSession) → Origin g before since p
    → (is_live z.state ≡ true → is_live g.state ≡ true) → (2 ≤ code g.state → 2 ≤ code z.state)
    → g.identity ≡ z.identity → g.receive_sequence.0 ≡ z.receive_sequence.0 → Origin z before since p
origin_kept z (nowhere e) f s p q = nowhere (not_live (is_live z.state) refl)
  where
    not_live : (t : Bool) → is_live z.state ≡ t → is_live z.state ≡ false
    not_live true x = true_not_false (sym (f x) ∙ e)
    not_live false x = x
origin_kept z (somewhere xs r y due c ds n b k) f s p q =
    somewhere xs r y due c ds n (s b) (λ x. record { held = sym p ∙ (k (f x)).held; sequence = sym q ∙ (k (f x)).sequence })

-- DATA that passes the rows is what was due
record Due (g : GuestSession) (i : Identity) (due : ℕ) (r : Record) : Type 0 where
  named : identity_of r ≡ i
  sequence : r.sequence.0 ≡ due
  low : due < 2 ^ 64 - 1

data_due : (g : GuestSession) (i : Identity) (due : ℕ) (r : Record) → Holds g i due → Passed (data_rows g r) → Due g i due r
data_due g i due r k rows =
    let number : r.sequence.0 ≡ g.receive_sequence.0 = eqb-true _ _ rows.0 in
    let inst : r.instance_id ≡ (held g.identity).instance_id = same_true _ _ rows.1.0 in
    let epoch : r.epoch.0 ≡ (held g.identity).epoch.0 = eqb-true _ _ rows.1.1.0 in
    let next : g.receive_sequence.0 < 18446744073709551615 = ltb-true _ _ rows.1.1.1.0 in
    record {
      named = (λ j. identity (inst j) (epoch j)) ∙ ap (λ (x : Option Identity). held x) k.held;
      sequence = number ∙ k.sequence;
      low = omega (arith, k.sequence);
    }

record Handed (z : GuestSession) (before since : List (Record × List ℕ)) (p : Progress) (x : Record × List ℕ) : Type 0 where
  progress : Progress
  leads : Leads p x (data_event x.1) progress
  origin : Origin z before since progress

origin_more : {g : GuestSession} {before since : List (Record × List ℕ)} {p : Progress} (r : Record) (payload : List ℕ) (z : GuestSession) → Origin g before since p
    → is_live g.state ≡ true → code_of r.record_type ≡ 5 → Passed (data_rows g r) → g.identity ≡ z.identity → g.receive_sequence.0 + 1 ≡ z.receive_sequence.0
    → g.state ≡ z.state → Handed z before (since ++ ((r, payload) ∷ [])) p (r, payload)
origin_more r y z (nowhere e) a c rows p q s = true_not_false (sym a ∙ e)
origin_more {g} r y z (somewhere xs d v {since} due k ds n b f) a c rows p q s =
    let t = data_due g (identity_of d) due r (f a) rows in
    let m : length (since ++ ((r, y) ∷ [])) ≡ length since + 1 = length-append since ((r, y) ∷ []) in
    let e : r.sequence.0 ≡ d.sequence.0 + 1 + length since = t.sequence ∙ n in
    let next : z.receive_sequence.0 ≡ due + 1 = omega (arith, (f a).sequence) in
    let more : due + 1 ≡ d.sequence.0 + 1 + length (since ++ ((r, y) ∷ [])) = omega arith in
    record {
      progress = in_epoch (identity_of d) (due + 1);
      leads = leads_data (identity_of d) due r y c t.named t.sequence t.low;
      origin = somewhere xs d v (due + 1) k (all_more (r, y) ds c t.named e) more (subst (λ (x : GuestState). 2 ≤ code x) s b) (λ _. record { held = sym p ∙ (f a).held; sequence = next });
    }

-- a RESET that passes the rows is newer than the last
above : (a b : List ℕ) (x y : ℕ) → a ≡ b → not (same a b && leb x y) ≡ true → y < x
above a b x y e n = go (leb x y) refl
  where
    alike : same a b ≡ true
    alike = subst (λ (c : List ℕ). same a c ≡ true) e (same_self a)

    go : (t : Bool) → leb x y ≡ t → y < x
    go true q = true_not_false (sym n ∙ rw (alike, q))
    go false q = leb-false x y q

open_live : (s : GuestState) → is_open s ≡ true → 2 ≤ code s → is_live s ≡ true
open_live s e l = rw (le-leb 2 (code s) l, and_right (leb 1 (code s)) (leb (code s) 3) e)

reset_leads : {g : GuestSession} {before since : List (Record × List ℕ)} {p : Progress} (r : Record) (payload : List ℕ) → Origin g before since p → is_open g.state ≡ true
    → code_of r.record_type ≡ 3 → Passed (reset_rows g.identity r) → Leads p (r, payload) (reset_event (identity_of r)) (in_epoch (identity_of r) (r.sequence.0 + 1))
reset_leads r y (nowhere e) o c rows =
    let low : r.sequence.0 < 18446744073709551615 = ltb-true _ _ rows.1.1.0 in
    leads_reset no_reset r y c rows.0 tt (omega arith)
reset_leads {g} r y (somewhere xs d v due k ds n b f) o c rows =
    let low : r.sequence.0 < 18446744073709551615 = ltb-true _ _ rows.1.1.0 in
    let h = (f (open_live g.state o b)).held in
    let fresh : not (same r.instance_id d.instance_id && leb r.epoch.0 d.epoch.0) ≡ true =
    subst (λ (i : Option Identity). not (stale i r.instance_id r.epoch.0) ≡ true) h rows.1.0
    in
    leads_reset (in_epoch (identity_of d) due) r y c rows.0 (λ x. above r.instance_id d.instance_id r.epoch.0 d.epoch.0 x fresh) (omega arith)

-- ---- what holds after every call
abbrev bytes_of : Endpoint → List ℕ
bytes_of e = held_bytes e.session.parser (held_in e.session.parser e.stage)

record Followed (l : Log) (t : Transcript) (e : Endpoint) : Type 0 where
  all : List (Record × List ℕ)
  before : List (Record × List ℕ)
  since : List (Record × List ℕ)
  progress : Progress
  parts : all ≡ before ++ since
  reads : Reads l.taken all (within (bytes_of e))
  octets : Octets l.taken
  events : GuestRecords no_reset all l.events progress
  origin : Origin e.session before since progress
  shown : t.handed ≡ payloads_of since

-- the same records, where none was completed
carry : {l : Log} {t : Transcript} {e : Endpoint} (f : Followed l t e) (m : Log) (n : Transcript) (z : Endpoint) → Reads m.taken f.all (within (bytes_of z))
    → Octets m.taken → l.events ≡ m.events → n.handed ≡ t.handed → Origin z.session f.before f.since f.progress → Followed m n z
carry f m n z k b q w o =
    record {
      all = f.all;
      before = f.before;
      since = f.since;
      progress = f.progress;
      parts = f.parts;
      reads = k;
      octets = b;
      events = subst (λ (es : List Report). GuestRecords no_reset f.all es f.progress) q f.events;
      origin = o;
      shown = w ∙ f.shown;
    }

-- the session changed, and its parser, identity and sequence due did not
moved : {l : Log} {t : Transcript} {e : Endpoint} → Followed l t e → (s : GuestState) (number : Sequence) (window outstanding : ℕ)
    → (is_live s ≡ true → is_live e.session.state ≡ true) → (2 ≤ code e.session.state → 2 ≤ code s)
    → Followed l t (endpoint (record {
      parser = e.session.parser;
      identity = e.session.identity;
      receive_sequence = e.session.receive_sequence;
      send_sequence = number;
      window = window;
      outstanding = outstanding;
      state = s;
    }) e.stage)
moved f s number window outstanding k b = carry f _ _ _ f.reads f.octets refl refl (origin_kept _ f.origin k b refl refl)

-- one record more
one_more : {l : Log} {t : Transcript} {e : Endpoint} {piece : List ℕ} {u : Push} {h y : List ℕ} (f : Followed l t e) → PushFacts e.session e.stage piece u (whole h y)
    → Reads (l.taken ++ take u.answer.consumed piece) (f.all ++ ((u.answer.«record», y) ∷ []))
    (within (held_bytes u.answer.parser (held_in u.answer.parser (push_stage e.session.parser piece e.stage))))
one_more {l} {t} {e} {piece} {u} {h} {y} f p =
    let left : List ℕ = push_stage e.session.parser piece e.stage in
    subst (λ (r : Record). Reads (l.taken ++ take u.answer.consumed piece) (f.all ++ ((r, y) ∷ [])) (within (held_bytes u.answer.parser (held_in u.answer.parser left))))
    (sym p.matches.fields) (reads_on (take u.answer.consumed piece) f.reads (whole_reads left p.matches))

follow_step : {l : Log} {t : Transcript} {e : Endpoint} {c : Call} {n : Step} → Effect e c n → OwnOrShorter c → Invariant e.session
    → (is_failed e.session.state ≡ false → Followed l t e) → is_failed n.after.session.state ≡ false → Followed (log l c n.answer) (transcribe t c n.answer) n.after
unfolding log transcribe
follow_step {l} {t} {e} (refuses_receive piece o own r n) w i k x =
    carry (k x) _ _ _ (rw (append-nil l.taken) (k x).reads) (rw (append-nil l.taken) (k x).octets) (sym (append-nil l.events)) refl (k x).origin
follow_step {l} {t} {e} (refuses_receive piece o (other z) r n) w i k x =
    carry (k x) _ _ _ (rw (append-nil l.taken) (k x).reads) (rw (append-nil l.taken) (k x).octets) (sym (append-nil l.events)) refl (k x).origin
follow_step (fails piece o lent r u v n p) w i k x = true_not_false x
follow_step {l} {t} {e} (waits piece o own u p) w i k x =
    let f = k x in
    let left : List ℕ = push_stage e.session.parser piece e.stage in
    let more : List ℕ = take u.answer.consumed piece in
    carry f _ _ _
    (subst (λ (rs : List (Record × List ℕ)). Reads (l.taken ++ more) rs (within (held_bytes u.answer.parser (held_in u.answer.parser left)))) (append-nil f.all)
    (reads_on more f.reads (waits_reads left p.matches p.staged.held)))
    (octets_append f.octets (octets_take u.answer.consumed o))
    (sym (append-nil l.events)) refl (origin_kept _ f.origin (λ a. a) (λ a. a) refl refl)
follow_step (waits piece o (other z) u p) w i k x = too_short p.room w
follow_step {l} {t} {e} (resets piece o own u h y p q rows) w i k x =
    let f = k (open_unfailed e.session.state p.opened) in
    let r : Record = u.answer.«record» in
    let n : r.sequence.0 + 1 ≡ r.sequence.0 + 1 + 0 = omega arith in
    record {
      all = f.all ++ ((r, y) ∷ []);
      before = f.all ++ ((r, y) ∷ []);
      since = [];
      progress = in_epoch (identity_of r) (r.sequence.0 + 1);
      parts = sym (append-nil (f.all ++ ((r, y) ∷ [])));
      reads = one_more f p;
      octets = octets_append f.octets (octets_take u.answer.consumed o);
      events = more_event f.events (reset_leads r y f.origin p.opened q rows);
      origin = somewhere f.all r y (r.sequence.0 + 1) q no_data n (omega arith) (λ _. record { held = refl; sequence = refl });
      shown = refl;
    }
follow_step (resets piece o (other z) u h y p q rows) w i k x = too_short p.room w
follow_step {l} {t} {e} (hands piece o own u h y p a q rows) w i k x =
    let f = k x in
    let r : Record = u.answer.«record» in
    let m = origin_more r y _ f.origin (active_live e.session.state a) q rows refl refl refl in
    record {
      all = f.all ++ ((r, y) ∷ []);
      before = f.before;
      since = f.since ++ ((r, y) ∷ []);
      progress = m.progress;
      parts = ap (λ (v : List (Record × List ℕ)). v ++ ((r, y) ∷ [])) f.parts ∙ append_assoc f.before f.since ((r, y) ∷ []);
      reads = one_more f p;
      octets = octets_append f.octets (octets_take u.answer.consumed o);
      events = more_event f.events (subst (λ (d : List ℕ). Leads f.progress (r, y) (data_event d) m.progress) (sym (handed_is p)) m.leads);
      origin = m.origin;
      shown = (λ j. f.shown j ++ (handed_is p j ∷ [])) ∙ sym (map-append (λ (v : Record × List ℕ). v.1) f.since ((r, y) ∷ []));
    }
follow_step (hands piece o (other z) u h y p a q rows) w i k x = too_short p.room w
follow_step (refuses_write wr o at r bytes n) w i k x = k x
follow_step {e = e} (attaches o at n next bytes d) w i k x =
    moved (k (detached_unfailed e.session.state d)) _ _ _ _ (λ y. true_not_false (sym y)) (λ b. absurd (omega (arith, eqb-true (code e.session.state) 0 d)))
follow_step {e = e} (acks v o at n next bytes d ok) w i k x =
    moved (k (resetting_unfailed e.session.state d)) _ _ _ _ (λ _. resetting_live e.session.state d) (λ _. omega arith)
follow_step (sends bs o at n next bytes d) w i k x = moved (k x) _ _ _ _ (λ y. y) (λ b. b)
follow_step (credits m o at n next bytes d q) w i k x = moved (k x) _ _ _ _ (λ y. y) (λ b. b)
follow_step stays_ended w i k x = k x
follow_step {e = e} (closes d) w i k x = moved (k (going_unfailed e.session.state d)) _ _ _ _ (λ y. true_not_false (sym y)) (λ _. omega arith)
follow_step (fails_buffered r n d) w i k x = true_not_false x
follow_step (tells q a n) w i k x = k x

-- ---- what is kept whatever becomes of the session
record Kept (l : Log) (t : Transcript) : Type 0 where
  before : List (Record × List ℕ)
  since : List (Record × List ℕ)
  progress : Progress
  rest : List ℕ
  reads : Reads l.taken (before ++ since) (within rest)
  octets : Octets l.taken
  unfinished : Unfinished rest
  events : GuestRecords no_reset (before ++ since) l.events progress
  reset : SinceReset before since
  shown : t.handed ≡ payloads_of since

kept : {l : Log} {t : Transcript} {e : Endpoint} → Followed l t e → Ready e.session.parser (held_in e.session.parser e.stage) → Kept l t
kept {l} {t} {e} f r =
    record {
      before = f.before;
      since = f.since;
      progress = f.progress;
      rest = bytes_of e;
      reads = subst (λ (a : List (Record × List ℕ)). Reads l.taken a (within (bytes_of e))) f.parts f.reads;
      octets = f.octets;
      unfinished = held_unfinished e.session.parser (held_in e.session.parser e.stage) r;
      events = subst (λ (a : List (Record × List ℕ)). GuestRecords no_reset a l.events f.progress) f.parts f.events;
      reset = origin_since f.origin;
      shown = f.shown;
    }

-- a refused receive takes nothing and hands out nothing
nothing_logged : (l : Log) → ◌≡◌ {A = Log} (record { taken = l.taken ++ []; events = l.events ++ [] }) l
nothing_logged l = λ j. record { taken = append-nil l.taken j; events = append-nil l.events j }

nothing_transcribed : (t : Transcript) → ◌≡◌ {A = Transcript} (record { taken = t.taken ++ []; reset = t.reset; handed = t.handed }) t
nothing_transcribed t = λ j. record { taken = append-nil t.taken j; reset = t.reset; handed = t.handed }

-- a call that leaves a Failed guest adds nothing to what was seen
failed_kept : {l : Log} {t : Transcript} {e : Endpoint} {c : Call} {n : Step} → Effect e c n → is_failed n.after.session.state ≡ true → Kept l t
    → Kept (log l c n.answer) (transcribe t c n.answer)
unfolding log transcribe
failed_kept {l} {t} (refuses_receive piece o lent r n) x k = subst₂ Kept (sym (nothing_logged l)) (sym (nothing_transcribed t)) k
failed_kept {l} {t} (fails piece o lent r u v n p) x k = subst₂ Kept (sym (nothing_logged l)) (sym (nothing_transcribed t)) k
failed_kept {e = e} (waits piece o lent u p) x k = true_not_false (sym x ∙ open_unfailed e.session.state p.opened)
failed_kept (resets piece o lent u h y p q rows) x k = true_not_false (sym x)
failed_kept {e = e} (hands piece o lent u h y p a q rows) x k = true_not_false (sym x ∙ open_unfailed e.session.state p.opened)
failed_kept (refuses_write wr o at r bytes n) x k = k
failed_kept (attaches o at n next bytes d) x k = k
failed_kept (acks v o at n next bytes d ok) x k = k
failed_kept (sends bs o at n next bytes d) x k = k
failed_kept (credits m o at n next bytes d q) x k = k
failed_kept stays_ended x k = k
failed_kept (closes d) x k = k
failed_kept (fails_buffered r n d) x k = k
failed_kept (tells q a n) x k = k

-- ---- lists of calls
unfoldable Follows : Log → Transcript → Endpoint → Type 0
Follows l t e = is_failed e.session.state ≡ false → Followed l t e

-- by whether the guest has Failed
kept_as : {l : Log} {t : Transcript} (e : Endpoint) (b : Bool) → is_failed e.session.state ≡ b → Invariant e.session → max_payload ≤ length e.stage → Follows l t e
    → (is_failed e.session.state ≡ true → Kept l t) → Kept l t
unfolding Follows
kept_as e true x i n f k = k x
kept_as e false x i n f k = kept (f x) (invariant_ready e.session i x e.stage n)

kept_after : (l : Log) (t : Transcript) (e : Endpoint) (cs : List Call) → AllOwnOrShorter cs → Invariant e.session → max_payload ≤ length e.stage → Follows l t e → Kept l t
    → Kept (history log l (trace e cs)) (history transcribe t (trace e cs))
unfolding trace history Follows
kept_after l t e [] w i n f k = k
kept_after l t e (c ∷ cs) w i n f k =
    let z : Endpoint = (step e c).after in
    let a : Effect e c (step e c) = effect_of e i c in
    let j : Invariant z.session = invariant_next e c i in
    let m : max_payload ≤ length z.stage = omega (arith, room_next e c i) in
    let g : Follows (log l c (step e c).answer) (transcribe t c (step e c).answer) z = follow_step a w.0 i f in
    kept_after (log l c (step e c).answer) (transcribe t c (step e c).answer) z cs w.1 j m g
    (kept_as z (is_failed z.session.state) refl j m g (λ x. failed_kept a x k))

fresh_follows : (s : List ℕ) → Follows no_log no_transcript (fresh s)
unfolding Follows
fresh_follows s x =
    record {
      all = [];
      before = [];
      since = [];
      progress = no_reset;
      parts = refl;
      reads = ends_within (scan_short [] (omega arith));
      octets = end;
      events = no_events;
      origin = nowhere refl;
      shown = refl;
    }

-- ---- the claim
pub followed : StreamFollowed
unfolding Follows
followed s room cs w =
    let f : Followed no_log no_transcript (fresh s) = fresh_follows s refl in
    let first : Kept no_log no_transcript = kept f (invariant_ready (fresh s).session fresh_invariant refl s room) in
    let k = kept_after no_log no_transcript (fresh s) cs w fresh_invariant room (fresh_follows s) first in
    record {
      before = k.before;
      since = k.since;
      progress = k.progress;
      events = k.events;
      reset = k.reset;
      shown = k.shown;
      encodable = reads_encodable k.reads k.octets;
      rest = k.rest;
      taken = reads_encodings k.reads k.octets;
      unfinished = k.unfinished;
    }

pub note : ReleaseNote
note records s cs d =
    let f = followed s d.room cs d.lent in
    let all : List (Record × List ℕ) = f.before ++ f.since in
    let e : encodings all ++ (f.rest ++ d.more) ≡ encodings records =
    sym (append_assoc (encodings all) f.rest d.more) ∙ ap (λ (l : List ℕ). l ++ d.more) (sym f.taken) ∙ d.joins
    in
    let t = unique all records (f.rest ++ d.more) f.encodable d.encodable e in
    record { seen = f; later = t.later; parts = t.parts ∙ append_assoc f.before f.since t.later }

-- ---- every RESET that was reported
make_length : {p q : Progress} {xs : List (Record × List ℕ)} {es : List Report} → GuestRecords p xs es q → length es ≡ length xs
make_length no_events = refl
make_length (next_event m ms) = omega (arith, make_length ms)

abbrev head_or : Record × List ℕ → List (Record × List ℕ) → Record × List ℕ
head_or d [] = d
head_or d (x ∷ xs) = x

abbrev tail : List (Record × List ℕ) → List (Record × List ℕ)
tail [] = []
tail (x ∷ xs) = xs

-- a RESET is none of the DATA
not_data : {i : Identity} {n : ℕ} {ds : List (Record × List ℕ)} (later old behind : List (Record × List ℕ)) (x : Record × List ℕ) → AllData i n ds
    → code_of x.0.record_type ≡ 3 → ds ++ later ≡ old ++ (x ∷ behind) → length old < length ds → ⊥
not_data later old behind x no_data c e k = omega arith
not_data later [] behind x (more_data {x = a} d m r ds) c e k =
    let same : code_of a.0.record_type ≡ code_of x.0.record_type = ap (λ (l : List (Record × List ℕ)). code_of (head_or x l).0.record_type) e in
    let five : ◌≡◌ {A = ℕ} 5 3 = sym d ∙ same ∙ c in
    omega arith
not_data later (o ∷ old) behind x (more_data d m r ds) c e k = not_data later old behind x ds c (ap tail e) (omega arith)

-- so it is one of the records before them, and they stand behind it
stand_behind : {i : Identity} {n : ℕ} (before since later old behind : List (Record × List ℕ)) (x : Record × List ℕ) → AllData i n since → code_of x.0.record_type ≡ 3
    → before ++ (since ++ later) ≡ old ++ (x ∷ behind) → length old < length before + length since → ShownAmong behind (payloads_of since)
stand_behind [] since later old behind x ds c e k = absurd (not_data later old behind x ds c e (omega arith))
stand_behind (b ∷ bs) since later [] behind x ds c e k = record { earlier = bs; shown = since; later = later; parts = sym (ap tail e); payloads = refl }
stand_behind (b ∷ bs) since later (o ∷ old) behind x ds c e k = stand_behind bs since later old behind x ds c (ap tail e) (omega arith)

behind_reset : {before since : List (Record × List ℕ)} → SinceReset before since → (later old behind : List (Record × List ℕ)) (x : Record × List ℕ)
    → code_of x.0.record_type ≡ 3 → before ++ (since ++ later) ≡ old ++ (x ∷ behind) → length old < length before + length since → ShownAmong behind (payloads_of since)
behind_reset nothing_yet later old behind x c e k = absurd (omega arith)
behind_reset (since_reset xs r y {since} t ds) later old behind x c e k = stand_behind (xs ++ ((r, y) ∷ [])) since later old behind x ds c e k

pub nothing_before : NothingBefore
nothing_before old behind r payload s cs d c k =
    let n = note (old ++ ((r, payload) ∷ behind)) s cs d in
    let f = n.seen in
    let all : length (log_of s cs).events ≡ length f.before + length f.since = make_length f.events ∙ length-append f.before f.since in
    subst (ShownAmong behind) (sym f.shown) (behind_reset f.reset n.later old behind (r, payload) c (sym n.parts) (omega arith))
