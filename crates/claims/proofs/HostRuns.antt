-- Two hosts given calls made alike answer alike. A receive reads the stage through its length and the payload bytes held alone, and both
-- are the same on the two sides after every call (`receive_lands`); the other calls read an output's length alone. Assumes nothing.
use Prim.Native.Nat.{ℕ, ◌+◌, ◌≤◌, ◌<◌}
use mathlib.Core.Path.{◌≡◌, refl, sym, ap, ap₂, subst, ◌∙◌}
use mathlib.Core.Bool.{Bool, true}
use mathlib.Core.List.{List, [], ◌∷◌, ◌++◌}
use native.Mathlib.Omega.{arith}
use lib.ListN.{length, take, drop}
use lib.Dec.{eqb, leb}
use borrow.Author.Tests.{leb-true, le-leb, eqb-true}
use Rattle.wire.specs.Refusals.{pick, refusal, first, passes}
use Rattle.wire.specs.declared.Refusal.{Refusal}
use Rattle.wire.proofs.Rows.{picked, passed}
use Rattle.parser.specs.Push.{sound_parser, counts_ok, error_ok, held_in, buffered_of}
use Rattle.session.specs.Checks.{next_row}
use Rattle.host.specs.State.{code, is_detached, is_attached, is_begun, sound_host, with_state, sent_host}
use Rattle.host.specs.Receive as Receive
use Rattle.host.specs.Calls as Calls
use Rattle.host.specs.declared.HostState.{HostState}
use Rattle.host.specs.declared.HostState.TheVariants as State
use Rattle.host.specs.declared.HostSession.{HostSession}
use Rattle.host.specs.Calls.{Closed}
use Rattle.claims.specs.Reading.{Ready}
use Rattle.claims.specs.HostCalls.{HostCall, wrote, got, HostReply, HostStep, placed, sending, receiving, step, fresh_place, compared, seen, replies}
use Rattle.claims.specs.HostCalls.{HostLike, attaches, receives, shorts, sends, disconnects, asks_state, asks_identity, asks_needed, HostLikes, nothing, also}
use Rattle.claims.specs.HostCalls.{attach, receive, receive_short, send}
use Rattle.claims.proofs.Outcomes.{picked₂, true_not_false}
use Rattle.claims.proofs.HostDoes.{Lands, receive_lands}
use Rattle.claims.proofs.HostWrites.{between, written_is, sent_same, writes_land, attach_bytes, attach_size, attach_fixed}

-- what two steps made alike share; `held` are the payload bytes held on both sides afterwards
record Same (c d : HostCall) (x y : HostStep) : Type 0 where
  reply : seen c x.reply ≡ seen d y.reply
  host : x.place.host ≡ y.place.host
  held : List ℕ
  left : Lands x.place.host held x.place.stage
  right : Lands y.place.host held y.place.stage

detached_begun : (s : HostState) → is_detached s ≡ true → is_begun s ≡ true
detached_begun s e = let z : code s ≡ 0 = eqb-true (code s) 0 e in le-leb (code s) 2 (omega arith)

-- ---- one session beside two stages that hold the same payload bytes
module _ (h : HostSession) (held s t : List ℕ) (ls : Lands h held s) (lt : Lands h held t) where
  -- a receive lent the own stage
  own : (z : List ℕ) → Lands h held z → Lands h (held_in h.parser z) z
  own z l = record { room = l.room; reads = refl; ready = λ x. subst (Ready h.parser) (sym l.reads) (l.ready x) }

  receive_same : (piece : List ℕ) → Same (receive piece) (receive piece) (step h s (receive piece)) (step h t (receive piece))
  unfolding step Receive.receive_of
  receive_same piece =
      let n : length s ≡ length t = ls.room ∙ sym lt.room in
      let b : held_in h.parser s ≡ held_in h.parser t = ls.reads ∙ sym lt.reads in
      let e : Receive.receive h (length s) (held_in h.parser s) piece ≡ Receive.receive h (length t) (held_in h.parser t) piece = λ i. Receive.receive h (n i) (b i) piece in
      let x = receive_lands h piece s (own s ls) in
      let y = receive_lands h piece t (own t lt) in
      let w = x.payload ∙ ap (λ (r : Receive.Receive). r.payload) e ∙ sym y.payload in
      record {
        reply = λ i. record { answer = got (e i).answer.refusal (e i).answer.consumed (e i).answer.event (e i).answer.identity (e i).answer.place (e i).answer.length; payload = w i; written = [] };
        host = λ i. (e i).answer.session;
        held = (Receive.receive h (length s) (held_in h.parser s) piece).held;
        left = x.lands;
        right = subst (λ (k : List ℕ). Lands (Receive.receive h (length t) (held_in h.parser t) piece).answer.session k (Receive.receive_stage h piece t)) (ap (λ (r : Receive.Receive). r.held) (sym e)) y.lands;
      }

  -- a receive lent a shorter stage changes nothing
  short_stops : (piece z : List ℕ) → length z < 65536 → Receive.receive_of h piece z ≡ Receive.outcome (Receive.refused (first (Receive.receive_rows h (length z))) h) z
  unfolding Receive.receive_of Receive.receive Receive.receive_stage
  short_stops piece z l =
      picked₂ (λ (x : Receive.Receive) (k : List ℕ). Receive.outcome x.answer k ≡ Receive.outcome (Receive.refused (first (Receive.receive_rows h (length z))) h) z)
      (passes (first (Receive.receive_rows h (length z))))
      (λ e. let k : 65536 ≤ length z = leb-true 65536 (length z) (passed (Receive.receive_rows h (length z)) (refl, (refl, (refl, tt))) e).1.0 in absurd (omega arith))
      (λ _. refl)

  short_same : (piece : List ℕ) {y z : List ℕ} (l : length y < 65536) (m : length z < 65536) → length y ≡ length z
      → Same (receive_short piece y l) (receive_short piece z m) (step h s (receive_short piece y l)) (step h t (receive_short piece z m))
  unfolding step
  short_same piece {y} {z} l m e =
      let a = short_stops piece y l in
      let b = short_stops piece z m in
      let f : Receive.Outcome → HostReply = λ (o : Receive.Outcome). (receiving piece o []).reply in
      let g : Receive.Outcome → HostSession = λ (o : Receive.Outcome). o.received.session in
      let q : f (Receive.outcome (Receive.refused (first (Receive.receive_rows h (length y))) h) y) ≡ f (Receive.outcome (Receive.refused (first (Receive.receive_rows h (length z))) h) z) =
      λ i. f (Receive.outcome (Receive.refused (first (Receive.receive_rows h (e i))) h) [])
      in
      record {
        reply = ap f a ∙ q ∙ sym (ap f b);
        host = ap g a ∙ sym (ap g b);
        held = held;
        left = subst (λ (k : HostSession). Lands k held s) (sym (ap g a)) ls;
        right = subst (λ (k : HostSession). Lands k held t) (sym (ap g b)) lt;
      }

  -- the calls that write: x and y are the records of the two sides, o and q the outputs, a the session where nothing is refused
  wrote_same : (c d : HostCall) (r r' : Refusal) (a : HostSession) (n at : ℕ) (x y o q : List ℕ) → r ≡ r' → length x ≡ length y → length o ≡ length q
      → (passes r ≡ true → at ≤ length o) → ((v : Bool) → compared c (pick v x []) ≡ compared d (pick v y []))
      → (passes r ≡ true → (z : List ℕ) → Lands h held z → Lands a held z)
      → Same c d (sending s at (Calls.writes r h a n x o at)) (sending t at (Calls.writes r' h a n y q at))
  wrote_same c d r r' a n at x y o q er ex eo ro f la =
      let z = sent_same r h a n at x y o q ex in
      let rq : passes r ≡ true → at ≤ length q = λ p. let k = ro p in omega arith in
      let w : compared c (between at (Calls.writes r h a n x o at)) ≡ compared d (between at (Calls.writes r h a n y q at)) =
      ap (compared c) (written_is r h a n x o at ro) ∙ f (passes r) ∙ sym (ap (compared d) (written_is r h a n y q at rq))
      in
      subst (λ (k : Refusal). Same c d (sending s at (Calls.writes r h a n x o at)) (sending t at (Calls.writes k h a n y q at))) er
      (record {
        reply = λ i. record { answer = wrote (z i).refusal (z i).count (z i).next; payload = []; written = w i };
        host = λ i. (z i).session;
        held = held;
        left = writes_land r h a n x o at held s ls (λ p. la p s ls);
        right = writes_land r h a n y q at held t lt (λ p. la p t lt);
      })

  attach_same : {x y o q : List ℕ} (l : length x ≡ 32) (m : length y ≡ 32) (at : ℕ) → length o ≡ length q
      → Same (attach x l o at) (attach y m q at) (step h s (attach x l o at)) (step h t (attach y m q at))
  unfolding step Calls.attach
  attach_same {x} {y} {o} {q} l m at e =
      let rows = passed (Calls.attach_rows h o at) (refl, (refl, (refl, tt))) in
      wrote_same (attach x l o at) (attach y m q at) (first (Calls.attach_rows h o at)) (first (Calls.attach_rows h q at)) (with_state h State.Attaching h.parser) 0 at
      (attach_bytes x) (attach_bytes y) o q
      (λ i. first (Calls.sound_row h ∷ (is_detached h.state, refusal 20 0 0 0) ∷ (leb (at + 76) (e i), refusal 22 0 0 0) ∷ []))
      (attach_size x l ∙ sym (attach_size y m)) e
      (λ p. let k : at + 76 ≤ length o = leb-true (at + 76) (length o) (rows p).1.1.0 in omega arith)
      (λ v. picked₂ (λ (a b : List ℕ). take 44 a ++ drop 76 a ≡ take 44 b ++ drop 76 b) v (λ _. attach_fixed x l ∙ sym (attach_fixed y m)) (λ _. refl))
      (λ p z k. record { room = k.room; reads = k.reads; ready = λ _. k.ready (detached_begun h.state (rows p).1.0) })

  send_same : (bytes : List ℕ) {o q : List ℕ} (at : ℕ) → length o ≡ length q → Same (send bytes o at) (send bytes q at) (step h s (send bytes o at)) (step h t (send bytes q at))
  unfolding step Calls.send
  send_same bytes {o} {q} at e =
      let rows = passed (Calls.send_rows h bytes o at) (refl, (refl, (refl, (refl, (refl, tt))))) in
      wrote_same (send bytes o at) (send bytes q at) (first (Calls.send_rows h bytes o at)) (first (Calls.send_rows h bytes q at)) (sent_host h) (Calls.send_count bytes) at
      _ _ o q
      (λ i. first (Calls.sound_row h ∷ (is_attached h.state, refusal 20 0 0 0) ∷ next_row 5 h.send_sequence.0 ∷ (leb 1 (length bytes), refusal 5 5 0 0) ∷ (leb (at + (44 + Calls.send_count bytes)) (e i), refusal 22 0 0 0) ∷ []))
      refl e
      (λ p. let k : at + (44 + Calls.send_count bytes) ≤ length o = leb-true (at + (44 + Calls.send_count bytes)) (length o) (rows p).1.1.1.1.0 in omega arith)
      (λ v. refl)
      (λ p z k. record { room = k.room; reads = k.reads; ready = k.ready })

  -- disconnect
  disconnect_lands : (z : List ℕ) → Lands h held z → Lands (Calls.disconnect h).session held z
  unfolding Calls.disconnect
  disconnect_lands z l =
      let P : Closed → Type 0 = λ (x : Closed). Lands x.session held z in
      picked P (sound_host h)
      (λ _. picked P (is_begun h.state)
      (λ _. picked P (eqb (buffered_of h.parser) 0)
      (λ _. record { room = l.room; reads = l.reads; ready = λ x. true_not_false (sym x) })
      (λ _. record { room = l.room; reads = l.reads; ready = λ x. true_not_false (sym x) }))
      (λ _. l))
      (λ _. l)

  same_step : {c d : HostCall} → HostLike c d → Same c d (step h s c) (step h t d)
  unfolding step
  same_step (attaches l m at e) = attach_same l m at e
  same_step (receives piece) = receive_same piece
  same_step (shorts piece l m e) = short_same piece l m e
  same_step (sends bytes at e) = send_same bytes at e
  same_step disconnects = record { reply = refl; host = refl; held = held; left = disconnect_lands s ls; right = disconnect_lands t lt }
  same_step asks_state = record { reply = refl; host = refl; held = held; left = ls; right = lt }
  same_step asks_identity = record { reply = refl; host = refl; held = held; left = ls; right = lt }
  same_step asks_needed = record { reply = refl; host = refl; held = held; left = ls; right = lt }

same_replies : {cs ds : List HostCall} → HostLikes cs ds → (h : HostSession) (held s t : List ℕ) → Lands h held s → Lands h held t → replies (placed h s) cs ≡ replies (placed h t) ds
unfolding replies
same_replies nothing h held s t ls lt = refl
same_replies (also {c} {d} {cs} {ds} k ks) h held s t ls lt =
    let e = same_step h held s t ls lt k in
    let r : Lands (step h s c).place.host e.held (step h t d).place.stage = subst (λ (z : HostSession). Lands z e.held (step h t d).place.stage) (sym e.host) e.right in
    ap₂ (λ (x : HostReply) (xs : List HostReply). x ∷ xs) e.reply
    (same_replies ks (step h s c).place.host e.held (step h s c).place.stage (step h t d).place.stage e.left r
    ∙ ap (λ (z : HostSession). replies (placed z (step h t d).place.stage) ds) e.host)

fresh_lands : (s : List ℕ) → length s ≡ 65536 → Lands (fresh_place s).host [] s
unfolding sound_parser counts_ok error_ok
fresh_lands s l = record { room = l; reads = refl; ready = λ _. record { sound = refl; clear = refl; size = refl; count = refl } }

pub two_hosts : (s t : List ℕ) → length s ≡ 65536 → length t ≡ 65536 → (cs ds : List HostCall) → HostLikes cs ds → replies (fresh_place s) cs ≡ replies (fresh_place t) ds
two_hosts s t l m cs ds k = same_replies k (fresh_place s).host [] s t (fresh_lands s l) (fresh_lands t m)
