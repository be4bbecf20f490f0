-- What the bytes taken are after a push: those before it, and the record that it completed or the bytes held then. A push takes bytes in
-- order (`PushFacts`), and the rows of DATA say that its sequence and identity are those due. Assumes nothing.
use Prim.Native.Nat.{ℕ, suc, ◌+◌, ◌-◌, ◌^◌, ◌<◌}
use native.Mathlib.Nat.{add-zero}
use mathlib.Core.Path.{◌≡◌, refl, sym, ap, ◌∙◌}
use mathlib.Core.Bool.{true}
use mathlib.Core.List.{List, [], ◌∷◌, ◌++◌, append_assoc, append-nil}
use native.Mathlib.Omega.{arith}
use lib.ListN.{length, take, length-append}
use lib.Pointwise.{bytes_decides}
use lib.Seq.{drop_at, take_all}
use borrow.Author.Tests.{eqb-true, ltb-true}
use Rattle.std.proofs.lemmas.List.{nil_from_length}
use Rattle.wire.specs.Bytes.{Octets}
use Rattle.wire.specs.Header.{type_of, instance_of, epoch_of, sequence_of, length_of}
use Rattle.wire.proofs.Rows.{Passed}
use Rattle.record.specs.Types.{code_of, length_ok}
use Rattle.record.specs.Record.{record_bytes, record_with}
use Rattle.record.specs.declared.Record.{Record}
use Rattle.parser.specs.Push.{Push, push_stage, held_in}
use Rattle.session.specs.Checks.{held, same, identity, identity_of}
use Rattle.session.specs.declared.Identity.{Identity}
use Rattle.guest_core.specs.State.{is_live}
use Rattle.guest.specs.Checks.{reset_rows, data_rows}
use Rattle.guest_core.specs.declared.GuestSession.{GuestSession}
use Rattle.claims.specs.Reading.{held_bytes, encoded}
use Rattle.claims.specs.GuestCalls.{Endpoint}
use Rattle.claims.specs.GuestHistory.{Transcript, last44, data_bytes, handed_bytes}
use Rattle.claims.specs.GuestClaims.{IsReset, Start}
use Rattle.claims.proofs.Scans.{unfinished, whole}
use Rattle.claims.proofs.Records.{checks_passed, code_is, encoded_back}
use Rattle.claims.proofs.GuestEffects.{PushFacts}

-- ---- lists
pub same_self : (a : List ℕ) → same a a ≡ true
unfolding same
same_self a = (bytes_decides a a).1 refl

pub same_true : (a b : List ℕ) → same a b ≡ true → a ≡ b
unfolding same
same_true a b e = (bytes_decides a b).0 e

data_snoc : (i : List ℕ) (e n : ℕ) (ds : List (List ℕ)) (d : List ℕ) → data_bytes i e n (ds ++ (d ∷ [])) ≡ data_bytes i e n ds ++ record_bytes 5 i e (n + length ds) d
unfolding data_bytes
data_snoc i e n [] d = rw (add-zero n) (append-nil _)
data_snoc i e n (x ∷ ds) d =
    let q : n + suc (length ds) ≡ n + 1 + length ds = omega arith in
    rw (q, data_snoc i e (n + 1) ds d) (sym (append_assoc (record_bytes 5 i e n x) (data_bytes i e (n + 1) ds) (record_bytes 5 i e (n + 1 + length ds) d)))

last_is : (xs h : List ℕ) → length h ≡ 44 → last44 (xs ++ h) ≡ h
last_is xs h e = drop_at xs h (length (xs ++ h) - 44) (simp length-append (omega arith))

-- ---- the invariant
-- the session goes on from the last RESET
pub record Continues (reset : List ℕ) (handed : List (List ℕ)) (i : Identity) (due : ℕ) : Type 0 where
  pub from : IsReset reset
  pub named : i ≡ identity (instance_of reset) (epoch_of reset)
  pub next : due ≡ sequence_of reset + 1 + length handed

pub record Stream (l : Transcript) (g : GuestSession) (payload : List ℕ) : Type 0 where
  pub start : Start l.reset l.handed
  pub within : sequence_of l.reset + length l.handed < 2 ^ 64
  pub joins : l.taken ≡ handed_bytes l.reset l.handed ++ held_bytes g.parser payload
  pub continues : is_live g.state ≡ true → Continues l.reset l.handed (held g.identity) g.receive_sequence.0

abbrev pub StreamAt : Transcript → Endpoint → Type 0
StreamAt l e = Stream l e.session (held_in e.session.parser e.stage)

-- ---- a push that completes a record
module _ {g : GuestSession} {z piece : List ℕ} {u : Push} {h y : List ℕ} (t : PushFacts g z piece u (whole h y)) where
  -- nothing is held afterwards
  pub nothing_held : held_bytes u.answer.parser (held_in u.answer.parser (push_stage g.parser piece z)) ≡ []
  nothing_held = λ j. held_bytes (t.matches.parser j) (held_in (t.matches.parser j) (push_stage g.parser piece z))

  type_is : (k : ℕ) → code_of u.answer.«record».record_type ≡ k → type_of h ≡ k
  type_is k q = sym (code_is h t.matches.checked) ∙ ap (λ (r : Record). code_of r.record_type) (sym t.matches.fields) ∙ q

  pub a_reset : code_of u.answer.«record».record_type ≡ 3 → IsReset h
  a_reset q = record { size = t.matches.size; checked = t.matches.checked; type = type_is 3 q }

  reset_empty : code_of u.answer.«record».record_type ≡ 3 → y ≡ []
  unfolding length_ok
  reset_empty q =
      let k : length_ok (type_of h) (length_of h) ≡ true = (checks_passed h t.matches.checked).1.1.1.1.0 in
      let n : length_ok 3 (length_of h) ≡ true = ap (λ (x : ℕ). length_ok x (length_of h)) (sym (type_is 3 q)) ∙ k in
      nil_from_length y (t.matches.full ∙ eqb-true (length_of h) 0 n)

  -- a RESET accepted is the one that the session goes on from
  pub reset_continues : code_of u.answer.«record».record_type ≡ 3 → Continues h [] (identity_of u.answer.«record») (u.answer.«record».sequence.0 + 1)
  unfolding record_with
  reset_continues q =
      let n : u.answer.«record».sequence.0 ≡ sequence_of h = ap (λ (r : Record). r.sequence.0) t.matches.fields in
      record { from = a_reset q; named = ap identity_of t.matches.fields; next = omega arith }

  -- the rows leave a sequence below 2^64
  pub reset_within : Passed (reset_rows g.identity u.answer.«record») → sequence_of h + 0 < 2 ^ 64
  unfolding record_with
  reset_within p =
      let n : u.answer.«record».sequence.0 ≡ sequence_of h = ap (λ (r : Record). r.sequence.0) t.matches.fields in
      let l : u.answer.«record».sequence.0 < 18446744073709551615 = ltb-true _ _ p.1.1.0 in
      omega arith

  pub data_within : (reset : List ℕ) (handed : List (List ℕ)) (d : List ℕ) → Passed (data_rows g u.answer.«record»)
      → Continues reset handed (held g.identity) g.receive_sequence.0 → sequence_of reset + length (handed ++ (d ∷ [])) < 2 ^ 64
  data_within reset handed d p k =
      let l : g.receive_sequence.0 < 18446744073709551615 = ltb-true _ _ p.1.1.1.0 in
      simp length-append (omega (arith, k.next))

  -- DATA that passes the rows is the encoding with the identity and the sequence due
  data_is : (reset : List ℕ) (handed : List (List ℕ)) → Octets h → code_of u.answer.«record».record_type ≡ 5 → Passed (data_rows g u.answer.«record»)
      → Continues reset handed (held g.identity) g.receive_sequence.0
      → h ++ y ≡ record_bytes 5 (instance_of reset) (epoch_of reset) (sequence_of reset + 1 + length handed) y
  data_is reset handed o q p k =
      let r = u.answer.«record» in
      let seq : r.sequence.0 ≡ sequence_of reset + 1 + length handed = eqb-true _ _ p.0 ∙ k.next in
      let inst : r.instance_id ≡ instance_of reset = same_true _ _ p.1.0 ∙ ap (λ (i : Identity). i.instance_id) k.named in
      let epoch : r.epoch.0 ≡ epoch_of reset = eqb-true _ _ p.1.1.0 ∙ ap (λ (i : Identity). i.epoch.0) k.named in
      sym (encoded_back h t.matches.checked y t.matches.full t.matches.size o)
      ∙ ap (λ (x : Record). encoded x y) (sym t.matches.fields)
      ∙ (λ j. record_bytes (q j) (inst j) (epoch j) (seq j) y)

-- ---- what the bytes taken are after a push
module _ (l : Transcript) (g : GuestSession) (z piece : List ℕ) (u : Push) (s : Stream l g (held_in g.parser z)) where
  abbrev b : List ℕ
  b = held_bytes g.parser (held_in g.parser z)

  abbrev before : List ℕ
  before = handed_bytes l.reset l.handed

  abbrev more : List ℕ
  more = take u.answer.consumed piece

  taken_more : {r : List ℕ} → b ++ more ≡ r → l.taken ++ more ≡ before ++ r
  taken_more q = ap (λ (x : List ℕ). x ++ more) s.joins ∙ append_assoc before b more ∙ ap (λ (x : List ℕ). before ++ x) q

  pub waits_join : PushFacts g z piece u unfinished → l.taken ++ more ≡ before ++ held_bytes u.answer.parser (held_in u.answer.parser (push_stage g.parser piece z))
  waits_join t =
      taken_more
      (ap (λ (x : List ℕ). b ++ x) (take_all u.answer.consumed piece (omega (arith, t.matches.taken)))
      ∙ sym t.matches.joins
      ∙ sym (ap (held_bytes u.answer.parser) t.staged.held))

  module _ (h y : List ℕ) (t : PushFacts g z piece u (whole h y)) where
    -- the RESET's 44 bytes are the last 44 taken
    pub reset_is : code_of u.answer.«record».record_type ≡ 3 → last44 (l.taken ++ more) ≡ h
    reset_is q =
        ap last44 (taken_more t.matches.joins ∙ ap (λ (x : List ℕ). before ++ (h ++ x)) (reset_empty t q) ∙ ap (λ (x : List ℕ). before ++ x) (append-nil h))
        ∙ last_is before h t.matches.size

    pub data_joins : (o : Octets h) → code_of u.answer.«record».record_type ≡ 5 → Passed (data_rows g u.answer.«record»)
        → Continues l.reset l.handed (held g.identity) g.receive_sequence.0 → (d : List ℕ) → d ≡ y
        → l.taken ++ more ≡ handed_bytes l.reset (l.handed ++ (d ∷ [])) ++ held_bytes u.answer.parser (held_in u.answer.parser (push_stage g.parser piece z))
    data_joins o q p k d e =
        taken_more t.matches.joins
        ∙ ap (λ (x : List ℕ). before ++ x) (data_is t l.reset l.handed o q p k)
        ∙ sym (data_snoc (instance_of l.reset) (epoch_of l.reset) (sequence_of l.reset + 1) l.handed y)
        ∙ ap (λ (x : List ℕ). handed_bytes l.reset (l.handed ++ (x ∷ []))) (sym e)
        ∙ sym (append-nil (handed_bytes l.reset (l.handed ++ (d ∷ []))))
        ∙ ap (λ (x : List ℕ). handed_bytes l.reset (l.handed ++ (d ∷ [])) ++ x) (sym (nothing_held t))
