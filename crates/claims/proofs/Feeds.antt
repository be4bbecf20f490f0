-- Reading undoes encoding: what a stream's first bytes scan as does not change when more come (`scan_append`), and an encoding scans as
-- its record (`encoding_scans`); so every push waits until the last byte is there. Assumes nothing.
use Prim.Native.Nat.{ℕ, ◌+◌, ◌≤◌}
use mathlib.Core.Path.{◌≡◌, refl, sym, ap, subst, ◌∙◌}
use mathlib.Core.Bool.{Bool, true, false}
use mathlib.Core.List.{List, [], ◌∷◌, ◌++◌, append_assoc, append-nil}
use native.Mathlib.Omega.{arith}
use lib.ListN.{length, take, length-append, length-take}
use lib.Dec.{eqb}
use borrow.Author.Tests.{eq-eqb}
use Rattle.wire.specs.Refusals.{pick, passes}
use Rattle.wire.specs.Header.{header_bytes}
use Rattle.wire.specs.declared.Refusal.{Refusal}
use Rattle.record.specs.Types.{code_of}
use Rattle.record.specs.Record.{record_of}
use Rattle.parser.specs.Push.{Push, push, head_with, push_stage, push_of, held_in, fresh}
use Rattle.parser.specs.declared.RecordParser.{RecordParser}
use Rattle.claims.specs.Reading.{held_bytes, Ready, Staged, joined, payload_of, Fed, delivered, broken, feed, FreshReady, ReadingUndoesEncoding}
use Rattle.claims.proofs.Octets.{octets_zeros}
use Rattle.claims.proofs.Scans.{Scan, unfinished, whole, refused, scan, scan_append}
use Rattle.claims.proofs.Records.{encoding_scans, encoding_record, encoding_length}
use Rattle.claims.proofs.Outcomes.{in_head, part_ready, ready_scan, Matches}
use Rattle.claims.proofs.Pushes.{push_matches}
use Rattle.claims.proofs.Stages.{push_staged}

-- what each push of a list finds
pub record Placed (p : RecordParser) (stage : List ℕ) : Type 0 where
  pub ready : Ready p (held_in p stage)
  pub room : 65536 ≤ length stage

abbrev pub bytes_in : RecordParser → List ℕ → List ℕ
bytes_in p stage = held_bytes p (held_in p stage)

-- the tests of `feed`, where a push waits and where it completes a record
wait_pick : {A : Type 0} (t c e : Bool) (d f b : A) → t ≡ true → c ≡ false → e ≡ true → pick t (pick c d (pick e f b)) b ≡ f
wait_pick t c e d f b p q r = rw (p, q, r)

complete_pick : {A : Type 0} (t c : Bool) (d f b : A) → t ≡ true → c ≡ true → pick t (pick c d f) b ≡ d
complete_pick t c d f b p q = rw (p, q)

-- a push with its stage
module _ (p : RecordParser) (x stage : List ℕ) (c : Placed p stage) where
  abbrev u : Push
  u = push p (length stage) (held_in p stage) x

  staged : Staged x (length stage) u (push_stage p x stage)
  staged = push_staged p x stage c.ready c.room

  pub matches : Matches (bytes_in p stage) x (head_with p.header p.header_len x) u (scan (bytes_in p stage ++ x))
  matches = push_matches p (length stage) (held_in p stage) x c.ready c.room

  -- where the push leaves a parser that can go on, so it is with the stage left
  pub placed_next : Ready u.answer.parser u.held → Placed u.answer.parser (push_stage p x stage)
  placed_next r =
      record {
        ready = subst (Ready u.answer.parser) (sym staged.held) r;
        room = omega (arith, staged.same_length, c.room);
      }

  pub bytes_next : bytes_in u.answer.parser (push_stage p x stage) ≡ held_bytes u.answer.parser u.held
  bytes_next = ap (held_bytes u.answer.parser) staged.held

  pub payload_next : u.answer.complete ≡ true → payload_of (push_of p x stage) x ≡ u.payload
  unfolding push_of
  payload_next e = staged.lies e

module _ (all h y : List ℕ) (whole-all : scan all ≡ whole h y) where
  never : {A : Type 0} → scan all ≡ unfinished → A
  never e = let z : whole h y ≡ unfinished = sym whole-all ∙ e in let w : ◌≡◌ {A = ℕ} 0 1 = cc in absurd (omega arith)

  -- a push whose bytes held and piece are a front of the stream
  module _ (x : List ℕ) (xs : List (List ℕ)) (p : RecordParser) (stage : List ℕ) (c : Placed p stage) (e : bytes_in p stage ++ (x ++ joined xs) ≡ all) where
    abbrev b : List ℕ
    b = bytes_in p stage

    abbrev w : Push
    w = u p x stage c

    abbrev s : List ℕ
    s = push_stage p x stage

    front : b ++ x ++ joined xs ≡ all
    front = append_assoc b x (joined xs) ∙ e

    fixed : (scan (b ++ x) ≡ unfinished → ⊥) → scan all ≡ scan (b ++ x)
    fixed f = ap scan (sym front) ∙ scan_append (b ++ x) (joined xs) f

    abbrev Fine : Fed → Type 0
    Fine f = f ≡ delivered (record_of h) y (length (h ++ y))

    fed_as : (v : Scan) → scan (b ++ x) ≡ v → Matches b x (head_with p.header p.header_len x) w v
        → ((q : RecordParser) (t : List ℕ) → Placed q t → bytes_in q t ++ joined xs ≡ all → Fine (feed (length (bytes_in q t)) q t xs))
        → Fine (feed (length b) p stage (x ∷ xs))
    unfolding feed push_of
    fed_as unfinished q t k =
        let n : bytes_in w.answer.parser s ≡ b ++ x = bytes_next p x stage c ∙ t.joins in
        let l : length b + w.answer.consumed ≡ length (bytes_in w.answer.parser s) = ap (λ (i : ℕ). length b + i) t.taken ∙ sym (ap length n ∙ length-append b x) in
        wait_pick (passes w.answer.refusal) w.answer.complete (eqb w.answer.consumed (length x))
        (delivered w.answer.«record» (payload_of (push_of p x stage) x) (length b + w.answer.consumed))
        (feed (length b + w.answer.consumed) w.answer.parser s xs) broken
        (ap (λ (r : Refusal). passes r) t.refusal) t.complete (eq-eqb w.answer.consumed (length x) t.taken)
        ∙ ap (λ (i : ℕ). feed i w.answer.parser s xs) l
        ∙ k w.answer.parser s (placed_next p x stage c t.ready) (ap (λ (a : List ℕ). a ++ joined xs) n ∙ front)
    fed_as (whole h' y') q t k =
        let z : whole h' y' ≡ whole h y = sym (fixed (λ i. let z : whole h' y' ≡ unfinished = sym q ∙ i in let w : ◌≡◌ {A = ℕ} 0 1 = cc in omega arith) ∙ q) ∙ whole-all in
        let eh : h' ≡ h = cc in
        let ey : y' ≡ y = cc in
        let taken : length (take w.answer.consumed x) ≡ w.answer.consumed = let i = t.within in simp length-take (omega arith) in
        let l : length b + w.answer.consumed ≡ length (h ++ y) =
        ap (λ (i : ℕ). length b + i) (sym taken) ∙ sym (length-append b (take w.answer.consumed x)) ∙ ap length t.joins ∙ (λ j. length (eh j ++ ey j))
        in
        complete_pick (passes w.answer.refusal) w.answer.complete
        (delivered w.answer.«record» (payload_of (push_of p x stage) x) (length b + w.answer.consumed))
        (pick (eqb w.answer.consumed (length x)) (feed (length b + w.answer.consumed) w.answer.parser s xs) broken) broken
        (ap (λ (r : Refusal). passes r) t.refusal) t.complete
        ∙ (λ j. delivered ((t.fields ∙ ap record_of eh) j) ((payload_next p x stage c t.complete ∙ t.payload ∙ ey) j) (l j))
    fed_as (refused r) q t k =
        let z : refused r ≡ whole h y = sym (fixed (λ i. let z : refused r ≡ unfinished = sym q ∙ i in let w : ◌≡◌ {A = ℕ} 0 1 = cc in omega arith) ∙ q) ∙ whole-all in
        let w : ◌≡◌ {A = ℕ} 0 1 = cc in
        absurd (omega arith)

  feed_as : (xs : List (List ℕ)) (p : RecordParser) (stage : List ℕ) → Placed p stage → bytes_in p stage ++ joined xs ≡ all
      → feed (length (bytes_in p stage)) p stage xs ≡ delivered (record_of h) y (length (h ++ y))
  unfolding joined
  feed_as [] p stage c e = never (ap scan (sym e ∙ append-nil (bytes_in p stage)) ∙ ready_scan p (held_in p stage) c.ready)
  feed_as (x ∷ xs) p stage c e = fed_as x xs p stage c e (scan (bytes_in p stage ++ x)) refl (matches p x stage c) (feed_as xs)

-- ---- from the start
pub fresh_ready : FreshReady
fresh_ready stage = (part_ready [] (in_head (omega arith) refl) refl refl, octets_zeros 44)

pub read_encoded : ReadingUndoesEncoding
read_encoded t i e s y stage rest xs li ie is ok room q =
    feed_as (joined xs) (header_bytes (code_of t) i e s (length y)) y (ap scan q ∙ encoding_scans t i e s y li ie is ok rest) xs fresh stage (record { ready = (fresh_ready stage).0; room = room }) refl
    ∙ (λ j. delivered (encoding_record t i e s y li ie is ok j) y (encoding_length t i e s y li ie is ok j))
