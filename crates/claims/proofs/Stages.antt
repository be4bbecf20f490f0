-- The stage that a push leaves: its first bytes are the payload bytes held, its length is unchanged, and a completed record's payload
-- lies where the answer says. The tests of the two rules, for the answer and for the stage, agree. Assumes nothing.
use Prim.Native.Nat.{ℕ, ◌+◌, ◌≤◌, ◌<◌}
use mathlib.Core.Path.{◌≡◌, refl, sym, ap, subst, ◌∙◌}
use mathlib.Core.Bool.{Bool}
use mathlib.Core.List.{List, [], ◌++◌}
use native.Mathlib.Omega.{arith}
use native.Mathlib.Decide.{dec_lt, ℕ_discrete}
use lib.ListN.{length, take, drop, length-take}
use lib.Dec.{ltb}
use borrow.Author.Tests.{lt-ltb, le-ltb, le-leb, lt-leb, eq-eqb, ne_eqb}
use Rattle.wire.specs.Bytes.{overlay}
use Rattle.wire.specs.Refusals.{pick, first, passes}
use Rattle.wire.specs.Header.{type_of, length_of}
use Rattle.wire.proofs.Rows.{picked}
use Rattle.wire.proofs.Overlays.{length_overlay, take_overlay}
use Rattle.record.specs.Record.{header_checks, payload_checks, record_with}
use Rattle.parser.specs.Push.{Push, stopped, finish, body_taken, push_body, head_taken, head_with, push_head, push_rows, push, body_stage, head_stage, push_stage, held_in, payload_at}
use Rattle.parser.specs.declared.RecordParser.{RecordParser}
use Rattle.parser.specs.declared.Place.{Place}
use Rattle.parser.specs.declared.Place.TheVariants.{Piece, Stage}
use Rattle.claims.specs.Reading.{Ready, Staged}
use Rattle.claims.proofs.Records.{length_low}
use Rattle.claims.proofs.Outcomes.{picked₂, ready_part}
use Rattle.claims.proofs.Pushes.{fits, push_passes}

module _ (h : List ℕ) (k : ℕ) (piece stage : List ℕ) (from : ℕ) (within : k ≤ length_of h) (low : length_of h ≤ length stage) where
  abbrev rest : List ℕ
  rest = drop from piece

  abbrev m : ℕ
  m = body_taken h k rest

  abbrev put : List ℕ
  put = overlay stage k (take m rest)

  m_length : length (take m rest) ≡ m
  m_length = simp length-take (omega arith)

  put_length : length put ≡ length stage
  put_length = length_overlay stage k (take m rest) (omega (arith, m_length))

  put_front : take (k + m) put ≡ take k stage ++ take m rest
  put_front =
      ap (λ (j : ℕ). take (k + j) put) (sym m_length) ∙ take_overlay stage k (take m rest) (omega (arith, m_length))

  finish_staged : (y s : List ℕ) (place : Place) → length s ≡ length stage → payload_at place (length_of h) piece s ≡ y → Staged piece (length stage) (finish h y (from + m) place) s
  unfolding finish record_with
  finish_staged y s place e q =
      picked (λ (u : Push). Staged piece (length stage) u s) (passes (payload_checks (type_of h) y))
      (λ _. record { same_length = e; held = refl; lies = λ _. q })
      (λ _. record { same_length = e; held = refl; lies = λ c. cc })

  body_staged : Staged piece (length stage) (push_body h k (take k stage) rest from) (body_stage h k rest stage)
  unfolding push_body body_stage
  body_staged = go (dec_lt (k + m) (length_of h)) (ℕ_discrete k 0)
    where
      go : Dec (k + m < length_of h) → Dec (k ≡ 0) → Staged piece (length stage) (push_body h k (take k stage) rest from) (body_stage h k rest stage)
      go (yes l) (yes e) =
          simp (push_body, body_stage, lt-ltb (k + m) (length_of h) l, eq-eqb k 0 e, lt-leb (length_of h) m (omega arith))
          (record { same_length = put_length; held = put_front; lies = λ c. cc })
      go (yes l) (no e) =
          simp (push_body, body_stage, lt-ltb (k + m) (length_of h) l, ne_eqb k 0 e)
          (record { same_length = put_length; held = put_front; lies = λ c. cc })
      go (no l) (yes e) =
          let w : length_of h ≡ m = omega arith in
          simp (push_body, body_stage, le-ltb (k + m) (length_of h) (omega arith), eq-eqb k 0 e, le-leb (length_of h) m (omega arith))
          (finish_staged (take k stage ++ take m rest) stage (Piece from) refl (ap (λ (j : ℕ). take j rest) w ∙ ap (λ (j : ℕ). take j stage ++ take m rest) (sym e)))
      go (no l) (no e) =
          let w : length_of h ≡ k + m = omega arith in
          simp (push_body, body_stage, le-ltb (k + m) (length_of h) (omega arith), ne_eqb k 0 e)
          (finish_staged (take k stage ++ take m rest) put Stage put_length (ap (λ (j : ℕ). take j put) w ∙ put_front))

module _ (p : RecordParser) (piece stage : List ℕ) (r : Ready p (held_in p stage)) (room : 65536 ≤ length stage) where
  abbrev hl : ℕ
  hl = p.header_len

  abbrev k : ℕ
  k = p.payload_len

  abbrev H : List ℕ
  H = head_with p.header hl piece

  head_staged : Staged piece (length stage) (push_head p.header hl k (held_in p stage) piece) (head_stage p.header hl k piece stage)
  unfolding push_head head_stage
  head_staged =
      picked₂ (Staged piece (length stage)) (ltb (hl + head_taken hl piece) 44)
      (λ _. record { same_length = refl; held = refl; lies = λ c. cc })
      (λ _. picked₂ (Staged piece (length stage)) (passes (header_checks H))
      (λ ok. body_staged H k piece stage (head_taken hl piece) (fits p.header hl k (held_in p stage) piece r.size r.count (ready_part r)) (omega (arith, length_low H ok)))
      (λ _. record { same_length = refl; held = refl; lies = λ c. cc }))

  pub push_staged : Staged piece (length stage) (push p (length stage) (held_in p stage) piece) (push_stage p piece stage)
  unfolding push push_stage
  push_staged =
      subst (λ (t : Bool). Staged piece (length stage)
      (pick t (push_head p.header hl k (held_in p stage) piece) (record { answer = stopped p (first (push_rows p (length stage))); held = held_in p stage; payload = [] }))
      (pick t (head_stage p.header hl k piece stage) stage))
      (sym (push_passes p (length stage) (held_in p stage) piece r room))
      head_staged
