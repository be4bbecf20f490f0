-- What a push does with the counts of a sound parser: every byte taken is one more that it holds, or ends a record whose bytes are
-- all counted. Either no header byte is taken or no payload byte is held, so the sums agree. Assumes nothing.
use Prim.Native.Nat.{ℕ, ◌+◌, ◌-◌, ◌≤◌, ◌<◌}
use mathlib.Core.Path.{◌≡◌, refl, sym, ap, ◌∙◌}
use mathlib.Core.Bool.{Bool, true, false, not, ◌||◌}
use mathlib.Core.List.{List, [], ◌∷◌, ◌++◌}
use native.Mathlib.Omega.{arith}
use native.Mathlib.Decide.{dec_lt, ℕ_discrete}
use lib.ListN.{length, take, drop, length-drop}
use lib.Dec.{eqb, ltb, lit≤}
use borrow.Author.Tests.{ltb-true, ltb-false, eqb-true, le-leb, ne_eqb}
use Rattle.wire.specs.Bytes.{overlay}
use Rattle.wire.specs.Refusals.{pick, none, refused, first, passes}
use Rattle.wire.specs.Header.{type_of, length_of}
use Rattle.wire.specs.declared.Refusal.{Refusal}
use Rattle.wire.proofs.Rows.{passed, pass_all, picked, and_left, and_right}
use Rattle.outer.specs.Outer.{value_of, window_ok, credit_ok}
use Rattle.record.specs.Types.{code_of, length_ok}
use Rattle.record.specs.Record.{header_rows, header_checks, payload_rows, payload_checks, record_with, record_of}
use Rattle.parser.specs.Push.{Pushed, latched, latch, counts_ok, error_ok, sound_parser, Push, failed, finish, body_taken, push_body, head_taken, head_with, push_head, push_rows, push, buffered_of}
use Rattle.parser.specs.declared.RecordParser.{RecordParser}
use Rattle.parser.specs.declared.Place.{Place}
use Rattle.parser.specs.declared.Place.TheVariants.{Piece, Stage}
use Rattle.wire.proofs.PartLaws.{overlay_nothing}
use Rattle.parser.proofs.Cases.{type_code}
use Rattle.parser.proofs.Latches.{header_latches, payload_latches, payload_low}
use Rattle.listing.specs.Reach.{refused_bytes}
use Rattle.listing.proofs.Sums.{refused_header_lem, refused_all}

-- a push of a parser that holds b bytes, or read w of a refused record, lent a piece of n
pub record Came (b w n : ℕ) (a : Pushed) : Type 0 where
  pub within : a.consumed ≤ n
  pub sound : sound_parser a.parser ≡ true
  pub some : passes a.refusal ≡ true → 0 < n → 0 < a.consumed
  pub nothing : passes a.refusal ≡ true → a.refusal ≡ none
  pub whole : a.complete ≡ true → b + a.consumed ≡ 44 + a.«record».length
  pub clear : a.complete ≡ true → passes a.refusal ≡ true
  pub sized : a.complete ≡ true → length_ok (code_of a.«record».record_type) a.«record».length ≡ true
  pub empty : a.complete ≡ true → buffered_of a.parser + refused_bytes (latched a.parser).number ≡ 0
  pub kept : a.complete ≡ false → buffered_of a.parser ≤ b + a.consumed
  pub below : (l : ℕ) → a.complete ≡ false → b + w ≤ l → b + n ≤ l → buffered_of a.parser + refused_bytes (latched a.parser).number ≤ l

pub clash : {A : Type 0} → true ≡ false → A
clash e = let z : ◌≡◌ {A = ℕ} 0 1 = cc in absurd (omega arith)

-- ---- refusals of the checks are 1 to 6 for a header
abbrev Low : List (Bool × Refusal) → Type 0
Low [] = Unit {0}
Low (row ∷ rows) = (row.1.number ≤ 6) × Low rows

first_low : (rows : List (Bool × Refusal)) → Low rows → (first rows).number ≤ 6
unfolding first
first_low [] l = omega arith
first_low (row ∷ rows) l = picked (λ (r : Refusal). r.number ≤ 6) row.0 (λ _. first_low rows l.1) (λ _. l.0)

header_low : (h : List ℕ) → (header_checks h).number ≤ 6
unfolding header_checks
header_low h = first_low (header_rows h) (lit≤ tt, (lit≤ tt, (lit≤ tt, (lit≤ tt, (lit≤ tt, (lit≤ tt, tt))))))

-- ---- lengths
-- a header that passes has a length that its type has
length_ok_lem : (h : List ℕ) → passes (header_checks h) ≡ true → length_ok (type_of h) (length_of h) ≡ true
unfolding header_checks
length_ok_lem h e = (passed (header_rows h) (refl, (refl, (refl, (refl, (refl, (refl, tt)))))) e).1.1.1.1.0

-- only a payload of four bytes is refused
value_four : (t n : ℕ) (y : List ℕ) → length_ok t n ≡ true → passes (payload_checks t y) ≡ false → n ≡ 4
unfolding length_ok payload_checks first
value_four t n y l f = go (ℕ_discrete t 4) (ℕ_discrete t 9) (ℕ_discrete t 8)
  where
    four : (k : ℕ) → t ≡ k → length_ok k n ≡ eqb n 4 → n ≡ 4
    four k e q = eqb-true n 4 (sym q ∙ ap (λ (j : ℕ). length_ok j n) (sym e) ∙ l)

    go : Dec (t ≡ 4) → Dec (t ≡ 9) → Dec (t ≡ 8) → n ≡ 4
    go (yes e) b c = four 4 e refl
    go (no a) (yes e) c = four 9 e refl
    go (no a) (no b) (yes e) = four 8 e refl
    go (no a) (no b) (no c) =
        clash (sym (pass_all (payload_rows t y) (
          ap (λ (x : Bool). not x || window_ok (value_of y)) (ne_eqb t 4 a),
          (
            ap (λ (x : Bool). not x || credit_ok (value_of y)) (ne_eqb t 9 b),
            (ap (λ (x : Bool). not x || eqb (value_of y) 1) (ne_eqb t 8 c), tt),
          ),
        )) ∙ f)

-- ---- the ways of a push
failed_came : (b w n : ℕ) (h : List ℕ) (r : Refusal) → passes r ≡ false → r.number ≤ 9 → refused (latch r) ≡ r → refused_bytes r.number ≤ b + n → Came b w n (failed h r)
unfolding sound_parser counts_ok error_ok
failed_came b w n h r f l q g =
    let z : refused_bytes (refused (latch r)).number ≡ refused_bytes r.number = ap (λ (x : Refusal). refused_bytes x.number) q in
    record {
      within = omega arith;
      sound = simp (q, f, le-leb r.number 9 l);
      some = λ t _. clash (sym t ∙ f);
      nothing = λ t. clash (sym t ∙ f);
      whole = λ t. clash (sym t);
      clear = λ t. clash (sym t);
      sized = λ t. clash (sym t);
      empty = λ t. clash (sym t);
      kept = λ _. omega arith;
      below = λ k _ _ m. omega arith;
    }

module _ (b w : ℕ) (h piece : List ℕ) (k n : ℕ) (all : b + n ≡ 44 + k) (part : n ≤ length piece) (ok : passes (header_checks h) ≡ true) (low : k ≤ length_of h)
    (held : n ≡ 0 → k < length_of h) where
  abbrev rest : List ℕ
  rest = drop n piece

  abbrev m : ℕ
  m = body_taken h k rest

  rest_length : length rest ≡ length piece - n
  rest_length = length-drop n piece

  length_told : length_ok (code_of (record_of h).record_type) (length_of h) ≡ true
  length_told = ap (λ (t : ℕ). length_ok t (length_of h)) (type_code h ok) ∙ length_ok_lem h ok

  finish_came : (y : List ℕ) (place : Place) → length_of h ≤ k + m → Came b w (length piece) (finish h y (n + m) place).answer
  unfolding finish record_with sound_parser counts_ok error_ok refused_bytes
  finish_came y place l =
      let e = rest_length in
      picked (λ (u : Push). Came b w (length piece) u.answer) (passes (payload_checks (type_of h) y))
      (λ v.
      record {
        within = omega arith;
        sound = refl;
        some = λ _ _. go (dec_lt 0 n);
        nothing = λ _. refl;
        whole = λ _. omega arith;
        clear = λ _. refl;
        sized = λ _. length_told;
        empty = λ _. refl;
        kept = λ t. clash t;
        below = λ _ t. clash t;
      })
      (λ v.
      let four : length_of h ≡ 4 = value_four (type_of h) (length_of h) y (length_ok_lem h ok) v in
      failed_came b w (length piece) h (payload_checks (type_of h) y) v (payload_low (type_of h) y) (payload_latches (type_of h) y) (omega (arith, refused_all (payload_checks (type_of h) y).number)))
    where
      go : Dec (0 < n) → 0 < n + m
      go (yes z) = omega arith
      go (no z) = let g : k < length_of h = held (omega arith) in omega arith

  body_came : (y : List ℕ) → Came b w (length piece) (push_body h k y rest n).answer
  unfolding push_body sound_parser counts_ok error_ok refused_bytes
  body_came y =
      let e = rest_length in
      picked (λ (u : Push). Came b w (length piece) u.answer) (ltb (k + m) (length_of h))
      (λ t.
      let l : k + m < length_of h = ltb-true (k + m) (length_of h) t in
      record {
        within = omega arith;
        sound = simp (ok, t);
        some = λ _ z. omega arith;
        nothing = λ _. refl;
        whole = λ t. clash (sym t);
        clear = λ t. clash (sym t);
        sized = λ t. clash (sym t);
        empty = λ t. clash (sym t);
        kept = λ _. omega arith;
        below = λ _ _ _ z. omega arith;
      })
      (λ t. finish_came (y ++ take m rest) (pick (eqb k 0) (Piece n) Stage) (ltb-false (k + m) (length_of h) t))

module _ (w : ℕ) (head : List ℕ) (hl k : ℕ) (held piece : List ℕ) where
  abbrev n' : ℕ
  n' = head_taken hl piece

  abbrev H : List ℕ
  H = head_with head hl piece

  whole_came : hl + n' ≡ 44 → hl + k + n' ≡ 44 + k → k ≤ length_of H → (n' ≡ 0 → k < length_of H)
      → Came (hl + k) w (length piece)
      (pick (passes (header_checks H)) (push_body H k held (drop n' piece) n') (record { answer = failed H (header_checks H); held = []; payload = [] })).answer
  whole_came q s l g =
      picked (λ (u : Push). Came (hl + k) w (length piece) u.answer) (passes (header_checks H))
      (λ ok. body_came (hl + k) w H piece k n' s (omega arith) ok l g held)
      (λ f. failed_came (hl + k) w (length piece) H (header_checks H) f (omega (arith, header_low H)) (header_latches H) (omega (arith, refused_header_lem (header_checks H).number (header_low H))))

  -- the header is not whole
  in_head_lem : hl < 44 → k ≡ 0 → Came (hl + k) w (length piece) (push_head head hl k held piece).answer
  unfolding push_head counts_ok sound_parser error_ok refused_bytes
  in_head_lem l z =
      picked (λ (u : Push). Came (hl + k) w (length piece) u.answer) (ltb (hl + n') 44)
      (λ t.
      let f : hl + n' < 44 = ltb-true (hl + n') 44 t in
      record {
        within = omega arith;
        sound = simp (ne_eqb (hl + n') 44 (λ e. omega arith), t);
        some = λ _ g. omega arith;
        nothing = λ _. refl;
        whole = λ t. clash (sym t);
        clear = λ t. clash (sym t);
        sized = λ t. clash (sym t);
        empty = λ t. clash (sym t);
        kept = λ _. omega arith;
        below = λ _ _ _ z. omega arith;
      })
      (λ t. let f : 44 ≤ hl + n' = ltb-false (hl + n') 44 t in whole_came (omega arith) (omega arith) (omega arith) (λ e. absurd (omega arith)))

  -- a header is held, and a push leaves it
  in_body : hl ≡ 44 → k < length_of head → Came (hl + k) w (length piece) (push_head head hl k held piece).answer
  unfolding push_head head_with
  in_body e l =
      let z : n' ≡ 0 = omega arith in
      let same : H ≡ head = ap (λ (j : ℕ). overlay head hl (take j piece)) z ∙ overlay_nothing head hl in
      let f : k < length_of H = rw same l in
      picked (λ (u : Push). Came (hl + k) w (length piece) u.answer) (ltb (hl + n') 44)
      (λ t. let g : hl + n' < 44 = ltb-true (hl + n') 44 t in absurd (omega arith))
      (λ t. whole_came (omega arith) (omega arith) (omega arith) (λ _. f))

  head_came : counts_ok head hl k ≡ true → Came (hl + k) w (length piece) (push_head head hl k held piece).answer
  unfolding counts_ok
  head_came =
      picked (λ (t : Bool). t ≡ true → Came (hl + k) w (length piece) (push_head head hl k held piece).answer) (eqb hl 44)
      (λ q e. in_body (eqb-true hl 44 q) (ltb-true k (length_of head) (and_right (passes (header_checks head)) (ltb k (length_of head)) e)))
      (λ q e. in_head_lem (ltb-true hl 44 (and_left (ltb hl 44) (eqb k 0) e)) (eqb-true k 0 (and_right (ltb hl 44) (eqb k 0) e)))

pub came : (p : RecordParser) (size : ℕ) (held piece : List ℕ) → sound_parser p ≡ true → Came (buffered_of p) (refused_bytes (latched p).number) (length piece) (push p size held piece).answer
unfolding push sound_parser
came p size held piece s =
    picked (λ (u : Push). Came (buffered_of p) (refused_bytes (latched p).number) (length piece) u.answer) (passes (first (push_rows p size)))
    (λ _. head_came (refused_bytes (latched p).number) p.header p.header_len p.payload_len held piece
    (and_left (counts_ok p.header p.header_len p.payload_len) (error_ok (latched p).number p.header_len) s))
    (λ f.
    record {
      within = omega arith;
      sound = s;
      some = λ t _. clash (sym t ∙ f);
      nothing = λ t. clash (sym t ∙ f);
      whole = λ t. clash (sym t);
      clear = λ t. clash (sym t);
      sized = λ t. clash (sym t);
      empty = λ t. clash (sym t);
      kept = λ _. omega arith;
      below = λ _ _ z _. z;
    })
