-- What a push does is what a scan of the bytes held and the piece says: it waits, completes the record or fails. Either the header
-- is incomplete and no payload byte is held, or no header byte is taken; so the bytes stay in order (`ordered`). Assumes nothing.
use Prim.Native.Nat.{ℕ, ◌+◌, ◌-◌, ◌≤◌, ◌<◌}
use mathlib.Core.Path.{◌≡◌, refl, sym, ap, subst, ◌∙◌}
use mathlib.Core.Bool.{Bool, true}
use mathlib.Core.List.{List, [], ◌++◌, append_assoc, append-nil}
use native.Mathlib.Omega.{arith}
use native.Mathlib.Decide.{dec_lt}
use lib.ListN.{length, take, drop, length-append, length-take, length-drop, take-append-drop}
use lib.Seq.{take_all, take-add, take-append-add}
use lib.Dec.{eqb}
use borrow.Author.Tests.{lt-ltb, le-ltb, le-leb}
use Rattle.std.proofs.lemmas.List.{nil_from_length}
use Rattle.wire.specs.Bytes.{overlay}
use Rattle.wire.specs.Refusals.{pick, first, passes}
use Rattle.wire.specs.Header.{type_of, length_of}
use Rattle.wire.proofs.Rows.{pass_all}
use Rattle.wire.proofs.Overlays.{length_overlay, take_overlay}
use Rattle.record.specs.Record.{header_checks, payload_checks}
use Rattle.parser.specs.Push.{stopped, waiting, failed, finish, body_taken, push_body, head_taken, head_with, push_head, push_rows, push}
use Rattle.parser.specs.declared.RecordParser.{RecordParser}
use Rattle.parser.specs.declared.Place.{Place}
use Rattle.parser.specs.declared.Place.TheVariants.{Piece, Stage}
use Rattle.claims.specs.Reading.{held_bytes, Ready}
use Rattle.claims.proofs.Scans.{scan, scan_value, scan_body, scan_header, scan_short, scan_cut}
use Rattle.parser.proofs.Latches.{header_low, header_latches, payload_low, payload_latches}
use Rattle.claims.proofs.Outcomes.{picked₂, Part, in_head, in_body, part_low, ready_part, part_ready, Pending, Matches}

regroup : (a b t d h : List ℕ) → b ++ t ≡ t ++ b → h ≡ a ++ t → (a ++ b) ++ (t ++ d) ≡ h ++ (b ++ d)
regroup a b t d h q e =
    rw e (simp append_assoc (ap (λ (r : List ℕ). a ++ r) (sym (append_assoc b t d) ∙ ap (λ (r : List ℕ). r ++ d) q ∙ append_assoc t b d)))

module _ (head : List ℕ) (hl k : ℕ) (held piece : List ℕ) (size : length head ≡ 44) (count : length held ≡ k) (part : Part head hl k) where
  abbrev pub n : ℕ
  n = head_taken hl piece

  abbrev pub H : List ℕ
  H = head_with head hl piece

  abbrev pub b : List ℕ
  b = take hl head ++ held

  abbrev pub rest : List ℕ
  rest = drop n piece

  abbrev pub m : ℕ
  m = body_taken H k rest

  low : hl ≤ 44
  low = part_low part

  n_length : length (take n piece) ≡ n
  n_length = simp length-take (omega arith)

  pub H-size : length H ≡ 44
  unfolding head_with
  H-size = let l = low in length_overlay head hl (take n piece) (omega (arith, n_length)) ∙ size

  H-front : take (hl + n) H ≡ take hl head ++ take n piece
  unfolding head_with
  H-front =
      let l = low in
      ap (λ (j : ℕ). take (hl + j) (overlay head hl (take n piece))) (sym n_length) ∙ take_overlay head hl (take n piece) (omega (arith, n_length))

  none_taken : hl ≡ 44 → n ≡ 0
  none_taken e = omega arith

  -- while a header is held a push leaves it
  same : hl ≡ 44 → H ≡ head
  same e =
      sym (take_all (hl + n) H (omega (arith, H-size)))
      ∙ H-front
      ∙ rw (none_taken e) (append-nil (take hl head) ∙ take_all hl head (omega arith))

  swap : held ++ take n piece ≡ take n piece ++ held
  swap = go part
    where
      go : Part head hl k → held ++ take n piece ≡ take n piece ++ held
      go (in_head x y) = rw (nil_from_length held (count ∙ y)) (sym (append-nil (take n piece)))
      go (in_body x c y) = rw (none_taken x) (append-nil held)

  pub fits : k ≤ length_of H
  fits = go part
    where
      go : Part head hl k → k ≤ length_of H
      go (in_head x y) = omega arith
      go (in_body x c y) = rw (same x) (omega arith)

  -- ---- the header is whole
  module _ (done : 44 ≤ hl + n) where
    H-joined : H ≡ take hl head ++ take n piece
    H-joined = sym (take_all (hl + n) H (omega (arith, H-size))) ∙ H-front

    ordered : (d : List ℕ) → b ++ (take n piece ++ d) ≡ H ++ (held ++ d)
    ordered d = regroup (take hl head) held (take n piece) d H swap H-joined

    all_bytes : b ++ piece ≡ H ++ (held ++ rest)
    all_bytes = ap (λ (x : List ℕ). b ++ x) (sym (take-append-drop n piece)) ∙ ordered rest

    taken_bytes : b ++ take (n + m) piece ≡ H ++ (held ++ take m rest)
    taken_bytes = ap (λ (x : List ℕ). b ++ x) (take-add n m piece) ∙ ordered (take m rest)

    some_taken : length_of H ≤ k + m → 1 ≤ n + m
    some_taken e = go part
      where
        go : Part head hl k → 1 ≤ n + m
        go (in_head x y) = omega arith
        go (in_body x c y) = let f : k < length_of H = rw (same x) y in omega arith

    piece_within : n + m ≤ length piece
    piece_within = let l : length rest ≡ length piece - n = length-drop n piece in omega arith

    abbrev z : List ℕ
    z = held ++ rest

    z_length : length z ≡ k + length rest
    z_length = length-append held rest ∙ ap (λ (j : ℕ). j + length rest) count

    -- more payload bytes are needed
    body_more : passes (header_checks H) ≡ true → length z < length_of H → Pending b piece H (record { answer = waiting H 44 (k + m) (n + m); held = held ++ take m rest; payload = [] })
    body_more ok l =
        let l1 : length rest ≡ length piece - n = length-drop n piece in
        let e : m ≡ length rest = let f = fits in let q = z_length in omega arith in
        let w : take m rest ≡ rest = take_all m rest (omega arith) in
        let c : length (held ++ take m rest) ≡ k + m = simp (w, length-append) (omega arith) in
        record {
          refusal = refl;
          complete = refl;
          taken = omega arith;
          header = refl;
          ready = part_ready (held ++ take m rest) (in_body refl ok (let q = z_length in omega arith)) H-size c;
          joins = ap (λ (x : List ℕ). x ++ (held ++ take m rest)) (take_all 44 H (omega (arith, H-size))) ∙ ap (λ (x : List ℕ). H ++ (held ++ x)) w ∙ sym all_bytes;
        }

    -- the payload is whole
    body_full : (place : Place) → passes (header_checks H) ≡ true → length_of H ≤ length z
        → Matches b piece H (finish H (held ++ take m rest) (n + m) place) (scan_value H (held ++ take m rest))
    unfolding finish scan_value
    body_full place ok l =
        let f = fits in
        let q = z_length in
        let e : k + m ≡ length_of H = omega arith in
        let c : length (held ++ take m rest) ≡ k + m = simp (length-append, length-take) (omega arith) in
        picked₂ (Matches b piece H) (passes (payload_checks (type_of H) (held ++ take m rest)))
        (λ v.
        record {
          refusal = refl;
          complete = refl;
          fields = refl;
          payload = refl;
          parser = refl;
          held = refl;
          header = refl;
          size = H-size;
          checked = ok;
          valued = v;
          full = c ∙ e;
          joins = taken_bytes;
          some = some_taken (omega arith);
          within = piece_within;
        })
        (λ v. record { refusal = refl; complete = refl; numbered = v; low = payload_low (type_of H) (held ++ take m rest); taken = refl; parser = refl; latches = payload_latches (type_of H) (held ++ take m rest); held = refl })

    body_matches : passes (header_checks H) ≡ true → Matches b piece H (push_body H k held rest n) (scan_body H z)
    unfolding push_body scan_body
    body_matches ok = go (dec_lt (length z) (length_of H))
      where
        go : Dec (length z < length_of H) → Matches b piece H (push_body H k held rest n) (scan_body H z)
        go (yes l) =
            let q = z_length in
            let f = fits in
            simp (push_body, scan_body, lt-ltb (length z) (length_of H) l, lt-ltb (k + m) (length_of H) (omega arith)) (body_more ok l)
        go (no l) =
            let q = z_length in
            let f = fits in
            let e : k + m ≡ length_of H = omega arith in
            let w : take (length_of H) z ≡ held ++ take m rest =
            ap (λ (j : ℕ). take j z) (sym e ∙ ap (λ (j : ℕ). j + m) (sym count)) ∙ take-append-add held rest m
            in
            simp (push_body, scan_body, le-ltb (length z) (length_of H) (omega arith), le-ltb (k + m) (length_of H) (omega arith), w)
            (body_full (pick (eqb k 0) (Piece n) Stage) ok (omega arith))

    whole_matches : Matches b piece H
        (pick (passes (header_checks H)) (push_body H k held rest n) (record { answer = failed H (header_checks H); held = []; payload = [] }))
        (scan_header H z)
    unfolding scan_header
    whole_matches =
        picked₂ (Matches b piece H) (passes (header_checks H)) body_matches (λ v. record { refusal = refl; complete = refl; numbered = v; low = header_low H; taken = refl; parser = refl; latches = header_latches H; held = refl })

  -- ---- more header bytes are needed
  headed : hl + n < 44 → Pending b piece H (record { answer = waiting H (hl + n) 0 n; held = []; payload = [] })
  headed l = go part
    where
      go : Part head hl k → Pending b piece H (record { answer = waiting H (hl + n) 0 n; held = []; payload = [] })
      go (in_body x c y) = absurd (omega arith)
      go (in_head x y) =
          let e : n ≡ length piece = omega arith in
          record {
            refusal = refl;
            complete = refl;
            taken = e;
            header = refl;
            ready = part_ready [] (in_head l refl) H-size refl;
            joins = append-nil (take (hl + n) H) ∙ H-front ∙ ap (λ (x : List ℕ). take hl head ++ x) (take_all n piece (omega arith))
                ∙ rw (nil_from_length held (count ∙ y)) (ap (λ (x : List ℕ). x ++ piece) (sym (append-nil (take hl head))));
          }

  head_matches : Matches b piece H (push_head head hl k held piece) (scan (b ++ piece))
  unfolding push_head
  head_matches = go (dec_lt (hl + n) 44)
    where
      go : Dec (hl + n < 44) → Matches b piece H (push_head head hl k held piece) (scan (b ++ piece))
      go (yes l) =
          subst (Matches b piece H (push_head head hl k held piece)) (sym (scan_short (b ++ piece) (few l part)))
          (simp (push_head, lt-ltb (hl + n) 44 l) (headed l))
        where
          few : hl + n < 44 → Part head hl k → length (b ++ piece) < 44
          few l (in_head x y) = simp (length-append, length-take) (omega arith)
          few l (in_body x c y) = absurd (omega arith)
      go (no l) =
          let d : 44 ≤ hl + n = omega arith in
          subst (Matches b piece H (push_head head hl k held piece)) (sym (ap scan (all_bytes d) ∙ scan_cut H (z d) H-size))
          (simp (push_head, le-ltb (hl + n) 44 d) (whole_matches d))

-- every push of a parser that can go on, with a stage that is long enough
module _ (p : RecordParser) (size : ℕ) (held piece : List ℕ) (r : Ready p held) (room : 65536 ≤ size) where
  pub push_passes : passes (first (push_rows p size)) ≡ true
  push_passes = pass_all (push_rows p size) (r.sound, (le-leb 65536 size room, (r.clear, tt)))

  pub push_matches : Matches (held_bytes p held) piece (head_with p.header p.header_len piece) (push p size held piece) (scan (held_bytes p held ++ piece))
  unfolding push
  push_matches =
      subst (λ (t : Bool). Matches (held_bytes p held) piece (head_with p.header p.header_len piece)
      (pick t (push_head p.header p.header_len p.payload_len held piece) (record { answer = stopped p (first (push_rows p size)); held = held; payload = [] }))
      (scan (held_bytes p held ++ piece)))
      (sym push_passes)
      (head_matches p.header p.header_len p.payload_len held piece r.size r.count (ready_part r))
