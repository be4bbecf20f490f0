-- M4: a DATA of any payload of a given length. A fresh parser that is given a header and more makes of it what the header's checks and the
-- payload step say (`header_first`); so only the payload's length has to be put in its place, and the rest computes. Assumes nothing.
use Prim.Native.Nat.{ℕ, ◌+◌}
use mathlib.Core.Path.{◌≡◌, refl, sym, ap, subst, ◌∙◌}
use mathlib.Core.List.{List, [], ◌++◌}
use native.Mathlib.Omega.{arith}
use lib.ListN.{length, take, drop, replicate, length-append}
use lib.Seq.{take_at, drop_at}
use lib.Dec.{ltb}
use Rattle.wire.specs.Bytes.{to_le, overlay}
use Rattle.wire.specs.Refusals.{pick, first, passes}
use Rattle.wire.specs.Header.{header_bytes}
use Rattle.wire.proofs.Overlays.{overlay_all}
use Rattle.record.specs.Record.{header_checks, record_bytes}
use Rattle.parser.specs.Push.{Push, failed, waiting, counts_ok, error_ok, sound_parser, push_body, head_taken, head_with, push_head, push}
use Rattle.claims.specs.Examples.{elevens, pushed}

-- ---- a header, and what follows it
-- what n bytes of a header do: h is the header with them, rest what follows
abbrev pub stepped : ℕ → List ℕ → List ℕ → Push
stepped n h rest =
    pick (ltb (0 + n) 44)
    (record { answer = waiting h (0 + n) 0 n; held = []; payload = [] })
    (pick (passes (header_checks h)) (push_body h 0 [] rest n) (record { answer = failed h (header_checks h); held = []; payload = [] }))

header_first : (h y : List ℕ) → length h ≡ 44 → pushed (h ++ y) ≡ stepped 44 h y
unfolding push push_head head_with sound_parser counts_ok error_ok first
header_first h y e =
    let n : head_taken 0 (h ++ y) ≡ 44 = omega (arith, length-append h y) in
    let t : head_with (replicate 44 0) 0 (h ++ y) ≡ h =
    ap (λ (k : ℕ). overlay (replicate 44 0) 0 (take k (h ++ y))) n ∙ ap (overlay (replicate 44 0) 0) (take_at h y 44 e) ∙ overlay_all (replicate 44 0) h e
    in
    let d : drop (head_taken 0 (h ++ y)) (h ++ y) ≡ y = ap (λ (k : ℕ). drop k (h ++ y)) n ∙ drop_at h y 44 e in
    λ j. stepped (n j) (t j) (d j)

-- the bytes of a DATA of n bytes
data_length_lem : (n : ℕ) → length (header_bytes 5 elevens 7 1 n) ≡ 44
unfolding header_bytes to_le
data_length_lem n = refl

pub data_read : {A : Type 0} (f : Push → A) (n : ℕ) (payload : List ℕ) → length payload ≡ n
    → f (pushed (record_bytes 5 elevens 7 1 payload)) ≡ f (stepped 44 (header_bytes 5 elevens 7 1 n) payload)
data_read f n payload e =
    subst (λ (k : ℕ). f (pushed (header_bytes 5 elevens 7 1 k ++ payload)) ≡ f (stepped 44 (header_bytes 5 elevens 7 1 n) payload)) (sym e)
    (ap f (header_first (header_bytes 5 elevens 7 1 n) payload (data_length_lem n)))
