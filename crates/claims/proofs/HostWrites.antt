-- The calls of a host that write: they read the output's length and the position alone, and what stands between the position and the next
-- is the record written. Of attach's record all but the last 32 bytes is fixed. Assumes nothing.
use Prim.Native.Nat.{ℕ, ◌+◌, ◌-◌, ◌≤◌}
use mathlib.Core.Path.{◌≡◌, refl, ap, ◌∙◌}
use mathlib.Core.Bool.{true}
use mathlib.Core.List.{List, [], ◌++◌}
use native.Mathlib.Nat.{le_of_eq}
use native.Mathlib.Omega.{arith}
use lib.ListN.{length, take, drop, replicate, length-take, length-append, drop_of_length-le}
use lib.Seq.{take_at, drop_at}
use Rattle.wire.specs.Bytes.{to_le, overlay}
use Rattle.wire.specs.Refusals.{pick, none, passes}
use Rattle.wire.specs.Header.{header_bytes}
use Rattle.wire.specs.declared.Refusal.{Refusal}
use Rattle.wire.proofs.Rows.{picked}
use Rattle.wire.proofs.Headers.{header_length}
use Rattle.record.specs.Record.{record_bytes}
use Rattle.host.specs.Calls.{Outcome, writes}
use Rattle.host.specs.declared.HostSession.{HostSession}
use Rattle.claims.proofs.Outcomes.{picked₂}
use Rattle.claims.proofs.HostDoes.{Lands}

-- the bytes that stand there
abbrev pub between : ℕ → Outcome → List ℕ
between at x = take (x.sent.next - at) (drop at x.output)

pub written_is : (r : Refusal) (h a : HostSession) (n : ℕ) (bytes o : List ℕ) (at : ℕ) → (passes r ≡ true → at ≤ length o)
    → between at (writes r h a n bytes o at) ≡ pick (passes r) bytes []
unfolding writes overlay
written_is r h a n bytes o at f =
    picked₂ (λ (x : Outcome) (w : List ℕ). between at x ≡ w) (passes r)
    (λ e.
    let k : at + length bytes - at ≡ length bytes = omega arith in
    let w : length (take at o) ≡ at = let l = f e in simp length-take (omega arith) in
    ap (λ (j : ℕ). take j (drop at (overlay o at bytes))) k
    ∙ ap (take (length bytes)) (drop_at (take at o) (bytes ++ drop (at + length bytes) o) at w)
    ∙ take_at bytes (drop (at + length bytes) o) (length bytes) refl)
    (λ _. let k : 0 - at ≡ 0 = omega arith in ap (λ (j : ℕ). take j (drop at o)) k)

pub sent_same : (r : Refusal) (h a : HostSession) (n at : ℕ) (x y o q : List ℕ) → length x ≡ length y → (writes r h a n x o at).sent ≡ (writes r h a n y q at).sent
unfolding writes
sent_same r h a n at x y o q e =
    picked₂ (λ (u v : Outcome). u.sent ≡ v.sent) (passes r) (λ _ i. record { refusal = none; count = n; next = at + e i; session = a }) (λ _. refl)

pub writes_land : (r : Refusal) (h a : HostSession) (n : ℕ) (bytes o : List ℕ) (at : ℕ) (held stage : List ℕ) → Lands h held stage → (passes r ≡ true → Lands a held stage)
    → Lands (writes r h a n bytes o at).sent.session held stage
unfolding writes
writes_land r h a n bytes o at held stage l f = picked (λ (x : Outcome). Lands x.sent.session held stage) (passes r) f (λ _. l)

-- ---- attach's record: 76 bytes, of which 44 are fixed
abbrev pub attach_bytes : List ℕ → List ℕ
attach_bytes x = record_bytes 2 (replicate 16 0) 0 0 x

pub attach_size : (x : List ℕ) → length x ≡ 32 → length (attach_bytes x) ≡ 76
attach_size x l = simp length-append (omega (arith, header_length 2 (replicate 16 0) 0 0 (length x) refl))

pub attach_fixed : (x : List ℕ) → length x ≡ 32 → take 44 (attach_bytes x) ++ drop 76 (attach_bytes x) ≡ header_bytes 2 (replicate 16 0) 0 0 32
unfolding header_bytes to_le
attach_fixed x l = rw (drop_of_length-le x {i = 32} (le_of_eq l), l)
