-- Identities and the shared checks (01, "Shared checks").
use Rattle.std.specs.Prelude.{ℕ, ◌+◌, Bool, false, not, ◌&&◌, List, replicate, eqb, ltb, Option, Some, None, Result, Ok, Err}
use Rattle.std.specs.Cmp.Lexicographic.{pointwise}
use Rattle.wire.specs.Refusals.{pick, refusal, none, refusal_of}
use Rattle.wire.specs.declared.Refusal.{Refusal}
use Rattle.wire.specs.declared.Sequence.{Sequence}
use Rattle.wire.specs.declared.errors.Error.{Error}
use Rattle.record.specs.Record.{all_zero}
use Rattle.record.specs.declared.Record.{Record}
use Rattle.session.specs.declared.Identity.{Identity}

-- the same bytes
unfoldable pub same : List ℕ → List ℕ → Bool
same a b = pointwise eqb a b

abbrev pub identity : List ℕ → ℕ → Identity
identity instance epoch = record { instance_id = instance; epoch = record { 0 = epoch } }

-- no identity
abbrev pub no_identity : Identity
no_identity = identity (replicate 16 0) 0

-- an identity is an instance not all zero with an epoch not 0
unfoldable pub identity_ok : List ℕ → ℕ → Bool
identity_ok instance epoch = not (all_zero instance) && not (eqb epoch 0)

-- an identity that is one
unfoldable pub holds : Option Identity → Bool
holds None = false
holds (Some i) = identity_ok i.instance_id i.epoch.0

-- the identity that is held, or no identity
abbrev pub held : Option Identity → Identity
held None = no_identity
held (Some i) = i

-- the identity that a record carries
abbrev pub identity_of : Record → Identity
identity_of r = identity r.instance_id r.epoch.0

unfoldable pub record_identity : Record → Option Identity
record_identity r = pick (identity_ok r.instance_id r.epoch.0) (Some (identity_of r)) None

-- the last sequence, 2^64 − 1
abbrev pub last_sequence : ℕ
last_sequence = 18446744073709551615

-- 16 no next sequence (a type)
abbrev pub next_row : ℕ → ℕ → (Bool × Refusal)
next_row t sequence = (ltb sequence last_sequence, refusal 16 t 0 0)

-- what the next sequence's function answers: what is refused, and the sequence
pub record NextSequence : Type 0 where
  pub refusal : Refusal
  pub sequence : Sequence

abbrev pub following : Result Sequence Error → NextSequence
following (Ok s) = record { refusal = none; sequence = s }
following (Err e) = record { refusal = refusal_of e; sequence = record { 0 = 0 } }

unfoldable pub next_sequence : ℕ → ℕ → NextSequence
next_sequence sequence t =
    pick (ltb sequence last_sequence)
    (record { refusal = none; sequence = record { 0 = sequence + 1 } })
    (record { refusal = refusal 16 t 0 0; sequence = record { 0 = 0 } })

-- 15 sequence (a expected, b actual)
abbrev pub sequence_row : ℕ → ℕ → (Bool × Refusal)
sequence_row expected actual = (eqb actual expected, refusal 15 expected actual 0)

-- 12 instance (expected, actual)
abbrev pub other_instance : List ℕ → List ℕ → Refusal
other_instance expected actual = record { number = 12; a = 0; b = 0; c = 0; expected = expected; actual = actual }

abbrev pub instance_row : List ℕ → List ℕ → (Bool × Refusal)
instance_row expected actual = (same actual expected, other_instance expected actual)

-- 13 epoch (a expected, b actual)
abbrev pub epoch_row : ℕ → ℕ → (Bool × Refusal)
epoch_row expected actual = (eqb actual expected, refusal 13 expected actual 0)

-- 11 no identity (a type)
abbrev pub identity_row : ℕ → List ℕ → ℕ → (Bool × Refusal)
identity_row t instance epoch = (identity_ok instance epoch, refusal 11 t 0 0)
