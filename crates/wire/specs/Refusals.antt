-- Refusals, and 01's "the first that applies".
use Rattle.std.specs.Prelude.{ℕ, Bool, true, false, List, [], ◌∷◌, replicate, eqb, Option, Some, None, Result, Ok, Err}
use Rattle.wire.specs.declared.errors.RecordError.{RecordError}
use Rattle.wire.specs.declared.errors.RecordError.TheVariants.{Magic, Version, «Type», Flags, Length, BootstrapIdentity, ErrorCode, ReceiveWindow, Credit}
use Rattle.wire.specs.declared.errors.Error.{Error}
use Rattle.wire.specs.declared.errors.Error.TheVariants.{«Record», Unexpected, MissingIdentity, Instance, Epoch, StaleEpoch, Sequence, SequenceOverflow, Window, Uncovered, Truncated, InvalidState, ShortStage, ShortOutput, Unsound, OuterPayload, OuterHeader, OuterLength, AckPayload, CreditPayload, PayloadLength}
use Rattle.wire.specs.declared.Refusal.{Refusal}

-- a choice by a test
abbrev pub pick {ℓ} : {A : Type ℓ} → Bool → A → A → A
pick true x y = x
pick false x y = y

-- number and figures; both fields of 16 bytes are zero
abbrev pub refusal : ℕ → ℕ → ℕ → ℕ → Refusal
refusal number a b c = record { number = number; a = a; b = b; c = c; expected = replicate 16 0; actual = replicate 16 0 }

-- number 0: nothing is refused
abbrev pub none : Refusal
none = refusal 0 0 0 0

-- 01's number and figures of each error of a record, 1 to 9
abbrev pub record_refusal : RecordError → Refusal
record_refusal (Magic magic) = refusal 1 magic 0 0
record_refusal (Version version) = refusal 2 version 0 0
record_refusal («Type» code) = refusal 3 code 0 0
record_refusal (Flags flags) = refusal 4 flags 0 0
record_refusal (Length code length) = refusal 5 code length 0
record_refusal (BootstrapIdentity code) = refusal 6 code 0 0
record_refusal (ErrorCode value) = refusal 7 value 0 0
record_refusal (ReceiveWindow window) = refusal 8 window 0 0
record_refusal (Credit bytes) = refusal 9 bytes 0 0

-- and of every error
abbrev pub refusal_of : Error → Refusal
refusal_of («Record» e) = record_refusal e
refusal_of (Unexpected code) = refusal 10 code 0 0
refusal_of (MissingIdentity code) = refusal 11 code 0 0
refusal_of (Instance expected actual) = record { number = 12; a = 0; b = 0; c = 0; expected = expected; actual = actual }
refusal_of (Epoch expected actual) = refusal 13 expected actual 0
refusal_of (StaleEpoch current actual) = refusal 14 current actual 0
refusal_of (Sequence expected actual) = refusal 15 expected actual 0
refusal_of (SequenceOverflow code) = refusal 16 code 0 0
refusal_of (Window window outstanding length) = refusal 17 window outstanding length
refusal_of (Uncovered outstanding bytes) = refusal 18 outstanding bytes 0
refusal_of (Truncated buffered) = refusal 19 buffered 0 0
refusal_of InvalidState = refusal 20 0 0 0
refusal_of ShortStage = refusal 21 0 0 0
refusal_of ShortOutput = refusal 22 0 0 0
refusal_of Unsound = refusal 23 0 0 0
refusal_of OuterPayload = refusal 24 0 0 0
refusal_of OuterHeader = refusal 25 0 0 0
refusal_of OuterLength = refusal 26 0 0 0
refusal_of AckPayload = refusal 27 0 0 0
refusal_of CreditPayload = refusal 28 0 0 0
refusal_of PayloadLength = refusal 29 0 0 0

-- the refusal of an error of a record that may be there
abbrev pub refused : Option RecordError → Refusal
refused None = none
refused (Some e) = record_refusal e

-- what a check says: `Ok`, nothing is refused; else the error's refusal
abbrev pub verdict : Result (Unit {0}) Error → Refusal
verdict (Ok _) = none
verdict (Err e) = refusal_of e

-- and a check of a record
abbrev pub checked : Result (Unit {0}) RecordError → Refusal
checked (Ok _) = none
checked (Err e) = record_refusal e

-- A row is a test that must hold and the refusal that is given where it does not.
-- Rows stand in 01's order; the first whose test fails stops the operation.
unfoldable pub first : List (Bool × Refusal) → Refusal
first [] = none
first (row ∷ rows) = pick row.0 (first rows) row.1

-- whether the rows let the operation pass
abbrev pub passes : Refusal → Bool
passes r = eqb r.number 0
