-- What a session answers: when asked (01, "What stops each operation": 23, then the value), and by a call.
use Rattle.std.specs.Prelude.{Bool, Result, Ok, Err}
use Rattle.wire.specs.Refusals.{pick}
use Rattle.session.specs.declared.After.{After}
use Rattle.wire.specs.declared.errors.Error.{Error}
use Rattle.wire.specs.declared.errors.Error.TheVariants.{Unsound}

abbrev pub asked : {A : Type 0} → Bool → A → Result A Error
asked sound value = pick sound (Ok value) (Err Unsound)

-- What a call answers, with the session after it: a refused call leaves the session as it was.
abbrev pub after : {S T : Type 0} → S → Result (S × T) Error → After S T
after before (Ok (s, value)) = record { answer = Ok value; session = s }
after before (Err error) = record { answer = Err error; session = before }
