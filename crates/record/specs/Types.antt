-- Record types and error codes by their numbers (01, "Record").
use Rattle.std.specs.Prelude.{ℕ, Bool, true, false, ◌&&◌, ◌||◌, eqb, leb, Option, Some, None}
use Rattle.wire.specs.Refusals.{pick}
use Rattle.outer.specs.Outer.{max_payload}
use Rattle.record.specs.declared.types.RecordType.{RecordType}
use Rattle.record.specs.declared.types.RecordType.TheVariants.{GuestAttach, HostAttach, Reset, Ack, Data, Wait, Ready, Error, Credit}
use Rattle.record.specs.declared.types.ErrorCode.{ErrorCode}
use Rattle.record.specs.declared.types.ErrorCode.TheVariants.{Authentication}

abbrev pub code_of : RecordType → ℕ
code_of GuestAttach = 1
code_of HostAttach = 2
code_of Reset = 3
code_of Ack = 4
code_of Data = 5
code_of Wait = 6
code_of Ready = 7
code_of Error = 8
code_of Credit = 9

unfoldable pub type_at : ℕ → Option RecordType
type_at n =
    pick (eqb n 1) (Some GuestAttach)
    (pick (eqb n 2) (Some HostAttach)
    (pick (eqb n 3) (Some Reset)
    (pick (eqb n 4) (Some Ack)
    (pick (eqb n 5) (Some Data)
    (pick (eqb n 6) (Some Wait)
    (pick (eqb n 7) (Some Ready)
    (pick (eqb n 8) (Some Error)
    (pick (eqb n 9) (Some Credit) None))))))))

-- whether a code stands for a type
abbrev pub known : Option RecordType → Bool
known (Some t) = true
known None = false

abbrev pub type_ok : ℕ → Bool
type_ok n = known (type_at n)

-- types 1 and 2 carry an all-zero instance, epoch 0 and sequence 0
abbrev pub bootstrap : ℕ → Bool
bootstrap t = eqb t 1 || eqb t 2

-- the payload lengths that a type has: 2: 32; 5: 1 to 65,536; 4, 8 and 9: 4; the others: 0
unfoldable pub length_ok : ℕ → ℕ → Bool
length_ok t n =
    pick (eqb t 2) (eqb n 32)
    (pick (eqb t 5) (leb 1 n && leb n max_payload)
    (pick (eqb t 4 || (eqb t 8 || eqb t 9)) (eqb n 4) (eqb n 0)))

-- the one error value
abbrev pub error_of : ErrorCode → ℕ
error_of Authentication = 1

unfoldable pub error_at : ℕ → Option ErrorCode
error_at v = pick (eqb v 1) (Some Authentication) None
