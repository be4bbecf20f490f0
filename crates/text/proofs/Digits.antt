-- The library's digits are those of the definition: both take the last digit off and go on with a tenth, and stop where one digit is
-- left. A number below 2^64 has at most 20. Assumes nothing.
use Rattle.std.proofs.Common.{◌≡◌, ℕ, zero, suc, ◌+◌, ◌/◌, ◌%◌, ◌≤◌, ◌<◌, Bool, true, false, [], ◌∷◌, ◌++◌, length, refl, sym, arith, length-append}
use Rattle.std.proofs.lemmas.Fmt.{AppendsLastDigit, decimal_from_appends, length-decimal-le}
use Rattle.std.specs.Fmt.{decimal as printed}
use lib.Dec.{ltb}
use borrow.Author.Tests.{lt-ltb, le-ltb}
use Rattle.wire.specs.Refusals.{pick}
use Rattle.text.specs.Decimal.{decimal_in, decimal, number}

last_digits : AppendsLastDigit decimal_in
unfolding decimal_in
last_digits = record {
  one = λ k n l. rw (lt-ltb n 10 l) refl;
  more = λ k n l. rw (le-ltb n 10 l) refl;
}

-- a number below 2^64 has at most 20 digits
pub digits_few : (n : ℕ) → n < 18446744073709551616 → length (printed n) ≤ 20
digits_few n h = length-decimal-le 20 n (omega arith) (omega arith) h

pub decimal_printed : (n : ℕ) → n < 18446744073709551616 → printed n ≡ decimal n
unfolding decimal
decimal_printed n h = sym (decimal_from_appends decimal_in last_digits 20 n h (digits_few n h))

decimal_length : (f n : ℕ) → length (decimal_in f n) ≤ f
unfolding decimal_in
decimal_length zero n = omega arith
decimal_length (suc f) n = go (ltb n 10) (decimal_length f (n / 10))
  where
    go : (t : Bool) → length (decimal_in f (n / 10)) ≤ f → length (pick t ((48 + n) ∷ []) (decimal_in f (n / 10) ++ ((48 + n % 10) ∷ []))) ≤ suc f
    go true h = omega arith
    go false h = simp length-append (omega arith)

pub number_length : (n end : ℕ) → length (number n end) ≤ 21
unfolding number decimal
number_length n end = simp length-append (omega (arith, decimal_length 20 n))
