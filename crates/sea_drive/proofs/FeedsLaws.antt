-- Words that are numbers.
use Rattle.std.proofs.Common.{◌≡◌, ℕ, ◌<◌, ◌≤◌, ◌^◌, List, length, true, Result, Ok, arith, rules}
use Rattle.std.specs.Char.{is_ascii_digit}
use Rattle.std.specs.List.{list_all}
use Rattle.std.specs.Str.Parse.{digits_value, ParsesUnsigned}
use Rattle.std.proofs.lemmas.Bool.Decides.{nat_tests}
use Rattle.std.proofs.lemmas.Str.Parse.{IsNumeralModel, numerals_by_value, parse_gives, digits_value_short}
use Rattle.sea_drive.specs.Feeds.{is_number}

-- the texts of digits
own : IsNumeralModel (λ ds. list_all is_ascii_digit ds ≡ true) (digits_value 10)
own = numerals_by_value _ (search rules)

-- what the tests of a number say
pub record IsNumber (word : List ℕ) : Type 0 where
  digits : list_all is_ascii_digit word ≡ true
  some : 0 < length word
  few : length word ≤ 18

pub number_tests : (word : List ℕ) → is_number word ≡ true → IsNumber word
number_tests word is = record { digits = grind (arith, nat_tests, is); some = grind (arith, nat_tests, is); few = grind (arith, nat_tests, is) }

pub number_small : (word : List ℕ) → is_number word ≡ true → digits_value 10 word < 2 ^ 63
number_small word is = let tests = number_tests word is in omega (arith, digits_value_short own word 18 tests.digits tests.few)

-- such a word is read as its number
pub number_read : {E : Type 0} (word : List ℕ) (result : Result ℕ E) → is_number word ≡ true → ParsesUnsigned 64 10 word result → result ≡ Ok (digits_value 10 word)
number_read word result is parses = let tests = number_tests word is in parse_gives own 64 word result parses tests.digits tests.some (omega (arith, number_small word is))
