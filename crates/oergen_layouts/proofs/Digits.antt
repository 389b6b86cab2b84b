-- What is read of a text that is digits.
use Rattle.std.proofs.Common.{◌≡◌, ℕ, ◌<◌, ◌≤◌, ◌^◌, Bool, true, false, List, length, rules, arith, Result, Ok, Err, Some, None}
use Rattle.std.proofs.lemmas.Grind.{common_steps}
use Rattle.std.proofs.lemmas.Int.{ints}
use Rattle.std.proofs.lemmas.Str.Parse.{IsNumeralModel, numerals_by_value, parse_digits}
use Rattle.std.specs.Result.{OkIff, result_ok}
use Rattle.std.specs.Str.{all_ascii_digits}
use Rattle.std.specs.Str.Parse.{ParsesUnsigned, digits_value}
use Rattle.oergen_layouts.specs.Numbers.{IsI128, are_digits, number_of_digits}

own : IsNumeralModel (λ ds. all_ascii_digits ds ≡ true) (digits_value 10)
own = numerals_by_value _ (search rules)

read_whole : {E : Type 0} (text : List ℕ) (r : Result ℕ E) → ParsesUnsigned 128 10 text r → are_digits text ≡ true → OkIff r ((0 < length text) × (digits_value 10 text < 2 ^ 128)) (digits_value 10 text)
read_whole text r h are = parse_digits own 128 text r h (grind (arith, common_steps))

past_all : (is_negative : Bool) (text : List ℕ) → 2 ^ 128 ≤ digits_value 10 text → ¬ IsI128 (number_of_digits is_negative text)
past_all true text far h = omega (arith, ints)
past_all false text far h = omega (arith, ints)

-- what isn't read is past all numbers of 128 bits
pub none_read : {E : Type 0} (is_negative : Bool) (text : List ℕ) (r : Result ℕ E) → ParsesUnsigned 128 10 text r → result_ok r ≡ None → are_digits text ≡ true → ¬ IsI128 (number_of_digits is_negative text)
none_read is_negative text (Ok x) h e are = absurd cc
none_read {E = E} is_negative text (Err x) h e are =
    let some : 0 < length text = grind (arith, common_steps) in
    let whole = read_whole {E = E} text (Err x) h are in
    past_all is_negative text (omega (arith, λ (far : digits_value 10 text < 2 ^ 128). whole (some, far)))

-- what is read is the number
pub one_read : {E : Type 0} (text : List ℕ) (r : Result ℕ E) (number : ℕ) → ParsesUnsigned 128 10 text r → result_ok r ≡ Some number → are_digits text ≡ true → number ≡ digits_value 10 text
one_read {E = E} text (Ok x) number h e are = let whole = read_whole {E = E} text (Ok x) h are in let same : x ≡ digits_value 10 text = whole.1 in cc
one_read text (Err x) number h e are = absurd cc
