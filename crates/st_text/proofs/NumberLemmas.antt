-- A number is read as it is printed, and only its printing is read as it.
use Rattle.std.proofs.Common.{◌≡◌, ℕ, ◌<◌, ◌≤◌, List, Bool, true, false, Some, None, length, get_or, decimal, cond, sym, ◌∙◌, ap, refl, arith, inl, inr}
use Rattle.std.proofs.lemmas.Bool.{cases_lt}
use Rattle.std.proofs.lemmas.Bool.Decides.{nat_tests}
use Rattle.std.proofs.lemmas.Str.Parse.{IsNumeralModel, numerals_by_value, tells_all_ascii_digits}
use Rattle.std.proofs.lemmas.Fmt.{digits_decimal, digits_value-decimal, length-decimal-le, decimal_digit, decimal_nonempty, first_decimal, decimal-digits_value}
use Rattle.std.specs.Str.{all_ascii_digits}
use Rattle.std.specs.Str.Parse.{digits_value}
use Rattle.st_text.specs.Numbers.{is_number}
use Rattle.st_text.specs.ReadingBack.{ReadsNumbersAgain, ReadsPrintedAlone}

-- std's words for digits and their value are a model of numerals
pub numerals : IsNumeralModel (λ ds. all_ascii_digits ds ≡ true) (digits_value 10)
numerals = numerals_by_value _ tells_all_ascii_digits

-- the facts of a number, one by one, as std's lemmas take them
pub record NumberFacts (token : List ℕ) : Type 0 where
  pub some : 0 < length token
  pub few : length token ≤ 10
  pub digits : all_ascii_digits token ≡ true
  pub plain : get_or token 0 0 ≡ 48 → length token ≡ 1
  pub small : digits_value 10 token ≤ 4294967295

pub facts_of : (token : List ℕ) → is_number token ≡ true → NumberFacts token
facts_of token e = record {
  some = grind (arith, nat_tests);
  few = grind (arith, nat_tests);
  digits = grind (arith, nat_tests);
  plain = grind (arith, nat_tests);
  small = grind (arith, nat_tests);
}

pub is_number_from : (token : List ℕ) → NumberFacts token → is_number token ≡ true
is_number_from token f = grind (arith, nat_tests, f.some, f.few, f.digits, f.plain, f.small)

some_value : (b : Bool) (m n : ℕ) → cond b (Some m) None ≡ Some n → (b ≡ true) × (m ≡ n)
some_value true m n e = (refl, cc)
some_value false m n e = absurd (cc)

pub printed_alone : ReadsPrintedAlone
printed_alone token n e =
    let parts : (is_number token ≡ true) × (digits_value 10 token ≡ n) = some_value (is_number token) (digits_value 10 token) n e in
    let f : NumberFacts token = facts_of token parts.0 in
    sym (decimal-digits_value numerals token f.digits f.some f.plain (omega (arith, f.small))) ∙ ap decimal parts.1

pub numbers_again : ReadsNumbersAgain
numbers_again n small =
    let value : digits_value 10 (decimal n) ≡ n = digits_value-decimal numerals n (omega arith) in
    let f : NumberFacts (decimal n) = record {
      some = decimal_nonempty n (omega arith);
      few = length-decimal-le 10 n (omega arith) (omega arith) (omega arith);
      digits = digits_decimal numerals n (omega arith);
      plain = elim (cases_lt 0 n) [
        | inl above ↦ λ zero. absurd (omega (arith, first_decimal n above (omega arith), zero))
        | inr none ↦ λ zero. ap length (decimal_digit n (omega arith))
      ];
      small = omega (arith, value);
    } in
    rw (is_number_from (decimal n) f, value) refl
