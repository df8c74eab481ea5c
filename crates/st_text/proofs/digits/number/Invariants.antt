use Rattle.std.proofs.Common.{◌≡◌, ◌<◌, ◌^◌, drop}
use Rattle.std.specs.Str.{all_ascii_digits}
use Rattle.std.specs.Str.Parse.{digits_value_after}
use Rattle.st_text.proofs.digits.number.Given as goal

abbrev pub invariant-loop-digit : goal.invariant-loop-digit
invariant-loop-digit l = record {
  value : digits_value_after 10 l.value (drop l.digit-index l.token) ≡ digits_value_after 10 0 l.token;
  digits : all_ascii_digits (drop l.digit-index l.token) ≡ all_ascii_digits l.token;
  bound : l.value < 10 ^ l.digit-index;
}
