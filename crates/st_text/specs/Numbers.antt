-- What a number is.
use Rattle.std.specs.Prelude.{ℕ, List, ◌==◌, ◌&&◌, if◌then◌else◌, nat_le, nat_lt, length, slice_index, not, Bool, Option, Some, None}
use Rattle.std.specs.Str.{all_ascii_digits}
use Rattle.std.specs.Str.Parse.{digits_value}

-- a zero is the first of several bytes
abbrev pub has_leading_zero : List ℕ → Bool
has_leading_zero token = nat_lt 1 (length token) && slice_index token 0 == 48

-- 1 to 10 digits, no leading zero, and no more than the last number of 32 bits
abbrev pub is_number : List ℕ → Bool
is_number token = nat_le 1 (length token) && nat_le (length token) 10 && all_ascii_digits token
    && not (has_leading_zero token) && nat_le (digits_value 10 token) 4294967295

-- the number that the token spells, if it spells one
abbrev pub number_of : List ℕ → Option ℕ
number_of token = if is_number token then Some (digits_value 10 token) else None
