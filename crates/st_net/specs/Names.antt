-- Names, and where a name stands among others.
use Rattle.std.specs.Prelude.{ℕ, suc, List, [], ◌∷◌, Bool, true, false, ◌==◌, ◌&&◌, ◌||◌, nat_le, length, if◌then◌else◌, Option, Some, None, option_map, is_some, bytes_eq}

abbrev pub is_letter : ℕ → Bool
is_letter b = (nat_le 97 b && nat_le b 122) || (nat_le 65 b && nat_le b 90)

abbrev pub is_name_byte : ℕ → Bool
is_name_byte b = is_letter b || (nat_le 48 b && nat_le b 57) || b == 95 || b == 45

abbrev pub are_name_bytes : List ℕ → Bool
are_name_bytes [] = true
are_name_bytes (b ∷ bs) = is_name_byte b && are_name_bytes bs

abbrev pub begins_with_letter : List ℕ → Bool
begins_with_letter [] = false
begins_with_letter (b ∷ bs) = is_letter b

-- 1 to 32 bytes: first a letter, then letters, digits, `_` and `-`
abbrev pub is_name : List ℕ → Bool
is_name bytes = begins_with_letter bytes && nat_le (length bytes) 32 && are_name_bytes bytes

-- the place of the first name that is this one
abbrev pub place_of : List ℕ → List (List ℕ) → Option ℕ
place_of name [] = None
place_of name (n ∷ ns) = if bytes_eq name n then Some 0 else option_map suc (place_of name ns)

abbrev pub is_among : List ℕ → List (List ℕ) → Bool
is_among name names = is_some (place_of name names)
