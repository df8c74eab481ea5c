-- The bytes that a line may hold.
use Rattle.std.specs.Prelude.{ℕ, List, Bool, ◌==◌, ◌&&◌, ◌||◌, nat_le}
use Rattle.std.specs.List.{list_all}

-- a byte of 32 to 126, or tab
abbrev pub is_allowed_byte : ℕ → Bool
is_allowed_byte b = (nat_le 32 b && nat_le b 126) || b == 9

-- each byte of the line is one that a line may hold
abbrev pub has_allowed_bytes : List ℕ → Bool
has_allowed_bytes line = list_all is_allowed_byte line
