-- Texts that stand as they are, in a text of JSON and in a page.
use Rattle.std.specs.Prelude.{ℕ, Bool, not, ◌&&◌, ◌==◌, nat_le, List}
use Rattle.std.specs.List.{list_all}
use Rattle.st_entry.specs.Words.{Words}

-- a byte that stands as it is in a text of JSON, and in a page: a space or what ASCII prints, but no `"`, no `\` and no `<`
abbrev pub is_plain_byte : ℕ → Bool
is_plain_byte b = nat_le 32 b && (nat_le b 126 && (not (b == 34) && (not (b == 92) && not (b == 60))))

abbrev pub is_plain : List ℕ → Bool
is_plain = list_all is_plain_byte

-- each word is plain
abbrev pub are_plain : Words → Bool
are_plain = list_all is_plain
