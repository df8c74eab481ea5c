-- Which bytes stand in a page's data.
use Rattle.std.specs.Prelude.{ℕ, Bool, ◌||◌, ◌==◌, List}
use Rattle.std.specs.List.{list_all}
use Rattle.st_entry.specs.Plain.{is_plain_byte}

-- a byte that can stand in an element of a page: a plain one, or a `"` or a `\`, which the texts of JSON have. So it is no `<`, with which the
-- element could end
abbrev pub is_shown_byte : ℕ → Bool
is_shown_byte b = is_plain_byte b || (b == 34 || b == 92)

abbrev pub is_shown : List ℕ → Bool
is_shown = list_all is_shown_byte
