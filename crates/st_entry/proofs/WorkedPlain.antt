-- Worked examples: which texts are plain.
use Rattle.std.proofs.Common.{◌≡◌, true, false, [], refl, codes}
use Rattle.st_entry.specs.Plain.{is_plain, is_plain_byte}

-- a quote and a backslash want an escape in JSON, and an element of a page can end with a less-than sign
quote : is_plain_byte 34 ≡ false
quote = refl

backslash : is_plain_byte 92 ≡ false
backslash = refl

less_than : is_plain_byte 60 ≡ false
less_than = refl

greater_than : is_plain_byte 62 ≡ true
greater_than = refl

letter : is_plain_byte 97 ≡ true
letter = refl

-- from the space to the tilde
below_space : is_plain_byte 31 ≡ false
below_space = refl

space : is_plain_byte 32 ≡ true
space = refl

tilde : is_plain_byte 126 ≡ true
tilde = refl

delete : is_plain_byte 127 ≡ false
delete = refl

-- each byte of a text counts
assignment : is_plain (codes "a1.firmware=2") ≡ true
assignment = refl

quoted : is_plain (codes "say \"a\"") ≡ false
quoted = refl

empty : is_plain [] ≡ true
empty = refl
