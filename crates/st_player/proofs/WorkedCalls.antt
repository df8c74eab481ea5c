-- Worked examples: what words ask for, what a call says at its end, and which bytes a page's data can have.
use Rattle.std.proofs.Common.{◌≡◌, true, false, [], ◌∷◌, Some, None, refl, codes}
use Rattle.st_io.specs.declared.writing.Written.TheVariants as ways
use Rattle.st_replay.specs.declared.status.Status.TheVariants as ends
use Rattle.st_replay.specs.Statuses.{told}
use Rattle.st_player.specs.Calls.{from_of}
use Rattle.st_player.specs.Shown.{is_shown, is_shown_byte}

-- no words are from the start
no_words : from_of [] ≡ Some 0
no_words = refl

from_twelve : from_of (codes "--from" ∷ codes "12" ∷ []) ≡ Some 12
from_twelve = refl

from_none : from_of (codes "--from" ∷ codes "0" ∷ []) ≡ Some 0
from_none = refl

from_most : from_of (codes "--from" ∷ codes "4294967295" ∷ []) ≡ Some 4294967295
from_most = refl

-- in one word or in two
joined_words : from_of (codes "--from=12" ∷ []) ≡ Some 12
joined_words = refl

-- a number is wanted behind the word, of 32 bits, and as a document has it
from_alone : from_of (codes "--from" ∷ []) ≡ None
from_alone = refl

from_too_much : from_of (codes "--from" ∷ codes "4294967296" ∷ []) ≡ None
from_too_much = refl

from_no_digits : from_of (codes "--from" ∷ codes "" ∷ []) ≡ None
from_no_digits = refl

from_a_word : from_of (codes "--from" ∷ codes "one" ∷ []) ≡ None
from_a_word = refl

from_below : from_of (codes "--from" ∷ codes "-1" ∷ []) ≡ None
from_below = refl

from_a_leading_zero : from_of (codes "--from" ∷ codes "01" ∷ []) ≡ None
from_a_leading_zero = refl

joined_alone : from_of (codes "--from=" ∷ []) ≡ None
joined_alone = refl

joined_a_leading_zero : from_of (codes "--from=01" ∷ []) ≡ None
joined_a_leading_zero = refl

joined_and_more : from_of (codes "--from=1" ∷ codes "2" ∷ []) ≡ None
joined_and_more = refl

joined_twice : from_of (codes "--from==1" ∷ []) ≡ None
joined_twice = refl

-- no other words are the player's
other_word : from_of (codes "--to" ∷ codes "1" ∷ []) ≡ None
other_word = refl

joined_other : from_of (codes "--to=1" ∷ []) ≡ None
joined_other = refl

number_alone : from_of (codes "1" ∷ []) ≡ None
number_alone = refl

more_words : from_of (codes "--from" ∷ codes "1" ∷ codes "2" ∷ []) ≡ None
more_words = refl

other_way_round : from_of (codes "1" ∷ codes "--from" ∷ []) ≡ None
other_way_round = refl

-- what could not be written is told before all else
all_written : told ways.All ends.Usage ≡ ends.Usage
all_written = refl

not_written : told ways.Failed ends.Usage ≡ ends.WriteFault
not_written = refl

no_memory : told ways.OutOfMemory ends.Ok ≡ ends.OutOfMemory
no_memory = refl

-- bytes from the space to the tilde are shown
below_space : is_shown_byte 31 ≡ false
below_space = refl

space : is_shown_byte 32 ≡ true
space = refl

tilde : is_shown_byte 126 ≡ true
tilde = refl

delete : is_shown_byte 127 ≡ false
delete = refl

beyond : is_shown_byte 195 ≡ false
beyond = refl

-- but for the one by which an element could end
less_than : is_shown_byte 60 ≡ false
less_than = refl

before_less_than : is_shown_byte 59 ≡ true
before_less_than = refl

greater_than : is_shown_byte 62 ≡ true
greater_than = refl

-- a quote and a backslash are shown, though they are not plain
quote_shown : is_shown_byte 34 ≡ true
quote_shown = refl

backslash_shown : is_shown_byte 92 ≡ true
backslash_shown = refl

-- each byte of a text counts
text_shown : is_shown (codes "report a : reported 1") ≡ true
text_shown = refl

text_not_shown : is_shown (codes "ends </script>") ≡ false
text_not_shown = refl
