-- The grammar of the words after the program's name: each option with its value, and further words, in any order.
use Rattle.std.specs.Prelude.{◌==◌, ◌&&◌, ℕ, Bool, false, List, [], ◌∷◌, Option, Some, None, codes, map, take, drop, if◌then◌else◌, option_map}
use Rattle.std.specs.List.{list_any, filter_map, before_first, after_first}
use Rattle.std.specs.Str.{bytes_eq}

-- the bytes of a word, or of a part of one
abbrev pub Text : Type 0
Text = List ℕ

-- an option by its name (without dashes) and with its value, or a further word
pub data Part : Type 0 where
  option : Text → Text → Part
  further : Text → Part

abbrev pub option_names : List Text
option_names = codes "form" ∷ codes "pods" ∷ codes "seed" ∷ codes "to" ∷ []

abbrev pub is_among : Text → List Text → Bool
is_among name names = list_any (λ n. bytes_eq n name) names

abbrev pub begins_with_dash : Text → Bool
begins_with_dash [] = false
begins_with_dash (b ∷ rest) = b == 45

-- what stands between the two dashes and the first `=`
abbrev pub name_in : Text → Text
name_in word = before_first (λ b. b == 61) (drop 2 word)

-- what stands after the first `=`, if there is one
abbrev pub value_in : Text → Option Text
value_in word = if list_any (λ b. b == 61) (drop 2 word) then Some (after_first (λ b. b == 61) (drop 2 word)) else None

-- `--name` or `--name=value` of one of these options
abbrev pub is_option : List Text → Text → Bool
is_option names word = bytes_eq (take 2 word) (codes "--") && is_among (name_in word) names

-- this part, and then the others
abbrev pub and_then : Part → Option (List Part) → Option (List Part)
and_then part parts = option_map (λ ps. part ∷ ps) parts

-- this option with the value that it has, or else with the next word
abbrev pub valued : Text → Option Text → Option (List Part) → Option (List Part) → Option (List Part)
valued name None with_next rest = with_next
valued name (Some value) with_next rest = and_then (option name value) rest

-- the parts that the words spell, in order; None where some word is in no part. An option may wait for the next word as its
-- value, which does not begin with a dash. After `--` each word is a further one
abbrev pub parts_from : Option Text → List Text → Option (List Part)
parts_from None [] = Some []
parts_from (Some name) [] = None
parts_from (Some name) (word ∷ rest) = if begins_with_dash word then None else and_then (option name word) (parts_from None rest)
parts_from None (word ∷ rest) =
    if bytes_eq word (codes "--") then Some (map further rest)
    else (if is_option option_names word then valued (name_in word) (value_in word) (parts_from (Some (name_in word)) rest) (parts_from None rest)
    else (if begins_with_dash word then None else and_then (further word) (parts_from None rest)))

abbrev pub parts_of : List Text → Option (List Part)
parts_of words = parts_from None words

-- the value of an option of this name
abbrev pub value_of : Text → Part → Option Text
value_of name (option n value) = if bytes_eq n name then Some value else None
value_of name (further word) = None

-- the values that an option has, in order
abbrev pub values_of : Text → List Part → List Text
values_of name parts = filter_map (value_of name) parts

abbrev pub further_word : Part → Option Text
further_word (option n value) = None
further_word (further word) = Some word

-- the further words, in order
abbrev pub further_words : List Part → List Text
further_words parts = filter_map further_word parts
