-- The grammar of words once more, as rules: which parts a list of words spells.
use Rattle.std.specs.Prelude.{◌≡◌, ◌++◌, true, false, List, [], ◌∷◌, codes, map}
use Rattle.st_words.specs.Grammar.{Text, Part, option, further, option_names, is_among, begins_with_dash}

-- `--name`
abbrev pub flag : Text → Text
flag name = codes "--" ++ name

-- `--name=value`
abbrev pub flag_with : Text → Text → Text
flag_with name value = codes "--" ++ (name ++ 61 ∷ value)

-- the words spell these parts, in this order
pub data Spells : List Text → List Part → Type 0 where
  no_words : Spells [] []
  option_in_one : (name value : Text) (words : List Text) (parts : List Part) → is_among name option_names ≡ true
      → Spells words parts → Spells (flag_with name value ∷ words) (option name value ∷ parts)
  option_in_two : (name value : Text) (words : List Text) (parts : List Part) → is_among name option_names ≡ true → begins_with_dash value ≡ false
      → Spells words parts → Spells (flag name ∷ value ∷ words) (option name value ∷ parts)
  one_further : (word : Text) (words : List Text) (parts : List Part) → begins_with_dash word ≡ false
      → Spells words parts → Spells (word ∷ words) (further word ∷ parts)
  words_behind : (words : List Text) → Spells (codes "--" ∷ words) (map further words)
