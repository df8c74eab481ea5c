-- The grammar's reading as `clap` walks: each text goes under the name of its argument, and a name that comes again is refused at once.
use Rattle.std.proofs.Common.{◌++◌, Bool, true, false, List, [], ◌∷◌, Option, Some, None, codes}
use Rattle.std.specs.Prelude.{find, if◌then◌else◌, option_map, option_and_then}
use Rattle.std.specs.List.{list_any}
use Rattle.std.specs.Str.{bytes_eq}
use Rattle.st_words.specs.Grammar.{Text, is_option, name_in, value_in}

-- the name of an option, or `command` of the further word, and the text that goes with it
abbrev pub NamedText : Type 0
NamedText = Text × Text

abbrev pub has_name : Text → List NamedText → Bool
has_name name said = list_any (λ p. bytes_eq p.0 name) said

abbrev pub text_of : Text → List NamedText → Option Text
text_of name said = option_map (λ p. p.1) (find (λ p. bytes_eq p.0 name) said)

-- one more text: each name comes at most once
abbrev pub with_text : NamedText → List NamedText → Option (List NamedText)
with_text part said = if has_name part.0 said then None else Some (said ++ part ∷ [])

abbrev pub option_read : Option Text → (Text → Option (List NamedText)) → Option (List NamedText) → Option (List NamedText)
option_read None with_value waiting = waiting
option_read (Some value) with_value waiting = with_value value

-- the texts that the words spell, after those that were spelled before them. `waits` is the option whose value is the next
-- word; after `--` (`is_plain`) there are no options; `dashed` says which words are no value of two words and no further word
abbrev pub reads : (Text → Bool) → List Text → Option Text → Bool → List NamedText → List Text → Option (List NamedText)
reads dashed names None is_plain said [] = Some said
reads dashed names (Some name) is_plain said [] = None
reads dashed names (Some name) is_plain said (word ∷ rest) =
    if dashed word then None
    else option_and_then (λ more. reads dashed names None is_plain more rest) (with_text (name, word) said)
reads dashed names None true said (word ∷ rest) =
    option_and_then (λ more. reads dashed names None true more rest) (with_text (codes "command", word) said)
reads dashed names None false said (word ∷ rest) =
    if bytes_eq word (codes "--") then reads dashed names None true said rest
    else (if is_option names word then option_read (value_in word)
    (λ value. option_and_then (λ more. reads dashed names None false more rest) (with_text (name_in word, value) said))
    (reads dashed names (Some (name_in word)) false said rest)
    else (if dashed word then None
    else option_and_then (λ more. reads dashed names None false more rest) (with_text (codes "command", word) said)))
