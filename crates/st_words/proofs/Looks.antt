-- What a word looks like: to `clap`, and to the grammar.
use Rattle.std.proofs.Common.{◌≡◌, ◌||◌, ◌==◌, ℕ, Bool, true, false, List, [], ◌∷◌, refl, codes, Option, Some, None}
use Rattle.std.specs.Prelude.{is_some}
use Rattle.std.specs.Str.{bytes_eq, chars}
use Rattle.std.proofs.lemmas.Bool.{eqb-true}
use Rattle.clap.specs.Lexer.{long_of, short_of}
use Rattle.clap.specs.Walk.{Text}
use Rattle.st_words.specs.Grammar.{begins_with_dash, is_among, is_option, name_in, value_in}

-- what follows the dash of a word is a bundle of flags. (What is no UTF-8 may have no characters.)
abbrev pub has_any : List ℕ → Bool
has_any [] = false
has_any (x ∷ xs) = true

abbrev pub is_bundle : Option Text → Bool
is_bundle None = false
is_bundle (Some flags) = has_any (chars flags)

-- the word is a flag to `clap`
unfoldable pub is_flag : Text → Bool
is_flag word = bytes_eq word (codes "--") || (is_some (long_of word) || is_bundle (short_of word))

pub flag_two : (word : Text) → bytes_eq word (codes "--") ≡ true → is_flag word ≡ true
unfolding is_flag
flag_two word two = rw two refl

pub flag_long : (word name : Text) (v : Option Text) → bytes_eq word (codes "--") ≡ false → long_of word ≡ Some (name, v) → is_flag word ≡ true
unfolding is_flag
flag_long word name v two long = rw (two, long) refl

pub flag_short : (word flags : Text) (x : ℕ) (xs : List ℕ) → bytes_eq word (codes "--") ≡ false → long_of word ≡ None → short_of word ≡ Some flags → chars flags ≡ x ∷ xs → is_flag word ≡ true
unfolding is_flag
flag_short word flags x xs two long short some = rw (two, long, short, some) refl

pub no_flag : (word : Text) → bytes_eq word (codes "--") ≡ false → long_of word ≡ None → is_bundle (short_of word) ≡ false → is_flag word ≡ false
unfolding is_flag
no_flag word two long none = rw (two, long) none

pub data Looks (names : List Text) (word : Text) : Type 0 where
  two_dashes : bytes_eq word (codes "--") ≡ true → Looks names word
  named : bytes_eq word (codes "--") ≡ false → long_of word ≡ Some (name_in word, value_in word) → is_among (name_in word) names ≡ true → is_option names word ≡ true → Looks names word
  unnamed : (name : Text) (value : Option Text) → bytes_eq word (codes "--") ≡ false → long_of word ≡ Some (name, value) → is_among name names ≡ false
      → is_option names word ≡ false → begins_with_dash word ≡ true → Looks names word
  bundled : (flags : Text) (x : ℕ) (xs : List ℕ) → bytes_eq word (codes "--") ≡ false → long_of word ≡ None → short_of word ≡ Some flags → chars flags ≡ x ∷ xs
      → is_option names word ≡ false → begins_with_dash word ≡ true → Looks names word
  -- a text that begins with a dash, and is no flag to `clap`: `-` alone, or what is no text
  dashed : bytes_eq word (codes "--") ≡ false → long_of word ≡ None → is_bundle (short_of word) ≡ false → is_option names word ≡ false → begins_with_dash word ≡ true → Looks names word
  plain : bytes_eq word (codes "--") ≡ false → long_of word ≡ None → short_of word ≡ None → is_option names word ≡ false → begins_with_dash word ≡ false → Looks names word

long_named : (b : Bool) (names : List Text) (x : ℕ) (xs : Text) → is_among (name_in (45 ∷ 45 ∷ x ∷ xs)) names ≡ b → Looks names (45 ∷ 45 ∷ x ∷ xs)
long_named true names x xs e = named refl refl e e
long_named false names x xs e = unnamed _ _ refl refl e e refl

short_looks : (names : List Text) (b : ℕ) (rest : Text) (cs : List ℕ) → bytes_eq (45 ∷ b ∷ rest) (codes "--") ≡ false → long_of (45 ∷ b ∷ rest) ≡ None
    → short_of (45 ∷ b ∷ rest) ≡ Some (b ∷ rest) → is_option names (45 ∷ b ∷ rest) ≡ false → chars (b ∷ rest) ≡ cs → Looks names (45 ∷ b ∷ rest)
short_looks names b rest [] dd long short opt e = dashed dd long (rw (short, e) refl) opt refl
short_looks names b rest (x ∷ xs) dd long short opt e = bundled (b ∷ rest) x xs dd long short e opt refl

second : (d : Bool) (names : List Text) (b : ℕ) (rest : Text) → (b == 45) ≡ d → Looks names (45 ∷ b ∷ rest)
second false names b rest e = short_looks names b rest (chars (b ∷ rest)) (rw e refl) (rw e refl) (rw e refl) (rw e refl) refl
second true names b [] e = two_dashes (rw e refl)
second true names b (x ∷ xs) e = rw (eqb-true b 45 e) (long_named (is_among (name_in (45 ∷ 45 ∷ x ∷ xs)) names) names x xs refl)

first : (d : Bool) (names : List Text) (b : ℕ) (rest : Text) → (b == 45) ≡ d → Looks names (b ∷ rest)
first false names b rest e = plain (rw e refl) (rw e refl) (rw e refl) (rw e refl) e
first true names b [] e = rw (eqb-true b 45 e) (dashed refl refl refl refl refl)
first true names b (x ∷ rest) e = rw (eqb-true b 45 e) (second (x == 45) names x rest refl)

pub looks : (names : List Text) (word : Text) → Looks names word
looks names [] = plain refl refl refl refl refl
looks names (b ∷ rest) = first (b == 45) names b rest refl
