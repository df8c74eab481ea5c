-- The rules of the flat command, and what looking one up gives.
use Rattle.std.proofs.Common.{◌≡◌, ◌∙◌, ◌||◌, ℕ, Bool, true, false, cond, List, [], ◌∷◌, ap, sym, refl, arith, codes, true≢false, Option, Some, None}
use Rattle.std.specs.Prelude.{fold}
use Rattle.std.specs.Str.{bytes_eq}
use Rattle.std.proofs.lemmas.Slice.Eq.{bytes_eq-Decides}
use Rattle.clap.specs.Walk.{Rule, Text, Row, arg_by_id, arg_by_index, arg_by_long, arg_by_short, has_row, with_default}
use Rattle.clap.specs.Simple.{Shape, built, is_simple}
use Rattle.clap.specs.Faults.{defaults_fault, is_simple_and_free}
use Rattle.clap.specs.declared.builder.action.ArgAction.TheVariants.{Set}
use Rattle.clap.specs.declared.builder.value_parser.ValueParser.TheVariants as vp
use Rattle.clap.proofs.OnLiterals.{clap_on_literals}
use Rattle.st_words.specs.Grammar.{is_among, option_names}
use Rattle.st_words.specs.CommandLine.{flat_app}

-- an argument with one text, as a built command has it
abbrev pub single : Text → Option Text → Option ℕ → Bool → Rule
single id long index required = record {
  id = id;
  long = long;
  aliases = [];
  short = None;
  short_aliases = [];
  index = index;
  action = Some Set;
  range = Some (record { start_inclusive = 1; end_inclusive = 1 });
  value_names = 0;
  defaults = [];
  missing = [];
  trailing_var_arg = false;
  parser = Some vp.String;
  ignore_case = false;
  required = required;
  is_simple = true;
  is_free = true;
}

abbrev pub option_rule : Text → Rule
option_rule name = single name (Some name) None false

abbrev pub word_rule : Rule
word_rule = single (codes "command") None (Some 1) true

abbrev pub rules_from : List Text → List Rule
rules_from [] = word_rule ∷ []
rules_from (name ∷ names) = option_rule name ∷ rules_from names

abbrev pub flat_shape : List Text → Shape
flat_shape names = record {
  name = codes "statesman";
  aliases = [];
  rules = rules_from names;
  is_plain = true;
  is_leaf = true;
  no_binary_name = true;
  disable_help_flag = true;
  disable_help_subcommand = true;
  disable_version_flag = false;
  propagate_version = false;
  has_version = false;
  has_long_version = false;
  args_override_self = false;
  arg_required_else_help = false;
  subcommand_required = false;
  subcommand_negates_reqs = false;
  is_built = true;
}

pub flat_is_built : built flat_app ≡ record { top = flat_shape option_names; subs = [] }
unfolding clap_on_literals
flat_is_built = refl

pub flat_is_simple : is_simple flat_app ≡ true
unfolding clap_on_literals
flat_is_simple = refl

pub flat_is_free : is_simple_and_free flat_app ≡ true
unfolding clap_on_literals
flat_is_free = refl

-- two texts are the same, or they are not
pub same_text : (xs ys : Text) → bytes_eq xs ys ≡ true → xs ≡ ys
same_text xs ys h = grind (arith, bytes_eq-Decides xs ys)

pub other_text : (xs ys : Text) → (xs ≡ ys → ⊥) → bytes_eq xs ys ≡ false
other_text xs ys h = grind (arith, bytes_eq-Decides xs ys)

pub bytes_eq-self : (xs : Text) → bytes_eq xs xs ≡ true
bytes_eq-self xs = grind (arith, bytes_eq-Decides xs xs)

by_long_first : (b : Bool) (n : Text) (names : List Text) (name : Text) → bytes_eq n name ≡ b
    → arg_by_long (rules_from names) name ≡ cond (is_among name names) (Some (option_rule name)) None
    → arg_by_long (rules_from (n ∷ names)) name ≡ cond (is_among name (n ∷ names)) (Some (option_rule name)) None
by_long_first true n names name e later = rw e (ap (λ m. Some (option_rule m)) (same_text n name e))
by_long_first false n names name e later = rw e later

pub by_long : (names : List Text) (name : Text) → arg_by_long (rules_from names) name ≡ cond (is_among name names) (Some (option_rule name)) None
by_long [] name = refl
by_long (n ∷ names) name = by_long_first (bytes_eq n name) n names name refl (by_long names name)

pub by_short : (names : List Text) (x : ℕ) → arg_by_short (rules_from names) x ≡ None
by_short [] x = refl
by_short (n ∷ names) x = by_short names x

pub by_first_index : (names : List Text) → arg_by_index (rules_from names) 1 ≡ Some word_rule
by_first_index [] = refl
by_first_index (n ∷ names) = by_first_index names

pub by_second_index : (names : List Text) → arg_by_index (rules_from names) 2 ≡ None
by_second_index [] = refl
by_second_index (n ∷ names) = by_second_index names

-- the id is that of an argument
pub record IsKnown (names : List Text) (id : Text) : Type 0 where
  pub long : Option Text
  pub index : Option ℕ
  pub required : Bool
  pub found : arg_by_id (rules_from names) id ≡ Some (single id long index required)

known_here : (n : Text) (names : List Text) (name : Text) → bytes_eq n name ≡ true → IsKnown (n ∷ names) name
known_here n names name e = record { long = Some name; index = None; required = false; found = rw e (ap (λ m. Some (option_rule m)) (same_text n name e)) }

known_later : (n : Text) (names : List Text) (name : Text) → bytes_eq n name ≡ false → IsKnown names name → IsKnown (n ∷ names) name
known_later n names name e later = record { long = later.long; index = later.index; required = later.required; found = rw e later.found }

option_first : (b : Bool) (n : Text) (names : List Text) (name : Text) → bytes_eq n name ≡ b → (is_among name names ≡ true → IsKnown names name)
    → is_among name (n ∷ names) ≡ true → IsKnown (n ∷ names) name
option_first true n names name e later h = known_here n names name e
option_first false n names name e later h = known_later n names name e (later (rw e at h))

pub option_known : (names : List Text) (name : Text) → is_among name names ≡ true → IsKnown names name
option_known [] name h = absurd (true≢false (sym h))
option_known (n ∷ names) name h = option_first (bytes_eq n name) n names name refl (option_known names name) h

word_first : (b : Bool) (n : Text) (names : List Text) → bytes_eq n (codes "command") ≡ b → (is_among (codes "command") names ≡ false → IsKnown names (codes "command"))
    → is_among (codes "command") (n ∷ names) ≡ false → IsKnown (n ∷ names) (codes "command")
word_first true n names e later h = absurd (true≢false (rw e at h))
word_first false n names e later h = known_later n names (codes "command") e (later (rw e at h))

pub word_known : (names : List Text) → is_among (codes "command") names ≡ false → IsKnown names (codes "command")
word_known [] h = record { long = None; index = Some 1; required = true; found = refl }
word_known (n ∷ names) h = word_first (bytes_eq n (codes "command")) n names refl (word_known names) h

-- no argument has a default
same_either_way : {X : Type 0} (b : Bool) (x : X) → cond b x x ≡ x
same_either_way true x = refl
same_either_way false x = refl

none_either_way : {X : Type 0} (b : Bool) (x y : X) → cond (b || true) x y ≡ x
none_either_way true x y = refl
none_either_way false x y = refl

pub no_default : (names : List Text) (rows : List Row) → fold with_default rows (rules_from names) ≡ rows
no_default [] rows = same_either_way (has_row (codes "command") rows) rows
no_default (n ∷ names) rows = ap (λ r. fold with_default r (rules_from names)) (same_either_way (has_row n rows) rows) ∙ no_default names rows

pub no_default_fault : (names : List Text) (rows : List Row) → defaults_fault rows (rules_from names) ≡ []
unfolding defaults_fault
no_default_fault [] rows = rw (none_either_way (has_row (codes "command") rows)) refl
no_default_fault (n ∷ names) rows = rw (none_either_way (has_row n rows), same_either_way (has_row n rows)) (no_default_fault names rows)
