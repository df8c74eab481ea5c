-- What `clap` takes beyond the grammar, a text that begins with a dash and is no flag to it, asks for no job.
use Rattle.std.proofs.Common.{◌≡◌, ◌++◌, ◌==◌, ◌∙◌, ℕ, Bool, true, false, cond, List, [], ◌∷◌, ap, sym, refl, codes, true≢false, Option, Some, None}
use Rattle.std.specs.Prelude.{option_and_then, option_to_list}
use Rattle.std.specs.Str.{bytes_eq}
use Rattle.st_words.specs.declared.job.Job.{Job}
use Rattle.st_words.specs.Grammar.{Text, is_among, is_option, option_names, begins_with_dash, name_in, value_in}
use Rattle.st_words.specs.Jobs.{given_by, job_of}
use Rattle.st_words.proofs.Reading.{NamedText, has_name, with_text, text_of, option_read, reads}
use Rattle.st_words.proofs.Refusals.{is_dashed, bad_values, bad_commands}
use Rattle.st_words.proofs.Rules.{same_text, bytes_eq-self}
use Rattle.st_words.proofs.Looks.{Looks, looks, is_flag, flag_two, flag_long, flag_short, no_flag, two_dashes, named, unnamed, bundled, dashed, plain}

-- what one text for each option, or none, and one command ask for
abbrev pub job_texts : (Text → Option Text) → Option Job
job_texts text = job_of (given_by (λ name. option_to_list (text name))) (option_to_list (text (codes "command")))

abbrev pub job_from : List NamedText → Option Job
job_from said = job_texts (λ name. text_of name said)

-- one of the texts begins with a dash
pub data Bad (said : List NamedText) : Type 0 where
  in_option : (name : Text) → is_among name option_names ≡ true → is_dashed (text_of name said) ≡ true → Bad said
  in_word : is_dashed (text_of (codes "command") said) ≡ true → Bad said

bad_job : (said : List NamedText) → Bad said → job_from said ≡ None
bad_job said (in_option name among dash) = bad_values (λ n. option_to_list (text_of n said)) (option_to_list (text_of (codes "command") said)) name among dash
bad_job said (in_word dash) = bad_commands (given_by (λ n. option_to_list (text_of n said))) (option_to_list (text_of (codes "command") said)) dash

dashed_first : (b : Bool) (q : NamedText) (name : Text) (said : List NamedText) (p : NamedText) → bytes_eq q.0 name ≡ b
    → (is_dashed (text_of name said) ≡ true → is_dashed (text_of name (said ++ p ∷ [])) ≡ true)
    → is_dashed (text_of name (q ∷ said)) ≡ true → is_dashed (text_of name (q ∷ (said ++ p ∷ []))) ≡ true
dashed_first true q name said p e later h = rw e (rw e at h)
dashed_first false q name said p e later h = rw e (later (rw e at h))

dashed_stays : (name : Text) (said : List NamedText) (p : NamedText) → is_dashed (text_of name said) ≡ true → is_dashed (text_of name (said ++ p ∷ [])) ≡ true
dashed_stays name [] p h = absurd (true≢false (sym h))
dashed_stays name (q ∷ said) p h = dashed_first (bytes_eq q.0 name) q name said p refl (dashed_stays name said p) h

bad_stays : (said : List NamedText) (p : NamedText) → Bad said → Bad (said ++ p ∷ [])
bad_stays said p (in_option name among dash) = in_option name among (dashed_stays name said p dash)
bad_stays said p (in_word dash) = in_word (dashed_stays (codes "command") said p dash)

abbrev pub job_then : Option (List NamedText) → Option Job
job_then = option_and_then job_from

none_of_jobs : (b : Bool) (x y : Option (List NamedText)) → job_then x ≡ None → job_then y ≡ None → job_then (cond b x y) ≡ None
none_of_jobs true x y e f = e
none_of_jobs false x y e f = f

-- one more part, after a bad one
more_bad : (b : Bool) (f : List NamedText → Option (List NamedText)) (said : List NamedText) (p : NamedText) → (Bad (said ++ p ∷ []) → job_then (f (said ++ p ∷ [])) ≡ None) → Bad (said ++ p ∷ [])
    → job_then (option_and_then f (cond b None (Some (said ++ p ∷ [])))) ≡ None
more_bad true f said p later bad = refl
more_bad false f said p later bad = later bad

read_bad : (v : Option Text) (f : Text → Option (List NamedText)) (x : Option (List NamedText)) → ((t : Text) → job_then (f t) ≡ None) → job_then x ≡ None → job_then (option_read v f x) ≡ None
read_bad None f x e g = g
read_bad (Some t) f x e g = e t

-- a bad part makes the rest of no use
module _ (dash : Text → Bool) where
  pub bad_reads : (words : List Text) (waits : Option Text) (tr : Bool) (said : List NamedText) → Bad said → job_then (reads dash option_names waits tr said words) ≡ None
  bad_reads [] None tr said bad = bad_job said bad
  bad_reads [] (Some name) tr said bad = refl
  bad_reads (word ∷ rest) (Some name) tr said bad =
      none_of_jobs (dash word) None _ refl (more_bad (has_name name said) (λ more. reads dash option_names None tr more rest) said (name, word) (bad_reads rest None tr _) (bad_stays said (name, word) bad))
  bad_reads (word ∷ rest) None true said bad =
      more_bad (has_name (codes "command") said) (λ more. reads dash option_names None true more rest) said (codes "command", word) (bad_reads rest None true _) (bad_stays said (codes "command", word) bad)
  bad_reads (word ∷ rest) None false said bad =
      none_of_jobs (bytes_eq word (codes "--")) _ _ (bad_reads rest None true said bad)
      (none_of_jobs (is_option option_names word) _ _
      (read_bad (value_in word) _ _
      (λ v. more_bad (has_name (name_in word) said) (λ more. reads dash option_names None false more rest) said (name_in word, v) (bad_reads rest None false _) (bad_stays said (name_in word, v) bad))
      (bad_reads rest (Some (name_in word)) false said bad))
      (none_of_jobs (dash word) None _ refl
      (more_bad (has_name (codes "command") said) (λ more. reads dash option_names None false more rest) said (codes "command", word) (bad_reads rest None false _) (bad_stays said (codes "command", word) bad))))

-- the word of an option begins with a dash
dashed_if : (d : Bool) (b : ℕ) (rest : Text) → (b == 45) ≡ d → is_option option_names (b ∷ rest) ≡ true → begins_with_dash (b ∷ rest) ≡ true
dashed_if true b rest e h = e
dashed_if false b rest e h = absurd (true≢false (sym (rw e at h)))

option_dashed : (word : Text) → is_option option_names word ≡ true → begins_with_dash word ≡ true
option_dashed [] e = absurd (true≢false (sym e))
option_dashed (b ∷ rest) e = dashed_if (b == 45) b rest refl e

-- the new part is bad
last_first : (b : Bool) (q : NamedText) (name text : Text) (said : List NamedText) → bytes_eq q.0 name ≡ b → (has_name name said ≡ false → text_of name (said ++ (name, text) ∷ []) ≡ Some text)
    → has_name name (q ∷ said) ≡ false → text_of name (q ∷ (said ++ (name, text) ∷ [])) ≡ Some text
last_first true q name text said e later h = absurd (true≢false (rw e at h))
last_first false q name text said e later h = rw e (later (rw e at h))

bad_text_last : (name text : Text) (said : List NamedText) → has_name name said ≡ false → text_of name (said ++ (name, text) ∷ []) ≡ Some text
bad_text_last name text [] e = rw (bytes_eq-self name) refl
bad_text_last name text (q ∷ said) e = last_first (bytes_eq q.0 name) q name text said refl (bad_text_last name text said) e

dashed_last : (name text : Text) (said : List NamedText) → has_name name said ≡ false → begins_with_dash text ≡ true → is_dashed (text_of name (said ++ (name, text) ∷ [])) ≡ true
dashed_last name text said none dash = ap is_dashed (bad_text_last name text said none) ∙ dash

-- a part that begins with a dash asks for nothing
word_asks_none : (b : Bool) (text : Text) (rest : List Text) (said : List NamedText) → has_name (codes "command") said ≡ b → begins_with_dash text ≡ true
    → job_then (option_and_then (λ more. reads is_flag option_names None false more rest) (with_text (codes "command", text) said)) ≡ None
word_asks_none true text rest said e dash = rw e refl
word_asks_none false text rest said e dash = rw e (bad_reads is_flag rest None false _ (in_word (dashed_last (codes "command") text said e dash)))

option_asks_none : (b : Bool) (name text : Text) (rest : List Text) (said : List NamedText) → has_name name said ≡ b → is_among name option_names ≡ true → begins_with_dash text ≡ true
    → job_then (option_and_then (λ more. reads is_flag option_names None false more rest) (with_text (name, text) said)) ≡ None
option_asks_none true name text rest said e among dash = rw e refl
option_asks_none false name text rest said e among dash = rw e (bad_reads is_flag rest None false _ (in_option name among (dashed_last name text said e dash)))

then_same : (o : Option (List NamedText)) (f g : List NamedText → Option (List NamedText)) → ((more : List NamedText) → job_then (f more) ≡ job_then (g more)) → job_then (option_and_then f o) ≡ job_then (option_and_then g o)
then_same None f g same = refl
then_same (Some more) f g same = same more

abbrev by_flag : Option Text → Bool → List NamedText → List Text → Option (List NamedText)
by_flag = reads is_flag option_names

abbrev by_dash : Option Text → Bool → List NamedText → List Text → Option (List NamedText)
by_dash = reads begins_with_dash option_names

-- the two readings of these words ask for the same job
pub record AsksSame (words : List Text) : Type 0 where
  pub between : (tr : Bool) (said : List NamedText) → job_then (by_flag None tr said words) ≡ job_then (by_dash None tr said words)
  pub waits : (name : Text) (said : List NamedText) → is_among name option_names ≡ true → job_then (by_flag (Some name) false said words) ≡ job_then (by_dash (Some name) false said words)

module _ (word : Text) (rest : List Text) (later : AsksSame rest) where
  two_same : (said : List NamedText) → bytes_eq word (codes "--") ≡ true → job_then (by_flag None false said (word ∷ rest)) ≡ job_then (by_dash None false said (word ∷ rest))
  two_same said two = rw two (later.between true said)

  value_same : (v : Option Text) (said : List NamedText) → value_in word ≡ v → bytes_eq word (codes "--") ≡ false → is_option option_names word ≡ true → is_among (name_in word) option_names ≡ true
      → job_then (by_flag None false said (word ∷ rest)) ≡ job_then (by_dash None false said (word ∷ rest))
  value_same None said val two opt among = rw (two, opt, val) (later.waits (name_in word) said among)
  value_same (Some v) said val two opt among = rw (two, opt, val) (then_same (with_text (name_in word, v) said) _ _ (λ more. later.between false more))

  both_refuse : (said : List NamedText) → bytes_eq word (codes "--") ≡ false → is_option option_names word ≡ false → is_flag word ≡ true → begins_with_dash word ≡ true
      → job_then (by_flag None false said (word ∷ rest)) ≡ job_then (by_dash None false said (word ∷ rest))
  both_refuse said two opt flag dash = rw (two, opt, flag, dash) refl

  between_same : (said : List NamedText) → Looks option_names word → job_then (by_flag None false said (word ∷ rest)) ≡ job_then (by_dash None false said (word ∷ rest))
  between_same said (two_dashes two) = two_same said two
  between_same said (named two long among opt) = value_same (value_in word) said refl two opt among
  between_same said (unnamed name v two long none opt dash) = both_refuse said two opt (flag_long word name v two long) dash
  between_same said (bundled flags x xs two long short some opt dash) = both_refuse said two opt (flag_short word flags x xs two long short some) dash
  between_same said (dashed two long none opt dash) = rw (two, opt, no_flag word two long none, dash) (word_asks_none (has_name (codes "command") said) word rest said refl dash)
  between_same said (plain two long none opt dash) = rw (two, opt, no_flag word two long (rw none refl), dash) (then_same (with_text (codes "command", word) said) _ _ (λ more. later.between false more))

  waits_refuse : (name : Text) (said : List NamedText) → is_flag word ≡ true → begins_with_dash word ≡ true → job_then (by_flag (Some name) false said (word ∷ rest)) ≡ job_then (by_dash (Some name) false said (word ∷ rest))
  waits_refuse name said flag dash = rw (flag, dash) refl

  waits_same : (name : Text) (said : List NamedText) → is_among name option_names ≡ true → Looks option_names word → job_then (by_flag (Some name) false said (word ∷ rest)) ≡ job_then (by_dash (Some name) false said (word ∷ rest))
  waits_same name said among (two_dashes two) = waits_refuse name said (flag_two word two) (rw (same_text word (codes "--") two) refl)
  waits_same name said among (named two long a opt) = waits_refuse name said (flag_long word _ _ two long) (option_dashed word opt)
  waits_same name said among (unnamed n v two long none opt dash) = waits_refuse name said (flag_long word n v two long) dash
  waits_same name said among (bundled flags x xs two long short some opt dash) = waits_refuse name said (flag_short word flags x xs two long short some) dash
  waits_same name said among (dashed two long none opt dash) = rw (no_flag word two long none, dash) (option_asks_none (has_name name said) name word rest said refl among dash)
  waits_same name said among (plain two long none opt dash) = rw (no_flag word two long (rw none refl), dash) (then_same (with_text (name, word) said) _ _ (λ more. later.between false more))

  either_same : (tr : Bool) (said : List NamedText) → job_then (by_flag None tr said (word ∷ rest)) ≡ job_then (by_dash None tr said (word ∷ rest))
  either_same false said = between_same said (looks option_names word)
  either_same true said = then_same (with_text (codes "command", word) said) _ _ (λ more. later.between true more)

pub asks_same : (words : List Text) → AsksSame words
asks_same [] = record { between = λ tr said. refl; waits = λ name said among. refl }
asks_same (word ∷ rest) = record {
  between = λ tr said. either_same word rest (asks_same rest) tr said;
  waits = λ name said among. waits_same word rest (asks_same rest) name said among (looks option_names word);
}
