-- A name that comes again is refused at once where `clap` walks, and by the whole list of parts in the grammar: both ask for the same job.
use Rattle.std.proofs.Common.{◌≡◌, ◌∙◌, ◌++◌, Bool, true, false, cond, List, [], ◌∷◌, map, take, ap, sym, refl, codes, true≢false, Option, Some, None}
use Rattle.std.proofs.lemmas.List.{append-nil, append_assoc}
use Rattle.std.specs.Prelude.{option_and_then, option_to_list}
use Rattle.std.specs.Str.{bytes_eq}
use Rattle.st_words.specs.declared.job.Job.{Job}
use Rattle.st_words.specs.Grammar.{Text, Part, option, further, option_names, is_among, is_option, begins_with_dash, name_in, value_in, and_then, parts_from, values_of, further_words}
use Rattle.st_words.specs.Jobs.{given_by, job_of, job_asked}
use Rattle.st_words.proofs.Reading.{NamedText, has_name, with_text, text_of, reads}
use Rattle.st_words.proofs.Names.{by_name, given_same}
use Rattle.st_words.proofs.Refusals.{is_bad, bad_values, bad_commands}
use Rattle.st_words.proofs.Rules.{same_text, bytes_eq-self}
use Rattle.st_words.proofs.Dashes.{job_then, job_from}

-- ---- the texts under a name

abbrev pub texts_of : Text → List NamedText → List Text
texts_of name [] = []
texts_of name (p ∷ said) = cond (bytes_eq p.0 name) (p.1 ∷ texts_of name said) (texts_of name said)

texts_last_first : (b : Bool) (q : NamedText) (name : Text) (said : List NamedText) (p : NamedText) → bytes_eq q.0 name ≡ b
    → texts_of name (said ++ p ∷ []) ≡ texts_of name said ++ texts_of name (p ∷ [])
    → texts_of name (q ∷ (said ++ p ∷ [])) ≡ texts_of name (q ∷ said) ++ texts_of name (p ∷ [])
texts_last_first true q name said p e later = rw e (ap (λ ts. q.1 ∷ ts) later)
texts_last_first false q name said p e later = rw e later

texts_last : (name : Text) (said : List NamedText) (p : NamedText) → texts_of name (said ++ p ∷ []) ≡ texts_of name said ++ texts_of name (p ∷ [])
texts_last name [] p = refl
texts_last name (q ∷ said) p = texts_last_first (bytes_eq q.0 name) q name said p refl (texts_last name said p)

no_texts_first : (b : Bool) (q : NamedText) (name : Text) (said : List NamedText) → bytes_eq q.0 name ≡ b → (has_name name said ≡ false → texts_of name said ≡ [])
    → has_name name (q ∷ said) ≡ false → texts_of name (q ∷ said) ≡ []
no_texts_first true q name said e later h = absurd (true≢false (rw e at h))
no_texts_first false q name said e later h = rw e (later (rw e at h))

no_texts : (name : Text) (said : List NamedText) → has_name name said ≡ false → texts_of name said ≡ []
no_texts name [] h = refl
no_texts name (q ∷ said) h = no_texts_first (bytes_eq q.0 name) q name said refl (no_texts name said) h

two_first : (a v : Text) (xs vs : List Text) → is_bad (a ∷ (xs ++ v ∷ vs)) ≡ true
two_first a v [] vs = refl
two_first a v (x ∷ xs) vs = refl

two_texts_first : (b : Bool) (q : NamedText) (name : Text) (said : List NamedText) (v : Text) (vs : List Text) → bytes_eq q.0 name ≡ b
    → (has_name name said ≡ true → is_bad (texts_of name said ++ v ∷ vs) ≡ true) → has_name name (q ∷ said) ≡ true → is_bad (texts_of name (q ∷ said) ++ v ∷ vs) ≡ true
two_texts_first true q name said v vs e later h = rw e (two_first q.1 v (texts_of name said) vs)
two_texts_first false q name said v vs e later h = rw e (later (rw e at h))

-- one more text under a name that has one
two_texts : (name : Text) (said : List NamedText) (v : Text) (vs : List Text) → has_name name said ≡ true → is_bad (texts_of name said ++ v ∷ vs) ≡ true
two_texts name [] v vs h = absurd (true≢false (sym h))
two_texts name (q ∷ said) v vs h = two_texts_first (bytes_eq q.0 name) q name said v vs refl (two_texts name said v vs) h

-- ---- each name at most once

-- the first text under a name is all that stands under it
pub record IsOnce (said : List NamedText) : Type 0 where
  pub each : (name : Text) → texts_of name said ≡ option_to_list (text_of name said)

text_seen_first : (b : Bool) (q : NamedText) (name : Text) (said : List NamedText) (p : NamedText) → bytes_eq q.0 name ≡ b
    → (has_name name said ≡ true → text_of name (said ++ p ∷ []) ≡ text_of name said) → has_name name (q ∷ said) ≡ true
    → text_of name (q ∷ (said ++ p ∷ [])) ≡ text_of name (q ∷ said)
text_seen_first true q name said p e later h = rw e refl
text_seen_first false q name said p e later h = rw e (later (rw e at h))

text_seen : (name : Text) (said : List NamedText) (p : NamedText) → has_name name said ≡ true → text_of name (said ++ p ∷ []) ≡ text_of name said
text_seen name [] p h = absurd (true≢false (sym h))
text_seen name (q ∷ said) p h = text_seen_first (bytes_eq q.0 name) q name said p refl (text_seen name said p) h

text_new_first : (b : Bool) (q : NamedText) (name : Text) (said : List NamedText) (p : NamedText) → bytes_eq q.0 name ≡ b
    → (has_name name said ≡ false → text_of name (said ++ p ∷ []) ≡ text_of name (p ∷ [])) → has_name name (q ∷ said) ≡ false
    → text_of name (q ∷ (said ++ p ∷ [])) ≡ text_of name (p ∷ [])
text_new_first true q name said p e later h = absurd (true≢false (rw e at h))
text_new_first false q name said p e later h = rw e (later (rw e at h))

text_new : (name : Text) (said : List NamedText) (p : NamedText) → has_name name said ≡ false → text_of name (said ++ p ∷ []) ≡ text_of name (p ∷ [])
text_new name [] p h = refl
text_new name (q ∷ said) p h = text_new_first (bytes_eq q.0 name) q name said p refl (text_new name said p) h

single : (b : Bool) (name : Text) (p : NamedText) → bytes_eq p.0 name ≡ b → texts_of name (p ∷ []) ≡ option_to_list (text_of name (p ∷ []))
single true name p e = rw e refl
single false name p e = rw e refl

other_name : (b : Bool) (name : Text) (said : List NamedText) (p : NamedText) → bytes_eq p.0 name ≡ b → has_name p.0 said ≡ false → has_name name said ≡ true
    → texts_of name (p ∷ []) ≡ []
other_name true name said p e new seen = absurd (true≢false (sym seen ∙ ap (λ n. has_name n said) (sym (same_text p.0 name e)) ∙ new))
other_name false name said p e new seen = rw e refl

once_by : (b : Bool) (name : Text) (said : List NamedText) (p : NamedText) → has_name name said ≡ b → has_name p.0 said ≡ false → IsOnce said
    → texts_of name (said ++ p ∷ []) ≡ option_to_list (text_of name (said ++ p ∷ []))
once_by true name said p e new once =
    texts_last name said p ∙ ap (λ ts. texts_of name said ++ ts) (other_name (bytes_eq p.0 name) name said p refl new e) ∙ append-nil (texts_of name said)
    ∙ once.each name ∙ ap option_to_list (sym (text_seen name said p e))
once_by false name said p e new once =
    texts_last name said p ∙ ap (λ ts. ts ++ texts_of name (p ∷ [])) (no_texts name said e)
    ∙ single (bytes_eq p.0 name) name p refl ∙ ap option_to_list (sym (text_new name said p e))

once_more : (said : List NamedText) (p : NamedText) → has_name p.0 said ≡ false → IsOnce said → IsOnce (said ++ p ∷ [])
once_more said p new once = record { each = λ name. once_by (has_name name said) name said p refl new once }

-- ---- what is asked for by the texts so far and the parts to come

abbrev pub values_after : Text → List NamedText → List Part → List Text
values_after name said parts = texts_of name said ++ values_of name parts

abbrev pub words_after : List NamedText → List Part → List Text
words_after said parts = texts_of (codes "command") said ++ further_words parts

abbrev pub asked_after : List NamedText → List Part → Option Job
asked_after said parts = job_of (given_by (λ name. values_after name said parts)) (words_after said parts)

abbrev pub job_after : List NamedText → Option (List Part) → Option Job
job_after said parts = option_and_then (asked_after said) parts

none_after : (said : List NamedText) (part : Part) (parts : Option (List Part)) → ((ps : List Part) → asked_after said (part ∷ ps) ≡ None) → None ≡ job_after said (and_then part parts)
none_after said part None none = refl
none_after said part (Some ps) none = sym (none ps)

moved : (said : List NamedText) (p : NamedText) (part : Part) (parts : Option (List Part)) → ((ps : List Part) → asked_after (said ++ p ∷ []) ps ≡ asked_after said (part ∷ ps))
    → job_after (said ++ p ∷ []) parts ≡ job_after said (and_then part parts)
moved said p part None same = refl
moved said p part (Some ps) same = same ps

-- at the end no part is to come
nothing_to_come : (name : Text) (said : List NamedText) → IsOnce said → option_to_list (text_of name said) ≡ texts_of name said ++ []
nothing_to_come name said once = sym (append-nil (texts_of name said) ∙ once.each name)

at_end : (said : List NamedText) → IsOnce said → job_from said ≡ asked_after said []
at_end said once = λ i. job_of (given_by (λ name. nothing_to_come name said once i)) (nothing_to_come (codes "command") said once i)

-- ---- one more further word

no_value : (name : Text) (word : Text) (said : List NamedText) (ps : List Part) → bytes_eq (codes "command") name ≡ false
    → texts_of name (said ++ (codes "command", word) ∷ []) ++ values_of name ps ≡ texts_of name said ++ values_of name ps
no_value name word said ps other =
    ap (λ ts. ts ++ values_of name ps) (texts_last name said (codes "command", word) ∙ ap (λ b. texts_of name said ++ cond b (word ∷ []) []) other ∙ append-nil (texts_of name said))

other_name_than_command : (name : Text) → is_among name option_names ≡ true → bytes_eq (codes "command") name ≡ false
other_name_than_command name among = by_name (λ n. bytes_eq (codes "command") n ≡ false) name among refl refl refl refl

word_moved : (word : Text) (said : List NamedText) (ps : List Part) → asked_after (said ++ (codes "command", word) ∷ []) ps ≡ asked_after said (further word ∷ ps)
word_moved word said ps =
    let words : texts_of (codes "command") (said ++ (codes "command", word) ∷ []) ++ further_words ps ≡ texts_of (codes "command") said ++ further_words (further word ∷ ps)
    = ap (λ ts. ts ++ further_words ps) (texts_last (codes "command") said (codes "command", word)) ∙ append_assoc (texts_of (codes "command") said) (word ∷ []) (further_words ps) in
    let given = given_same (λ name. values_after name (said ++ (codes "command", word) ∷ []) ps) (λ name. values_after name said ps)
    (λ name among. no_value name word said ps (other_name_than_command name among)) in
    λ i. job_of (given i) (words i)

spent_word : (said : List NamedText) (word : Text) (ps : List Part) → has_name (codes "command") said ≡ true → asked_after said (further word ∷ ps) ≡ None
spent_word said word ps e =
    bad_commands (given_by (λ name. values_after name said ps)) (words_after said (further word ∷ ps)) (two_texts (codes "command") said word (further_words ps) e)

word_by : (b : Bool) (word : Text) (said : List NamedText) (f : List NamedText → Option (List NamedText)) (parts : Option (List Part)) → has_name (codes "command") said ≡ b → IsOnce said
    → ((more : List NamedText) → IsOnce more → job_then (f more) ≡ job_after more parts)
    → job_then (option_and_then f (with_text (codes "command", word) said)) ≡ job_after said (and_then (further word) parts)
word_by true word said f parts e once later =
    rw e (none_after said (further word) parts (λ ps. spent_word said word ps e))
word_by false word said f parts e once later =
    rw e (later (said ++ (codes "command", word) ∷ []) (once_more said (codes "command", word) e once) ∙ moved said (codes "command", word) (further word) parts (word_moved word said))

-- ---- one more option with its value

value_first : (b : Bool) (name n value : Text) (ps : List Part) → bytes_eq n name ≡ b → texts_of name ((n, value) ∷ []) ++ values_of name ps ≡ values_of name (option n value ∷ ps)
value_first true name n value ps e = rw e refl
value_first false name n value ps e = rw e refl

value_moved : (name n value : Text) (said : List NamedText) (ps : List Part) → texts_of name (said ++ (n, value) ∷ []) ++ values_of name ps ≡ texts_of name said ++ values_of name (option n value ∷ ps)
value_moved name n value said ps =
    ap (λ ts. ts ++ values_of name ps) (texts_last name said (n, value)) ∙ append_assoc (texts_of name said) (texts_of name ((n, value) ∷ [])) (values_of name ps)
    ∙ ap (λ vs. texts_of name said ++ vs) (value_first (bytes_eq n name) name n value ps refl)

no_command : (n value : Text) (said : List NamedText) (ps : List Part) → bytes_eq n (codes "command") ≡ false
    → texts_of (codes "command") (said ++ (n, value) ∷ []) ++ further_words ps ≡ texts_of (codes "command") said ++ further_words (option n value ∷ ps)
no_command n value said ps other =
    ap (λ ts. ts ++ further_words ps) (texts_last (codes "command") said (n, value) ∙ ap (λ b. texts_of (codes "command") said ++ cond b (value ∷ []) []) other ∙ append-nil (texts_of (codes "command") said))

option_moved : (n value : Text) (said : List NamedText) (ps : List Part) → bytes_eq n (codes "command") ≡ false → asked_after (said ++ (n, value) ∷ []) ps ≡ asked_after said (option n value ∷ ps)
option_moved n value said ps other =
    λ i. job_of (given_by (λ name. value_moved name n value said ps i)) (no_command n value said ps other i)

apart : (name : Text) → is_among name option_names ≡ true → bytes_eq name (codes "command") ≡ false
apart name among = by_name (λ n. bytes_eq n (codes "command") ≡ false) name among refl refl refl refl

-- an option that comes again
spent : (name value : Text) (said : List NamedText) (ps : List Part) → is_among name option_names ≡ true → has_name name said ≡ true → asked_after said (option name value ∷ ps) ≡ None
spent name value said ps among e =
    bad_values (λ n. values_after n said (option name value ∷ ps)) (words_after said ps) name among
    (rw (bytes_eq-self name) (two_texts name said value (values_of name ps) e))

option_by : (b : Bool) (name value : Text) (said : List NamedText) (f : List NamedText → Option (List NamedText)) (parts : Option (List Part)) → has_name name said ≡ b → is_among name option_names ≡ true
    → IsOnce said → ((more : List NamedText) → IsOnce more → job_then (f more) ≡ job_after more parts)
    → job_then (option_and_then f (with_text (name, value) said)) ≡ job_after said (and_then (option name value) parts)
option_by true name value said f parts e among once later = rw e (none_after said (option name value) parts (λ ps. spent name value said ps among e))
option_by false name value said f parts e among once later =
    rw e (later (said ++ (name, value) ∷ []) (once_more said (name, value) e once)
    ∙ moved said (name, value) (option name value) parts (λ ps. option_moved name value said ps (apart name among)))

-- ---- the words, backwards

abbrev by_dash : Option Text → Bool → List NamedText → List Text → Option (List NamedText)
by_dash = reads begins_with_dash option_names

pub record AsksAll (words : List Text) : Type 0 where
  pub between : (said : List NamedText) → IsOnce said → job_then (by_dash None false said words) ≡ job_after said (parts_from None words)
  pub behind : (said : List NamedText) → IsOnce said → job_then (by_dash None true said words) ≡ job_after said (Some (map further words))
  pub waits : (name : Text) (said : List NamedText) → is_among name option_names ≡ true → IsOnce said
      → job_then (by_dash (Some name) false said words) ≡ job_after said (parts_from (Some name) words)

pub among_of : (b : Bool) (word : Text) → bytes_eq (take 2 word) (codes "--") ≡ b → is_option option_names word ≡ true → is_among (name_in word) option_names ≡ true
among_of true word e opt = rw e at opt
among_of false word e opt = let bad : false ≡ true = rw e at opt in absurd (true≢false (sym bad))

module _ (word : Text) (rest : List Text) (later : AsksAll rest) where
  behind_word : (said : List NamedText) → IsOnce said → job_then (by_dash None true said (word ∷ rest)) ≡ job_after said (Some (map further (word ∷ rest)))
  behind_word said once = word_by (has_name (codes "command") said) word said (λ more. by_dash None true more rest) (Some (map further rest)) refl once later.behind

  waits_by : (dash : Bool) (name : Text) (said : List NamedText) → begins_with_dash word ≡ dash → is_among name option_names ≡ true → IsOnce said
      → job_then (by_dash (Some name) false said (word ∷ rest)) ≡ job_after said (parts_from (Some name) (word ∷ rest))
  waits_by true name said dash among once = rw dash refl
  waits_by false name said dash among once =
      rw dash (option_by (has_name name said) name word said (λ more. by_dash None false more rest) (parts_from None rest) refl among once later.between)

  plain_by : (dash : Bool) (said : List NamedText) → begins_with_dash word ≡ dash → bytes_eq word (codes "--") ≡ false → is_option option_names word ≡ false → IsOnce said
      → job_then (by_dash None false said (word ∷ rest)) ≡ job_after said (parts_from None (word ∷ rest))
  plain_by true said dash two opt once = rw (two, opt, dash) refl
  plain_by false said dash two opt once =
      rw (two, opt, dash) (word_by (has_name (codes "command") said) word said (λ more. by_dash None false more rest) (parts_from None rest) refl once later.between)

  valued_by : (value : Option Text) (said : List NamedText) → value_in word ≡ value → bytes_eq word (codes "--") ≡ false → is_option option_names word ≡ true → IsOnce said
      → job_then (by_dash None false said (word ∷ rest)) ≡ job_after said (parts_from None (word ∷ rest))
  valued_by None said val two opt once =
      rw (two, opt, val) (later.waits (name_in word) said (among_of (bytes_eq (take 2 word) (codes "--")) word refl opt) once)
  valued_by (Some value) said val two opt once =
      rw (two, opt, val) (option_by (has_name (name_in word) said) (name_in word) value said (λ more. by_dash None false more rest) (parts_from None rest) refl
      (among_of (bytes_eq (take 2 word) (codes "--")) word refl opt) once later.between)

  between_by : (two opt : Bool) (said : List NamedText) → bytes_eq word (codes "--") ≡ two → is_option option_names word ≡ opt → IsOnce said
      → job_then (by_dash None false said (word ∷ rest)) ≡ job_after said (parts_from None (word ∷ rest))
  between_by true opt said two is once = rw two (later.behind said once)
  between_by false true said two is once = valued_by (value_in word) said refl two is once
  between_by false false said two is once = plain_by (begins_with_dash word) said refl two is once

asks_all : (words : List Text) → AsksAll words
asks_all [] = record { between = λ said once. at_end said once; behind = λ said once. at_end said once; waits = λ name said among once. refl }
asks_all (word ∷ rest) = record {
  between = λ said once. between_by word rest (asks_all rest) (bytes_eq word (codes "--")) (is_option option_names word) said refl refl once;
  behind = λ said once. behind_word word rest (asks_all rest) said once;
  waits = λ name said among once. waits_by word rest (asks_all rest) (begins_with_dash word) name said refl among once;
}

-- the reading of the walk asks for the grammar's job
pub asks_once : (words : List Text) → job_then (by_dash None false [] words) ≡ job_asked words
asks_once words = (asks_all words).between [] (record { each = λ name. refl })
