-- Where an option or the command has two values, or one that begins with a dash, no job is asked for.
use Rattle.std.proofs.Common.{◌≡◌, ◌&&◌, ℕ, Bool, true, false, cond, List, [], ◌∷◌, ap, sym, refl, codes, true≢false, Option, Some, None, option_map}
use Rattle.std.specs.Prelude.{option_and_then, option_to_list, length, nat_le, not}
use Rattle.std.specs.Str.{bytes_eq, all_ascii_digits}
use Rattle.std.specs.Str.Parse.{digits_value}
use Rattle.std.proofs.lemmas.Bool.{eqb-true}
use Rattle.std.proofs.Math.Bool.{and-false}
use Rattle.st_text.specs.Numbers.{number_of, has_leading_zero}
use Rattle.st_words.specs.declared.job.Form.TheVariants as form
use Rattle.st_words.specs.declared.job.Pods.{Pods}
use Rattle.st_words.specs.declared.job.Pods.TheVariants.{Four}
use Rattle.st_words.specs.declared.job.Job.TheVariants.{Serial, Run, Replay, Check, Roll, Revert, Gen, Demo}
use Rattle.st_words.specs.Grammar.{Text, option_names, is_among, begins_with_dash}
use Rattle.st_words.specs.Jobs.{Given, given_by, is_absent, goes_with, only, once, form_named, pods_named, form_of, pods_of, seed_of, to_of, form_alone, tree_alone, to_alone, job_alone, job_named, job_of}
use Rattle.st_words.proofs.Names.{by_name}

-- ---- values that nothing takes: two, or one that begins with a dash

abbrev pub is_bad : List Text → Bool
is_bad [] = false
is_bad (value ∷ []) = begins_with_dash value
is_bad (value ∷ next ∷ more) = true

-- of one value, or none
abbrev pub is_dashed : Option Text → Bool
is_dashed text = is_bad (option_to_list text)

bad_given : (values : List Text) → is_bad values ≡ true → is_absent values ≡ false
bad_given [] bad = absurd (true≢false (sym bad))
bad_given (value ∷ more) bad = refl

dashed_none : {A : Type 0} (named : Text → Option A) (value : Text) → ((rest : Text) → named (45 ∷ rest) ≡ None) → begins_with_dash value ≡ true → named value ≡ None
dashed_none named [] none dash = absurd (true≢false (sym dash))
dashed_none named (b ∷ rest) none dash = rw (eqb-true b 45 dash) (none rest)

bad_once : {A : Type 0} (absent : Option A) (named : Text → Option A) (values : List Text) → ((rest : Text) → named (45 ∷ rest) ≡ None) → is_bad values ≡ true → once absent named values ≡ None
bad_once absent named [] none bad = absurd (true≢false (sym bad))
bad_once absent named (value ∷ []) none bad = dashed_none named value none bad
bad_once absent named (value ∷ next ∷ more) none bad = refl

bad_form : (values : List Text) → is_bad values ≡ true → form_of values ≡ None
bad_form values bad = bad_once (Some form.Text) form_named values (λ rest. refl) bad

bad_pods : (values : List Text) → is_bad values ≡ true → pods_of values ≡ None
bad_pods values bad = bad_once (Some Four) pods_named values (λ rest. refl) bad

no_number : (some few digits plain small : Bool) (n : ℕ) → digits ≡ false → cond (some && few && digits && plain && small) (Some n) None ≡ None
no_number true true digits plain small n e = rw e refl
no_number true false digits plain small n e = refl
no_number false few digits plain small n e = refl

no_digits : (token : Text) → all_ascii_digits token ≡ false → number_of token ≡ None
no_digits token e = no_number (nat_le 1 (length token)) (nat_le (length token) 10) (all_ascii_digits token) (not (has_leading_zero token))
    (nat_le (digits_value 10 token) 4294967295) (digits_value 10 token) e

bad_seed : (values : List Text) → is_bad values ≡ true → seed_of values ≡ None
bad_seed values bad = bad_once (Some 0) number_of values (λ rest. no_digits (45 ∷ rest) refl) bad

bad_to : (values : List Text) → is_bad values ≡ true → to_of values ≡ None
bad_to values bad = bad_once None number_of values (λ rest. no_digits (45 ∷ rest) refl) bad

-- ---- no job where no kind of command takes what is given

none_of : {X : Type 0} (b : Bool) (x y : Option X) → x ≡ None → y ≡ None → cond b x y ≡ None
none_of true x y e f = e
none_of false x y e f = f

named_none : (command : Text) (given : Given) → form_alone given ≡ None → tree_alone given ≡ None → to_alone given ≡ None → only [] given ≡ false → job_named command given ≡ None
named_none command given form tree to some =
    let alone : job_alone Check given ≡ None = ap (λ b. cond b (Some Check) None) some in
    none_of _ _ _ (ap (option_map Serial) form) (none_of _ _ _ (ap (option_map Run) form) (none_of _ _ _ (ap (option_map Replay) form)
    (none_of _ _ _ alone (none_of _ _ _ (ap (option_map Roll) to) (none_of _ _ _ (ap (option_map Revert) to)
    (none_of _ _ _ (ap (option_map Gen) tree) (none_of (bytes_eq command (codes "demo")) _ _ (ap (option_map Demo) tree) refl)))))))

job_none : (given : Given) (commands : List Text) → form_alone given ≡ None → tree_alone given ≡ None → to_alone given ≡ None → only [] given ≡ false → job_of given commands ≡ None
job_none given [] form tree to some = refl
job_none given (command ∷ []) form tree to some = named_none command given form tree to some
job_none given (command ∷ next ∷ more) form tree to some = refl

-- ---- an option that a command does not take

none_unless : {X : Type 0} (b : Bool) (x : Option X) → b ≡ false → cond b x None ≡ None
none_unless true x e = absurd (true≢false e)
none_unless false x e = refl

module _ (values : Text → List Text) (names : List Text) where
  abbrev goes : Text → Bool
  goes name = goes_with names name (values name)

  not_only : (name : Text) → is_among name option_names ≡ true → is_among name names ≡ false → is_absent (values name) ≡ false → only names (given_by values) ≡ false
  not_only name among = by_name (λ n. is_among n names ≡ false → is_absent (values n) ≡ false → only names (given_by values) ≡ false) name among
      (λ other some. rw (other, some) refl)
      (λ other some. rw (other, some, and-false (goes (codes "form"))) refl)
      (λ other some. rw (other, some, and-false (goes (codes "form") && goes (codes "pods"))) refl)
      (λ other some. rw (other, some, and-false (goes (codes "form") && goes (codes "pods") && goes (codes "seed"))) refl)

-- ---- no job by bad values

none_then : {X Y : Type 0} (f : X → Option Y) (o : Option X) → ((x : X) → f x ≡ None) → option_and_then f o ≡ None
none_then f None none = refl
none_then f (Some x) none = none x

module _ (values : Text → List Text) (commands : List Text) where
  other_form : (name : Text) → is_among name option_names ≡ true → is_among name (codes "form" ∷ []) ≡ false → is_bad (values name) ≡ true → form_alone (given_by values) ≡ None
  other_form name among other bad = none_unless _ _ (not_only values (codes "form" ∷ []) name among other (bad_given (values name) bad))

  other_tree : (name : Text) → is_among name option_names ≡ true → is_among name (codes "pods" ∷ codes "seed" ∷ []) ≡ false → is_bad (values name) ≡ true → tree_alone (given_by values) ≡ None
  other_tree name among other bad = none_unless _ _ (not_only values (codes "pods" ∷ codes "seed" ∷ []) name among other (bad_given (values name) bad))

  other_to : (name : Text) → is_among name option_names ≡ true → is_among name (codes "to" ∷ []) ≡ false → is_bad (values name) ≡ true → to_alone (given_by values) ≡ None
  other_to name among other bad = none_unless _ _ (not_only values (codes "to" ∷ []) name among other (bad_given (values name) bad))

  some_given : (name : Text) → is_among name option_names ≡ true → is_bad (values name) ≡ true → only [] (given_by values) ≡ false
  some_given name among bad = not_only values [] name among refl (bad_given (values name) bad)

  by_form : is_bad (values (codes "form")) ≡ true → job_of (given_by values) commands ≡ None
  by_form bad = job_none (given_by values) commands (none_of _ _ _ (bad_form (values (codes "form")) bad) refl)
      (other_tree (codes "form") refl refl bad) (other_to (codes "form") refl refl bad) (some_given (codes "form") refl bad)

  by_pods : is_bad (values (codes "pods")) ≡ true → job_of (given_by values) commands ≡ None
  by_pods bad = job_none (given_by values) commands (other_form (codes "pods") refl refl bad)
      (none_of _ _ _ (ap (option_and_then (λ (p : Pods). option_map (λ (s : ℕ). record { pods = p; seed = s }) (seed_of (values (codes "seed"))))) (bad_pods (values (codes "pods")) bad)) refl)
      (other_to (codes "pods") refl refl bad) (some_given (codes "pods") refl bad)

  by_seed : is_bad (values (codes "seed")) ≡ true → job_of (given_by values) commands ≡ None
  by_seed bad = job_none (given_by values) commands (other_form (codes "seed") refl refl bad)
      (none_of _ _ _ (none_then _ (pods_of (values (codes "pods"))) (λ p. ap (option_map (λ (s : ℕ). record { pods = p; seed = s })) (bad_seed (values (codes "seed")) bad))) refl)
      (other_to (codes "seed") refl refl bad) (some_given (codes "seed") refl bad)

  by_to : is_bad (values (codes "to")) ≡ true → job_of (given_by values) commands ≡ None
  by_to bad = job_none (given_by values) commands (other_form (codes "to") refl refl bad) (other_tree (codes "to") refl refl bad)
      (none_of _ _ _ (bad_to (values (codes "to")) bad) refl) (some_given (codes "to") refl bad)

  pub bad_values : (name : Text) → is_among name option_names ≡ true → is_bad (values name) ≡ true → job_of (given_by values) commands ≡ None
  bad_values name among = by_name (λ n. is_bad (values n) ≡ true → job_of (given_by values) commands ≡ None) name among by_form by_pods by_seed by_to

-- ---- no job by bad commands

dashed_command : (given : Given) (command : Text) → begins_with_dash command ≡ true → job_named command given ≡ None
dashed_command given [] dash = absurd (true≢false (sym dash))
dashed_command given (b ∷ rest) dash = rw (eqb-true b 45 dash) refl

pub bad_commands : (given : Given) (commands : List Text) → is_bad commands ≡ true → job_of given commands ≡ None
bad_commands given [] bad = refl
bad_commands given (command ∷ []) bad = dashed_command given command bad
bad_commands given (command ∷ next ∷ more) bad = refl
