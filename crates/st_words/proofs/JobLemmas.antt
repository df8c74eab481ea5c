-- Each job is asked for by its words, and the order of the parts does not matter.
use Rattle.std.proofs.Common.{◌≡◌, ◌∙◌, ◌<◌, ◌^◌, ◌++◌, ℕ, Bool, true, false, List, [], ◌∷◌, ap, sym, refl, codes, true≢false, Option, Some, None, option_map}
use Rattle.std.specs.List.{filter_map, cons_option}
use Rattle.st_text.proofs.NumberLemmas.{numbers_again}
use Rattle.st_words.specs.declared.job.Form.TheVariants as form
use Rattle.st_words.specs.declared.job.Pods.{Pods}
use Rattle.st_words.specs.declared.job.Pods.TheVariants.{Four, Six, Eight, Ten}
use Rattle.st_words.specs.declared.job.Job.TheVariants.{Serial, Run, Replay, Check, Roll, Revert, Gen, Demo}
use Rattle.st_words.specs.Grammar.{Text, Part, option_names, is_among, value_of, values_of, further_word, further_words}
use Rattle.st_words.specs.Jobs.{given_by, job_of, job_in, job_asked}
use Rattle.st_words.specs.Laws.{AsksForEachJob, AsksInAnyOrder, words_for}
use Rattle.st_words.proofs.Refusals.{is_bad, bad_values, bad_commands}

-- ---- each job

gen_asked : (p : Pods) (s : ℕ) → s < 2 ^ 32 → job_asked (words_for (Gen (record { pods = p; seed = s }))) ≡ Some (Gen (record { pods = p; seed = s }))
gen_asked Four s small = ap (λ (o : Option ℕ). option_map Gen (option_map (λ (n : ℕ). record { pods = Four; seed = n }) o)) (numbers_again s small)
gen_asked Six s small = ap (λ (o : Option ℕ). option_map Gen (option_map (λ (n : ℕ). record { pods = Six; seed = n }) o)) (numbers_again s small)
gen_asked Eight s small = ap (λ (o : Option ℕ). option_map Gen (option_map (λ (n : ℕ). record { pods = Eight; seed = n }) o)) (numbers_again s small)
gen_asked Ten s small = ap (λ (o : Option ℕ). option_map Gen (option_map (λ (n : ℕ). record { pods = Ten; seed = n }) o)) (numbers_again s small)

demo_asked : (p : Pods) (s : ℕ) → s < 2 ^ 32 → job_asked (words_for (Demo (record { pods = p; seed = s }))) ≡ Some (Demo (record { pods = p; seed = s }))
demo_asked Four s small = ap (λ (o : Option ℕ). option_map Demo (option_map (λ (n : ℕ). record { pods = Four; seed = n }) o)) (numbers_again s small)
demo_asked Six s small = ap (λ (o : Option ℕ). option_map Demo (option_map (λ (n : ℕ). record { pods = Six; seed = n }) o)) (numbers_again s small)
demo_asked Eight s small = ap (λ (o : Option ℕ). option_map Demo (option_map (λ (n : ℕ). record { pods = Eight; seed = n }) o)) (numbers_again s small)
demo_asked Ten s small = ap (λ (o : Option ℕ). option_map Demo (option_map (λ (n : ℕ). record { pods = Ten; seed = n }) o)) (numbers_again s small)

pub each_job_asked : AsksForEachJob
each_job_asked (Serial form.Text) small = refl
each_job_asked (Serial form.Json) small = refl
each_job_asked (Serial form.Replay) small = refl
each_job_asked (Run form.Text) small = refl
each_job_asked (Run form.Json) small = refl
each_job_asked (Run form.Replay) small = refl
each_job_asked (Replay form.Text) small = refl
each_job_asked (Replay form.Json) small = refl
each_job_asked (Replay form.Replay) small = refl
each_job_asked Check small = refl
each_job_asked (Roll n) small = ap (λ (o : Option ℕ). option_map Roll o) (numbers_again n small)
each_job_asked (Revert n) small = ap (λ (o : Option ℕ). option_map Revert o) (numbers_again n small)
each_job_asked (Gen tree) small = gen_asked tree.pods tree.seed small
each_job_asked (Demo tree) small = demo_asked tree.pods tree.seed small

-- ---- in any order

abbrev both : Option Text → Option Text → Bool
both None p = false
both (Some x) None = false
both (Some x) (Some y) = true

both_swapped : (o p : Option Text) → both o p ≡ true → both p o ≡ true
both_swapped None p e = absurd (true≢false (sym e))
both_swapped (Some x) None e = absurd (true≢false (sym e))
both_swapped (Some x) (Some y) e = refl

swap_options : (o p : Option Text) (xs : List Text) → both o p ≡ false → cons_option o (cons_option p xs) ≡ cons_option p (cons_option o xs)
swap_options None p xs e = refl
swap_options (Some x) None xs e = refl
swap_options (Some x) (Some y) xs e = absurd (true≢false e)

two_options : (o p : Option Text) (xs : List Text) → both o p ≡ true → is_bad (cons_option o (cons_option p xs)) ≡ true
two_options None p xs e = absurd (true≢false (sym e))
two_options (Some x) None xs e = absurd (true≢false (sym e))
two_options (Some x) (Some y) xs e = refl

bad_and_more : (o : Option Text) (xs : List Text) → is_bad xs ≡ true → is_bad (cons_option o xs) ≡ true
bad_and_more None xs e = e
bad_and_more (Some x) [] e = absurd (true≢false (sym e))
bad_and_more (Some x) (y ∷ xs) e = refl

module _ (f : Part → Option Text) (a b : Part) (behind : List Part) where
  swap_in : (before : List Part) → both (f a) (f b) ≡ false → filter_map f (before ++ a ∷ b ∷ behind) ≡ filter_map f (before ++ b ∷ a ∷ behind)
  swap_in [] e = swap_options (f a) (f b) (filter_map f behind) e
  swap_in (q ∷ before) e = ap (λ (xs : List Text). cons_option (f q) xs) (swap_in before e)

  two_in : (before : List Part) → both (f a) (f b) ≡ true → is_bad (filter_map f (before ++ a ∷ b ∷ behind)) ≡ true
  two_in [] e = two_options (f a) (f b) (filter_map f behind) e
  two_in (q ∷ before) e = bad_and_more (f q) (filter_map f (before ++ a ∷ b ∷ behind)) (two_in before e)

-- two parts that say the same thing twice ask for nothing
module _ (before : List Part) (a b : Part) (behind : List Part) where
  abbrev parts : List Part
  parts = before ++ a ∷ b ∷ behind

  two_values_none : (name : Text) → is_among name option_names ≡ true → both (value_of name a) (value_of name b) ≡ true → job_in parts ≡ None
  two_values_none name among e = bad_values (λ n. values_of n parts) (further_words parts) name among (two_in (value_of name) a b behind before e)

  two_words_none : both (further_word a) (further_word b) ≡ true → job_in parts ≡ None
  two_words_none e = bad_commands (given_by (λ n. values_of n parts)) (further_words parts) (two_in further_word a b behind before e)

module _ (before : List Part) (a b : Part) (behind : List Part) where
  abbrev Swaps : Type 0
  Swaps = job_in (before ++ a ∷ b ∷ behind) ≡ job_in (before ++ b ∷ a ∷ behind)

  abbrev shares : Text → Bool
  shares name = both (value_of name a) (value_of name b)

  shared_value : (name : Text) → is_among name option_names ≡ true → shares name ≡ true → Swaps
  shared_value name among e = two_values_none before a b behind name among e ∙ sym (two_values_none before b a behind name among (both_swapped (value_of name a) (value_of name b) e))

  swap_by : (form pods seed to word : Bool) → shares (codes "form") ≡ form → shares (codes "pods") ≡ pods → shares (codes "seed") ≡ seed → shares (codes "to") ≡ to
      → both (further_word a) (further_word b) ≡ word → Swaps
  swap_by true pods seed to word e f g h k = shared_value (codes "form") refl e
  swap_by false true seed to word e f g h k = shared_value (codes "pods") refl f
  swap_by false false true to word e f g h k = shared_value (codes "seed") refl g
  swap_by false false false true word e f g h k = shared_value (codes "to") refl h
  swap_by false false false false true e f g h k = two_words_none before a b behind k ∙ sym (two_words_none before b a behind (both_swapped (further_word a) (further_word b) k))
  swap_by false false false false false e f g h k =
      let same = λ (name : Text) (apart : shares name ≡ false). swap_in (value_of name) a b behind before apart in
      λ i. job_of (record { form = same (codes "form") e i; pods = same (codes "pods") f i; seed = same (codes "seed") g i; to = same (codes "to") h i })
      (swap_in further_word a b behind before k i)

pub any_order : AsksInAnyOrder
any_order before a b behind =
    swap_by before a b behind (both (value_of (codes "form") a) (value_of (codes "form") b)) (both (value_of (codes "pods") a) (value_of (codes "pods") b))
    (both (value_of (codes "seed") a) (value_of (codes "seed") b)) (both (value_of (codes "to") a) (value_of (codes "to") b)) (both (further_word a) (further_word b))
    refl refl refl refl refl
