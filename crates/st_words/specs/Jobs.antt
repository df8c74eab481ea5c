-- What the words ask for: each option at most once, exactly one further word, which is a command, and only the options that go with it.
use Rattle.std.specs.Prelude.{◌&&◌, ◌||◌, ℕ, Bool, true, false, List, [], ◌∷◌, Option, Some, None, codes, if◌then◌else◌, option_map, option_and_then}
use Rattle.std.specs.Str.{bytes_eq}
use Rattle.st_text.specs.Numbers.{number_of}
use Rattle.st_words.specs.Grammar.{Text, Part, is_among, parts_of, values_of, further_words}
use Rattle.st_words.specs.declared.job.Form.{Form}
use Rattle.st_words.specs.declared.job.Form.TheVariants as form
use Rattle.st_words.specs.declared.job.Pods.{Pods}
use Rattle.st_words.specs.declared.job.Pods.TheVariants.{Four, Six, Eight, Ten}
use Rattle.st_words.specs.declared.job.FatTree.{FatTree}
use Rattle.st_words.specs.declared.job.Job.{Job}
use Rattle.st_words.specs.declared.job.Job.TheVariants.{Serial, Run, Replay, Check, Roll, Revert, Gen, Demo}

-- ---- what is given

-- the values that each option has, in order
pub record Given : Type 0 where
  pub form : List Text
  pub pods : List Text
  pub seed : List Text
  pub to : List Text

-- the values that stand under the name of each option
abbrev pub given_by : (Text → List Text) → Given
given_by values = record {
  form = values (codes "form");
  pods = values (codes "pods");
  seed = values (codes "seed");
  to = values (codes "to");
}

-- an option has no value
abbrev pub is_absent : List Text → Bool
is_absent [] = true
is_absent (value ∷ more) = false

-- the option of this name is among these, or has no value
abbrev pub goes_with : List Text → Text → List Text → Bool
goes_with names name values = is_among name names || is_absent values

-- no other option is given than those of these names
abbrev pub only : List Text → Given → Bool
only names given = goes_with names (codes "form") given.form && goes_with names (codes "pods") given.pods
    && goes_with names (codes "seed") given.seed && goes_with names (codes "to") given.to

-- ---- what the values of an option say

-- the form that a value names
abbrev pub form_named : Text → Option Form
form_named name = if bytes_eq name (codes "text") then Some form.Text
    else (if bytes_eq name (codes "json") then Some form.Json
    else (if bytes_eq name (codes "replay") then Some form.Replay else None))

-- the pods that a value names
abbrev pub pods_named : Text → Option Pods
pods_named name = if bytes_eq name (codes "4") then Some Four
    else (if bytes_eq name (codes "6") then Some Six
    else (if bytes_eq name (codes "8") then Some Eight
    else (if bytes_eq name (codes "10") then Some Ten else None)))

-- how many pods they are
abbrev pub pod_count : Pods → ℕ
pod_count Four = 4
pod_count Six = 6
pod_count Eight = 8
pod_count Ten = 10

-- an option is given at most once. `absent` is what it stands for where it is not given: None where it has to be
abbrev pub once : {A : Type 0} → Option A → (Text → Option A) → List Text → Option A
once absent named [] = absent
once absent named (value ∷ []) = named value
once absent named (value ∷ next ∷ more) = None

-- `text`, `json` or `replay`; `text` where it is absent
abbrev pub form_of : List Text → Option Form
form_of values = once (Some form.Text) form_named values

-- 4, 6, 8 or 10; 4 where they are absent
abbrev pub pods_of : List Text → Option Pods
pods_of values = once (Some Four) pods_named values

-- a number; 0 where it is absent
abbrev pub seed_of : List Text → Option ℕ
seed_of values = once (Some 0) number_of values

-- a number, which has to be given
abbrev pub to_of : List Text → Option ℕ
to_of values = once None number_of values

-- ---- which options go with a command

-- the form, where no other option is given
abbrev pub form_alone : Given → Option Form
form_alone given = if only (codes "form" ∷ []) given then form_of given.form else None

-- pods and seed, where no other option is given
abbrev pub tree_alone : Given → Option FatTree
tree_alone given = if only (codes "pods" ∷ codes "seed" ∷ []) given
    then option_and_then (λ p. option_map (λ s. record { pods = p; seed = s }) (seed_of given.seed)) (pods_of given.pods) else None

-- the number of `to`, where no other option is given
abbrev pub to_alone : Given → Option ℕ
to_alone given = if only (codes "to" ∷ []) given then to_of given.to else None

-- the job, where no option is given
abbrev pub job_alone : Job → Given → Option Job
job_alone job given = if only [] given then Some job else None

-- the job of a command with the options that go with it
abbrev pub job_named : Text → Given → Option Job
job_named command given = if bytes_eq command (codes "serial") then option_map Serial (form_alone given)
    else (if bytes_eq command (codes "run") then option_map Run (form_alone given)
    else (if bytes_eq command (codes "replay") then option_map Replay (form_alone given)
    else (if bytes_eq command (codes "check") then job_alone Check given
    else (if bytes_eq command (codes "roll") then option_map Roll (to_alone given)
    else (if bytes_eq command (codes "revert") then option_map Revert (to_alone given)
    else (if bytes_eq command (codes "gen") then option_map Gen (tree_alone given)
    else (if bytes_eq command (codes "demo") then option_map Demo (tree_alone given) else None)))))))

-- ---- the job

-- the job by the values of each option and the further words, of which there is exactly one
abbrev pub job_of : Given → List Text → Option Job
job_of given [] = None
job_of given (command ∷ []) = job_named command given
job_of given (command ∷ next ∷ more) = None

-- the job that the parts ask for
abbrev pub job_in : List Part → Option Job
job_in parts = job_of (given_by (λ name. values_of name parts)) (further_words parts)

-- what the words ask for; None exactly where they are not in the grammar
abbrev pub job_asked : List Text → Option Job
job_asked words = option_and_then job_in (parts_of words)
