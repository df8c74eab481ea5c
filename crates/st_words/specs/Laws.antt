-- Laws of the grammar of words.
use Rattle.std.specs.Prelude.{◌≡◌, ◌<◌, ◌^◌, ◌++◌, ℕ, List, [], ◌∷◌, Some, codes, decimal}
use Rattle.st_words.specs.declared.job.Form.{Form}
use Rattle.st_words.specs.declared.job.Form.TheVariants as form
use Rattle.st_words.specs.declared.job.Pods.{Pods}
use Rattle.st_words.specs.declared.job.Pods.TheVariants.{Four, Six, Eight, Ten}
use Rattle.st_words.specs.declared.job.FatTree.{FatTree}
use Rattle.st_words.specs.declared.job.Job.{Job}
use Rattle.st_words.specs.declared.job.Job.TheVariants.{Serial, Run, Replay, Check, Roll, Revert, Gen, Demo}
use Rattle.st_words.specs.Grammar.{Text, Part, parts_of}
use Rattle.st_words.specs.Jobs.{job_in, job_asked}
use Rattle.st_words.specs.Spelling.{Spells, flag_with}

-- what words spell is read
abbrev pub ReadsSpellings : Type 0
ReadsSpellings = (words : List Text) (parts : List Part) → Spells words parts → parts_of words ≡ Some parts

-- only what words spell is read
abbrev pub ReadsSpellingsAlone : Type 0
ReadsSpellingsAlone = (words : List Text) (parts : List Part) → parts_of words ≡ Some parts → Spells words parts

-- it does not matter in which order the parts stand
abbrev pub AsksInAnyOrder : Type 0
AsksInAnyOrder = (before : List Part) (a b : Part) (behind : List Part) → job_in (before ++ a ∷ b ∷ behind) ≡ job_in (before ++ b ∷ a ∷ behind)

abbrev pub form_name : Form → Text
form_name form.Text = codes "text"
form_name form.Json = codes "json"
form_name form.Replay = codes "replay"

abbrev pub pods_name : Pods → Text
pods_name Four = codes "4"
pods_name Six = codes "6"
pods_name Eight = codes "8"
pods_name Ten = codes "10"

abbrev pub form_words : Text → Form → List Text
form_words command f = command ∷ flag_with (codes "form") (form_name f) ∷ []

abbrev pub tree_words : Text → FatTree → List Text
tree_words command tree = command ∷ flag_with (codes "pods") (pods_name tree.pods) ∷ flag_with (codes "seed") (decimal tree.seed) ∷ []

abbrev pub to_words : Text → ℕ → List Text
to_words command n = command ∷ flag_with (codes "to") (decimal n) ∷ []

-- words that ask for a job
abbrev pub words_for : Job → List Text
words_for (Serial f) = form_words (codes "serial") f
words_for (Run f) = form_words (codes "run") f
words_for (Replay f) = form_words (codes "replay") f
words_for Check = codes "check" ∷ []
words_for (Roll n) = to_words (codes "roll") n
words_for (Revert n) = to_words (codes "revert") n
words_for (Gen tree) = tree_words (codes "gen") tree
words_for (Demo tree) = tree_words (codes "demo") tree

-- the number in a job, of its seed or of `to`; 0 where it has none
abbrev pub number_in : Job → ℕ
number_in (Serial f) = 0
number_in (Run f) = 0
number_in (Replay f) = 0
number_in Check = 0
number_in (Roll n) = n
number_in (Revert n) = n
number_in (Gen tree) = tree.seed
number_in (Demo tree) = tree.seed

-- each job is asked for by its words
abbrev pub AsksForEachJob : Type 0
AsksForEachJob = (job : Job) → number_in job < 2 ^ 32 → job_asked (words_for job) ≡ Some job
