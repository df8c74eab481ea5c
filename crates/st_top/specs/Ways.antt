-- What the words ask for: a task, and where the document comes from that it is done on.
use Rattle.std.specs.Prelude.{ℕ, List, Bool, true, false, Option, Some, None}
use Rattle.st_grammar.specs.declared.doc.Doc.{Doc}
use Rattle.st_words.specs.declared.job.FatTree.{FatTree}
use Rattle.st_words.specs.declared.job.Job.{Job}
use Rattle.st_words.specs.declared.job.Job.TheVariants as jobs
use Rattle.st_words.specs.Jobs.{pod_count, job_asked}
use Rattle.st_gen.specs.Generated.{generated}
use Rattle.st_top.specs.declared.task.Task.TheVariants.{Serial, Revert, Count, Print}
use Rattle.st_top.specs.declared.task.Showing.TheVariants.{In, Sums, Roll}
use Rattle.st_top.specs.declared.task.Way.{Way}
use Rattle.st_top.specs.declared.task.Way.TheVariants.{Nothing, Reads, Makes}
use Rattle.st_top.specs.declared.task.Reading.TheVariants as readings

-- the way to a job
abbrev pub way_to : Job → Way
way_to (jobs.Serial form) = Reads (readings.Doc (Serial (In form)))
way_to (jobs.Run form) = Reads (readings.Run form)
way_to (jobs.Replay form) = Reads (readings.Journals form)
way_to (jobs.Roll firmware) = Reads (readings.Doc (Serial (Roll firmware)))
way_to (jobs.Revert n) = Reads (readings.Doc (Revert n))
way_to jobs.Check = Reads (readings.Doc Count)
way_to (jobs.Gen tree) = Makes Print tree
way_to (jobs.Demo tree) = Makes (Serial (Sums tree)) tree

abbrev pub way_by : Option Job → Way
way_by None = Nothing
way_by (Some job) = way_to job

-- the way that words ask for
abbrev pub way_of : List (List ℕ) → Way
way_of words = way_by (job_asked words)

-- whether the source is read on it
abbrev pub is_read_on : Way → Bool
is_read_on Nothing = false
is_read_on (Reads reading) = true
is_read_on (Makes task tree) = false

-- whether threads are needed on it
abbrev pub is_run : Way → Bool
is_run Nothing = false
is_run (Reads (readings.Doc task)) = false
is_run (Reads (readings.Run form)) = true
is_run (Reads (readings.Journals form)) = false
is_run (Makes task tree) = false

-- the document that is generated for a fat tree
abbrev pub tree_doc : FatTree → Doc
tree_doc tree = generated (pod_count tree.pods) tree.seed
