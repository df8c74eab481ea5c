use Rattle.std.proofs.Common.{ℕ, ◌<◌, slice_index_or}
use Rattle.st_event.specs.declared.journal.Journal.{Journal}
use Rattle.st_run.specs.Running.{HasSmallNumbers}
use Rattle.st_run.proofs.threads.all_numbered.Given as goal

abbrev pub invariant-loop-journal : goal.invariant-loop-journal
invariant-loop-journal l = (k : ℕ) (d : Journal) → k < l.journal-index → HasSmallNumbers (slice_index_or l.journals k d)
