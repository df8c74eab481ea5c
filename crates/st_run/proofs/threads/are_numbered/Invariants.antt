use Rattle.std.proofs.Common.{ℕ, ◌<◌, slice_index_or}
use Rattle.st_event.specs.declared.journal.Entry.{Entry}
use Rattle.st_run.specs.Running.{HasSmallNumber}
use Rattle.st_run.proofs.threads.are_numbered.Given as goal

abbrev pub invariant-loop-entry : goal.invariant-loop-entry
invariant-loop-entry l = (k : ℕ) (d : Entry) → k < l.entry-index → HasSmallNumber (slice_index_or l.entries k d).event
