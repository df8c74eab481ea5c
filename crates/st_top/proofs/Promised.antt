-- Where nothing fails, promises hold at each moment: what `KeepsPromises` says of each, gathered.
use Rattle.std.specs.Prelude.{◌≡◌, ℕ, true, false, List, [], ◌∷◌, reverse, IsSome}
use Rattle.std.proofs.Common.{inl, inr}
use Rattle.st_net.specs.Groups.{Group}
use Rattle.st_event.specs.declared.journal.Entry.{Entry}
use Rattle.st_event.specs.declared.journal.Journal.{Journal}
use Rattle.st_event.specs.Legal.{AtEach}
use Rattle.st_event.specs.Network.{HasNoFail, KeepsPromises}
use Rattle.st_serial.specs.Kept.{AreKept, groups_of}
use Rattle.st_grammar.specs.declared.doc.Doc.{Doc}
use Rattle.st_replay.specs.declared.status.Status.TheVariants.{Ok}
use Rattle.st_top.specs.declared.task.Task.{Task}
use Rattle.st_top.specs.declared.task.Task.TheVariants.{Serial, Revert, Count, Print}
use Rattle.st_top.specs.Answer.{EndsOnDoc, Results, run_of}
use Rattle.st_top.specs.Promised.{AllHold, AllThroughout, PromisesHoldWithoutFailures}

-- of one journal, from the newest entry to the opening
hold_at_each : (g : Group) (past : List Entry) → HasNoFail past → AtEach (KeepsPromises g) past → AtEach (AllHold g) past
hold_at_each g [] none kept = kept.kept_actual none
hold_at_each g (entry ∷ past) none kept = (kept.0.kept_actual none, hold_at_each g past none.1 kept.1)

-- of the journals of all groups
all_throughout : (groups : List Group) (journals : List Journal) → AreKept groups journals → AllThroughout groups journals
all_throughout [] [] kept = tt
all_throughout [] (journal ∷ journals) kept = kept
all_throughout (g ∷ groups) [] kept = kept
all_throughout (g ∷ groups) (journal ∷ journals) kept =
    ((λ none. hold_at_each g (reverse journal.entries) none kept.0.promises), all_throughout groups journals kept.1)

-- the journals of a task that makes a run were kept
run_kept : (task : Task) (doc : Doc) (results : Results) (text : List ℕ) → IsSome (run_of task doc) → EndsOnDoc task doc results text Ok → AreKept (groups_of doc) results.journals
run_kept (Serial showing) doc results text some is = is.scripts.kept
run_kept (Revert n) doc results text some is = is.run.kept
run_kept Count doc results text some is = let no : false ≡ true = some in absurd (cc)
run_kept Print doc results text some is = let no : false ≡ true = some in absurd (cc)

pub promises_hold : PromisesHoldWithoutFailures
promises_hold task form doc results text (inl done) = all_throughout (groups_of doc) results.journals (run_kept task doc results text done.0 done.1)
promises_hold task form doc results text (inr threads) = all_throughout (groups_of doc) results.journals threads.run.kept
