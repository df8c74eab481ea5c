-- What a call that ended with Ok says of a document's promises, where no entity fails of itself.
use Rattle.std.specs.Prelude.{ℕ, ◌<◌, List, [], ◌∷◌, reverse, IsSome, ◌⊎◌}
use Rattle.st_net.specs.Demands.{demand_count, HoldsIn}
use Rattle.st_net.specs.Groups.{Group}
use Rattle.st_event.specs.declared.journal.Entry.{Entry}
use Rattle.st_event.specs.declared.journal.Journal.{Journal}
use Rattle.st_event.specs.Legal.{AtEach}
use Rattle.st_event.specs.Network.{HasNoFail}
use Rattle.st_event.specs.Observed.{actual}
use Rattle.st_grammar.specs.declared.doc.Doc.{Doc}
use Rattle.st_words.specs.declared.job.Form.{Form}
use Rattle.st_replay.specs.declared.status.Status.TheVariants.{Ok}
use Rattle.st_serial.specs.Kept.{groups_of}
use Rattle.st_top.specs.declared.task.Task.{Task}
use Rattle.st_top.specs.Answer.{Results, EndsOnDoc, EndsOnRunDoc, run_of}

-- each promise that held at the opening holds in the network after these entries
abbrev pub AllHold : Group → List Entry → Type 0
AllHold g past = (i : ℕ) → i < demand_count g → HoldsIn g (actual g []) i → HoldsIn g (actual g past) i

-- where the journal has no `fail`, so it is at each of its moments
abbrev pub HoldsThroughout : Group → Journal → Type 0
HoldsThroughout g journal = HasNoFail (reverse journal.entries) → AtEach (AllHold g) (reverse journal.entries)

-- each group has its journal, and so it is with that
abbrev pub AllThroughout : List Group → List Journal → Type 0
AllThroughout [] [] = Unit {0}
AllThroughout [] (journal ∷ journals) = ⊥
AllThroughout (g ∷ groups) [] = ⊥
AllThroughout (g ∷ groups) (journal ∷ journals) = HoldsThroughout g journal × AllThroughout groups journals

-- a task that makes a run of a document was done on it, or threads ran its scripts, and the call ended with Ok
abbrev pub EndsWell : Task → Form → Doc → Results → List ℕ → Type 0
EndsWell task form doc results text = (IsSome (run_of task doc) × EndsOnDoc task doc results text Ok) ⊎ EndsOnRunDoc form doc results text Ok

-- so it is with the journals that such a call hands back
abbrev pub PromisesHoldWithoutFailures : Type 0
PromisesHoldWithoutFailures = (task : Task) (form : Form) (doc : Doc) (results : Results) (text : List ℕ) → EndsWell task form doc results text → AllThroughout (groups_of doc) results.journals
