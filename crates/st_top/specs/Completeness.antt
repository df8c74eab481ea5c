-- What a call has to end with: after a read that failed, and where nothing is in its way.
use Rattle.std.specs.Prelude.{◌≡◌, ℕ, ◌-◌, ◌^◌, ◌<◌, ◌≤◌, List, length, Option, Some, None, Ok as read_ok}
use Rattle.st_io.specs.declared.reading.TheConstants.{MAX_BYTES}
use Rattle.st_grammar.specs.declared.doc.Doc.{Doc}
use Rattle.st_grammar.specs.Reading.{document_of}
use Rattle.st_replay.specs.declared.status.Status.{Status}
use Rattle.st_replay.specs.declared.status.Status.TheVariants.{Ok, Usage, ReadFault, TooLong, BadInput, JournalFull, Illegal, WriteFault, OutOfMemory}
use Rattle.st_top.specs.declared.task.Task.{Task}
use Rattle.st_top.specs.declared.task.Reading.{Reading}
use Rattle.st_top.specs.declared.task.Reading.TheVariants as readings
use Rattle.st_top.specs.declared.task.Way.{Way}
use Rattle.st_top.specs.declared.task.Way.TheVariants.{Nothing, Reads, Makes}
use Rattle.st_top.specs.Ways.{way_of, tree_doc}
use Rattle.st_serial.specs.Most.{HasRoom}
use Rattle.st_serial.specs.Serial.{Run}
use Rattle.st_serial.specs.Kept.{groups_of}
use Rattle.st_replay.specs.Replaying.{Replay, replay_of, AreLegal}
use Rattle.st_top.specs.Answer.{run_of}

-- a call in which a read failed tells it, unless that line could not be written, or memory was refused
abbrev pub IsAfterReadFault : Status → Type 0
IsAfterReadFault Ok = ⊥
IsAfterReadFault Usage = ⊥
IsAfterReadFault ReadFault = Unit {0}
IsAfterReadFault TooLong = ⊥
IsAfterReadFault (BadInput line kind) = ⊥
IsAfterReadFault (JournalFull group) = ⊥
IsAfterReadFault (Illegal group entry) = ⊥
IsAfterReadFault WriteFault = Unit {0}
IsAfterReadFault OutOfMemory = Unit {0}

-- nothing failed: a count of faults is as it was, and could have risen
pub record IsFaultless (before now : ℕ) : Type 0 where
  pub still : now ≡ before
  pub below : before < 2 ^ 64 - 1

-- all that a source has left is told: few enough bytes, which declare a document, and of that document this holds
pub record HasDocument (left : Option (List ℕ)) (Holds : Doc → Type 0) : Type 0 where
  pub bytes : List ℕ
  pub doc : Doc
  pub told : left ≡ Some bytes
  pub few : length bytes ≤ MAX_BYTES
  pub declared : document_of bytes ≡ read_ok doc
  pub holds : Holds doc

-- no event of the run that there is meets a full journal
abbrev pub MeetsNoFull : Option Run → Type 0
MeetsNoFull None = Unit {0}
MeetsNoFull (Some run) = run.full ≡ None

-- a task can be done on a document to its end: where it makes a run, this meets no full journal
abbrev pub CanBeDoneOn : Task → Doc → Type 0
CanBeDoneOn task doc = MeetsNoFull (run_of task doc)

-- all that a source has left is told: few enough bytes, which declare a document with journals, and these are legal
pub record HasJournals (left : Option (List ℕ)) : Type 0 where
  pub bytes : List ℕ
  pub replay : Replay
  pub told : left ≡ Some bytes
  pub few : length bytes ≤ MAX_BYTES
  pub declared : replay_of bytes ≡ read_ok replay
  pub legal : AreLegal (groups_of replay.doc) replay.journals

-- the input of what is read: of a run by threads a document whose scripts can fill no journal
abbrev pub CanBeRead : Reading → Option (List ℕ) → Type 0
CanBeRead (readings.Doc task) left = HasDocument left (CanBeDoneOn task)
CanBeRead (readings.Run form) left = HasDocument left HasRoom
CanBeRead (readings.Journals form) left = HasJournals left

-- the words ask for a task that can be done: on the document that the source gives, or on that of a fat tree
abbrev pub CanBeDoneBy : Way → Option (List ℕ) → Type 0
CanBeDoneBy Nothing left = ⊥
CanBeDoneBy (Reads reading) left = CanBeRead reading left
CanBeDoneBy (Makes task tree) left = CanBeDoneOn task (tree_doc tree)

abbrev pub CanBeDone : List (List ℕ) → Option (List ℕ) → Type 0
CanBeDone words left = CanBeDoneBy (way_of words) left
