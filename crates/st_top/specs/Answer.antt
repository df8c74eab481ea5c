-- How a call ends, and what that says of what was read, of the journals, and of what was written.
use Rattle.std.specs.Prelude.{◌≡◌, ℕ, ◌+◌, ◌≤◌, List, [], length, Option, Some, None, Result, Ok as read_ok, Err, ◌⊎◌}
use Rattle.std.specs.Io.KnownBytes.{Consumes, Appends, Keeps, IsAtEnd}
use Rattle.st_io.specs.declared.reading.TheConstants.{MAX_BYTES}
use Rattle.st_io.specs.Outside.{Rose}
use Rattle.st_io.specs.Output.{AppendsPrefix}
use Rattle.st_event.specs.declared.act.Log.{Log}
use Rattle.st_event.specs.declared.journal.Journal.{Journal}
use Rattle.st_grammar.specs.declared.doc.Doc.{Doc}
use Rattle.st_grammar.specs.Reading.{document_of}
use Rattle.st_token.specs.declared.fault.LineFault.{LineFault}
use Rattle.st_replay.specs.declared.status.Status.{Status}
use Rattle.st_replay.specs.declared.status.Status.TheVariants.{Ok, Usage, ReadFault, TooLong, BadInput, JournalFull, Illegal, WriteFault, OutOfMemory}
use Rattle.st_words.specs.declared.job.FatTree.{FatTree}
use Rattle.st_words.specs.declared.job.Form.{Form}
use Rattle.st_doc.specs.Printed.{printed_doc}
use Rattle.st_top.specs.declared.task.Task.{Task}
use Rattle.st_top.specs.declared.task.Task.TheVariants.{Serial, Revert, Count, Print}
use Rattle.st_top.specs.declared.task.Showing.{Showing}
use Rattle.st_top.specs.declared.task.Showing.TheVariants.{In}
use Rattle.st_top.specs.declared.task.Reading.{Reading}
use Rattle.st_top.specs.declared.task.Reading.TheVariants as readings
use Rattle.st_top.specs.declared.task.Way.{Way}
use Rattle.st_top.specs.declared.task.Way.TheVariants.{Nothing, Reads, Makes}
use Rattle.st_top.specs.Ways.{way_of, tree_doc}
use Rattle.st_serial.specs.Serial.{Run, journals_from, logs_from, serial_end, serial_full}
use Rattle.st_replay.specs.Again.{histories_of}
use Rattle.st_top.specs.Output.{shown, check_text}
use Rattle.st_top.specs.Reverting.{AreLedBack, revert_text, reverted}
use Rattle.st_serial.specs.Kept.{AreKept, groups_of}
use Rattle.st_run.specs.Running.{IsRunOf}
use Rattle.st_replay.specs.Replaying.{Replay, replay_of, IsFirstIllegal}
use Rattle.st_replay.specs.Statuses.{fault_line, status_line}

-- what a call hands back: the journals that the groups kept, and the logs of the applications
pub record Results : Type 0 where
  pub journals : List Journal
  pub logs : List Log

abbrev pub no_results : Results
no_results = record { journals = []; logs = [] }

-- the run that a task makes of a document, if it makes one
abbrev pub run_of : Task → Doc → Option Run
run_of (Serial showing) doc = Some (serial_end doc)
run_of (Revert n) doc = Some (reverted n doc)
run_of Count doc = None
run_of Print doc = None

-- journals and logs are those of a run, and the journals are legal and kept
pub record AreOfRun (run : Run) (doc : Doc) (results : Results) : Type 0 where
  pub order : results.journals ≡ journals_from 0 run.groups
  pub seen : results.logs ≡ logs_from 0 run.logs
  pub kept : AreKept (groups_of doc) results.journals

-- they are those of the script order: `serial_run` and `serial_logs`
abbrev pub AreOfScripts : Doc → Results → Type 0
AreOfScripts doc results = AreOfRun (serial_end doc) doc results

-- the scripts of a document were carried out, no event met a full journal, and this is shown of what came of them
pub record RunsSerial (showing : Showing) (doc : Doc) (results : Results) (text : List ℕ) : Type 0 where
  pub scripts : AreOfScripts doc results
  pub room : serial_full doc ≡ None
  pub report : text ≡ shown showing doc (histories_of (groups_of doc) results.journals) results.logs

-- they were, and each group was led back to a version, no event met a full journal, and this is the text
pub record Reverts (n : ℕ) (doc : Doc) (results : Results) (text : List ℕ) : Type 0 where
  pub run : AreOfRun (reverted n doc) doc results
  pub room : (reverted n doc).full ≡ None
  pub report : text ≡ revert_text n doc (serial_end doc).groups (histories_of (groups_of doc) results.journals) results.logs
  pub led : AreLedBack n (serial_end doc).groups (reverted n doc).groups

-- a run came up to an event of this group that met a full journal, and this is the text
pub record MeetsFull (run : Run) (doc : Doc) (results : Results) (text : List ℕ) (group : ℕ) : Type 0 where
  pub run_is : AreOfRun run doc results
  pub full : run.full ≡ Some group
  pub told : text ≡ status_line doc.groups (JournalFull group)

-- so it is of the run that there is
abbrev pub MeetsFullIn : Option Run → Doc → Results → List ℕ → ℕ → Type 0
MeetsFullIn None doc results text group = ⊥
MeetsFullIn (Some run) doc results text group = MeetsFull run doc results text group

-- its parts were counted
pub record Counts (doc : Doc) (results : Results) (text : List ℕ) : Type 0 where
  pub none : results ≡ no_results
  pub report : text ≡ check_text doc

-- it was printed
pub record Prints (doc : Doc) (results : Results) (text : List ℕ) : Type 0 where
  pub none : results ≡ no_results
  pub lines : text ≡ printed_doc doc

-- a task was done on a document, to its end
abbrev pub IsDone : Task → Doc → Results → List ℕ → Type 0
IsDone (Serial showing) = RunsSerial showing
IsDone (Revert n) = Reverts n
IsDone Count = Counts
IsDone Print = Prints

-- what a task ends with on a document
abbrev pub EndsOnDoc : Task → Doc → Results → List ℕ → Status → Type 0
EndsOnDoc task doc results text Ok = IsDone task doc results text
EndsOnDoc task doc results text (JournalFull group) = MeetsFullIn (run_of task doc) doc results text group
EndsOnDoc task doc results text _ = ⊥

-- what a task ends with on what was read to its end
abbrev pub EndsOn : Task → Result Doc LineFault → Results → List ℕ → Status → Type 0
EndsOn task (read_ok doc) results text status = EndsOnDoc task doc results text status
EndsOn task (Err fault) results text (BadInput n kind) = (fault ≡ record { line = n; kind = kind }) × (results ≡ no_results) × (text ≡ fault_line (BadInput n kind))
EndsOn task (Err fault) results text _ = ⊥

-- the journals that were read are legal and were kept, they are handed back, there are no logs, and what came of them is shown in a form
pub record IsReplayed (form : Form) (replay : Replay) (results : Results) (text : List ℕ) : Type 0 where
  pub kept : AreKept (groups_of replay.doc) replay.journals
  pub results_are : results ≡ record { journals = replay.journals; logs = [] }
  pub report : text ≡ shown (In form) replay.doc (histories_of (groups_of replay.doc) replay.journals) []

-- the first entry that is not legal is named, and the journals that were read are handed back
pub record IsRefused (replay : Replay) (results : Results) (text : List ℕ) (group entry : ℕ) : Type 0 where
  pub first : IsFirstIllegal (groups_of replay.doc) replay.journals group entry
  pub results_are : results ≡ record { journals = replay.journals; logs = [] }
  pub told : text ≡ status_line replay.doc.groups (Illegal group entry)

-- what a replay ends with on what was read to its end
abbrev pub EndsOnReplay : Form → Result Replay LineFault → Results → List ℕ → Status → Type 0
EndsOnReplay form (read_ok replay) results text Ok = IsReplayed form replay results text
EndsOnReplay form (read_ok replay) results text (Illegal group entry) = IsRefused replay results text group entry
EndsOnReplay form (read_ok replay) results text _ = ⊥
EndsOnReplay form (Err fault) results text (BadInput n kind) = (fault ≡ record { line = n; kind = kind }) × (results ≡ no_results) × (text ≡ fault_line (BadInput n kind))
EndsOnReplay form (Err fault) results text _ = ⊥

-- threads carried the scripts of a document out, and this is shown of what came of them
pub record RunsThreads (form : Form) (doc : Doc) (results : Results) (text : List ℕ) : Type 0 where
  pub run : IsRunOf doc None results.journals results.logs
  pub report : text ≡ shown (In form) doc (histories_of (groups_of doc) results.journals) results.logs

-- the journal of the group that is named is full, and this is the text
pub record NamesFull (doc : Doc) (results : Results) (text : List ℕ) (group : ℕ) : Type 0 where
  pub run : IsRunOf doc (Some group) results.journals results.logs
  pub told : text ≡ status_line doc.groups (JournalFull group)

-- what a run by threads ends with on a document
abbrev pub EndsOnRunDoc : Form → Doc → Results → List ℕ → Status → Type 0
EndsOnRunDoc form doc results text Ok = RunsThreads form doc results text
EndsOnRunDoc form doc results text (JournalFull group) = NamesFull doc results text group
EndsOnRunDoc form doc results text _ = ⊥

-- and on what was read to its end
abbrev pub EndsOnRun : Form → Result Doc LineFault → Results → List ℕ → Status → Type 0
EndsOnRun form (read_ok doc) results text status = EndsOnRunDoc form doc results text status
EndsOnRun form (Err fault) results text (BadInput n kind) = (fault ≡ record { line = n; kind = kind }) × (results ≡ no_results) × (text ≡ fault_line (BadInput n kind))
EndsOnRun form (Err fault) results text _ = ⊥

-- what comes of the bytes that were read to their end
abbrev pub EndsOnBytes : Reading → List ℕ → Results → List ℕ → Status → Type 0
EndsOnBytes (readings.Doc task) bytes = EndsOn task (document_of bytes)
EndsOnBytes (readings.Run form) bytes = EndsOnRun form (document_of bytes)
EndsOnBytes (readings.Journals form) bytes = EndsOnReplay form (replay_of bytes)

-- what a source has left, and how often it has failed
pub record SourceState : Type 0 where
  pub left : Option (List ℕ)
  pub faults : ℕ

-- what a sink holds, and how often it has failed
pub record SinkState : Type 0 where
  pub held : Option (List ℕ)
  pub faults : ℕ

-- the source was read to its end: these bytes, and no read failed; and this status comes of them with these results and this text
pub record EndsAtEnd (reading : Reading) (old new : SourceState) (results : Results) (text : List ℕ) (status : Status) : Type 0 where
  pub bytes : List ℕ
  pub consumed : Consumes old.left new.left bytes
  pub ended : IsAtEnd new.left
  pub few : length bytes ≤ MAX_BYTES
  pub still : new.faults ≡ old.faults
  pub ends : EndsOnBytes reading bytes results text status

pub record StopsAtFault (old new : SourceState) (results : Results) (text : List ℕ) : Type 0 where
  pub bytes : List ℕ
  pub consumed : Consumes old.left new.left bytes
  pub few : length bytes ≤ MAX_BYTES
  pub rose : Rose old.faults new.faults
  pub none : results ≡ no_results
  pub told : text ≡ fault_line ReadFault

pub record StopsTooLong (old new : SourceState) (results : Results) (text : List ℕ) : Type 0 where
  pub bytes : List ℕ
  pub consumed : Consumes old.left new.left bytes
  pub many : length bytes ≡ MAX_BYTES + 1
  pub still : new.faults ≡ old.faults
  pub none : results ≡ no_results
  pub told : text ≡ fault_line TooLong

-- nothing was read
pub record IsUnread (old new : SourceState) : Type 0 where
  pub left : Keeps old.left new.left
  pub faults : new.faults ≡ old.faults

-- words that ask for nothing that the program does
pub record IsNoTask (old new : SourceState) (results : Results) (text : List ℕ) : Type 0 where
  pub unread : IsUnread old new
  pub none : results ≡ no_results
  pub told : text ≡ fault_line Usage

-- a task on the document of a fat tree: nothing was read, and this status comes of it
pub record EndsOnTree (task : Task) (tree : FatTree) (old new : SourceState) (results : Results) (text : List ℕ) (status : Status) : Type 0 where
  pub unread : IsUnread old new
  pub ends : EndsOnDoc task (tree_doc tree) results text status

-- why a status comes, of what the words ask for, of the source before and after the call, with these results and this text. WriteFault and
-- OutOfMemory never come so
abbrev pub ComesOf : Way → SourceState → SourceState → Results → List ℕ → Status → Type 0
ComesOf Nothing old new results text Usage = IsNoTask old new results text
ComesOf Nothing old new results text _ = ⊥
ComesOf (Reads reading) old new results text Usage = ⊥
ComesOf (Reads reading) old new results text ReadFault = StopsAtFault old new results text
ComesOf (Reads reading) old new results text TooLong = StopsTooLong old new results text
ComesOf (Reads reading) old new results text WriteFault = ⊥
ComesOf (Reads reading) old new results text OutOfMemory = ⊥
ComesOf (Reads reading) old new results text status = EndsAtEnd reading old new results text status
ComesOf (Makes task tree) old new results text status = EndsOnTree task tree old new results text status

-- a status that came for its reason, and its text was written whole: no write failed
pub record HasWritten (way : Way) (old new : SourceState) (before now : SinkState) (results : Results) (status : Status) : Type 0 where
  pub text : List ℕ
  pub comes : ComesOf way old new results text status
  pub held : Appends before.held now.held text
  pub still : now.faults ≡ before.faults

-- a status whose text was being written: the sink holds what it held and a prefix of that text
pub record WasWriting (way : Way) (old new : SourceState) (before now : SinkState) (results : Results) : Type 0 where
  pub status : Status
  pub text : List ℕ
  pub comes : ComesOf way old new results text status
  pub held : AppendsPrefix before.held now.held text

-- memory was refused before anything was written: the sink holds what it held, and there are no results
pub record WasRefused (before now : SinkState) (results : Results) : Type 0 where
  pub held : Keeps before.held now.held
  pub none : results ≡ no_results

-- how a call ends, of what its words ask for, of the source before and after it, and of the sink before and after it. A write failed in it only at WriteFault
abbrev pub EndsBy : Way → SourceState → SourceState → SinkState → SinkState → Results → Status → Type 0
EndsBy way old new before now results WriteFault = WasWriting way old new before now results × Rose before.faults now.faults
EndsBy way old new before now results OutOfMemory = (WasRefused before now results ⊎ WasWriting way old new before now results) × (now.faults ≡ before.faults)
EndsBy way old new before now results status = HasWritten way old new before now results status

-- how it ends, by its words
abbrev pub EndsWith : List (List ℕ) → SourceState → SourceState → SinkState → SinkState → Results → Status → Type 0
EndsWith words = EndsBy (way_of words)
