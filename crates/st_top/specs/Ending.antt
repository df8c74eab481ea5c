-- How a call is to end, before anything is written.
use Rattle.std.specs.Prelude.{◌≡◌, ℕ, List, [], map, Some, None, Result}
use Rattle.st_io.specs.declared.writing.Written.{Written}
use Rattle.st_io.specs.Output.{Writes}
use Rattle.st_text.specs.Words.{text_of}
use Rattle.st_event.specs.History.{History}
use Rattle.st_grammar.specs.declared.doc.Doc.{Doc}
use Rattle.st_token.specs.declared.fault.LineFault.{LineFault}
use Rattle.st_top.specs.declared.answer.Outcome.{Outcome}
use Rattle.st_replay.specs.declared.status.Status.{Status}
use Rattle.st_replay.specs.declared.status.Status.TheVariants as statuses
use Rattle.st_top.specs.declared.ending.Ending.{Ending}
use Rattle.st_top.specs.declared.task.Task.{Task}
use Rattle.st_top.specs.declared.task.Showing.{Showing}
use Rattle.st_top.specs.declared.task.Showing.TheVariants.{In}
use Rattle.st_top.specs.declared.task.Reading.{Reading}
use Rattle.st_replay.specs.declared.replaying.Again.{Again}
use Rattle.st_replay.specs.declared.replaying.Again.TheVariants as again
use Rattle.st_words.specs.declared.job.Form.{Form}
use Rattle.st_report.specs.Lines.{histories}
use Rattle.st_top.specs.declared.task.Way.{Way}
use Rattle.st_serial.specs.Serial.{Run, logs_from, run_in, serial_end, serial_logs}
use Rattle.st_replay.specs.Again.{histories_of}
use Rattle.st_top.specs.Output.{shown}
use Rattle.st_top.specs.declared.reverting.LedBack.{LedBack}
use Rattle.st_top.specs.Reverting.{led_back, revert_lines, revert_text, reverted}
use Rattle.st_replay.specs.Replaying.{Replay}
use Rattle.st_replay.specs.Statuses.{fault_line, status_line, told}
use Rattle.st_serial.specs.Kept.{groups_of}
use Rattle.st_run.specs.declared.playing.Played.{Played}
use Rattle.st_top.specs.Answer.{Results, SourceState, SinkState, EndsOnDoc, EndsOn, EndsOnRun, EndsOnRunDoc, EndsOnReplay, EndsOnBytes, ComesOf, no_results}

-- what an ending hands back
abbrev pub results_in : Ending → Results
results_in ending = record { journals = ending.journals; logs = ending.logs }

-- an ending that tells of a fault: there are no results
pub record TellsFault (status : Status) (ending : Ending) : Type 0 where
  pub status_is : ending.status ≡ status
  pub none : results_in ending ≡ no_results
  pub text_is : ending.text ≡ fault_line status

-- the groups of a run with their journals
abbrev pub histories_in : Run → List History
histories_in run = map (λ s. s.history) run.groups

-- the status and the text of a document of which a run was made: what is shown of it, or the line of the group at whose full journal it stopped
abbrev pub IsToldOf : Run → List ℕ → Doc → Status → List ℕ → Type 0
IsToldOf run whole doc statuses.Ok text = (run.full ≡ None) × (text ≡ whole)
IsToldOf run whole doc (statuses.JournalFull group) text = (run.full ≡ Some group) × (text ≡ status_line doc.groups (statuses.JournalFull group))
IsToldOf run whole doc _ text = ⊥

-- what is shown of the scripts' run, and of groups that were led back behind it
abbrev pub serial_text : Showing → Doc → List ℕ
serial_text showing doc = shown showing doc (histories_in (serial_end doc)) (serial_logs doc)

abbrev pub reverted_text : ℕ → Doc → List ℕ
reverted_text n doc = revert_text n doc (serial_end doc).groups (histories_in (reverted n doc)) (logs_from 0 (reverted n doc).logs)

-- a run whose groups were led back to a version, and the lines that tell of each, unless an event met a full journal
pub record IsLed (n : ℕ) (run : Run) (led : LedBack) : Type 0 where
  pub run_is : run_in led.ran ≡ led_back n run
  pub told : led.ran.full ≡ None → led.lines ≡ text_of (revert_lines n run.groups)

-- what a task ends with on a document
abbrev pub IsEndOnDoc : Task → Doc → Ending → Type 0
IsEndOnDoc task doc ending = EndsOnDoc task doc (results_in ending) ending.text ending.status

-- what a task ends with on what was read to its end
abbrev pub IsEndOn : Task → Result Doc LineFault → Ending → Type 0
IsEndOn task read ending = EndsOn task read (results_in ending) ending.text ending.status

-- what a run by threads ends with on a document, and on what was read to its end
abbrev pub IsEndOnRunDoc : Form → Doc → Ending → Type 0
IsEndOnRunDoc form doc ending = EndsOnRunDoc form doc (results_in ending) ending.text ending.status

abbrev pub IsEndOnRun : Form → Result Doc LineFault → Ending → Type 0
IsEndOnRun form read ending = EndsOnRun form read (results_in ending) ending.text ending.status

-- the status and the text of a document whose scripts threads have run: what is shown of them, or the line of the group at whose full journal one stopped
abbrev pub IsToldOfRun : Form → Doc → Played → Status → List ℕ → Type 0
IsToldOfRun form doc played statuses.Ok text = (played.full ≡ None) × (text ≡ shown (In form) doc (histories_of (groups_of doc) played.journals.items) played.logs.items)
IsToldOfRun form doc played (statuses.JournalFull group) text = (played.full ≡ Some group) × (text ≡ status_line doc.groups (statuses.JournalFull group))
IsToldOfRun form doc played _ text = ⊥

-- what a replay ends with on what was read to its end
abbrev pub IsEndOnReplay : Form → Result Replay LineFault → Ending → Type 0
IsEndOnReplay form read ending = EndsOnReplay form read (results_in ending) ending.text ending.status

-- what comes of the bytes that were read to their end
abbrev pub IsEndOnBytes : Reading → List ℕ → Ending → Type 0
IsEndOnBytes reading bytes ending = EndsOnBytes reading bytes (results_in ending) ending.text ending.status

-- why the call is to end so
abbrev pub IsCalledFor : Way → SourceState → SourceState → Ending → Type 0
IsCalledFor way old new ending = ComesOf way old new (results_in ending) ending.text ending.status

-- the status and the text of a replay that came to this
abbrev pub IsToldAgain : Form → Doc → Again → Status → List ℕ → Type 0
IsToldAgain form doc (again.Worlds worlds) statuses.Ok text = text ≡ shown (In form) doc (histories worlds.items) []
IsToldAgain form doc (again.Worlds worlds) _ text = ⊥
IsToldAgain form doc (again.Illegal n entry) (statuses.Illegal group number) text = (group ≡ n) × (number ≡ entry) × (text ≡ status_line doc.groups (statuses.Illegal group number))
IsToldAgain form doc (again.Illegal n entry) _ text = ⊥

-- the text of an ending was being written, and the outcome tells how that ended
pub record WritesEnding (ending : Ending) (before now : SinkState) (outcome : Outcome) : Type 0 where
  pub written : Written
  pub writes : Writes before.held now.held before.faults now.faults ending.text written
  pub status_is : outcome.status ≡ told written ending.status
  pub results_are : record { journals = outcome.journals; logs = outcome.logs } ≡ results_in ending
