-- What the text of a run that was printed is read as, and what a replay of it writes.
use Rattle.std.specs.Prelude.{◌≡◌, ◌≤◌, ℕ, List, [], All, length, Option, Some, Ok as read_ok}
use Rattle.st_io.specs.declared.reading.TheConstants.{MAX_BYTES}
use Rattle.st_event.specs.declared.act.Log.{Log}
use Rattle.st_event.specs.declared.journal.Journal.{Journal}
use Rattle.st_grammar.specs.declared.doc.Doc.{Doc}
use Rattle.st_grammar.specs.declared.doc.JournalAt.{JournalAt}
use Rattle.st_grammar.specs.Sound.{IsSoundDoc}
use Rattle.st_journal.specs.ReadingBack.{AreNumbered, IsJournalAmong}
use Rattle.st_words.specs.declared.job.Form.{Form}
use Rattle.st_words.specs.declared.job.Form.TheVariants as forms
use Rattle.st_replay.specs.declared.status.Status.{Status}
use Rattle.st_replay.specs.declared.status.Status.TheVariants.{Ok}
use Rattle.st_top.specs.declared.task.Showing.TheVariants.{In}
use Rattle.st_top.specs.declared.task.Reading.TheVariants.{Journals}
use Rattle.st_replay.specs.Again.{histories_of}
use Rattle.st_replay.specs.Replaying.{app_names, AreLegal, IsFirstIllegal, replay_of}
use Rattle.st_top.specs.Output.{shown}
use Rattle.st_serial.specs.Kept.{groups_of}
use Rattle.st_run.specs.Running.{IsRunOf}
use Rattle.st_top.specs.Answer.{AreOfScripts, Results, EndsOnBytes}
use Rattle.st_top.specs.Completeness.{CanBeRead}

-- a sound document, and a legal journal of each of its groups in order, asked by its applications
pub record IsRun (doc : Doc) (journals : List Journal) : Type 0 where
  pub sound : IsSoundDoc doc
  pub numbered : AreNumbered 0 journals
  pub each : length journals ≡ length doc.groups
  pub legal : All (IsJournalAmong (groups_of doc) (app_names doc)) journals

-- the text of a run in a form, without what was read in it
abbrev pub run_text : Form → Doc → List Journal → List ℕ
run_text form doc journals = shown (In form) doc (histories_of (groups_of doc) journals) []

-- this document, with the place where its journals stand
abbrev pub placed : Option JournalAt → Doc → Doc
placed at doc = record doc { journal_at = at }

-- a text is read as the document and the journals, all of these are legal, and so a replay can be done; it writes the run in its form
pub record ReplaysRun (doc : Doc) (journals : List Journal) (text : List ℕ) : Type 0 where
  pub at : Option JournalAt
  pub read : replay_of text ≡ read_ok (record { doc = placed at doc; journals = journals })
  pub legal : AreLegal (groups_of doc) journals
  pub none : (group entry : ℕ) → ¬ IsFirstIllegal (groups_of doc) journals group entry
  pub can : (form : Form) → CanBeRead (Journals form) (Some text)
  pub ends : (form : Form) (results : Results) (written : List ℕ) (status : Status) → EndsOnBytes (Journals form) text results written status
      → (status ≡ Ok) × (results.journals ≡ journals) × (written ≡ run_text form doc journals)

-- so it is with the text that is printed of each run, if it is no longer than an input may be
abbrev pub PrintedRunsAreReplayed : Type 0
PrintedRunsAreReplayed = (doc : Doc) (journals : List Journal) → IsRun doc journals → length (run_text forms.Replay doc journals) ≤ MAX_BYTES → ReplaysRun doc journals (run_text forms.Replay doc journals)

-- so it is with the journals that the scripts of a sound document make in script order, as far as no journal was full
abbrev pub SerialRunsAreReplayed : Type 0
SerialRunsAreReplayed = (doc : Doc) (results : Results) → IsSoundDoc doc → AreOfScripts doc results
    → length (run_text forms.Replay doc results.journals) ≤ MAX_BYTES → ReplaysRun doc results.journals (run_text forms.Replay doc results.journals)

-- and so it is with what threads made of a sound document
abbrev pub RunsByThreadsAreReplayed : Type 0
RunsByThreadsAreReplayed = (doc : Doc) (full : Option ℕ) (journals : List Journal) (logs : List Log) → IsSoundDoc doc → IsRunOf doc full journals logs
    → length (run_text forms.Replay doc journals) ≤ MAX_BYTES → ReplaysRun doc journals (run_text forms.Replay doc journals)
