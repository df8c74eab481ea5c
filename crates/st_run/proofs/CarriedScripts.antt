-- Where each script was done by its pass, the scripts of the document were carried out, by the journals and logs that the closed service hands out.
use Rattle.std.proofs.Common.{◌≡◌, ℕ, ◌<◌, ◌≤◌, List, [], length, map, ap, sym, subst, ◌∙◌, arith}
use Rattle.std.specs.Prelude.{Some, slice_get, slice_index_or, option_map, reverse}
use Rattle.std.proofs.lemmas.List.{length-map, get_or-map}
use Rattle.std.proofs.lemmas.Option.{slice_get-get_or, slice_get-map, slice_get_within, get_or_from_slice_get, same_Some}
use Rattle.st_net.specs.Groups.{Group}
use Rattle.st_event.specs.declared.act.Log.{Log}
use Rattle.st_event.specs.declared.act.LogEntry.{LogEntry}
use Rattle.st_event.specs.declared.journal.Entry.{Entry}
use Rattle.st_event.specs.declared.journal.Journal.{Journal}
use Rattle.st_wire.specs.declared.line.WireLine.{WireLine}
use Rattle.st_service.specs.Closed.{IsWhole}
use Rattle.st_service.specs.Made.{Made}
use Rattle.st_service.specs.Passes.{Holder}
use Rattle.st_grammar.specs.declared.doc.Doc.{Doc}
use Rattle.st_grammar.specs.declared.doc.Script.{Script}
use Rattle.st_grammar.specs.Sound.{IsSoundDoc}
use Rattle.st_serial.specs.Serial.{GroupState, all_opened}
use Rattle.st_run.specs.CarriedLaws.{history_of}
use Rattle.st_run.specs.CarriedOn.{IsDoneBy, IsDoneOn, IsLogged}
use Rattle.st_event.specs.Services.{AreNumbers}
use Rattle.st_run.specs.CarriedOut.{CarriedOut, groups_by}
use Rattle.st_run.specs.Jobs.{HaveRun}
use Rattle.st_run.specs.Played.{AreClosed, acts_of}
use Rattle.st_run.specs.Running.{AreStatesOf}
use Rattle.st_run.proofs.DonePoints.{all_are_carried_out, each_is_carried_out}
use Rattle.st_run.proofs.LoggedReads.{scripts_are_logged}
use Rattle.st_run.proofs.OpenedGroups.{has_journal, opened_get, opening_at}

-- the script of a number
pub script_get : (apps : List Script) (a : ℕ) (app : Script) → slice_get apps a ≡ Some app → slice_get (acts_of apps) a ≡ Some app.acts
script_get apps a app is = slice_get-map (λ (s : Script). s.acts) apps a ∙ ap (option_map (λ (s : Script). s.acts)) is

-- the pass whose log an application's log is
record HasPass (passes : List Holder) (a : ℕ) (log : Log) : Type 0 where
  pass : Holder
  at : slice_get passes a ≡ Some pass
  is : pass.log ≡ log.entries

abbrev no_holder : Holder
no_holder = record { number = 0; fronts = []; mines = []; readers = []; log = [] }

abbrev no_journal : Journal
no_journal = record { group = 0; entries = [] }

abbrev no_log : Log
no_log = record { app = record { 0 = 0 }; entries = [] }

has_pass : (groups : ℕ → Group) (rooms apps : ℕ) (passes : List Holder) (journals : List Journal) (logs : List Log) (a : ℕ) (log : Log) → apps ≤ length passes
    → AreClosed groups rooms apps passes journals logs → slice_get logs a ≡ Some log → HasPass passes a log
has_pass groups rooms apps passes journals logs a log many closed at =
    let count = closed.log_count in
    let within = slice_get_within logs a log at in
    let app : a < apps = omega (arith, count, within) in
    let low : a < length passes = omega (arith, app, many) in
    let own = ap (λ (l : Log). l.entries) (get_or_from_slice_get logs a log log at) in
    record { pass = slice_index_or passes a no_holder; at = slice_get-get_or passes a no_holder low; is = sym (closed.logged a log no_holder app).1 ∙ own }

-- the journal of a group with its makers
record IsToldWhole (groups : ℕ → Group) (lines : ℕ → List WireLine) (passes : List Holder) (n : ℕ) (s : GroupState) : Type 0 where
  entries : List Entry
  front : List Made
  whole : IsWhole (groups n) passes n entries front
  is : record { history = history_of (groups n) entries; lines = lines n } ≡ s

-- a group at its opening with this journal
laid_by : (groups : ℕ → Group) (lines : ℕ → List WireLine) (n : ℕ) (opening : GroupState) (entries : List Entry) (s : GroupState)
    → opening ≡ opening_at groups lines n
    → record { history = record { group = opening.history.group; past = reverse entries }; lines = opening.lines } ≡ s
    → record { history = history_of (groups n) entries; lines = lines n } ≡ s
laid_by groups lines n opening entries s opens is =
    sym (ap (λ (o : GroupState). record { history = record { group = o.history.group; past = reverse entries }; lines = o.lines }) opens) ∙ is

told_whole : (doc : Doc) (groups : ℕ → Group) (lines : ℕ → List WireLine) (apps : ℕ) (passes : List Holder) (journals : List Journal) (logs : List Log) (n : ℕ) (s : GroupState)
    → IsSoundDoc doc → AreStatesOf groups lines doc
    → AreClosed groups (length doc.groups) apps passes journals logs → slice_get (groups_by doc journals) n ≡ Some s
    → (n < length doc.groups) × IsToldWhole groups lines passes n s
told_whole doc groups lines apps passes journals logs n s sound states closed at =
    let has = has_journal (all_opened doc.groups doc.wires) journals n s at in
    let count = closed.journal_count in
    let within = slice_get_within journals n has.journal has.told in
    let low : n < length doc.groups = omega (arith, count, within) in
    let first = opening_at groups lines n in
    let opens : has.opening ≡ first = same_Some has.opening first (sym has.opens ∙ opened_get groups lines doc sound states n low) in
    let whole = closed.whole n has.journal low in
    let own : slice_index_or journals n has.journal ≡ has.journal = get_or_from_slice_get journals n has.journal has.journal has.told in (
      low,
      record {
        entries = has.journal.entries;
        front = whole.0;
        whole = subst (λ (j : Journal). IsWhole (groups n) passes n j.entries whole.0) own whole.1;
        is = laid_by groups lines n has.opening has.journal.entries s opens has.is;
      },
    )

-- the items of a list that have the numbers of their places
are_numbers : {X : Type 0} (number : X → ℕ) (xs : List X) (count : ℕ) (d : X) → length xs ≡ count
    → ((k : ℕ) → k < count → number (slice_index_or xs k d) ≡ k) → AreNumbers (map number xs) count
are_numbers number xs count d same each = (
  length-map xs number ∙ same,
  λ k low.
      let within : k < length xs = omega (arith, same, low) in
      let mapped : k < length (map number xs) = omega (arith, length-map xs number, within) in
      slice_get-get_or (map number xs) k 0 mapped ∙ ap Some (get_or-map number xs k d 0 within ∙ each k low),
)

-- so there is a journal for each group, and a log for each application
pub journals_numbered : (groups : ℕ → Group) (rooms apps : ℕ) (passes : List Holder) (journals : List Journal) (logs : List Log) → AreClosed groups rooms apps passes journals logs
    → AreNumbers (map (λ j. j.group) journals) rooms
journals_numbered groups rooms apps passes journals logs closed =
    are_numbers (λ (j : Journal). j.group) journals rooms no_journal closed.journal_count (λ k low. closed.numbered k no_journal low)

pub logs_numbered : (groups : ℕ → Group) (rooms apps : ℕ) (passes : List Holder) (journals : List Journal) (logs : List Log) → AreClosed groups rooms apps passes journals logs
    → AreNumbers (map (λ l. l.app.0) logs) apps
logs_numbered groups rooms apps passes journals logs closed =
    are_numbers (λ (l : Log). l.app.0) logs apps no_log closed.log_count (λ k low. (closed.logged k no_log no_holder low).0)

-- the points of each script and of all, laid over the document
pub scripts_are_carried : (doc : Doc) (groups : ℕ → Group) (lines : ℕ → List WireLine) (passes : List Holder) (journals : List Journal) (logs : List Log)
    → IsSoundDoc doc → AreStatesOf groups lines doc
    → AreClosed groups (length doc.groups) (length (acts_of doc.apps)) passes journals logs
    → HaveRun groups lines (length doc.groups) (acts_of doc.apps) passes → CarriedOut doc journals logs
scripts_are_carried doc groups lines passes journals logs sound states closed run =
    let rooms = length doc.groups in
    let scripts = acts_of doc.apps in
    let apps = length scripts in
    let same : apps ≡ length doc.apps = length-map doc.apps (λ (s : Script). s.acts) in
    record {
      groups = journals_numbered groups rooms apps passes journals logs closed;
      apps = subst (AreNumbers (map (λ l. l.app.0) logs)) same (logs_numbered groups rooms apps passes journals logs closed);
      logged = λ a app log script at.
          let has = has_pass groups rooms apps passes journals logs a log run.count closed at in
          subst (IsLogged app.acts) has.is (scripts_are_logged groups lines rooms scripts passes a app.acts has.pass run (script_get doc.apps a app script) has.at);
      by_each = λ a n app log s script at laid.
          let has = has_pass groups rooms apps passes journals logs a log run.count closed at in
          let (low, told) = told_whole doc groups lines apps passes journals logs n s sound states closed laid in
          let acts_at = script_get doc.apps a app script in
          let done = each_is_carried_out groups lines rooms scripts passes n told.entries told.front a app.acts has.pass run low told.whole acts_at has.at in
          subst (λ (x : GroupState). IsDoneBy (record { 0 = a }) app.acts log.entries n x.history x.lines) told.is
          (subst (λ (x : List LogEntry). IsDoneBy (record { 0 = a }) app.acts x n (history_of (groups n) told.entries) (lines n)) has.is done);
      on_each = λ n s laid.
          let (low, told) = told_whole doc groups lines apps passes journals logs n s sound states closed laid in
          subst (λ (x : GroupState). IsDoneOn scripts n x.history x.lines) told.is
          (all_are_carried_out groups lines rooms scripts passes n told.entries told.front run low told.whole);
    }
