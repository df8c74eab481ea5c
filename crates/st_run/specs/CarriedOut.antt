-- What it is that the scripts of a document were carried out: by the document, its groups' journals and its applications' logs alone.
use Rattle.std.specs.Prelude.{ℕ, ◌≡◌, List, [], ◌∷◌, map, length, reverse, slice_get, Some}
use Rattle.st_event.specs.declared.act.Log.{Log}
use Rattle.st_event.specs.declared.journal.Journal.{Journal}
use Rattle.st_event.specs.Services.{AreNumbers}
use Rattle.st_grammar.specs.declared.doc.Doc.{Doc}
use Rattle.st_grammar.specs.declared.doc.Script.{Script}
use Rattle.st_serial.specs.Serial.{GroupState, all_opened}
use Rattle.st_run.specs.CarriedOn.{IsDoneBy, IsDoneOn, IsLogged}

-- groups at their opening, each with the journal that was made of it
abbrev pub with_journals : List GroupState → List Journal → List GroupState
with_journals [] journals = []
with_journals (s ∷ ss) [] = []
with_journals (s ∷ ss) (j ∷ js) = record { history = record { group = s.history.group; past = reverse j.entries }; lines = s.lines } ∷ with_journals ss js

abbrev pub groups_by : Doc → List Journal → List GroupState
groups_by doc journals = with_journals (all_opened doc.groups doc.wires) journals

-- a document's scripts were carried out: there is a journal for each group and a log for each application, in their order; each log has what its
-- script reads; and on each group each script was carried out, and all of them together
pub record CarriedOut (doc : Doc) (journals : List Journal) (logs : List Log) : Type 0 where
  pub groups : AreNumbers (map (λ j. j.group) journals) (length doc.groups)
  pub apps : AreNumbers (map (λ l. l.app.0) logs) (length doc.apps)
  pub logged : (a : ℕ) (app : Script) (log : Log) → slice_get doc.apps a ≡ Some app → slice_get logs a ≡ Some log → IsLogged app.acts log.entries
  pub by_each : (a n : ℕ) (app : Script) (log : Log) (s : GroupState) → slice_get doc.apps a ≡ Some app → slice_get logs a ≡ Some log → slice_get (groups_by doc journals) n ≡ Some s → IsDoneBy (record { 0 = a }) app.acts log.entries n s.history s.lines
  pub on_each : (n : ℕ) (s : GroupState) → slice_get (groups_by doc journals) n ≡ Some s → IsDoneOn (map (λ app. app.acts) doc.apps) n s.history s.lines
