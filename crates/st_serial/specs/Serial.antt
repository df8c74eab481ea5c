-- What the scripts of a document do to its groups, on one thread: the events of each act, each with the reply that is called for, and what the
-- acts that read have seen.
use Rattle.std.specs.Prelude.{ℕ, ◌+◌, zero, suc, List, [], ◌∷◌, ◌++◌, All, map, reverse, slice_get, Option, Some, None, option_map, is_some, if◌then◌else◌}
use Rattle.std.specs.Option.{IsSomeAnd}
use Rattle.st_net.specs.declared.entity.AppId.{AppId}
use Rattle.st_net.specs.declared.parts.Parts.{Parts}
use Rattle.st_net.specs.Faults.{group_of}
use Rattle.st_net.specs.Groups.{Group}
use Rattle.st_event.specs.declared.act.Act.{Act}
use Rattle.st_event.specs.declared.act.Log.{Log}
use Rattle.st_event.specs.declared.act.LogEntry.{LogEntry}
use Rattle.st_event.specs.declared.journal.Journal.{Journal}
use Rattle.st_event.specs.History.{History}
use Rattle.st_grammar.specs.declared.doc.Doc.{Doc}
use Rattle.st_grammar.specs.declared.doc.Script.{Script}
use Rattle.st_serial.specs.declared.running.Ran.{Ran}
use Rattle.st_serial.specs.declared.schedule.Place.{Place}
use Rattle.st_serial.specs.Schedule.{schedule}
use Rattle.st_wire.specs.declared.line.WireLine.{WireLine}
use Rattle.st_world.specs.World.{WorldView}
use Rattle.st_world.specs.Rounds.{Course, course_from}
use Rattle.st_world.specs.Acts.{ActFits, act_course, all_checked, group_number, seen_by}

-- a group while scripts run: it with its journal, and the lines of its loss plan
pub record GroupState : Type 0 where
  pub history : History
  pub lines : List WireLine

-- the groups of worlds, which keep room besides
abbrev pub state_of : WorldView → GroupState
state_of w = record { history = w.history; lines = w.lines }

abbrev pub states_of : List WorldView → List GroupState
states_of ws = map state_of ws

-- the group once its journal has come to this
abbrev pub state_at : GroupState → Course → GroupState
state_at s course = record s { history = record s.history { past = course.past } }

-- what an act of an application makes of its group
abbrev pub course_in : AppId → Act → GroupState → Course
course_in app act s = act_course app act s.history s.lines

abbrev pub act_on : AppId → Act → GroupState → GroupState
act_on app act s = state_at s (course_in app act s)

-- a list with the item of a number changed
abbrev pub changed_at : {X : Type 0} → ℕ → (X → X) → List X → List X
changed_at n f [] = []
changed_at zero f (x ∷ xs) = f x ∷ xs
changed_at (suc n) f (x ∷ xs) = x ∷ changed_at n f xs

-- the groups with their journals, the log of each application, and the first group of which an event met a full journal: there the run stops
pub record Run : Type 0 where
  pub groups : List GroupState
  pub logs : List (List LogEntry)
  pub full : Option ℕ

-- logs with what an application has seen
abbrev pub logged : ℕ → Option LogEntry → List (List LogEntry) → List (List LogEntry)
logged app None logs = logs
logged app (Some entry) logs = changed_at app (λ log. log ++ entry ∷ []) logs

abbrev pub seen_of : Act → Option GroupState → Option LogEntry
seen_of act None = None
seen_of act (Some s) = seen_by act s.history

-- the group of a number, where a course of it met a full journal
abbrev pub full_of : ℕ → Option Course → Option ℕ
full_of n None = None
full_of n (Some course) = if course.stopped then Some n else None

abbrev pub act_done : AppId → Act → Run → Run
act_done app act run = record {
  groups = changed_at (group_number act) (act_on app act) run.groups;
  logs = logged app.0 (seen_of act (slice_get run.groups (group_number act))) run.logs;
  full = full_of (group_number act) (option_map (course_in app act) (slice_get run.groups (group_number act)));
}

-- the act at a place
abbrev pub act_in : Option Script → ℕ → Option Act
act_in None k = None
act_in (Some app) k = slice_get app.acts k

abbrev pub act_of : List Script → Place → Option Act
act_of apps place = act_in (slice_get apps place.app) place.act

-- the run after an act, and after acts one after another
abbrev pub asked_done : ℕ → Option Act → Run → Run
asked_done app None run = run
asked_done app (Some act) run = act_done (record { 0 = app }) act run

abbrev pub place_done : List Script → Place → Run → Run
place_done apps place run = if is_some run.full then run else asked_done place.app (act_of apps place) run

abbrev pub places_done : List Script → List Place → Run → Run
places_done apps [] run = run
places_done apps (place ∷ places) run = places_done apps places (place_done apps place run)

-- groups at their opening, each with the lines of its loss plan
abbrev pub opened : Parts → List WireLine → GroupState
opened parts lines = record { history = record { group = group_of parts; past = [] }; lines = lines }

abbrev pub all_opened : List Parts → List (List WireLine) → List GroupState
all_opened [] wires = []
all_opened (parts ∷ groups) [] = []
all_opened (parts ∷ groups) (lines ∷ wires) = opened parts lines ∷ all_opened groups wires

-- before the first act nothing is seen
abbrev pub opening_run : Doc → Run
opening_run doc = record { groups = all_opened doc.groups doc.wires; logs = map (λ app. []) doc.apps; full = None }

-- the checks of a group while something is pending
abbrev pub checks_in : GroupState → Course
checks_in s = all_checked s.history.group (course_from s.history.past)

-- groups that are numbered from n on, and the first of which an event met a full journal
pub record Checked : Type 0 where
  pub groups : List GroupState
  pub full : Option ℕ

abbrev pub with_group : GroupState → Checked → Checked
with_group s later = record { groups = s ∷ later.groups; full = later.full }

-- they are decided in order, as far as no journal is full
abbrev pub all_decided : ℕ → List GroupState → Checked
all_decided n [] = record { groups = []; full = None }
all_decided n (s ∷ ss) =
    let course = checks_in s in
    if course.stopped then record { groups = state_at s course ∷ ss; full = Some n } else with_group (state_at s course) (all_decided (n + 1) ss)

-- a document after the acts of its scripts, in their order
abbrev pub scripts_done : Doc → Run
scripts_done doc = places_done doc.apps (schedule doc.apps doc.order) (opening_run doc)

-- and after the checks that decide what is still pending
abbrev pub with_checked : Run → Checked → Run
with_checked run checked = record { groups = checked.groups; logs = run.logs; full = checked.full }

abbrev pub decided : Run → Run
decided run = if is_some run.full then run else with_checked run (all_decided 0 run.groups)

abbrev pub serial_end : Doc → Run
serial_end doc = decided (scripts_done doc)

-- the journals of groups that are numbered from n on
abbrev pub journals_from : ℕ → List GroupState → List Journal
journals_from n [] = []
journals_from n (s ∷ ss) = record { group = n; entries = reverse s.history.past } ∷ journals_from (n + 1) ss

-- the logs of applications that are numbered from n on
abbrev pub logs_from : ℕ → List (List LogEntry) → List Log
logs_from n [] = []
logs_from n (log ∷ logs) = record { app = record { 0 = n }; entries = log } ∷ logs_from (n + 1) logs

-- the journals and the logs that the scripts of a document make
abbrev pub serial_run : Doc → List Journal
serial_run doc = journals_from 0 (serial_end doc).groups

abbrev pub serial_logs : Doc → List Log
serial_logs doc = logs_from 0 (serial_end doc).logs

-- the group at whose full journal they stop
abbrev pub serial_full : Doc → Option ℕ
serial_full doc = (serial_end doc).full

-- the groups of these
abbrev pub groups_in : List GroupState → List Group
groups_in ss = map (λ s. s.history.group) ss

-- an act fits the group that it names
abbrev pub FitsIn : Act → List Group → Type 0
FitsIn act groups = IsSomeAnd (slice_get groups (group_number act)) (ActFits act)

-- each act of each application fits
abbrev pub AllFitIn : List Script → List Group → Type 0
AllFitIn apps groups = All (λ app. All (λ act. FitsIn act groups) app.acts) apps

-- the groups with their journals, and the logs, that a run has come to
abbrev pub run_in : Ran → Run
run_in ran = record { groups = states_of ran.worlds.items; logs = ran.logs.items; full = ran.full }
