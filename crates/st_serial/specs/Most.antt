-- How many entries a document can make of a group at the most, and what follows where they are few.
use Rattle.std.specs.Prelude.{◌≡◌, ℕ, ◌+◌, ◌*◌, ◌<◌, ◌≤◌, ◌==◌, List, All, length, sum_by, slice_get, Option, Some, None, if◌then◌else◌}
use Rattle.st_net.specs.Groups.{Group}
use Rattle.st_event.specs.declared.act.Act.{Act}
use Rattle.st_event.specs.declared.journal.Journal.{Journal}
use Rattle.st_event.specs.declared.journal.TheConstants.{MAX_ENTRIES, MAX_PENDING}
use Rattle.st_grammar.specs.declared.doc.Doc.{Doc}
use Rattle.st_grammar.specs.declared.doc.Script.{Script}
use Rattle.st_wire.specs.declared.line.WireLine.{WireLine}
use Rattle.st_world.specs.Acts.{group_number}
use Rattle.st_serial.specs.Serial.{GroupState, all_opened, serial_full, serial_run}
use Rattle.st_serial.specs.Shares.{share}

-- the share of an act in the journal of group n: it has none in those of other groups
abbrev pub share_on : ℕ → Group → List WireLine → Act → ℕ
share_on n g lines act = if group_number act == n then share act g lines else 0

-- that of an application's acts
abbrev pub script_most : ℕ → Group → List WireLine → Script → ℕ
script_most n g lines app = sum_by (share_on n g lines) app.acts

-- that of all acts, and for each application the checks of what it leaves pending
abbrev pub most_in : List Script → ℕ → Option GroupState → ℕ
most_in apps n None = 0
most_in apps n (Some s) = sum_by (script_most n s.history.group s.lines) apps + MAX_PENDING * length apps

-- the most entries of group n of a document; of a group that it does not have there are none
abbrev pub most : Doc → ℕ → ℕ
most doc n = most_in doc.apps n (slice_get (all_opened doc.groups doc.wires) n)

-- the journal of each group has room for all of them
abbrev pub HasRoom : Doc → Type 0
HasRoom doc = (n : ℕ) → n < length doc.groups → most doc n < MAX_ENTRIES

-- a journal has no more entries than its group can get
abbrev pub IsWithinMost : Doc → Journal → Type 0
IsWithinMost doc journal = length journal.entries ≤ most doc journal.group

-- so it is with each journal that the scripts of a document make on one thread
abbrev pub JournalsAreWithinMost : Type 0
JournalsAreWithinMost = (doc : Doc) → All (IsWithinMost doc) (serial_run doc)

-- where each journal has room for all entries, no event meets a full one
abbrev pub FewEntriesFit : Type 0
FewEntriesFit = (doc : Doc) → HasRoom doc → serial_full doc ≡ None
