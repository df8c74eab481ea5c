-- What is printed of journals is read back.
use Rattle.std.specs.Prelude.{◌≡◌, ℕ, ◌+◌, ◌<◌, ◌≤◌, ◌^◌, List, [], ◌∷◌, ◌++◌, true, length, reverse, flat_map, All, Option, Some, None, Ok, slice_get}
use Rattle.st_text.specs.Words.{text_of}
use Rattle.st_net.specs.Groups.{Group, IsSound, are_new, are_names}
use Rattle.st_event.specs.declared.event.Event.{Event}
use Rattle.st_event.specs.declared.event.Event.TheVariants.{Submit, Check, Lock, Unlock, Send, Deliver, Finish, Report as make_report, Hear, Fail, Withdraw}
use Rattle.st_event.specs.declared.journal.Entry.{Entry}
use Rattle.st_event.specs.declared.journal.Journal.{Journal}
use Rattle.st_event.specs.Legal.{IsLegal}
use Rattle.st_entry.specs.Words.{Words}
use Rattle.st_journal.specs.JournalLines.{filled, group_names}
use Rattle.st_journal.specs.JournalReading.{journals_in}
use Rattle.st_journal.specs.Printing.{journal_lines, journal_text}

-- names that are spelled as names, none of which stands twice
pub record AreNames (names : List (List ℕ)) : Type 0 where
  pub spelled : are_names names ≡ true
  pub new : are_new [] names ≡ true

-- topologies, none of which has the name of another
pub record AreTopologies (groups : List Group) : Type 0 where
  pub names : AreNames (group_names groups)
  pub sound : All IsSound groups

-- where an event names an application, it is one of these
abbrev pub IsByApp : List (List ℕ) → Event → Type 0
IsByApp apps (Submit app rows) = app.0 < length apps
IsByApp apps Check = Unit {0}
IsByApp apps (Lock app e prio) = app.0 < length apps
IsByApp apps (Unlock app e prio) = app.0 < length apps
IsByApp apps (Send e) = Unit {0}
IsByApp apps (Deliver n) = Unit {0}
IsByApp apps (Finish e) = Unit {0}
IsByApp apps (make_report e) = Unit {0}
IsByApp apps (Hear n) = Unit {0}
IsByApp apps (Fail e vals health) = Unit {0}
IsByApp apps (Withdraw e) = Unit {0}

-- where an event names a message, its number has 32 bits
abbrev pub HasSmallNumber : Event → Type 0
HasSmallNumber (Submit app rows) = Unit {0}
HasSmallNumber Check = Unit {0}
HasSmallNumber (Lock app e prio) = Unit {0}
HasSmallNumber (Unlock app e prio) = Unit {0}
HasSmallNumber (Send e) = Unit {0}
HasSmallNumber (Deliver n) = n < 2 ^ 32
HasSmallNumber (Finish e) = Unit {0}
HasSmallNumber (make_report e) = Unit {0}
HasSmallNumber (Hear n) = n < 2 ^ 32
HasSmallNumber (Fail e vals health) = Unit {0}
HasSmallNumber (Withdraw e) = Unit {0}

-- the event of an entry is asked by one of these applications, and names a message as a call can
pub record IsAsked (apps : List (List ℕ)) (entry : Entry) : Type 0 where
  pub app : IsByApp apps entry.event
  pub number : HasSmallNumber entry.event

-- a legal journal of the group of its number, asked by these applications
pub record IsJournalAmong (groups : List Group) (apps : List (List ℕ)) (journal : Journal) : Type 0 where
  pub group : Group
  pub at : slice_get groups journal.group ≡ Some group
  pub legal : IsLegal group (reverse journal.entries)
  pub asked : All (IsAsked apps) journal.entries

-- journals in the order of their groups, whose numbers begin here: at most one of each group
abbrev pub AreInOrder : List Group → List (List ℕ) → ℕ → List Journal → Type 0
AreInOrder groups apps n [] = Unit {0}
AreInOrder groups apps n (journal ∷ journals) = (n ≤ journal.group) × IsJournalAmong groups apps journal × AreInOrder groups apps (journal.group + 1) journals

-- the lines of a journal, by the topology that has its number
abbrev pub lines_where : List (List ℕ) → List Entry → Option Group → List Words
lines_where apps entries None = []
lines_where apps entries (Some g) = journal_lines g apps entries

-- the text of journals, one behind another
abbrev pub journals_lines : List Group → List (List ℕ) → List Journal → List Words
journals_lines groups apps journals = flat_map (λ (journal : Journal). lines_where apps journal.entries (slice_get groups journal.group)) journals

abbrev pub journals_text : List Group → List (List ℕ) → List Journal → List ℕ
journals_text groups apps journals = text_of (journals_lines groups apps journals)

-- these journals behind those of the first groups, each in its group's place, with empty ones of the groups between
abbrev pub gathered : List Journal → List Journal → List Journal
gathered front [] = front
gathered front (journal ∷ journals) = gathered (filled journal.group front ++ journal ∷ []) journals

-- legal journals that are printed in the order of their groups are read back, and the other groups have the empty journal
abbrev pub JournalsPrintBack : Type 0
JournalsPrintBack = (groups : List Group) (apps : List (List ℕ)) (first : ℕ) (journals : List Journal) → AreTopologies groups → AreNames apps → AreInOrder groups apps 0 journals
    → journals_in groups apps first (journals_text groups apps journals) ≡ Ok (filled (length groups) (gathered [] journals))

-- a legal journal that is printed alone is read back
abbrev pub JournalPrintsBack : Type 0
JournalPrintsBack = (groups : List Group) (apps : List (List ℕ)) (first : ℕ) (g : Group) (journal : Journal) → AreTopologies groups → AreNames apps
    → slice_get groups journal.group ≡ Some g → IsLegal g (reverse journal.entries) → All (IsAsked apps) journal.entries
    → journals_in groups apps first (journal_text g apps journal.entries) ≡ Ok (filled (length groups) (filled journal.group [] ++ journal ∷ []))

-- journals of the groups from this number on
abbrev pub AreNumbered : ℕ → List Journal → Type 0
AreNumbered n [] = Unit {0}
AreNumbered n (journal ∷ journals) = (journal.group ≡ n) × AreNumbered (n + 1) journals

-- a legal journal of each group, printed in the order of groups, is read back
abbrev pub EachPrintsBack : Type 0
EachPrintsBack = (groups : List Group) (apps : List (List ℕ)) (first : ℕ) (journals : List Journal) → AreTopologies groups → AreNames apps
    → AreNumbered 0 journals → length journals ≡ length groups → All (IsJournalAmong groups apps) journals
    → journals_in groups apps first (journals_text groups apps journals) ≡ Ok journals
