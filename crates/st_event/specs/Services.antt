-- A service of several groups, and the journals that its events make.
use Rattle.std.specs.Prelude.{◌≡◌, ℕ, ◌==◌, ◌<◌, nat_lt, List, [], ◌∷◌, length, slice_get, Some, if◌then◌else◌}
use Rattle.st_event.specs.declared.event.Event.{Event}
use Rattle.st_event.specs.declared.journal.Entry.{Entry}
use Rattle.st_event.specs.declared.journal.TheConstants.{MAX_ENTRIES}
use Rattle.st_net.specs.Groups.{Group}
use Rattle.st_event.specs.Replies.{reply}

-- an event with the reply that the entries before it call for
abbrev pub entry_after : Group → List Entry → Event → Entry
entry_after g past event = record { event = event; reply = reply g past event }

-- a group's journal after one event: it is entered, unless the journal is full
abbrev pub journal_after : Group → Event → List Entry → List Entry
journal_after g event past = if nat_lt (length past) MAX_ENTRIES then entry_after g past event ∷ past else past

-- and after these events, the first of them first
abbrev pub journal_by : Group → List Event → List Entry → List Entry
journal_by g [] past = past
journal_by g (event ∷ events) past = journal_by g events (journal_after g event past)

-- an event of the group of a number
pub record GroupEvent : Type 0 where
  pub group : ℕ
  pub event : Event

-- the journals after one event
abbrev pub journals_after : (ℕ → Group) → GroupEvent → (ℕ → List Entry) → ℕ → List Entry
journals_after groups at journals k = if at.group == k then journal_after (groups k) at.event (journals k) else journals k

-- the journals of all groups after these events, the first of them first
abbrev pub journals_by : (ℕ → Group) → List GroupEvent → (ℕ → List Entry) → ℕ → List Entry
journals_by groups [] journals = journals
journals_by groups (at ∷ later) journals = journals_by groups later (journals_after groups at journals)

-- the events of one group, in order
abbrev pub events_of : ℕ → List GroupEvent → List Event
events_of k [] = []
events_of k (at ∷ later) = if at.group == k then at.event ∷ events_of k later else events_of k later

-- these are the numbers from 0 on of so many
abbrev pub AreNumbers : List ℕ → ℕ → Type 0
AreNumbers ns count = (length ns ≡ count) × ((k : ℕ) → k < count → slice_get ns k ≡ Some k)
