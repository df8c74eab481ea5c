-- What comes of journals that are gone through again: worlds with these journals, each of them kept.
use Rattle.std.specs.Prelude.{◌≡◌, List, [], ◌∷◌, map, reverse}
use Rattle.st_net.specs.Groups.{Group, IsSound}
use Rattle.st_event.specs.declared.journal.Journal.{Journal}
use Rattle.st_event.specs.History.{History}
use Rattle.st_event.specs.Legal.{IsLegal, AtEach}
use Rattle.st_event.specs.Network.{KeepsPromises}
use Rattle.st_serial.specs.Serial.{GroupState, states_of}
use Rattle.st_world.specs.World.{WorldView}
use Rattle.st_replay.specs.declared.replaying.Again.{Again}
use Rattle.st_replay.specs.declared.replaying.Again.TheVariants as again
use Rattle.st_replay.specs.Replaying.{IsFirstIllegal}

-- groups, each with its journal
abbrev pub histories_of : List Group → List Journal → List History
histories_of [] journals = []
histories_of (g ∷ groups) [] = []
histories_of (g ∷ groups) (journal ∷ journals) = record { group = g; past = reverse journal.entries } ∷ histories_of groups journals

-- worlds, each as the group with its journal
abbrev pub histories : List WorldView → List History
histories worlds = map (λ world. world.history) worlds

-- the group is sound, the journal is legal, and at each of its moments the group's promises were kept
pub record IsKeptHistory (h : History) : Type 0 where
  pub sound : IsSound h.group
  pub legal : IsLegal h.group h.past
  pub promises : AtEach (KeepsPromises h.group) h.past

abbrev pub AreKeptStates : List GroupState → Type 0
AreKeptStates [] = Unit {0}
AreKeptStates (s ∷ ss) = IsKeptHistory s.history × AreKeptStates ss

-- what came of the journals of groups: worlds with these journals, each of them kept, or their first entry that is not legal
abbrev pub IsAgain : List Group → List Journal → Again → Type 0
IsAgain groups journals (again.Worlds worlds) = (histories worlds.items ≡ histories_of groups journals) × AreKeptStates (states_of worlds.items)
IsAgain groups journals (again.Illegal group entry) = IsFirstIllegal groups journals group entry
