-- What it is that the journals of a document's groups were kept.
use Rattle.std.specs.Prelude.{List, [], ◌∷◌, map, reverse}
use Rattle.st_net.specs.Faults.{group_of}
use Rattle.st_net.specs.Groups.{Group, IsSound}
use Rattle.st_event.specs.declared.journal.Journal.{Journal}
use Rattle.st_event.specs.Legal.{AtEach, IsLegal}
use Rattle.st_event.specs.Network.{KeepsPromises}
use Rattle.st_grammar.specs.declared.doc.Doc.{Doc}

-- the groups of a document, as they are built
abbrev pub groups_of : Doc → List Group
groups_of doc = map group_of doc.groups

-- the group is sound, its journal is legal, and at each of the journal's moments the group's promises were kept
pub record IsKept (g : Group) (journal : Journal) : Type 0 where
  pub sound : IsSound g
  pub legal : IsLegal g (reverse journal.entries)
  pub promises : AtEach (KeepsPromises g) (reverse journal.entries)

-- each group has its journal, and it is kept
abbrev pub AreKept : List Group → List Journal → Type 0
AreKept [] [] = Unit {0}
AreKept [] (journal ∷ journals) = ⊥
AreKept (g ∷ groups) [] = ⊥
AreKept (g ∷ groups) (journal ∷ journals) = IsKept g journal × AreKept groups journals
