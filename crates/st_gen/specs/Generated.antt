-- The document that is generated.
use Rattle.std.specs.Prelude.{◌≡◌, ◌≤◌, ◌%◌, ℕ, [], ◌∷◌, None}
use Rattle.st_grammar.specs.declared.doc.Doc.{Doc}
use Rattle.st_gen.specs.FatTrees.{fat_tree}
use Rattle.st_gen.specs.Scripts.{upgrader, engineer}

-- an even number from 4 to 10
pub record IsPods (pods : ℕ) : Type 0 where
  pub least : 4 ≤ pods
  pub most : pods ≤ 10
  pub even : pods % 2 ≡ 0

-- one group, which is a fat tree, and two applications; no wire lines and no order lines
abbrev pub generated : ℕ → ℕ → Doc
generated pods seed = record {
  groups = fat_tree pods ∷ [];
  wires = [] ∷ [];
  apps = upgrader pods seed ∷ engineer pods ∷ [];
  order = [];
  journal_at = None;
}
