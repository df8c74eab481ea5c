-- What the rows that lead back do.
use Rattle.std.specs.Prelude.{◌≡◌, ℕ, ◌≤◌, List, length, All}
use Rattle.st_net.specs.declared.entity.Entity.{Entity}
use Rattle.st_net.specs.declared.entity.Row.{Row}
use Rattle.st_net.specs.declared.entity.Var.{Var}
use Rattle.st_net.specs.declared.topo.TheConstants.{MAX_ROWS}
use Rattle.st_net.specs.Groups.{Group, IsSound}
use Rattle.st_net.specs.Merge.{target_with}
use Rattle.st_net.specs.Ranges.{IsVariableOf, RowFits, RowsFit}
use Rattle.st_event.specs.declared.journal.Entry.{Entry}
use Rattle.st_event.specs.Proposals.{overlays, target}
use Rattle.st_event.specs.Standing.{standing_of}
use Rattle.st_event.specs.Versions.{value_at}
use Rattle.st_control.specs.Control.{ControlView, standing_in, versions_in}
use Rattle.st_revert.specs.declared.back.Revert.TheVariants.{Rows}
use Rattle.st_revert.specs.Back.{back, back_in, revert_after, revert_of}

-- the target behind a journal, overlaid by the rows that lead back to a version, has the values of that version
abbrev pub LeadsBack : Type 0
LeadsBack = (g : Group) (past : List Entry) (n : ℕ) (e : Entity) (v : Var) → IsVariableOf e v g → target_with (target g past) (back g past n) e v ≡ value_at g past n e v

-- and all of it does, where all overlays fit the group
abbrev pub LeadsAllBack : Type 0
LeadsAllBack = (g : Group) (past : List Entry) (n : ℕ) → IsSound g → All (All (RowFits g)) (overlays past) → target_with (target g past) (back g past n) ≡ value_at g past n

-- of a checker that stands as a journal leaves its group, the rows and the answer are those behind the journal
pub record AnswersAs (k : ControlView) (past : List Entry) (n : ℕ) : Type 0 where
  pub rows : back_in k n ≡ back k.group past n
  pub answer : revert_of k n ≡ revert_after k.group past n

abbrev pub IsOfJournal : Type 0
IsOfJournal = (k : ControlView) (past : List Entry) (n : ℕ) → standing_in k ≡ standing_of k.group past → versions_in k ≡ value_at k.group past → AnswersAs k past n

-- where all overlays fit the group, the rows that lead back are a proposal's, if they are not too few and not too many
abbrev pub BackFits : Type 0
BackFits = (g : Group) (past : List Entry) (n : ℕ) → IsSound g → All (All (RowFits g)) (overlays past) → 1 ≤ length (back g past n) → length (back g past n) ≤ MAX_ROWS → RowsFit g (back g past n)

-- what is asked for a version is the rows that lead back to it: where all overlays fit the group a proposal's, and overlaid they give the
-- version's values
pub record IsAsked (g : Group) (past : List Entry) (n : ℕ) (rows : List Row) : Type 0 where
  pub are_back : rows ≡ back g past n
  pub fits : IsSound g → All (All (RowFits g)) (overlays past) → RowsFit g rows
  pub leads : IsSound g → All (All (RowFits g)) (overlays past) → target_with (target g past) rows ≡ value_at g past n

abbrev pub AsksBack : Type 0
AsksBack = (g : Group) (past : List Entry) (n : ℕ) (rows : List Row) → revert_after g past n ≡ Rows rows → IsAsked g past n rows
