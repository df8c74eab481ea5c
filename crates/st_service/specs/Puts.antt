-- What one hold of a room's lock leaves with a pass.
use Rattle.std.specs.Prelude.{◌≡◌, ◌⊎◌, ℕ, true, List, ◌++◌, length}
use mathlib.Core.List.{IsPrefix}
use Rattle.st_event.specs.declared.journal.Entry.{Entry}
use Rattle.st_event.specs.declared.journal.TheConstants.{MAX_ENTRIES}
use Rattle.st_world.specs.World.{IsBeginning}
use Rattle.st_world.specs.Rounds.{Course, is_full}
use Rattle.st_world.specs.declared.world.rounds.Going.{Going}
use Rattle.st_service.specs.Lines.{tagged, numbers}
use Rattle.st_service.specs.Made.{Made, past_in}

-- entries made at the end of the journal mid, which went on from what the pass had seen: they are consecutive, and all in its list
abbrev pub Puts : ℕ → List Entry → List Made → List Made → List ℕ → List Made → List ℕ → Type 0
Puts number es mid before was after now = IsPrefix before mid × (after ≡ mid ++ tagged number es) × (now ≡ was ++ numbers (length mid) (length es))

-- all that a course asks for was entered behind the journal mid, or as far as the journal had room
pub record Enters (course : List Entry → Course) (going : Going) (number : ℕ) (mid before : List Made) (was : List ℕ) (after : List Made) (now : List ℕ) : Type 0 where
  pub entries : List Entry
  pub puts : Puts number entries mid before was after now
  pub run : course (past_in mid) ≡ record { past = past_in after; stopped = is_full going }
  pub full : is_full going ≡ true → length after ≡ MAX_ENTRIES

-- a part of the course was entered, from its first event on
pub record EntersPart (course : List Entry → Course) (number : ℕ) (mid before : List Made) (was : List ℕ) (after : List Made) (now : List ℕ) : Type 0 where
  pub entries : List Entry
  pub puts : Puts number entries mid before was after now
  pub part : IsBeginning (past_in after) (course (past_in mid)).past

-- where memory was refused nothing was entered or seen, or a part was entered
abbrev pub EntersOrNot : (List Entry → Course) → ℕ → List Made → List Made → List ℕ → List Made → List ℕ → Type 0
EntersOrNot course number mid before was after now = ((after ≡ before) × (now ≡ was)) ⊎ EntersPart course number mid before was after now
