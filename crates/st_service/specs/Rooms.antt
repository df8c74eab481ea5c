-- What lies in a room: a group's world, and the board by which its target is published.
use Rattle.std.specs.Prelude.{◌≡◌, ℕ, ◌<◌, ◌≤◌, Bool, true, false, List, ◌++◌, length}
use mathlib.Core.List.{IsPrefix}
use Rattle.st_event.specs.declared.journal.Entry.{Entry}
use Rattle.st_event.specs.History.{History}
use Rattle.st_event.specs.Proposals.{overlays}
use Rattle.st_wire.specs.declared.line.WireLine.{WireLine}
use Rattle.st_board.specs.Published.{Published}
use Rattle.st_service.specs.Asked.{all_own}

-- the group with its journal, the lines of its loss plan, what is published, and whether a publication was refused: then the room is spent
pub record RoomView : Type 0 where
  pub history : History
  pub lines : List WireLine
  pub published : Published
  pub spent : Bool

-- a room once nothing more is published
pub record EndedView : Type 0 where
  pub history : History
  pub published : Published

-- what is published is what the target was overlaid with, or a beginning of it in a spent room
pub record IsRoom (h : History) (b : Published) (spent : Bool) : Type 0 where
  pub group : b.group ≡ h.group
  pub going : b.ended ≡ false
  pub begun : IsPrefix b.proposals (overlays h.past)
  pub whole : spent ≡ false → b.proposals ≡ overlays h.past

-- the group, its loss plan and the board are the same
pub record IsSameRoom (old new : RoomView) : Type 0 where
  pub group : new.history.group ≡ old.history.group
  pub lines : new.lines ≡ old.lines
  pub board : new.published.book ≡ old.published.book

-- a publication was refused: the board is as it was, and the target has more overlays than the board
pub record WasRefused (old new : RoomView) : Type 0 where
  pub board : new.published ≡ old.published
  pub more : length old.published.proposals < length (overlays new.history.past)

-- a journal went on by at most so many entries, none of which is the request of another than this application
pub record Adds (number most : ℕ) (old new : List Entry) : Type 0 where
  pub more : List Entry
  pub all : new ≡ more ++ old
  pub own : all_own number more ≡ true
  pub few : length more ≤ most
