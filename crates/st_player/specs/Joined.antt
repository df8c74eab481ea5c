-- Of no concern to callers: the text of values one after another.
use Rattle.std.specs.Prelude.{◌≡◌, ◌<◌, ◌≤◌, ◌-◌, ℕ, Bool, true, false, not, List, [], ◌∷◌, ◌++◌, Option, Some, None}
use Rattle.serde_json.specs.Data.{Data, Members, no_members, member}
use Rattle.serde_json.specs.Written.{comma_if, compact_text}
use Rattle.st_player.specs.Pictures.{size_of}
use Rattle.st_player.specs.Shown.{is_shown}

-- with a comma before each, and one before the first only where something stands before it
abbrev pub joined_behind : Bool → List Data → List ℕ
joined_behind later [] = []
joined_behind later (d ∷ ds) = comma_if later ++ (compact_text d ++ joined_behind true ds)

abbrev pub joined : List Data → List ℕ
joined ds = joined_behind false ds

-- a value that fits into this room was added, and so much room is left
pub record IsWritten (old new : List ℕ) (d : Data) (is_first : Bool) (room left : ℕ) : Type 0 where
  pub fits : size_of d ≤ room
  pub left_is : left ≡ room - size_of d
  pub text_is : new ≡ old ++ (comma_if (not is_first) ++ compact_text d)
  pub shown : is_shown (compact_text d) ≡ true

-- it is larger than the room, and nothing was added
pub record IsLeftOut (old new : List ℕ) (d : Data) (room : ℕ) : Type 0 where
  pub larger : room < size_of d
  pub text_is : new ≡ old

abbrev pub WritesFitting : List ℕ → List ℕ → Data → Bool → ℕ → Option ℕ → Type 0
WritesFitting old new d is_first room (Some left) = IsWritten old new d is_first room left
WritesFitting old new d is_first room None = IsLeftOut old new d room

abbrev pub HasMembers : Members → Type 0
HasMembers no_members = ⊥
HasMembers (member k d ms) = Unit {0}
