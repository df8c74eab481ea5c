-- Of no concern to callers: values of JSON that are printed exactly, and whose text ends no element of a page.
use Rattle.std.specs.Prelude.{◌≡◌, Bool, true, false, ◌&&◌}
use Rattle.json.specs.Print.{quoted}
use Rattle.serde_json.specs.Data.{Data, Items, no_items, item, Members, no_members, member}
use Rattle.serde_json.specs.Written.{compact_text, has_float, items_have_float, members_have_float}
use Rattle.st_player.specs.Shown.{is_shown}

pub record IsSafe (d : Data) : Type 0 where
  pub exact : has_float d ≡ false
  pub shown : is_shown (compact_text d) ≡ true

-- whether the text of each item, and of each member, may stand in an element
abbrev pub are_items_shown : Items → Bool
are_items_shown no_items = true
are_items_shown (item d ds) = is_shown (compact_text d) && are_items_shown ds

abbrev pub are_members_shown : Members → Bool
are_members_shown no_members = true
are_members_shown (member k d ms) = is_shown (quoted k) && (is_shown (compact_text d) && are_members_shown ms)

pub record AreSafeItems (ds : Items) : Type 0 where
  pub exact : items_have_float ds ≡ false
  pub shown : are_items_shown ds ≡ true

pub record AreSafeMembers (ms : Members) : Type 0 where
  pub exact : members_have_float ms ≡ false
  pub shown : are_members_shown ms ≡ true
