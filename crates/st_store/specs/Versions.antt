-- A group's target, and what it was at each version.
use Rattle.std.specs.Prelude.{◌≡◌, ℕ, ◌+◌, Bool, List, [], length, if◌then◌else◌}
use Rattle.st_net.specs.declared.entity.Entity.{Entity}
use Rattle.st_net.specs.declared.entity.Row.{Row}
use Rattle.st_net.specs.Groups.{Group}
use Rattle.st_net.specs.Merge.{merge_of, target_with}
use Rattle.st_overlay.specs.Values.{Values, IsTableOf, vals_at, value_in}
use Rattle.st_store.specs.Changes.{ChangeLists, IsOrderly, changes_of, vals_at_version, value_at, values_with}

-- the last version, its values, and the changes that led to it
pub record VersionsView : Type 0 where
  pub version : ℕ
  pub target : Values
  pub changes : ChangeLists

-- as many entities opened, changed and are in the target
pub record HasSameEntities (v : VersionsView) : Type 0 where
  pub opening_devices : length v.changes.opening.devices ≡ length v.target.devices
  pub opening_links : length v.changes.opening.links ≡ length v.target.links
  pub devices : length v.changes.devices ≡ length v.target.devices
  pub links : length v.changes.links ≡ length v.target.links

-- the target is what the changes lead to, and no change is of a later version
pub record IsCurrent (v : VersionsView) : Type 0 where
  pub entities : HasSameEntities v
  pub orderly : (e : Entity) → IsOrderly v.version (changes_of v.changes e)
  pub current : (e : Entity) → vals_at v.target e ≡ vals_at_version v.changes v.version e

-- the opening of a group
pub record IsOpeningOf (g : Group) (v : VersionsView) : Type 0 where
  pub of : IsTableOf g v.target
  pub version : v.version ≡ 0
  pub target : value_in v.target ≡ merge_of g []
  pub values : value_at v.changes ≡ (λ n. merge_of g [])

-- rows that are accepted are merged as the next version, and the versions before stay; else all stays
pub record MergesIf (accept : Bool) (old new : VersionsView) (rows : List Row) : Type 0 where
  pub version : new.version ≡ (if accept then old.version + 1 else old.version)
  pub target : value_in new.target ≡ (if accept then target_with (value_in old.target) rows else value_in old.target)
  pub values : value_at new.changes ≡ (if accept then values_with (value_at old.changes) old.version rows else value_at old.changes)
  pub devices : length new.target.devices ≡ length old.target.devices
  pub links : length new.target.links ≡ length old.target.links
  pub of : (g : Group) → IsTableOf g old.target → IsTableOf g new.target
