-- The order of entities: all devices, then all links. Lists that have an item for each entity stand in this order.
use Rattle.std.specs.Prelude.{ℕ, ◌+◌, nat_lt, List, ◌++◌, length, map, take, drop, slice_index_or, if◌then◌else◌}
use Rattle.std.specs.List.{range_with_len}
use Rattle.st_net.specs.declared.entity.Entity.{Entity}
use Rattle.st_net.specs.declared.entity.Entity.TheVariants.{Device, Link}
use Rattle.st_net.specs.declared.message.Report.{Report}
use Rattle.st_net.specs.Groups.{Group}
use Rattle.st_net.specs.Reports.{opening_report}

-- how many entities a group has
abbrev pub entity_count : Group → ℕ
entity_count g = length g.devices + length g.links

-- so many devices, and then so many links
abbrev pub entities_among : ℕ → ℕ → List Entity
entities_among devices links = map Device (range_with_len 0 devices) ++ map Link (range_with_len 0 links)

abbrev pub entities_of : Group → List Entity
entities_of g = entities_among (length g.devices) (length g.links)

-- where an entity stands, of so many devices and any links
abbrev pub place_behind : ℕ → Entity → ℕ
place_behind devices (Device i) = i
place_behind devices (Link i) = devices + i

abbrev pub place_in : Group → Entity → ℕ
place_in g = place_behind (length g.devices)

-- the item of an entity; the default where the list has none
abbrev pub item_in : {X : Type 0} → Group → List X → (Entity → X) → Entity → X
item_in g items default (Device i) = slice_index_or (take (length g.devices) items) i (default (Device i))
item_in g items default (Link i) = slice_index_or (drop (length g.devices) items) i (default (Link i))

-- the kept report of an entity; the opening report where the list has none
abbrev pub report_in : Group → List Report → Entity → Report
report_in g reports = item_in g reports (opening_report g)

-- the stamp of an entity; 0 of one that the group does not have
abbrev pub stamp_in : Group → List ℕ → Entity → ℕ
stamp_in g stamps (Device i) = if nat_lt i (length g.devices) then slice_index_or stamps i 0 else 0
stamp_in g stamps (Link i) = slice_index_or stamps (length g.devices + i) 0
