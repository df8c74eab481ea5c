-- A topology as contracts see it, by its fields.
use Rattle.std.specs.Prelude.{ℕ, List}
use Rattle.st_net.specs.declared.topo.Openings.{Openings}
use Rattle.st_net.specs.Groups.{Group, plain_group}

-- the group of the names of its devices and of its links, and of what stands beside them
abbrev pub group_in : List (List ℕ) → List (List ℕ) → Openings → Group
group_in device_names link_names openings = plain_group openings.name device_names link_names openings.devices.items openings.links.items openings.promises.items
