use Rattle.std.proofs.Common.{◌≡◌, map, take}
use Rattle.st_overlay.proofs.Openings.{device_vals, link_vals}
use Rattle.st_overlay.proofs.table.Table.opening.Given as goal

-- the values so far are those of the first entities
abbrev pub invariant-loop-i : goal.invariant-loop-i
invariant-loop-i l = l.devices.items ≡ map device_vals (take l.i l.topo.devices)

abbrev pub invariant-loop-i-2 : goal.invariant-loop-i-2
invariant-loop-i-2 l = record {
  devices : l.devices.items ≡ map device_vals l.topo.devices;
  links : l.links.items ≡ map link_vals (take l.i l.topo.links);
}
