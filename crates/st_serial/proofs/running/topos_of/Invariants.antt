use Rattle.std.proofs.Common.{◌≡◌, map, take}
use Rattle.st_net.specs.Faults.{group_of}
use Rattle.st_serial.proofs.running.topos_of.Given as goal

-- the topologies of the groups so far
abbrev pub invariant-loop-parts : goal.invariant-loop-parts
invariant-loop-parts l = l.topos.items ≡ map group_of (take l.parts-index l.groups)
