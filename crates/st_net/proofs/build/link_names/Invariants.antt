use Rattle.std.proofs.Common.{◌≡◌, ◌+◌, ◌++◌, true, length, take, drop}
use Rattle.st_net.specs.Groups.{are_names}
use Rattle.st_net.specs.Faults.{link_names, first_twice}
use Rattle.st_net.proofs.build.link_names.Given as goal

abbrev pub invariant-loop-i : goal.invariant-loop-i
invariant-loop-i l = record {
  left : first_twice (l.devices ++ l.names) (length l.devices + l.i) (link_names (drop l.i l.links)) ≡ first_twice l.devices (length l.devices) (link_names l.links);
  added : l.names ≡ link_names (take l.i l.links);
  named : are_names l.names ≡ true;
}
