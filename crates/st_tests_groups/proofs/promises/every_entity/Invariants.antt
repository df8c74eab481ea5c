use Rattle.st_net.specs.Sets.{MarksOf}
use Rattle.st_tests_groups.proofs.promises.every_entity.Given as goal

abbrev pub invariant-loop-device : goal.invariant-loop-device
invariant-loop-device l = MarksOf l.topo l.up

abbrev pub invariant-loop-link : goal.invariant-loop-link
invariant-loop-link l = MarksOf l.topo l.up
