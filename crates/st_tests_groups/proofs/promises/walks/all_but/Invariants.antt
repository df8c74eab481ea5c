use Rattle.st_net.specs.Sets.{MarksOf}
use Rattle.st_tests_groups.proofs.promises.walks.all_but.Given as goal

abbrev pub invariant-loop-device : goal.invariant-loop-device
invariant-loop-device l = MarksOf l.topo l.up
