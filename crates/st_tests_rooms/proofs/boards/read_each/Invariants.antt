use Rattle.std.proofs.Common.{All}
use Rattle.st_net.specs.Groups.{IsEntityOf}
use Rattle.st_tests_rooms.proofs.boards.read_each.Given as goal

abbrev pub invariant-loop : goal.invariant-loop
invariant-loop l = All (λ r. IsEntityOf r.group l.fn.at) l.readers.items
