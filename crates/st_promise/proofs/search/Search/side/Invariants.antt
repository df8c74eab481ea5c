use Rattle.std.proofs.Common.{◌≡◌}
use Rattle.st_net.specs.Cuts.{numbers_in}
use Rattle.st_promise.specs.Search.{is_found}
use Rattle.st_promise.proofs.search.Search.side.Given as goal

abbrev pub invariant-loop-device : goal.invariant-loop-device
invariant-loop-device l = l.devices.items ≡ numbers_in l.device (is_found l.self)
