use Rattle.std.proofs.Common.{◌≡◌, ◌-◌, take}
use Rattle.st_net.specs.Sets.{is_in}
use Rattle.st_promise.specs.KeptFlow.{lost}
use Rattle.st_promise.proofs.kept_flow.KeptFlow.left.Given as goal

abbrev pub invariant-loop-share : goal.invariant-loop-share
invariant-loop-share l = l.left ≡ l.self.sent - lost (is_in l.up) (take l.share-index l.self.shares.items)
