use Rattle.std.proofs.Common.{◌≡◌, ◌≤◌, length, refl, arith}
use Rattle.st_net.specs.Groups.{no_promise}
use Rattle.st_promise.proofs.SameLaws.{same_by_place}
use Rattle.st_promise.proofs.same.has_same_promises.Goals as goal

pub returns : goal.returns
returns c =
    let count : length c.args.topo.now.promises ≡ length c.args.other.now.promises = omega (arith, c.if-promise_count.false, c.promise_count.ensures, c.promise_count-2.ensures) in
    let past : length c.args.topo.now.promises ≤ c.loop-i.i = omega (arith, c.promise_count-i-end.ensures) in
    (λ t. same_by_place no_promise c.args.topo.now.promises c.args.other.now.promises c.loop-i.i count past c.loop-i.invariant, λ s. refl)
