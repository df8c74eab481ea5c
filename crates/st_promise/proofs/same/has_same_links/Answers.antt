use Rattle.std.proofs.Common.{◌≡◌, ◌≤◌, length, refl, arith}
use Rattle.st_net.specs.Groups.{no_link}
use Rattle.st_promise.proofs.SameLaws.{same_by_place}
use Rattle.st_promise.proofs.same.has_same_links.Goals as goal

pub returns : goal.returns
returns c =
    let count : length c.args.topo.now.links ≡ length c.args.other.now.links = omega (arith, c.if-link_count.false, c.link_count.ensures, c.link_count-2.ensures) in
    let past : length c.args.topo.now.links ≤ c.loop-i.i = omega (arith, c.link_count-i-end.ensures) in
    (λ t. same_by_place no_link c.args.topo.now.links c.args.other.now.links c.loop-i.i count past c.loop-i.invariant, λ s. refl)
