use Rattle.std.proofs.Common.{length, rules, arith}
use Rattle.st_net.specs.InOrder.{entities_among}
use Rattle.st_net.proofs.EntityOrder.{among_count, among_at, stands_among}
use Rattle.st_overlay.specs.Values.{IsIn}
use Rattle.st_plan.proofs.Found.{found_more, found_in_all}
use Rattle.st_plan.proofs.unsettled.plan.Goals as goal

pub add_unsettled-requires-clause-entity : goal.add_unsettled-requires-clause-entity
add_unsettled-requires-clause-entity c =
    let devices = length c.args.target.now.devices in
    let links = length c.args.target.now.links in
    let entity = c.at_place-entity.result in
    among_at (IsIn c.args.target.now) devices links c.loop-place.place entity (omega arith)
    (stands_among c.device_count-devices.result devices links c.loop-place.place entity c.device_count-devices.ensures (omega arith) c.at_place-entity.ensures)
    (λ i low. low) (λ i low. low)

pub loop-place-preserved : goal.loop-place-preserved
loop-place-preserved c = λ g of.
    let devices = length c.args.target.now.devices in
    let links = length c.args.target.now.links in
    let entity = c.at_place-entity.result in
    let count = among_count devices links in
    found_more _ (entities_among devices links) c.loop-place.place entity _ _ (omega (arith, count))
    (stands_among c.device_count-devices.result devices links c.loop-place.place entity c.device_count-devices.ensures (omega arith) c.at_place-entity.ensures)
    (c.loop-place.invariant g of) (search rules)

pub returns : goal.returns
returns c = λ g of. found_in_all _ g (length c.args.target.now.devices) (length c.args.target.now.links) c.loop-place.place _ (omega arith) of.devices of.links (c.loop-place.invariant g of)
