use Rattle.std.proofs.Common.{◌≡◌, ◌+◌, [], true, false, refl, arith}
use Rattle.st_net.specs.Names.{is_name, is_among}
use Rattle.st_net.specs.Faults.{device_names, first_twice}
use Rattle.st_net.proofs.NameSteps.{added_here, new_here}
use Rattle.st_net.proofs.NameLemmas.{names_added}
use Rattle.st_net.proofs.build.device_names.Goals as goal

pub loop-i-preserved : goal.loop-i-preserved
loop-i-preserved c =
    let spelling : is_name c.index-devices-i.result.name ≡ true = rw c.bytes.ensures.bytes at c.bytes.ensures.spelling in
    let new : is_among c.index-devices-i.result.name c.loop-i.names ≡ false = cc in
    rw c.in_ok-add.ensures.ok (record {
      left = new_here (λ d. d.name) c.args.devices.now c.loop-i.i c.index-devices-i.result (omega arith) c.index-devices-i.is c.loop-i.names c.loop-i.i (c.loop-i.i + 1) (first_twice [] 0 (device_names c.args.devices.now)) refl new c.loop-i.invariant.left;
      added = rw c.loop-i.invariant.added (added_here (λ d. d.name) c.args.devices.now c.loop-i.i c.index-devices-i.result (omega arith) c.index-devices-i.is);
      named = names_added c.loop-i.names c.index-devices-i.result.name c.loop-i.invariant.named spelling;
    })
