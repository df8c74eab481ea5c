use Rattle.std.proofs.Common.{refl}
use Rattle.st_text.proofs.PrintLemmas.{by_next, words_by}
use Rattle.st_net.specs.declared.entity.Entity.TheVariants.{Device}
use Rattle.st_net.specs.Groups.{name_of}
use Rattle.st_top.proofs.rolling.print_devices.Goals as goal

pub loop-device-preserved : goal.loop-device-preserved
loop-device-preserved c = by_next _ _ (words_by (λ device. name_of c.args.topo.now (Device device))) _ _ _ _ _ _ _ c.loop-device-test.true refl c.loop-device.invariant (rw c.entity_name-name.ensures at c.in_ok-print_word.ensures.ok)
