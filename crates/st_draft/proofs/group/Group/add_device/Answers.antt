use Rattle.std.proofs.Common.{arith, ap, refl}
use Rattle.st_grammar.specs.Draft.{GroupDraft}
use Rattle.st_grammar.proofs.TorLemmas.{tors_few}
use Rattle.st_draft.proofs.GroupLemmas.{device_added}
use Rattle.st_draft.proofs.PromiseLemmas.{pairs_with_device}
use Rattle.st_draft.proofs.group.Group.add_device.Goals as goal

pub overflow_add-self : goal.overflow_add-self
overflow_add-self c = omega (arith, c.self.invariant.0.tor_count, tors_few c.self.inside.devices.items, c.self.invariant.0.few_devices, c.count_of.ensures.few)

pub invariant_of-self-2 : goal.invariant_of-self-2
invariant_of-self-2 c =
    let devices = ap (λ (g : GroupDraft). g.devices) c.self.view_is in (
      device_added _ _ _ _ _ _ _ _ c.args.device c.self.invariant.0
          (rw (c.push_reserved.ensures.items, c.in_ok-reserve.ensures.items) refl)
          (rw c.in_ok-add.ensures.ok refl)
          (rw c.count_of.ensures.value refl)
          (rw devices c.requires.room),
      pairs_with_device _ _ c.args.device _ _ (rw (c.push_reserved.ensures.items, c.in_ok-reserve.ensures.items) refl) c.self.invariant.1,
    )
