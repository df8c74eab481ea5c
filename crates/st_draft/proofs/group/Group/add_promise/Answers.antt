use Rattle.std.proofs.Common.{refl, ap}
use Rattle.st_grammar.specs.Draft.{GroupDraft}
use Rattle.st_draft.proofs.PromiseLemmas.{new_pair, pair_kept}
use Rattle.st_draft.proofs.group.Group.add_promise.Goals as goal

pub add-requires : goal.add-requires
add-requires c = new_pair c.self.inside.devices.items _ c.self.inside.promises.items _ c.self.inside.pairs c.args.promise c.bytes.result.now c.bytes-2.result.now _ _ c.self.invariant.1
    (ap (λ (g : GroupDraft). g.devices) c.self.view_is) (ap (λ (g : GroupDraft). g.promises) c.self.view_is) c.bytes.ensures.bytes c.bytes-2.ensures.bytes c.place-a.ensures c.place-b.ensures
    (record { a = c.requires.a_known; b = c.requires.b_known }) c.requires.fresh

pub invariant_of-self-2 : goal.invariant_of-self-2
invariant_of-self-2 c = (
  c.self.invariant.0,
  pair_kept c.self.inside.devices.items _ c.self.inside.promises.items _ c.self.inside.pairs _ c.args.promise c.bytes.result.now c.bytes-2.result.now _ _ c.self.invariant.1
      (ap (λ (g : GroupDraft). g.devices) c.self.view_is) c.bytes.ensures.bytes c.bytes-2.ensures.bytes c.place-a.ensures c.place-b.ensures
      (record { a = c.requires.a_known; b = c.requires.b_known })
      (rw (c.push_reserved.ensures.items, c.in_ok-reserve.ensures.items) refl)
      c.in_ok-add.ensures.ok,
)
