use Rattle.std.proofs.Common.{ap, sym, ◌∙◌}
use Rattle.std.specs.Prelude.{Some, None}
use Rattle.st_net.specs.Faults.{was_promised}
use Rattle.st_grammar.specs.Draft.{GroupDraft}
use Rattle.st_draft.proofs.PromiseLemmas.{promised}
use Rattle.st_draft.proofs.group.Group.was_promised.Goals as goal

pub returns-in-Some-Some : goal.returns-in-Some-Some
returns-in-Some-Some c = c.has_either.ensures
    ∙ promised c.self.inside.devices.items c.self.inside.promises.items c.self.inside.pairs c.self.inside.device_names c.args.a.now c.args.b.now (Some c.in-Some-Some.a) (Some c.in-Some-Some.b) c.self.invariant.1 c.self.invariant.0.device_index (sym c.in-Some-Some.is-0 ∙ c.find.ensures.found) (sym c.in-Some-Some.is-1 ∙ c.find-2.ensures.found)
    ∙ ap (λ (g : GroupDraft). was_promised c.args.a.now c.args.b.now g.promises) c.self.view_is

pub returns-in_default : goal.returns-in_default
returns-in_default c =
    promised c.self.inside.devices.items c.self.inside.promises.items c.self.inside.pairs c.self.inside.device_names c.args.a.now c.args.b.now (Some c.in_default.field-0-0) None c.self.invariant.1 c.self.invariant.0.device_index (sym c.in_default.is-0 ∙ c.find.ensures.found) (sym c.in_default.is-1 ∙ c.find-2.ensures.found)
    ∙ ap (λ (g : GroupDraft). was_promised c.args.a.now c.args.b.now g.promises) c.self.view_is

pub returns-in_default-2 : goal.returns-in_default-2
returns-in_default-2 c =
    promised c.self.inside.devices.items c.self.inside.promises.items c.self.inside.pairs c.self.inside.device_names c.args.a.now c.args.b.now None c.find-2.result c.self.invariant.1 c.self.invariant.0.device_index (sym c.in_default.is-0 ∙ c.find.ensures.found) c.find-2.ensures.found
    ∙ ap (λ (g : GroupDraft). was_promised c.args.a.now c.args.b.now g.promises) c.self.view_is
