use Rattle.std.proofs.Common.{subst}
use Rattle.std.specs.Arc.{arc_value}
use Rattle.st_net.specs.Sets.{is_in}
use Rattle.st_net.specs.Groups.{Group}
use Rattle.st_promise.specs.Same.{HasSameNetwork}
use Rattle.st_control.proofs.BasisLaws.{found_still}
use Rattle.st_control.proofs.basis.Judged.found_in.Goals as goal

pub returns-then-is_same_set-2 : goal.returns-then-is_same_set-2
returns-then-is_same_set-2 c =
    found_still c.args.topo.now (record { group = arc_value c.self.inside.topo; ticket = c.self.inside.ticket; sure = c.self.inside.sure; after = c.self.inside.after; first = c.self.inside.first; holds = c.self.inside.holds.items })
    (is_in c.args.before.now) (is_in c.args.after.now) c.self.invariant (subst (λ (g : Group). HasSameNetwork g c.args.topo.now) c.deref.ensures (c.has_same_network.ensures.0 c.if-has_same_network.true)) (c.is_same_set.ensures.0 c.if-is_same_set.true) (c.is_same_set-then-is_same_set.ensures.0 c.if-is_same_set-2.true)
