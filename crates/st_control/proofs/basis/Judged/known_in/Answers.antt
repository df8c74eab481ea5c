use Rattle.std.proofs.Common.{List, sym, subst}
use Rattle.std.specs.Arc.{arc_value}
use Rattle.std.specs.Prelude.{Bool}
use Rattle.st_net.specs.Sets.{is_in}
use Rattle.st_promise.specs.Book.{AreKept}
use Rattle.st_net.specs.Groups.{Group}
use Rattle.st_promise.specs.Same.{HasSameNetwork}
use Rattle.st_control.proofs.BasisLaws.{known_still}
use Rattle.st_control.proofs.basis.Judged.known_in.Goals as goal

pub returns-then-is_within : goal.returns-then-is_within
returns-then-is_within c =
    let topo = c.args.topo.now in
    let up = is_in c.args.up.now in
    subst (λ (marks : List Bool). AreKept topo up marks) (sym c.as_slice.ensures.value)
    (known_still topo (record { group = arc_value c.self.inside.topo; ticket = c.self.inside.ticket; sure = c.self.inside.sure; after = c.self.inside.after; first = c.self.inside.first; holds = c.self.inside.holds.items }) up c.keeps_with_more.ensures c.held_means_kept.ensures c.self.invariant (subst (λ (g : Group). HasSameNetwork g c.args.topo.now) c.deref.ensures (c.has_same_network.ensures.0 c.if-has_same_network.true)) (c.is_within.ensures.0 c.if-is_within.true))
