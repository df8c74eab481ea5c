use Rattle.std.proofs.Common.{◌∙◌, subst}
use Rattle.std.specs.Prelude.{true}
use Rattle.st_flow.specs.Network.{Network, IsLeastCut}
use Rattle.st_promise.specs.UpNetwork.{up_network}
use Rattle.st_promise.proofs.FlowLaws.{value_is}
use Rattle.st_promise.proofs.up_network.UpNetwork.least.Goals as goal

pub least_cut-requires : goal.least_cut-requires
least_cut-requires c = rw (c.self.view_is, c.requires.whole) (record { a_in = c.requires.a; b_in = c.requires.b; apart = c.requires.apart })

pub returns : goal.returns
returns c =
    let least : IsLeastCut (up_network c.args.topo.now (λ e. true)) c.args.a c.args.b c.in_ok-cut.cut.value c.in_ok-cut.cut.side.items = subst (λ (n : Network). IsLeastCut n c.args.a c.args.b c.in_ok-cut.cut.value c.in_ok-cut.cut.side.items) (c.self.view_is ∙ c.requires.whole) c.in_ok-cut.ensures in
    record { least = least; value = value_is c.args.topo.now (λ e. true) c.args.a c.args.b c.in_ok-cut.cut.value c.in_ok-cut.cut.side.items c.is_sound.ensures c.requires.apart least }
