use Rattle.std.proofs.Common.{◌∙◌, arith}
use Rattle.st_net.proofs.GroupLaws.{ask_at}
use Rattle.st_promise.proofs.FlowLaws.{enough_kept, least_of, short_fails, least_holds}
use Rattle.st_promise.proofs.up_network.UpNetwork.find.Goals as goal

pub max_flow-requires : goal.max_flow-requires
max_flow-requires c =
    let ask = ask_at _ c.args.i c.is_sound.ensures c.requires.ask in
    rw (c.ask-ask.ensures, c.self.view_is, c.requires.nodes) (record { a_in = ask.a_in; b_in = ask.b_in; apart = ask.apart })

pub returns-in-Enough : goal.returns-in-Enough
returns-in-Enough c =
    let ask = ask_at _ c.args.i c.is_sound.ensures c.requires.ask in
    record {
      kept = λ up is. enough_kept c.args.topo.now up _ c.ask-ask.result c.self.inside.graph c.args.need c.max-amount.result ask.apart c.ask-ask.ensures (c.self.view_is ∙ is) c.requires.need (omega (arith, c.max-amount.ensures, c.max-least.ensures)) (rw c.in-Enough.is at c.in_ok-flow.ensures.every_cut);
      least = λ up is. tt;
      ascending = tt;
      sends = rw (c.ask-ask.ensures, c.self.view_is) at (rw c.in-Enough.is at c.in_ok-flow.ensures.enough);
      enough = omega (arith, c.max-amount.ensures, c.max-least.ensures);
    }

pub returns-then-cut-least : goal.returns-then-cut-least
returns-then-cut-least c =
    let ask = ask_at _ c.args.i c.is_sound.ensures c.requires.ask in
    let least = rw c.in-Short.is at c.in_ok-flow.ensures.least in
    record {
      kept = λ up is. short_fails c.args.topo.now up _ c.args.need c.max-least.result c.in-Short.cut c.requires.need c.max-least.ensures c.if-cut-least.true (least_of c.args.topo.now up _ c.ask-ask.result c.self.inside.graph c.in-Short.cut c.is_sound.ensures ask.apart c.ask-ask.ensures (c.self.view_is ∙ is) least);
      least = λ up is. least_of c.args.topo.now up _ c.ask-ask.result c.self.inside.graph c.in-Short.cut c.is_sound.ensures ask.apart c.ask-ask.ensures (c.self.view_is ∙ is) least;
      ascending = least.ascending;
      sends = tt;
      enough = tt;
    }

pub returns-else-cut-least : goal.returns-else-cut-least
returns-else-cut-least c =
    let ask = ask_at _ c.args.i c.is_sound.ensures c.requires.ask in
    let least = rw c.in-Short.is at c.in_ok-flow.ensures.least in
    record {
      kept = λ up is. least_holds c.args.topo.now up _ c.args.need c.max-least.result c.in-Short.cut c.requires.need c.max-least.ensures c.if-cut-least.false (least_of c.args.topo.now up _ c.ask-ask.result c.self.inside.graph c.in-Short.cut c.is_sound.ensures ask.apart c.ask-ask.ensures (c.self.view_is ∙ is) least);
      least = λ up is. tt;
      ascending = tt;
      sends = tt;
      enough = tt;
    }
