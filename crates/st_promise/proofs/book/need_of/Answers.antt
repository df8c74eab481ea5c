use Rattle.std.proofs.Common.{arith, ap, ◌∙◌}
use Rattle.st_net.specs.declared.promise.Promise.{Promise}
use Rattle.st_net.specs.Asks.{ask_of}
use Rattle.st_promise.specs.UpNetwork.{baseline_of}
use Rattle.st_net.proofs.GroupLaws.{ask_at}
use Rattle.st_promise.proofs.FlowLaws.{share_fits, need_is}
use Rattle.st_promise.proofs.book.need_of.Goals as goal

pub least-requires : goal.least-requires
least-requires c =
    let ask = ask_at _ c.args.i c.is_sound.ensures c.requires.ask in
    rw c.ask-ask.ensures (record { tree = c.requires.tree; whole = c.requires.whole; a = ask.a_in; b = ask.b_in; apart = ask.apart })

pub overflow_mul-share : goal.overflow_mul-share
overflow_mul-share c =
    let ask = ask_at _ c.args.i c.is_sound.ensures c.requires.ask in
    let baseline = c.in_ok-baseline.ensures ∙ ap (λ (p : Promise). baseline_of c.args.topo.now p.a p.b) c.ask-ask.ensures in
    omega (arith, share_fits c.args.topo.now (ask_of c.args.topo.now c.args.i) c.ask-ask.result c.from.result c.in_ok-baseline.baseline c.is_sound.ensures ask c.ask-ask.ensures c.from.ensures baseline)

pub returns : goal.returns
returns c =
    let baseline = c.in_ok-baseline.ensures ∙ ap (λ (p : Promise). baseline_of c.args.topo.now p.a p.b) c.ask-ask.ensures in
    need_is c.args.topo.now (ask_of c.args.topo.now c.args.i) c.ask-ask.result c.from.result c.in_ok-baseline.baseline c.div_ceil.result c.ask-ask.ensures c.from.ensures baseline c.div_ceil.ensures
