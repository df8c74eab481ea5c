use Rattle.std.proofs.Common.{take, ap, ◌∙◌, arith}
use Rattle.std.proofs.lemmas.List.{length-map, take_all}
use Rattle.st_net.specs.Asks.{asks, ask_count}
use Rattle.st_net.specs.Promises.{is_kept}
use Rattle.st_net.specs.Sets.{is_in}
use Rattle.st_promise.specs.Book.{held_asks}
use Rattle.st_promise.proofs.book.Book.held_in.Goals as goal

pub returns : goal.returns
returns c =
    let g = c.args.topo.now in
    let up = is_in c.args.up.now in
    let all = length-map (asks g) (is_kept g up) in
    c.demands_held.ensures up (ap (take (ask_count g)) c.in_ok-answers.ensures ∙ take_all (ask_count g) (held_asks g up) (omega (arith, all)))
