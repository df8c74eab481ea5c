use Rattle.std.proofs.Common.{◌<◌, length, ap, ◌∙◌, arith}
use Rattle.std.specs.Prelude.{IfSome}
use Rattle.st_net.specs.Sets.{is_in}
use Rattle.st_net.specs.Asks.{ask_count}
use Rattle.st_promise.specs.ToFirst.{AreNetworks, open_from}
use Rattle.st_promise.proofs.ToFirstLaws.{open_below, open_some, filled}
use Rattle.st_promise.proofs.to_first.Ahead.fill.Goals.{then-is_none+in_ok-of+in-Some-1, then-is_none+in_ok-of+in-None-1, else-is_none}
use Rattle.st_promise.proofs.to_first.Ahead.fill.Goals as goal

pub changes_of-requires-clause-those : goal.changes_of-requires-clause-those
changes_of-requires-clause-those g c κs within =
    rw (c.as_slice.ensures.value, c.in_ok-those.ensures) (open_below c.args.known.now c.args.i (ask_count c.args.topo.now) _)

pub returns-clause-ahead : goal.returns-clause-ahead
returns-clause-ahead g c =
    let topo = c.args.topo.now in
    let up = is_in c.args.before.now in
    let down = is_in c.args.after.now in
    let networks : IfSome c.if-is_none.self.networks (AreNetworks topo up down) = elim c.if-is_none.branch [
      | then-is_none+in_ok-of+in-Some-1 w ↦ rw w.self-is w.in_ok-of.ensures
      | then-is_none+in_ok-of+in-None-1 w ↦ rw w.self-is w.in_ok-of.ensures
      | else-is_none w ↦ rw w.self-is c.requires.ahead.networks
    ] in
    let these : AreNetworks topo up down c.in-Some.networks = rw c.in-Some.is at networks in
    let those = c.as_slice.ensures.value ∙ c.in_ok-those.ensures in
    let each = c.in_ok-self.ensures.each up down these in
    record {
      networks = networks;
      place = omega arith;
      most = grind (arith);
      changes = filled topo up down (open_from c.args.known.now c.args.i (ask_count topo)) _ c.in_ok-self.field-0.items (rw those at each) (c.in_ok-self.ensures.count ∙ ap length those);
    }

pub returns-clause-some : goal.returns-clause-some
returns-clause-some g c =
    let most : 0 < c.if-is_none.self.most = elim c.if-is_none.branch [
      | then-is_none+in_ok-of+in-Some-1 w ↦ rw w.self-is c.requires.ahead.most
      | then-is_none+in_ok-of+in-None-1 w ↦ rw w.self-is c.requires.ahead.most
      | else-is_none w ↦ rw w.self-is c.requires.ahead.most
    ] in
    let those = c.as_slice.ensures.value ∙ c.in_ok-those.ensures in
    rw (c.in_ok-self.ensures.count ∙ ap length those) (open_some c.args.known.now c.args.i (ask_count c.args.topo.now) _ c.requires.ask c.requires.open most)
