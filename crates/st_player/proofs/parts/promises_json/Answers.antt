use Rattle.std.proofs.Common.{◌∙◌, ap, arith, length}
use Rattle.st_net.specs.Groups.{Group, promise_of}
use Rattle.st_net.specs.Promises.{need_of}
use Rattle.st_player.specs.Pictures.{promise_data}
use Rattle.st_player.proofs.PictureLemmas.{part_next}
use Rattle.st_player.proofs.parts.promises_json.Goals as goal

pub need-requires : goal.need-requires
need-requires c = omega (arith, c.loop-i-test.true, c.promise_count-i-end.ensures, ap (λ (g : Group). length g.promises) c.requires.group)

pub promise_json-requires-clause-need : goal.promise_json-requires-clause-need
promise_json-requires-clause-need c = c.need.ensures ∙ ap (λ (g : Group). need_of g (promise_of g c.loop-i.i)) c.requires.group

pub loop-i-preserved : goal.loop-i-preserved
loop-i-preserved c = part_next (promise_data c.args.topo.now) c.loop-i.list _ _ c.loop-i.i c.loop-i.invariant c.in_ok-json.ensures c.in_ok-push.ensures
