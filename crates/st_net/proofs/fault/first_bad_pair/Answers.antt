use Rattle.std.proofs.Common.{◌+◌, List, take, arith, sym, subst, ◌∙◌}
use Rattle.st_net.specs.declared.pairs.Pair.{Pair}
use Rattle.st_net.specs.Faults.{device_names}
use Rattle.st_net.specs.PairsInside.{TellPromised}
use Rattle.st_net.proofs.PairSteps.{either_first, bad_here, again_here, passed_here, tell_here}
use Rattle.st_net.proofs.fault.first_bad_pair.Goals as goal

pub returns-in_default : goal.returns-in_default
returns-in_default c = bad_here c.args.devices.now c.args.promises.now c.args.at c.loop-i.i c.index-promises-i.result (omega arith) c.index-promises-i.is c.in_default.ensures.none c.loop-i.invariant.left

pub returns-then-has_either : goal.returns-then-has_either
returns-then-has_either c = again_here c.args.devices.now c.args.promises.now c.args.at c.loop-i.i c.index-promises-i.result (omega arith) c.index-promises-i.is c.loop-i.pairs c.in-Some.pair c.in-Some.ensures.some (sym c.has_either.ensures ∙ c.if-has_either.true) c.loop-i.invariant.tell c.loop-i.invariant.left

pub add-requires : goal.add-requires
add-requires c = either_first _ _ (sym c.has_either.ensures ∙ c.if-has_either.false)

pub loop-i-preserved : goal.loop-i-preserved
loop-i-preserved c = record {
  left = passed_here c.args.devices.now c.args.promises.now c.args.at c.loop-i.i c.index-promises-i.result (omega arith) c.index-promises-i.is c.loop-i.pairs c.in-Some.pair c.in-Some.ensures.some (sym c.has_either.ensures ∙ c.if-has_either.false) c.loop-i.invariant.tell c.loop-i.invariant.left;
  tell = subst (λ (pairs : List Pair). TellPromised (device_names c.args.devices.now) (take (c.loop-i.i + 1) c.args.promises.now) pairs) (sym c.in_ok-add.ensures.ok)
      (tell_here c.args.devices.now c.args.promises.now c.args.at c.loop-i.i c.index-promises-i.result (omega arith) c.index-promises-i.is c.loop-i.pairs c.in-Some.pair c.in-Some.ensures.some c.loop-i.invariant.tell);
}
