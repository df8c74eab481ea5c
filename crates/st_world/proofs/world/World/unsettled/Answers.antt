use Rattle.std.proofs.Common.{◌≡◌, List, subst}
use Rattle.std.specs.Prelude.{IfOk}
use Rattle.std.proofs.lemmas.Result.{IfOk-weaker}
use Rattle.st_net.specs.declared.entity.Entity.{Entity}
use Rattle.st_world.proofs.RoundLaws.{planned, planned_table, planned_own}
use Rattle.st_world.proofs.world.World.unsettled.Goals as goal

pub returns-clause-entities : goal.returns-clause-entities
returns-clause-entities c =
    let table = planned_table c.args.self.now.history.group c.control-control.result.now.group c.store-store.result.now c.target.result.now c.control-control.ensures.group c.store-store.ensures.of c.target.ensures.target in
    let same = planned c.args.self.now.history.group c.args.self.now.history.past c.control-control.result.now c.store-store.result.now c.observed.result.now c.target.result.now c.stamps.result.now c.control-control.ensures.group c.control-control.ensures.standing c.store-store.ensures.store c.observed.ensures c.target.ensures.target c.stamps.ensures.stamps in
    subst (λ (es : List Entity). IfOk c.plan.result (λ entities. entities.items ≡ es)) same (c.plan.ensures c.args.self.now.history.group table)

pub returns-clause-own : goal.returns-clause-own
returns-clause-own c = IfOk-weaker c.plan.result _ _ (λ entities is. planned_own c.args.self.now.history.group c.args.self.now.history.past entities.items is) (returns-clause-entities c)
