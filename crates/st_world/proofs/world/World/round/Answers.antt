use Rattle.std.proofs.Common.{refl, ◌∙◌, arith}
use Rattle.st_world.specs.Rounds.{round}
use Rattle.st_world.specs.declared.world.rounds.Going.TheVariants.{On, Full}
use Rattle.st_world.proofs.CallLaws.{withdraws_all, withdraws_broken, withdraws_until, withdraws_whole}
use Rattle.st_world.proofs.RunLaws.{round-grows}
use Rattle.st_world.proofs.RoundLaws.{none_entered, all_part, count_fits, round_entered, round_did_settle}
use Rattle.st_world.proofs.world.World.round.Goals as goal

pub returns-in_err-entities-clause-err : goal.returns-in_err-entities-clause-err
returns-in_err-entities-clause-err c =
    let whole = round c.args.self.now.history.group c.args.self.now.lines c.args.self.now.history.past in
    none_entered c.from_residual.result c.args.self.now c.args.self.now whole (round-grows c.args.self.now.history.group c.args.self.now.lines c.args.self.now.history.past) refl

pub returns-in_err-left-in-On-clause-err : goal.returns-in_err-left-in-On-clause-err
returns-in_err-left-in-On-clause-err c =
    let whole = round c.args.self.now.history.group c.args.self.now.lines c.args.self.now.history.past in
    let entered = round_entered c.args.self.now c.turns.new.self c.as_slice.result.now c.in_ok-entities.entities.items c.in_ok-turns.field-0 On c.in_ok-turns.ensures.ok c.in-On.is c.as_slice.ensures.value c.in_ok-entities.ensures.entities in
    all_part c.from_residual-in_err-left-in-On.result c.args.self.now c.turns.new.self whole On (round-grows c.args.self.now.history.group c.args.self.now.lines c.args.self.now.history.past) entered

pub overflow_cast-result : goal.overflow_cast-result
overflow_cast-result c =
    let few = count_fits c.args.self.now.history.group c.turns.new.self.history.group c.turns.new.self.history.past c.in_ok-left-in-On.left.items c.len.result c.is_legal.ensures.sound c.turns.ensures.setting.group c.in_ok-left-in-On.ensures.entities (c.len.ensures ∙ c.in_ok-left-in-On.left.ok.0) in
    omega (arith, few)

pub returns-in-On-clause-settles : goal.returns-in-On-clause-settles
returns-in-On-clause-settles c =
    let entered = round_entered c.args.self.now c.turns.new.self c.as_slice.result.now c.in_ok-entities.entities.items c.in_ok-turns.field-0 On c.in_ok-turns.ensures.ok c.in-On.is c.as_slice.ensures.value c.in_ok-entities.ensures.entities in
    round_did_settle c.args.self.now c.turns.new.self c.is_legal.ensures.legal entered c.turns.ensures.setting

pub returns-in-On-clause-withdraws : goal.returns-in-On-clause-withdraws
returns-in-On-clause-withdraws c =
    let entered = round_entered c.args.self.now c.turns.new.self c.as_slice.result.now c.in_ok-entities.entities.items c.in_ok-turns.field-0 On c.in_ok-turns.ensures.ok c.in-On.is c.as_slice.ensures.value c.in_ok-entities.ensures.entities in
    withdraws_all c.args.self.now c.turns.new.self entered

pub returns-clause-withdraws : goal.returns-clause-withdraws
returns-clause-withdraws c =
    let entered = round_entered c.args.self.now c.turns.new.self c.as_slice.result.now c.in_ok-entities.entities.items c.in_ok-turns.field-0 Full c.in_ok-turns.ensures.ok c.in-Full.is c.as_slice.ensures.value c.in_ok-entities.ensures.entities in
    withdraws_until c.args.self.now c.turns.new.self Full entered

pub returns-in_err-turns-clause-broken_off : goal.returns-in_err-turns-clause-broken_off
returns-in_err-turns-clause-broken_off c = withdraws_broken c.from_residual-in_err-turns.result c.args.self.now c.turns.new.self c.as_slice.result.now c.in_ok-entities.entities.items c.in_err-turns.ensures.err c.as_slice.ensures.value c.in_ok-entities.ensures.entities

pub returns-in_err-left-in-On-clause-broken_off : goal.returns-in_err-left-in-On-clause-broken_off
returns-in_err-left-in-On-clause-broken_off c =
    let entered = round_entered c.args.self.now c.turns.new.self c.as_slice.result.now c.in_ok-entities.entities.items c.in_ok-turns.field-0 On c.in_ok-turns.ensures.ok c.in-On.is c.as_slice.ensures.value c.in_ok-entities.ensures.entities in
    withdraws_whole c.from_residual-in_err-left-in-On.result c.args.self.now c.turns.new.self entered
