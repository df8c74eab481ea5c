use Rattle.std.proofs.lemmas.Result.{IfOk-weaker}
use Rattle.st_text.proofs.PrintLemmas.{ok_by}
use Rattle.st_event.specs.declared.event.Event.TheVariants.{Submit, Check}
use Rattle.st_top.specs.Reverting.{first_app}
use Rattle.st_top.proofs.Entering.{both_enter, one_fills, same_setting}
use Rattle.st_top.proofs.reverting.ask.Goals as goal

pub returns-in-On-clause-ok : goal.returns-in-On-clause-ok
returns-in-On-clause-ok c = IfOk-weaker _ _ _ (λ going goes. both_enter c.args.world.now c.entered.new.world c.entered-in-On.new.world (Submit first_app c.args.rows) Check c.in_ok-entered.field-0 going c.in-On.is c.in_ok-entered.ensures.setting c.in_ok-entered.ensures.ok goes) c.entered-in-On.ensures.ok

pub returns-in-On-clause-setting : goal.returns-in-On-clause-setting
returns-in-On-clause-setting c = ok_by c.entered-in-On.result (λ setting. same_setting c.args.world.now c.entered.new.world c.entered-in-On.new.world c.in_ok-entered.ensures.setting setting) c.entered-in-On.ensures.setting

pub returns-in-Full-clause-ok : goal.returns-in-Full-clause-ok
returns-in-Full-clause-ok c = one_fills c.args.world.now c.entered.new.world (Submit first_app c.args.rows) Check c.in_ok-entered.field-0 c.in-Full.is c.in_ok-entered.ensures.ok
