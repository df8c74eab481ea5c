use Rattle.std.proofs.Common.{◌∙◌, ◌++◌, ap, refl, sym}
use Rattle.std.proofs.lemmas.Result.{IfOk-weaker}
use Rattle.st_text.proofs.PrintLemmas.{ok_by}
use Rattle.st_revert.specs.declared.back.Revert.TheVariants.{Rows}
use Rattle.st_top.proofs.Asked.{asked_fit}
use Rattle.st_top.proofs.Entering.{answer_is, answer_told, asked_goes, idle_goes, none_asked}
use Rattle.st_top.proofs.reverting.lead_back.Goals as goal

pub ask-requires : goal.ask-requires
ask-requires c =
    let w = c.args.world.now in
    let is = answer_is c.control.result.now w c.args.version c.in_ok-answer.answer c.control.ensures.group c.control.ensures.standing c.control.ensures.versions c.in_ok-answer.ensures in
    asked_fit w.history.group w.history.past c.args.version c.in-Rows.rows c.is_legal.ensures.sound c.is_legal.ensures.legal (sym is ∙ c.in-Rows.is)

pub returns-in-Rows-clause-course : goal.returns-in-Rows-clause-course
returns-in-Rows-clause-course c =
    let w = c.args.world.now in
    let is = answer_is c.control.result.now w c.args.version c.in_ok-answer.answer c.control.ensures.group c.control.ensures.standing c.control.ensures.versions c.in_ok-answer.ensures in
    IfOk-weaker _ _ _ (λ going goes. asked_goes w c.ask.new.world c.args.version (Rows c.in-Rows.rows) going (sym c.in-Rows.is ∙ is) goes) c.ask.ensures.ok

pub returns-in-Rows-clause-line : goal.returns-in-Rows-clause-line
returns-in-Rows-clause-line c =
    let w = c.args.world.now in
    let is = answer_is c.control.result.now w c.args.version c.in_ok-answer.answer c.control.ensures.group c.control.ensures.standing c.control.ensures.versions c.in_ok-answer.ensures in
    ok_by c.ask.result (λ setting. c.in_ok-print_answer.ensures ∙ ap (λ t. c.args.out.now ++ t) (answer_told c.control-2.result.now c.topo.result.now w c.args.version c.in_ok-answer.answer c.topo.ensures.topo c.control-2.ensures.group is)) c.ask.ensures.setting

pub returns-in_default : goal.returns-in_default
returns-in_default c =
    let w = c.args.world.now in
    let is = answer_is c.control.result.now w c.args.version c.in_ok-answer.answer c.control.ensures.group c.control.ensures.standing c.control.ensures.versions c.in_ok-answer.ensures in
    record {
      course = idle_goes w c.args.version c.in_ok-answer.answer is (none_asked c.in_ok-answer.answer c.in_default.not-Rows);
      setting = record { group = refl; lines = refl };
      line = c.in_ok-print_answer.ensures ∙ ap (λ t. c.args.out.now ++ t) (answer_told c.control-2.result.now c.topo.result.now w c.args.version c.in_ok-answer.answer c.topo.ensures.topo c.control-2.ensures.group is);
    }
