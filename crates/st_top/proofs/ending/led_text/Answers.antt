use Rattle.std.proofs.Common.{◌∙◌, sym}
use Rattle.st_top.proofs.HandedBack.{reverted_written}
use Rattle.st_top.proofs.ending.led_text.Goals as goal

pub returns-in_ok-report_text-in-None : goal.returns-in_ok-report_text-in-None
returns-in_ok-report_text-in-None c = (
  sym c.requires.full ∙ c.in-None.is,
  reverted_written c.args.version c.args.doc.now c.args.worlds.now c.as_slice.result.now c.args.logs.now c.args.lines c.report_text.new.out c.requires.groups (c.as_slice.ensures.value ∙ c.in_ok-names-in-None.ensures) c.requires.logs (c.requires.lines c.in-None.is) c.in_ok-report_text-in-None.ensures.ok,
)
