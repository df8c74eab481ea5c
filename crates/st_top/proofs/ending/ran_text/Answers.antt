use Rattle.std.proofs.Common.{◌≡◌, ◌∙◌, ap, sym, map}
use Rattle.st_report.specs.Lines.{histories}
use Rattle.st_serial.specs.Serial.{GroupState, serial_end}
use Rattle.st_top.specs.Output.{shown}
use Rattle.st_top.proofs.Histories.{histories_are}
use Rattle.st_top.proofs.ending.ran_text.Goals as goal

pub returns-in_ok-shown_text-in-None : goal.returns-in_ok-shown_text-in-None
returns-in_ok-shown_text-in-None c =
    let doc = c.args.doc.now in
    let worlds : histories c.args.worlds.now ≡ map (λ (s : GroupState). s.history) (serial_end doc).groups = sym (histories_are c.args.worlds.now) ∙ ap (map (λ (s : GroupState). s.history)) c.requires.groups in (
      sym c.requires.full ∙ c.in-None.is,
      c.in_ok-shown_text-in-None.ensures ∙ ap (λ hs. shown c.args.showing doc hs c.args.logs.now) worlds ∙ ap (shown c.args.showing doc (map (λ (s : GroupState). s.history) (serial_end doc).groups)) c.requires.logs,
    )
