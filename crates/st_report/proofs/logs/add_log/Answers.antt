use Rattle.std.proofs.Common.{◌∙◌, ◌++◌, ◌∷◌, [], List, refl, ap, sym}
use Rattle.std.specs.Prelude.{flat_map}
use Rattle.std.proofs.lemmas.List.{append-nil, take_all}
use Rattle.st_text.specs.Words.{spaced}
use Rattle.st_event.specs.declared.act.LogEntry.{LogEntry}
use Rattle.st_report.specs.Lines.{histories, seen_words}
use Rattle.st_report.proofs.Adding.{flat_next}
use Rattle.st_report.proofs.Gathered.{log_are}
use Rattle.st_report.proofs.logs.add_log.Goals as goal

pub loop-entry-init : goal.loop-entry-init
loop-entry-init c = sym (append-nil c.args.lines.now)

pub loop-entry-preserved : goal.loop-entry-preserved
loop-entry-preserved c =
    flat_next (λ (entry : LogEntry). spaced (seen_words (histories c.args.worlds.now) c.args.apps.now c.args.log.now.app entry) ∷ []) c.as_slice-entry-items.result.now c.loop-entry.entry-index _ _ c.args.lines.now c.loop-entry.lines c.add_seen.new.lines c.loop-entry-test.true refl c.loop-entry.invariant c.in_ok-add_seen.ensures

pub returns : goal.returns
returns c =
    let groups = histories c.args.worlds.now in
    c.loop-entry.invariant ∙
    (ap (λ (entries : List LogEntry). c.args.lines.now ++ flat_map (λ entry. spaced (seen_words groups c.args.apps.now c.args.log.now.app entry) ∷ []) entries) (take_all c.loop-entry.entry-index c.as_slice-entry-items.result.now c.loop-entry-test.false ∙ c.as_slice-entry-items.ensures) ∙
    ap (λ t. c.args.lines.now ++ t) (sym (log_are groups c.args.apps.now c.args.log.now)))
