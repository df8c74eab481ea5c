use Rattle.std.proofs.Common.{List, subst, sym}
use Rattle.st_event.specs.declared.journal.Journal.{Journal}
use Rattle.st_journal.specs.JournalReading.{AreJournalsOf}
use Rattle.st_serial.specs.Kept.{groups_of}
use Rattle.st_replay.specs.Replaying.{AreLegal}
use Rattle.st_top.proofs.PlayedRuns.{journals_each, kept_legal}
use Rattle.st_top.proofs.playing.played_text.Goals as goal

pub journals_shown-requires-clause-each : goal.journals_shown-requires-clause-each
journals_shown-requires-clause-each c =
    let played = c.args.played.now in
    subst (λ (js : List Journal). AreJournalsOf 0 (groups_of c.args.doc.now) js) (sym c.as_slice-journals.ensures.value) (journals_each c.args.doc.now played.full played.journals.items played.logs.items c.requires.run)

pub journals_shown-requires-clause-legal : goal.journals_shown-requires-clause-legal
journals_shown-requires-clause-legal c =
    let doc = c.args.doc.now in
    subst (λ (js : List Journal). AreLegal (groups_of doc) js) (sym c.as_slice-journals.ensures.value) (kept_legal (groups_of doc) c.args.played.now.journals.items c.requires.run.kept)
