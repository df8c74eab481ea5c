use Rattle.std.proofs.Common.{◌≡◌, ap, refl, ◌∙◌, subst, map}
use Rattle.std.specs.Prelude.{Err}
use Rattle.std.proofs.lemmas.Result.{IfOk-weaker}
use Rattle.st_net.specs.Faults.{group_of}
use Rattle.st_token.specs.declared.fault.LineFault.{LineFault}
use Rattle.st_journal.specs.JournalReading.{journals_in, Reads}
use Rattle.st_journal.specs.declared.reading.JournalsRead.{JournalsRead}
use Rattle.st_replay.specs.Replaying.{app_names, journal_bytes, journal_line}
use Rattle.st_serial.specs.Kept.{groups_of}
use Rattle.st_top.proofs.Endings.{fault_ends, journals_end}
use Rattle.st_top.proofs.replaying.doc_again.Goals as goal

pub returns-in-Fault : goal.returns-in-Fault
returns-in-Fault c =
    let doc = c.args.doc.now in
    let bytes = c.args.bytes.now in
    let groups = c.as_slice-2.result.now in
    let same : groups ≡ groups_of doc = c.as_slice-2.ensures.value ∙ c.in_ok-topos.ensures ∙ ap (map group_of) c.as_slice.ensures in
    let read = subst (λ (r : JournalsRead). Reads r (journals_in groups (app_names doc) (journal_line doc.journal_at) (journal_bytes doc.journal_at bytes))) c.in-Fault.is c.in_ok-journals.ensures.exact in
    let fault : LineFault = record { line = c.in-Fault.line; kind = c.in-Fault.kind } in
    IfOk-weaker _ _ _ (λ ending is. journals_end c.args.form bytes doc groups (Err fault) (Err fault) ending same read refl (fault_ends c.args.form c.in-Fault.line c.in-Fault.kind ending is)) c.bad_input.ensures
