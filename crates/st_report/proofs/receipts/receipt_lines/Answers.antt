use Rattle.std.proofs.Common.{◌≡◌, ◌∙◌, ◌++◌, List, ap, sym, length, take, arith, Option}
use Rattle.std.specs.Prelude.{reverse}
use Rattle.std.specs.Option.{option_to_list}
use Rattle.std.proofs.lemmas.List.{append-nil, take_all}
use Rattle.st_event.specs.declared.journal.Entry.{Entry}
use Rattle.st_event.specs.declared.reply.Verdict.{Verdict}
use Rattle.st_event.specs.Proposals.{verdicts}
use Rattle.st_report.specs.Inside.{verdict_of}
use Rattle.st_report.proofs.DecidedTickets.{receipts_of, receipts_are, receipts_next, texts_with, text_given, decided_more}
use Rattle.st_report.proofs.receipts.receipt_lines.Goals as goal
use Rattle.st_report.proofs.receipts.receipt_lines.Goals.{in-Some+in_ok-add_decided, in_default}

pub loop-entry-preserved : goal.loop-entry-preserved
loop-entry-preserved c =
    let g = c.args.topo.now in
    let apps = c.args.apps.now in
    let askers = c.in_ok-proposers.proposers.items in
    let x = c.entry-item.result in
    let before = c.loop-entry.lines in
    let past = reverse (take c.loop-entry.entry-index c.args.entries.now) in
    let more = decided_more c.args.entries.now c.loop-entry.entry-index x x c.loop-entry-test.true c.entry-item.is in
    elim c.match-verdict_of.branch [
      | in-Some+in_ok-add_decided w ↦
          let text = text_given g apps askers _ _ w.in-Some.verdict.now _ c.loop-entry.invariant.counted w.in-Some.ensures in
          let added : c.match-verdict_of.lines ≡ before ++ texts_with g apps askers (length (verdicts past)) (verdict_of x) =
          w.lines-is ∙ ((rw w.as_slice.ensures.value at w.in_ok-add_decided.ensures) ∙ ap (λ t. before ++ t) text) in
          let one : length (option_to_list (verdict_of x)) ≡ 1 = ap (λ (o : Option Verdict). length (option_to_list o)) (sym w.in-Some.ensures) in
          record {
            gathered = receipts_next g apps askers c.args.entries.now c.loop-entry.entry-index x x before c.match-verdict_of.lines c.loop-entry-test.true c.entry-item.is c.loop-entry.invariant.gathered added;
            counted = omega (arith, more, one, w.decided-is, c.loop-entry.invariant.counted);
            few = omega (arith, w.decided-is, c.loop-entry.invariant.few);
          }
      | in_default w ↦
          let added : c.match-verdict_of.lines ≡ before ++ texts_with g apps askers (length (verdicts past)) (verdict_of x) =
          w.lines-is ∙ (sym (append-nil before) ∙ ap (λ (o : Option Verdict). before ++ texts_with g apps askers (length (verdicts past)) o) w.in_default.ensures) in
          let none : length (option_to_list (verdict_of x)) ≡ 0 = ap (λ (o : Option Verdict). length (option_to_list o)) (sym w.in_default.ensures) in
          record {
            gathered = receipts_next g apps askers c.args.entries.now c.loop-entry.entry-index x x before c.match-verdict_of.lines c.loop-entry-test.true c.entry-item.is c.loop-entry.invariant.gathered added;
            counted = omega (arith, more, none, w.decided-is, c.loop-entry.invariant.counted);
            few = omega (arith, w.decided-is, c.loop-entry.invariant.few);
          }
    ]

pub returns : goal.returns
returns c =
    let askers = c.in_ok-proposers.proposers.items in
    c.loop-entry.invariant.gathered ∙
    (ap (λ (es : List Entry). receipts_of c.args.topo.now c.args.apps.now 1 askers (verdicts (reverse es))) (take_all c.loop-entry.entry-index c.args.entries.now c.loop-entry-test.false) ∙
    sym (receipts_are c.args.topo.now c.args.apps.now c.args.entries.now askers c.in_ok-proposers.ensures))
