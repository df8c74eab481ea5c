use Rattle.std.proofs.Common.{◌≡◌, ◌≤◌, length, take}
use Rattle.std.specs.Prelude.{reverse}
use Rattle.st_event.specs.Proposals.{verdicts}
use Rattle.st_report.proofs.DecidedTickets.{receipts_of}
use Rattle.st_report.proofs.receipts.receipt_lines.Given as goal

abbrev pub invariant-loop-entry : goal.invariant-loop-entry
invariant-loop-entry l = record {
  gathered : l.lines ≡ receipts_of l.topo l.apps 1 l.proposers.items (verdicts (reverse (take l.entry-index l.entries)));
  counted : l.decided ≡ length (verdicts (reverse (take l.entry-index l.entries)));
  few : l.decided ≤ l.entry-index;
}
