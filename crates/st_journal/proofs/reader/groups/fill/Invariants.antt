use Rattle.std.proofs.Common.{◌≡◌, ◌≤◌, ◌++◌, ◌+◌, ◌-◌, length}
use Rattle.st_journal.specs.JournalLines.{empty_journals, filled}
use Rattle.st_journal.proofs.reader.groups.fill.Given as goal

-- with an empty journal of each group that is left, all are filled
abbrev pub invariant-loop-group : goal.invariant-loop-group
invariant-loop-group l = record {
  filled : l.journals.items ++ empty_journals l.group (l.count - l.group) ≡ filled l.count l.fn.journals.items;
  few : length l.journals.items ≤ length l.fn.journals.items + (l.group - length l.fn.journals.items);
  first : length l.fn.journals.items ≤ l.group;
}
