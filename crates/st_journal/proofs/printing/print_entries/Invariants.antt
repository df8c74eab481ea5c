use Rattle.std.proofs.Common.{◌≡◌, ◌++◌, take}
use Rattle.st_text.specs.Words.{text_of}
use Rattle.st_journal.specs.Printing.{entries_lines}
use Rattle.st_journal.proofs.printing.print_entries.Given as goal

-- the lines of the entries so far
abbrev pub invariant-loop-i : goal.invariant-loop-i
invariant-loop-i l = l.out ≡ l.initial.out ++ text_of (entries_lines l.topo l.apps 1 (take l.i l.entries))
