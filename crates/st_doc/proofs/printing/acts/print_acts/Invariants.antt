use Rattle.std.proofs.Common.{◌≡◌, ◌++◌, take, map}
use Rattle.st_text.specs.Words.{text_of}
use Rattle.st_doc.specs.Printed.{act_words}
use Rattle.st_doc.proofs.printing.acts.print_acts.Given as goal

abbrev pub invariant-loop-act : goal.invariant-loop-act
invariant-loop-act l = l.out ≡ l.initial.out ++ text_of (map (act_words l.groups) (take l.act-index l.acts))
