use Rattle.std.proofs.Common.{◌≡◌, ◌++◌, take, map}
use Rattle.st_text.specs.Words.{text_of}
use Rattle.st_doc.specs.Printed.{promise_words}
use Rattle.st_doc.proofs.printing.parts.print_promises.Given as goal

abbrev pub invariant-loop-promise : goal.invariant-loop-promise
invariant-loop-promise l = l.out ≡ l.initial.out ++ text_of (map promise_words (take l.promise-index l.promises))
