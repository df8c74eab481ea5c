use Rattle.std.proofs.Common.{◌≡◌, ◌++◌, take, map}
use Rattle.st_text.specs.Words.{text_of}
use Rattle.st_doc.specs.Printed.{order_words}
use Rattle.st_doc.proofs.printing.print_order.Given as goal

abbrev pub invariant-loop-app : goal.invariant-loop-app
invariant-loop-app l = l.out ≡ l.initial.out ++ text_of (map (order_words l.apps) (take l.app-index l.order))
