use Rattle.std.proofs.Common.{◌≡◌, ◌++◌, take, map}
use Rattle.st_text.specs.Words.{text_of}
use Rattle.st_doc.specs.Printed.{link_words}
use Rattle.st_doc.proofs.printing.parts.print_links.Given as goal

abbrev pub invariant-loop-link : goal.invariant-loop-link
invariant-loop-link l = l.out ≡ l.initial.out ++ text_of (map link_words (take l.link-index l.links))
