use Rattle.std.proofs.Common.{◌≡◌, ◌++◌, take}
use Rattle.std.specs.Prelude.{flat_map}
use Rattle.st_text.specs.Words.{text_of}
use Rattle.st_doc.specs.Printed.{link_healths}
use Rattle.st_doc.proofs.printing.opening.print_links_healths.Given as goal

abbrev pub invariant-loop-link : goal.invariant-loop-link
invariant-loop-link l = l.out ≡ l.initial.out ++ text_of (flat_map link_healths (take l.link-index l.links))
