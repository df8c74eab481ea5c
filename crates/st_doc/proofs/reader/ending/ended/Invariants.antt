use Rattle.std.proofs.Common.{◌≡◌, map}
use Rattle.st_grammar.specs.Draft.{parts_of}
use Rattle.st_doc.proofs.reader.ending.ended.Given as goal

abbrev pub invariant-loop-group : goal.invariant-loop-group
invariant-loop-group l = (l.all.items ≡ map parts_of l.yielded) × (l.wires.items ≡ map (λ g. g.wires) l.yielded)
