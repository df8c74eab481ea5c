use Rattle.std.proofs.Common.{◌≡◌, ◌++◌, take}
use Rattle.std.specs.Prelude.{map}
use Rattle.st_gen.specs.FatTrees.{promise}
use Rattle.st_gen.proofs.promises.add_promises.Given as goal

abbrev pub invariant-loop-b : goal.invariant-loop-b
invariant-loop-b l = l.parts.items ≡ l.initial.parts.items ++ map (promise l.a) (take l.b-index l.later)
