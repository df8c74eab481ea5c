use Rattle.std.proofs.Common.{◌≡◌, length, take}
use Rattle.std.specs.Prelude.{sum_by}
use Rattle.st_top.proofs.output.link_count.Given as goal

-- the count of the groups so far
abbrev pub invariant-loop-parts : goal.invariant-loop-parts
invariant-loop-parts l = l.count ≡ sum_by (λ parts. length parts.links) (take l.parts-index l.groups)
