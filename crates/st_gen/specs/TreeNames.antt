-- Names in a fat tree: the steps to a device or a link, each a letter and a number in decimal.
use Rattle.std.specs.Prelude.{ℕ, ◌<◌, List, ◌++◌, codes, decimal, flat_map}
use Rattle.st_gen.specs.declared.step.Step.{Step}
use Rattle.st_gen.specs.declared.step.Step.TheVariants.{Pod, Tor, Aggregation, Core}

abbrev pub step_text : Step → List ℕ
step_text (Pod p) = codes "p" ++ decimal p
step_text (Tor i) = codes "e" ++ decimal i
step_text (Aggregation j) = codes "a" ++ decimal j
step_text (Core n) = codes "c" ++ decimal n

-- the name of what stands at the end of these steps
abbrev pub name_at : List Step → List ℕ
name_at steps = flat_map step_text steps

-- the step's number has at most two digits
abbrev pub IsSmall : Step → Type 0
IsSmall (Pod p) = p < 100
IsSmall (Tor i) = i < 100
IsSmall (Aggregation j) = j < 100
IsSmall (Core n) = n < 100
