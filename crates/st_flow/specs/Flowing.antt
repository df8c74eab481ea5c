-- What `max_flow` answers.
use Rattle.std.specs.Prelude.{List, ℤ, ⊤}
use Rattle.st_flow.specs.declared.cut.Cut.{Cut}
use Rattle.st_flow.specs.declared.maximum.Flowing.{Flowing}
use Rattle.st_flow.specs.declared.maximum.Flowing.TheVariants.{Enough, Short}

-- a fact of the flow, if there is enough
abbrev pub IfEnough : Flowing → (List ℤ → Type 0) → Type 0
IfEnough (Enough flow) P = P flow
IfEnough (Short cut) P = ⊤

-- a fact of the cut, if there is not
abbrev pub IfShort : Flowing → (Cut → Type 0) → Type 0
IfShort (Enough flow) P = ⊤
IfShort (Short cut) P = P cut
