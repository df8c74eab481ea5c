-- What a network tells of an ask.
use Rattle.std.specs.Prelude.{ℕ, Bool, true, false, List, ℤ, ⊤}
use Rattle.st_flow.specs.declared.cut.Cut.{Cut}
use Rattle.st_promise.specs.declared.finding.Finding.{Finding}
use Rattle.st_promise.specs.declared.finding.Finding.TheVariants.{Sent, Least, Fails}

-- whether the ask holds
abbrev pub holds_by : Finding → Bool
holds_by (Sent flow amount) = true
holds_by (Least value) = true
holds_by (Fails cut) = false

-- a fact of the flow and of what it sends, if there is one
abbrev pub IfSent : Finding → (List ℤ → ℕ → Type 0) → Type 0
IfSent (Sent flow amount) P = P flow amount
IfSent (Least value) P = ⊤
IfSent (Fails cut) P = ⊤

-- a fact of the cut, if the ask fails
abbrev pub IfFails : Finding → (Cut → Type 0) → Type 0
IfFails (Sent flow amount) P = ⊤
IfFails (Least value) P = ⊤
IfFails (Fails cut) P = P cut
