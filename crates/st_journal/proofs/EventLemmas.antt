-- Where the tokens of values end too early.
use Rattle.std.proofs.Common.{◌≡◌, ℕ, zero, suc, ◌<◌, ◌≤◌, List, [], ◌∷◌, length, drop, map, refl, arith}
use Rattle.std.specs.Prelude.{Err}
use Rattle.std.proofs.lemmas.List.{drop_all}
use Rattle.st_net.specs.declared.entity.Entity.{Entity}
use Rattle.st_net.specs.declared.entity.Var.{Var}
use Rattle.st_net.specs.declared.entity.Vals.{Vals}
use Rattle.st_token.specs.declared.fault.FaultKind.TheVariants as kinds
use Rattle.st_journal.specs.EventReading.{vals_in}

no_tokens : (e : Entity) (vals : Vals) (vars : List Var) (n : ℕ) → n < length vars → vals_in e vals (drop n vars) [] ≡ Err kinds.Value
unfolding vals_in
no_tokens e vals [] n less = absurd (omega arith)
no_tokens e vals (var ∷ vars) zero less = refl
no_tokens e vals (var ∷ vars) (suc n) less = no_tokens e vals vars n (omega arith)

pub value_missing : {T : Type 0} (f : T → List ℕ) (e : Entity) (vals : Vals) (vars : List Var) (tokens : List T) (n : ℕ) → n < length vars → length tokens ≤ n → vals_in e vals (drop n vars) (map f (drop n tokens)) ≡ Err kinds.Value
value_missing f e vals vars tokens n less few = rw (drop_all n tokens few) (no_tokens e vals vars n less)
