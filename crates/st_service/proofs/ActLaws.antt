-- What an act of an application that reads leaves.
use Rattle.std.proofs.Common.{◌≡◌, ℕ, List, ap, sym, subst, ◌∙◌}
use Rattle.st_net.specs.declared.entity.Entity.{Entity}
use Rattle.st_net.specs.declared.entity.Var.{Var}
use Rattle.st_net.specs.Groups.{Group}
use Rattle.st_event.specs.declared.act.Act.{Act}
use Rattle.st_event.specs.declared.act.Act.TheVariants.{ReadAt}
use Rattle.st_wire.specs.declared.line.WireLine.{WireLine}
use Rattle.st_world.specs.Acts.{group_number}
use Rattle.st_service.specs.Acts.{ActDone, ActLogs}
use Rattle.st_service.specs.Kept.{Kept}
use Rattle.st_service.specs.Passes.{Holder, IsTaught, front_at, mine_at}
use Rattle.st_service.proofs.ChainLaws.{same_mine}

read_at_there : (n version : ℕ) (entity : Entity) (var : Var) (g : Group) (lines : List WireLine) (old new : Holder) → Kept old new n 0 → ActLogs (ReadAt n version entity var) g old new → IsTaught new n → ActDone (ReadAt n version entity var) g lines old new
read_at_there n version entity var g lines old new kept log taught = record {
  entered = (kept.grows.0, same_mine (front_at old.fronts n) (front_at new.fronts n) (mine_at old.mines n) (mine_at new.mines n) kept.grows);
  logged = log;
  taught = taught;
}

-- a read at a version is done once nothing was entered in its room, its line was logged, and the pass is taught
pub read_at_done : (act : Act) (k n version : ℕ) (entity : Entity) (var : Var) (groups : ℕ → Group) (lines : ℕ → List WireLine) (old new : Holder) → act ≡ ReadAt n version entity var → k ≡ group_number act
    → Kept old new k 0 → ActLogs (ReadAt k version entity var) (groups k) old new → IsTaught new k → ActDone act (groups (group_number act)) (lines (group_number act)) old new
read_at_done act k n version entity var groups lines old new is at kept log taught =
    let here : k ≡ n = at ∙ ap group_number is in
    let there : ActDone (ReadAt n version entity var) (groups n) (lines n) old new =
    subst (λ (j : ℕ). ActDone (ReadAt j version entity var) (groups j) (lines j) old new) here (read_at_there k version entity var (groups k) (lines k) old new kept log taught) in
    subst (λ (a : Act). ActDone a (groups (group_number a)) (lines (group_number a)) old new) (sym is) there
