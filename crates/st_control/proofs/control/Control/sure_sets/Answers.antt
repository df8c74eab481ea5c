use Rattle.std.proofs.Common.{ap, ◌∙◌}
use Rattle.std.specs.Prelude.{Bool, ◌&&◌, not}
use Rattle.st_net.specs.declared.entity.Entity.{Entity}
use Rattle.st_net.specs.Sets.{Marks, is_in}
use Rattle.st_control.proofs.control.Control.sure_sets.Goals as goal

pub returns-clause-after : goal.returns-clause-after
returns-clause-after c =
    let left = λ (f : Entity → Bool) (e : Entity). f e && not (is_in c.args.changed.now e) in
    c.remove_all.ensures.members ∙ ap (λ (s : Marks). left (is_in s)) c.in_ok-after.ensures ∙ ap left c.in_ok-sure.ensures.sure
