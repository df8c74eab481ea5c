use Rattle.std.proofs.Common.{◌≡◌, ◌∙◌, [], Bool, map, ap}
use Rattle.st_net.specs.declared.entity.Entity.{Entity}
use Rattle.st_net.specs.Groups.{Group}
use Rattle.st_net.specs.Promises.{is_kept}
use Rattle.st_net.specs.Sets.{is_in}
use Rattle.st_event.specs.Observed.{actual}
use Rattle.st_report.proofs.promises.judge_promises.Goals as goal

pub returns-clause-start : goal.returns-clause-start
returns-clause-start c =
    let g = c.args.world.now.history.group in
    let h = c.control-control.result.now.group in
    let same : h ≡ g = c.control-control.ensures.group in
    let up : is_in c.in_ok-opening.opening ≡ actual g [] = c.in_ok-opening.ensures.up ∙ ap (λ (k : Group). actual k []) (c.topo.ensures.topo ∙ same) in
    c.in_ok-held_in.ensures ∙ (ap (λ (u : Entity → Bool). map (is_kept h u) h.promises) up ∙ ap (λ (k : Group). map (is_kept k (actual g [])) k.promises) same)

pub returns-clause-end : goal.returns-clause-end
returns-clause-end c =
    let g = c.args.world.now.history.group in
    let h = c.control-control.result.now.group in
    let now = actual g c.args.world.now.history.past in
    let same : h ≡ g = c.control-control.ensures.group in
    c.in_ok-held_in-2.ensures ∙ (ap (λ (u : Entity → Bool). map (is_kept h u) h.promises) c.in_ok-now.ensures.up ∙ ap (λ (k : Group). map (is_kept k now) k.promises) same)
