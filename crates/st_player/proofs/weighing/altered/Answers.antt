use Rattle.std.proofs.Common.{◌≡◌, ◌∙◌, ℕ, ap, sym, subst}
use Rattle.std.specs.Prelude.{All}
use Rattle.st_net.specs.declared.entity.Entity.{Entity}
use Rattle.st_net.specs.declared.entity.Var.{Var}
use Rattle.st_net.specs.Groups.{Group}
use Rattle.st_net.specs.Merge.{alters}
use Rattle.st_net.specs.Ranges.{RowFits}
use Rattle.st_net.specs.Sets.{MarksOf}
use Rattle.st_event.specs.Proposals.{target}
use Rattle.st_event.specs.Standing.{Standing}
use Rattle.st_overlay.specs.Values.{Values, IsTableOf, value_in}
use Rattle.st_store.specs.Store.{StoreView}
use Rattle.st_overlay.proofs.FittingRows.{rows_in}
use Rattle.st_player.proofs.weighing.altered.Goals as goal

pub changed-requires : goal.changed-requires
changed-requires c =
    let rows = c.args.rows.now in
    let topo = c.topo.result.now in
    let group : topo ≡ c.args.world.now.history.group = c.topo.ensures.topo ∙ c.control-control.ensures.group in
    let table : IsTableOf topo c.target.result.now = rw (c.target.ensures.target, c.topo.ensures.topo) c.store.ensures.of.table in
    let fit : All (RowFits topo) rows = subst (λ (h : Group). All (RowFits h) rows) (sym group) c.requires in
    record { of = table; rows = rows_in topo c.target.result.now rows table fit }

pub returns-clause-of : goal.returns-clause-of
returns-clause-of c = subst (λ (h : Group). MarksOf h c.in_ok-set.set) (c.topo.ensures.topo ∙ c.control-control.ensures.group) c.in_ok-set.ensures.of

pub returns-clause-altered : goal.returns-clause-altered
returns-clause-altered c =
    let rows = c.args.rows.now in
    let g = c.args.world.now.history.group in
    let values : value_in c.target.result.now ≡ target g c.args.world.now.history.past =
    ap (λ (t : Values). value_in t) c.target.ensures.target
    ∙ (ap (λ (s : StoreView). value_in s.target) c.store.ensures.store ∙ ap (λ (t : Standing). t.target) c.control-control.ensures.standing) in
    c.in_ok-set.ensures.altered
    ∙ (ap (λ (h : Group). alters h (value_in c.target.result.now) rows) (c.topo.ensures.topo ∙ c.control-control.ensures.group) ∙ ap (λ (t : Entity → Var → ℕ). alters g t rows) values)
