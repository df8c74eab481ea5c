use Rattle.std.proofs.Common.{◌≡◌, ◌∙◌, ℕ, List, Bool, ap}
use Rattle.serde_json.specs.Data.{object}
use Rattle.serde_json.specs.View.{members_view}
use Rattle.st_net.specs.declared.entity.Entity.{Entity}
use Rattle.st_net.specs.Groups.{Group}
use Rattle.st_net.specs.Merge.{alters}
use Rattle.st_net.specs.Sets.{is_in}
use Rattle.st_event.specs.Observed.{sure}
use Rattle.st_event.specs.Proposals.{target}
use Rattle.st_player.specs.Cuts.{Stands, cut_by, cut_of}
use Rattle.st_player.specs.Refusals.{with_broken, with_cut}
use Rattle.st_player.specs.Steps.{cut_in}
use Rattle.st_player.proofs.refusals.broken_json.Goals as goal

pub returns : goal.returns
unfolding cut_of
returns c =
    let g = c.args.world.now.history.group in
    let past = c.args.world.now.history.past in
    let rows = c.args.rows.now in
    let broken = c.args.broken.now in
    let sets = c.in_ok-sets.sets in
    let are = c.in_ok-sets.ensures in
    let cut : cut_in c.in_ok-cut.cut ≡ cut_of g past rows broken =
    c.in_ok-cut.ensures
    ∙ (ap (λ (h : Group). cut_by h (is_in sets.changed) (is_in sets.sure) (is_in sets.after) broken) (c.topo.ensures.topo ∙ c.control.ensures.group)
    ∙ (ap (λ (changed : Entity → Bool). cut_by g changed (is_in sets.sure) (is_in sets.after) broken) are.changed_is
    ∙ (ap (λ (known : Entity → Bool). cut_by g (alters g (target g past) rows) known (is_in sets.after) broken) are.sure_is
    ∙ ap (λ (after : Entity → Bool). cut_by g (alters g (target g past) rows) (sure g past) after broken) are.after_is))) in
    let names = c.in_ok-put_broken.ensures ∙ ap (with_broken broken) c.new-object.ensures in
    let whole =
    c.in_ok-put_cut.ensures
    ∙ (ap (λ (side : List ℕ). with_cut side (cut_in c.in_ok-cut.cut) (members_view c.put_broken.new.object)) c.as_slice.ensures.numbers
    ∙ (ap (λ (stands : Stands). with_cut broken.side stands (members_view c.put_broken.new.object)) cut
    ∙ ap (with_cut broken.side (cut_of g past rows broken)) names)) in
    c.object-3.ensures ∙ ap object whole
