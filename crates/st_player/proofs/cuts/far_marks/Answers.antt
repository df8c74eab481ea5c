use Rattle.std.proofs.Common.{◌≡◌, ◌≤◌, List, Bool, length, ap, sym, ◌∙◌, arith}
use Rattle.std.specs.Cmp.{booleans_Decides}
use Rattle.std.proofs.lemmas.Slice.Eq.{slice_eq-Decides}
use Rattle.st_net.specs.Sets.{is_in}
use Rattle.st_player.specs.Cuts.{is_marked, with_joined}
use Rattle.st_player.proofs.CutLemmas.{far_found, far_all}
use Rattle.st_player.proofs.cuts.far_marks.Goals as goal

pub returns-then-eq-clause-far : goal.returns-then-eq-clause-far
returns-then-eq-clause-far c =
    let g = c.args.topo.now in
    let up = is_in c.args.up.now in
    let side = is_marked c.args.side.now in
    let near = is_marked c.walks.near.items in
    let few : c.walks._walk ≤ length g.devices = omega (arith, c.walks-test.true, c.device_count-walk-end.ensures) in
    let grown : is_marked c.in_ok-more.more.items ≡ with_joined g up side near = c.in_ok-more.ensures.more ∙ ap (λ (xs : List Bool). with_joined g up side (is_marked xs)) c.as_slice.ensures.value in
    let same : c.as_slice-in-walks.result.now ≡ c.as_slice-in-walks-2.result.now = (slice_eq-Decides booleans_Decides _ _ _ c.eq.ensures).0 c.if-eq.true in
    let stays : c.walks.near.items ≡ c.in_ok-more.more.items = sym (sym c.as_slice-in-walks.ensures.value ∙ (same ∙ c.as_slice-in-walks-2.ensures.value)) in
    far_found g up side c.args.end c.walks._walk near few c.walks.invariant.1 (ap is_marked stays ∙ grown)

pub returns-clause-far : goal.returns-clause-far
returns-clause-far c =
    far_all c.args.topo.now (is_in c.args.up.now) (is_marked c.args.side.now) c.args.end c.walks._walk (is_marked c.walks.near.items) (omega (arith, c.walks-test.false, c.walks.auto._walk-end, c.device_count-walk-end.ensures)) c.walks.invariant.1
