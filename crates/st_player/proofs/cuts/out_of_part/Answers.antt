use Rattle.std.proofs.Common.{◌≡◌, ◌<◌, ℕ, List, All, length, false, ap, sym, ◌∙◌, subst}
use Rattle.st_net.specs.Sets.{is_in}
use Rattle.st_player.specs.Cuts.{crossing_links, is_device_of, is_marked, is_one_across, out_with}
use Rattle.st_player.proofs.CutLemmas.{if_ok_by, links_low}
use Rattle.st_player.proofs.cuts.out_of_part.Goals as goal

pub returns-clause-links : goal.returns-clause-links
returns-clause-links c =
    let g = c.args.topo.now in
    let up = is_in c.args.up.now in
    let marks = ap is_marked c.as_slice.ensures.value ∙ (c.in_ok-marks.ensures.marks ∙ ap (is_device_of g) c.smaller_part.ensures) in
    if_ok_by _ (λ links. links.items ≡ out_with g up c.args.side.now c.args.far.now) c.crossing.result (λ links is. is ∙ ap (crossing_links g up false) marks) c.crossing.ensures

pub returns-clause-within : goal.returns-clause-within
returns-clause-within c =
    let links = c.args.topo.now.links in
    let test = is_one_across (is_in c.args.up.now) false (is_marked c.as_slice.result.now) in
    if_ok_by _ (λ found. All (λ i. i < length links) found.items) c.crossing.result (λ found is. subst (λ (xs : List ℕ). All (λ i. i < length links) xs) (sym is) (links_low test links)) c.crossing.ensures
