use Rattle.std.proofs.Common.{◌∙◌, ℕ, List, true, ap}
use Rattle.std.specs.Prelude.{◌&&◌, not}
use Rattle.st_net.specs.Sets.{is_in}
use Rattle.st_player.specs.Cuts.{crossing_links, is_device_of, is_marked, is_part_of, numbers_of, out_with}
use Rattle.st_player.proofs.cuts.cut_by.Goals as goal

pub returns : goal.returns
returns c =
    let g = c.args.topo.now in
    let broken = c.args.broken.now in
    let sure = is_in c.args.sets.now.sure in
    let after = is_in c.args.sets.now.after in
    let marks = c.in_ok-marks.ensures.marks ∙ ap (is_device_of g) c.as_slice-side.ensures.numbers in
    let far = c.in_ok-far.ensures in
    let left = c.in_ok-left.ensures ∙ ap (crossing_links g after true) (ap is_marked c.as_slice.ensures.value ∙ marks) in
    let out = c.in_ok-out.ensures.links ∙ (ap (λ (side : List ℕ). out_with g after side c.as_slice-3.result.now) c.as_slice-side.ensures.numbers ∙ ap (out_with g after broken.side) (c.as_slice-3.ensures.value ∙ far)) in
    let gone = c.in_ok-gone.ensures ∙ ap (λ (links : List ℕ). numbers_of g (λ e. is_part_of g links e && not (sure e))) (c.as_slice-4.ensures.value ∙ out) in
    λ i. record {
      far = far i;
      left = left i;
      out = out i;
      changes = c.in_ok-numbers_in_set.ensures i;
      gone = gone i;
    }
