use Rattle.std.proofs.Common.{◌∙◌, Bool, List, refl, ap, sym}
use Rattle.std.specs.List.{list_all}
use Rattle.std.proofs.lemmas.List.Sums.{AllPass-from_list_all}
use Rattle.st_net.specs.Sets.{is_in}
use Rattle.st_player.proofs.ChangeLemmas.{all_marked}
use Rattle.st_player.proofs.snapshot.judge.Goals as goal

pub returns : goal.returns
returns c =
    let g = c.args.control.now.group in
    let marks = c.in_ok-kept.kept.items in
    let all = c.are_all-all.ensures ∙ ap (λ (bs : List Bool). list_all (λ b. b) bs) c.as_slice.ensures.value in
    record {
      of = c.requires;
      up_is = refl;
      kept = c.in_ok-kept.ensures;
      whole = λ yes. all_marked g (is_in c.args.up) marks c.in_ok-kept.ensures (AllPass-from_list_all (λ b. b) marks (sym all ∙ yes));
    }
