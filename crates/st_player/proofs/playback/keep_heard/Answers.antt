use Rattle.std.proofs.Common.{◌∙◌, List, ap, sym, subst}
use Rattle.st_net.specs.declared.message.Report.{Report}
use Rattle.st_net.specs.Groups.{Group, IsEntityOf}
use Rattle.st_net.specs.Numbered.{nth}
use Rattle.st_world.proofs.MachineLaws.{got_is}
use Rattle.st_player.proofs.Untouched.{made_own}
use Rattle.st_player.proofs.playback.keep_heard.Goals as goal

pub observed_of-requires : goal.observed_of-requires
observed_of-requires c =
    let g = c.args.world.now.history.group in
    let past = c.args.world.now.history.past in
    let made = got_is c.wire.result.now.reports c.args.number c.in-Got.report (sym c.report.ensures ∙ c.in-Got.is) in
    made_own g past c.is_legal.ensures.legal c.args.number c.in-Got.report (ap (λ (rs : List Report). nth rs c.args.number) (sym c.wire.ensures.reports) ∙ made)

pub place-requires : goal.place-requires
place-requires c =
    let g = c.args.world.now.history.group in
    let past = c.args.world.now.history.past in
    let made = got_is c.wire.result.now.reports c.args.number c.in-Got.report (sym c.report.ensures ∙ c.in-Got.is) in
    let own = made_own g past c.is_legal.ensures.legal c.args.number c.in-Got.report (ap (λ (rs : List Report). nth rs c.args.number) (sym c.wire.ensures.reports) ∙ made) in
    subst (λ (h : Group). IsEntityOf h c.in-Got.report.entity) (sym (c.topo.ensures.topo ∙ c.control.ensures.group)) own
