use Rattle.std.proofs.Common.{◌∙◌, ap, sym, subst}
use Rattle.std.specs.Option.{option_copied}
use Rattle.std.specs.Prelude.{All}
use Rattle.st_net.specs.Groups.{Group}
use Rattle.st_net.specs.Ranges.{RowFits}
use Rattle.st_player.proofs.Altered.{overlay_fits}
use Rattle.st_player.proofs.origins.keep_origins.Goals as goal

pub keep_rows-requires-clause-fit : goal.keep_rows-requires-clause-fit
keep_rows-requires-clause-fit c =
    let h = c.args.world.now.history in
    let laid = sym c.overlay_of.ensures ∙ ap option_copied c.in-Some.is in
    subst (λ (g : Group). All (RowFits g) c.in-Some.rows.now) (sym (c.topo-topo.ensures.topo ∙ c.control.ensures.group))
    (overlay_fits h.group h.past c.args.entry.now c.in-Some.rows.now c.is_legal.ensures.sound c.is_legal.ensures.legal c.requires.next laid)
