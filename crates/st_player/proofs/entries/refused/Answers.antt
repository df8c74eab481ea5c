use Rattle.std.proofs.Common.{List, sym, subst}
use Rattle.std.specs.Prelude.{All}
use Rattle.st_net.specs.declared.entity.Row.{Row}
use Rattle.st_net.specs.Ranges.{RowFits}
use Rattle.st_event.proofs.Accepting.{next_fits}
use Rattle.st_player.proofs.entries.refused.Goals as goal

pub cause_json-requires : goal.cause_json-requires
cause_json-requires c =
    let g = c.args.world.now.history.group in
    subst (λ (rows : List Row). All (RowFits g) rows) (sym c.oldest_rows.ensures) (next_fits g c.args.world.now.history.past c.is_legal.ensures.legal)
