use Rattle.std.proofs.Common.{◌≡◌, take, arith}
use Rattle.std.proofs.lemmas.List.{take_all}
use Rattle.st_overlay.proofs.Overlaying.{shape_is, Overlays-overlaid}
use Rattle.st_overlay.proofs.table.Table.overlay.Goals as goal

pub returns-clause-shape : goal.returns-clause-shape
returns-clause-shape c = shape_is c.args.self.now c.loop-row.self (take c.loop-row.row-index c.args.rows.now) c.loop-row.invariant

pub returns-clause-rows : goal.returns-clause-rows
returns-clause-rows c = λ all.
    let whole : take c.loop-row.row-index c.args.rows.now ≡ c.args.rows.now = take_all _ _ (omega arith) in
    Overlays-overlaid c.args.self.now c.loop-row.self c.args.rows.now (rw whole at c.loop-row.invariant) all
