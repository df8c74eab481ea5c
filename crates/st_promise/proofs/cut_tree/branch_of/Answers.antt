use Rattle.std.proofs.Common.{refl, ◌∙◌}
use Rattle.st_promise.proofs.CutLaws.{branch_found}
use Rattle.st_promise.proofs.cut_tree.branch_of.Goals as goal

pub returns : goal.returns
returns c = branch_found c.args.topo.now c.args.tors.now c.args.k _ _ c.args.parent c.in_ok-cut.cut.value c.in_ok-cut.cut.side.items c.in_ok-marks_of.field-0 refl refl c.requires.parent c.in_ok-cut.ensures.least (c.in_ok-marks_of.ensures.count ∙ c.device_count-2.ensures) (rw c.as_slice.ensures.value at c.in_ok-marks_of.ensures.has)
