use Rattle.std.proofs.Common.{arith}
use mathlib.Core.Path.{fun_ext}
use Rattle.st_net.specs.Reports.{opening_report}
use Rattle.st_net.proofs.InOrder.{all_default}
use Rattle.st_store.proofs.reports.opening_reports.Goals as goal

pub returns-clause-count : goal.returns-clause-count
returns-clause-count c = (all_default c.args.topo.now (opening_report c.args.topo.now) c.loop-place.place c.loop-place.reports.items (omega arith) c.loop-place.invariant).count

pub returns-clause-opening : goal.returns-clause-opening
returns-clause-opening c = fun_ext (all_default c.args.topo.now (opening_report c.args.topo.now) c.loop-place.place c.loop-place.reports.items (omega arith) c.loop-place.invariant).each
