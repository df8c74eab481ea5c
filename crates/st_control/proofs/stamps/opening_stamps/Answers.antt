use Rattle.std.proofs.Common.{◌≡◌, ◌+◌, rules}
use Rattle.std.specs.Prelude.{replicate, IfOk}
use mathlib.Core.Path.{fun_ext}
use Rattle.st_control.proofs.StampLaws.{unstamped, ok_map}
use Rattle.st_control.proofs.stamps.opening_stamps.Goals as goal

pub returns-clause-opening : goal.returns-clause-opening
returns-clause-opening c =
    let zeroed : IfOk c.vec.result (λ stamps. stamps.items ≡ replicate (c.device_count.result + c.link_count.result) 0) = search rules in
    ok_map _ _ c.vec.result (λ stamps zeros. fun_ext (unstamped c.args.topo.now stamps.items (c.device_count.result + c.link_count.result) zeros)) zeroed
