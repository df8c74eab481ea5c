use Rattle.std.proofs.Common.{ℕ, ◌<◌, ◌≢◌, ◌≡◌, pos}
use Rattle.st_flow.specs.Network.{net_out_of}
use Rattle.st_flow.proofs.flow.flow_holds.Given as goal

abbrev pub invariant-loop-x : goal.invariant-loop-x
invariant-loop-x l = (y : ℕ) → y < l.x → y ≢ l.a → y ≢ l.b → net_out_of l.edges l.amounts y ≡ pos 0
