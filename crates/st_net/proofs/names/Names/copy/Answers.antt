use Rattle.std.proofs.Common.{◌∙◌, sym}
use Rattle.st_net.proofs.names.Names.copy.Goals as goal

pub invariant_of-result : goal.invariant_of-result
invariant_of-result c = c.in_ok-names.ensures ∙ (c.as_slice.ensures.value ∙ (c.self.invariant ∙ sym c.in_ok-index.ensures))
