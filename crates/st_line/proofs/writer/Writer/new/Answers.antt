use Rattle.std.proofs.Common.{true, ◌∷◌, [], refl}
use Rattle.st_line.proofs.Chains.{kept_new}
use Rattle.st_line.proofs.writer.Writer.new.Goals as goal

pub open-seen-requires : goal.open-seen-requires
open-seen-requires g c = (kept_new ((0, true) ∷ (0, true) ∷ []) refl, λ xs. tt, c.alone.ensures.1)
