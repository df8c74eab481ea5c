use Rattle.std.proofs.Common.{ℕ, List, sym, subst, ◌∙◌}
use Rattle.std.specs.List.Sorted.{IsStrictlyIncreasing}
use Rattle.st_promise.specs.Search.{is_found}
use Rattle.st_promise.proofs.NumberLaws.{rising}
use Rattle.st_promise.proofs.search.Search.side.Goals as goal

pub from_slice-requires : goal.from_slice-requires
from_slice-requires c = subst (λ (xs : List ℕ). IsStrictlyIncreasing xs) (sym (c.as_slice.ensures.value ∙ c.loop-device.invariant)) (rising c.loop-device.device (is_found c.args.self.now))
