-- Groups, one after another.
use Rattle.std.proofs.Common.{◌≡◌, ℕ, ◌+◌, ◌<◌, List, length, get_or, drop, subst, add-one}
use Rattle.std.proofs.Math.Seq.{drop-cons}
use Rattle.std.specs.List.{AllByRecursion}
use Rattle.st_net.specs.Groups.{Group, IsSound}

-- one more that is sound
pub one_more : (groups : List Group) (n : ℕ) (g : Group) → n < length groups → g ≡ get_or groups n g → IsSound g → AllByRecursion IsSound (drop (n + 1) groups) → AllByRecursion IsSound (drop n groups)
one_more groups n g less at sound rest =
    rw (drop-cons groups n g less) (subst IsSound at sound, rw add-one at rest)
