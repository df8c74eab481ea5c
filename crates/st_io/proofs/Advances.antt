-- What was read before a turn that failed for want of memory, and in it.
use Rattle.std.proofs.Common.{ℕ, List, ◌++◌, Option}
use Rattle.std.specs.Prelude.{Result, Ok, Err}
use Rattle.std.specs.Result.{OnErr}
use Rattle.std.specs.Io.KnownBytes.{Consumes}
use Rattle.std.proofs.KnownBytes.{Consumes-trans}
use Rattle.st_io.specs.Input.{Advances}

pub advances_more : {T E : Type 0} (r : Result T E) (old mid new : Option (List ℕ)) (bytes : List ℕ) → Consumes old mid bytes → Advances mid new → OnErr r (Advances old new)
advances_more (Ok x) old mid new bytes before more = tt
advances_more (Err e) old mid new bytes before more = (bytes ++ more.0, Consumes-trans old mid new bytes more.0 before more.1)
