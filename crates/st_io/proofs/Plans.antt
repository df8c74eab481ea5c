-- One call more is counted.
use Rattle.std.proofs.Common.{◌≡◌, ℕ, ◌+◌, List, Bool, refl, add-one}
use Rattle.std.specs.Prelude.{if◌then◌else◌}
use Rattle.st_io.specs.Memory.{is_listed, failed_calls}

pub failed_calls-next : (fails : List ℕ) (calls : ℕ) (fails_now : Bool) → fails_now ≡ is_listed fails (calls + 1) → failed_calls fails (calls + 1) ≡ (if fails_now then failed_calls fails calls + 1 else failed_calls fails calls)
failed_calls-next fails calls fails_now e = rw (e, add-one) refl
