-- What reading an input does.
use Rattle.std.specs.Prelude.{◌≡◌, ℕ, ◌+◌, ◌<◌, ◌≤◌, List, ◌++◌, length, Option}
use Rattle.std.specs.Io.KnownBytes.{Consumes, IsAtEnd}
use Rattle.st_io.specs.declared.outside.ReadStep.{ReadStep}
use Rattle.st_io.specs.declared.outside.ReadStep.TheVariants.{Got, End, Failed}
use Rattle.st_io.specs.Outside.{Rose}
use Rattle.st_io.specs.declared.reading.ReadEnd.{ReadEnd}
use Rattle.st_io.specs.declared.reading.ReadEnd.TheVariants.{End as at_end, TooLong, Failed as at_fault}
use Rattle.st_io.specs.declared.reading.TheConstants.{MAX_BYTES}

-- known bytes lose some at their front
abbrev pub Advances : Option (List ℕ) → Option (List ℕ) → Type 0
Advances old new = (bytes : List ℕ) × Consumes old new bytes

-- what one turn of reading adds, and why it may have added nothing. The count of faults stands still but where the read failed
abbrev pub TurnEnds : Option (List ℕ) → ℕ → ℕ → List ℕ → ℕ → ReadStep → Type 0
TurnEnds new before now added most (Got n) = (0 < length added) × (length added ≤ most) × (now ≡ before)
TurnEnds new before now added most End = IsAtEnd new × (length added ≡ 0) × (now ≡ before)
TurnEnds new before now added most Failed = Rose before now × (length added ≡ 0)

-- one turn of reading adds these bytes, for this reason
pub record AddsInput (old new : Option (List ℕ)) (before now : ℕ) (bytes more : List ℕ) (most : ℕ) (step : ReadStep) : Type 0 where
  pub added : List ℕ
  pub more_is : more ≡ bytes ++ added
  pub consumed : Consumes old new added
  pub ends : TurnEnds new before now added most step

-- why reading stopped at these bytes. Where it did not stop at a fault no read failed: the count of faults is as it was
abbrev pub StopsAt : Option (List ℕ) → ℕ → ℕ → List ℕ → ReadEnd → Type 0
StopsAt new before now bytes at_end = IsAtEnd new × (length bytes ≤ MAX_BYTES) × (now ≡ before)
StopsAt new before now bytes TooLong = (length bytes ≡ MAX_BYTES + 1) × (now ≡ before)
StopsAt new before now bytes at_fault = Rose before now × (length bytes ≤ MAX_BYTES)

-- these bytes were read, and reading stopped for this reason
pub record ReadsInput (old new : Option (List ℕ)) (before now : ℕ) (bytes : List ℕ) (end : ReadEnd) : Type 0 where
  pub consumed : Consumes old new bytes
  pub stops : StopsAt new before now bytes end
