-- What one read and one write do.
use Rattle.std.specs.Prelude.{◌≡◌, ◌≢◌, ℕ, ◌+◌, ◌-◌, ◌^◌, ◌<◌, ◌≤◌, min, List, length, take, Option}
use Rattle.std.specs.Io.KnownBytes.{Keeps, Consumes, Appends, IsAtEnd}
use Rattle.st_io.specs.declared.outside.ReadStep.{ReadStep}
use Rattle.st_io.specs.declared.outside.ReadStep.TheVariants.{Got, End, Failed}
use Rattle.st_io.specs.declared.outside.WriteStep.{WriteStep}
use Rattle.st_io.specs.declared.outside.WriteStep.TheVariants.{Took, Failed as write_failed, OutOfMemory}

-- the first n bytes of a list, which are n. The second fact follows from the first, and spares a caller its proof
abbrev pub IsPrefixLen : ℕ → List ℕ → Type 0
IsPrefixLen n bytes = (n ≤ length bytes) × (n ≡ length (take n bytes))

-- the first n bytes of buf are the next that are left; at the end nothing is left
abbrev pub Gives : Option (List ℕ) → Option (List ℕ) → List ℕ → ReadStep → Type 0
Gives old new buf (Got n) = (0 < n) × IsPrefixLen n buf × Consumes old new (take n buf)
Gives old new buf End = IsAtEnd new × Keeps old new
Gives old new buf Failed = Keeps old new

-- the first n bytes of piece are taken
abbrev pub Takes : Option (List ℕ) → Option (List ℕ) → List ℕ → WriteStep → Type 0
Takes old new piece (Took n) = (0 < n) × IsPrefixLen n piece × Appends old new (take n piece)
Takes old new piece write_failed = Keeps old new
Takes old new piece OutOfMemory = Keeps old new

-- a count that stands at the last number of 64 bits can't rise
abbrev pub Rose : ℕ → ℕ → Type 0
Rose before now = min (before + 1) (2 ^ 64 - 1) ≤ now

-- the count never falls, has risen where a read failed, and stands still where it gave bytes or found the end
pub record HasReadCause (before now : ℕ) (step : ReadStep) : Type 0 where
  pub later : before ≤ now
  pub failed : step ≡ Failed → Rose before now
  pub still : step ≢ Failed → now ≡ before

-- likewise of a write: it stands still where bytes were taken, and where memory was wanting, which is no fault
pub record HasWriteCause (before now : ℕ) (step : WriteStep) : Type 0 where
  pub later : before ≤ now
  pub failed : step ≡ write_failed → Rose before now
  pub still : step ≢ write_failed → now ≡ before
