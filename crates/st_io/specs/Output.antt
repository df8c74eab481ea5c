-- What writing a text does.
use Rattle.std.specs.Prelude.{◌≡◌, ℕ, ◌≤◌, List, length, take, Option}
use Rattle.std.specs.Io.KnownBytes.{Appends}
use Rattle.st_io.specs.Outside.{Rose}
use Rattle.st_io.specs.declared.writing.Written.{Written}
use Rattle.st_io.specs.declared.writing.Written.TheVariants.{All, Failed, OutOfMemory}

-- a sink holds what it held, and then the beginning of the text
pub record AppendsPrefix (old new : Option (List ℕ)) (text : List ℕ) : Type 0 where
  pub count : ℕ
  pub within : count ≤ length text
  pub appended : Appends old new (take count text)

-- all of the text is held, or a prefix, for this reason. Where it is not that the sink failed no write did: the count of faults is as it was
abbrev pub WritesUntil : Option (List ℕ) → Option (List ℕ) → ℕ → ℕ → List ℕ → Written → Type 0
WritesUntil old new before now text All = Appends old new text × (now ≡ before)
WritesUntil old new before now text Failed = AppendsPrefix old new text × Rose before now
WritesUntil old new before now text OutOfMemory = AppendsPrefix old new text × (now ≡ before)

-- what writing a text does to what a sink holds, and to its count of faults, which never falls
pub record Writes (old new : Option (List ℕ)) (before now : ℕ) (text : List ℕ) (written : Written) : Type 0 where
  pub later : before ≤ now
  pub until : WritesUntil old new before now text written
