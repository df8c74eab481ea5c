-- What is left of a job whose pass has awaited behind the job.
use Rattle.std.specs.Prelude.{ℕ, ◌≡◌, ◌⊎◌, ◌≤◌, ◌<◌, List, length, slice_index_or, Option, Some, None, IfSome}
use Rattle.st_net.specs.Groups.{Group}
use Rattle.st_event.specs.declared.act.Act.{Act}
use Rattle.st_wire.specs.declared.line.WireLine.{WireLine}
use Rattle.st_service.specs.Passes.{Holder}
use Rattle.st_run.specs.declared.application.Came.{Came}
use Rattle.st_run.specs.declared.application.Came.TheVariants.{Through, ToFull, OutOfMemory}
use Rattle.st_run.specs.Jobs.{Did}
use Rattle.st_run.specs.Went.{HadMemory, HasFull}

-- of two lists, what holds of the items at each number, and of those at some number
abbrev pub EachPair : {X Y : Type 0} → (ℕ → X → Y → Type 0) → List X → List Y → Type 0
EachPair P xs ys = (n : ℕ) (x : _) (y : _) → n < length xs → P n (slice_index_or xs n x) (slice_index_or ys n y)

abbrev pub SomePair : {X Y : Type 0} → (X → Y → Type 0) → List X → List Y → Type 0
SomePair P xs ys = (n : ℕ) × (n < length xs) × ((x : _) (y : _) → P (slice_index_or xs n x) (slice_index_or ys n y))

-- a job came through, and its pass did these awaits
abbrev pub CameThrough : (ℕ → Group) → (ℕ → List WireLine) → List Act → Came → Holder → Holder → Type 0
CameThrough groups lines awaits came left end = (came ≡ Through) × Did groups lines awaits left end

-- a job came to the full journal of group n, or the job's pass has seen that journal full behind the awaits
abbrev pub MetFull : ℕ → Came → Holder → Type 0
MetFull n came end = (came ≡ ToFull n) ⊎ HasFull end n

-- the group whose journal a job met full
abbrev pub met_full : Came → Option ℕ
met_full Through = None
met_full (ToFull n) = Some n
met_full OutOfMemory = None

-- a group is named, n or a lower one
abbrev pub IsNoHigher : Option ℕ → ℕ → Type 0
IsNoHigher full n = (m : ℕ) × (full ≡ Some m) × (m ≤ n)

-- where a job met a full journal, the group that is named is that of this journal or a lower one
abbrev pub NamesLowest : Option ℕ → Came → Type 0
NamesLowest full came = IfSome (met_full came) (IsNoHigher full)

-- a job was not refused memory, and where its number is a worker's its pass stays as it was
abbrev pub StaysBehind : ℕ → ℕ → Came → Holder → Holder → Type 0
StaysBehind apps number came left end = HadMemory came × (apps ≤ number → end ≡ left)
