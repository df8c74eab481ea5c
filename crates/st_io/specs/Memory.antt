-- What the sources and sinks in memory are seen as.
use Rattle.std.specs.Prelude.{◌≡◌, ℕ, ◌+◌, ◌-◌, ◌^◌, ◌<◌, min, zero, suc, List, Bool, if◌then◌else◌, nat_eq}
use Rattle.std.specs.List.{Contains, list_any}
use Rattle.st_io.specs.declared.outside.WriteStep.{WriteStep}
use Rattle.st_io.specs.declared.outside.WriteStep.TheVariants.{Took, Failed, OutOfMemory}

-- the bytes that were taken, and how many more are taken for sure
pub record Store : Type 0 where
  pub bytes : List ℕ
  pub room : ℕ

-- the numbers of the calls that fail, from 1, and how many calls were made
pub record Plan : Type 0 where
  pub fails : List ℕ
  pub calls : ℕ

-- a source in memory: the bytes that are left, the most bytes of one read, and its faults
pub record MemoryInput : Type 0 where
  pub rest : List ℕ
  pub most : ℕ
  pub plan : Plan

-- a sink in memory: what it holds, the most bytes of one write, and its faults
pub record MemoryOutput : Type 0 where
  pub store : Store
  pub most : ℕ
  pub plan : Plan

-- how many bytes a write took
abbrev pub taken_count : WriteStep → ℕ
taken_count (Took n) = n
taken_count Failed = 0
taken_count OutOfMemory = 0

-- the next call is listed. The list has numbers of 32 bits, so no call past the last of them is
abbrev pub FailsNext : Plan → Type 0
FailsNext plan = (plan.calls < 2 ^ 32 - 1) × Contains plan.fails (plan.calls + 1)

-- one call more was made, by the same list. The number of calls stands still at the last of 32 bits
abbrev pub CountsCall : Plan → Plan → Type 0
CountsCall old new = (new.fails ≡ old.fails) × (new.calls ≡ min (old.calls + 1) (2 ^ 32 - 1))

-- whether the call with this number fails
abbrev pub is_listed : List ℕ → ℕ → Bool
is_listed fails number = list_any (λ n. nat_eq n number) fails

-- how many of the first calls fail
abbrev pub failed_calls : List ℕ → ℕ → ℕ
failed_calls fails zero = 0
failed_calls fails (suc calls) = if is_listed fails (suc calls) then failed_calls fails calls + 1 else failed_calls fails calls

-- how often the calls that were made failed
abbrev pub faults_of : Plan → ℕ
faults_of plan = failed_calls plan.fails plan.calls
