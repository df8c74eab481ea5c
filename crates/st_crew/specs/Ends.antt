-- What the ends of jobs have to do with the jobs.
use Rattle.std.specs.Prelude.{◌≡◌, ℕ, List, length, Some, slice_get}

-- there is an end for each job, and the end at a job's place is one that the job promises
pub record EndsOf {J E : Type 0} (promises : J → E → Type 0) (jobs : List J) (ends : List E) : Type 0 where
  pub count : length ends ≡ length jobs
  pub each : (k : ℕ) (job : J) (end : E) → slice_get jobs k ≡ Some job → slice_get ends k ≡ Some end → promises job end
