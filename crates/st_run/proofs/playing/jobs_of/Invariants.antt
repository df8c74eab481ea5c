use Rattle.std.proofs.Common.{◌≡◌, ℕ, ◌++◌, ◌<◌, length, get_or}
use Rattle.st_run.specs.Chores.{IsChore}
use Rattle.st_run.proofs.playing.jobs_of.Given as goal

-- the passes so far have jobs, each with its chore
abbrev pub invariant-loop-pass : goal.invariant-loop-pass
invariant-loop-pass g l = record {
  all : l.fn.passes.items ≡ l.yielded ++ l.pass-iterator.rest.items;
  count : length l.jobs.items ≡ length l.yielded;
  jobs : (n : ℕ) (d : _) (p : _) → n < length l.yielded → ((get_or l.jobs.items n d).service.now ≡ l.service) × ((get_or l.jobs.items n d).pass ≡ get_or l.yielded n p) × IsChore l.apps l.tasks n (get_or l.jobs.items n d).chore;
}
