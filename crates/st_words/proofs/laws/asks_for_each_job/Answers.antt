use Rattle.st_words.proofs.JobLemmas.{each_job_asked}
use Rattle.st_words.proofs.laws.asks_for_each_job.Goals as goal

pub returns : goal.returns
returns c = each_job_asked
