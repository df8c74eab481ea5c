-- What a closed service hands out is what the contract of its close says.
use Rattle.std.proofs.Common.{arith}
use Rattle.st_run.proofs.playing.close_played.Goals as goal

pub returns-clause-closed : goal.returns-clause-closed
returns-clause-closed g c =
    let e = c.in_ok-journals.ensures in
    record {
      journal_count = e.journals;
      numbered = λ k j lt. e.groups k j (omega (arith, lt, e.journals));
      whole = λ k j lt. e.whole k j (omega (arith, lt, e.journals));
      log_count = e.logs;
      logged = e.logged;
    }
