use Rattle.st_event.proofs.PromiseLaws.{more_kept, more_held, test_tells}
use Rattle.st_event.proofs.laws.more_entities_keep_promises.Goals as goal

pub returns-clause-more : goal.returns-clause-more
returns-clause-more c = more_kept

pub returns-clause-demands : goal.returns-clause-demands
returns-clause-demands c = more_held

pub returns-clause-test : goal.returns-clause-test
returns-clause-test c = test_tells
