use Rattle.st_store.proofs.versions.Versions.value_at.Goals as goal

pub get-requires-clause-ascending : goal.get-requires-clause-ascending
get-requires-clause-ascending c = (c.self.invariant.orderly c.args.entity).ascending
