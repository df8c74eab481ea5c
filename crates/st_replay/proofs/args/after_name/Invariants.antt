use Rattle.std.proofs.Common.{◌≡◌, ◌++◌, drop}
use Rattle.std.specs.Vec.Iter.{into_iter_items}
use Rattle.st_replay.proofs.args.after_name.Given as goal

-- the words so far were taken from those after the first
abbrev pub invariant-loop-word : goal.invariant-loop-word
invariant-loop-word l = record {
  taken : l.words.items ≡ l.yielded;
  all : drop 1 (into_iter_items l.fn.args) ≡ l.yielded ++ into_iter_items l.word-iterator;
}
