use Rattle.std.proofs.Common.{◌≡◌, ◌++◌, length}
use Rattle.std.specs.Prelude.{All, None, IfSome}
use Rattle.st_run.specs.Chores.{awaits_for}
use Rattle.st_run.specs.Finished.{CameThrough, EachPair, MetFull, NamesLowest, SomePair, StaysBehind}
use Rattle.st_run.specs.Went.{Went}
use Rattle.st_run.proofs.playing.finish_all.Given as goal

-- the passes so far have awaited on each group, and the first full journal at which one stopped is known
abbrev pub invariant-loop-left : goal.invariant-loop-left
invariant-loop-left g l = record {
  all : l.fn.lefts.items ≡ l.yielded ++ l.left-iterator.rest.items;
  count : length l.passes.items ≡ length l.yielded;
  went : EachPair (λ n left end. Went g.J.Naming.group g.J.Naming.lines (awaits_for l.apps n l.awaits) left.pass end) l.yielded l.passes.items;
  none : l.full ≡ None → EachPair (λ n left end. CameThrough g.J.Naming.group g.J.Naming.lines (awaits_for l.apps n l.awaits) left.came left.pass end) l.yielded l.passes.items;
  one : IfSome l.full (λ m. SomePair (λ left end. MetFull m left.came end) l.yielded l.passes.items);
  lowest : All (λ left. NamesLowest l.full left.came) l.yielded;
  still : EachPair (λ n left end. StaysBehind l.apps n left.came left.pass end) l.yielded l.passes.items;
}
