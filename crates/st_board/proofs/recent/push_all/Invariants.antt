use Rattle.std.proofs.Common.{◌≡◌, ◌++◌, take, vec_capacity}
use Rattle.st_board.proofs.recent.push_all.Given as goal

abbrev pub invariant-loop-row : goal.invariant-loop-row
invariant-loop-row l = record {
  items : l.kept.items ≡ l.fn.kept.items ++ take l.row-index l.rows;
  capacity : vec_capacity l.kept ≡ vec_capacity l.fn.kept;
}
