-- Of no concern to callers: what the rows that were merged last keep.
use Rattle.std.specs.Prelude.{◌≤◌, length, vec_capacity}
use Rattle.st_board.specs.declared.recent.Recent.TheInside.{Inside}

-- there is room for 64 rows, and there are no more
pub record HasRoom (r : Inside) : Type 0 where
  pub room : 64 ≤ vec_capacity r.rows
  pub few : length r.rows.items ≤ 64
