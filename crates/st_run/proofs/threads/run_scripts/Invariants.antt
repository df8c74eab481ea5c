-- A run is named by the lines and the worlds that it has.
use Rattle.std.proofs.Common.{get_or}
use Rattle.st_run.proofs.OpenedWorlds.{group_named, no_lines, plan_named}
use Rattle.st_run.proofs.threads.run_scripts.Given as goal

abbrev pub ghosts-run_named-J-Naming : goal.ghosts-run_named-J-Naming
ghosts-run_named-J-Naming g a = record {
  book = λ k. (get_or a.lines.items k no_lines).journal;
  board = λ k. (get_or a.lines.items k no_lines).board;
  group = group_named a.worlds.items;
  lines = plan_named a.worlds.items;
}

abbrev pub ghosts-run_named-L-Ledger : goal.ghosts-run_named-L-Ledger
ghosts-run_named-L-Ledger g a = record { name = a.blank.name; parts = a.blank.parts }
