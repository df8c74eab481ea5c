use Rattle.st_tests_rooms.proofs.services.played.Given as goal

abbrev pub ghosts-day-J-Naming : goal.ghosts-day-J-Naming
ghosts-day-J-Naming g a = record {
  book = λ _. a.line.journal;
  board = λ _. a.line.board;
  group = λ _. a.topo.now;
  lines = λ _. a.world.lines;
}

abbrev pub ghosts-day-L-Ledger : goal.ghosts-day-L-Ledger
ghosts-day-L-Ledger g a = record { name = a.blank.name; parts = a.blank.parts }
