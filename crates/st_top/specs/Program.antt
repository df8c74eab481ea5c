-- What the program makes of its arguments, and how it ends.
use Rattle.std.specs.Prelude.{◌≡◌, ℕ, List, [], drop, map, String, string_bytes, Result, Ok, Err}
use Rattle.std.specs.Process.{exit_status}
use Rattle.std.specs.declared.process.ExitCode.{ExitCode}
use Rattle.std.specs.Vec.Iter.{into_iter_items}
use Rattle.std.specs.declared.vec.IntoIter.{IntoIter}
use Rattle.st_replay.specs.declared.status.Status.{Status}
use Rattle.st_replay.specs.Statuses.{exit_code_of}
use Rattle.st_top.specs.Answer.{Results, SourceState, SinkState, EndsWith}

-- the words after the program's name, which stands first; none where the arguments can't be had
abbrev pub words_in : {A E : Type 0} → Result (IntoIter (String A) A) E → List (List ℕ)
words_in (Ok args) = map string_bytes (drop 1 (into_iter_items args))
words_in (Err error) = []

-- the program ends with the exit status of a status with which the call on these words ended
pub record ProgramEnds (words : List (List ℕ)) (old new : SourceState) (before now : SinkState) (code : ExitCode) : Type 0 where
  pub status : Status
  pub results : Results
  pub ends : EndsWith words old new before now results status
  pub exit : exit_status code ≡ exit_code_of status
