-- What the words of the player ask for, and how a call of it ends.
use Rattle.std.specs.Prelude.{◌≡◌, ◌⊎◌, ℕ, List, [], ◌∷◌, Option, Some, None, String, bytes_eq, codes, drop, take, if◌then◌else◌, map, string_bytes, Result, Ok, Err}
use Rattle.std.specs.Process.{exit_status}
use Rattle.std.specs.declared.process.ExitCode.{ExitCode}
use Rattle.std.specs.declared.vec.IntoIter.{IntoIter}
use Rattle.std.specs.Vec.Iter.{into_iter_items}
use Rattle.st_io.specs.declared.reading.ReadEnd.{ReadEnd}
use Rattle.st_io.specs.declared.reading.ReadEnd.TheVariants as reads
use Rattle.st_io.specs.declared.writing.Written.{Written}
use Rattle.st_io.specs.Input.{ReadsInput}
use Rattle.st_io.specs.Output.{Writes}
use Rattle.st_text.specs.Numbers.{number_of}
use Rattle.st_replay.specs.Statuses.{exit_code_of, told}
use Rattle.st_replay.specs.declared.status.Status.{Status}
use Rattle.st_replay.specs.declared.status.Status.TheVariants as ends
use Rattle.st_player.specs.declared.playing.Played.{Played}
use Rattle.st_player.specs.Playing.{IsFault, Plays}

-- the number in a word `--from=N`
abbrev pub joined_from : List ℕ → Option ℕ
joined_from word = if bytes_eq (take 7 word) (codes "--from=") then number_of (drop 7 word) else None

-- how many entries stand before the page: `--from N` or `--from=N`, or no words; other words are none of the player's
abbrev pub from_of : List (List ℕ) → Option ℕ
from_of [] = Some 0
from_of (word ∷ []) = joined_from word
from_of (name ∷ n ∷ []) = if bytes_eq name (codes "--from") then number_of n else None
from_of _ = None

-- by the arguments, of which the first is the program's name; none where they can't be had
abbrev pub from_in : {A E : Type 0} → Result (IntoIter (String A) A) E → Option ℕ
from_in (Ok args) = from_of (map string_bytes (drop 1 (into_iter_items args)))
from_in (Err error) = None

-- what a source has left, and a sink holds, where it tells, with its count of faults
pub record Stream : Type 0 where
  pub bytes : Option (List ℕ)
  pub faults : ℕ

-- what bytes that were read to such an end come to
abbrev pub ComesOf : ℕ → List ℕ → ReadEnd → Played → Type 0
ComesOf from bytes reads.End played = Plays from bytes played
ComesOf from bytes reads.Failed played = IsFault [] ends.ReadFault played
ComesOf from bytes reads.TooLong played = IsFault [] ends.TooLong played

-- the source was read, and this is what it comes to
pub record ComesOfSource (from : ℕ) (old new : Stream) (played : Played) : Type 0 where
  pub bytes : List ℕ
  pub end : ReadEnd
  pub read : ReadsInput old.bytes new.bytes old.faults new.faults bytes end
  pub comes : ComesOf from bytes end played

-- the words were none of the player's, and nothing was read
pub record ComesOfNone (old new : Stream) (played : Played) : Type 0 where
  pub unread : new ≡ old
  pub fault : IsFault [] ends.Usage played

-- what words ask for comes to this
abbrev pub IsCalledFor : Option ℕ → Stream → Stream → Played → Type 0
IsCalledFor None old new played = ComesOfNone old new played
IsCalledFor (Some from) old new played = ComesOfSource from old new played

-- what was called for was written, as far as the status tells
pub record WritesCalled (from : Option ℕ) (source_old source_new sink_old sink_new : Stream) (status : Status) : Type 0 where
  pub played : Played
  pub called : IsCalledFor from source_old source_new played
  pub written : Written
  pub writes : Writes sink_old.bytes sink_new.bytes sink_old.faults sink_new.faults played.text written
  pub status_is : status ≡ told written played.status

-- memory was refused before anything was written
pub record WritesNothing (sink_old sink_new : Stream) (status : Status) : Type 0 where
  pub status_is : status ≡ ends.OutOfMemory
  pub unwritten : sink_new ≡ sink_old

abbrev pub Ends : Option ℕ → Stream → Stream → Stream → Stream → Status → Type 0
Ends from source_old source_new sink_old sink_new status = WritesCalled from source_old source_new sink_old sink_new status ⊎ WritesNothing sink_old sink_new status

-- the program ends with the exit status of a status with which the call ended
pub record ProgramEnds (from : Option ℕ) (source_old source_new sink_old sink_new : Stream) (code : ExitCode) : Type 0 where
  pub status : Status
  pub ends : Ends from source_old source_new sink_old sink_new status
  pub exit : exit_status code ≡ exit_code_of status
