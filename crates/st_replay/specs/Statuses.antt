-- How a call ends, of the program and of the player: the exit status of each status, and the line that tells of it.
use Rattle.std.specs.Prelude.{ℕ, List, [], ◌∷◌, Option, Some, None, codes, decimal, slice_get}
use Rattle.st_io.specs.declared.writing.Written.{Written}
use Rattle.st_io.specs.declared.writing.Written.TheVariants as ways
use Rattle.st_text.specs.Words.{line}
use Rattle.st_net.specs.declared.parts.Parts.{Parts}
use Rattle.st_token.specs.declared.fault.FaultKind.{FaultKind}
use Rattle.st_token.specs.declared.fault.FaultKind.TheVariants as kinds
use Rattle.st_replay.specs.declared.status.Status.{Status}
use Rattle.st_replay.specs.declared.status.Status.TheVariants as statuses

abbrev pub exit_code_of : Status → ℕ
exit_code_of statuses.Ok = 0
exit_code_of statuses.Usage = 2
exit_code_of statuses.ReadFault = 3
exit_code_of statuses.TooLong = 4
exit_code_of (statuses.BadInput line kind) = 5
exit_code_of (statuses.JournalFull group) = 6
exit_code_of (statuses.Illegal group entry) = 7
exit_code_of statuses.WriteFault = 8
exit_code_of statuses.OutOfMemory = 9

abbrev pub kind_word : FaultKind → List ℕ
kind_word kinds.Header = codes "header"
kind_word kinds.Byte = codes "byte"
kind_word kinds.Word = codes "word"
kind_word kinds.Count = codes "count"
kind_word kinds.Name = codes "name"
kind_word kinds.Unknown = codes "unknown"
kind_word kinds.Twice = codes "twice"
kind_word kinds.Number = codes "number"
kind_word kinds.Value = codes "value"
kind_word kinds.Cross = codes "cross"
kind_word kinds.Loop = codes "loop"
kind_word kinds.Pair = codes "pair"
kind_word kinds.Limit = codes "limit"

-- the name of a group by its number; no bytes where there is none
abbrev pub name_or_none : Option Parts → List ℕ
name_or_none None = []
name_or_none (Some parts) = parts.name

abbrev pub group_name : List Parts → ℕ → List ℕ
group_name groups n = name_or_none (slice_get groups n)

-- the line that tells of a status, where the groups of the document are these; there is none of a status that is no fault, or after which nothing
-- can be written
abbrev pub status_line : List Parts → Status → List ℕ
status_line groups statuses.Ok = []
status_line groups statuses.Usage = line (codes "fault") (codes "usage" ∷ [])
status_line groups statuses.ReadFault = line (codes "fault") (codes "read" ∷ [])
status_line groups statuses.TooLong = line (codes "fault") (codes "long" ∷ [])
status_line groups (statuses.BadInput n kind) = line (codes "fault") (codes "input" ∷ codes "line" ∷ decimal n ∷ kind_word kind ∷ [])
status_line groups (statuses.JournalFull group) = line (codes "fault") (codes "full" ∷ group_name groups group ∷ [])
status_line groups (statuses.Illegal group entry) = line (codes "fault") (codes "illegal" ∷ group_name groups group ∷ decimal entry ∷ [])
status_line groups statuses.WriteFault = []
status_line groups statuses.OutOfMemory = []

-- that of a fault before a document was read
abbrev pub fault_line : Status → List ℕ
fault_line status = status_line [] status

-- the status that is told once writing ended so
abbrev pub told : Written → Status → Status
told ways.All status = status
told ways.Failed status = statuses.WriteFault
told ways.OutOfMemory status = statuses.OutOfMemory
