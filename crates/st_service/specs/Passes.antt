-- What contracts see of a pass.
use Rattle.std.specs.Prelude.{◌≡◌, ℕ, false, List, [], ◌∷◌, ◌++◌, length, slice_index_or}
use mathlib.Core.List.{IsPrefix}
use Rattle.st_net.specs.declared.entity.Entity.{Entity}
use Rattle.st_net.specs.declared.entity.Var.{Var}
use Rattle.st_net.specs.Groups.{Group, no_group}
use Rattle.st_net.specs.Merge.{merge_of}
use Rattle.st_event.specs.declared.act.LogSaw.TheVariants.{Seen}
use Rattle.st_line.specs.Lines.{no_line}
use Rattle.st_event.specs.declared.act.LogEntry.{LogEntry}
use Rattle.st_board.specs.Published.{Published}
use Rattle.st_event.specs.Proposals.{overlays}
use Rattle.st_service.specs.Made.{Made, past_in}

-- the pass's number; for each room the beginning of the journal that the pass has seen, the places of the entries that it made there, and the front of
-- its reader; and its log
pub record Holder : Type 0 where
  pub number : ℕ
  pub fronts : List (List Made)
  pub mines : List (List ℕ)
  pub readers : List Published
  pub log : List LogEntry

abbrev pub front_at : List (List Made) → ℕ → List Made
front_at fronts g = slice_index_or fronts g []

abbrev pub mine_at : List (List ℕ) → ℕ → List ℕ
mine_at mines g = slice_index_or mines g []

abbrev pub no_reader : Published
no_reader = record { book = no_line; group = no_group; proposals = []; ended = false }

abbrev pub reader_at : List Published → ℕ → Published
reader_at readers n = slice_index_or readers n no_reader

-- a read: the reader's front goes on, and the log gets its version and the variable's value in its merge
pub record Reads (g : Group) (n : ℕ) (entity : Entity) (var : Var) (old new : Holder) : Type 0 where
  pub later : IsPrefix (reader_at old.readers n).proposals (reader_at new.readers n).proposals
  pub log : new.log ≡ old.log ++ record { group = n; entity = entity; var = var; saw = Seen (length (reader_at new.readers n).proposals) (merge_of g (reader_at new.readers n).proposals entity var) } ∷ []

-- what the front of a room overlays the target with begins the front of the reader
abbrev pub IsTaught : Holder → ℕ → Type 0
IsTaught p n = IsPrefix (overlays (past_in (front_at p.fronts n))) (reader_at p.readers n).proposals
