-- How a service starts.
use Rattle.std.specs.Prelude.{◌≡◌, ℕ, ◌<◌, List, [], length, slice_index_or}
use Rattle.st_line.specs.Lines.{LineName}
use Rattle.st_net.specs.Groups.{Group}
use Rattle.st_wire.specs.declared.line.WireLine.{WireLine}
use Rattle.st_world.specs.World.{WorldView}
use Rattle.st_service.specs.declared.start.RoomLines.{RoomLines}
use Rattle.st_service.specs.Passes.{Holder, front_at, mine_at, reader_at}

-- the lines of the rooms are those of these names
abbrev pub AreLinesOf : (ℕ → LineName) → (ℕ → LineName) → List RoomLines → Type 0
AreLinesOf book board lines = (k : ℕ) (d : RoomLines) → k < length lines → ((slice_index_or lines k d).journal ≡ book k) × ((slice_index_or lines k d).board ≡ board k)

-- the worlds are at the opening of these groups, with these loss plans
abbrev pub AreWorldsOf : (ℕ → Group) → (ℕ → List WireLine) → List WorldView → Type 0
AreWorldsOf group lines worlds =
    (k : ℕ) (d : WorldView) → k < length worlds → ((slice_index_or worlds k d).history ≡ record { group = group k; past = [] }) × ((slice_index_or worlds k d).lines ≡ lines k)

-- the pass of this number, of so many rooms, at the start: nothing is seen, made or logged
pub record IsFresh (number rooms : ℕ) (p : Holder) : Type 0 where
  pub numbered : p.number ≡ number
  pub rooms_are : (length p.fronts ≡ rooms) × (length p.mines ≡ rooms)
  pub unseen : (k : ℕ) → front_at p.fronts k ≡ []
  pub unmade : (k : ℕ) → mine_at p.mines k ≡ []
  pub unread : (k : ℕ) → (reader_at p.readers k).proposals ≡ []
  pub unlogged : p.log ≡ []
