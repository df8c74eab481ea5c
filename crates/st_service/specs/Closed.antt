-- What a closed service hands out.
use Rattle.std.specs.Prelude.{ℕ, suc, ◌≡◌, ◌<◌, ◌==◌, List, [], ◌∷◌, length, reverse, sum_by, slice_index_or, if◌then◌else◌}
use mathlib.Core.List.{IsPrefix}
use Rattle.st_net.specs.Groups.{Group, IsSound}
use Rattle.st_event.specs.declared.journal.Entry.{Entry}
use Rattle.st_event.specs.Legal.{IsLegal}
use Rattle.st_event.specs.Proposals.{overlays}
use Rattle.st_service.specs.Asked.{requests_of, requests_in}
use Rattle.st_service.specs.Made.{Made, past_in, IsMine}
use Rattle.st_service.specs.Passes.{Holder, front_at, mine_at, reader_at}

-- the places, from i on, of the entries that a pass made
abbrev pub positions : ℕ → ℕ → List Made → List ℕ
positions p i [] = []
positions p i (m ∷ ms) = if m.by == p then i ∷ positions p (suc i) ms else positions p (suc i) ms

-- what a pass has seen of a room begins this journal, and the places in the pass's list are of its own entries there
pub record Stands (p : Holder) (front : List Made) (g : ℕ) : Type 0 where
  pub begins : IsPrefix (front_at p.fronts g) front
  pub mine : IsMine p.number front (mine_at p.mines g)
  pub reads : IsPrefix (reader_at p.readers g).proposals (overlays (past_in front))

-- how many entries a pass made in all rooms
abbrev pub entered : Holder → ℕ
entered p = sum_by length p.mines

-- the journal of a room with its makers: the journal is legal, and the group is sound; for each pass, by the pass's number, what the pass has seen begins the journal, the front of
-- its reader begins what the journal overlays the target with, the pass's list has the places of just the entries that the pass made, and those of them that are requests are all that
-- name it
pub record IsWhole (group : Group) (passes : List Holder) (g : ℕ) (entries : List Entry) (front : List Made) : Type 0 where
  pub journal : past_in front ≡ reverse entries
  pub legal : IsLegal group (past_in front)
  pub sound : IsSound group
  pub stands : (n : ℕ) (p : Holder) → n < length passes → Stands (slice_index_or passes n p) front g
  pub made : (n : ℕ) (p : Holder) → n < length passes → mine_at (slice_index_or passes n p).mines g ≡ positions n 0 front
  pub asked : (n : ℕ) (p : Holder) → n < length passes → requests_of n 0 front ≡ requests_in front (mine_at (slice_index_or passes n p).mines g)
  pub count : sum_by (λ p. length (mine_at p.mines g)) passes ≡ length front
