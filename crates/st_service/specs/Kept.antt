-- What holds of a pass whatever a call answers.
use Rattle.std.specs.Prelude.{◌≡◌, ◌≢◌, ℕ, ◌<◌, ◌≤◌, List, [], ◌∷◌, ◌++◌, length}
use mathlib.Core.List.{IsPrefix}
use Rattle.st_service.specs.Made.{Made}
use Rattle.st_service.specs.Passes.{Holder, front_at, mine_at, reader_at}

-- each place is from lo on, and below hi
abbrev pub AllWithin : ℕ → ℕ → List ℕ → Type 0
AllWithin lo hi [] = Unit {0}
AllWithin lo hi (n ∷ ns) = (lo ≤ n) × (n < hi) × AllWithin lo hi ns

-- the front went on, and at most so many places were added to the list, each behind the old front and within the new one
abbrev pub Grows : ℕ → List Made → List ℕ → List Made → List ℕ → Type 0
Grows most before was after now = IsPrefix before after × ((more : List ℕ) × (now ≡ was ++ more) × (length more ≤ most) × AllWithin (length before) (length after) more)

-- the call was on group g, and added at most so many entries
pub record Kept (old new : Holder) (g most : ℕ) : Type 0 where
  pub number : new.number ≡ old.number
  pub rooms : (length new.fronts ≡ length old.fronts) × (length new.mines ≡ length old.mines)
  pub others : (k : ℕ) → k ≢ g → (front_at new.fronts k ≡ front_at old.fronts k) × (mine_at new.mines k ≡ mine_at old.mines k)
  pub grows : Grows most (front_at old.fronts g) (mine_at old.mines g) (front_at new.fronts g) (mine_at new.mines g)
  pub readers : (k : ℕ) → IsPrefix (reader_at old.readers k).proposals (reader_at new.readers k).proposals
