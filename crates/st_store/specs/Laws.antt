-- What the versions of a store are after a list of accepted proposals and withdrawals, and that they are few.
use Rattle.std.specs.Prelude.{◌≡◌, ℕ, ◌+◌, ◌≤◌, Bool, true, List, [], ◌∷◌, length, take, ◌⊎◌}
use Rattle.st_net.specs.declared.entity.Row.{Row}
use Rattle.st_net.specs.Groups.{Group}
use Rattle.st_net.specs.Merge.{merge_of}
use Rattle.st_event.specs.Proposals.{first_rows}
use Rattle.st_overlay.specs.Values.{value_in}
use Rattle.st_store.specs.Changes.{value_at}
use Rattle.st_store.specs.Store.{StoreView, IsStart, Decides, Withdraws}

-- these overlays were merged, the oldest first: each version is the merge of the first so many of them, and the target of all
pub record HasMerged (g : Group) (overlays : List (List Row)) (s : StoreView) : Type 0 where
  pub version : s.version ≡ length overlays
  pub target : value_in s.target ≡ merge_of g overlays
  pub versions : (v : ℕ) → value_at s.versions v ≡ merge_of g (take v overlays)

-- a call that merges nothing
pub record KeepsVersions (old new : StoreView) : Type 0 where
  pub version : new.version ≡ old.version
  pub target : value_in new.target ≡ value_in old.target
  pub versions : value_at new.versions ≡ value_at old.versions

-- a decision that accepts these rows
pub record Accepts (old new : StoreView) (rows : List Row) : Type 0 where
  pub entry : ℕ
  pub oldest : first_rows old.pending ≡ rows
  pub decision : Decides old new entry true

-- a store comes of another by accepting or withdrawing these rows in order, with calls that merge nothing before, between and behind
abbrev pub ComesBy : StoreView → List (List Row) → StoreView → Type 0
ComesBy old [] new = KeepsVersions old new
ComesBy old (rows ∷ later) new = (before : StoreView) × (after : StoreView) × KeepsVersions old before × (Accepts before after rows ⊎ Withdraws before after rows) × ComesBy after later new

abbrev pub VersionsAreMerges : Type 0
VersionsAreMerges = (g : Group) (start s : StoreView) (overlays : List (List Row)) → IsStart g start → ComesBy start overlays s → HasMerged g overlays s

-- where there were no more versions than so many entries, there are no more after one that decides or withdraws
pub record MakesOne (old new : StoreView) : Type 0 where
  pub entries : (n : ℕ) → old.version ≤ n → new.version ≤ n + 1

abbrev pub DecisionsMakeOne : Type 0
DecisionsMakeOne = (old new : StoreView) (entry : ℕ) (accept : Bool) → Decides old new entry accept → MakesOne old new

abbrev pub WithdrawalsMakeOne : Type 0
WithdrawalsMakeOne = (old new : StoreView) (rows : List Row) → Withdraws old new rows → MakesOne old new
