-- A search over the up graph: what it has found, and what is known of that.
use Rattle.std.specs.Prelude.{◌≡◌, ℕ, ◌+◌, ◌<◌, ◌≤◌, Bool, true, false, ◌||◌, ◌==◌, List, [], ◌∷◌, ◌++◌, length, slice_index_or, slice_set, sum_by, Option, Some, None, is_some, MatchOption, if◌then◌else◌}
use Rattle.st_net.specs.declared.entity.Entity.{Entity}
use Rattle.st_net.specs.declared.topo.LinkOpening.{LinkOpening}
use Rattle.st_net.specs.Groups.{no_link}
use Rattle.st_net.specs.UpGraph.{is_up_link, Leads, IsWalk}
use Rattle.st_promise.specs.declared.search.Step.{Step}
use Rattle.st_promise.specs.Incidence.{has_end}

-- the device that it starts from, for each device the place of its step, and the steps in the order in which devices were found
pub record Visits : Type 0 where
  pub root : ℕ
  pub places : List (Option ℕ)
  pub steps : List Step

-- what a list of steps has past its end
abbrev pub no_step : Step
no_step = record { device = 0; came = None }

abbrev pub step_at : Visits → ℕ → Step
step_at s k = slice_index_or s.steps k no_step

-- the place of a device's step
abbrev pub place_in : Visits → ℕ → Option ℕ
place_in s d = slice_index_or s.places d None

abbrev pub is_found : Visits → ℕ → Bool
is_found s d = is_some (place_in s d)

-- how many devices are not found
abbrev pub unfound : List (Option ℕ) → ℕ
unfound places = sum_by (λ place. if is_some place then 0 else 1) places

-- the search with one step more
abbrev pub entered : Visits → Step → Visits
entered s step = record { root = s.root; places = slice_set s.places step.device (Some (length s.steps)); steps = s.steps ++ step ∷ [] }

-- the step is the start, or an up link leads to it from one of the first k steps
abbrev pub IsFoundBy : List LinkOpening → (Entity → Bool) → Visits → ℕ → Step → Type 0
IsFoundBy links up s k step = MatchOption step.came (step.device ≡ s.root) (λ came. (came.from < k) × Leads links up came.link (step_at s came.from).device step.device)

-- a search of a group with n devices: start and steps are of it, and up links lead to each device that was found
pub record IsSearch (n : ℕ) (links : List LinkOpening) (up : Entity → Bool) (s : Visits) : Type 0 where
  pub one_each : length s.places ≡ n
  pub counted : unfound s.places + length s.steps ≡ n
  pub start : is_found s s.root ≡ true
  pub placed : (d k : ℕ) → place_in s d ≡ Some k → (k < length s.steps) × ((step_at s k).device ≡ d)
  pub each : (k : ℕ) → k < length s.steps → is_found s (step_at s k).device ≡ true
  pub found : (k : ℕ) → k < length s.steps → IsFoundBy links up s k (step_at s k)

-- the search is one of some group
abbrev pub IsSearchOfSome : Visits → Type 0
IsSearchOfSome s = (n : ℕ) × (links : List LinkOpening) × (up : Entity → Bool) × IsSearch n links up s

-- in each group that the search is one of, the walk leads from its start to the device
abbrev pub LeadsTo : Visits → ℕ → List ℕ → Type 0
LeadsTo s device walk = (n : ℕ) (links : List LinkOpening) (up : Entity → Bool) → IsSearch n links up s → IsWalk links up s.root walk device

-- a step to a device that was not found
pub record IsNext (n : ℕ) (links : List LinkOpening) (up : Entity → Bool) (s : Visits) (step : Step) : Type 0 where
  pub low : step.device < n
  pub new : is_found s step.device ≡ false
  pub found : IsFoundBy links up s (length s.steps) step

-- with the step, both ends of the link are found
abbrev pub IsOver : List LinkOpening → Visits → ℕ → Step → Type 0
IsOver links s i step =
    ((is_found s (slice_index_or links i no_link).a || step.device == (slice_index_or links i no_link).a) ≡ true)
    × ((is_found s (slice_index_or links i no_link).b || step.device == (slice_index_or links i no_link).b) ≡ true)

-- the link is down, or both its ends are found, or neither
abbrev pub IsJoined : List LinkOpening → (Entity → Bool) → Visits → ℕ → Type 0
IsJoined links up s i = is_up_link up i (slice_index_or links i no_link) ≡ true → is_found s (slice_index_or links i no_link).a ≡ is_found s (slice_index_or links i no_link).b

-- the link is down, or both its ends are found
abbrev pub IsWithin : List LinkOpening → (Entity → Bool) → Visits → ℕ → Type 0
IsWithin links up s i = is_up_link up i (slice_index_or links i no_link) ≡ true → (is_found s (slice_index_or links i no_link).a ≡ true) × (is_found s (slice_index_or links i no_link).b ≡ true)

-- both ends of each up link of a device are found
abbrev pub IsVisited : List LinkOpening → (Entity → Bool) → Visits → ℕ → Type 0
IsVisited links up s d = (i : ℕ) → i < length links → has_end d (slice_index_or links i no_link) ≡ true → IsWithin links up s i

-- of no up link exactly one end is found
abbrev pub IsSettled : List LinkOpening → (Entity → Bool) → Visits → Type 0
IsSettled links up s = (i : ℕ) → i < length links → IsJoined links up s i

-- what was found stays found, by the same steps
pub record Extends (old new : Visits) : Type 0 where
  pub root : new.root ≡ old.root
  pub kept : (d : ℕ) → is_found old d ≡ true → is_found new d ≡ true
  pub more : length old.steps ≤ length new.steps
  pub steps : (k : ℕ) → k < length old.steps → step_at new k ≡ step_at old k
