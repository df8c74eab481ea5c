-- The order in which the acts of a document's applications are done, on one thread.
use Rattle.std.specs.Prelude.{◌≡◌, ◌<◌, ◌≤◌, ℕ, ◌+◌, zero, suc, ◌==◌, nat_lt, List, [], ◌∷◌, ◌++◌, length, reverse, slice_get, slice_index_or, Option, Some, None, if◌then◌else◌}
use Rattle.st_grammar.specs.declared.doc.Script.{Script}
use Rattle.st_grammar.specs.declared.limits.TheConstants.{MAX_ACTS}
use Rattle.st_serial.specs.declared.schedule.Place.{Place}

-- how often a number stands in a list
abbrev pub times : ℕ → List ℕ → ℕ
times n [] = 0
times n (m ∷ ms) = if n == m then times n ms + 1 else times n ms

-- how many acts an application has; none where there is no such application
abbrev pub count_in : Option Script → ℕ
count_in None = 0
count_in (Some app) = length app.acts

abbrev pub act_count : List Script → ℕ → ℕ
act_count apps i = count_in (slice_get apps i)

-- the k-th act of an application, if it has so many
abbrev pub place_at : List Script → ℕ → ℕ → List Place
place_at apps i k = if nat_lt k (act_count apps i) then record { app = i; act = k } ∷ [] else []

-- each name of the order lets its application do its next act: the one behind those that the names before it let it do. The names stand newest first
abbrev pub ordered : List Script → List ℕ → List Place
ordered apps [] = []
ordered apps (i ∷ before) = ordered apps before ++ place_at apps i (times i before)

-- in lap k each of the first n applications does its k-th act behind those that the order let it do
abbrev pub lap : List Script → List ℕ → ℕ → ℕ → List Place
lap apps order k zero = []
lap apps order k (suc i) = lap apps order k i ++ place_at apps i (times i order + k)

-- the first so many laps, one after another
unfoldable pub laps : List Script → List ℕ → ℕ → List Place
laps apps order zero = []
laps apps order (suc k) = laps apps order k ++ lap apps order k (length apps)

-- first the acts that the order asks for, and then laps until none is left: no application has more than MAX_ACTS acts
abbrev pub schedule : List Script → List ℕ → List Place
schedule apps order = ordered apps (reverse order) ++ laps apps (reverse order) MAX_ACTS

abbrev pub HasFewActs : Script → Type 0
HasFewActs app = length app.acts ≤ MAX_ACTS

-- the place is that of an act
pub record IsPlaceIn (apps : List Script) (place : Place) : Type 0 where
  pub app : place.app < length apps
  pub act : place.act < act_count apps place.app

-- how often each application's name has stood in an order
pub record IsTally (apps : List Script) (order : List ℕ) (tally : List ℕ) : Type 0 where
  pub one_each : length tally ≡ length apps
  pub counts : (i : ℕ) → i < length apps → slice_index_or tally i 0 ≡ times i order
