-- What is true of the promises, demands, cuts and sides of every sound group.
use Rattle.std.specs.Prelude.{◌≡◌, ◌≢◌, ◌↔◌, ℕ, ◌<◌, ◌≤◌, Bool, true, List, length, slice_index_or, None}
use Rattle.st_net.specs.declared.entity.Entity.{Entity}
use Rattle.st_net.specs.declared.topo.LinkOpening.{LinkOpening}
use Rattle.st_net.specs.declared.promise.Promise.{Promise}
use Rattle.st_net.specs.Groups.{Group}
use Rattle.st_net.specs.Asks.{ask_count, ask_of}
use Rattle.st_net.specs.Sets.{IsWithin}
use Rattle.st_net.specs.UpGraph.{IsWalk}
use Rattle.st_net.specs.Cuts.{IsCut, cut_value, least_cut, is_in_least_side}
use Rattle.st_net.specs.Promises.{Keeps, is_kept}
use Rattle.st_net.specs.Demands.{demand_count, HoldsIn, is_held_in, held_list, first_broken_of}

-- a promise that holds goes on to hold with more entities up
abbrev pub KeepsWithMore : Group → Type 0
KeepsWithMore g = (up more : Entity → Bool) (p : Promise) → IsWithin up more → Keeps g up p → Keeps g more p

-- the test tells of each ask whether it is kept
abbrev pub TellsKept : Group → Type 0
TellsKept g = (up : Entity → Bool) (i : ℕ) → i < ask_count g → (is_kept g up (ask_of g i) ≡ true) ↔ Keeps g up (ask_of g i)

-- a demand that holds goes on to hold with more entities up
abbrev pub DemandsHoldWithMore : Group → Type 0
DemandsHoldWithMore g = (up more : Entity → Bool) (i : ℕ) → IsWithin up more → HoldsIn g up i → HoldsIn g more i

-- the test tells of each demand whether it holds
abbrev pub TellsDemands : Group → Type 0
TellsDemands g = (up : Entity → Bool) (i : ℕ) → i < demand_count g → (is_held_in g up i ≡ true) ↔ HoldsIn g up i

-- the list of which demands hold has the test of each, by its number
pub record ListsDemands (g : Group) (up : Entity → Bool) : Type 0 where
  pub count : length (held_list g up) ≡ demand_count g
  pub each : (i : ℕ) (default : Bool) → i < demand_count g → slice_index_or (held_list g up) i default ≡ is_held_in g up i

-- where no demand is broken first, each that held with the first set up holds with the second
abbrev pub BreaksNone : Group → Type 0
BreaksNone g = (before after : Entity → Bool) (i : ℕ) → first_broken_of g before after ≡ None → i < demand_count g → is_held_in g before i ≡ true → is_held_in g after i ≡ true

-- some cut has the value, and none has less
pub record IsLeastValue (links : List LinkOpening) (up : Entity → Bool) (a b value : ℕ) : Type 0 where
  pub attained : (side : ℕ → Bool) × IsCut side a b × (cut_value links up side ≡ value)
  pub below : (side : ℕ → Bool) → IsCut side a b → value ≤ cut_value links up side

-- the least cut of any two devices is the least value of their cuts
abbrev pub HasLeastCuts : Group → Type 0
HasLeastCuts g = (up : Entity → Bool) (a b : ℕ) → a ≢ b → IsLeastValue g.links up a b (least_cut (length g.devices) g.links up a b)

-- a walk joins two devices exactly where their least cut is not 0
abbrev pub WalksWhereCut : Group → Type 0
WalksWhereCut g = (up : Entity → Bool) (a b : ℕ) → a ≢ b → ((walk : List ℕ) × IsWalk g.links up a walk b) ↔ (0 < least_cut (length g.devices) g.links up a b)

-- a cut of the least value
pub record IsLeastCut (g : Group) (up : Entity → Bool) (a b : ℕ) (side : ℕ → Bool) : Type 0 where
  pub cut : IsCut side a b
  pub value : cut_value g.links up side ≡ least_cut (length g.devices) g.links up a b

-- a device is in the least side exactly where it is in each cut of the least value
abbrev pub TellsLeastSide : Group → Type 0
TellsLeastSide g = (up : Entity → Bool) (a b d : ℕ) → a ≢ b → d < length g.devices → (is_in_least_side (length g.devices) g.links up a b d ≡ true) ↔ ((side : ℕ → Bool) → IsLeastCut g up a b side → side d ≡ true)

-- a cut of the least value that each cut of the least value contains has the devices of the least side
abbrev pub HasOneLeastSide : Group → Type 0
HasOneLeastSide g = (up : Entity → Bool) (a b : ℕ) (side : ℕ → Bool) → a ≢ b → IsLeastCut g up a b side → ((other : ℕ → Bool) → IsLeastCut g up a b other → (d : ℕ) → side d ≡ true → other d ≡ true) → (d : ℕ) → d < length g.devices → is_in_least_side (length g.devices) g.links up a b d ≡ side d
