-- The demands of a group: what it wants of its network, each under its number. Each is a promise, and holds where its ask does.
use Rattle.std.specs.Prelude.{ℕ, Bool, List, length, map, Option}
use Rattle.st_net.specs.declared.entity.Entity.{Entity}
use Rattle.st_net.specs.declared.promise.BrokenOf.{BrokenOf}
use Rattle.st_net.specs.declared.promise.BrokenOf.TheVariants.{Promise as of_promise}
use Rattle.st_net.specs.declared.promise.Broken.{Broken}
use Rattle.st_net.specs.Groups.{Group, promise_of}
use Rattle.st_net.specs.Promises.{Keeps, is_kept, first_broken}

abbrev pub demand_count : Group → ℕ
demand_count g = length g.promises

-- the demand holds while these entities are up
abbrev pub HoldsIn : Group → (Entity → Bool) → ℕ → Type 0
HoldsIn g up i = Keeps g up (promise_of g i)

-- the same as a test
abbrev pub is_held_in : Group → (Entity → Bool) → ℕ → Bool
is_held_in g up i = is_kept g up (promise_of g i)

-- of each demand, in order, whether it holds while these entities are up
abbrev pub held_list : Group → (Entity → Bool) → List Bool
held_list g up = map (is_kept g up) g.promises

-- how the first demand is broken that holds with the first set up, and not with the second
abbrev pub first_broken_of : Group → (Entity → Bool) → (Entity → Bool) → Option Broken
first_broken_of g before after = first_broken g before after 0 g.promises

-- the number of the demand that breaks: of a promise its own
abbrev pub number_of_broken : Group → BrokenOf → ℕ
number_of_broken g (of_promise i) = i

abbrev pub broken_demand : Group → Broken → ℕ
broken_demand g broken = number_of_broken g broken.of

-- the two devices between which it breaks, as they were declared
abbrev pub pair_of_broken : Group → BrokenOf → ℕ × ℕ
pair_of_broken g (of_promise i) = ((promise_of g i).a, (promise_of g i).b)

abbrev pub broken_pair : Group → Broken → ℕ × ℕ
broken_pair g broken = pair_of_broken g broken.of
