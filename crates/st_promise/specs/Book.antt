-- What a book keeps of a group's asks, as contracts see it, and what marks of asks say.
use Rattle.std.specs.Prelude.{◌≡◌, ℕ, ◌-◌, ◌^◌, ◌<◌, ◌≤◌, ◌⊎◌, Bool, true, false, List, map, slice_index_or}
use Rattle.st_net.specs.declared.entity.Entity.{Entity}
use Rattle.st_net.specs.declared.promise.Promise.{Promise}
use Rattle.st_net.specs.Groups.{Group}
use Rattle.st_net.specs.Asks.{asks, ask_count, ask_of}
use Rattle.st_net.specs.Promises.{need_of, is_kept}
use Rattle.st_flow.specs.Network.{Network}
use Rattle.st_promise.specs.UpNetwork.{up_network}

-- what stays: the need of each ask, the asks, and the network of all entities
pub record BookOf : Type 0 where
  pub needs : List ℕ
  pub asks : List Promise
  pub whole : Network

-- and how many runs of a flow were counted
pub record BookView : Type 0 where
  pub of : BookOf
  pub flows_run : ℕ

-- the need of each ask of a group, in order
abbrev pub AreNeedsOf : Group → List ℕ → Type 0
AreNeedsOf g needs = needs ≡ map (need_of g) (asks g)

-- the book of a group
pub record IsBookOf (g : Group) (book : BookOf) : Type 0 where
  pub needs_are : AreNeedsOf g book.needs
  pub asks_are : book.asks ≡ asks g
  pub whole_is : book.whole ≡ up_network g (λ e. true)

-- the count did not fall
abbrev pub HasNotFallen : BookView → BookView → Type 0
HasNotFallen old new = old.flows_run ≤ new.flows_run

-- the count rose, unless it stands at its last value
abbrev pub HasRisen : BookView → BookView → Type 0
HasRisen old new = (old.flows_run < new.flows_run) ⊎ (2 ^ 64 - 1 ≤ new.flows_run)

-- of each ask, in order, whether it holds while these entities are up
abbrev pub held_asks : Group → (Entity → Bool) → List Bool
held_asks g up = map (is_kept g up) (asks g)

-- each ask that is marked holds while these entities are up; what lies past the end of the list is not marked
abbrev pub AreKept : Group → (Entity → Bool) → List Bool → Type 0
AreKept g up marks = (i : ℕ) → i < ask_count g → slice_index_or marks i false ≡ true → is_kept g up (ask_of g i) ≡ true

-- each ask that is marked fails while these entities are up
abbrev pub AreFailing : Group → (Entity → Bool) → List Bool → Type 0
AreFailing g up marks = (i : ℕ) → i < ask_count g → slice_index_or marks i false ≡ true → is_kept g up (ask_of g i) ≡ false
