-- What is shown of a group after some entries of its journal.
use Rattle.std.specs.Prelude.{ℕ, Bool, List, length, map}
use Rattle.st_net.specs.declared.entity.Entity.{Entity}
use Rattle.st_net.specs.Groups.{Group}
use Rattle.st_net.specs.InOrder.{entities_of}
use Rattle.st_net.specs.Promises.{is_kept}
use Rattle.st_event.specs.declared.journal.Entry.{Entry}
use Rattle.st_event.specs.Observed.{sure, actual}
use Rattle.st_event.specs.Proposals.{version, pending}
use Rattle.st_player.specs.declared.state.State.{State}
use Rattle.st_player.specs.States.{state_of}

-- the states of all entities in order; which promises hold in the network, and which in the sure set; the version, and how many proposals wait
pub record Shown : Type 0 where
  pub states : List State
  pub network : List Bool
  pub sure : List Bool
  pub version : ℕ
  pub pending : ℕ

abbrev pub states_of : Group → List Entry → List State
states_of g past = map (state_of g past) (entities_of g)

-- whether each promise holds while these entities are up
abbrev pub held_of : Group → List Entry → (Group → List Entry → Entity → Bool) → List Bool
held_of g past up = map (is_kept g (up g past)) g.promises

unfoldable pub shown_of : Group → List Entry → Shown
shown_of g past = record {
  states = states_of g past;
  network = held_of g past actual;
  sure = held_of g past sure;
  version = version past;
  pending = length (pending past);
}
