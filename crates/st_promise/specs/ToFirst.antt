-- Asks judged in order, up to the first demand that a change breaks.
use Rattle.std.specs.Prelude.{◌≡◌, ℕ, ◌+◌, ◌-◌, ◌<◌, ◌≤◌, Bool, false, not, List, filter, length, take, drop, slice_index_or, Option, Some, None, IfSome}
use Rattle.std.specs.List.{AllZip, range_with_len}
use Rattle.st_net.specs.declared.entity.Entity.{Entity}
use Rattle.st_net.specs.declared.promise.Broken.{Broken}
use Rattle.st_net.specs.Groups.{Group}
use Rattle.st_net.specs.Asks.{ask_count}
use Rattle.st_net.specs.Demands.{broken_demand}
use Rattle.st_promise.specs.declared.to_first.Networks.{Networks}
use Rattle.st_promise.specs.declared.to_first.Ahead.{Ahead}
use Rattle.st_promise.specs.UpNetwork.{up_network}
use Rattle.st_promise.specs.Change.{IsChange}

-- the numbers from i on, below n, of asks that are not marked
abbrev pub open_from : List Bool → ℕ → ℕ → List ℕ
open_from marks i n = filter (λ k. not (slice_index_or marks k false)) (range_with_len i (n - i))

-- how many asks, in order, are judged: all, or those before that of a promise that is broken, and that one
abbrev pub told_to : Group → Option Broken → ℕ
told_to g None = ask_count g
told_to g (Some broken) = broken_demand g broken + 1

-- the networks of what is up before a change and after it
pub record AreNetworks (g : Group) (up down : Entity → Bool) (networks : Networks) : Type 0 where
  pub before : networks.before ≡ up_network g up
  pub after : networks.after ≡ up_network g down

-- before number i: what is judged ahead is of the next asks that are not marked, and more can be judged
pub record IsAheadAt (g : Group) (before after : Entity → Bool) (marks : List Bool) (i : ℕ) (ahead : Ahead) : Type 0 where
  pub networks : IfSome ahead.networks (AreNetworks g before after)
  pub place : ahead.place ≤ length ahead.changes.items
  pub most : 0 < ahead.most
  pub changes : AllZip (IsChange g before after) (take (length ahead.changes.items - ahead.place) (open_from marks i (ask_count g))) (drop ahead.place ahead.changes.items)
