-- A table of locks as contracts see it.
use Rattle.std.specs.Prelude.{◌≡◌, ◌<◌, List, length, Option, None, slice_index_or, slice_set}
use Rattle.st_net.specs.declared.entity.AppId.{AppId}
use Rattle.st_net.specs.declared.entity.Prio.{Prio}
use Rattle.st_net.specs.declared.entity.Prio.TheVariants.{Low, High}
use Rattle.st_net.specs.declared.entity.Entity.{Entity}
use Rattle.st_net.specs.declared.entity.Entity.TheVariants.{Device, Link}
use Rattle.st_net.specs.Groups.{Group}
use Rattle.st_net.specs.Holders.{Holding}
use Rattle.st_locks.specs.declared.table.Holders.{Holders}

-- the holders of each device's and of each link's locks
pub record LockRows : Type 0 where
  pub devices : List Holders
  pub links : List Holders

abbrev pub no_holders : Holders
no_holders = record { low = None; high = None }

abbrev pub IsLockIn : LockRows → Entity → Type 0
IsLockIn t (Device i) = i < length t.devices
IsLockIn t (Link i) = i < length t.links

-- the holders of an entity's locks; nobody where the table does not have it
abbrev pub holders_at : LockRows → Entity → Holders
holders_at t (Device i) = slice_index_or t.devices i no_holders
holders_at t (Link i) = slice_index_or t.links i no_holders

abbrev pub holder_of : Holders → Prio → Option AppId
holder_of holders Low = holders.low
holder_of holders High = holders.high

-- the holder of one of an entity's locks
abbrev pub holder_in : LockRows → Entity → Prio → Option AppId
holder_in t e = holder_of (holders_at t e)

-- holders with one lock's replaced
abbrev pub holders_with : Holders → Prio → Option AppId → Holders
holders_with holders Low holder = record holders { low = holder }
holders_with holders High holder = record holders { high = holder }

-- the table with the holder of one lock replaced
abbrev pub lock_set : LockRows → Entity → Prio → Option AppId → LockRows
lock_set t (Device i) prio holder = record t { devices = slice_set t.devices i (holders_with (holders_at t (Device i)) prio holder) }
lock_set t (Link i) prio holder = record t { links = slice_set t.links i (holders_with (holders_at t (Link i)) prio holder) }

-- the entities stay
pub record HasSameLocks (old new : LockRows) : Type 0 where
  pub devices : length new.devices ≡ length old.devices
  pub links : length new.links ≡ length old.links

-- locks for each entity of the group
pub record LocksOf (g : Group) (t : LockRows) : Type 0 where
  pub devices : length t.devices ≡ length g.devices
  pub links : length t.links ≡ length g.links

-- a holding as a pair
abbrev pub pair_of : Holding → AppId × Prio
pair_of holding = (holding.app, holding.prio)
