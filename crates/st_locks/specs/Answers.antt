-- What a request for a lock and a release are answered, and what they change.
use Rattle.std.specs.Prelude.{◌≡◌, Option, Some, None, if◌then◌else◌}
use Rattle.st_net.specs.declared.entity.AppId.{AppId}
use Rattle.st_net.specs.declared.entity.Prio.{Prio}
use Rattle.st_net.specs.declared.entity.Entity.{Entity}
use Rattle.st_net.specs.Holders.{is_free_for, is_held_by, holder_set}
use Rattle.st_locks.specs.declared.table.Grant.{Grant}
use Rattle.st_locks.specs.declared.table.Grant.TheVariants.{Granted, Held}
use Rattle.st_locks.specs.declared.table.Release.{Release}
use Rattle.st_locks.specs.declared.table.Release.TheVariants.{Released, NotYours}
use Rattle.st_locks.specs.LockRows.{LockRows}

-- the answer to an application that asks for a lock with this holder: it is held exactly where another application holds it
abbrev pub grant_of : AppId → Option AppId → Grant
grant_of app None = Granted
grant_of app (Some holder) = if is_free_for app (Some holder) then Granted else Held holder

-- the answer to an application that gives back a lock with this holder
abbrev pub release_of : AppId → Option AppId → Release
release_of app holder = if is_held_by app holder then Released else NotYours holder

-- the holders after the answer to a request
abbrev pub holder_granted : Grant → (Entity → Prio → Option AppId) → Entity → Prio → AppId → Entity → Prio → Option AppId
holder_granted Granted before e prio app = holder_set before e prio (Some app)
holder_granted (Held holder) before e prio app = before

-- the holders after the answer to a release
abbrev pub holder_released : Release → (Entity → Prio → Option AppId) → Entity → Prio → Entity → Prio → Option AppId
holder_released Released before e prio = holder_set before e prio None
holder_released (NotYours holder) before e prio = before

abbrev pub HeldChangesNothing : Grant → LockRows → LockRows → Type 0
HeldChangesNothing Granted old new = Unit {0}
HeldChangesNothing (Held holder) old new = new ≡ old

abbrev pub NotYoursChangesNothing : Release → LockRows → LockRows → Type 0
NotYoursChangesNothing Released old new = Unit {0}
NotYoursChangesNothing (NotYours holder) old new = new ≡ old
