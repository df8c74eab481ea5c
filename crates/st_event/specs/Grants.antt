-- The last grant of a lock, without the table of its holders.
use Rattle.std.specs.Prelude.{◌≡◌, ◌⊎◌, ◌==◌, ◌&&◌, Bool, true, false, List, [], ◌∷◌}
use Rattle.st_net.specs.declared.entity.AppId.{AppId}
use Rattle.st_net.specs.declared.entity.Entity.{Entity}
use Rattle.st_net.specs.declared.entity.Prio.{Prio}
use Rattle.st_event.specs.declared.event.Event.{Event}
use Rattle.st_event.specs.declared.event.Event.TheVariants.{Lock, Unlock}
use Rattle.st_event.specs.declared.reply.Reply.{Reply}
use Rattle.st_event.specs.declared.journal.Entry.{Entry}
use Rattle.st_net.specs.Entities.{is_same_entity}
use Rattle.st_net.specs.Holders.{is_same_prio}
use Rattle.st_event.specs.Locks.{is_granted, is_released}

-- whether an event with this reply grants the lock, to whomever
abbrev pub grants : Entity → Prio → Event → Reply → Bool
grants e q (Lock app at prio) reply = is_granted reply && (is_same_entity at e && is_same_prio prio q)
grants e q _ reply = false

-- whether it is asked by this application
abbrev pub is_asked_by : AppId → Event → Bool
is_asked_by app (Lock by at prio) = by.0 == app.0
is_asked_by app _ = false

-- whether an event with this reply is the application's release of the lock
abbrev pub releases : AppId → Entity → Prio → Event → Reply → Bool
releases app e q (Unlock by at prio) reply = is_released reply && (by.0 == app.0 && (is_same_entity at e && is_same_prio prio q))
releases app e q _ reply = false

-- the entry grants the lock to the application
pub record Grants (entry : Entry) (e : Entity) (q : Prio) (app : AppId) : Type 0 where
  pub grant : grants e q entry.event entry.reply ≡ true
  pub asked : is_asked_by app entry.event ≡ true

-- the entry neither grants the lock nor is the application's release of it
pub record Leaves (entry : Entry) (e : Entity) (q : Prio) (app : AppId) : Type 0 where
  pub no_grant : grants e q entry.event entry.reply ≡ false
  pub no_release : releases app e q entry.event entry.reply ≡ false

-- the last grant of the lock is to the application, and no release by it follows
abbrev pub IsLastGrant : List Entry → Entity → Prio → AppId → Type 0
IsLastGrant [] e q app = ⊥
IsLastGrant (entry ∷ past) e q app = Grants entry e q app ⊎ (Leaves entry e q app × IsLastGrant past e q app)
