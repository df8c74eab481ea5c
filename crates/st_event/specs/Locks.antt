-- Who holds the locks of an entity.
use Rattle.std.specs.Prelude.{Bool, true, false, List, [], ◌∷◌, Option, Some, None, if◌then◌else◌}
use Rattle.st_net.specs.declared.entity.AppId.{AppId}
use Rattle.st_net.specs.declared.entity.Entity.{Entity}
use Rattle.st_net.specs.declared.entity.Prio.{Prio}
use Rattle.st_event.specs.declared.event.Event.{Event}
use Rattle.st_event.specs.declared.event.Event.TheVariants.{Submit, Check, Lock, Unlock, Send, Deliver, Finish, Report, Hear, Fail, Withdraw}
use Rattle.st_event.specs.declared.reply.Reply.{Reply}
use Rattle.st_event.specs.declared.reply.Reply.TheVariants.{Granted, Released}
use Rattle.st_event.specs.declared.journal.Entry.{Entry}
use Rattle.st_net.specs.Holders.{holder_set, holder_freed}

abbrev pub is_granted : Reply → Bool
is_granted Granted = true
is_granted _ = false

abbrev pub is_released : Reply → Bool
is_released Released = true
is_released _ = false

-- the holders after an entry, from those before it
abbrev pub holder_after : Event → Reply → (Entity → Prio → Option AppId) → Entity → Prio → Option AppId
holder_after (Lock app at prio) reply before = if is_granted reply then holder_set before at prio (Some app) else before
holder_after (Unlock app at prio) reply before = if is_released reply then holder_freed before at prio app else before
holder_after (Submit app rows) reply before = before
holder_after Check reply before = before
holder_after (Send at) reply before = before
holder_after (Deliver n) reply before = before
holder_after (Finish at) reply before = before
holder_after (Report at) reply before = before
holder_after (Hear n) reply before = before
holder_after (Fail at vals health) reply before = before
holder_after (Withdraw at) reply before = before

-- the application of the last grant of a lock that its own release does not follow
abbrev pub holder : List Entry → Entity → Prio → Option AppId
holder [] = λ e q. None
holder (entry ∷ past) = holder_after entry.event entry.reply (holder past)
