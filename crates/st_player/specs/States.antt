-- What is shown of an entity after some entries of its group's journal: each field by the definition that looks back over them.
use Rattle.std.specs.Prelude.{ℕ, ◌==◌, nat_lt, Bool, true, false, List, Option, Some, None, if◌then◌else◌, slice_index_or}
use Rattle.st_net.specs.declared.entity.Entity.{Entity}
use Rattle.st_net.specs.declared.entity.Entity.TheVariants.{Device, Link}
use Rattle.st_net.specs.declared.entity.Prio.TheVariants.{Low, High}
use Rattle.st_net.specs.Groups.{Group, no_link}
use Rattle.st_net.specs.Levels.{level_of}
use Rattle.st_net.specs.Merge.{vals_in}
use Rattle.st_net.specs.UpGraph.{is_up_link}
use Rattle.st_event.specs.declared.event.Event.TheVariants.{Send}
use Rattle.st_event.specs.declared.journal.Entry.{Entry}
use Rattle.st_event.specs.declared.reply.Reply.{Reply}
use Rattle.st_event.specs.declared.reply.Reply.TheVariants.{Blocked}
use Rattle.st_event.specs.Locks.{holder}
use Rattle.st_event.specs.Moments.{busy, vals, health, stamp}
use Rattle.st_event.specs.Observed.{observed, is_settled, sure, actual, untold}
use Rattle.st_event.specs.Proposals.{target}
use Rattle.st_event.specs.Replies.{reply}
use Rattle.st_player.specs.declared.state.Carriage.{Carriage}
use Rattle.st_player.specs.declared.state.Carriage.TheVariants.{Busy, Up, Off, Failed, Drained}
use Rattle.st_player.specs.declared.state.Knowledge.{Knowledge}
use Rattle.st_player.specs.declared.state.Knowledge.TheVariants.{Sure, Settled, Blocked as is_blocked_lem, Waiting}
use Rattle.st_player.specs.declared.state.State.{State}
use Rattle.st_player.specs.Known.{health_told, known_since}

-- the level of an entity all of which works
abbrev pub greatest : Entity → ℕ
greatest (Device i) = 5
greatest (Link i) = 1

-- an entity's working level in the network
abbrev pub works_of : Group → List Entry → Entity → ℕ
works_of g past e = level_of e (vals g past e) (health g past e) (busy g past e)

-- how an entity is in the network: the first that applies
abbrev pub carriage_of : Group → List Entry → Entity → Carriage
carriage_of g past e =
    if busy g past e then Busy
    else (if actual g past e then Up
    else (if (vals g past e).v0 == 0 then Off
    else (if nat_lt (works_of g past e) (greatest e) then Failed
    else Drained)))

abbrev pub is_blocked : Reply → Bool
is_blocked (Blocked row) = true
is_blocked _ = false

-- how an entity is known: sure, settled without carrying, barred from a command, or on its way
abbrev pub knowledge_of : Group → List Entry → Entity → Knowledge
knowledge_of g past e =
    if sure g past e then Sure
    else (if is_settled g past e then Settled
    else (if is_blocked (reply g past (Send e)) then is_blocked_lem
    else Waiting))

-- of a link, whether it is up with both its ends
abbrev pub open_of : Group → List Entry → Entity → Option Bool
open_of g past (Device i) = None
open_of g past (Link i) = Some (is_up_link (actual g past) i (slice_index_or g.links i no_link))

unfoldable pub state_of : Group → List Entry → Entity → State
state_of g past e = record {
  carriage = carriage_of g past e;
  knowledge = knowledge_of g past e;
  untold = untold g past e;
  target = vals_in g (target g past) e;
  seen = (observed g past e).vals;
  real = vals g past e;
  level = (observed g past e).level;
  works = works_of g past e;
  stamp = stamp g past e;
  fence = (observed g past e).fence;
  told = known_since g past e;
  health = health_told (observed g past e);
  low = holder past e Low;
  high = holder past e High;
  is_open = open_of g past e;
}
