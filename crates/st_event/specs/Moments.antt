-- Stamps, commands, agents and reports: each looks back at the entries before.
use Rattle.std.specs.Prelude.{ℕ, ◌+◌, Bool, true, false, ◌&&◌, ◌||◌, ◌==◌, not, nat_lt, max, List, [], ◌∷◌, ◌++◌, length, Option, Some, None, if◌then◌else◌}
use Rattle.st_net.specs.declared.entity.Entity.{Entity}
use Rattle.st_net.specs.declared.entity.Row.{Row}
use Rattle.st_net.specs.declared.entity.Var.{Var}
use Rattle.st_net.specs.declared.entity.Vals.{Vals}
use Rattle.st_net.specs.declared.message.Command.{Command}
use Rattle.st_net.specs.declared.message.Report.{Report}
use Rattle.st_event.specs.declared.event.Event.{Event}
use Rattle.st_event.specs.declared.event.Event.TheVariants.{Submit, Check, Lock, Unlock, Send, Deliver, Finish, Report as make_report, Hear, Fail, Withdraw}
use Rattle.st_event.specs.declared.reply.Reply.{Reply}
use Rattle.st_event.specs.declared.reply.Reply.TheVariants.{Taken, Sent}
use Rattle.st_event.specs.declared.journal.Entry.{Entry}
use Rattle.st_net.specs.Entities.{is_same_entity, is_same_vals}
use Rattle.st_net.specs.Agents.{report_by}
use Rattle.st_net.specs.Groups.{Group, opening_of, health_of}
use Rattle.st_event.specs.Proposals.{target, pending, first_rows, overlay_in}
use Rattle.st_net.specs.Merge.{vals_in, alters}
use Rattle.st_net.specs.Numbered.{nth}

abbrev pub is_sent : Reply → Bool
is_sent (Sent command) = true
is_sent _ = false

abbrev pub is_taken : Reply → Bool
is_taken Taken = true
is_taken _ = false

-- whether the event is a finish, a report or a failure of this entity
abbrev pub is_finish_of : Entity → Event → Bool
is_finish_of e (Finish at) = is_same_entity at e
is_finish_of e _ = false

abbrev pub is_report_of : Entity → Event → Bool
is_report_of e (make_report at) = is_same_entity at e
is_report_of e _ = false

abbrev pub is_fail_of : Entity → Event → Bool
is_fail_of e (Fail at vals health) = is_same_entity at e
is_fail_of e _ = false

-- a command, where it is one of this entity
abbrev pub command_of : Entity → Option Command → Option Command
command_of e None = None
command_of e (Some c) = if is_same_entity c.entity e then Some c else None

-- the command of this entity that an event delivers
abbrev pub told : Entity → Event → (ℕ → Option Command) → Option Command
told e (Deliver n) commands = command_of e (commands n)
told e _ commands = None

-- the report that an event hears
abbrev pub heard : Event → (ℕ → Option Report) → Option Report
heard (Hear n) reports = reports n
heard _ reports = None

-- whether a report, once it is taken, renews an entity with this stamp and this target: it shows that the command of that stamp was
-- carried out, and other values than the target's
abbrev pub renews : Option Report → Entity → ℕ → Vals → Bool
renews None e stamp target = false
renews (Some r) e stamp target = is_same_entity r.entity e && not r.busy && r.fence == stamp && not (is_same_vals r.vals target)

-- whether an overlay gives an entity other values than this target has
abbrev pub is_altered_by : Group → (Entity → Var → ℕ) → Option (List Row) → Entity → Bool
is_altered_by g target None e = false
is_altered_by g target (Some rows) e = alters g target rows e

-- the greater stamp of the fence before and of the command that is delivered
abbrev pub fence_after : Option Command → ℕ → ℕ
fence_after None before = before
fence_after (Some c) before = max before c.stamp

-- whether a delivered command begins: its stamp is greater than the fence before
abbrev pub begins : Option Command → ℕ → Bool
begins None fence = false
begins (Some c) fence = nat_lt fence c.stamp

-- the values in work after a delivery
abbrev pub work_after : Option Command → ℕ → Vals → Vals
work_after None fence before = before
work_after (Some c) fence before = if nat_lt fence c.stamp then c.vals else before

abbrev pub vals_after : Event → Entity → Bool → Vals → Vals → Vals
vals_after (Finish at) e busy work before = if is_same_entity at e && busy then work else before
vals_after (Fail at vals health) e busy work before = if is_same_entity at e then vals else before
vals_after (Submit app rows) e busy work before = before
vals_after Check e busy work before = before
vals_after (Lock app at prio) e busy work before = before
vals_after (Unlock app at prio) e busy work before = before
vals_after (Send at) e busy work before = before
vals_after (Deliver n) e busy work before = before
vals_after (make_report at) e busy work before = before
vals_after (Hear n) e busy work before = before
vals_after (Withdraw at) e busy work before = before

abbrev pub health_after : Event → Entity → ℕ → ℕ
health_after (Fail at vals health) e before = if is_same_entity at e then health else before
health_after (Submit app rows) e before = before
health_after Check e before = before
health_after (Lock app at prio) e before = before
health_after (Unlock app at prio) e before = before
health_after (Send at) e before = before
health_after (Deliver n) e before = before
health_after (Finish at) e before = before
health_after (make_report at) e before = before
health_after (Hear n) e before = before
health_after (Withdraw at) e before = before

-- an agent's health: that of the last failure, or else the opening's
abbrev pub health : Group → List Entry → Entity → ℕ
health g [] = λ e. health_of g e
health g (entry ∷ past) = λ e. health_after entry.event e (health g past e)

-- how many reports an agent has made
abbrev pub number : List Entry → Entity → ℕ
number [] = λ e. 0
number (entry ∷ past) = λ e. if is_report_of e entry.event then number past e + 1 else number past e

abbrev pub commands_after : Event → Reply → (Entity → Command) → List Command → List Command
commands_after (Send e) reply command before = if is_sent reply then before ++ command e ∷ [] else before
commands_after (Submit app rows) reply command before = before
commands_after Check reply command before = before
commands_after (Lock app at prio) reply command before = before
commands_after (Unlock app at prio) reply command before = before
commands_after (Deliver n) reply command before = before
commands_after (Finish at) reply command before = before
commands_after (make_report at) reply command before = before
commands_after (Hear n) reply command before = before
commands_after (Fail at vals health) reply command before = before
commands_after (Withdraw at) reply command before = before

abbrev pub reports_after : Event → (Entity → Report) → List Report → List Report
reports_after (make_report e) report before = before ++ report e ∷ []
reports_after (Submit app rows) report before = before
reports_after Check report before = before
reports_after (Lock app at prio) report before = before
reports_after (Unlock app at prio) report before = before
reports_after (Send at) report before = before
reports_after (Deliver n) report before = before
reports_after (Finish at) report before = before
reports_after (Hear n) report before = before
reports_after (Fail at vals health) report before = before
reports_after (Withdraw at) report before = before

abbrev mutual
  -- the number of the last entry that changed or renewed the target of an entity
  pub stamp : Group → List Entry → Entity → ℕ
  stamp g [] = λ e. 0
  stamp g (entry ∷ past) = λ e. if is_altered_by g (target g past) (overlay_in entry.event entry.reply (first_rows (pending past))) e || (is_taken entry.reply && renews (heard entry.event (nth (reports g past))) e (stamp g past e) (vals_in g (target g past) e)) then length past + 1 else stamp g past e

  -- the commands that were sent, the oldest first: the first is number 1
  pub commands : Group → List Entry → List Command
  commands g [] = []
  commands g (entry ∷ past) = commands_after entry.event entry.reply (λ e. record { entity = e; stamp = stamp g past e; vals = vals_in g (target g past) e }) (commands g past)

  -- the greatest stamp of a command of the entity that was delivered
  pub fence : Group → List Entry → Entity → ℕ
  fence g [] = λ e. 0
  fence g (entry ∷ past) = λ e. fence_after (told e entry.event (nth (commands g past))) (fence g past e)

  -- whether no finish follows the last command that the entity began
  pub busy : Group → List Entry → Entity → Bool
  busy g [] = λ e. false
  busy g (entry ∷ past) = λ e. begins (told e entry.event (nth (commands g past))) (fence g past e) || (busy g past e && not (is_finish_of e entry.event))

  -- the values of the last command that the entity began
  pub work : Group → List Entry → Entity → Vals
  work g [] = λ e. opening_of g e
  work g (entry ∷ past) = λ e. work_after (told e entry.event (nth (commands g past))) (fence g past e) (work g past e)

  -- an agent's values: those of the last failure or of the last command that was finished, or else the opening's
  pub vals : Group → List Entry → Entity → Vals
  vals g [] = λ e. opening_of g e
  vals g (entry ∷ past) = λ e. vals_after entry.event e (busy g past e) (work g past e) (vals g past e)

  -- the reports that were made, the oldest first
  pub reports : Group → List Entry → List Report
  reports g [] = []
  reports g (entry ∷ past) = reports_after entry.event (λ e. report_by e (number past e + 1) (fence g past e) (busy g past e) (vals g past e) (health g past e)) (reports g past)
