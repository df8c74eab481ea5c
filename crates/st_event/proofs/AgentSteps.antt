-- One entry moves each agent by one step.
use Rattle.std.proofs.Common.{◌≡◌, ℕ, ◌+◌, List, ◌∷◌, Option, Some, None, refl, arith}
use Rattle.std.specs.Prelude.{Bool, true, false, ◌&&◌, ◌||◌, not, nat_lt, max, if◌then◌else◌}
use Rattle.std.proofs.lemmas.Bool.Decides.{nat_tests}
use mathlib.Core.Path.{fun_ext}
use Rattle.st_net.specs.declared.entity.Entity.{Entity}
use Rattle.st_net.specs.declared.entity.Vals.{Vals}
use Rattle.st_net.specs.declared.message.Command.{Command}
use Rattle.st_event.specs.declared.event.Event.{Event}
use Rattle.st_event.specs.declared.event.Event.TheVariants.{Deliver, Finish, Report as make_report, Fail}
use Rattle.st_event.specs.declared.reply.Reply.{Reply}
use Rattle.st_event.specs.declared.journal.Entry.{Entry}
use Rattle.st_net.specs.Entities.{is_same_entity}
use Rattle.st_net.specs.Groups.{Group}
use Rattle.st_net.specs.Numbered.{nth}
use Rattle.st_event.specs.Moments.{command_of, fence_after, begins, work_after, commands, fence, busy, work, vals, health, number}
use Rattle.st_net.specs.Agents.{agent_told, agent_finished}
use Rattle.st_event.specs.Agents.{agent_from, agent_of, agent_after}

still : (vals : Vals) (health fence : ℕ) (busy : Bool) (work : Vals) (number : ℕ) → agent_from vals health fence (busy && true) work number ≡ agent_from vals health fence busy work number
still vals health fence true work number = refl
still vals health fence false work number = refl

greater : (m n : ℕ) → nat_lt m n ≡ true → max m n ≡ n
greater m n is = grind (arith, nat_tests)

not_greater : (m n : ℕ) → nat_lt m n ≡ false → max m n ≡ m
not_greater m n is = grind (arith, nat_tests)

told_by : (c : Command) (vals : Vals) (health fence : ℕ) (busy : Bool) (work : Vals) (number : ℕ) (b : Bool) → nat_lt fence c.stamp ≡ b → agent_from vals health (max fence c.stamp) (b || (busy && true)) (if b then c.vals else work) number ≡ (if b then record (agent_from vals health fence busy work number) { fence = c.stamp; work = Some c.vals } else agent_from vals health fence busy work number)
told_by c vals health fence busy work number true is = rw (greater fence c.stamp is) refl
told_by c vals health fence busy work number false is = rw (not_greater fence c.stamp is) (still vals health fence busy work number)

told_step : (o : Option Command) (vals : Vals) (health fence : ℕ) (busy : Bool) (work : Vals) (number : ℕ) → agent_from vals health (fence_after o fence) (begins o fence || (busy && true)) (work_after o fence work) number ≡ agent_told o (agent_from vals health fence busy work number)
told_step None vals health fence busy work number = still vals health fence busy work number
told_step (Some c) vals health fence busy work number = told_by c vals health fence busy work number (nat_lt fence c.stamp) refl

finish_step : (same : Bool) (vals : Vals) (health fence : ℕ) (busy : Bool) (work : Vals) (number : ℕ) → agent_from (if same && busy then work else vals) health fence (busy && not same) work number ≡ (if same then agent_finished (if busy then Some work else None) (agent_from vals health fence busy work number) else agent_from vals health fence busy work number)
finish_step true vals health fence true work number = refl
finish_step true vals health fence false work number = refl
finish_step false vals health fence true work number = refl
finish_step false vals health fence false work number = refl

report_step : (same : Bool) (vals : Vals) (health fence : ℕ) (busy : Bool) (work : Vals) (number : ℕ) → agent_from vals health fence (busy && true) work (if same then number + 1 else number) ≡ (if same then record (agent_from vals health fence busy work number) { number = number + 1 } else agent_from vals health fence busy work number)
report_step true vals health fence busy work number = still vals health fence busy work (number + 1)
report_step false vals health fence busy work number = still vals health fence busy work number

fail_step : (same : Bool) (new : Vals) (level : ℕ) (vals : Vals) (health fence : ℕ) (busy : Bool) (work : Vals) (number : ℕ) → agent_from (if same then new else vals) (if same then level else health) fence (busy && true) work number ≡ (if same then record (agent_from vals health fence busy work number) { vals = new; health = level } else agent_from vals health fence busy work number)
fail_step true new level vals health fence busy work number = still new level fence busy work number
fail_step false new level vals health fence busy work number = still vals health fence busy work number

agent_moves : (g : Group) (past : List Entry) (event : Event) (answer : Reply) (e : Entity) → agent_of g (record { event = event; reply = answer } ∷ past) e ≡ agent_after event (nth (commands g past)) e (agent_of g past e)
agent_moves g past (Deliver n) answer e = told_step (command_of e (nth (commands g past) n)) (vals g past e) (health g past e) (fence g past e) (busy g past e) (work g past e) (number past e)
agent_moves g past (Finish at) answer e = finish_step (is_same_entity at e) (vals g past e) (health g past e) (fence g past e) (busy g past e) (work g past e) (number past e)
agent_moves g past (make_report at) answer e = report_step (is_same_entity at e) (vals g past e) (health g past e) (fence g past e) (busy g past e) (work g past e) (number past e)
agent_moves g past (Fail at new level) answer e = fail_step (is_same_entity at e) new level (vals g past e) (health g past e) (fence g past e) (busy g past e) (work g past e) (number past e)
agent_moves g past _ answer e = still (vals g past e) (health g past e) (fence g past e) (busy g past e) (work g past e) (number past e)

-- the agent of each entity moves so
pub agent_of-next : (g : Group) (past : List Entry) (entry : Entry) → agent_of g (entry ∷ past) ≡ (λ e. agent_after entry.event (nth (commands g past)) e (agent_of g past e))
agent_of-next g past entry = fun_ext (agent_moves g past entry.event entry.reply)
