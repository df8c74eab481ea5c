-- What each kind of event does to a group's machine, by what the checker, the agents and the messages say of their calls.
use Rattle.std.proofs.Common.{◌≡◌, ℕ, ◌+◌, List, [], length, All, Some, None, refl, sym, ap, subst, ◌∙◌}
use Rattle.std.specs.Prelude.{Bool, true, false, ◌==◌, nat_lt, pred, slice_get, Option, if◌then◌else◌}
use Rattle.std.proofs.lemmas.List.Elements.{All-get_or, All-push}
use Rattle.std.proofs.lemmas.Option.{slice_get_within, get_or_from_slice_get}
use mathlib.Core.Path.{fun_ext}
use Rattle.st_net.specs.declared.entity.Entity.{Entity}
use Rattle.st_net.specs.declared.entity.Row.{Row}
use Rattle.st_net.specs.declared.entity.Vals.{Vals}
use Rattle.st_net.specs.declared.message.Command.{Command}
use Rattle.st_net.specs.declared.message.Report.{Report}
use Rattle.st_net.specs.Agents.{Agent, agent_told, agent_finished, agent_failed, agent_counted, agent_report, is_at_work}
use Rattle.st_net.specs.Entities.{is_same_entity}
use Rattle.st_net.specs.Groups.{Group, IsEntityOf}
use Rattle.st_net.specs.Numbered.{nth}
use Rattle.st_event.specs.declared.event.Event.{Event}
use Rattle.st_event.specs.declared.event.Event.TheVariants.{Send, Deliver, Finish as finish_event, Report as report_event, Hear, Fail}
use Rattle.st_event.specs.declared.reply.Reply.{Reply}
use Rattle.st_event.specs.declared.reply.Reply.TheVariants.{Sent, Settled as settled_reply, Blocked as blocked_reply, Begun as begun_reply, Stale as stale_reply, Done as done_reply, NotBusy as not_busy, Reported, Changed}
use Rattle.st_event.specs.Standing.{wires_after}
use Rattle.st_agent.specs.State.{AgentState, delivery_of, finish_of}
use Rattle.st_agent.specs.declared.agent.Delivery.{Delivery}
use Rattle.st_agent.specs.declared.agent.Delivery.TheVariants.{Begun, Stale}
use Rattle.st_agent.specs.declared.agent.Finish.{Finish}
use Rattle.st_agent.specs.declared.agent.Finish.TheVariants.{Done, NotBusy}
use Rattle.st_wire.specs.Messages.{Messages, HasCommand, HasReport, HasSameMessages, took_of, took_or}
use Rattle.st_wire.specs.declared.wire.Took.TheVariants.{Got}
use Rattle.st_store.specs.declared.reports.Keep.{Keep}
use Rattle.st_control.specs.declared.send.SendStep.TheVariants.{Command as step_command, Settled, Blocked}
use Rattle.st_control.specs.Control.{ControlView, standing_in, IsStart, Moves, Sends, Hears, reply_of_keep}
use Rattle.st_world.specs.Plant.{IsPlantOf, agent_in, agent_set, opening_agent}
use Rattle.st_world.specs.Machine.{MachineView, IsMachine, IsOpening, Answers, wires_in}

-- a checker with these agents and these messages
abbrev pub machine_of : ControlView → List AgentState → Messages → MachineView
machine_of k agents messages = record { checker = k; agents = agents; messages = messages }

-- the message that is found by a number is the one of that number
pub got_is : {M : Type 0} → (xs : List M) (n : ℕ) (x : M) → took_of xs n ≡ Got x → nth xs n ≡ Some x
got_is {M} xs n x is = by_item (nth xs n) is
  where
    by_item : (o : Option M) → took_or (length xs) o ≡ Got x → o ≡ Some x
    by_item None got = cc
    by_item (Some y) got = cc

-- what holds of all items holds of one that is found
all_found : {X : Type 0} → (P : X → Type 0) (xs : List X) (i : ℕ) (x : X) → All P xs → slice_get xs i ≡ Some x → P x
all_found P xs i x all is = subst P (get_or_from_slice_get xs i x x is) (All-get_or P xs i x (slice_get_within xs i x is) all)

-- what holds of all items holds of the item of a number
pub all_nth : {X : Type 0} → (P : X → Type 0) (xs : List X) (n : ℕ) (x : X) → All P xs → nth xs n ≡ Some x → P x
all_nth P xs n x all is = by_zero (n == 0) is
  where
    by_zero : (b : Bool) → (if b then None else slice_get xs (pred n)) ≡ Some x → P x
    by_zero true none = cc
    by_zero false found = all_found P xs (pred n) x all found

-- the agents and the messages are of the checker's group, which stays
pub same_group : (k new : ControlView) (agents : List AgentState) (messages : Messages) → new.group ≡ k.group → IsMachine (machine_of k agents messages) → IsMachine (machine_of new agents messages)
same_group k new agents messages same is = record {
  plant = subst (λ (g : Group). IsPlantOf g agents) (sym same) is.plant;
  commands = subst (λ (g : Group). All (λ (c : Command). IsEntityOf g c.entity) messages.commands) (sym same) is.commands;
  reports = subst (λ (g : Group). All (λ (r : Report). IsEntityOf g r.entity) messages.reports) (sym same) is.reports;
}

-- an event at which the network stays is the checker's alone
pub checker_answers : (k new : ControlView) (agents : List AgentState) (messages : Messages) (n : ℕ) (event : Event) (reply : Reply) → wires_after k.group (standing_in k) (wires_in (machine_of k agents messages)) event reply ≡ wires_in (machine_of k agents messages) → Moves k new n event reply → Answers (machine_of k agents messages) (machine_of new agents messages) n event reply
checker_answers k new agents messages n event reply stays moves = record {
  answer = moves.reply (wires_in (machine_of k agents messages));
  standing = moves.standing (wires_in (machine_of k agents messages));
  wires = ap (λ (g : Group). wires_in (machine_of (record k { group = g }) agents messages)) moves.group ∙ sym stays;
  group = moves.group;
  versions = moves.versions;
}

-- a command is sent
pub send_answers : (k : ControlView) (agents : List AgentState) (messages new : Messages) (n : ℕ) (e : Entity) (command : Command) (number : ℕ) → Sends k e (step_command command) → number ≡ length messages.commands + 1 → HasCommand messages new command → Answers (machine_of k agents messages) (machine_of k agents new) n (Send e) (Sent number)
send_answers k agents messages new n e command number sends numbered has = record {
  answer = ap Sent numbered ∙ sends.reply (wires_in (machine_of k agents messages)) n;
  standing = refl;
  wires = rw (has.commands, has.reports, sends.command command refl) refl;
  group = refl;
  versions = refl;
}

-- a command that is sent is one of the entity that it is sent to
pub send_machine : (k : ControlView) (agents : List AgentState) (messages new : Messages) (e : Entity) (command : Command) → IsEntityOf k.group e → Sends k e (step_command command) → HasCommand messages new command → IsMachine (machine_of k agents messages) → IsMachine (machine_of k agents new)
send_machine k agents messages new e command here sends has is = record {
  plant = is.plant;
  commands = rw has.commands (All-push (λ (c : Command). IsEntityOf k.group c.entity) messages.commands command is.commands (rw (sends.command command refl) here));
  reports = rw has.reports is.reports;
}

-- nothing is sent: the entity is settled
pub settled_answers : (k : ControlView) (agents : List AgentState) (messages : Messages) (n : ℕ) (e : Entity) → Sends k e Settled → Answers (machine_of k agents messages) (machine_of k agents messages) n (Send e) settled_reply
settled_answers k agents messages n e sends = record {
  answer = sends.reply (wires_in (machine_of k agents messages)) n;
  standing = refl;
  wires = refl;
  group = refl;
  versions = refl;
}

-- nothing is sent: a row of the target can't be set now
pub blocked_answers : (k : ControlView) (agents : List AgentState) (messages : Messages) (n : ℕ) (e : Entity) (row : Row) → Sends k e (Blocked row) → Answers (machine_of k agents messages) (machine_of k agents messages) n (Send e) (blocked_reply row)
blocked_answers k agents messages n e row sends = record {
  answer = sends.reply (wires_in (machine_of k agents messages)) n;
  standing = refl;
  wires = refl;
  group = refl;
  versions = refl;
}

-- an agent's answer to a command as a reply
abbrev pub reply_of_delivery : Delivery → Reply
reply_of_delivery Begun = begun_reply
reply_of_delivery (Stale fence) = stale_reply fence

-- the answer by a test is the reply by that test
delivery_reply : (b : Bool) (fence : ℕ) → reply_of_delivery (if b then Begun else Stale fence) ≡ (if b then begun_reply else stale_reply fence)
delivery_reply true fence = refl
delivery_reply false fence = refl

-- a command reaches its own entity's agent, and no other
told_one : (b : Bool) (c : Command) (a : Agent) → (if b then agent_told (Some c) a else a) ≡ agent_told (if b then Some c else None) a
told_one true c a = refl
told_one false c a = refl

-- a command arrives
pub deliver_answers : (k : ControlView) (g : Group) (agents new : List AgentState) (messages : Messages) (n number : ℕ) (c : Command) (delivery : Delivery) → g ≡ k.group → nth messages.commands number ≡ Some c → delivery ≡ delivery_of (agent_in g agents c.entity) c → agent_in g new ≡ agent_set (agent_in g agents) c.entity (agent_told (Some c)) → Answers (machine_of k agents messages) (machine_of k new messages) n (Deliver number) (reply_of_delivery delivery)
deliver_answers k g agents new messages n number c delivery same is answers set = record {
  answer = rw (← same, is) (ap reply_of_delivery answers ∙ delivery_reply (nat_lt (agent_in g agents c.entity).fence c.stamp) (agent_in g agents c.entity).fence);
  standing = refl;
  wires = rw (← same, is) (ap (λ (agent : Entity → Agent). record { commands = messages.commands; reports = messages.reports; agent = agent }) (set ∙ fun_ext (λ e. told_one (is_same_entity c.entity e) c (agent_in g agents e))));
  group = refl;
  versions = refl;
}

-- an agent's answer to a finish as a reply
abbrev pub reply_of_finish : Finish → Reply
reply_of_finish Done = done_reply
reply_of_finish NotBusy = not_busy

-- likewise
finish_reply : (b : Bool) → reply_of_finish (if b then Done else NotBusy) ≡ (if b then done_reply else not_busy)
finish_reply true = refl
finish_reply false = refl

-- a command in work is carried out
pub finish_answers : (k : ControlView) (g : Group) (agents new : List AgentState) (messages : Messages) (n : ℕ) (e : Entity) (finish : Finish) → g ≡ k.group → finish ≡ finish_of (agent_in g agents e) → agent_in g new ≡ agent_set (agent_in g agents) e (λ a. agent_finished a.work a) → Answers (machine_of k agents messages) (machine_of k new messages) n (finish_event e) (reply_of_finish finish)
finish_answers k g agents new messages n e finish same answers set = record {
  answer = rw (← same) (ap reply_of_finish answers ∙ finish_reply (is_at_work (agent_in g agents e).work));
  standing = refl;
  wires = rw (← same) (ap (λ (agent : Entity → Agent). record { commands = messages.commands; reports = messages.reports; agent = agent }) set);
  group = refl;
  versions = refl;
}

-- a report is made
pub report_answers : (k : ControlView) (g : Group) (agents new : List AgentState) (messages room more : Messages) (n : ℕ) (e : Entity) (report : Report) (number : ℕ) → g ≡ k.group → HasSameMessages messages room → report ≡ agent_report e (agent_in g agents e) → agent_in g new ≡ agent_set (agent_in g agents) e agent_counted → number ≡ length room.reports + 1 → HasReport room more report → Answers (machine_of k agents messages) (machine_of k new more) n (report_event e) (Reported number)
report_answers k g agents new messages room more n e report number of same makes set numbered has = record {
  answer = ap Reported (numbered ∙ ap (λ (rs : List Report). length rs + 1) same.reports);
  standing = refl;
  wires = rw (← of, has.commands, has.reports, same.commands, same.reports, makes, set) refl;
  group = refl;
  versions = refl;
}

-- an entity changes of itself
pub fail_answers : (k : ControlView) (g : Group) (agents new : List AgentState) (messages : Messages) (n : ℕ) (e : Entity) (vals : Vals) (health : ℕ) → g ≡ k.group → agent_in g new ≡ agent_set (agent_in g agents) e (agent_failed vals health) → Answers (machine_of k agents messages) (machine_of k new messages) n (Fail e vals health) Changed
fail_answers k g agents new messages n e vals health same set = record {
  answer = refl;
  standing = refl;
  wires = rw (← same) (ap (λ (agent : Entity → Agent). record { commands = messages.commands; reports = messages.reports; agent = agent }) set);
  group = refl;
  versions = refl;
}

-- a report is heard
pub hear_answers : (k new : ControlView) (agents : List AgentState) (messages : Messages) (n number : ℕ) (report : Report) (keep : Keep) → nth messages.reports number ≡ Some report → Hears k new n report keep → Answers (machine_of k agents messages) (machine_of new agents messages) n (Hear number) (reply_of_keep keep)
hear_answers k new agents messages n number report keep is hears = record {
  answer = rw is (hears.reply (length messages.reports));
  standing = rw is hears.standing;
  wires = ap (λ (g : Group). wires_in (machine_of (record k { group = g }) agents messages)) hears.group;
  group = hears.group;
  versions = hears.versions;
}

-- a checker at its start, agents that were told nothing and no message are the machine of the opening
pub opens : (g : Group) (k : ControlView) (agents : List AgentState) (messages : Messages) → IsStart g k → agent_in g agents ≡ opening_agent g → messages.commands ≡ [] → messages.reports ≡ [] → IsOpening g (machine_of k agents messages)
opens g k agents messages start opening commands reports = record {
  group = start.group;
  standing = start.standing;
  wires = rw (start.group, commands, reports, opening) refl;
  versions = start.versions;
}
