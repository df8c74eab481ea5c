-- One entry more keeps a world consistent. `items` is the journal as the code keeps it, the oldest entry first.
use Rattle.std.proofs.Common.{◌≡◌, ℕ, ◌+◌, ◌-◌, ◌<◌, ◌^◌, ◌≤◌, List, [], ◌∷◌, ◌++◌, length, take, drop, Option, Some, refl, ap, sym, ◌∙◌, subst, arith, length-append}
use Rattle.std.specs.Prelude.{Bool, true, false, if◌then◌else◌, reverse, IfSome}
use Rattle.std.proofs.lemmas.List.{reverse-append, reverse-reverse, length-reverse, take_all}
use Rattle.std.proofs.Math.Seq.{drop-append_seam}
use Rattle.st_net.specs.declared.entity.Entity.{Entity}
use Rattle.st_net.specs.declared.message.Command.{Command}
use Rattle.st_net.specs.declared.message.Report.{Report}
use Rattle.st_net.specs.Groups.{Group, IsSound}
use Rattle.st_net.specs.Merge.{vals_in}
use Rattle.st_net.specs.Agents.{Agent}
use Rattle.st_agent.specs.State.{AgentState}
use Rattle.st_event.specs.declared.event.Event.{Event}
use Rattle.st_event.specs.declared.event.Event.TheVariants.{Submit, Send, Report as make_report}
use Rattle.st_event.specs.declared.event.Proposal.{Proposal}
use Rattle.st_event.specs.declared.reply.Reply.{Reply}
use Rattle.st_event.specs.declared.reply.Reply.TheVariants.{Queued, Sent}
use Rattle.st_event.specs.declared.journal.Entry.{Entry}
use Rattle.st_event.specs.declared.journal.TheConstants.{MAX_ENTRIES}
use Rattle.st_event.specs.Agents.{agent_of}
use Rattle.st_event.specs.Facts.{AgentsAgree}
use Rattle.st_event.specs.History.{History}
use Rattle.st_event.specs.Legal.{Fits, IsLegal, IsNext, AtEach}
use Rattle.st_event.specs.Moments.{stamp, commands, commands_after, reports, reports_after, number, is_report_of}
use Rattle.st_event.specs.Network.{KeepsPromises}
use Rattle.st_event.specs.Proposals.{proposals, proposals_after, target, version}
use Rattle.st_event.specs.Replies.{reply as reply_to}
use Rattle.st_event.specs.Standing.{Standing, Wires, standing_of, wires_of, standing_after, wires_after, reply_in}
use Rattle.st_event.specs.Versions.{value_at, versions_after}
use Rattle.st_event.proofs.Accepting.{legal_within}
use Rattle.st_event.proofs.Agreement.{agree_throughout}
use Rattle.st_event.proofs.Made.{report_now}
use Rattle.st_event.proofs.Promises.{keeps_throughout}
use Rattle.st_event.proofs.Standings.{standing_of-next, wires_of-next, reply_is}
use Rattle.st_event.proofs.Versions.{value_at-next, versions_few}
use Rattle.st_control.specs.Control.{standing_in, versions_in}
use Rattle.st_world.specs.Plant.{agent_in}
use Rattle.st_world.specs.Machine.{MachineView, wires_in, IsOpening, IsBelow, Answers}
use Rattle.st_world.specs.World.{Agrees, Steps}
use Rattle.st_world.specs.declared.world.Stepped.TheVariants.{Did}

-- the state of an entity's agent
abbrev own_state : Entity → Agent → AgentState
own_state e a = record { entity = e; agent = a }

-- a history with these entries
abbrev pub history_of : Group → List Entry → History
history_of g past = record { group = g; past = past }

-- at most one ticket, one command and one report an entry
one_ticket : (event : Event) (answer : Reply) (before : List Proposal) → length (proposals_after event answer before) ≤ length before + 1
one_ticket (Submit app rows) (Queued ticket) before = rw length-append (omega arith)
one_ticket (Submit app rows) _ before = omega arith
one_ticket _ answer before = omega arith

one_command : (event : Event) (answer : Reply) (command : Entity → Command) (before : List Command) → length (commands_after event answer command before) ≤ length before + 1
one_command (Send e) (Sent n) command before = rw length-append (omega arith)
one_command (Send e) _ command before = omega arith
one_command _ answer command before = omega arith

one_report : (event : Event) (report : Entity → Report) (before : List Report) → length (reports_after event report before) ≤ length before + 1
one_report (make_report e) report before = rw length-append (omega arith)
one_report _ report before = omega arith

pub few_tickets : (past : List Entry) → length (proposals past) ≤ length past
few_tickets [] = omega arith
few_tickets (entry ∷ past) = omega (arith, one_ticket entry.event entry.reply (proposals past), few_tickets past)

pub few_commands : (g : Group) (past : List Entry) → length (commands g past) ≤ length past
few_commands g [] = omega arith
few_commands g (entry ∷ past) = omega (arith, one_command entry.event entry.reply (λ e. record { entity = e; stamp = stamp g past e; vals = vals_in g (target g past) e }) (commands g past), few_commands g past)

pub few_reports : (g : Group) (past : List Entry) → length (reports g past) ≤ length past
few_reports g [] = omega arith
few_reports g (entry ∷ past) = omega (arith, one_report entry.event (report_now g past) (reports g past), few_reports g past)

one_number : (counts : Bool) (n : ℕ) → (if counts then n + 1 else n) ≤ n + 1
one_number true n = omega arith
one_number false n = omega arith

pub low_numbers : (past : List Entry) (e : Entity) → number past e ≤ length past
low_numbers [] e = omega arith
low_numbers (entry ∷ past) e = omega (arith, one_number (is_report_of e entry.event) (number past e), low_numbers past e)

-- fewer of everything than the number of the entry to come
pub below_next : (m : MachineView) (items : List Entry) → Agrees m items → IsBelow (length items + 1) m
below_next m items agrees =
    let past = reverse items in
    let same = length-reverse items in
    let g = m.checker.group in
    let tickets : m.checker.store.tickets ≡ length (proposals past) = ap (λ (s : Standing). s.tickets) agrees.standing in
    let last : m.checker.store.version ≡ version past = ap (λ (s : Standing). s.version) agrees.standing in
    let sent : length m.messages.commands ≡ length (commands g past) = ap (λ (w : Wires). length w.commands) agrees.wires in
    let made : length m.messages.reports ≡ length (reports g past) = ap (λ (w : Wires). length w.reports) agrees.wires in
    record {
      tickets = omega (arith, tickets, same, few_tickets past);
      versions = omega (arith, last, same, versions_few past);
      commands = omega (arith, sent, same, few_commands g past);
      reports = omega (arith, made, same, few_reports g past);
      numbers = λ e. let counted : (agent_in g m.agents e).number ≡ number past e = ap (λ (w : Wires). (w.agent e).number) agrees.wires in omega (arith, counted, same, low_numbers past e);
    }

-- the number of the next entry, and that a journal may have so many
next_number : (items : List Entry) (next : Option ℕ) (n : ℕ) → next ≡ Some n → IfSome next (λ k. k ≡ length items + 1) → n ≡ length items + 1
next_number items next n is number = subst (λ (o : Option ℕ). IfSome o (λ k. k ≡ length items + 1)) is number

next_fits : (next : Option ℕ) (n : ℕ) → next ≡ Some n → IfSome next (λ k. k ≤ MAX_ENTRIES) → n ≤ MAX_ENTRIES
next_fits next n is few = subst (λ (o : Option ℕ). IfSome o (λ k. k ≤ MAX_ENTRIES)) is few

-- of all that is counted there are fewer than the number of the next entry
pub below_number : (m : MachineView) (items : List Entry) (next : Option ℕ) (n : ℕ) → Agrees m items → next ≡ Some n → IfSome next (λ k. k ≡ length items + 1) → IsBelow n m
below_number m items next n agrees is number = subst (λ (k : ℕ). IsBelow k m) (sym (next_number items next n is number)) (below_next m items agrees)

-- there is room for one version more
pub version_fits : (m : MachineView) (items : List Entry) (next : Option ℕ) (n : ℕ) → Agrees m items → next ≡ Some n → IfSome next (λ k. k ≡ length items + 1) → IfSome next (λ k. k ≤ MAX_ENTRIES) → m.checker.store.version + 1 < 2 ^ 32
version_fits m items next n agrees is number few = let below = below_number m items next n agrees is number in omega (arith, below.versions, next_fits next n is few)

-- what is answered under the number of the next entry is answered as the next entry, for which there is room
pub answered_next : (m l : MachineView) (items : List Entry) (next : Option ℕ) (n : ℕ) (event : Event) (answer : Reply) → next ≡ Some n → IfSome next (λ k. k ≡ length items + 1) → IfSome next (λ k. k ≤ MAX_ENTRIES) → Answers m l n event answer → (length items < MAX_ENTRIES) × Answers m l (length items + 1) event answer
answered_next m l items next n event answer is number few moves =
    let at = next_number items next n is number in
    let fits = next_fits next n is few in
    (omega (arith, at, fits), subst (λ (k : ℕ). Answers m l k event answer) at moves)

-- a world at its opening has the empty journal
pub agrees_start : (g : Group) (m : MachineView) (items : List Entry) → IsOpening g m → items ≡ [] → Agrees m items
agrees_start g m items start none = record {
  legal = rw none tt;
  standing = rw none (subst (λ (h : Group). standing_in m.checker ≡ standing_of h []) (sym start.group) start.standing);
  wires = rw none (subst (λ (h : Group). wires_in m ≡ wires_of h []) (sym start.group) start.wires);
  versions = rw none (subst (λ (h : Group). versions_in m.checker ≡ value_at h []) (sym start.group) start.versions);
}

-- the entry that was pushed is the newest
reverse_push : (items more : List Entry) (event : Event) (answer : Reply) → more ≡ items ++ record { event = event; reply = answer } ∷ [] → reverse more ≡ record { event = event; reply = answer } ∷ reverse items
reverse_push items more event answer pushed = rw pushed (reverse-append items (record { event = event; reply = answer } ∷ []))

answers : (m l : MachineView) (items : List Entry) (event : Event) (answer : Reply) → Agrees m items → Answers m l (length items + 1) event answer → answer ≡ reply_to m.checker.group (reverse items) event
answers m l items event answer agrees moves =
    moves.answer
    ∙ ap (λ (s : Standing). reply_in m.checker.group s (wires_in m) (length items + 1) event) agrees.standing
    ∙ ap (λ (w : Wires). reply_in m.checker.group (standing_of m.checker.group (reverse items)) w (length items + 1) event) agrees.wires
    ∙ ap (λ (n : ℕ). reply_in m.checker.group (standing_of m.checker.group (reverse items)) (wires_of m.checker.group (reverse items)) (n + 1) event) (sym (length-reverse items))
    ∙ sym (reply_is m.checker.group (reverse items) event)

next_entry : (m l : MachineView) (items : List Entry) (event : Event) (answer : Reply) → Agrees m items → length items < MAX_ENTRIES → Fits m.checker.group event → Answers m l (length items + 1) event answer → IsNext m.checker.group (reverse items) (record { event = event; reply = answer })
next_entry m l items event answer agrees room fits moves = record {
  room = rw length-reverse room;
  fits = fits;
  answer = answers m l items event answer agrees moves;
}

pub agrees_next : (m l : MachineView) (items more : List Entry) (event : Event) (answer : Reply) → Agrees m items → length items < MAX_ENTRIES → Fits m.checker.group event → Answers m l (length items + 1) event answer → more ≡ items ++ record { event = event; reply = answer } ∷ [] → Agrees l more
agrees_next m l items more event answer agrees room fits moves pushed =
    let g = m.checker.group in
    let past = reverse items in
    let entry : Entry = record { event = event; reply = answer } in
    let next = next_entry m l items event answer agrees room fits moves in
    let turned = reverse_push items more event answer pushed in
    let stands : standing_in l.checker ≡ standing_of g (entry ∷ past) =
    moves.standing
    ∙ ap (λ (s : Standing). standing_after g s (wires_in m) (length items + 1) event answer) agrees.standing
    ∙ ap (λ (w : Wires). standing_after g (standing_of g past) w (length items + 1) event answer) agrees.wires
    ∙ ap (λ (n : ℕ). standing_after g (standing_of g past) (wires_of g past) (n + 1) event answer) (sym (length-reverse items))
    ∙ sym (standing_of-next g past entry agrees.legal next) in
    let wired : wires_in l ≡ wires_of g (entry ∷ past) =
    moves.wires
    ∙ ap (λ (s : Standing). wires_after g s (wires_in m) event answer) agrees.standing
    ∙ ap (λ (w : Wires). wires_after g (standing_of g past) w event answer) agrees.wires
    ∙ sym (wires_of-next g past entry) in
    let values : versions_in l.checker ≡ value_at g (entry ∷ past) =
    moves.versions
    ∙ ap (λ (s : Standing). versions_after s event answer (versions_in m.checker)) agrees.standing
    ∙ ap (versions_after (standing_of g past) event answer) agrees.versions
    ∙ sym (value_at-next g past entry) in
    record {
      legal = rw turned (subst (λ (h : Group). IsNext h past entry × IsLegal h past) (sym moves.group) (next, agrees.legal));
      standing = rw turned (subst (λ (h : Group). standing_in l.checker ≡ standing_of h (entry ∷ past)) (sym moves.group) stands);
      wires = rw turned (subst (λ (h : Group). wires_in l ≡ wires_of h (entry ∷ past)) (sym moves.group) wired);
      versions = rw turned (subst (λ (h : Group). versions_in l.checker ≡ value_at h (entry ∷ past)) (sym moves.group) values);
    }

-- an event is entered with the reply that is called for
pub enters : (m l : MachineView) (items more : List Entry) (event : Event) (answer : Reply) → Agrees m items → length items < MAX_ENTRIES → Fits m.checker.group event → Answers m l (length items + 1) event answer → more ≡ items ++ record { event = event; reply = answer } ∷ [] → Steps (history_of m.checker.group (reverse items)) (history_of l.checker.group (reverse more)) event (Did answer)
enters m l items more event answer agrees room fits moves pushed = (next_entry m l items event answer agrees room fits moves, rw (moves.group, reverse_push items more event answer pushed) refl)

-- promises are kept throughout, and agents agree throughout
pub kept : (m : MachineView) (items : List Entry) → IsSound m.checker.group → Agrees m items → AtEach (KeepsPromises m.checker.group) (reverse items)
kept m items sound agrees = keeps_throughout m.checker.group (reverse items) sound agrees.legal

pub agree : (m : MachineView) (items : List Entry) → Agrees m items → AtEach (AgentsAgree m.checker.group) (reverse items)
agree m items agrees = agree_throughout m.checker.group (reverse items) agrees.legal

-- a journal has no more entries than it may have
pub few_items : (g : Group) (items : List Entry) → IsLegal g (reverse items) → length items ≤ MAX_ENTRIES
few_items g items legal = omega (arith, legal_within g (reverse items) legal, length-reverse items)

-- a journal that has as many entries as it may have is full
pub is_full : (m : MachineView) (items : List Entry) → Agrees m items → MAX_ENTRIES ≤ length items → length (reverse items) ≡ MAX_ENTRIES
is_full m items agrees many = omega (arith, few_items m.checker.group items agrees.legal, many, length-reverse items)

-- the agent that is found for an entity is that of the journal
pub agent_is : (m : MachineView) (items : List Entry) (e : Entity) (g : Group) (agents : List AgentState) (found : AgentState) → Agrees m items → g ≡ m.checker.group → agents ≡ m.agents → found ≡ record { entity = e; agent = agent_in g agents e } → found ≡ record { entity = e; agent = agent_of m.checker.group (reverse items) e }
agent_is m items e g agents found agrees group same is =
    is
    ∙ ap (λ (h : Group). own_state e (agent_in h agents e)) group
    ∙ ap (λ (xs : List AgentState). own_state e (agent_in m.checker.group xs e)) same
    ∙ ap (λ (w : Wires). own_state e (w.agent e)) agrees.wires

-- the entries behind the first so many are those that were made since
pub since_is : (items before more : List Entry) (from : ℕ) → reverse items ≡ more ++ before → length before ≡ from → take (length items - from) (drop from items) ≡ reverse more
since_is items before more from is count =
    let whole : items ≡ reverse before ++ reverse more = sym (reverse-reverse items) ∙ (ap reverse is ∙ reverse-append more before) in
    let start : length (reverse before) ≡ from = length-reverse before ∙ count in
    let rest : drop from items ≡ reverse more = ap (λ (n : ℕ). drop n items) (sym start) ∙ (ap (drop (length (reverse before))) whole ∙ drop-append_seam (reverse before) (reverse more)) in
    let left : length items - from ≡ length (reverse more) = omega (arith, ap length whole, length-append (reverse before) (reverse more), start) in
    ap (take (length items - from)) rest ∙ take_all (length items - from) (reverse more) (omega (arith, left))
