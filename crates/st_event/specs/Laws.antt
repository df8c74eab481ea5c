-- Laws of legal journals, and of one entry more.
use Rattle.std.specs.Prelude.{◌≡◌, ◌≢◌, ℕ, ◌+◌, ◌<◌, ◌≤◌, true, false, Bool, None, Some, is_some, List, [], ◌∷◌, ◌++◌, length, ◌⊎◌, ◌↔◌, All}
use mathlib.Core.List.{IsPrefix}
use Rattle.st_net.specs.declared.entity.AppId.{AppId}
use Rattle.st_net.specs.declared.entity.Entity.{Entity}
use Rattle.st_net.specs.declared.entity.Prio.{Prio}
use Rattle.st_net.specs.declared.entity.Vals.{Vals}
use Rattle.st_net.specs.declared.entity.Var.{Var}
use Rattle.st_net.specs.declared.message.Command.{Command}
use Rattle.st_net.specs.declared.message.Report.{Report}
use Rattle.st_event.specs.declared.event.Event.{Event}
use Rattle.st_event.specs.declared.event.Proposal.{Proposal}
use Rattle.st_event.specs.declared.event.Event.TheVariants.{Check, Deliver, Hear, Withdraw}
use Rattle.st_event.specs.declared.reply.Reply.TheVariants.{NoSuch, Kept}
use Rattle.st_event.specs.declared.journal.Entry.{Entry}
use Rattle.st_event.specs.declared.journal.TheConstants.{MAX_PENDING}
use Rattle.st_net.specs.declared.entity.Row.{Row}
use Rattle.st_net.specs.Entities.{value_of, is_same_entity, is_var_of}
use Rattle.st_net.specs.declared.topo.LinkOpening.{LinkOpening}
use Rattle.st_net.specs.declared.promise.Promise.{Promise}
use Rattle.st_net.specs.Groups.{Group, IsSound, IsEntityOf, AreLinks, opening_of}
use Rattle.st_net.specs.Merge.{merge_of, vals_in}
use Rattle.st_net.specs.Numbered.{nth}
use Rattle.st_net.specs.Ranges.{RowFits, are_in_range}
use Rattle.st_net.specs.Sets.{IsWithin}
use Rattle.st_net.specs.UpGraph.{IsWalk}
use Rattle.st_net.specs.Cuts.{IsCut, cut_value, least_cut, is_in_least_side}
use Rattle.st_net.specs.Promises.{Keeps}
use Rattle.st_net.specs.Demands.{demand_count, HoldsIn, is_held_in}
use Rattle.st_event.specs.Proposals.{accepted, deciders, pending, proposals, first_rows, is_acceptance, overlay_in, overlays, withdrawn, version, target}
use Rattle.st_event.specs.Overlaid.{overlaid_by}
use Rattle.st_event.specs.Moments.{stamp, fence, work, vals, commands, reports}
use Rattle.st_net.specs.Reports.{opening_report}
use Rattle.st_event.specs.Observed.{observed, sure}
use Rattle.st_event.specs.Receipts.{rows_withdrawn}
use Rattle.st_event.specs.Judge.{lack_at}
use Rattle.st_event.specs.Replies.{governing, reply}
use Rattle.st_event.specs.Legal.{IsLegal, IsNext, AtEach}
use Rattle.st_event.specs.Network.{KeepsPromises}
use Rattle.st_event.specs.Facts.{AgentsAgree}
use Rattle.st_event.specs.Agents.{agent_of, agent_after}
use Rattle.st_event.specs.Heard.{WasHeard, WasTold}
use Rattle.st_event.specs.Locks.{holder}
use Rattle.st_event.specs.Grants.{IsLastGrant}
use Rattle.st_event.specs.Services.{GroupEvent, journal_by, journals_by, events_of}
use Rattle.st_event.specs.Standing.{standing_of, wires_of, standing_after, wires_after, reply_in}

-- a legal journal keeps its group's demands, and did so at each moment
abbrev pub LegalJournalsKeepPromises : Type 0
LegalJournalsKeepPromises = (g : Group) (past : List Entry) → IsSound g → IsLegal g past → AtEach (KeepsPromises g) past

-- a check takes no demand from the sure set
abbrev pub ChecksTakeNoPromise : Type 0
ChecksTakeNoPromise = (g : Group) (past : List Entry) (entry : Entry) (i : ℕ) → entry.event ≡ Check → IsSound g → IsLegal g past → IsNext g past entry → i < demand_count g → HoldsIn g (sure g past) i → HoldsIn g (sure g (entry ∷ past)) i

-- commands, reports and agents agree with the target, at each moment of a legal journal
abbrev pub LegalAgentsAgree : Type 0
LegalAgentsAgree = (g : Group) (past : List Entry) → IsLegal g past → AtEach (AgentsAgree g) past

-- an agent's fence never falls
abbrev pub FencesNeverFall : Type 0
FencesNeverFall = (g : Group) (past : List Entry) (entry : Entry) (e : Entity) → fence g past e ≤ fence g (entry ∷ past) e

-- an entity's stamp never falls
abbrev pub StampsNeverFall : Type 0
StampsNeverFall = (g : Group) (past : List Entry) (entry : Entry) (e : Entity) → stamp g past e ≤ stamp g (entry ∷ past) e

-- a stamp is the number of an entry that there is, or 0
abbrev pub StampsAreEntries : Type 0
StampsAreEntries = (g : Group) (past : List Entry) (e : Entity) → stamp g past e ≤ length past

-- the target of no entry is the opening
abbrev pub TargetOpens : Type 0
TargetOpens = (g : Group) (e : Entity) (v : Var) → target g [] e v ≡ value_of e (opening_of g e) v

-- an acceptance adds the oldest pending proposal's rows to what was accepted; another entry leaves the list
pub record MovesAccepted (past : List Entry) (entry : Entry) : Type 0 where
  pub listed : is_acceptance entry.event entry.reply ≡ true → accepted (entry ∷ past) ≡ accepted past ++ first_rows (pending past) ∷ []
  pub same_list : is_acceptance entry.event entry.reply ≡ false → accepted (entry ∷ past) ≡ accepted past

abbrev pub AcceptedMoves : Type 0
AcceptedMoves = (g : Group) (past : List Entry) (entry : Entry) → IsLegal g past → IsNext g past entry → MovesAccepted past entry

-- what an entry overlays, the target is overlaid with, in any journal
abbrev pub OverlaysMove : Type 0
OverlaysMove = (g : Group) (past : List Entry) (entry : Entry) → target g (entry ∷ past) ≡ overlaid_by (overlay_in entry.event entry.reply (first_rows (pending past))) (target g past)

-- a list begins with an item, and behind it is as told
pub record BeginsWith (list : List (List Row)) (rows : List Row) (rest : List (List Row) → Type 0) : Type 0 where
  pub behind : List (List Row)
  pub begins : list ≡ rows ∷ behind
  pub rest_is : rest behind

-- the items of a list are those of two others, each of these in its order
abbrev pub IsMixOf : List (List Row) → List (List Row) → List (List Row) → Type 0
IsMixOf [] ones others = (ones ≡ []) × (others ≡ [])
IsMixOf (rows ∷ mixed) ones others = BeginsWith ones rows (λ behind. IsMixOf mixed behind others) ⊎ BeginsWith others rows (λ behind. IsMixOf mixed ones behind)

-- the overlays are the rows of the accepted proposals and those of the withdrawals, mixed; so the version is how many there are of both,
-- and without a withdrawal the overlays are the accepted rows
pub record OverlaysListed (g : Group) (past : List Entry) : Type 0 where
  pub mixed : IsMixOf (overlays past) (accepted past) (withdrawn past)
  pub merge : target g past ≡ merge_of g (overlays past)
  pub count : version past ≡ length (accepted past) + length (withdrawn past)
  pub alone : withdrawn past ≡ [] → overlays past ≡ accepted past

abbrev pub OverlaysAreListed : Type 0
OverlaysAreListed = (g : Group) (past : List Entry) → IsLegal g past → OverlaysListed g past

-- what a withdrawal of an entity makes: the entity has a stamp of the entry and its observed values as its target, and all others stay
pub record WithdrawsOne (g : Group) (past : List Entry) (entry : Entry) (at : Entity) : Type 0 where
  pub stamped : stamp g (entry ∷ past) at ≡ length past + 1
  pub back : (v : Var) → is_var_of at v ≡ true → target g (entry ∷ past) at v ≡ value_of at (observed g past at).vals v
  pub stamps_stay : (e : Entity) → is_same_entity at e ≡ false → stamp g (entry ∷ past) e ≡ stamp g past e
  pub targets_stay : (e : Entity) → is_same_entity at e ≡ false → target g (entry ∷ past) e ≡ target g past e

abbrev pub WithdrawalsMoveOne : Type 0
WithdrawalsMoveOne = (g : Group) (past : List Entry) (entry : Entry) (at : Entity) → entry.event ≡ Withdraw at → is_some (rows_withdrawn entry.reply) ≡ true → IsNext g past entry → WithdrawsOne g past entry at

-- a Withdraw entry leaves the sure set as it was
abbrev pub WithdrawalsLeaveSure : Type 0
WithdrawalsLeaveSure = (g : Group) (past : List Entry) (entry : Entry) (at : Entity) → entry.event ≡ Withdraw at → IsNext g past entry → sure g (entry ∷ past) ≡ sure g past

-- Kept is the answer exactly where the observed values are the target's, or the governing variable can be set
abbrev pub KeptTells : Type 0
KeptTells = (g : Group) (past : List Entry) (e : Entity) → (reply g past (Withdraw e) ≡ Kept) ↔ (((v : Var) → is_var_of e v ≡ true → value_of e (observed g past e).vals v ≡ target g past e v) ⊎ (lack_at g (observed g past) (target g past) e (governing e (observed g past e).vals (target g past e)) ≡ None))

-- what the target was overlaid with, any journal that goes on has first
abbrev pub OverlaysGoOn : Type 0
OverlaysGoOn = (more past : List Entry) → IsPrefix (overlays past) (overlays (more ++ past))

-- what was accepted, a legal journal that goes on has first
abbrev pub AcceptedGoesOn : Type 0
AcceptedGoesOn = (g : Group) (more past : List Entry) → IsLegal g (more ++ past) → IsPrefix (accepted past) (accepted (more ++ past))

-- in any journal there are no more versions than entries
abbrev pub VersionsAreFew : Type 0
VersionsAreFew = (past : List Entry) → version past ≤ length past

-- in any journal no more proposals were accepted than decided
abbrev pub AcceptedAreDecided : Type 0
AcceptedAreDecided = (past : List Entry) → length (accepted past) ≤ length (deciders past)

-- these values are of an entity of the group, and in its ranges
pub record IsInRange (g : Group) (e : Entity) (vals : Vals) : Type 0 where
  pub entity : IsEntityOf g e
  pub range : are_in_range e vals ≡ true

-- what was overlaid fits the group; so what each entity is to become, what is sent to it, what its agent has in work and has, what it
-- reported and what is observed of it is in range
pub record AllInRange (g : Group) (past : List Entry) : Type 0 where
  pub overlaid : All (All (RowFits g)) (overlays past)
  pub targets : (e : Entity) → IsEntityOf g e → are_in_range e (vals_in g (target g past) e) ≡ true
  pub sent : (n : ℕ) (c : Command) → nth (commands g past) n ≡ Some c → IsInRange g c.entity c.vals
  pub working : (e : Entity) → IsEntityOf g e → are_in_range e (work g past e) ≡ true
  pub values : (e : Entity) → IsEntityOf g e → are_in_range e (vals g past e) ≡ true
  pub made : (n : ℕ) (r : Report) → nth (reports g past) n ≡ Some r → IsInRange g r.entity r.vals
  pub seen : (e : Entity) → IsEntityOf g e → are_in_range e (observed g past e).vals ≡ true

abbrev pub AllAreInRange : Type 0
AllAreInRange = (g : Group) (past : List Entry) → IsSound g → IsLegal g past → AllInRange g past

-- no more proposals wait than may
abbrev pub FewWait : Type 0
FewWait = (g : Group) (past : List Entry) → IsLegal g past → length (pending past) ≤ MAX_PENDING

-- a ticket's proposal waits: counted from the newest, it stands at the same place among all proposals and among the pending ones
pub record IsPending (past : List Entry) (ticket : ℕ) : Type 0 where
  pub proposal : Proposal
  pub place : ℕ
  pub given : nth (proposals past) ticket ≡ Some proposal
  pub waits : nth (pending past) place ≡ Some proposal
  pub behind : length (proposals past) + place ≡ length (pending past) + ticket

-- a ticket that was given is pending exactly where fewer than so many were decided
abbrev pub TicketsArePending : Type 0
TicketsArePending = (g : Group) (past : List Entry) (ticket : ℕ) → IsLegal g past → ticket ≤ length (proposals past) → IsPending past ticket ↔ (length (deciders past) < ticket)

-- one entry moves the checker's part of a group, and the network's
abbrev pub StandingMoves : Type 0
StandingMoves = (g : Group) (past : List Entry) (entry : Entry) → IsLegal g past → IsNext g past entry → standing_of g (entry ∷ past) ≡ standing_after g (standing_of g past) (wires_of g past) (length past + 1) entry.event entry.reply

abbrev pub WiresMove : Type 0
WiresMove = (g : Group) (past : List Entry) (entry : Entry) → wires_of g (entry ∷ past) ≡ wires_after g (standing_of g past) (wires_of g past) entry.event entry.reply

-- a reply is given from these two parts and the entry's number
abbrev pub StandingReplies : Type 0
StandingReplies = (g : Group) (past : List Entry) (event : Event) → reply g past event ≡ reply_in g (standing_of g past) (wires_of g past) (length past + 1) event

-- one entry moves each agent by one step
abbrev pub AgentsMove : Type 0
AgentsMove = (g : Group) (past : List Entry) (entry : Entry) → agent_of g (entry ∷ past) ≡ (λ e. agent_after entry.event (nth (commands g past)) e (agent_of g past e))

-- what is observed of an entity is of that entity, was heard or is its opening, and no report of it that was heard has a greater number
pub record IsGreatestHeard (g : Group) (past : List Entry) (e : Entity) (r : Report) : Type 0 where
  pub own : r.entity ≡ e
  pub heard : (r ≡ opening_report g e) ⊎ WasHeard g past r
  pub greatest : (other : Report) → WasHeard g past other → other.entity ≡ e → other.number ≤ r.number

abbrev pub ObservedIsGreatest : Type 0
ObservedIsGreatest = (g : Group) (past : List Entry) (e : Entity) → IsGreatestHeard g past e (observed g past e)

-- of two reports of one entity the one that was made later has the greater number
abbrev pub ReportsAscend : Type 0
ReportsAscend = (g : Group) (past : List Entry) (m n : ℕ) (o r : Report) → nth (reports g past) m ≡ Some o → nth (reports g past) n ≡ Some r → o.entity ≡ r.entity → m < n → o.number < r.number

-- a command of the entity, with this stamp, was delivered
pub record WasBegunBy (g : Group) (past : List Entry) (e : Entity) (stamp : ℕ) : Type 0 where
  pub command : Command
  pub told : WasTold g past command
  pub own : command.entity ≡ e
  pub stamped : command.stamp ≡ stamp

-- a fence is 0 or the stamp of a command that was delivered to the entity, and none that was has a greater one
pub record IsGreatestTold (g : Group) (past : List Entry) (e : Entity) (fence : ℕ) : Type 0 where
  pub told : (fence ≡ 0) ⊎ WasBegunBy g past e fence
  pub greatest : (command : Command) → WasTold g past command → command.entity ≡ e → command.stamp ≤ fence

abbrev pub FenceIsGreatest : Type 0
FenceIsGreatest = (g : Group) (past : List Entry) (e : Entity) → IsGreatestTold g past e (fence g past e)

-- who holds a lock is who was granted it last, unless that application released it since
abbrev pub HolderIsLastGrant : Type 0
HolderIsLastGrant = (past : List Entry) (e : Entity) (q : Prio) (app : AppId) → (holder past e q ≡ Some app) ↔ IsLastGrant past e q app

-- each group's journal comes of its own events alone, whatever the other groups are and are asked
abbrev pub JournalsAreApart : Type 0
JournalsAreApart = (groups : ℕ → Group) (events : List GroupEvent) (journals : ℕ → List Entry) (k : ℕ) → journals_by groups events journals k ≡ journal_by (groups k) (events_of k events) (journals k)

-- a promise that holds goes on to hold with more entities up
abbrev pub MoreEntitiesKeepPromises : Type 0
MoreEntitiesKeepPromises = (g : Group) (up more : Entity → Bool) (p : Promise) → IsWithin up more → Keeps g up p → Keeps g more p

-- a demand that holds goes on to hold with more entities up
abbrev pub MoreEntitiesKeepDemands : Type 0
MoreEntitiesKeepDemands = (g : Group) (up more : Entity → Bool) (i : ℕ) → IsWithin up more → HoldsIn g up i → HoldsIn g more i

-- of a sound group, the test says that the demand holds
abbrev pub TestsTellDemands : Type 0
TestsTellDemands = (g : Group) (up : Entity → Bool) (i : ℕ) → IsSound g → i < demand_count g → (is_held_in g up i ≡ true) ↔ HoldsIn g up i

-- a cut of the least value that each cut of that value contains, of a group with n devices
pub record IsLeastSide (n : ℕ) (links : List LinkOpening) (up : Entity → Bool) (a b : ℕ) (side : ℕ → Bool) : Type 0 where
  pub cut : IsCut side a b
  pub least : cut_value links up side ≡ least_cut n links up a b
  pub inmost : (other : ℕ → Bool) → IsCut other a b → cut_value links up other ≡ least_cut n links up a b → (d : ℕ) → d < n → side d ≡ true → other d ≡ true

-- the devices that each cut of the least value has are such a cut
abbrev pub LeastSideIsCut : Type 0
LeastSideIsCut = (n : ℕ) (links : List LinkOpening) (up : Entity → Bool) (a b : ℕ) → AreLinks n links → a ≢ b → b < n → IsLeastSide n links up a b (is_in_least_side n links up a b)

-- there is no other such cut
abbrev pub LeastSideIsOne : Type 0
LeastSideIsOne = (n : ℕ) (links : List LinkOpening) (up : Entity → Bool) (a b : ℕ) (side : ℕ → Bool) → AreLinks n links → a ≢ b → IsLeastSide n links up a b side → (d : ℕ) → d < n → side d ≡ is_in_least_side n links up a b d

-- the least cut of two devices is 0 exactly where no walk joins them
abbrev pub NoWalkIsNoCut : Type 0
NoWalkIsNoCut = (n : ℕ) (links : List LinkOpening) (up : Entity → Bool) (a b : ℕ) → AreLinks n links → a ≢ b → (least_cut n links up a b ≡ 0) ↔ ((walk : List ℕ) → IsWalk links up a walk b → ⊥)

-- 0, or more than were made
abbrev pub IsNoNumber : ℕ → ℕ → Type 0
IsNoNumber made n = (n ≡ 0) ⊎ (made < n)

-- a number names no message where it is no number of one, and just then the event that names it is answered NoSuch
pub record NamesNone {M : Type 0} (g : Group) (past : List Entry) (event : Event) (messages : List M) (n : ℕ) : Type 0 where
  pub names : (nth messages n ≡ None) ↔ IsNoNumber (length messages) n
  pub told : (reply g past event ≡ NoSuch (length messages)) ↔ (nth messages n ≡ None)

abbrev pub NoSuchCommand : Type 0
NoSuchCommand = (g : Group) (past : List Entry) (n : ℕ) → NamesNone g past (Deliver n) (commands g past) n

abbrev pub NoSuchReport : Type 0
NoSuchReport = (g : Group) (past : List Entry) (n : ℕ) → NamesNone g past (Hear n) (reports g past) n
