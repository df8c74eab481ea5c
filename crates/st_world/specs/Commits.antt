-- What a world gives for a check that is judged away from it, and what the commit of the judgement does.
use Rattle.std.specs.Prelude.{◌≡◌, ℕ, ◌+◌, ◌<◌, ◌≤◌, List, [], ◌++◌, length, Some}
use Rattle.st_net.specs.Groups.{Group}
use Rattle.st_net.specs.Numbered.{nth}
use Rattle.st_net.specs.Sets.{is_in}
use Rattle.st_event.specs.declared.event.Event.TheVariants.{Check}
use Rattle.st_event.specs.declared.reply.Reply.TheVariants.{Decided}
use Rattle.st_event.specs.declared.journal.Entry.{Entry}
use Rattle.st_event.specs.declared.journal.TheConstants.{MAX_ENTRIES}
use Rattle.st_event.specs.History.{History}
use Rattle.st_event.specs.Observed.{sure, sure_after}
use Rattle.st_event.specs.Proposals.{proposals, pending, deciders, first_rows}
use Rattle.st_control.specs.Basis.{BasisView}
use Rattle.st_control.specs.declared.control.commits.Begin.{Begin}
use Rattle.st_control.specs.declared.control.commits.Begin.TheVariants.{Basis, Idle}
use Rattle.st_world.specs.World.{Steps}
use Rattle.st_world.specs.declared.world.Stepped.TheVariants.{Did as did_step}
use Rattle.st_world.specs.declared.world.commits.Committed.{Committed}
use Rattle.st_world.specs.declared.world.commits.Committed.TheVariants.{Did, Gone, JournalFull}

-- the basis is what the oldest proposal is judged on, where this is the journal
pub record IsBasisAt (g : Group) (past : List Entry) (b : BasisView) : Type 0 where
  pub group : b.group ≡ g
  pub oldest : b.ticket ≡ length (deciders past) + 1
  pub given : b.ticket ≤ length (proposals past)
  pub sure_is : is_in b.sure ≡ sure g past
  pub after : is_in b.after ≡ sure_after g past (first_rows (pending past))

-- a basis, or no proposal is pending
abbrev pub Begins : History → Begin → Type 0
Begins h (Basis basis) = IsBasisAt h.group h.past basis
Begins h Idle = pending h.past ≡ []

-- the ticket was given, and each lower ticket is decided
pub record MayCommit (past : List Entry) (ticket : ℕ) : Type 0 where
  pub given : ticket ≤ length (proposals past)
  pub lower : ticket ≤ length (deciders past) + 1

-- the ticket is decided now, by the Check that is called for; or this entry had decided the ticket; or the journal is full
abbrev pub Commits : History → History → ℕ → Committed → Type 0
Commits old new ticket (Did receipt) = (receipt.ticket ≡ ticket) × Steps old new Check (did_step (Decided receipt))
Commits old new ticket (Gone entry) = (nth (deciders old.past) ticket ≡ Some entry) × (new ≡ old)
Commits old new ticket (JournalFull entries) = (length (deciders old.past) < ticket) × (length old.past ≡ MAX_ENTRIES) × (entries ≡ MAX_ENTRIES) × (new ≡ old)

-- a ticket that may be committed may be committed later too, whatever is entered
abbrev pub TicketsStay : Type 0
TicketsStay = (past more : List Entry) (ticket : ℕ) → MayCommit past ticket → MayCommit (more ++ past) ticket

-- the ticket of a basis may be committed
abbrev pub BasesMayCommit : Type 0
BasesMayCommit = (g : Group) (past : List Entry) (b : BasisView) → IsBasisAt g past b → MayCommit past b.ticket

-- room for one entry is spent where one is made
abbrev pub SpendsRoom : ℕ → ℕ → Committed → Type 0
SpendsRoom old new (Did receipt) = old ≤ new + 1
SpendsRoom old new (Gone entry) = old ≤ new
SpendsRoom old new (JournalFull entries) = old ≤ new
