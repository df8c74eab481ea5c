-- A world as contracts see it, what a world keeps between calls, and what one step does.
use Rattle.std.specs.Prelude.{◌≡◌, ℕ, ◌+◌, ◌≤◌, List, ◌++◌, length, reverse}
use Rattle.st_event.specs.declared.event.Event.{Event}
use Rattle.st_event.specs.declared.journal.Entry.{Entry}
use Rattle.st_event.specs.declared.journal.TheConstants.{MAX_ENTRIES}
use Rattle.st_event.specs.History.{History, with_entry}
use Rattle.st_event.specs.Legal.{IsLegal, IsNext}
use Rattle.st_event.specs.Standing.{standing_of, wires_of}
use Rattle.st_event.specs.Versions.{value_at}
use Rattle.st_wire.specs.declared.line.WireLine.{WireLine}
use Rattle.st_control.specs.Control.{standing_in, versions_in}
use Rattle.st_world.specs.Machine.{MachineView, wires_in}
use Rattle.st_world.specs.declared.world.Stepped.{Stepped}
use Rattle.st_world.specs.declared.world.Stepped.TheVariants.{Did, JournalFull}

-- the group with its journal, the lines of the loss plan, and how many more entries and messages there is room for without more memory
pub record WorldView : Type 0 where
  pub history : History
  pub lines : List WireLine
  pub room : ℕ

-- the journal, whose oldest entry stands first here, is legal; and the checker, its versions, the agents and the messages are as the journal
-- leaves them
pub record Agrees (m : MachineView) (entries : List Entry) : Type 0 where
  pub legal : IsLegal m.checker.group (reverse entries)
  pub standing : standing_in m.checker ≡ standing_of m.checker.group (reverse entries)
  pub wires : wires_in m ≡ wires_of m.checker.group (reverse entries)
  pub versions : versions_in m.checker ≡ value_at m.checker.group (reverse entries)

-- the event is entered with its reply, or the journal is full and nothing changes
abbrev pub Steps : History → History → Event → Stepped → Type 0
Steps old new event (Did reply) = IsNext old.group old.past (record { event = event; reply = reply }) × (new ≡ with_entry old (record { event = event; reply = reply }))
Steps old new event (JournalFull entries) = (length old.past ≡ MAX_ENTRIES) × (entries ≡ MAX_ENTRIES) × (new ≡ old)

-- only an entry spends of the room, and no more than one
abbrev pub StepSpends : ℕ → ℕ → Stepped → Type 0
StepSpends old new (Did reply) = old ≤ new + 1
StepSpends old new (JournalFull entries) = old ≤ new

-- the one journal is a beginning of the other
abbrev pub IsBeginning : List Entry → List Entry → Type 0
IsBeginning past whole = (more : List Entry) × (whole ≡ more ++ past)
