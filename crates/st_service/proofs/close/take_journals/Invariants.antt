use Rattle.std.proofs.Common.{◌≡◌, ℕ, ◌++◌, ◌<◌, length, get_or, reverse}
use Rattle.st_net.specs.Groups.{IsSound}
use Rattle.st_event.specs.Legal.{IsLegal}
use Rattle.st_service.specs.Lines.{flat}
use Rattle.st_service.specs.Made.{past_in}
use Rattle.st_service.proofs.close.take_journals.Given as goal

-- the journals of the rooms so far
abbrev pub invariant-loop-room : goal.invariant-loop-room
invariant-loop-room g l = record {
  all : l.fn.shut.items ≡ l.yielded ++ l.room-iterator.rest.items;
  count : length l.journals.items ≡ length l.yielded;
  groups : (k : ℕ) (j : _) → k < length l.journals.items → (get_or l.journals.items k j).group ≡ k;
  legal : (k : ℕ) (j : _) → k < length l.journals.items → IsLegal (g.J.Naming.group k) (reverse (get_or l.journals.items k j).entries) × IsSound (g.J.Naming.group k);
  entries : (k : ℕ) (j : _) (d : _) → k < length l.journals.items → past_in (flat (get_or l.yielded k d).line.log) ≡ reverse (get_or l.journals.items k j).entries;
}
