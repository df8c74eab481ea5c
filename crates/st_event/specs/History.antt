-- A group with its journal.
use Rattle.std.specs.Prelude.{List, ◌∷◌}
use Rattle.st_event.specs.declared.journal.Entry.{Entry}
use Rattle.st_net.specs.Groups.{Group}

-- the newest entry of the journal stands first
pub record History : Type 0 where
  pub group : Group
  pub past : List Entry

abbrev pub with_entry : History → Entry → History
with_entry h entry = record h { past = entry ∷ h.past }
