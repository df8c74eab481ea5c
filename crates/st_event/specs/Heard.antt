-- Which messages were heard and delivered.
use Rattle.std.specs.Prelude.{◌≡◌, ◌⊎◌, List, [], ◌∷◌, Some}
use Rattle.st_net.specs.declared.message.Command.{Command}
use Rattle.st_net.specs.declared.message.Report.{Report}
use Rattle.st_event.specs.declared.journal.Entry.{Entry}
use Rattle.st_net.specs.Groups.{Group}
use Rattle.st_net.specs.Numbered.{nth}
use Rattle.st_event.specs.Moments.{heard, told, commands, reports}

-- an entry hears the report
abbrev pub WasHeard : Group → List Entry → Report → Type 0
WasHeard g [] r = ⊥
WasHeard g (entry ∷ past) r = (heard entry.event (nth (reports g past)) ≡ Some r) ⊎ WasHeard g past r

-- an entry delivers the command
abbrev pub WasTold : Group → List Entry → Command → Type 0
WasTold g [] c = ⊥
WasTold g (entry ∷ past) c = (told c.entity entry.event (nth (commands g past)) ≡ Some c) ⊎ WasTold g past c
