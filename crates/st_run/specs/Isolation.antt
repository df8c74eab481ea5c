-- What a group's journal says does not depend on the service that kept it.
use Rattle.std.specs.Prelude.{◌≡◌, List, map}
use Rattle.st_net.specs.Groups.{Group}
use Rattle.st_event.specs.declared.journal.Entry.{Entry}
use Rattle.st_event.specs.Legal.{IsLegal}

-- two legal journals of one group with the same events, in the same order, have the same replies
abbrev pub EventsTellJournals : Type 0
EventsTellJournals = (g : Group) (past more : List Entry) → IsLegal g past → IsLegal g more → map (λ entry. entry.event) past ≡ map (λ entry. entry.event) more → past ≡ more
