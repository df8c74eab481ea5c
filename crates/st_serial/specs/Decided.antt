-- What checks leave pending: nothing once the scripts of a document are through, and nothing of an application that has awaited. And which
-- ticket of an application tells whether something of it is pending.
use Rattle.std.specs.Prelude.{◌≡◌, ◌<◌, ◌↔◌, ℕ, [], All, List, length, None, true, false}
use Rattle.std.specs.Option.{IsSomeAnd}
use Rattle.st_net.specs.declared.entity.AppId.{AppId}
use Rattle.st_net.specs.Groups.{Group}
use Rattle.st_net.specs.Numbered.{nth}
use Rattle.st_event.specs.declared.journal.Entry.{Entry}
use Rattle.st_event.specs.Legal.{IsLegal}
use Rattle.st_event.specs.Proposals.{deciders, pending, proposals}
use Rattle.st_grammar.specs.declared.doc.Doc.{Doc}
use Rattle.st_world.specs.Rounds.{course_from}
use Rattle.st_world.specs.Acts.{awaited, has_one_of}
use Rattle.st_serial.specs.Serial.{GroupState, serial_end, serial_full}

-- nothing is pending in the group
abbrev pub HasNonePending : GroupState → Type 0
HasNonePending s = pending s.history.past ≡ []

-- where the scripts of a document, and the checks behind them, meet no full journal, nothing is pending in any group in the end
abbrev pub AllAreDecided : Type 0
AllAreDecided = (doc : Doc) → serial_full doc ≡ None → All HasNonePending (serial_end doc).groups

-- an await that meets no full journal leaves nothing of its application pending
abbrev pub AwaitsDecide : Type 0
AwaitsDecide = (g : Group) (past : List Entry) (app : AppId) → IsLegal g past → (awaited g (course_from past) app).stopped ≡ false → has_one_of app (pending (awaited g (course_from past) app).past) ≡ false

-- the ticket is that of a proposal of the application
abbrev pub IsTicketOf : List Entry → AppId → ℕ → Type 0
IsTicketOf past app ticket = IsSomeAnd (nth (proposals past) ticket) (λ p. p.app ≡ app)

-- and the application was given no later one
pub record IsLatestOf (past : List Entry) (app : AppId) (ticket : ℕ) : Type 0 where
  pub own : IsTicketOf past app ticket
  pub last : (later : ℕ) → ticket < later → IsTicketOf past app later → ⊥

-- in any journal an application's latest ticket is undecided exactly where one of its proposals is pending
abbrev pub LatestIsPending : Type 0
LatestIsPending = (past : List Entry) (app : AppId) (ticket : ℕ) → IsLatestOf past app ticket → (length (deciders past) < ticket) ↔ (has_one_of app (pending past) ≡ true)
