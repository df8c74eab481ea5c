-- What a run of a document's scripts by threads leaves.
use Rattle.std.specs.Prelude.{ℕ, ◌≡◌, ◌<◌, ◌^◌, List, [], All, length, map, slice_index_or, Option, None, IfSome}
use Rattle.st_net.specs.Groups.{Group}
use Rattle.st_event.specs.declared.act.Log.{Log}
use Rattle.st_event.specs.declared.event.Event.{Event}
use Rattle.st_event.specs.declared.event.Event.TheVariants.{Submit, Check, Lock, Unlock, Send, Deliver, Finish, Report, Hear, Fail, Withdraw}
use Rattle.st_event.specs.declared.journal.Journal.{Journal}
use Rattle.st_event.specs.declared.journal.TheConstants.{MAX_ENTRIES}
use Rattle.st_grammar.specs.declared.doc.Doc.{Doc}
use Rattle.st_serial.specs.Most.{IsWithinMost}
use Rattle.st_service.specs.Asked.{asker}
use Rattle.st_serial.specs.Serial.{GroupState, all_opened}
use Rattle.st_wire.specs.declared.line.WireLine.{WireLine}
use Rattle.st_serial.specs.Kept.{AreKept, groups_of}
use Rattle.st_event.specs.Services.{AreNumbers}
use Rattle.st_run.specs.CarriedOut.{CarriedOut}

-- these are the document's groups and the lines of their loss plans
abbrev pub AreStatesOf : (ℕ → Group) → (ℕ → List WireLine) → Doc → Type 0
AreStatesOf groups lines doc = (k : ℕ) (d : GroupState) → k < length doc.groups → slice_index_or (all_opened doc.groups doc.wires) k d ≡ record { history = record { group = groups k; past = [] }; lines = lines k }

-- the journal of group n is full
abbrev pub IsFullIn : List Journal → ℕ → Type 0
IsFullIn journals n = (n < length journals) × ((j : Journal) → length (slice_index_or journals n j).entries ≡ MAX_ENTRIES)

-- where an event is a request, it names one of so many applications
abbrev pub IsByOneOf : ℕ → Event → Type 0
IsByOneOf count event = IfSome (asker event) (λ app. app < count)

-- each request of a journal names an application of the document
abbrev pub HasOwnRequests : Doc → Journal → Type 0
HasOwnRequests doc journal = All (λ entry. IsByOneOf (length doc.apps) entry.event) journal.entries

-- where an event names a message, its number has 32 bits
abbrev pub HasSmallNumber : Event → Type 0
HasSmallNumber (Submit app rows) = Unit {0}
HasSmallNumber Check = Unit {0}
HasSmallNumber (Lock app entity prio) = Unit {0}
HasSmallNumber (Unlock app entity prio) = Unit {0}
HasSmallNumber (Send entity) = Unit {0}
HasSmallNumber (Deliver n) = n < 2 ^ 32
HasSmallNumber (Finish entity) = Unit {0}
HasSmallNumber (Report entity) = Unit {0}
HasSmallNumber (Hear n) = n < 2 ^ 32
HasSmallNumber (Fail entity vals health) = Unit {0}
HasSmallNumber (Withdraw entity) = Unit {0}

abbrev pub HasSmallNumbers : Journal → Type 0
HasSmallNumbers journal = All (λ entry. HasSmallNumber entry.event) journal.entries

-- there is a journal for each group and a log for each application, in their order. The scripts were carried out, unless a group is named, whose journal
-- then is full; the journals are legal and kept, have no more entries than the scripts can make, no request but of the document's applications, and name
-- messages by numbers of 32 bits
pub record IsRunOf (doc : Doc) (full : Option ℕ) (journals : List Journal) (logs : List Log) : Type 0 where
  pub groups : AreNumbers (map (λ j. j.group) journals) (length doc.groups)
  pub apps : AreNumbers (map (λ l. l.app.0) logs) (length doc.apps)
  pub carried : full ≡ None → CarriedOut doc journals logs
  pub full_is : IfSome full (IsFullIn journals)
  pub kept : AreKept (groups_of doc) journals
  pub within : All (IsWithinMost doc) journals
  pub ours : All (HasOwnRequests doc) journals
  pub small : All HasSmallNumbers journals
