-- Laws of pages. Each is the contract of a function of `laws` that does nothing.
use Rattle.std.specs.Prelude.{Some, None, ◌≡◌, ◌<◌, ◌≤◌, ◌+◌, ◌++◌, ◌∷◌, [], ℕ, List, codes, length, take, drop, reverse}
use Rattle.serde_json.specs.Data.{Data}
use Rattle.serde_json.specs.Find.{get}
use Rattle.st_net.specs.declared.entity.Entity.{Entity}
use Rattle.st_net.specs.declared.entity.Var.{Var}
use Rattle.st_net.specs.declared.promise.Broken.{Broken}
use Rattle.st_net.specs.Entities.{value_of}
use Rattle.st_net.specs.Groups.{Group, IsEntityOf, IsSound, opening_of, promise_of}
use Rattle.st_net.specs.InOrder.{place_in}
use Rattle.st_net.specs.Numbered.{nth}
use Rattle.st_net.specs.Promises.{is_kept}
use Rattle.st_event.specs.declared.event.Event.TheVariants.{Check}
use Rattle.st_event.specs.declared.journal.Entry.{Entry}
use Rattle.st_event.specs.declared.reply.Cause.TheVariants.{Broken as broken_cause}
use Rattle.st_event.specs.declared.reply.Receipt.{Receipt}
use Rattle.st_event.specs.declared.reply.Reply.TheVariants.{Decided, Queued}
use Rattle.st_event.specs.Legal.{IsLegal}
use Rattle.st_event.specs.Moments.{health}
use Rattle.st_event.specs.Observed.{actual, observed, sure, sure_after}
use Rattle.st_event.specs.Proposals.{first_rows, pending, target, version}
use Rattle.st_event.specs.Versions.{value_at}
use Rattle.st_player.specs.declared.origins.Failure.{Failure}
use Rattle.st_player.specs.declared.origins.Setter.{Setter}
use Rattle.st_player.specs.Causes.{failure_of, setter_of, var_place}
use Rattle.st_player.specs.Entries.{entry_data}
use Rattle.st_player.specs.Fields.{state_data}
use Rattle.st_player.specs.Json.{number_data}
use Rattle.st_player.specs.Known.{IsKnownBy, before_entry}
use Rattle.st_player.specs.Pictures.{after, bytes_of, entries_data, group_data}
use Rattle.st_player.specs.PlayedBack.{at_opening, entries_in, first_in, holds_after, holds_at_opening, last_at, last_told, number_in, told_by_opening, total_in}
use Rattle.st_player.specs.Refusals.{refusal_of}
use Rattle.st_player.specs.States.{state_of}
use Rattle.st_player.specs.ToldRefusals.{TellsCut}

-- The opening and the first m of the entries tell of each entity what its state is after as many entries of the journal as these and those
-- before the page: at each key of a state, what is told last is what stands there in the whole state.
abbrev pub TellsStates : Group → List Entry → Data → Type 0
TellsStates g entries told = (k : List ℕ) (e : Entity) (m : ℕ) → (k ≡ codes "entity" → ⊥) → IsEntityOf g e → m ≤ length (entries_in told)
    → last_told k (place_in g e) (take m (entries_in told)) (told_by_opening k (place_in g e) told) ≡ get k (state_data (state_of g (after (first_in told + m) entries) e))

-- In the same way they tell the version, and how many proposals wait.
abbrev pub TellsCounts : List Entry → Data → Type 0
TellsCounts entries told = (m : ℕ) → m ≤ length (entries_in told)
    → (last_at (codes "version") (take m (entries_in told)) (at_opening (codes "version") told) ≡ Some (number_data (version (after (first_in told + m) entries))))
    × (last_at (codes "pending") (take m (entries_in told)) (at_opening (codes "pending") told) ≡ Some (number_data (length (pending (after (first_in told + m) entries)))))

-- And of each promise whether it holds, in the network and in the sure set.
abbrev pub TellsPromises : Group → List Entry → Data → Type 0
TellsPromises g entries told = (i m : ℕ) → i < length g.promises → m ≤ length (entries_in told)
    → (holds_after (codes "network") i (take m (entries_in told)) (holds_at_opening (codes "network") i told) ≡ is_kept g (actual g (after (first_in told + m) entries)) (promise_of g i))
    × (holds_after (codes "sure") i (take m (entries_in told)) (holds_at_opening (codes "sure") i told) ≡ is_kept g (sure g (after (first_in told + m) entries)) (promise_of g i))

-- The data of every group with its journal does so.
abbrev pub StatesPlayBack : Type 0
StatesPlayBack = (apps : List (List ℕ)) (from room : ℕ) (g : Group) (entries : List Entry) → TellsStates g entries (group_data apps from room g entries)

abbrev pub CountsPlayBack : Type 0
CountsPlayBack = (apps : List (List ℕ)) (from room : ℕ) (g : Group) (entries : List Entry) → TellsCounts entries (group_data apps from room g entries)

abbrev pub PromisesPlayBack : Type 0
PromisesPlayBack = (apps : List (List ℕ)) (from room : ℕ) (g : Group) (entries : List Entry) → TellsPromises g entries (group_data apps from room g entries)

-- The entries before the page, those that it shows and those that it leaves out behind them are all entries of the journal, in order, and
-- it tells how many they are.
pub record ShowsBeginning (apps : List (List ℕ)) (g : Group) (entries : List Entry) (told : Data) : Type 0 where
  pub left : List Data
  pub behind : entries_data g apps (after (first_in told) entries) (drop (first_in told) entries) ≡ entries_in told ++ left
  pub count : first_in told + (length (entries_in told) + length left) ≡ length entries
  pub total : total_in told ≡ length entries

abbrev pub NoEntryIsLost : Type 0
NoEntryIsLost = (apps : List (List ℕ)) (from room : ℕ) (g : Group) (entries : List Entry) → ShowsBeginning apps g entries (group_data apps from room g entries)

-- Those that it shows take no more than the room, and with the next of those that it leaves out they would take more.
pub record FitsLongest (apps : List (List ℕ)) (room : ℕ) (g : Group) (entries : List Entry) (told : Data) : Type 0 where
  pub within : bytes_of (entries_in told) ≤ room
  pub longest : (next : Data) (later : List Data) → entries_data g apps (after (first_in told) entries) (drop (first_in told) entries) ≡ entries_in told ++ next ∷ later → room < bytes_of (entries_in told ++ next ∷ [])

abbrev pub LongestFits : Type 0
LongestFits = (apps : List (List ℕ)) (from room : ℕ) (g : Group) (entries : List Entry) → FitsLongest apps room g entries (group_data apps from room g entries)

-- Of an entry of a legal journal that refuses a proposal, since a promise would break while its rows change, the cut is told that would be left.
abbrev pub RefusalsTellCuts : Type 0
RefusalsTellCuts = (g : Group) (apps : List (List ℕ)) (past : List Entry) (entry : Entry) (broken : Broken) → IsSound g → IsLegal g (entry ∷ past) → refusal_of entry.event entry.reply ≡ Some (broken_cause broken)
    → TellsCut g (sure_after g past (first_rows (pending past))) broken (entry_data g apps past entry)

-- the entry of this number was answered that it waits with this ticket
pub record GaveTicket (past : List Entry) (n ticket : ℕ) : Type 0 where
  pub entry : Entry
  pub at : nth (reverse past) n ≡ Some entry
  pub queued : entry.reply ≡ Queued ticket

-- Of a check of a legal journal that decides a ticket, the number of the entry is told that gave it.
abbrev pub AskedGaveTicket : Type 0
AskedGaveTicket = (g : Group) (apps : List (List ℕ)) (past : List Entry) (entry : Entry) (receipt : Receipt) → IsLegal g (entry ∷ past) → entry.event ≡ Check → entry.reply ≡ Decided receipt
    → GaveTicket past (number_in (get (codes "asked") (entry_data g apps past entry))) receipt.ticket

-- The entry that a state tells is the one by which the report was made that is kept of the entity; where none made it, it is the opening's, and 0
-- is told.
abbrev pub ReportsAreTold : Type 0
ReportsAreTold = (g : Group) (past : List Entry) (e : Entity) → IsKnownBy g past e (state_of g past e).told (observed g past e)

-- A health that a state tells is that of the entity when this report was made.
abbrev pub HealthIsTold : Type 0
HealthIsTold = (g : Group) (past : List Entry) (e : Entity) (h : ℕ) → (state_of g past e).health ≡ Some h → h ≡ health g (before_entry (state_of g past e).told past) e

-- Where a page tells who set a variable, the value at the version that is told is that of the target.
abbrev pub SettersSet : Type 0
SettersSet = (g : Group) (past : List Entry) (e : Entity) (v : Var) (setter : Setter) → setter_of past e (var_place v) ≡ Some setter → (setter.version ≤ version past) × (value_at g past setter.version e v ≡ target g past e v)

-- A variable that nobody set is as at the opening.
abbrev pub UnsetAreOpening : Type 0
UnsetAreOpening = (g : Group) (past : List Entry) (e : Entity) (v : Var) → setter_of past e (var_place v) ≡ None → target g past e v ≡ value_of e (opening_of g e) v

-- The failure that is told of an entity left it the health that it has.
abbrev pub FailuresLeftHealth : Type 0
FailuresLeftHealth = (g : Group) (past : List Entry) (e : Entity) (failure : Failure) → failure_of past e ≡ Some failure → health g past e ≡ failure.health
