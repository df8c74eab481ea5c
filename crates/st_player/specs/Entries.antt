-- What a picture says of one entry of a journal.
use Rattle.std.specs.Prelude.{ℕ, ◌+◌, ◌==◌, ◌&&◌, ◌||◌, not, Bool, false, List, [], ◌∷◌, ◌++◌, Option, Some, None, codes, drop, length, map, option_map, suc, if◌then◌else◌}
use Rattle.std.specs.List.{list_any}
use Rattle.serde_json.specs.Data.{Data, string, object, Members, no_members, put}
use Rattle.st_text.specs.Words.{line_text}
use Rattle.st_net.specs.declared.entity.Entity.{Entity}
use Rattle.st_net.specs.declared.entity.Row.{Row}
use Rattle.st_net.specs.Entities.{is_same_entity}
use Rattle.st_net.specs.Groups.{Group}
use Rattle.st_net.specs.Numbered.{nth}
use Rattle.st_event.specs.declared.event.Event.{Event}
use Rattle.st_event.specs.declared.event.Event.TheVariants.{Submit, Check, Lock, Unlock, Send, Deliver, Finish, Report, Hear, Fail, Withdraw}
use Rattle.st_event.specs.declared.journal.Entry.{Entry}
use Rattle.st_event.specs.declared.reply.Reply.{Reply}
use Rattle.st_event.specs.declared.reply.Receipt.{Receipt}
use Rattle.st_event.specs.Moments.{commands, reports}
use Rattle.st_event.specs.Proposals.{is_queued, pending, first_rows}
use Rattle.st_event.specs.Receipts.{receipt_given}
use Rattle.st_entry.specs.Entries.{entry_words as journal_words}
use Rattle.st_player.specs.Fields.{changes_from}
use Rattle.st_player.specs.Json.{number_data, put_list, put_some, put_where}
use Rattle.st_player.specs.Cuts.{numbers_of}
use Rattle.st_player.specs.Refusals.{refused_of}
use Rattle.st_player.specs.Snapshots.{Shown, shown_of}

-- the line of the entry of a number in its journal, without that number
abbrev pub line_of : Group → List (List ℕ) → ℕ → Entry → List ℕ
line_of g apps n entry = line_text (drop 1 (journal_words g apps n entry))

-- the rows of a proposal, and of one that is decided, where a receipt is given
abbrev pub decided_rows : Option Receipt → List Row → List Row
decided_rows None rows = []
decided_rows (Some receipt) rows = rows

abbrev pub rows_about : List Entry → Event → Reply → List Row
rows_about past (Submit app rows) reply = rows
rows_about past Check reply = decided_rows (receipt_given reply) (first_rows (pending past))
rows_about past (Lock app e prio) reply = []
rows_about past (Unlock app e prio) reply = []
rows_about past (Send e) reply = []
rows_about past (Deliver n) reply = []
rows_about past (Finish e) reply = []
rows_about past (Report e) reply = []
rows_about past (Hear n) reply = []
rows_about past (Fail e vals health) reply = []
rows_about past (Withdraw e) reply = []

-- the entity that an event names: by a lock, by a message that there is, or itself
abbrev pub named_by : Group → List Entry → Event → Option Entity
named_by g past (Lock app e prio) = Some e
named_by g past (Unlock app e prio) = Some e
named_by g past (Send e) = Some e
named_by g past (Deliver n) = option_map (λ c. c.entity) (nth (commands g past) n)
named_by g past (Finish e) = Some e
named_by g past (Report e) = Some e
named_by g past (Hear n) = option_map (λ r. r.entity) (nth (reports g past) n)
named_by g past (Fail e vals health) = Some e
named_by g past (Withdraw e) = Some e
named_by g past (Submit app rows) = None
named_by g past Check = None

abbrev pub is_entity : Option Entity → Entity → Bool
is_entity None e = false
is_entity (Some at) e = is_same_entity at e

abbrev pub has_row_on : List Row → Entity → Bool
has_row_on rows e = list_any (λ row. is_same_entity row.entity e) rows

-- the numbers of the entities that an entry is about, ascending: those of its rows, or the one that it names
abbrev pub is_about : List Row → Option Entity → Entity → Bool
is_about rows named e = has_row_on rows e || is_entity named e

abbrev pub about : Group → List Entry → Entry → List ℕ
about g past entry = numbers_of g (is_about (rows_about past entry.event entry.reply) (named_by g past entry.event))

-- the numbers of the entries by which tickets 1, 2, 3 and so on were given
abbrev pub askers_after : Event → Reply → ℕ → List ℕ → List ℕ
askers_after (Submit app rows) reply n before = if is_queued reply then before ++ n ∷ [] else before
askers_after _ reply n before = before

abbrev pub askers : List Entry → List ℕ
askers [] = []
askers (entry ∷ past) = askers_after entry.event entry.reply (length past + 1) (askers past)

-- of a check that decides, the number of the entry that gave its ticket
abbrev pub asked_by : List Entry → Option Receipt → Option ℕ
asked_by past None = None
asked_by past (Some receipt) = nth (askers past) receipt.ticket

abbrev pub asked_of : List Entry → Event → Reply → Option ℕ
asked_of past Check reply = asked_by past (receipt_given reply)
asked_of past _ reply = None

-- of two lists, the numbers from n on of the promises that hold in the first and not in the second
abbrev pub lost_from : ℕ → List Bool → List Bool → List ℕ
lost_from n [] after = []
lost_from n (b ∷ before) [] = []
lost_from n (b ∷ before) (a ∷ after) = if b && not a then n ∷ lost_from (suc n) before after else lost_from (suc n) before after

-- which promises ceased to hold, and which hold again; nothing where none did
abbrev pub turned_data : List ℕ → List ℕ → Option Data
turned_data [] [] = None
turned_data lost back = Some (object (put_list (codes "back") (map number_data back) (put_list (codes "lost") (map number_data lost) no_members)))

abbrev pub turned_of : List Bool → List Bool → Option Data
turned_of before after = turned_data (lost_from 0 before after) (lost_from 0 after before)

-- what differs between what was shown before and what is shown after
abbrev pub with_changes : Shown → Shown → Members → Members
with_changes old new ms = put_some (codes "sure") (turned_of old.sure new.sure)
    (put_some (codes "network") (turned_of old.network new.network)
    (put_list (codes "set") (changes_from 0 old.states new.states) ms))

abbrev pub with_counts : Shown → Shown → Members → Members
with_counts old new ms = put_where (not (old.pending == new.pending)) (codes "pending") (number_data new.pending)
    (put_where (not (old.version == new.version)) (codes "version") (number_data new.version) ms)

-- what an entry is: its line, what it is about, and what it decided
abbrev pub with_words : Group → List (List ℕ) → List Entry → Entry → Members → Members
with_words g apps past entry ms = put_some (codes "refused") (refused_of g past entry.event entry.reply)
    (put_some (codes "asked") (option_map number_data (asked_of past entry.event entry.reply))
    (put_list (codes "on") (map number_data (about g past entry))
    (put (codes "line") (string (line_of g apps (length past + 1) entry)) ms)))

-- the same as members of an object
unfoldable pub entry_words : Group → List (List ℕ) → List Entry → Entry → Members
entry_words g apps past entry = with_words g apps past entry no_members

-- an entry of these members, with what differs
unfoldable pub told_data : Shown → Shown → Members → Data
told_data old new ms = object (with_counts old new (with_changes old new ms))

-- an entry, behind those before it
unfoldable pub entry_data : Group → List (List ℕ) → List Entry → Entry → Data
entry_data g apps past entry = told_data (shown_of g past) (shown_of g (entry ∷ past)) (entry_words g apps past entry)
