-- The picture of a document's groups with their journals, as one value of JSON.
use Rattle.std.specs.Prelude.{ℕ, ◌+◌, ◌-◌, ◌/◌, nat_le, max, min, Bool, true, not, List, [], ◌∷◌, ◌++◌, codes, length, map, drop, take, reverse, Option, if◌then◌else◌, slice_index_or}
use Rattle.std.specs.List.{list_any, range_with_len, position_or_len, sum_by}
use Rattle.serde_json.specs.Data.{Data, string, object, Members, no_members, put}
use Rattle.serde_json.specs.Written.{compact_text}
use Rattle.st_net.specs.Groups.{Group, no_device, no_link, promise_of}
use Rattle.st_net.specs.Promises.{is_kept, need_of}
use Rattle.st_event.specs.declared.journal.Entry.{Entry}
use Rattle.st_event.specs.Observed.{actual}
use Rattle.st_player.specs.declared.state.State.{State}
use Rattle.st_player.specs.declared.pictures.TheConstants.{MOST_BYTES}
use Rattle.st_player.specs.Causes.{causes_of}
use Rattle.st_player.specs.Entries.{entry_data, lost_from}
use Rattle.st_player.specs.Fields.{fields_between, has_field, state_data}
use Rattle.st_player.specs.Json.{number_data, numbers_data, list_data, flag_data, put_some, put_where}
use Rattle.st_player.specs.Snapshots.{Shown, shown_of}

-- a device, a link and a promise of a group, by its number
abbrev pub device_data : Group → ℕ → Data
device_data g i = object (put_where (slice_index_or g.devices i no_device).tor (codes "tor") (number_data 1)
    (put (codes "name") (string (slice_index_or g.device_names i [])) no_members))

abbrev pub link_data : Group → ℕ → Data
link_data g i = object (put (codes "capacity") (number_data (slice_index_or g.links i no_link).capacity)
    (put (codes "ends") (numbers_data ((slice_index_or g.links i no_link).a ∷ (slice_index_or g.links i no_link).b ∷ []))
    (put (codes "name") (string (slice_index_or g.link_names i [])) no_members)))

abbrev pub promise_data : Group → ℕ → Data
promise_data g i = object (put (codes "start") (flag_data (is_kept g (actual g []) (promise_of g i)))
    (put (codes "need") (number_data (need_of g (promise_of g i)))
    (put (codes "percent") (number_data (promise_of g i).percent)
    (put (codes "ends") (numbers_data ((promise_of g i).a ∷ (promise_of g i).b ∷ [])) no_members))))

-- whether two states are one, and whether a state is one of these
abbrev pub is_same_state : State → State → Bool
is_same_state a b = not (has_field (fields_between a b))

abbrev pub is_known : List State → State → Bool
is_known kinds s = list_any (λ kind. is_same_state kind s) kinds

-- each state once, in the order of its first place
abbrev pub kinds_with : List State → State → List State
kinds_with kinds s = if is_known kinds s then kinds else kinds ++ s ∷ []

abbrev pub kinds_on : List State → List State → List State
kinds_on kinds [] = kinds
kinds_on kinds (s ∷ states) = kinds_on (kinds_with kinds s) states

abbrev pub kinds_of : List State → List State
kinds_of states = kinds_on [] states

-- the place of a state among these
abbrev pub kind_in : List State → State → ℕ
kind_in kinds s = position_or_len (λ kind. is_same_state kind s) kinds

-- the numbers of the promises that do not hold
abbrev pub unkept : List Bool → List ℕ
unkept held = lost_from 0 (map (λ b. true) held) held

abbrev pub lost_data : List Bool → Data
lost_data held = object (put (codes "lost") (numbers_data (unkept held)) no_members)

abbrev pub with_states : List State → Members → Members
with_states states ms = put (codes "of") (numbers_data (map (kind_in (kinds_of states)) states))
    (put (codes "states") (list_data (map state_data (kinds_of states))) ms)

-- how a group stands where its page begins, and who set what differs from its opening
abbrev pub with_shown : Shown → Members
with_shown shown = put (codes "pending") (number_data shown.pending)
    (put (codes "version") (number_data shown.version)
    (put (codes "sure") (lost_data shown.sure)
    (put (codes "network") (lost_data shown.network)
    (with_states shown.states no_members))))

unfoldable pub opening_data : Shown → Option Data → Data
opening_data shown causes = object (put_some (codes "causes") causes (with_shown shown))

abbrev pub begun_data : Group → List Entry → Data
begun_data g past = opening_data (shown_of g past) (causes_of g past)

-- these entries behind a journal, the oldest first
abbrev pub entries_data : Group → List (List ℕ) → List Entry → List Entry → List Data
entries_data g apps past [] = []
entries_data g apps past (entry ∷ later) = entry_data g apps past entry ∷ entries_data g apps (entry ∷ past) later

-- the bytes that one of a list takes, with a comma
abbrev pub size_of : Data → ℕ
size_of d = length (compact_text d) + 1

-- and those that a list of them takes
abbrev pub bytes_of : List Data → ℕ
bytes_of ds = sum_by size_of ds

-- the longest beginning of a list that takes at most so many bytes
abbrev pub fitting : ℕ → List Data → List Data
fitting room [] = []
fitting room (d ∷ ds) = if nat_le (size_of d) room then d ∷ fitting (room - size_of d) ds else []

-- how many entries stand before those of the page
abbrev pub first_of : ℕ → List Entry → ℕ
first_of from entries = min from (length entries)

-- the journal after its first n entries, the newest first
abbrev pub after : ℕ → List Entry → List Entry
after n entries = reverse (take n entries)

-- the entries that are shown: as many behind the first as there is room for
unfoldable pub shown_entries : Group → List (List ℕ) → ℕ → ℕ → List Entry → List Data
shown_entries g apps from room entries = fitting room (entries_data g apps (after from entries) (drop from entries))

unfoldable pub with_parts : Group → Members → Members
with_parts g ms = put (codes "promises") (list_data (map (promise_data g) (range_with_len 0 (length g.promises))))
    (put (codes "links") (list_data (map (link_data g) (range_with_len 0 (length g.links))))
    (put (codes "devices") (list_data (map (device_data g) (range_with_len 0 (length g.devices))))
    (put (codes "name") (string g.name) ms)))

unfoldable pub with_entries : Group → List (List ℕ) → ℕ → ℕ → List Entry → Members → Members
with_entries g apps from room entries ms = put (codes "entries") (list_data (shown_entries g apps from room entries))
    (put (codes "opening") (begun_data g (after from entries))
    (put (codes "total") (number_data (length entries))
    (put (codes "first") (number_data (first_of from entries)) ms)))

-- a group with its journal, the oldest entry first
unfoldable pub group_data : List (List ℕ) → ℕ → ℕ → Group → List Entry → Data
group_data apps from room g entries = object (with_entries g apps from room entries (with_parts g no_members))

-- the bytes that the entries of one of so many groups may take
abbrev pub room_of : ℕ → ℕ
room_of groups = MOST_BYTES / max groups 1

abbrev pub groups_data : List (List ℕ) → ℕ → ℕ → List Group → List (List Entry) → List Data
groups_data apps from room [] journals = []
groups_data apps from room (g ∷ groups) [] = []
groups_data apps from room (g ∷ groups) (entries ∷ journals) = group_data apps from room g entries ∷ groups_data apps from room groups journals

-- the whole picture: the names of the applications, and each group with its journal
unfoldable pub picture : List (List ℕ) → ℕ → List Group → List (List Entry) → Data
picture apps from groups journals = object (put (codes "groups") (list_data (groups_data apps from (room_of (length groups)) groups journals))
    (put (codes "apps") (list_data (map string apps))
    (put (codes "statesman") (number_data 1) no_members)))
