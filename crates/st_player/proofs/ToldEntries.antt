-- What stands at the keys of an entry's words: why it refuses, and which entry gave its ticket.
use Rattle.std.proofs.Common.{◌≡◌, ◌∙◌, ◌+◌, ◌∷◌, ℕ, List, false, refl, codes, length, map}
use Rattle.std.specs.Prelude.{bytes_eq, not, option_map, ◌==◌}
use Rattle.serde_json.specs.Data.{Members, no_members, put, string}
use Rattle.serde_json.specs.Find.{get, get_member}
use Rattle.serde_json.proofs.Views.{get_member-put_other}
use Rattle.st_net.specs.Groups.{Group}
use Rattle.st_event.specs.declared.journal.Entry.{Entry}
use Rattle.st_player.specs.Entries.{about, asked_of, entry_data, entry_words, line_of, told_data, turned_of}
use Rattle.st_player.specs.Fields.{changes_from}
use Rattle.st_player.specs.Json.{number_data, put_list, put_some}
use Rattle.st_player.specs.Refusals.{refused_of}
use Rattle.st_player.specs.Snapshots.{Shown, shown_of}
use Rattle.st_player.proofs.PartLemmas.{not_same}
use Rattle.st_player.proofs.PlayedBack.{apart_list, apart_some, apart_where}
use Rattle.st_player.proofs.PlayedCounts.{some_put, told_all, with_network, with_set, with_sure, with_version}

-- what differs stands at other keys
past_changes : (k : List ℕ) (old new : Shown) (ms : Members) → bytes_eq k (codes "set") ≡ false → bytes_eq k (codes "network") ≡ false → bytes_eq k (codes "sure") ≡ false → bytes_eq k (codes "version") ≡ false → bytes_eq k (codes "pending") ≡ false
    → get k (told_data old new ms) ≡ get_member k ms
past_changes k old new ms no_set no_network no_sure no_version no_pending =
    told_all k old new ms
    ∙ (apart_where k (codes "pending") (not (old.pending == new.pending)) (number_data new.pending) (with_version old new ms) no_pending
    ∙ (apart_where k (codes "version") (not (old.version == new.version)) (number_data new.version) (with_sure old new ms) no_version
    ∙ (apart_some k (codes "sure") (turned_of old.sure new.sure) (with_network old new ms) no_sure
    ∙ (apart_some k (codes "network") (turned_of old.network new.network) (with_set old new ms) no_network
    ∙ apart_list k (codes "set") (changes_from 0 old.states new.states) ms no_set))))

abbrev with_line : Group → List (List ℕ) → List Entry → Entry → Members
with_line g apps past entry = put (codes "line") (string (line_of g apps (length past + 1) entry)) no_members

abbrev with_on : Group → List (List ℕ) → List Entry → Entry → Members
with_on g apps past entry = put_list (codes "on") (map number_data (about g past entry)) (with_line g apps past entry)

abbrev with_asked : Group → List (List ℕ) → List Entry → Entry → Members
with_asked g apps past entry = put_some (codes "asked") (option_map number_data (asked_of past entry.event entry.reply)) (with_on g apps past entry)

pub refused_in : (g : Group) (apps : List (List ℕ)) (past : List Entry) (entry : Entry) → get (codes "refused") (entry_data g apps past entry) ≡ refused_of g past entry.event entry.reply
unfolding entry_data entry_words
refused_in g apps past entry =
    let key = codes "refused" in
    past_changes key (shown_of g past) (shown_of g (entry ∷ past)) (entry_words g apps past entry) refl refl refl refl refl
    ∙ some_put key (refused_of g past entry.event entry.reply) (with_asked g apps past entry)
    (apart_some key (codes "asked") (option_map number_data (asked_of past entry.event entry.reply)) (with_on g apps past entry) refl
    ∙ (apart_list key (codes "on") (map number_data (about g past entry)) (with_line g apps past entry) refl
    ∙ get_member-put_other key (codes "line") (string (line_of g apps (length past + 1) entry)) no_members (not_same key (codes "line") refl)))

pub asked_in : (g : Group) (apps : List (List ℕ)) (past : List Entry) (entry : Entry) → get (codes "asked") (entry_data g apps past entry) ≡ option_map number_data (asked_of past entry.event entry.reply)
unfolding entry_data entry_words
asked_in g apps past entry =
    let key = codes "asked" in
    past_changes key (shown_of g past) (shown_of g (entry ∷ past)) (entry_words g apps past entry) refl refl refl refl refl
    ∙ (apart_some key (codes "refused") (refused_of g past entry.event entry.reply) (with_asked g apps past entry) refl
    ∙ some_put key (option_map number_data (asked_of past entry.event entry.reply)) (with_on g apps past entry)
    (apart_list key (codes "on") (map number_data (about g past entry)) (with_line g apps past entry) refl
    ∙ get_member-put_other key (codes "line") (string (line_of g apps (length past + 1) entry)) no_members (not_same key (codes "line") refl)))
