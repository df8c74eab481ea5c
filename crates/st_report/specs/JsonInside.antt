-- Of no concern to callers: the value that is printed as JSON.
use Rattle.std.specs.Prelude.{ℕ, Bool, ◌&&◌, List, [], ◌∷◌, map, drop, codes}
use Rattle.std.specs.List.{list_all}
use Rattle.serde_json.specs.Data.{Data, number, unsigned, string, array, object, Items, no_items, item, Members, member, no_members, put}
use Rattle.st_report.specs.declared.report.Summary.{Summary}
use Rattle.st_report.specs.declared.report.WireCounts.{WireCounts}
use Rattle.st_entry.specs.Plain.{is_plain}

-- no text of what was gathered of a group needs an escape
abbrev pub is_plain_summary : Summary → Bool
is_plain_summary s = is_plain s.name
    && (list_all is_plain s.locks && (list_all is_plain s.lost && (list_all is_plain s.receipts
    && (list_all is_plain s.targets && (list_all is_plain s.unsettled && list_all is_plain s.withdrawn)))))

-- texts without the space that each begins with
abbrev pub without_space : List (List ℕ) → List (List ℕ)
without_space texts = map (drop 1) texts

abbrev pub strings : List (List ℕ) → Items
strings [] = no_items
strings (text ∷ more) = item (string text) (strings more)

abbrev pub lines_data : List (List ℕ) → Data
lines_data texts = array (strings (without_space texts))

abbrev pub wire_data : WireCounts → Data
wire_data w = object (member (codes "commands") (number (unsigned w.commands))
    (member (codes "old") (number (unsigned w.old))
    (member (codes "reports") (number (unsigned w.reports))
    (member (codes "stale") (number (unsigned w.stale)) no_members))))

-- four members after four, and five at the end
abbrev pub with_front : Summary → Members → Members
with_front s ms = put (codes "name") (string s.name)
    (put (codes "lost") (lines_data s.lost)
    (put (codes "locks") (lines_data s.locks)
    (put (codes "entries") (number (unsigned s.entries)) ms)))

abbrev pub with_middle : Summary → Members → Members
with_middle s ms = put (codes "start") (number (unsigned s.promises.held_at_start))
    (put (codes "receipts") (lines_data s.receipts)
    (put (codes "promises") (number (unsigned s.promises.count))
    (put (codes "now") (number (unsigned s.promises.held_at_end)) ms)))

abbrev pub with_back : Summary → Members → Members
with_back s ms = put (codes "withdrawn") (lines_data s.withdrawn)
    (put (codes "wire") (wire_data s.wire)
    (put (codes "version") (number (unsigned s.version))
    (put (codes "unsettled") (lines_data s.unsettled)
    (put (codes "targets") (lines_data s.targets) ms))))

abbrev pub group_data : Summary → Data
group_data s = object (with_back s (with_middle s (with_front s no_members)))

abbrev pub groups_data : List Summary → Items
groups_data [] = no_items
groups_data (s ∷ more) = item (group_data s) (groups_data more)

abbrev pub report_data : List Summary → List (List ℕ) → Data
report_data groups reads = object (member (codes "groups") (array (groups_data groups))
    (member (codes "reads") (lines_data reads) (member (codes "statesman") (number (unsigned 1)) no_members)))
