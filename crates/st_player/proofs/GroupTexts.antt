-- The texts of a group and of a picture, from those of their parts.
use Rattle.std.proofs.Common.{◌≡◌, ◌∙◌, ℕ, true, false, List, [], ◌∷◌, ◌++◌, length, map, refl, sym, ap, ap₂, take, drop, codes, append_assoc}
use Rattle.std.specs.Prelude.{decimal, reverse}
use Rattle.std.specs.Fmt.{digits}
use Rattle.std.specs.List.{range_with_len}
use Rattle.json.specs.Print.{quoted}
use Rattle.serde_json.specs.Data.{Data, Members, no_members, member, object, string}
use Rattle.serde_json.specs.View.{items_of}
use Rattle.serde_json.specs.Written.{compact_text, items_text, members_text}
use Rattle.st_net.specs.Groups.{Group}
use Rattle.st_event.specs.declared.journal.Entry.{Entry}
use Rattle.st_event.specs.History.{History}
use Rattle.st_player.specs.Joined.{HasMembers, joined}
use Rattle.st_player.specs.Json.{list_data, number_data}
use Rattle.st_player.specs.Pictures.{after, begun_data, device_data, entries_data, first_of, fitting, group_data, groups_data, picture, room_of, shown_entries, with_entries, with_parts}
use Rattle.st_player.specs.PictureTexts.{group_head, with_beginning, with_other_parts}
use Rattle.st_player.specs.Shown.{is_shown}
use Rattle.st_player.proofs.JoinLemmas.{items_joined}
use Rattle.st_player.proofs.SafeLemmas.{quoted_plain, shown_join}

-- what is written one behind another
pub three_more : (old a b c one two new : List ℕ) → one ≡ old ++ a → two ≡ one ++ b → new ≡ two ++ c → new ≡ old ++ (a ++ (b ++ c))
three_more old a b c one two new first second third =
    third
    ∙ (ap (λ (s : List ℕ). s ++ c) (second ∙ ap (λ (s : List ℕ). s ++ b) first)
    ∙ (append_assoc (old ++ a) b c ∙ append_assoc old a (b ++ c)))

pub four_more : (old a b c d one two three new : List ℕ) → one ≡ old ++ a → two ≡ one ++ b → three ≡ two ++ c → new ≡ three ++ d → new ≡ old ++ (a ++ (b ++ (c ++ d)))
four_more old a b c d one two three new first second third fourth =
    three_more one b c d two three new second third fourth
    ∙ (ap (λ (s : List ℕ). s ++ (b ++ (c ++ d))) first ∙ append_assoc old a (b ++ (c ++ d)))

-- what stands in an object before a list, the list, and the members behind it
list_text : (mid : List ℕ) (ds : List Data) (rest : List ℕ) → mid ++ (joined ds ++ (93 ∷ rest)) ≡ mid ++ (items_text false (items_of ds) ++ rest)
list_text mid ds rest = ap (λ (s : List ℕ). mid ++ s) (sym (append_assoc (joined ds) (93 ∷ []) rest) ∙ ap (λ (s : List ℕ). s ++ rest) (sym (items_joined ds)))

-- the members of a group that stand behind its entries
abbrev pub group_rest : Group → ℕ → List Entry → Members
group_rest g from entries = with_beginning (first_of from entries) (length entries) (begun_data g (after from entries)) (with_other_parts g no_members)

pub rest_members : (g : Group) (from : ℕ) (entries : List Entry) → HasMembers (group_rest g from entries)
unfolding with_beginning with_other_parts
rest_members g from entries = tt

-- what is put of a group that went through its first entries
pub rest_is : (g : Group) (from : ℕ) (entries : List Entry) (h : History) (front : List Entry) (first : ℕ) (parts ms : Members) → h ≡ record { group = g; past = reverse front } → front ≡ take from entries → first ≡ first_of from entries
    → parts ≡ with_other_parts g no_members → ms ≡ with_beginning first (length entries) (begun_data h.group h.past) parts → ms ≡ group_rest g from entries
rest_is g from entries h front first parts ms h_is front_is first_is parts_is put =
    put
    ∙ (ap (λ (k : History). with_beginning first (length entries) (begun_data k.group k.past) parts) h_is
    ∙ (ap (λ (es : List Entry). with_beginning first (length entries) (begun_data g (reverse es)) parts) front_is
    ∙ ap₂ (λ (n : ℕ) (ms : Members). with_beginning n (length entries) (begun_data g (after from entries)) ms) first_is parts_is))

-- and of the entries behind
pub told_is : (g : Group) (apps : List (List ℕ)) (from room : ℕ) (entries : List Entry) (h : History) (front back : List Entry) → h ≡ record { group = g; past = reverse front } → front ≡ take from entries → back ≡ drop from entries
    → fitting room (entries_data h.group apps h.past back) ≡ shown_entries g apps from room entries
unfolding shown_entries
told_is g apps from room entries h front back h_is front_is back_is =
    ap (λ (k : History). fitting room (entries_data k.group apps k.past back)) h_is
    ∙ ap₂ (λ (f b : List Entry). fitting room (entries_data g apps (reverse f) b)) front_is back_is

group_shape : (apps : List (List ℕ)) (from room : ℕ) (g : Group) (entries : List Entry) → group_data apps from room g entries
    ≡ object (member (codes "devices") (list_data (map (device_data g) (range_with_len 0 (length g.devices)))) (member (codes "entries") (list_data (shown_entries g apps from room entries)) (group_rest g from entries)))
unfolding group_data with_entries with_parts with_beginning with_other_parts
group_shape apps from room g entries = refl

devices_text : (d : Data) (ds : List Data) (ms : Members)
    → (codes "{\"devices\":" ++ (compact_text d ++ codes ",\"entries\":[")) ++ (joined ds ++ (93 ∷ members_text true ms)) ≡ compact_text (object (member (codes "devices") d (member (codes "entries") (list_data ds) ms)))
devices_text d ds ms =
    let behind : List ℕ = items_text false (items_of ds) ++ members_text true ms in
    ap (λ (s : List ℕ). codes "{\"devices\":" ++ s)
    (append_assoc (compact_text d) (codes ",\"entries\":[") (joined ds ++ (93 ∷ members_text true ms))
    ∙ ap (λ (s : List ℕ). compact_text d ++ s) (list_text (codes ",\"entries\":[") ds (members_text true ms) ∙ ap (λ (key : List ℕ). 44 ∷ (key ++ 58 ∷ 91 ∷ behind)) (sym (quoted_plain (codes "entries") refl))))
    ∙ ap (λ (key : List ℕ). 123 ∷ (key ++ 58 ∷ (compact_text d ++ (44 ∷ (quoted (codes "entries") ++ 58 ∷ 91 ∷ behind))))) (sym (quoted_plain (codes "devices") refl))

pub group_text : (apps : List (List ℕ)) (from room : ℕ) (g : Group) (entries : List Entry)
    → group_head g ++ (joined (shown_entries g apps from room entries) ++ (93 ∷ members_text true (group_rest g from entries))) ≡ compact_text (group_data apps from room g entries)
unfolding group_head
group_text apps from room g entries =
    devices_text (list_data (map (device_data g) (range_with_len 0 (length g.devices)))) (shown_entries g apps from room entries) (group_rest g from entries)
    ∙ ap compact_text (sym (group_shape apps from room g entries))

pub group_shown : (apps : List (List ℕ)) (from room : ℕ) (g : Group) (entries : List Entry) → is_shown (group_head g) ≡ true → is_shown (joined (shown_entries g apps from room entries)) ≡ true
    → is_shown (members_text true (group_rest g from entries)) ≡ true → is_shown (compact_text (group_data apps from room g entries)) ≡ true
group_shown apps from room g entries head told rest =
    sym (ap is_shown (group_text apps from room g entries))
    ∙ shown_join (group_head g) (joined (shown_entries g apps from room entries) ++ (93 ∷ members_text true (group_rest g from entries))) head
    (shown_join (joined (shown_entries g apps from room entries)) (93 ∷ members_text true (group_rest g from entries)) told rest)

-- the text of a picture
abbrev pub picture_head : List (List ℕ) → List ℕ
picture_head apps = codes "{\"apps\":" ++ (compact_text (list_data (map string apps)) ++ codes ",\"groups\":[")

abbrev pub picture_end : List ℕ
picture_end = codes "],\"statesman\":1}"

one_digit : decimal 1 ≡ 49 ∷ []
unfolding digits
one_digit = refl

version_text : members_text true (member (codes "statesman") (number_data 1) no_members) ≡ codes ",\"statesman\":1}"
version_text = ap₂ (λ (key n : List ℕ). 44 ∷ (key ++ 58 ∷ (n ++ 125 ∷ []))) (quoted_plain (codes "statesman") refl) one_digit

names_text : (d : Data) (ds : List Data)
    → (codes "{\"apps\":" ++ (compact_text d ++ codes ",\"groups\":[")) ++ (joined ds ++ picture_end)
    ≡ compact_text (object (member (codes "apps") d (member (codes "groups") (list_data ds) (member (codes "statesman") (number_data 1) no_members))))
names_text d ds =
    let last : List ℕ = members_text true (member (codes "statesman") (number_data 1) no_members) in
    let behind : List ℕ = items_text false (items_of ds) ++ last in
    ap (λ (s : List ℕ). codes "{\"apps\":" ++ s)
    (append_assoc (compact_text d) (codes ",\"groups\":[") (joined ds ++ picture_end)
    ∙ ap (λ (s : List ℕ). compact_text d ++ s)
    (ap (λ (s : List ℕ). codes ",\"groups\":[" ++ (joined ds ++ (93 ∷ s))) (sym version_text)
    ∙ (list_text (codes ",\"groups\":[") ds last ∙ ap (λ (key : List ℕ). 44 ∷ (key ++ 58 ∷ 91 ∷ behind)) (sym (quoted_plain (codes "groups") refl)))))
    ∙ ap (λ (key : List ℕ). 123 ∷ (key ++ 58 ∷ (compact_text d ++ (44 ∷ (quoted (codes "groups") ++ 58 ∷ 91 ∷ behind))))) (sym (quoted_plain (codes "apps") refl))

pub picture_text : (apps : List (List ℕ)) (from : ℕ) (groups : List Group) (journals : List (List Entry))
    → picture_head apps ++ (joined (groups_data apps from (room_of (length groups)) groups journals) ++ picture_end) ≡ compact_text (picture apps from groups journals)
unfolding picture
picture_text apps from groups journals = names_text (list_data (map string apps)) (groups_data apps from (room_of (length groups)) groups journals)

pub picture_shown : (apps : List (List ℕ)) (from : ℕ) (groups : List Group) (journals : List (List Entry)) → is_shown (compact_text (list_data (map string apps))) ≡ true
    → is_shown (joined (groups_data apps from (room_of (length groups)) groups journals)) ≡ true → is_shown (compact_text (picture apps from groups journals)) ≡ true
picture_shown apps from groups journals names told =
    let names_data = compact_text (list_data (map string apps)) in
    let ds = joined (groups_data apps from (room_of (length groups)) groups journals) in
    sym (ap is_shown (picture_text apps from groups journals))
    ∙ shown_join (picture_head apps) (ds ++ picture_end) (shown_join names_data (codes ",\"groups\":[") names refl) (shown_join ds picture_end told refl)
