-- What stands at the keys of a group's data.
use Rattle.std.proofs.Common.{◌≡◌, ◌∙◌, ℕ, List, [], ◌∷◌, refl, ap, codes, length, drop}
use Rattle.std.specs.Prelude.{Some, reverse, option_and_then}
use Rattle.std.proofs.lemmas.List.{take_min, drop_min}
use Rattle.serde_json.specs.Data.{Data}
use Rattle.serde_json.specs.Find.{get}
use Rattle.serde_json.specs.View.{items_of}
use Rattle.st_net.specs.Groups.{Group}
use Rattle.st_event.specs.declared.journal.Entry.{Entry}
use Rattle.st_player.specs.Json.{list_data, number_data}
use Rattle.st_player.specs.Pictures.{after, begun_data, first_of, group_data, shown_entries, with_entries, with_parts}
use Rattle.st_player.specs.PlayedBack.{at_opening, entries_in, first_in, list_in, listed, number_in, total_in}

-- a list of data, read back
pub listed_back : (ds : List Data) → listed (items_of ds) ≡ ds
listed_back [] = refl
listed_back (d ∷ ds) = ap (λ (xs : List Data). d ∷ xs) (listed_back ds)

entries_at : (apps : List (List ℕ)) (from room : ℕ) (g : Group) (entries : List Entry) → get (codes "entries") (group_data apps from room g entries) ≡ Some (list_data (shown_entries g apps from room entries))
unfolding group_data with_entries with_parts
entries_at apps from room g entries = refl

pub entries_told : (apps : List (List ℕ)) (from room : ℕ) (g : Group) (entries : List Entry) → entries_in (group_data apps from room g entries) ≡ shown_entries g apps from room entries
entries_told apps from room g entries = ap list_in (entries_at apps from room g entries) ∙ listed_back (shown_entries g apps from room entries)

first_at : (apps : List (List ℕ)) (from room : ℕ) (g : Group) (entries : List Entry) → get (codes "first") (group_data apps from room g entries) ≡ Some (number_data (first_of from entries))
unfolding group_data with_entries with_parts
first_at apps from room g entries = refl

pub first_told : (apps : List (List ℕ)) (from room : ℕ) (g : Group) (entries : List Entry) → first_in (group_data apps from room g entries) ≡ first_of from entries
first_told apps from room g entries = ap number_in (first_at apps from room g entries)

total_at : (apps : List (List ℕ)) (from room : ℕ) (g : Group) (entries : List Entry) → get (codes "total") (group_data apps from room g entries) ≡ Some (number_data (length entries))
unfolding group_data with_entries with_parts
total_at apps from room g entries = refl

pub total_told : (apps : List (List ℕ)) (from room : ℕ) (g : Group) (entries : List Entry) → total_in (group_data apps from room g entries) ≡ length entries
total_told apps from room g entries = ap number_in (total_at apps from room g entries)

opening_is : (apps : List (List ℕ)) (from room : ℕ) (g : Group) (entries : List Entry) → get (codes "opening") (group_data apps from room g entries) ≡ Some (begun_data g (after from entries))
unfolding group_data with_entries with_parts
opening_is apps from room g entries = refl

pub opening_told : (key : List ℕ) (apps : List (List ℕ)) (from room : ℕ) (g : Group) (entries : List Entry) → at_opening key (group_data apps from room g entries) ≡ get key (begun_data g (after from entries))
opening_told key apps from room g entries = ap (option_and_then (get key)) (opening_is apps from room g entries)

-- the first that are told are those before the page
pub after_first : (from : ℕ) (entries : List Entry) → after (first_of from entries) entries ≡ after from entries
after_first from entries = ap reverse (take_min from entries)

pub behind_first : (from : ℕ) (entries : List Entry) → drop (first_of from entries) entries ≡ drop from entries
behind_first from entries = drop_min from entries
