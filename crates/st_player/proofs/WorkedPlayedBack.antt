-- Worked examples: what is read of a page's data.
use Rattle.std.proofs.Common.{◌≡◌, ℕ, true, false, List, [], ◌∷◌, refl, codes}
use Rattle.std.specs.Prelude.{Some, None}
use Rattle.serde_json.specs.Data.{Data, Members, no_members, object, put, string}
use Rattle.st_player.specs.Json.{list_data, number_data, numbers_data}
use Rattle.st_player.specs.PlayedBack.{entries_in, first_in, holds_after, holds_at_opening, last_at, last_told, told_by_entry, told_by_opening, total_in}

abbrev word : List ℕ → List ℕ → Members → Members
word key text ms = put key (string text) ms

-- entity 1 fails, and then is told of; promise 0 is lost, and then is back
abbrev failing : Data
failing = object (put (codes "set") (list_data (object (put (codes "entity") (number_data 1) (word (codes "is") (codes "failed") no_members)) ∷ []))
    (put (codes "network") (object (put (codes "lost") (numbers_data (0 ∷ [])) no_members)) no_members))

abbrev told : Data
told = object (put (codes "set") (list_data (object (put (codes "entity") (number_data 1) (word (codes "known") (codes "settled") no_members)) ∷ []))
    (put (codes "version") (number_data 3)
    (put (codes "network") (object (put (codes "back") (numbers_data (0 ∷ [])) no_members)) no_members)))

-- a group of three entities, of which the first and the last stand alike, behind five entries of seven
abbrev opening : Data
opening = object (put (codes "states") (list_data (object (word (codes "is") (codes "up") no_members) ∷ object (word (codes "is") (codes "busy") no_members) ∷ []))
    (put (codes "of") (numbers_data (0 ∷ 1 ∷ 0 ∷ []))
    (put (codes "sure") (object (put (codes "lost") (numbers_data (1 ∷ [])) no_members)) no_members)))

abbrev group : Data
group = object (put (codes "opening") opening
    (put (codes "first") (number_data 5)
    (put (codes "total") (number_data 7)
    (put (codes "entries") (list_data (failing ∷ told ∷ [])) no_members))))

-- an entry tells of an entity what its change has
its_own : told_by_entry (codes "is") 1 failing ≡ Some (string (codes "failed"))
its_own = refl

of_another : told_by_entry (codes "is") 0 failing ≡ None
of_another = refl

of_another_key : told_by_entry (codes "known") 1 failing ≡ None
of_another_key = refl

-- what was told stays until it is told again
stays : last_told (codes "is") 1 (failing ∷ told ∷ []) (Some (string (codes "up"))) ≡ Some (string (codes "failed"))
stays = refl

untold : last_told (codes "is") 0 (failing ∷ told ∷ []) (Some (string (codes "up"))) ≡ Some (string (codes "up"))
untold = refl

changes : last_told (codes "known") 1 (failing ∷ told ∷ []) (Some (string (codes "sure"))) ≡ Some (string (codes "settled"))
changes = refl

-- an opening tells by the place that stands for the entity
opens : told_by_opening (codes "is") 2 group ≡ Some (string (codes "up"))
opens = refl

opens_busy : told_by_opening (codes "is") 1 group ≡ Some (string (codes "busy"))
opens_busy = refl

opens_no_more : told_by_opening (codes "is") 3 group ≡ None
opens_no_more = refl

-- a group tells how many entries stand before those that it shows, and how many there are
first : first_in group ≡ 5
first = refl

total : total_in group ≡ 7
total = refl

entries : entries_in group ≡ failing ∷ told ∷ []
entries = refl

-- and nothing of what it does not have
no_first : first_in opening ≡ 0
no_first = refl

no_entries : entries_in opening ≡ []
no_entries = refl

-- a promise holds at the opening where it is not lost there
held_at_opening : holds_at_opening (codes "sure") 0 group ≡ true
held_at_opening = refl

lost_at_opening : holds_at_opening (codes "sure") 1 group ≡ false
lost_at_opening = refl

-- the version is that of the last entry that has one
version : last_at (codes "version") (failing ∷ told ∷ []) (Some (number_data 2)) ≡ Some (number_data 3)
version = refl

version_stays : last_at (codes "version") (failing ∷ []) (Some (number_data 2)) ≡ Some (number_data 2)
version_stays = refl

-- a promise holds by the last entry that names it
lost : holds_after (codes "network") 0 (failing ∷ []) true ≡ false
lost = refl

back : holds_after (codes "network") 0 (failing ∷ told ∷ []) true ≡ true
back = refl

other : holds_after (codes "network") 1 (failing ∷ []) true ≡ true
other = refl

other_set : holds_after (codes "sure") 0 (failing ∷ []) true ≡ true
other_set = refl
