-- One entity's changes replaced among those of all, with the room beside them.
use Rattle.std.proofs.Common.{◌≡◌, ℕ, zero, suc, ◌<◌, ◌≤◌, ◌+◌, List, [], ◌∷◌, ◌++◌, length, map, get_or, set, take, replicate, refl, sym, ap, ◌∙◌, arith}
use Rattle.std.specs.Prelude.{Bool, true, false, All}
use Rattle.std.proofs.lemmas.List.{length-map, map-append, map-set, get_or-map, take_more, replicate_more}
use Rattle.std.proofs.lemmas.List.Elements.{All-push}
use Rattle.st_net.specs.declared.entity.Entity.TheVariants.{Device, Link}
use Rattle.st_net.specs.declared.entity.Row.{Row}
use Rattle.st_store.specs.declared.change.Change.{Change}
use Rattle.st_store.specs.declared.change.EntityChanges.{EntityChanges}
use Rattle.st_store.specs.Changes.{is_last_at, with_change}
use Rattle.st_store.specs.declared.change_table.ChangeTable.{ChangeTable}
use Rattle.st_store.specs.Rooms.{changes_in, room_in, room_at, HasMoreRoom, HasRoomFor, IsReadyFor, StaysReady}
use Rattle.st_store.proofs.ChangeLaws.{is_last_at-with_change}

pub within : {X Y : Type 0} (f : X → Y) (xs : List X) (i : ℕ) → i < length (map f xs) → i < length xs
within f xs i lt = rw (← length-map xs f) lt

-- an item that f sees as the one before
pub map-set_same : {X Y : Type 0} (f : X → Y) (xs : List X) (i : ℕ) (y d : X) → i < length xs → f y ≡ f (get_or xs i d) → map f (set xs i y) ≡ map f xs
map-set_same f [] i y d lt same = absurd (omega arith)
map-set_same f (x ∷ xs) zero y d lt same = ap (λ here. here ∷ map f xs) same
map-set_same f (x ∷ xs) (suc i) y d lt same = ap (λ rest. f x ∷ rest) (map-set_same f xs i y d (omega arith) same)

pub get_or-map-set : {X : Type 0} (f : X → ℕ) (xs : List X) (i : ℕ) (y : X) → i < length xs → get_or (map f (set xs i y)) i 0 ≡ f y
get_or-map-set f [] i y lt = absurd (omega arith)
get_or-map-set f (x ∷ xs) zero y lt = refl
get_or-map-set f (x ∷ xs) (suc i) y lt = get_or-map-set f xs i y (omega arith)

-- an item of which f is no less
pub map-set_grown : {X : Type 0} (f : X → ℕ) (xs : List X) (i j : ℕ) (y d : X) → i < length xs → f (get_or xs i d) ≤ f y → get_or (map f xs) j 0 ≤ get_or (map f (set xs i y)) j 0
map-set_grown f [] i j y d lt le = absurd (omega arith)
map-set_grown f (x ∷ xs) zero zero y d lt le = le
map-set_grown f (x ∷ xs) zero (suc j) y d lt le = omega arith
map-set_grown f (x ∷ xs) (suc i) zero y d lt le = omega arith
map-set_grown f (x ∷ xs) (suc i) (suc j) y d lt le = map-set_grown f xs i j y d (omega arith) le

-- one entity's changes with one more
pub map-set_changed : (xs : List EntityChanges) (i : ℕ) (y d : EntityChanges) (c : Change) → i < length xs → changes_in y ≡ with_change (changes_in (get_or xs i d)) c → map changes_in (set xs i y) ≡ set (map changes_in xs) i (with_change (get_or (map changes_in xs) i []) c)
map-set_changed xs i y d c lt is =
    map-set changes_in xs i y
    ∙ ap (λ (cs : List Change). set (map changes_in xs) i cs) (is ∙ ap (λ (cs : List Change). with_change cs c) (sym (get_or-map changes_in xs i d [] lt)))

clash : (b : Bool) → b ≡ true → b ≡ false → ⊥
clash b is not = cc

-- it is ready for more changes of that version, and the others are as they were
pub ready_set : (xs : List EntityChanges) (i j n : ℕ) (y : EntityChanges) → i < length xs → is_last_at (changes_in y) n ≡ true → (is_last_at (get_or (map changes_in xs) j []) n ≡ false → 0 < get_or (map room_in xs) j 0) → is_last_at (get_or (map changes_in (set xs i y)) j []) n ≡ false → 0 < get_or (map room_in (set xs i y)) j 0
ready_set [] i j n y lt last was not = absurd (omega arith)
ready_set (x ∷ xs) zero zero n y lt last was not = absurd (clash (is_last_at (changes_in y) n) last not)
ready_set (x ∷ xs) zero (suc j) n y lt last was not = was not
ready_set (x ∷ xs) (suc i) zero n y lt last was not = was not
ready_set (x ∷ xs) (suc i) (suc j) n y lt last was not = ready_set xs i j n y (omega arith) last was not

-- changes to which one was entered end with it
pub entered_last : (y : EntityChanges) (cs : List Change) (c : Change) → changes_in y ≡ with_change cs c → is_last_at (changes_in y) c.version ≡ true
entered_last y cs c is = ap (λ (changes : List Change). is_last_at changes c.version) is ∙ is_last_at-with_change cs c

at_most_itself : (n : ℕ) → n ≤ n
at_most_itself n = omega arith

-- one device's changes, or one link's, have more room, and all others as much as before
pub grown_devices : (old new : ChangeTable) (i : ℕ) (y d : EntityChanges) → i < length old.devices.items → room_in (get_or old.devices.items i d) ≤ room_in y → new.devices.items ≡ set old.devices.items i y → new.links.items ≡ old.links.items → HasMoreRoom old new
grown_devices old new i y d lt le devices links (Device j) = rw devices (map-set_grown room_in old.devices.items i j y d lt le)
grown_devices old new i y d lt le devices links (Link j) = rw links (at_most_itself (get_or (map room_in old.links.items) j 0))

pub grown_links : (old new : ChangeTable) (i : ℕ) (y d : EntityChanges) → i < length old.links.items → room_in (get_or old.links.items i d) ≤ room_in y → new.links.items ≡ set old.links.items i y → new.devices.items ≡ old.devices.items → HasMoreRoom old new
grown_links old new i y d lt le links devices (Link j) = rw links (map-set_grown room_in old.links.items i j y d lt le)
grown_links old new i y d lt le links devices (Device j) = rw devices (at_most_itself (get_or (map room_in old.devices.items) j 0))

-- one device's changes, or one link's, end with that version, and all others are as before
pub ready_devices : (old new : ChangeTable) (i n : ℕ) (y : EntityChanges) → i < length old.devices.items → is_last_at (changes_in y) n ≡ true → new.devices.items ≡ set old.devices.items i y → new.links.items ≡ old.links.items → StaysReady n old new
ready_devices old new i n y lt last devices links (Device j) was = rw devices (ready_set old.devices.items i j n y lt last was)
ready_devices old new i n y lt last devices links (Link j) was = rw links was

pub ready_links : (old new : ChangeTable) (i n : ℕ) (y : EntityChanges) → i < length old.links.items → is_last_at (changes_in y) n ≡ true → new.links.items ≡ set old.links.items i y → new.devices.items ≡ old.devices.items → StaysReady n old new
ready_links old new i n y lt last links devices (Link j) was = rw links (ready_set old.links.items i j n y lt last was)
ready_links old new i n y lt last links devices (Device j) was = rw devices was

-- the rows so far, and one more
pub room_next : (old new : ChangeTable) (rows : List Row) (i : ℕ) (d : Row) → i < length rows → HasMoreRoom old new → 0 < room_at new (get_or rows i d).entity → All (HasRoomFor old) (take i rows) → All (HasRoomFor new) (take (i + 1) rows)
room_next old new rows i d lt more room all =
    let before : All (HasRoomFor new) (take i rows) = λ k d lt. at_least (room_at old (get_or (take i rows) k d).entity) (room_at new (get_or (take i rows) k d).entity) (all k d lt) (more (get_or (take i rows) k d).entity) in
    rw (take_more rows i d lt) (All-push (HasRoomFor new) (take i rows) (get_or rows i d) before room)
  where
    at_least : (m n : ℕ) → 0 < m → m ≤ n → 0 < n
    at_least m n some le = omega arith

-- with room for a change any may be entered
pub ready_with_room : (n : ℕ) (t : ChangeTable) (rows : List Row) → All (HasRoomFor t) rows → All (IsReadyFor n t) rows
ready_with_room n t rows all = λ k d lt not. all k d lt

-- one more list without a change
pub unchanged_more : (xs more : List EntityChanges) (x : EntityChanges) (n : ℕ) → map changes_in xs ≡ replicate n [] → changes_in x ≡ [] → more ≡ xs ++ x ∷ [] → map changes_in more ≡ replicate (n + 1) []
unchanged_more xs more x n so_far none pushed =
    ap (map changes_in) pushed ∙ map-append changes_in xs (x ∷ [])
    ∙ ap (λ (lists : List (List Change)). lists ++ changes_in x ∷ []) so_far
    ∙ ap (λ (changes : List Change). replicate n [] ++ changes ∷ []) none
    ∙ replicate_more n []
