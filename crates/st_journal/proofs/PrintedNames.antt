-- The names of applications and of groups are read as what they were printed for: none of them stands twice.
use Rattle.std.proofs.Common.{◌≡◌, ℕ, ◌<◌, List, [], length, refl}
use Rattle.std.specs.Prelude.{true, slice_index_or, Ok}
use Rattle.st_net.specs.declared.entity.AppId.{AppId}
use Rattle.st_net.specs.declared.entity.Entity.{Entity}
use Rattle.st_net.specs.Names.{is_name}
use Rattle.st_net.specs.Groups.{Group, IsSound, IsEntityOf, name_of, find_in}
use Rattle.st_token.specs.Spelling.{known_name_in, entity_in}
use Rattle.st_token.proofs.PrintedTokens.{known_name_again, entity_again}
use Rattle.st_token.proofs.FoundNames.{named, spelled_at, place_at}
use Rattle.st_entry.specs.Words.{app_word}
use Rattle.st_journal.specs.EventReading.{app_in}
use Rattle.st_journal.specs.ReadingBack.{AreNames}

pub name_again : (names : List (List ℕ)) (k : ℕ) → AreNames names → k < length names → known_name_in names (slice_index_or names k []) ≡ Ok k
name_again names k are low = known_name_again names (slice_index_or names k []) k (spelled_at names k are.spelled low) (place_at [] names k are.new low)

pub app_spelled : (apps : List (List ℕ)) (app : AppId) → AreNames apps → app.0 < length apps → is_name (app_word apps app) ≡ true
app_spelled apps app are low = spelled_at apps app.0 are.spelled low

pub app_again : (apps : List (List ℕ)) (app : AppId) → AreNames apps → app.0 < length apps → app_in apps (app_word apps app) ≡ Ok app
unfolding app_in
app_again apps app are low = rw (name_again apps app.0 are low) refl

pub entity_spelled : (g : Group) (e : Entity) → IsSound g → IsEntityOf g e → is_name (name_of g e) ≡ true
entity_spelled g e sound low = (named g e sound low).spelled

pub entity_name_again : (g : Group) (e : Entity) → IsSound g → IsEntityOf g e → entity_in (find_in g) (name_of g e) ≡ Ok e
entity_name_again g e sound low = let known = named g e sound low in entity_again (find_in g) (name_of g e) e known.spelled known.found
