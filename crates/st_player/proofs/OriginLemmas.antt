-- What became of each entity is kept on the way through a journal.
use Rattle.std.proofs.Common.{◌≡◌, ◌∙◌, ℕ, zero, suc, ◌+◌, ◌<◌, true, false, Bool, Some, None, Option, List, [], ◌∷◌, length, get_or, set, drop, refl, sym, ap, arith, replicate}
use Rattle.std.specs.Prelude.{All, ◌&&◌, ◌||◌, ◌==◌, if◌then◌else◌}
use Rattle.std.proofs.lemmas.List.{drop_more}
use Rattle.st_net.specs.declared.entity.Entity.{Entity}
use Rattle.st_net.specs.declared.entity.Row.{Row}
use Rattle.st_net.specs.Entities.{is_same_entity}
use Rattle.st_net.specs.Groups.{Group, IsEntityOf, IsSound}
use Rattle.st_net.specs.InOrder.{entity_count, item_in, place_in}
use Rattle.st_net.specs.Ranges.{RowFits}
use Rattle.st_net.proofs.Tests.{same_entity}
use Rattle.st_net.proofs.InOrder.{item_in_at, item_in-set}
use Rattle.st_event.specs.declared.event.Event.{Event}
use Rattle.st_event.specs.declared.event.Event.TheVariants.{Check, Fail, Withdraw}
use Rattle.st_event.specs.declared.journal.Entry.{Entry}
use Rattle.st_event.specs.declared.reply.Reply.{Reply}
use Rattle.st_event.specs.Legal.{Fits, IsLegal, IsNext}
use Rattle.st_player.specs.declared.origins.Failure.{Failure}
use Rattle.st_player.specs.declared.origins.Origin.{Origin}
use Rattle.st_player.specs.declared.origins.Setter.{Setter}
use Rattle.st_player.specs.Causes.{failure_after, failure_of, is_set_by, is_set_in, next_setter, origin_of, overlay_of, setter_of, var_place}
use Rattle.st_player.specs.Origins.{AreOrigins, failed_origins, no_origin, origin_at, origins_after, origins_by, set_origins, with_setter}
use Rattle.st_player.proofs.Altered.{overlay_fits}

-- nothing was set, and nothing failed, at the opening
get_none : (n i : ℕ) → get_or (replicate n no_origin) i no_origin ≡ no_origin
get_none zero i = refl
get_none (suc n) zero = refl
get_none (suc n) (suc i) = get_none n i

pub origins_long : (n : ℕ) → length (replicate n no_origin) ≡ n
origins_long zero = refl
origins_long (suc n) = ap suc (origins_long n)

pub none_origins : (g : Group) (origins : List Origin) (n : ℕ) → origins ≡ replicate n no_origin → length origins ≡ entity_count g → AreOrigins g [] origins
none_origins g origins n is count = record {
  count = count;
  each = λ e here. item_in_at g origins (λ e. no_origin) e no_origin here count ∙ ap (λ (xs : List Origin). get_or xs (place_in g e) no_origin) is ∙ get_none n (place_in g e);
}

length-set_same : (xs : List Origin) (i : ℕ) (x : Origin) → length (set xs i x) ≡ length xs
length-set_same [] i x = refl
length-set_same (y ∷ ys) zero x = refl
length-set_same (y ∷ ys) (suc i) x = ap suc (length-set_same ys i x)

-- what rows of a setter make of what is kept of an entity
abbrev origin_with : Setter → (ℕ → Bool) → Origin → Origin
origin_with setter is o = record {
  v0 = if is 0 then Some setter else o.v0;
  v1 = if is 1 then Some setter else o.v1;
  v2 = if is 2 then Some setter else o.v2;
  v3 = if is 3 then Some setter else o.v3;
  failure = o.failure;
}

set_twice : (setter : Setter) (before : Option Setter) (here later : Bool) → (if later then Some setter else (if here then Some setter else before)) ≡ (if here || later then Some setter else before)
set_twice setter before true true = refl
set_twice setter before true false = refl
set_twice setter before false true = refl
set_twice setter before false false = refl

origin_step : (setter : Setter) (place : ℕ) (rest : ℕ → Bool) (same : Bool) (o : Origin) → origin_with setter rest (if same then with_setter setter place o else o) ≡ origin_with setter (λ k. (same && place == k) || rest k) o
origin_step setter place rest true o = λ i. record {
  v0 = set_twice setter o.v0 (place == 0) (rest 0) i;
  v1 = set_twice setter o.v1 (place == 1) (rest 1) i;
  v2 = set_twice setter o.v2 (place == 2) (rest 2) i;
  v3 = set_twice setter o.v3 (place == 3) (rest 3) i;
  failure = o.failure;
}
origin_step setter place rest false o = refl

origin_here : (g : Group) (origins : List Origin) (at e : Entity) (same : Bool) (change : Origin → Origin) → is_same_entity at e ≡ same → length origins ≡ entity_count g → IsEntityOf g at
    → (if same then change (origin_at g origins at) else item_in g origins (λ e. no_origin) e) ≡ (if same then change (item_in g origins (λ e. no_origin) e) else item_in g origins (λ e. no_origin) e)
origin_here g origins at e true change is count here =
    ap change (sym (item_in_at g origins (λ e. no_origin) at no_origin here count) ∙ ap (item_in g origins (λ e. no_origin)) (same_entity at e is))
origin_here g origins at e false change is count here = refl

long_set : (g : Group) (setter : Setter) (rows : List Row) (origins : List Origin) → length (set_origins g setter rows origins) ≡ length origins
long_set g setter [] origins = refl
long_set g setter (row ∷ rows) origins = long_set g setter rows _ ∙ length-set_same origins (place_in g row.entity) _

set_at : (g : Group) (setter : Setter) (rows : List Row) (origins : List Origin) (e : Entity) → All (RowFits g) rows → length origins ≡ entity_count g
    → item_in g (set_origins g setter rows origins) (λ e. no_origin) e ≡ origin_with setter (is_set_by rows e) (item_in g origins (λ e. no_origin) e)
set_at g setter [] origins e fit count = refl
set_at g setter (row ∷ rows) origins e fit count =
    let at = row.entity in
    let here : IsEntityOf g at = (fit 0 row (omega arith)).entity in
    let place = var_place row.var in
    let o = item_in g origins (λ e. no_origin) e in
    let one = with_setter setter place (origin_at g origins at) in
    let long : length (set origins (place_in g at) one) ≡ entity_count g = length-set_same origins (place_in g at) one ∙ count in
    let rest = set_at g setter rows (set origins (place_in g at) one) e (λ k d low. fit (suc k) d (omega (arith, low))) long in
    let item : item_in g (set origins (place_in g at) one) (λ e. no_origin) e ≡ (if is_same_entity at e then with_setter setter place o else o) =
    item_in-set g origins (λ e. no_origin) at e one here count ∙ origin_here g origins at e (is_same_entity at e) (with_setter setter place) refl count here in
    rest ∙ (ap (origin_with setter (is_set_by rows e)) item ∙ origin_step setter place (is_set_by rows e) (is_same_entity at e) o)

-- one row further
pub set_more : (g : Group) (setter : Setter) (rows : List Row) (origins now whole : List Origin) (i : ℕ) (row : Row) → i < length rows → row ≡ get_or rows i row
    → now ≡ set origins (place_in g row.entity) (with_setter setter (var_place row.var) (origin_at g origins row.entity)) → set_origins g setter (drop i rows) origins ≡ whole → set_origins g setter (drop (i + 1) rows) now ≡ whole
set_more g setter rows origins now whole i row low at is was =
    let first : drop i rows ≡ row ∷ drop (i + 1) rows = drop_more rows i row low ∙ ap (λ (r : Row). r ∷ drop (i + 1) rows) (sym at) in
    ap (set_origins g setter (drop (i + 1) rows)) is ∙ (sym (ap (λ (rs : List Row). set_origins g setter rs origins) first) ∙ was)

-- an overlay: its rows set, and it is no failure
unfailed : (past : List Entry) (event : Event) (answer : Reply) (rows : List Row) (n : ℕ) (e : Entity) (before : Option Failure) → overlay_of past (record { event = event; reply = answer }) ≡ Some rows → before ≡ failure_after event n e before
unfailed past Check answer rows n e before laid = refl
unfailed past (Withdraw at) answer rows n e before laid = refl
unfailed past _ answer rows n e before laid = cc

set_all : (g : Group) (past : List Entry) (entry : Entry) (rows : List Row) (origins : List Origin) → AreOrigins g past origins → IsSound g → IsLegal g past → IsNext g past entry → overlay_of past entry ≡ Some rows
    → AreOrigins g (entry ∷ past) (set_origins g (next_setter past entry.event) rows origins)
set_all g past entry rows origins are sound legal next laid = record {
  count = long_set g (next_setter past entry.event) rows origins ∙ are.count;
  each = λ e here.
      set_at g (next_setter past entry.event) rows origins e (overlay_fits g past entry rows sound legal next laid) are.count
      ∙ (ap (origin_with (next_setter past entry.event) (is_set_by rows e)) (are.each e here) ∙ origin_next e);
}
  where
    set_in : (e : Entity) (k : ℕ) → (if is_set_by rows e k then Some (next_setter past entry.event) else setter_of past e k) ≡ setter_of (entry ∷ past) e k
    set_in e k = ap (λ (o : Option (List Row)). if is_set_in o e k then Some (next_setter past entry.event) else setter_of past e k) (sym laid)

    origin_next : (e : Entity) → origin_with (next_setter past entry.event) (is_set_by rows e) (origin_of past e) ≡ origin_of (entry ∷ past) e
    origin_next e = λ i. record {
      v0 = set_in e 0 i;
      v1 = set_in e 1 i;
      v2 = set_in e 2 i;
      v3 = set_in e 3 i;
      failure = unfailed past entry.event entry.reply rows (length past + 1) e (failure_of past e) laid i;
    }

-- an entry that overlays nothing leaves the setters
setter_still : (past : List Entry) (event : Event) (answer : Reply) (e : Entity) (k : ℕ) → overlay_of past (record { event = event; reply = answer }) ≡ None → setter_of past e k ≡ setter_of (record { event = event; reply = answer } ∷ past) e k
setter_still past event answer e k none = ap (λ (o : Option (List Row)). if is_set_in o e k then Some (next_setter past event) else setter_of past e k) (sym none)

origin_still : (past : List Entry) (event : Event) (answer : Reply) (e : Entity) → overlay_of past (record { event = event; reply = answer }) ≡ None → failure_of past e ≡ failure_after event (length past + 1) e (failure_of past e) → origin_of past e ≡ origin_of (record { event = event; reply = answer } ∷ past) e
origin_still past event answer e none failure = λ i. record {
  v0 = setter_still past event answer e 0 none i;
  v1 = setter_still past event answer e 1 none i;
  v2 = setter_still past event answer e 2 none i;
  v3 = setter_still past event answer e 3 none i;
  failure = failure i;
}

-- a failure
fail_here : (g : Group) (past : List Entry) (origins : List Origin) (at e : Entity) (same : Bool) (failure : Failure) → is_same_entity at e ≡ same → AreOrigins g past origins → IsEntityOf g at → IsEntityOf g e
    → (if same then (record (origin_at g origins at) { failure = Some failure }) else item_in g origins (λ e. no_origin) e)
    ≡ record { v0 = setter_of past e 0; v1 = setter_of past e 1; v2 = setter_of past e 2; v3 = setter_of past e 3; failure = if same then Some failure else failure_of past e }
fail_here g past origins at e true failure is are there here =
    let one : origin_at g origins at ≡ origin_of past e = sym (item_in_at g origins (λ e. no_origin) at no_origin there are.count) ∙ are.each at there ∙ ap (origin_of past) (same_entity at e is) in
    ap (λ (o : Origin). record { v0 = o.v0; v1 = o.v1; v2 = o.v2; v3 = o.v3; failure = Some failure }) one
fail_here g past origins at e false failure is are there here = are.each e here

still : (g : Group) (past : List Entry) (event : Event) (answer : Reply) (origins : List Origin) → AreOrigins g past origins → overlay_of past (record { event = event; reply = answer }) ≡ None → ((e : Entity) → failure_of past e ≡ failure_after event (length past + 1) e (failure_of past e))
    → AreOrigins g (record { event = event; reply = answer } ∷ past) origins
still g past event answer origins are none failure = record { count = are.count; each = λ e here. are.each e here ∙ origin_still past event answer e none (failure e) }

unlaid : (g : Group) (past : List Entry) (origins : List Origin) (event : Event) (answer : Reply) → AreOrigins g past origins → Fits g event → overlay_of past (record { event = event; reply = answer }) ≡ None
    → AreOrigins g (record { event = event; reply = answer } ∷ past) (failed_origins g event (length past + 1) origins)
unlaid g past origins (Fail at vals health) answer are fits none = record {
  count = length-set_same origins (place_in g at) _ ∙ are.count;
  each = λ e here. item_in-set g origins (λ e. no_origin) at e _ fits.entity are.count ∙ fail_here g past origins at e (is_same_entity at e) (record { entry = length past + 1; health = health }) refl are fits.entity here;
}
unlaid g past origins event answer are fits none = still g past event answer origins are none (λ e. refl)

pub origins_next : (g : Group) (past : List Entry) (origins : List Origin) (entry : Entry) → AreOrigins g past origins → IsSound g → IsLegal g past → IsNext g past entry → AreOrigins g (entry ∷ past) (origins_after g past entry (length past + 1) origins)
origins_next g past origins entry are sound legal next = by_overlay (overlay_of past entry) refl
  where
    by_overlay : (o : Option (List Row)) → overlay_of past entry ≡ o → AreOrigins g (entry ∷ past) (origins_by g past o entry.event (length past + 1) origins)
    by_overlay None none = unlaid g past origins entry.event entry.reply are next.fits none
    by_overlay (Some rows) laid = set_all g past entry rows origins are sound legal next laid
