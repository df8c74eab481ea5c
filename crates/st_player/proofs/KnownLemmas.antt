-- By which entry the report was made that is kept of an entity: how that is kept, and that this entry made it.
use Rattle.std.proofs.Common.{◌≡◌, ◌∙◌, ℕ, zero, suc, true, false, Bool, Some, None, Option, List, [], ◌∷◌, length, get_or, set, refl, sym, ap, replicate}
use Rattle.std.specs.Prelude.{◌&&◌, nat_lt, slice_set, unwrap_or, if◌then◌else◌}
use Rattle.st_net.specs.declared.entity.Entity.{Entity}
use Rattle.st_net.specs.declared.message.Report.{Report}
use Rattle.st_net.specs.Entities.{is_same_entity}
use Rattle.st_net.specs.Groups.{Group, IsEntityOf}
use Rattle.st_net.specs.InOrder.{entity_count, item_in, place_in}
use Rattle.st_net.specs.Numbered.{nth}
use Rattle.st_net.proofs.Tests.{same_entity}
use Rattle.st_net.proofs.InOrder.{item_in_at, item_in-set}
use Rattle.st_event.specs.declared.event.Event.{Event}
use Rattle.st_event.specs.declared.event.Event.TheVariants.{Hear}
use Rattle.st_event.specs.declared.journal.Entry.{Entry}
use Rattle.st_event.specs.Legal.{IsLegal}
use Rattle.st_event.specs.Moments.{reports}
use Rattle.st_event.specs.Observed.{observed}
use Rattle.st_player.specs.Inside.{AreSince, all_since, heard_since}
use Rattle.st_player.specs.Known.{known_since, makers, since_after}
use Rattle.st_player.proofs.Untouched.{made_own}

-- the opening's reports were made by no entry
abbrev no_entry : ℕ
no_entry = 0

get_zero : (n i : ℕ) → get_or (replicate n no_entry) i no_entry ≡ no_entry
get_zero zero i = refl
get_zero (suc n) zero = refl
get_zero (suc n) (suc i) = get_zero n i

pub none_since : (g : Group) (since : List ℕ) (n : ℕ) → since ≡ replicate n no_entry → length since ≡ entity_count g → AreSince g [] since
none_since g since n is count = record {
  count = count;
  each = λ e here. item_in_at g since (λ e. 0) e 0 here count ∙ ap (λ (xs : List ℕ). get_or xs (place_in g e) 0) is ∙ get_zero n (place_in g e);
}

pub zeros_long : (n : ℕ) → length (replicate n no_entry) ≡ n
zeros_long zero = refl
zeros_long (suc n) = ap suc (zeros_long n)

length-set_same : (xs : List ℕ) (i x : ℕ) → length (set xs i x) ≡ length xs
length-set_same [] i x = refl
length-set_same (y ∷ ys) zero x = refl
length-set_same (y ∷ ys) (suc i) x = ap suc (length-set_same ys i x)

-- a report is heard
and_false : (b : Bool) → (b && false) ≡ false
and_false true = refl
and_false false = refl

since_here : (g : Group) (past : List Entry) (since : List ℕ) (r : Report) (maker : ℕ) (e : Entity) (same later : Bool) → is_same_entity r.entity e ≡ same → nat_lt (observed g past r.entity).number r.number ≡ later
    → item_in g since (λ e. 0) e ≡ known_since g past e
    → (if later then (if same then maker else item_in g since (λ e. 0) e) else item_in g since (λ e. 0) e) ≡ (if same && nat_lt (observed g past e).number r.number then maker else known_since g past e)
since_here g past since r maker e false later is test was = by_test later
  where
    by_test : (later : Bool) → (if later then item_in g since (λ e. 0) e else item_in g since (λ e. 0) e) ≡ known_since g past e
    by_test true = was
    by_test false = was
since_here g past since r maker e true later is test was =
    let here : nat_lt (observed g past e).number r.number ≡ later = ap (λ (at : Entity). nat_lt (observed g past at).number r.number) (sym (same_entity r.entity e is)) ∙ test in
    by_test later ∙ ap (λ (b : Bool). if b then maker else known_since g past e) (sym here)
  where
    by_test : (later : Bool) → (if later then maker else item_in g since (λ e. 0) e) ≡ (if later then maker else known_since g past e)
    by_test true = refl
    by_test false = was

heard_next : (g : Group) (past : List Entry) (since : List ℕ) (o : Option Report) (maker : ℕ) → AreSince g past since → ((r : Report) → o ≡ Some r → IsEntityOf g r.entity)
    → (length (heard_since g past o maker since) ≡ entity_count g) × ((e : Entity) → IsEntityOf g e → item_in g (heard_since g past o maker since) (λ e. 0) e ≡ since_after e o (observed g past e).number maker (known_since g past e))
heard_next g past since None maker are own = (are.count, are.each)
heard_next g past since (Some r) maker are own = by_test (nat_lt (observed g past r.entity).number r.number) refl
  where
    by_test : (later : Bool) → nat_lt (observed g past r.entity).number r.number ≡ later
        → (length (if later then slice_set since (place_in g r.entity) maker else since) ≡ entity_count g)
        × ((e : Entity) → IsEntityOf g e → item_in g (if later then slice_set since (place_in g r.entity) maker else since) (λ e. 0) e ≡ since_after e (Some r) (observed g past e).number maker (known_since g past e))
    by_test true test = (
      length-set_same since (place_in g r.entity) maker ∙ are.count,
      λ e here. item_in-set g since (λ e. 0) r.entity e maker (own r refl) are.count ∙ since_here g past since r maker e (is_same_entity r.entity e) true refl test (are.each e here),
    )
    by_test false test = (are.count, λ e here. since_here g past since r maker e (is_same_entity r.entity e) false refl test (are.each e here))

pub since_next : (g : Group) (past : List Entry) (since : List ℕ) (entry : Entry) (made : List ℕ) → AreSince g past since → made ≡ makers past → IsLegal g past → AreSince g (entry ∷ past) (all_since g past entry.event made since)
since_next g past since entry made are made_is legal = by_event entry.event refl
  where
    by_event : (event : Event) → entry.event ≡ event → AreSince g (record { event = event; reply = entry.reply } ∷ past) (all_since g past event made since)
    by_event (Hear n) is =
        let next = heard_next g past since (nth (reports g past) n) (unwrap_or (nth made n) 0) are (made_own g past legal n) in
        record {
          count = next.0;
          each = λ e here. next.1 e here ∙ ap (λ (ms : List ℕ). since_after e (nth (reports g past) n) (observed g past e).number (unwrap_or (nth ms n) 0) (known_since g past e)) made_is;
        }
    by_event _ is = record { count = are.count; each = are.each }
