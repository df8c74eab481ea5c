-- What is kept of a journal beside its world goes on with it.
use Rattle.std.proofs.Common.{◌≡◌, ◌∙◌, ℕ, zero, suc, ◌+◌, ◌-◌, ◌<◌, ◌≤◌, true, false, Bool, Some, List, [], ◌∷◌, length, get_or, set, take, ◌++◌, refl, sym, ap, ap₂, subst, arith, replicate}
use Rattle.std.specs.Prelude.{All, nat_lt, if◌then◌else◌}
use Rattle.std.proofs.lemmas.Bool.Decides.{nat_tests}
use Rattle.st_net.specs.declared.entity.Entity.{Entity}
use Rattle.st_net.specs.declared.entity.Entity.TheVariants.{Device, Link}
use Rattle.st_net.specs.Entities.{is_same_entity}
use Rattle.st_net.specs.Groups.{Group, IsEntityOf, IsSound}
use Rattle.st_net.specs.InOrder.{entity_count, item_in, place_in}
use Rattle.st_net.proofs.Tests.{same_entity}
use Rattle.st_net.proofs.InOrder.{item_in_at, item_in-set}
use Rattle.st_event.specs.declared.event.Event.{Event}
use Rattle.st_event.specs.declared.event.Event.TheVariants.{Report, Fail}
use Rattle.st_event.specs.declared.journal.Entry.{Entry}
use Rattle.st_event.specs.declared.reply.Reply.{Reply}
use Rattle.st_event.specs.History.{History, with_entry}
use Rattle.st_event.specs.Legal.{Fits, IsLegal, IsNext}
use Rattle.st_event.specs.Moments.{number, is_report_of}
use Rattle.st_event.specs.Replies.{reply}
use Rattle.st_player.specs.declared.origins.Origin.{Origin}
use Rattle.st_player.specs.declared.playback.Told.{Told}
use Rattle.st_player.specs.Entries.{askers_after}
use Rattle.st_player.specs.Inside.{AreSince, AreTold, IsPlayback, all_since, last_fail, no_told, told_after, told_at, told_of}
use Rattle.st_player.specs.Known.{makers_after}
use Rattle.st_player.specs.Origins.{AreOrigins, origins_after}
use Rattle.st_player.proofs.KnownLemmas.{since_next}
use Rattle.st_player.proofs.OriginLemmas.{origins_next}

-- no entity has made more reports than there are entries
pub number_low : (past : List Entry) (e : Entity) → number past e ≤ length past
number_low [] e = omega arith
number_low (entry ∷ past) e = by_kind (is_report_of e entry.event) (number_low past e)
  where
    by_kind : (is : Bool) → number past e ≤ length past → (if is then number past e + 1 else number past e) ≤ suc (length past)
    by_kind true low = omega arith
    by_kind false low = omega arith

-- each place is that of an entity
placed : (g : Group) (k : ℕ) → k < entity_count g → (e : Entity) × IsEntityOf g e × (place_in g e ≡ k)
placed g k low = by_kind (nat_lt k (length g.devices)) refl
  where
    by_kind : (is : Bool) → nat_lt k (length g.devices) ≡ is → (e : Entity) × IsEntityOf g e × (place_in g e ≡ k)
    by_kind true is = (Device k, grind (arith, nat_tests), refl)
    by_kind false is = let high : length g.devices ≤ k = grind (arith, nat_tests) in (Link (k - length g.devices), omega (arith, low, high), omega (arith, high))

pub told_low : (g : Group) (past : List Entry) (told : List Told) (n : ℕ) → AreTold g past told → length past < n → All (λ (one : Told). one.made < n) told
told_low g past told n are few k d low =
    let at = placed g k (omega (arith, low, are.count)) in
    let is : get_or told (place_in g at.0) d ≡ told_of past at.0 = sym (item_in_at g told (λ e. no_told) at.0 d at.1 are.count) ∙ are.each at.0 at.1 in
    let here : (get_or told k d).made ≡ number past at.0 = ap (λ (i : ℕ). (get_or told i d).made) (sym at.2) ∙ ap (λ (one : Told). one.made) is in
    omega (arith, here, number_low past at.0, few)

-- nothing was told of anyone at the opening
get_none : (n i : ℕ) → get_or (replicate n no_told) i no_told ≡ no_told
get_none zero i = refl
get_none (suc n) zero = refl
get_none (suc n) (suc i) = get_none n i

pub none_told : (g : Group) (told : List Told) (n : ℕ) → told ≡ replicate n no_told → length told ≡ entity_count g → AreTold g [] told
none_told g told n is count = record {
  count = count;
  each = λ e here. item_in_at g told (λ e. no_told) e no_told here count ∙ ap (λ (xs : List Told). get_or xs (place_in g e) no_told) is ∙ get_none n (place_in g e);
}

told_here : (g : Group) (past : List Entry) (told : List Told) (at : Entity) → AreTold g past told → IsEntityOf g at → told_at g told at ≡ told_of past at
told_here g past told at are here = sym (item_in_at g told (λ e. no_told) at no_told here are.count) ∙ are.each at here

length-set_kept : (told : List Told) (i : ℕ) (x : Told) → length (set told i x) ≡ length told
length-set_kept [] i x = refl
length-set_kept (y ∷ ys) zero x = refl
length-set_kept (y ∷ ys) (suc i) x = ap suc (length-set_kept ys i x)

reported : (g : Group) (past : List Entry) (told : List Told) (at e : Entity) (same : Bool) → is_same_entity at e ≡ same → AreTold g past told → IsEntityOf g at → IsEntityOf g e
    → (if same then (record { made = (told_at g told at).made + 1; failed = (told_at g told at).failed }) else item_in g told (λ e. no_told) e) ≡ record { made = if same then number past e + 1 else number past e; failed = last_fail past e }
reported g past told at e true is are there here =
    let one : told_at g told at ≡ told_of past e = told_here g past told at are there ∙ ap (told_of past) (same_entity at e is) in
    ap (λ (t : Told). record { made = t.made + 1; failed = t.failed }) one
reported g past told at e false is are there here = are.each e here

failed : (g : Group) (past : List Entry) (told : List Told) (at e : Entity) (same : Bool) → is_same_entity at e ≡ same → AreTold g past told → IsEntityOf g at → IsEntityOf g e
    → (if same then (record { made = (told_at g told at).made; failed = Some (told_at g told at).made }) else item_in g told (λ e. no_told) e) ≡ record { made = number past e; failed = if same then Some (number past e) else last_fail past e }
failed g past told at e true is are there here =
    let one : told_at g told at ≡ told_of past e = told_here g past told at are there ∙ ap (told_of past) (same_entity at e is) in
    ap (λ (t : Told). record { made = t.made; failed = Some t.made }) one
failed g past told at e false is are there here = are.each e here

pub told_next : (g : Group) (past : List Entry) (told : List Told) (entry : Entry) → AreTold g past told → Fits g entry.event → AreTold g (entry ∷ past) (told_after g entry.event told)
told_next g past told entry are fits = by_event entry.event refl fits
  where
    by_event : (event : Event) → entry.event ≡ event → Fits g event → AreTold g (record { event = event; reply = entry.reply } ∷ past) (told_after g event told)
    by_event (Report at) is fits = record {
      count = length-set_kept told (place_in g at) _ ∙ are.count;
      each = λ e here. item_in-set g told (λ e. no_told) at e _ fits are.count ∙ reported g past told at e (is_same_entity at e) refl are fits here;
    }
    by_event (Fail at vals health) is fits = record {
      count = length-set_kept told (place_in g at) _ ∙ are.count;
      each = λ e here. item_in-set g told (λ e. no_told) at e _ fits.entity are.count ∙ failed g past told at e (is_same_entity at e) refl are fits.entity here;
    }
    by_event _ is fits = record { count = are.count; each = are.each }

-- an entry whose event was entered with the reply that is called for is the next one
pub entered : (h new : History) (entry : Entry) (event : Event) (given : Reply) → event ≡ entry.event → IsNext h.group h.past entry → IsNext h.group h.past (record { event = event; reply = given }) → new ≡ with_entry h (record { event = event; reply = given }) → new ≡ with_entry h entry
entered h new entry event given same next did is =
    let replied : given ≡ entry.reply = did.answer ∙ ap (λ (e : Event). reply h.group h.past e) same ∙ sym next.answer in
    is ∙ ap₂ (λ (e : Event) (r : Reply). with_entry h (record { event = e; reply = r })) same replied

-- what is kept is kept behind the next entry too
pub playback_next : (h new : History) (told now : List Told) (asked asked_now made made_now since since_now : List ℕ) (origins origins_now : List Origin) (entry : Entry) → IsPlayback h told asked made since origins → IsSound h.group → IsLegal h.group h.past → IsNext h.group h.past entry
    → now ≡ told_after h.group entry.event told → asked_now ≡ askers_after entry.event entry.reply (length h.past + 1) asked → made_now ≡ makers_after entry.event (length h.past + 1) made → since_now ≡ all_since h.group h.past entry.event made since
    → origins_now ≡ origins_after h.group h.past entry (length h.past + 1) origins → new ≡ with_entry h entry → IsPlayback new now asked_now made_now since_now origins_now
playback_next h new told now asked asked_now made made_now since since_now origins origins_now entry was sound legal entered_next told_is asked_is made_is since_is origins_are is =
    let next = told_next h.group h.past told entry was.told_is entered_next.fits in
    let known = since_next h.group h.past since entry made was.since_is was.made_is legal in
    let came = origins_next h.group h.past origins entry was.origins_are sound legal entered_next in
    let here : IsPlayback (with_entry h entry) now asked_now made_now since_now origins_now = record {
      told_is = subst (λ (one : List Told). AreTold h.group (entry ∷ h.past) one) (sym told_is) next;
      asked_is = asked_is ∙ ap (askers_after entry.event entry.reply (length h.past + 1)) was.asked_is;
      made_is = made_is ∙ ap (makers_after entry.event (length h.past + 1)) was.made_is;
      since_is = subst (λ (one : List ℕ). AreSince h.group (entry ∷ h.past) one) (sym since_is) known;
      origins_are = subst (λ (one : List Origin). AreOrigins h.group (entry ∷ h.past) one) (sym origins_are) came;
    } in
    subst (λ (k : History). IsPlayback k now asked_now made_now since_now origins_now) (sym is) here

-- a list that was written back whole
pub take_front : {X : Type 0} (n : ℕ) (xs ys : List X) → n ≡ length xs → take n (xs ++ ys) ≡ xs
take_front n xs ys is = ap (λ (k : ℕ). take k (xs ++ ys)) is ∙ front xs ys
  where
    front : {X : Type 0} (xs ys : List X) → take (length xs) (xs ++ ys) ≡ xs
    front [] ys = refl
    front (x ∷ xs) ys = ap (λ (t : List _). x ∷ t) (front xs ys)

pub none_long : (n : ℕ) → length (replicate n no_told) ≡ n
none_long zero = refl
none_long (suc n) = ap suc (none_long n)
