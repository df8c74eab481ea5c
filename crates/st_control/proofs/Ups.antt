-- Which entities carry traffic: one that the group does not have never does, so the marks of the group's own are the whole set.
use Rattle.std.proofs.Common.{◌≡◌, List, [], ◌∷◌, Bool, false, not, ◌&&◌, refl, ap, ◌∙◌, arith}
use Rattle.std.specs.Prelude.{Result, Ok, Err, IfOk}
use Rattle.std.proofs.lemmas.Bool.Decides.{nat_tests}
use Rattle.st_net.specs.declared.entity.Entity.{Entity}
use Rattle.st_net.specs.declared.entity.Entity.TheVariants.{Device, Link}
use Rattle.st_net.specs.declared.entity.Vals.{Vals}
use Rattle.st_net.specs.Entities.{is_same_entity}
use Rattle.st_net.specs.Groups.{Group, IsEntityOf, opening_of}
use Rattle.st_net.specs.Levels.{carries, level_of}
use Rattle.st_net.specs.Sets.{Marks, is_in, is_of}
use Rattle.st_event.specs.declared.event.Event.{Event}
use Rattle.st_event.specs.declared.event.Event.TheVariants.{Finish, Fail}
use Rattle.st_event.specs.declared.journal.Entry.{Entry}
use Rattle.st_event.specs.Legal.{Fits, IsLegal}
use Rattle.st_event.specs.Moments.{busy, work, vals, health, vals_after}
use Rattle.st_event.specs.Observed.{actual}
use Rattle.st_net.proofs.SetLaws.{own_only}
use Rattle.st_control.proofs.Beyond.{carries_not, none_and}

-- an entity of the group is not one that the group does not have
other_than : (g : Group) (at e : Entity) → IsEntityOf g at → is_of g e ≡ false → is_same_entity at e ≡ false
other_than g (Device i) (Device j) inside beyond = grind (arith, nat_tests)
other_than g (Link i) (Link j) inside beyond = grind (arith, nat_tests)
other_than g (Device i) (Link j) inside beyond = refl
other_than g (Link i) (Device j) inside beyond = refl

-- an event that fits leaves the values of such an entity
vals_keep : (g : Group) (event : Event) (e : Entity) (at_work : Bool) (begun before : Vals) → Fits g event → is_of g e ≡ false → vals_after event e at_work begun before ≡ before
vals_keep g (Finish at) e at_work begun before fits beyond = rw (other_than g at e fits beyond) refl
vals_keep g (Fail at given level) e at_work begun before fits beyond = rw (other_than g at e fits.entity beyond) refl
vals_keep g _ e at_work begun before fits beyond = refl

-- an entity that the group does not have keeps the values that it opens with: no event names it
vals_beyond : (g : Group) (past : List Entry) (e : Entity) → IsLegal g past → is_of g e ≡ false → vals g past e ≡ opening_of g e
vals_beyond g [] e legal beyond = refl
vals_beyond g (entry ∷ past) e legal beyond = vals_keep g entry.event e (busy g past e) (work g past e) (vals g past e) legal.0.fits beyond ∙ vals_beyond g past e legal.1 beyond

-- so it never carries traffic
not_up : (g : Group) (past : List Entry) (e : Entity) → IsLegal g past → is_of g e ≡ false → actual g past e ≡ false
not_up g past e legal beyond =
    let level = level_of e (vals g past e) (health g past e) (busy g past e) in
    none_and (not (busy g past e)) (carries e (vals g past e) level) (ap (λ (v : Vals). carries e v level) (vals_beyond g past e legal beyond) ∙ carries_not g e level beyond)

-- so those of the group that carry are all
up_is : (g : Group) (past : List Entry) (set : Marks) → IsLegal g past → is_in set ≡ (λ e. is_of g e && actual g past e) → is_in set ≡ actual g past
up_is g past set legal marked = marked ∙ own_only g (actual g past) (λ e. not_up g past e legal)

pub ups_are : {E : Type 0} (g own : Group) (past : List Entry) (result : Result Marks E) → own ≡ g → IsLegal g past → IfOk result (λ set. is_in set ≡ (λ e. is_of own e && actual g past e)) → IfOk result (λ set. is_in set ≡ actual g past)
ups_are g own past (Ok set) same legal marked = up_is g past set legal (marked ∙ ap (λ (h : Group). λ (e : Entity). is_of h e && actual g past e) same)
ups_are g own past (Err e) same legal marked = marked
