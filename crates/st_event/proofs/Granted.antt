-- Who holds a lock is who was granted it last.
use Rattle.std.proofs.Common.{◌≡◌, ℕ, List, [], ◌∷◌, Option, Some, None, refl, ap, ◌∙◌, subst, inl, inr, arith}
use Rattle.std.specs.Prelude.{Bool, true, false, ◌==◌, ◌&&◌, if◌then◌else◌, ◌↔◌}
use Rattle.std.proofs.Math.Bool.{and-false}
use Rattle.st_net.specs.declared.entity.AppId.{AppId}
use Rattle.st_net.specs.declared.entity.Entity.{Entity}
use Rattle.st_net.specs.declared.entity.Prio.{Prio}
use Rattle.st_event.specs.declared.event.Event.{Event}
use Rattle.st_event.specs.declared.event.Event.TheVariants.{Lock, Unlock}
use Rattle.st_event.specs.declared.reply.Reply.{Reply}
use Rattle.st_event.specs.declared.journal.Entry.{Entry}
use Rattle.st_net.specs.Entities.{is_same_entity}
use Rattle.st_net.specs.Holders.{is_same_prio, is_held_by, holder_set, holder_freed}
use Rattle.st_event.specs.Locks.{is_granted, is_released, holder}
use Rattle.st_event.specs.Grants.{grants, is_asked_by, releases, IsLastGrant}
use Rattle.std.proofs.lemmas.Bool.Decides.{nat_tests}
use Rattle.st_net.specs.declared.entity.Prio.TheVariants.{Low, High}
use Rattle.st_event.proofs.Promises.{entry_of}
use Rattle.st_net.proofs.Tests.{both, same_entity, equal_numbers, equal_self}

same_prio : (p q : Prio) → is_same_prio p q ≡ true → p ≡ q
same_prio Low Low is = refl
same_prio High High is = refl
same_prio Low High is = cc
same_prio High Low is = cc

same_app : (a b : AppId) → (a.0 == b.0) ≡ true → a ≡ b
same_app a b is = let made : ℕ → AppId = λ n. record { 0 = n } in ap made (equal_numbers a.0 b.0 is)

turned_about : (m n : ℕ) (b : Bool) → (m == n) ≡ b → (n == m) ≡ b
turned_about m n true is = grind (arith, nat_tests)
turned_about m n false is = grind (arith, nat_tests)

-- the holder there, where the lock is this one
same_lock : (past : List Entry) (at e : Entity) (prio q : Prio) → (is_same_entity at e && is_same_prio prio q) ≡ true → holder past at prio ≡ holder past e q
same_lock past at e prio q is =
    let parts = both (is_same_entity at e) (is_same_prio prio q) is in
    let there : at ≡ e = same_entity at e parts.0 in
    let level : prio ≡ q = same_prio prio q parts.1 in
    rw (there, level) refl

-- from the holder to the last grant

lock_here : (past : List Entry) (by app : AppId) (at e : Entity) (prio q : Prio) (answer : Reply) (same : Bool) → is_granted answer ≡ true → (is_same_entity at e && is_same_prio prio q) ≡ same → (if same then Some by else holder past e q) ≡ Some app → (holder past e q ≡ Some app → IsLastGrant past e q app) → IsLastGrant (entry_of (Lock by at prio) answer ∷ past) e q app
lock_here past by app at e prio q answer true granted same is before =
    let own : by ≡ app = cc in
    inl (record { grant = rw (granted, same) refl; asked = rw own (equal_self app.0) })
lock_here past by app at e prio q answer false granted same is before = inr (record { no_grant = rw (granted, same) refl; no_release = refl }, before is)

lock_last : (past : List Entry) (by app : AppId) (at e : Entity) (prio q : Prio) (answer : Reply) (granted : Bool) → is_granted answer ≡ granted → (if granted then holder_set (holder past) at prio (Some by) else holder past) e q ≡ Some app → (holder past e q ≡ Some app → IsLastGrant past e q app) → IsLastGrant (entry_of (Lock by at prio) answer ∷ past) e q app
lock_last past by app at e prio q answer true granted is before = lock_here past by app at e prio q answer (is_same_entity at e && is_same_prio prio q) granted refl is before
lock_last past by app at e prio q answer false granted is before = inr (record { no_grant = rw granted refl; no_release = refl }, before is)

-- an application that does not hold the lock has no release of it to make
not_own : (past : List Entry) (by app : AppId) (at e : Entity) (prio q : Prio) (same : Bool) → (is_same_entity at e && is_same_prio prio q) ≡ same → is_held_by by (holder past at prio) ≡ false → holder past e q ≡ Some app → (by.0 == app.0 && same) ≡ false
not_own past by app at e prio q true same free is =
    let there : holder past at prio ≡ Some app = same_lock past at e prio q same ∙ is in
    let other : (app.0 == by.0) ≡ false = subst (λ (o : Option AppId). is_held_by by o ≡ false) there free in
    rw (turned_about app.0 by.0 false other) refl
not_own past by app at e prio q false same free is = and-false (by.0 == app.0)

unlock_freed : (past : List Entry) (by app : AppId) (at e : Entity) (prio q : Prio) (answer : Reply) (same : Bool) → is_released answer ≡ true → (is_same_entity at e && is_same_prio prio q) ≡ same → (if same then None else holder past e q) ≡ Some app → (holder past e q ≡ Some app → IsLastGrant past e q app) → IsLastGrant (entry_of (Unlock by at prio) answer ∷ past) e q app
unlock_freed past by app at e prio q answer true released same is before = cc
unlock_freed past by app at e prio q answer false released same is before = inr (record { no_grant = refl; no_release = rw (released, same) (and-false (by.0 == app.0)) }, before is)

unlock_held : (past : List Entry) (by app : AppId) (at e : Entity) (prio q : Prio) (answer : Reply) (held : Bool) → is_released answer ≡ true → is_held_by by (holder past at prio) ≡ held → (if held then holder_set (holder past) at prio None else holder past) e q ≡ Some app → (holder past e q ≡ Some app → IsLastGrant past e q app) → IsLastGrant (entry_of (Unlock by at prio) answer ∷ past) e q app
unlock_held past by app at e prio q answer true released held is before = unlock_freed past by app at e prio q answer (is_same_entity at e && is_same_prio prio q) released refl is before
unlock_held past by app at e prio q answer false released held is before =
    inr (record { no_grant = refl; no_release = rw released (not_own past by app at e prio q (is_same_entity at e && is_same_prio prio q) refl held is) }, before is)

unlock_last : (past : List Entry) (by app : AppId) (at e : Entity) (prio q : Prio) (answer : Reply) (released : Bool) → is_released answer ≡ released → (if released then holder_freed (holder past) at prio by else holder past) e q ≡ Some app → (holder past e q ≡ Some app → IsLastGrant past e q app) → IsLastGrant (entry_of (Unlock by at prio) answer ∷ past) e q app
unlock_last past by app at e prio q answer true released is before = unlock_held past by app at e prio q answer (is_held_by by (holder past at prio)) released refl is before
unlock_last past by app at e prio q answer false released is before = inr (record { no_grant = refl; no_release = rw released refl }, before is)

last_after : (past : List Entry) (event : Event) (answer : Reply) (e : Entity) (q : Prio) (app : AppId) → holder (entry_of event answer ∷ past) e q ≡ Some app → (holder past e q ≡ Some app → IsLastGrant past e q app) → IsLastGrant (entry_of event answer ∷ past) e q app
last_after past (Lock by at prio) answer e q app is before = lock_last past by app at e prio q answer (is_granted answer) refl is before
last_after past (Unlock by at prio) answer e q app is before = unlock_last past by app at e prio q answer (is_released answer) refl is before
last_after past _ answer e q app is before = inr (record { no_grant = refl; no_release = refl }, before is)

to_last : (past : List Entry) (e : Entity) (q : Prio) (app : AppId) → holder past e q ≡ Some app → IsLastGrant past e q app
to_last [] e q app is = cc
to_last (entry ∷ past) e q app is = last_after past entry.event entry.reply e q app is (to_last past e q app)

-- and back

granted_holds : (past : List Entry) (event : Event) (answer : Reply) (e : Entity) (q : Prio) (app : AppId) → grants e q event answer ≡ true → is_asked_by app event ≡ true → holder (entry_of event answer ∷ past) e q ≡ Some app
granted_holds past (Lock by at prio) answer e q app grant asked =
    let parts = both (is_granted answer) (is_same_entity at e && is_same_prio prio q) grant in
    rw (parts.0, parts.1) (ap Some (same_app by app asked))
granted_holds past _ answer e q app grant asked = cc

lock_keeps : (granted same : Bool) (by app : AppId) (old : Option AppId) → (granted && same) ≡ false → old ≡ Some app → (if granted then (if same then Some by else old) else old) ≡ Some app
lock_keeps true true by app old none is = cc
lock_keeps true false by app old none is = is
lock_keeps false same by app old none is = is

other_holds : (past : List Entry) (event : Event) (answer : Reply) (e : Entity) (q : Prio) (app : AppId) → grants e q event answer ≡ false → releases app e q event answer ≡ false → holder past e q ≡ Some app → holder (entry_of event answer ∷ past) e q ≡ Some app
other_holds past (Lock by at prio) answer e q app no_grant no_release is = lock_kept (is_granted answer) refl
  where
    lock_kept : (granted : Bool) → is_granted answer ≡ granted → (if granted then holder_set (holder past) at prio (Some by) else holder past) e q ≡ Some app
    lock_kept true granted = lock_keeps true (is_same_entity at e && is_same_prio prio q) by app (holder past e q) (rw granted at no_grant) is
    lock_kept false granted = is
other_holds past (Unlock by at prio) answer e q app no_grant no_release is = unlock_kept (is_released answer) (is_held_by by (holder past at prio)) (is_same_entity at e && is_same_prio prio q) refl refl refl
  where
    owned : is_held_by by (holder past at prio) ≡ true → (is_same_entity at e && is_same_prio prio q) ≡ true → (by.0 == app.0) ≡ true
    owned held same =
        let there : holder past at prio ≡ Some app = same_lock past at e prio q same ∙ is in
        turned_about app.0 by.0 true (subst (λ (o : Option AppId). is_held_by by o ≡ true) there held)

    unlock_kept : (released held same : Bool) → is_released answer ≡ released → is_held_by by (holder past at prio) ≡ held → (is_same_entity at e && is_same_prio prio q) ≡ same → (if released then (if held then holder_set (holder past) at prio None else holder past) else holder past) e q ≡ Some app
    unlock_kept true true true released held same = let own = owned held same in let release = rw (released, own, same) at no_release in cc
    unlock_kept true true false released held same = rw same is
    unlock_kept true false same_is released held same = is
    unlock_kept false held_is same_is released held same = is
other_holds past _ answer e q app no_grant no_release is = is

from_last : (past : List Entry) (e : Entity) (q : Prio) (app : AppId) → IsLastGrant past e q app → holder past e q ≡ Some app
from_last [] e q app last = absurd last
from_last (entry ∷ past) e q app last = holds_from past entry e q app last (from_last past e q app)
  where
    holds_from : (past : List Entry) (entry : Entry) (e : Entity) (q : Prio) (app : AppId) → IsLastGrant (entry ∷ past) e q app → (IsLastGrant past e q app → holder past e q ≡ Some app) → holder (entry ∷ past) e q ≡ Some app
    holds_from past entry e q app (inl granted) before = granted_holds past entry.event entry.reply e q app granted.grant granted.asked
    holds_from past entry e q app (inr later) before = other_holds past entry.event entry.reply e q app later.0.no_grant later.0.no_release (before later.1)

pub holder_is : (past : List Entry) (e : Entity) (q : Prio) (app : AppId) → (holder past e q ≡ Some app) ↔ IsLastGrant past e q app
holder_is past e q app = (to_last past e q app, from_last past e q app)
