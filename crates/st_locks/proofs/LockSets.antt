-- One lock's holder replaced.
use Rattle.std.proofs.Common.{◌≡◌, Option, None, refl, ap, arith}
use Rattle.std.specs.Prelude.{Bool, true, false, ◌&&◌, if◌then◌else◌}
use Rattle.std.proofs.lemmas.Bool.Decides.{nat_tests}
use Rattle.std.proofs.lemmas.Grind.{common_steps}
use mathlib.Core.Path.{fun_ext}
use Rattle.st_net.specs.declared.entity.AppId.{AppId}
use Rattle.st_net.specs.declared.entity.Prio.{Prio}
use Rattle.st_net.specs.declared.entity.Prio.TheVariants.{Low, High}
use Rattle.st_net.specs.declared.entity.Entity.{Entity}
use Rattle.st_net.specs.declared.entity.Entity.TheVariants.{Device, Link}
use Rattle.st_net.specs.Entities.{is_same_entity}
use Rattle.st_net.specs.Holders.{is_same_prio, is_held_by, holder_set, holder_freed}
use Rattle.st_net.proofs.Tests.{same_entity}
use Rattle.st_locks.specs.declared.table.Holders.{Holders}
use Rattle.st_locks.specs.LockRows.{LockRows, IsLockIn, holders_at, holder_of, holder_in, holders_with, lock_set}

holder_of-with : (holders : Holders) (prio q : Prio) (next : Option AppId) → holder_of (holders_with holders prio next) q ≡ (if is_same_prio prio q then next else holder_of holders q)
holder_of-with holders Low Low next = refl
holder_of-with holders Low High next = refl
holder_of-with holders High Low next = refl
holder_of-with holders High High next = refl

holders_at-lock_set : (t : LockRows) (at e : Entity) (prio : Prio) (next : Option AppId) → IsLockIn t at → holders_at (lock_set t at prio next) e ≡ (if is_same_entity at e then holders_with (holders_at t at) prio next else holders_at t e)
holders_at-lock_set t (Device i) (Device j) prio next here = grind (arith, nat_tests, common_steps)
holders_at-lock_set t (Link i) (Link j) prio next here = grind (arith, nat_tests, common_steps)
holders_at-lock_set t (Device i) (Link j) prio next here = refl
holders_at-lock_set t (Link i) (Device j) prio next here = refl

one_set : (was here : Holders) (prio q : Prio) (next : Option AppId) (same : Bool) → (same ≡ true → was ≡ here) → holder_of (if same then holders_with was prio next else here) q ≡ (if same && is_same_prio prio q then next else holder_of here q)
one_set was here prio q next false is = refl
one_set was here prio q next true is = rw (is refl) (holder_of-with here prio q next)

-- one lock has the new holder, and all else is as before
pub holder_in-lock_set : (t u : LockRows) (e : Entity) (prio : Prio) (next : Option AppId) → u ≡ lock_set t e prio next → IsLockIn t e → holder_in u ≡ holder_set (holder_in t) e prio next
holder_in-lock_set t u at prio next is here = rw is (fun_ext (λ e. fun_ext (λ q.
    rw (holders_at-lock_set t at e prio next here)
    (one_set (holders_at t at) (holders_at t e) prio q next (is_same_entity at e) (λ same. ap (holders_at t) (same_entity at e same))))))

-- the holder gives its lock back
pub holder_in-freed : (t u : LockRows) (e : Entity) (prio : Prio) (app : AppId) → u ≡ lock_set t e prio None → IsLockIn t e → is_held_by app (holder_in t e prio) ≡ true → holder_in u ≡ holder_freed (holder_in t) e prio app
holder_in-freed t u e prio app is here held = rw (held, holder_in-lock_set t u e prio None is here) refl
