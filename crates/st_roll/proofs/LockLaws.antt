-- Locks that do not bar an application that holds none bar nobody.
use Rattle.std.proofs.Common.{◌≡◌, List, [], ◌∷◌, Option, Some, None, refl}
use Rattle.std.specs.Prelude.{Bool, true, false, ◌==◌, if◌then◌else◌}
use Rattle.st_net.specs.declared.entity.AppId.{AppId}
use Rattle.st_net.specs.declared.entity.Entity.{Entity}
use Rattle.st_net.specs.declared.entity.Prio.{Prio}
use Rattle.st_net.specs.declared.entity.Prio.TheVariants.{Low, High}
use Rattle.st_net.specs.declared.entity.Row.{Row}
use Rattle.st_net.specs.Holders.{is_held_by, high_or_low}
use Rattle.st_event.specs.declared.reply.Cause.{Cause}
use Rattle.st_event.specs.declared.reply.Cause.TheVariants.{Locked}
use Rattle.st_event.specs.Judge.{cause_or, locked_cause, first_locked}

barred : (own : Bool) (next : Option Cause) (cause : Cause) → own ≡ false → (if own then next else Some cause) ≡ None → ⊥
barred true next cause other is = cc
barred false next cause other is = cc

lock_step : (app other : AppId) (e : Entity) (high low : Option AppId) (next more : Option Cause) → is_held_by app high ≡ false → is_held_by app low ≡ false → (next ≡ None → more ≡ None) → locked_cause app e (high_or_low high low) next ≡ None → locked_cause other e (high_or_low high low) more ≡ None
lock_step app other e None None next more not_high not_low goes_on is = goes_on is
lock_step app other e None (Some holder) next more not_high not_low goes_on is = absurd (barred (holder.0 == app.0) next (Locked e holder Low) not_low is)
lock_step app other e (Some holder) low next more not_high not_low goes_on is = absurd (barred (holder.0 == app.0) next (Locked e holder High) not_high is)

none_locked : (held : Entity → Prio → Option AppId) (app other : AppId) (rows : List Row) → ((e : Entity) (prio : Prio) → is_held_by app (held e prio) ≡ false) → first_locked held app rows ≡ None → first_locked held other rows ≡ None
none_locked held app other [] none is = refl
none_locked held app other (row ∷ rows) none is =
    lock_step app other row.entity (held row.entity High) (held row.entity Low) (first_locked held app rows) (first_locked held other rows) (none row.entity High) (none row.entity Low) (none_locked held app other rows none) is

still_none : (lack lock other broken : Option Cause) → (lock ≡ None → other ≡ None) → cause_or lack (cause_or lock broken) ≡ None → cause_or lack (cause_or other broken) ≡ None
still_none (Some cause) lock other broken none is = absurd cc
still_none None (Some cause) other broken none is = absurd cc
still_none None None None broken none is = is
still_none None None (Some cause) broken none is = let no : Some cause ≡ None = none refl in absurd cc

pub accepted_still : (lack broken : Option Cause) (held : Entity → Prio → Option AppId) (app other : AppId) (rows : List Row) → ((e : Entity) (prio : Prio) → is_held_by app (held e prio) ≡ false) → cause_or lack (cause_or (first_locked held app rows) broken) ≡ None → cause_or lack (cause_or (first_locked held other rows) broken) ≡ None
accepted_still lack broken held app other rows none is = still_none lack (first_locked held app rows) (first_locked held other rows) broken (none_locked held app other rows none) is
