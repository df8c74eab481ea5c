-- Causes that name a row or its entity.
use Rattle.st_event.specs.declared.reply.Cause.{Cause}
use Rattle.st_event.specs.declared.reply.Cause.TheVariants.{NotControllable, Locked, Broken as broken_cause}

-- the cause lies in a row: it is not a promise that breaks
abbrev pub IsOfRow : Cause → Type 0
IsOfRow (NotControllable row lack) = Unit {0}
IsOfRow (Locked e holder prio) = Unit {0}
IsOfRow (broken_cause broken) = ⊥
