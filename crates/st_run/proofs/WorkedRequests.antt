-- Worked cases of requests by an application of a document of two: ones by the first and by the last, events that are no requests, and ones that it refuses.
use Rattle.std.proofs.Common.{ℕ, [], arith}
use Rattle.st_net.specs.declared.entity.AppId.{AppId}
use Rattle.st_net.specs.declared.entity.Entity.{Entity}
use Rattle.st_net.specs.declared.entity.Entity.TheVariants.{Device}
use Rattle.st_net.specs.declared.entity.Prio.TheVariants.{Low}
use Rattle.st_event.specs.declared.event.Event.TheVariants.{Submit, Check, Lock, Unlock, Send}
use Rattle.st_run.specs.Running.{IsByOneOf}

abbrev app : ℕ → AppId
app n = record { 0 = n }

abbrev a1 : Entity
a1 = Device 0

by_first : IsByOneOf 2 (Submit (app 0) [])
by_first = omega arith

by_last : IsByOneOf 2 (Lock (app 1) a1 Low)
by_last = omega arith

no_request : IsByOneOf 2 Check
no_request = tt

no_command : IsByOneOf 2 (Send a1)
no_command = tt

-- by an application that the document does not have
not_beyond : IsByOneOf 2 (Lock (app 2) a1 Low) → ⊥
not_beyond is = absurd (omega (arith, is))

not_proposed : IsByOneOf 2 (Submit (app 40) []) → ⊥
not_proposed is = absurd (omega (arith, is))

not_returned : IsByOneOf 2 (Unlock (app 40) a1 Low) → ⊥
not_returned is = absurd (omega (arith, is))
