-- A plan that leaves a device behind a batch, and a group that is asked back, worked.
use Rattle.std.proofs.Common.{◌≡◌, List, [], ◌∷◌, codes, decimal, refl}
use Rattle.st_net.specs.declared.entity.Entity.TheVariants.{Device}
use Rattle.st_net.specs.declared.entity.Prio.TheVariants.{High}
use Rattle.st_net.specs.declared.entity.Row.{Row}
use Rattle.st_net.specs.Groups.{Group, no_group}
use Rattle.st_event.specs.declared.event.Event.TheVariants.{Submit, Check}
use Rattle.st_event.specs.declared.reply.Cause.TheVariants.{Locked}
use Rattle.st_revert.specs.declared.back.Revert.TheVariants.{Rows, TooMany}
use Rattle.st_roll.specs.declared.plan.Roll.{Roll}
use Rattle.st_roll.specs.declared.plan.Why.TheVariants.{Full}
use Rattle.st_serial.specs.Serial.{GroupState}
use Rattle.st_world.specs.Rounds.{course_from}
use Rattle.st_top.specs.Reverting.{asked_by, course_back, first_app, revert_words}
use Rattle.st_top.specs.Rolling.{plan_lines}

-- three names, of which an application has the third one's lock
abbrev switches : Group
switches = record no_group { name = codes "dc1"; device_names = codes "a1" ∷ codes "a2" ∷ codes "a3" ∷ [] }

abbrev plan : Roll
plan = record {
  batches = record { devices = 0 ∷ []; left = record { device = 1; why = Full } ∷ [] } ∷ record { devices = 1 ∷ []; left = [] } ∷ [];
  stuck = record { device = 2; cause = Locked (Device 2) (record { 0 = 0 }) High } ∷ [];
  same = [];
}

-- who is left has the number of the batch that left it, and not of the next
plan_is_told : plan_lines switches (codes "te" ∷ []) plan ≡
    (codes "group" ∷ codes "dc1" ∷ []) ∷ (codes "batch" ∷ decimal 1 ∷ codes "a1" ∷ []) ∷ (codes "left" ∷ decimal 1 ∷ codes "a2" ∷ codes "full" ∷ []) ∷ (codes "batch" ∷ decimal 2 ∷ codes "a2" ∷ []) ∷
    (codes "stuck" ∷ codes "a3" ∷ codes "locked" ∷ codes "a3" ∷ codes "te" ∷ codes "high" ∷ []) ∷ []
plan_is_told = refl

-- a group at its opening: it is version 0, and there is no other
abbrev opened : GroupState
opened = record { history = record { group = switches; past = [] }; lines = [] }

same_at_opening : revert_words 0 opened ≡ codes "revert" ∷ codes "dc1" ∷ codes "same" ∷ []
same_at_opening = refl

no_version : revert_words 1 opened ≡ codes "revert" ∷ codes "dc1" ∷ codes "noversion" ∷ codes "latest" ∷ decimal 0 ∷ []
no_version = refl

nothing_entered : course_back 1 opened ≡ course_from []
nothing_entered = refl

-- rows are asked by the first application and checked, and too many are not asked
too_many : asked_by (TooMany 17) ≡ []
too_many = refl

asked_and_checked : (rows : List Row) → asked_by (Rows rows) ≡ Submit first_app rows ∷ Check ∷ []
asked_and_checked rows = refl

not_asked_alone : (rows : List Row) → asked_by (Rows rows) ≡ Submit first_app rows ∷ [] → ⊥
not_asked_alone rows is = cc
