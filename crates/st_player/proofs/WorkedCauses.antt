-- Worked examples: who set what after some journals, and which failure is told. The group is that of the worked examples of states.
use Rattle.std.proofs.Common.{◌≡◌, ℕ, List, [], ◌∷◌, Option, Some, None, refl, codes}
use Rattle.serde_json.specs.Data.{no_members, object, put}
use Rattle.st_net.specs.declared.entity.Entity.{Entity}
use Rattle.st_net.specs.declared.entity.Var.TheVariants.{Firmware, Iface, LinkPower, Power, Routing}
use Rattle.st_event.specs.declared.event.Event.{Event}
use Rattle.st_event.specs.declared.event.Event.TheVariants.{Submit, Check, Report, Hear, Fail, Withdraw}
use Rattle.st_player.specs.declared.origins.Failure.{Failure}
use Rattle.st_player.specs.declared.origins.Setter.{Setter}
use Rattle.st_player.specs.Causes.{causes_of, failed_data, failed_of, failure_of, set_data, setter_of, sets_of, var_place}
use Rattle.st_player.specs.Json.{list_data, number_data}
use Rattle.st_player.proofs.WorkedGroup.{a1, a2, asks, l4, q, row, run, usual}

abbrev setter : List Event → Entity → ℕ → Option Setter
setter events e k = setter_of (run q events) e k

abbrev failure : List Event → Entity → Option Failure
failure events e = failure_of (run q events) e

abbrev by : ℕ → ℕ → Option Setter
by version app = Some (record { version = version; app = Some app })

-- a row that waits has set nothing, and one that is accepted has
waits : setter (asks (row a1 Routing 0 ∷ []) ∷ []) a1 3 ≡ None
waits = refl

accepted : setter (asks (row a1 Routing 0 ∷ []) ∷ Check ∷ []) a1 3 ≡ by 1 0
accepted = refl

other_variable : setter (asks (row a1 Routing 0 ∷ []) ∷ Check ∷ []) a1 1 ≡ None
other_variable = refl

other_entity : setter (asks (row a1 Routing 0 ∷ []) ∷ Check ∷ []) a2 3 ≡ None
other_entity = refl

-- of two the newer one, and its own application
abbrev twice : ℕ → List Event
twice value = asks (row a1 Firmware 2 ∷ []) ∷ Check ∷ Submit (record { 0 = 1 }) (row a1 Firmware value ∷ []) ∷ Check ∷ []

newer : setter (twice 3) a1 1 ≡ by 2 1
newer = refl

-- what is withdrawn is set by no application, so not by the one whose proposal waits meanwhile; and a withdrawal of nothing sets nothing
abbrev taken_back : List Event
taken_back = asks (row a1 Firmware 2 ∷ []) ∷ Check ∷ Fail a1 usual 0 ∷ Report a1 ∷ Hear 1 ∷ asks (row a2 Firmware 2 ∷ []) ∷ Withdraw a1 ∷ []

withdrawn : setter taken_back a1 1 ≡ Some (record { version = 2; app = None })
withdrawn = refl

kept : setter (asks (row a1 Firmware 2 ∷ []) ∷ Check ∷ Withdraw a1 ∷ []) a1 1 ≡ by 1 0
kept = refl

-- a refused proposal sets nothing
refused : setter (asks (row a1 Firmware 2 ∷ []) ∷ asks (row a2 Firmware 2 ∷ []) ∷ Check ∷ Check ∷ []) a2 1 ≡ None
refused = refl

-- a link has two variables
of_link : (var_place LinkPower ≡ 0) × (var_place Iface ≡ 1) × (var_place Power ≡ 0)
of_link = (refl, refl, refl)

link_set : setter (asks (row l4 Iface 2 ∷ []) ∷ Check ∷ []) l4 1 ≡ by 1 0
link_set = refl

-- what is as at the opening again is not told, whoever set it
told : sets_of q (run q (twice 3)) a1 ≡ set_data 2 1 (record { version = 2; app = Some 1 }) ∷ []
told = refl

set_back : sets_of q (run q (twice 1)) a1 ≡ []
set_back = refl

withdrawn_to_opening : sets_of q (run q taken_back) a1 ≡ []
withdrawn_to_opening = refl

-- of what is withdrawn to another value the version is told, and no application
abbrev led_elsewhere : List Event
led_elsewhere = asks (row a2 Firmware 2 ∷ []) ∷ Fail a1 (record usual { v1 = 7 }) 0 ∷ Report a1 ∷ Hear 1 ∷ Withdraw a1 ∷ []

told_by_nobody : sets_of q (run q led_elsewhere) a1 ≡ object (put (codes "version") (number_data 1) (put (codes "var") (number_data 1) (put (codes "entity") (number_data 2) no_members))) ∷ []
told_by_nobody = refl

-- the newest failure, and only one that left less than all of it working is told
abbrev mended : List Event
mended = Fail a2 usual 3 ∷ Fail a2 usual 5 ∷ []

newest_failure : failure mended a2 ≡ Some (record { entry = 2; health = 5 })
newest_failure = refl

mended_untold : failed_of q (run q mended) a2 ≡ []
mended_untold = refl

in_part : failed_of q (run q (Fail a2 usual 0 ∷ Fail a2 usual 3 ∷ [])) a2 ≡ failed_data 3 (record { entry = 2; health = 3 }) ∷ []
in_part = refl

never_failed : failed_of q (run q (Fail a2 usual 0 ∷ [])) a1 ≡ []
never_failed = refl

-- nothing is told at the opening, and a list that is empty is left out
no_causes : causes_of q [] ≡ None
unfolding causes_of
no_causes = refl

one_cause : causes_of q (run q (Fail a2 usual 0 ∷ [])) ≡ Some (object (put (codes "failed") (list_data (object (put (codes "entry") (number_data 1) (put (codes "entity") (number_data 3) no_members)) ∷ [])) no_members))
unfolding causes_of
one_cause = refl
