-- Worked examples: the fields of states, and what is told where they differ.
use Rattle.std.proofs.Common.{◌≡◌, ℕ, true, false, Bool, [], ◌∷◌, Some, None, refl, codes}
use Rattle.std.specs.Prelude.{Option}
use Rattle.serde_json.specs.Data.{null, no_members, object, put, string}
use Rattle.serde_json.specs.Find.{get}
use Rattle.st_net.specs.declared.entity.AppId.{AppId}
use Rattle.st_net.specs.declared.entity.Vals.{Vals}
use Rattle.st_player.specs.declared.state.Carriage.{Carriage}
use Rattle.st_player.specs.declared.state.Carriage.TheVariants.{Up, Failed, Drained}
use Rattle.st_player.specs.declared.state.Knowledge.{Knowledge}
use Rattle.st_player.specs.declared.state.Knowledge.TheVariants.{Sure, Waiting}
use Rattle.st_player.specs.declared.state.State.{State}
use Rattle.st_player.specs.Fields.{change_data, changes_from, fields_between, has_field, holder_data, state_data, vals_data, with_fields}
use Rattle.st_player.specs.Json.{number_data, numbers_data}

abbrev usual : Vals
usual = record { v0 = 1; v1 = 7; v2 = 8; v3 = 1 }

abbrev drained : Vals
drained = record { v0 = 1; v1 = 7; v2 = 8; v3 = 0 }

abbrev first_app : Option AppId
first_app = Some (record { 0 = 0 })

abbrev second_app : Option AppId
second_app = Some (record { 0 = 1 })

-- a state, by how it is and is known, whether it is untold, its values in the network, its level there, its stamp, its locks, and whether it is open
abbrev state : Carriage → Knowledge → Bool → Vals → ℕ → ℕ → Option AppId → Option AppId → Option Bool → State
state carriage knowledge untold real works stamp low high open_is = record {
  carriage = carriage;
  knowledge = knowledge;
  untold = untold;
  target = usual;
  seen = usual;
  real = real;
  level = 5;
  works = works;
  stamp = stamp;
  fence = 0;
  told = 0;
  health = Some 5;
  low = low;
  high = high;
  is_open = open_is;
}

abbrev up : State
up = state Up Sure false usual 5 0 None None None

abbrev failed : State
failed = state Failed Sure true usual 0 0 None None None

abbrev open_link : State
open_link = state Up Sure false usual 1 0 None None (Some true)

abbrev shut_link : State
shut_link = state Up Sure false usual 1 0 None None (Some false)

-- a state does not differ from itself, and each field alone makes another state
none_differs : has_field (fields_between up up) ≡ false
none_differs = refl

carriage_differs : has_field (fields_between up (state Drained Sure false usual 5 0 None None None)) ≡ true
carriage_differs = refl

knowledge_differs : has_field (fields_between up (state Up Waiting false usual 5 0 None None None)) ≡ true
knowledge_differs = refl

untold_differs : has_field (fields_between up (state Up Sure true usual 5 0 None None None)) ≡ true
untold_differs = refl

real_differs : has_field (fields_between up (state Up Sure false drained 5 0 None None None)) ≡ true
real_differs = refl

works_differs : has_field (fields_between up (state Up Sure false usual 4 0 None None None)) ≡ true
works_differs = refl

stamp_differs : has_field (fields_between up (state Up Sure false usual 5 1 None None None)) ≡ true
stamp_differs = refl

low_differs : has_field (fields_between up (state Up Sure false usual 5 0 first_app None None)) ≡ true
low_differs = refl

high_differs : has_field (fields_between up (state Up Sure false usual 5 0 None first_app None)) ≡ true
high_differs = refl

holder_differs : has_field (fields_between (state Up Sure false usual 5 0 first_app None None) (state Up Sure false usual 5 0 second_app None None)) ≡ true
holder_differs = refl

same_holder : has_field (fields_between (state Up Sure false usual 5 0 first_app None None) (state Up Sure false usual 5 0 first_app None None)) ≡ false
same_holder = refl

open_differs : has_field (fields_between open_link shut_link) ≡ true
open_differs = refl

both_open : has_field (fields_between open_link open_link) ≡ false
both_open = refl

-- a change has what differs, and no more
change : change_data 3 up failed ≡ object (put (codes "entity") (number_data 3) (put (codes "is") (string (codes "failed")) (put (codes "untold") (number_data 1) (put (codes "works") (number_data 0) no_members))))
unfolding with_fields
change = refl

back : change_data 3 failed up ≡ object (put (codes "entity") (number_data 3) (put (codes "is") (string (codes "up")) (put (codes "untold") (number_data 0) (put (codes "works") (number_data 5) no_members))))
unfolding with_fields
back = refl

shuts : change_data 7 open_link shut_link ≡ object (put (codes "entity") (number_data 7) (put (codes "open") (number_data 0) no_members))
unfolding with_fields
shuts = refl

locks : change_data 0 up (state Up Sure false usual 5 0 None first_app None) ≡ object (put (codes "entity") (number_data 0) (put (codes "high") (number_data 0) no_members))
unfolding with_fields
locks = refl

lets_go : change_data 0 (state Up Sure false usual 5 0 None first_app None) up ≡ object (put (codes "entity") (number_data 0) (put (codes "high") null no_members))
unfolding with_fields
lets_go = refl

-- those that differ are told by their places, and no others
second_alone : changes_from 0 (up ∷ up ∷ open_link ∷ []) (up ∷ failed ∷ open_link ∷ []) ≡ change_data 1 up failed ∷ []
second_alone = refl

two_changes : changes_from 4 (open_link ∷ up ∷ up ∷ []) (shut_link ∷ up ∷ failed ∷ []) ≡ change_data 4 open_link shut_link ∷ change_data 6 up failed ∷ []
two_changes = refl

no_change : changes_from 0 (up ∷ failed ∷ []) (up ∷ failed ∷ []) ≡ []
no_change = refl

-- a device has four values, and a link two
four_values : vals_data None usual ≡ numbers_data (1 ∷ 7 ∷ 8 ∷ 1 ∷ [])
four_values = refl

two_values : vals_data (Some false) usual ≡ numbers_data (1 ∷ 7 ∷ [])
two_values = refl

values_of_link : get (codes "real") (state_data open_link) ≡ Some (numbers_data (1 ∷ 7 ∷ []))
unfolding with_fields
values_of_link = refl

-- a link alone is open or shut
is_open : get (codes "open") (state_data open_link) ≡ Some (number_data 1)
unfolding with_fields
is_open = refl

is_shut : get (codes "open") (state_data shut_link) ≡ Some (number_data 0)
unfolding with_fields
is_shut = refl

device_open : get (codes "open") (state_data up) ≡ None
unfolding with_fields
device_open = refl

-- nobody holds a lock, or application 0 does
nobody : holder_data None ≡ null
nobody = refl

somebody : holder_data first_app ≡ number_data 0
somebody = refl

free : get (codes "low") (state_data up) ≡ Some null
unfolding with_fields
free = refl
