-- The fields of a state as members of an object: all of them, or those that differ from before.
use Rattle.std.specs.Prelude.{ℕ, ◌==◌, ◌||◌, not, Bool, true, false, List, [], ◌∷◌, Option, Some, None, option_map, codes, suc, if◌then◌else◌}
use Rattle.serde_json.specs.Data.{Data, string, object, Members, no_members, put}
use Rattle.st_net.specs.declared.entity.AppId.{AppId}
use Rattle.st_net.specs.declared.entity.Vals.{Vals}
use Rattle.st_net.specs.Entities.{is_same_vals}
use Rattle.st_player.specs.declared.state.Carriage.{Carriage}
use Rattle.st_player.specs.declared.state.Carriage.TheVariants.{Busy, Up, Off, Failed, Drained}
use Rattle.st_player.specs.declared.state.Knowledge.{Knowledge}
use Rattle.st_player.specs.declared.state.Knowledge.TheVariants.{Sure, Settled, Blocked, Waiting}
use Rattle.st_player.specs.declared.state.State.{State}
use Rattle.st_player.specs.declared.fields.Fields.{Fields}
use Rattle.st_player.specs.Json.{number_data, flag_data, numbers_data, number_or_null, put_where}

abbrev pub carriage_word : Carriage → List ℕ
carriage_word Busy = codes "busy"
carriage_word Up = codes "up"
carriage_word Off = codes "off"
carriage_word Failed = codes "failed"
carriage_word Drained = codes "drained"

abbrev pub knowledge_word : Knowledge → List ℕ
knowledge_word Sure = codes "sure"
knowledge_word Settled = codes "settled"
knowledge_word Blocked = codes "blocked"
knowledge_word Waiting = codes "waiting"

abbrev pub is_same_carriage : Carriage → Carriage → Bool
is_same_carriage Busy Busy = true
is_same_carriage Up Up = true
is_same_carriage Off Off = true
is_same_carriage Failed Failed = true
is_same_carriage Drained Drained = true
is_same_carriage _ _ = false

abbrev pub is_same_knowledge : Knowledge → Knowledge → Bool
is_same_knowledge Sure Sure = true
is_same_knowledge Settled Settled = true
is_same_knowledge Blocked Blocked = true
is_same_knowledge Waiting Waiting = true
is_same_knowledge _ _ = false

abbrev pub is_same_flag : Bool → Bool → Bool
is_same_flag true b = b
is_same_flag false b = not b

abbrev pub is_same_holder : Option AppId → Option AppId → Bool
is_same_holder None None = true
is_same_holder (Some a) (Some b) = a.0 == b.0
is_same_holder _ _ = false

abbrev pub is_same_health : Option ℕ → Option ℕ → Bool
is_same_health None None = true
is_same_health (Some a) (Some b) = a == b
is_same_health _ _ = false

abbrev pub is_same_open : Option Bool → Option Bool → Bool
is_same_open None None = true
is_same_open (Some a) (Some b) = is_same_flag a b
is_same_open _ _ = false

-- every field
abbrev pub all_fields : Fields
all_fields = record {
  carriage = true;
  knowledge = true;
  untold = true;
  target = true;
  seen = true;
  real = true;
  level = true;
  works = true;
  stamp = true;
  fence = true;
  told = true;
  health = true;
  low = true;
  high = true;
  is_open = true;
}

-- the fields in which two states differ
abbrev pub fields_between : State → State → Fields
fields_between old new = record {
  carriage = not (is_same_carriage old.carriage new.carriage);
  knowledge = not (is_same_knowledge old.knowledge new.knowledge);
  untold = not (is_same_flag old.untold new.untold);
  target = not (is_same_vals old.target new.target);
  seen = not (is_same_vals old.seen new.seen);
  real = not (is_same_vals old.real new.real);
  level = not (old.level == new.level);
  works = not (old.works == new.works);
  stamp = not (old.stamp == new.stamp);
  fence = not (old.fence == new.fence);
  told = not (old.told == new.told);
  health = not (is_same_health old.health new.health);
  low = not (is_same_holder old.low new.low);
  high = not (is_same_holder old.high new.high);
  is_open = not (is_same_open old.is_open new.is_open);
}

-- whether there is one
abbrev pub has_field : Fields → Bool
has_field f = f.carriage || (f.knowledge || (f.untold || (f.target || (f.seen || (f.real || (f.level || (f.works
    || (f.stamp || (f.fence || (f.told || (f.health || (f.low || (f.high || f.is_open)))))))))))))

-- an entity's values: two of a link, four of a device
abbrev pub vals_data : Option Bool → Vals → Data
vals_data None vals = numbers_data (vals.v0 ∷ vals.v1 ∷ vals.v2 ∷ vals.v3 ∷ [])
vals_data (Some is) vals = numbers_data (vals.v0 ∷ vals.v1 ∷ [])

abbrev pub holder_data : Option AppId → Data
holder_data holder = number_or_null (option_map (λ app. app.0) holder)

-- of a link alone
abbrev pub put_open : Bool → Option Bool → Members → Members
put_open b None ms = ms
put_open b (Some is) ms = put_where b (codes "open") (flag_data is) ms

abbrev pub with_standing : Fields → State → Members → Members
with_standing f s ms = put_open f.is_open s.is_open
    (put_where f.untold (codes "untold") (flag_data s.untold)
    (put_where f.knowledge (codes "known") (string (knowledge_word s.knowledge))
    (put_where f.carriage (codes "is") (string (carriage_word s.carriage)) ms)))

abbrev pub with_values : Fields → State → Members → Members
with_values f s ms = put_where f.real (codes "real") (vals_data s.is_open s.real)
    (put_where f.seen (codes "seen") (vals_data s.is_open s.seen)
    (put_where f.target (codes "target") (vals_data s.is_open s.target) ms))

abbrev pub with_numbers : Fields → State → Members → Members
with_numbers f s ms = put_where f.fence (codes "fence") (number_data s.fence)
    (put_where f.stamp (codes "stamp") (number_data s.stamp)
    (put_where f.works (codes "works") (number_data s.works)
    (put_where f.level (codes "level") (number_data s.level) ms)))

abbrev pub with_holders : Fields → State → Members → Members
with_holders f s ms = put_where f.high (codes "high") (holder_data s.high)
    (put_where f.low (codes "low") (holder_data s.low) ms)

-- since which entry it is known so, and with which health
abbrev pub with_known : Fields → State → Members → Members
with_known f s ms = put_where f.health (codes "health") (number_or_null s.health)
    (put_where f.told (codes "told") (number_data s.told) ms)

-- members with these fields of a state more
unfoldable pub with_fields : Fields → State → Members → Members
with_fields f s ms = with_known f s (with_holders f s (with_numbers f s (with_values f s (with_standing f s ms))))

-- a whole state
abbrev pub state_data : State → Data
state_data s = object (with_fields all_fields s no_members)

-- what became of the entity of this number
abbrev pub change_data : ℕ → State → State → Data
change_data n old new = object (with_fields (fields_between old new) new (put (codes "entity") (number_data n) no_members))

-- of two lists of states, those that differ, with the numbers of their entities from n on
abbrev pub changes_from : ℕ → List State → List State → List Data
changes_from n [] new = []
changes_from n (old ∷ olds) [] = []
changes_from n (old ∷ olds) (new ∷ news) = if has_field (fields_between old new) then change_data n old new ∷ changes_from (suc n) olds news else changes_from (suc n) olds news
