-- A state as its parts: what a change tells of an entity, laid over the state before it, is the state behind it.
use Rattle.std.proofs.Common.{◌≡◌, ◌∙◌, ℕ, List, [], ◌∷◌, true, false, Bool, true≢false, refl, sym, ap, ap₂, codes}
use Rattle.std.specs.Prelude.{Option, Some, None, bytes_eq, is_some, not, ◌||◌, ◌==◌}
use Rattle.std.specs.Option.{option_or}
use Rattle.std.proofs.lemmas.Bool.Decides.{nat_tests}
use Rattle.std.proofs.Common.{arith}
use Rattle.serde_json.specs.Data.{Data, string, Members, no_members, put}
use Rattle.serde_json.specs.Find.{get, get_member}
use Rattle.st_net.specs.declared.entity.AppId.{AppId}
use Rattle.st_net.proofs.Tests.{same_vals}
use Rattle.st_player.specs.declared.fields.Fields.{Fields}
use Rattle.st_player.specs.declared.state.Carriage.{Carriage}
use Rattle.st_player.specs.declared.state.Carriage.TheVariants.{Busy, Up, Off, Failed, Drained}
use Rattle.st_player.specs.declared.state.Knowledge.{Knowledge}
use Rattle.st_player.specs.declared.state.Knowledge.TheVariants.{Sure, Settled, Blocked, Waiting}
use Rattle.st_player.specs.declared.state.State.{State}
use Rattle.st_player.specs.Fields.{all_fields, carriage_word, change_data, fields_between, has_field, holder_data, is_same_carriage, is_same_flag, is_same_health, is_same_holder, is_same_knowledge, is_same_open, knowledge_word, put_open, state_data, vals_data, with_fields}
use Rattle.st_player.specs.Json.{flag_data, number_data, number_or_null, put_where}
use Rattle.st_player.proofs.PartLemmas.{Part, laid_over, passed_by}

-- fields that do not differ are the same
same_carriage : (a b : Carriage) → is_same_carriage a b ≡ true → a ≡ b
same_carriage Busy Busy is = refl
same_carriage Up Up is = refl
same_carriage Off Off is = refl
same_carriage Failed Failed is = refl
same_carriage Drained Drained is = refl
same_carriage _ _ is = cc

same_knowledge : (a b : Knowledge) → is_same_knowledge a b ≡ true → a ≡ b
same_knowledge Sure Sure is = refl
same_knowledge Settled Settled is = refl
same_knowledge Blocked Blocked is = refl
same_knowledge Waiting Waiting is = refl
same_knowledge _ _ is = cc

pub same_flag : (a b : Bool) → is_same_flag a b ≡ true → a ≡ b
same_flag true true is = refl
same_flag false false is = refl
same_flag true false is = cc
same_flag false true is = cc

same_number : (a b : ℕ) → (a == b) ≡ true → a ≡ b
same_number a b is = grind (arith, nat_tests)

same_holder : (a b : Option AppId) → is_same_holder a b ≡ true → a ≡ b
same_holder None None is = refl
same_holder (Some a) (Some b) is = let n : a.0 ≡ b.0 = same_number a.0 b.0 is in λ i. Some (record { 0 = n i })
same_holder None (Some b) is = cc
same_holder (Some a) None is = cc

same_health : (a b : Option ℕ) → is_same_health a b ≡ true → a ≡ b
same_health None None is = refl
same_health (Some a) (Some b) is = ap (λ (n : ℕ). Some n) (same_number a b is)
same_health None (Some b) is = cc
same_health (Some a) None is = cc

same_open : (a b : Option Bool) → is_same_open a b ≡ true → a ≡ b
same_open None None is = refl
same_open (Some a) (Some b) is = ap (λ (x : Bool). Some x) (same_flag a b is)
same_open None (Some b) is = cc
same_open (Some a) None is = cc

is_same : (b : Bool) → not b ≡ false → b ≡ true
is_same true is = refl
is_same false is = absurd (true≢false is)

neither : (a b : Bool) → (a || b) ≡ false → (a ≡ false) × (b ≡ false)
neither true b is = absurd (true≢false is)
neither false b is = (refl, is)

-- where no field differs the state is the same
pub same_state : (old new : State) → has_field (fields_between old new) ≡ false → old ≡ new
same_state old new none =
    let f = fields_between old new in
    let a = neither f.carriage _ none in
    let b = neither f.knowledge _ a.1 in
    let d = neither f.untold _ b.1 in
    let e = neither f.target _ d.1 in
    let g = neither f.seen _ e.1 in
    let h = neither f.real _ g.1 in
    let j = neither f.level _ h.1 in
    let k = neither f.works _ j.1 in
    let l = neither f.stamp _ k.1 in
    let m = neither f.fence _ l.1 in
    let p = neither f.told _ m.1 in
    let q = neither f.health _ p.1 in
    let n = neither f.low _ q.1 in
    let o = neither f.high f.is_open n.1 in
    λ i. record {
      carriage = same_carriage old.carriage new.carriage (is_same _ a.0) i;
      knowledge = same_knowledge old.knowledge new.knowledge (is_same _ b.0) i;
      untold = same_flag old.untold new.untold (is_same _ d.0) i;
      target = same_vals old.target new.target (is_same _ e.0) i;
      seen = same_vals old.seen new.seen (is_same _ g.0) i;
      real = same_vals old.real new.real (is_same _ h.0) i;
      level = same_number old.level new.level (is_same _ j.0) i;
      works = same_number old.works new.works (is_same _ k.0) i;
      stamp = same_number old.stamp new.stamp (is_same _ l.0) i;
      fence = same_number old.fence new.fence (is_same _ m.0) i;
      told = same_number old.told new.told (is_same _ p.0) i;
      health = same_health old.health new.health (is_same _ q.0) i;
      low = same_holder old.low new.low (is_same _ n.0) i;
      high = same_holder old.high new.high (is_same _ o.0) i;
      is_open = same_open old.is_open new.is_open (is_same _ o.1) i;
    }

self_carriage : (a : Carriage) → is_same_carriage a a ≡ true
self_carriage Busy = refl
self_carriage Up = refl
self_carriage Off = refl
self_carriage Failed = refl
self_carriage Drained = refl

self_knowledge : (a : Knowledge) → is_same_knowledge a a ≡ true
self_knowledge Sure = refl
self_knowledge Settled = refl
self_knowledge Blocked = refl
self_knowledge Waiting = refl

self_flag : (a : Bool) → is_same_flag a a ≡ true
self_flag true = refl
self_flag false = refl

self_number : (a : ℕ) → (a == a) ≡ true
self_number a = grind (arith, nat_tests)

self_holder : (a : Option AppId) → is_same_holder a a ≡ true
self_holder None = refl
self_holder (Some a) = self_number a.0

self_health : (a : Option ℕ) → is_same_health a a ≡ true
self_health None = refl
self_health (Some a) = self_number a

self_open : (a : Option Bool) → is_same_open a a ≡ true
self_open None = refl
self_open (Some a) = self_flag a

-- a state does not differ from itself
pub same_as_itself : (s : State) → not (has_field (fields_between s s)) ≡ true
same_as_itself s = simp (self_carriage, self_knowledge, self_flag, self_number, self_health, self_holder, self_open)

abbrev part : Bool → List ℕ → Data → Data → Part
part told key old new = record { told = told; key = key; old = old; new = new }

-- of a link alone
abbrev open_part : Bool → Option Bool → Option Bool → List Part → List Part
open_part told (Some old) (Some new) ps = part told (codes "open") (flag_data old) (flag_data new) ∷ ps
open_part told _ _ ps = ps

-- the parts of two states, the last that is put first
abbrev parts : Fields → Option Bool → Option Bool → State → State → List Part
parts f o p old new =
    part f.health (codes "health") (number_or_null old.health) (number_or_null new.health)
    ∷ part f.told (codes "told") (number_data old.told) (number_data new.told)
    ∷ part f.high (codes "high") (holder_data old.high) (holder_data new.high)
    ∷ part f.low (codes "low") (holder_data old.low) (holder_data new.low)
    ∷ part f.fence (codes "fence") (number_data old.fence) (number_data new.fence)
    ∷ part f.stamp (codes "stamp") (number_data old.stamp) (number_data new.stamp)
    ∷ part f.works (codes "works") (number_data old.works) (number_data new.works)
    ∷ part f.level (codes "level") (number_data old.level) (number_data new.level)
    ∷ part f.real (codes "real") (vals_data o old.real) (vals_data p new.real)
    ∷ part f.seen (codes "seen") (vals_data o old.seen) (vals_data p new.seen)
    ∷ part f.target (codes "target") (vals_data o old.target) (vals_data p new.target)
    ∷ open_part f.is_open o p
    (part f.untold (codes "untold") (flag_data old.untold) (flag_data new.untold)
    ∷ part f.knowledge (codes "known") (string (knowledge_word old.knowledge)) (string (knowledge_word new.knowledge))
    ∷ part f.carriage (codes "is") (string (carriage_word old.carriage)) (string (carriage_word new.carriage))
    ∷ [])

-- the members of a state whose `is_open` is this
abbrev laid : Fields → Option Bool → State → Members → Members
laid f o s ms =
    put_where f.health (codes "health") (number_or_null s.health)
    (put_where f.told (codes "told") (number_data s.told)
    (put_where f.high (codes "high") (holder_data s.high)
    (put_where f.low (codes "low") (holder_data s.low)
    (put_where f.fence (codes "fence") (number_data s.fence)
    (put_where f.stamp (codes "stamp") (number_data s.stamp)
    (put_where f.works (codes "works") (number_data s.works)
    (put_where f.level (codes "level") (number_data s.level)
    (put_where f.real (codes "real") (vals_data o s.real)
    (put_where f.seen (codes "seen") (vals_data o s.seen)
    (put_where f.target (codes "target") (vals_data o s.target)
    (put_open f.is_open o
    (put_where f.untold (codes "untold") (flag_data s.untold)
    (put_where f.knowledge (codes "known") (string (knowledge_word s.knowledge))
    (put_where f.carriage (codes "is") (string (carriage_word s.carriage)) ms))))))))))))))

laid_is : (f : Fields) (s : State) (ms : Members) → with_fields f s ms ≡ laid f s.is_open s ms
unfolding with_fields
laid_is f s ms = refl

same_inside : (a b : Bool) → Some a ≡ Some b → a ≡ b
same_inside a b is = cc

-- what differs between two states, laid over the first
over : (k : List ℕ) (n : ℕ) (o p : Option Bool) (old new : State) → bytes_eq k (codes "entity") ≡ false → is_some o ≡ is_some p → ((fields_between old new).is_open ≡ false → o ≡ p)
    → option_or (get_member k (laid (fields_between old new) p new (put (codes "entity") (number_data n) no_members))) (get_member k (laid all_fields o old no_members)) ≡ get_member k (laid all_fields p new no_members)
over k n None None old new other alike opens =
    laid_over k (codes "entity") (number_data n) (parts (fields_between old new) None None old new) other refl (
      λ is. ap number_or_null (same_health old.health new.health (is_same _ is)),
      (
        λ is. ap number_data (same_number old.told new.told (is_same _ is)),
        (
          λ is. ap holder_data (same_holder old.high new.high (is_same _ is)),
          (
            λ is. ap holder_data (same_holder old.low new.low (is_same _ is)),
            (
              λ is. ap number_data (same_number old.fence new.fence (is_same _ is)),
              (
                λ is. ap number_data (same_number old.stamp new.stamp (is_same _ is)),
                (
                  λ is. ap number_data (same_number old.works new.works (is_same _ is)),
                  (
                    λ is. ap number_data (same_number old.level new.level (is_same _ is)),
                    (
                      λ is. ap (vals_data None) (same_vals old.real new.real (is_same _ is)),
                      (
                        λ is. ap (vals_data None) (same_vals old.seen new.seen (is_same _ is)),
                        (
                          λ is. ap (vals_data None) (same_vals old.target new.target (is_same _ is)),
                          (
                            λ is. ap flag_data (same_flag old.untold new.untold (is_same _ is)),
                            (
                              λ is. ap (λ (w : Knowledge). string (knowledge_word w)) (same_knowledge old.knowledge new.knowledge (is_same _ is)),
                              (
                                λ is. ap (λ (w : Carriage). string (carriage_word w)) (same_carriage old.carriage new.carriage (is_same _ is)),
                                tt,
                              ),
                            ),
                          ),
                        ),
                      ),
                    ),
                  ),
                ),
              ),
            ),
          ),
        ),
      ),
    )
over k n (Some a) (Some b) old new other alike opens =
    laid_over k (codes "entity") (number_data n) (parts (fields_between old new) (Some a) (Some b) old new) other refl (
      λ is. ap number_or_null (same_health old.health new.health (is_same _ is)),
      (
        λ is. ap number_data (same_number old.told new.told (is_same _ is)),
        (
          λ is. ap holder_data (same_holder old.high new.high (is_same _ is)),
          (
            λ is. ap holder_data (same_holder old.low new.low (is_same _ is)),
            (
              λ is. ap number_data (same_number old.fence new.fence (is_same _ is)),
              (
                λ is. ap number_data (same_number old.stamp new.stamp (is_same _ is)),
                (
                  λ is. ap number_data (same_number old.works new.works (is_same _ is)),
                  (
                    λ is. ap number_data (same_number old.level new.level (is_same _ is)),
                    (
                      λ is. ap (vals_data (Some a)) (same_vals old.real new.real (is_same _ is)),
                      (
                        λ is. ap (vals_data (Some a)) (same_vals old.seen new.seen (is_same _ is)),
                        (
                          λ is. ap (vals_data (Some a)) (same_vals old.target new.target (is_same _ is)),
                          (
                            λ is. ap flag_data (same_inside a b (opens is)),
                            (
                              λ is. ap flag_data (same_flag old.untold new.untold (is_same _ is)),
                              (
                                λ is. ap (λ (w : Knowledge). string (knowledge_word w)) (same_knowledge old.knowledge new.knowledge (is_same _ is)),
                                (
                                  λ is. ap (λ (w : Carriage). string (carriage_word w)) (same_carriage old.carriage new.carriage (is_same _ is)),
                                  tt,
                                ),
                              ),
                            ),
                          ),
                        ),
                      ),
                    ),
                  ),
                ),
              ),
            ),
          ),
        ),
      ),
    )
over k n None (Some b) old new other alike opens = cc
over k n (Some a) None old new other alike opens = cc

-- what stands at a key of a changed state: what the change tells, and else what stood there
pub change_over : (k : List ℕ) (n : ℕ) (old new : State) → bytes_eq k (codes "entity") ≡ false → is_some old.is_open ≡ is_some new.is_open
    → option_or (get k (change_data n old new)) (get k (state_data old)) ≡ get k (state_data new)
change_over k n old new other alike =
    let told = ap (get_member k) (laid_is (fields_between old new) new (put (codes "entity") (number_data n) no_members)) in
    let before = ap (get_member k) (laid_is all_fields old no_members) in
    let after = ap (get_member k) (laid_is all_fields new no_members) in
    ap₂ option_or told before ∙ (over k n old.is_open new.is_open old new other alike (λ is. same_open old.is_open new.is_open (is_same _ is)) ∙ sym after)

-- a change names its entity
entity_in : (n : ℕ) (o : Option Bool) (f : Fields) (s : State) → get_member (codes "entity") (laid f o s (put (codes "entity") (number_data n) no_members)) ≡ Some (number_data n)
entity_in n None f s = passed_by (codes "entity") (parts f None None s s) (put (codes "entity") (number_data n) no_members) refl
entity_in n (Some is) f s = passed_by (codes "entity") (parts f (Some is) (Some is) s s) (put (codes "entity") (number_data n) no_members) refl

pub change_of : (n : ℕ) (old new : State) → get (codes "entity") (change_data n old new) ≡ Some (number_data n)
change_of n old new = ap (get_member (codes "entity")) (laid_is (fields_between old new) new (put (codes "entity") (number_data n) no_members)) ∙ entity_in n new.is_open (fields_between old new) new
