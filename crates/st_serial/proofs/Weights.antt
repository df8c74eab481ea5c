-- The acts of the places that are gone through weigh no more together than all acts do: each place has an act of its own.
use Rattle.std.proofs.Common.{◌≡◌, ℕ, zero, suc, ◌+◌, ◌<◌, ◌≤◌, List, [], ◌∷◌, length, Bool, true, false, Option, Some, None, refl, ap, ◌∙◌, arith, take}
use Rattle.std.specs.Prelude.{reverse, slice_get, nat_lt, ◌==◌, sum_by, if◌then◌else◌}
use Rattle.std.proofs.lemmas.Bool.Decides.{nat_tests}
use Rattle.std.proofs.lemmas.List.Sums.{sum_by-cons, sum_by-append, sum_by-take-le}
use Rattle.std.proofs.lemmas.Option.{slice_get_past}
use Rattle.st_event.specs.declared.act.Act.{Act}
use Rattle.st_grammar.specs.declared.doc.Script.{Script}
use Rattle.st_grammar.specs.declared.limits.TheConstants.{MAX_ACTS}
use Rattle.st_serial.specs.declared.schedule.Place.{Place}
use Rattle.st_serial.specs.Schedule.{times, act_count, place_at, ordered, lap, laps, schedule}
use Rattle.st_serial.specs.Serial.{act_in, act_of}
use Rattle.st_serial.proofs.Lists.{by_test}

-- what an item weighs, if there is one
abbrev pub or_zero : {X : Type 0} → (X → ℕ) → Option X → ℕ
or_zero f None = 0
or_zero f (Some x) = f x

-- one item more
take_next : {X : Type 0} (f : X → ℕ) (xs : List X) (m : ℕ) → sum_by f (take (suc m) xs) ≡ sum_by f (take m xs) + or_zero f (slice_get xs m)
take_next f [] zero = refl
take_next f [] (suc m) = refl
take_next f (x ∷ xs) zero = omega arith
take_next f (x ∷ xs) (suc m) = omega (arith, take_next f xs m, sum_by-cons f x (take (suc m) xs), sum_by-cons f x (take m xs))

-- an application's acts
abbrev acts_of : Option Script → List Act
acts_of None = []
acts_of (Some app) = app.acts

less_by : (m n : ℕ) → m < suc n → (n == m) ≡ false → m < n
less_by m n low is = grind (arith, nat_tests)

same_by : (m n : ℕ) → (n == m) ≡ true → n ≡ m
same_by m n is = grind (arith, nat_tests)

module _ (f : Act → ℕ) (apps : List Script) where
  -- the weight of an act by its application's number and its own, and by its place
  abbrev pub weight_at : ℕ → ℕ → ℕ
  weight_at i k = or_zero f (act_in (slice_get apps i) k)

  abbrev pub place_weight : Place → ℕ
  place_weight place = or_zero f (act_of apps place)

  -- of an application's acts, and of all
  abbrev pub script_weight : Script → ℕ
  script_weight app = sum_by f app.acts

  -- of the first k acts of application i
  abbrev upto : ℕ → ℕ → ℕ
  upto i k = sum_by f (take k (acts_of (slice_get apps i)))

  next_by : (o : Option Script) (k : ℕ) → sum_by f (take (suc k) (acts_of o)) ≡ sum_by f (take k (acts_of o)) + or_zero f (act_in o k)
  next_by None zero = refl
  next_by None (suc k) = refl
  next_by (Some app) k = take_next f app.acts k

  upto_next : (i k : ℕ) → upto i (suc k) ≡ upto i k + weight_at i k
  upto_next i k = next_by (slice_get apps i) k

  place_within : (i k : ℕ) → sum_by place_weight (place_at apps i k) ≤ weight_at i k
  place_within i k = by_test (λ ps. sum_by place_weight ps ≤ weight_at i k) (nat_lt k (act_count apps i)) (record { app = i; act = k } ∷ []) [] (omega arith) (omega arith)

  -- of the first n applications, each up to a number of its acts
  abbrev all_upto : (ℕ → ℕ) → ℕ → ℕ
  all_upto t zero = 0
  all_upto t (suc n) = all_upto t n + upto n (t n)

  -- how many acts of an application are done after an order and so many laps
  abbrev done : List ℕ → ℕ → ℕ → ℕ
  done order k i = times i order + k

  -- laps

  lap_within : (order : List ℕ) (k n : ℕ) → sum_by place_weight (lap apps order k n) + all_upto (done order k) n ≤ all_upto (done order (suc k)) n
  lap_within order k zero = omega arith
  lap_within order k (suc n) =
      let t = times n order + k in
      let both = sum_by-append place_weight (lap apps order k n) (place_at apps n t) in
      let before = lap_within order k n in
      let here = place_within n t in
      let longer : times n order + suc k ≡ suc t = omega arith in
      let next = ap (upto n) longer ∙ upto_next n t in
      omega (arith, both, before, here, next)

  laps_within : (order : List ℕ) (k : ℕ) → sum_by place_weight (laps apps order k) + all_upto (done order 0) (length apps) ≤ all_upto (done order k) (length apps)
  unfolding laps
  laps_within order zero = omega arith
  laps_within order (suc k) =
      let both = sum_by-append place_weight (laps apps order k) (lap apps order k (length apps)) in
      omega (arith, both, laps_within order k, lap_within order k (length apps))

  -- the order

  -- where one name more is given no application has done less
  more_by : (before : List ℕ) (n : ℕ) (b : Bool) → upto n (times n before + 0) ≤ upto n ((if b then times n before + 1 else times n before) + 0)
  more_by before n true =
      let t = times n before + 0 in
      let longer : times n before + 1 + 0 ≡ suc t = omega arith in
      let next = ap (upto n) longer ∙ upto_next n t in
      omega (arith, next)
  more_by before n false = omega arith

  more_done : (i : ℕ) (before : List ℕ) (n : ℕ) → all_upto (done before 0) n ≤ all_upto (done (i ∷ before) 0) n
  more_done i before zero = omega arith
  more_done i before (suc n) = omega (arith, more_done i before n, more_by before n (n == i))

  -- and the one that is named has done its next act
  named_by : (i : ℕ) (before : List ℕ) (n : ℕ) (b : Bool) → (n == i) ≡ b → i < suc n → (i < n → all_upto (done before 0) n + weight_at i (times i before) ≤ all_upto (done (i ∷ before) 0) n) → all_upto (done before 0) (suc n) + weight_at i (times i before) ≤ all_upto (done (i ∷ before) 0) n + upto n ((if b then times n before + 1 else times n before) + 0)
  named_by i before n true is low earlier =
      let same : n ≡ i = same_by i n is in
      let t = times n before in
      let whole : t + 0 ≡ t = omega arith in
      let longer : t + 1 + 0 ≡ suc t = omega arith in
      let now = ap (upto n) longer ∙ upto_next n t in
      let was = ap (upto n) whole in
      let at = ap (λ (m : ℕ). weight_at m (times m before)) same in
      omega (arith, more_done i before n, now, was, at)
  named_by i before n false is low earlier = omega (arith, earlier (less_by i n low is))

  named_within : (i : ℕ) (before : List ℕ) (n : ℕ) → i < n → all_upto (done before 0) n + weight_at i (times i before) ≤ all_upto (done (i ∷ before) 0) n
  named_within i before zero low = absurd (omega arith)
  named_within i before (suc n) low = named_by i before n (n == i) refl low (named_within i before n)

  -- a name beyond the applications has no acts
  beyond : (i k : ℕ) → length apps ≤ i → weight_at i k ≡ 0
  beyond i k past = ap (λ (o : Option Script). or_zero f (act_in o k)) (slice_get_past apps i past)

  next_within : (i : ℕ) (before : List ℕ) (b : Bool) → nat_lt i (length apps) ≡ b → all_upto (done before 0) (length apps) + weight_at i (times i before) ≤ all_upto (done (i ∷ before) 0) (length apps)
  next_within i before true is = named_within i before (length apps) (grind (arith, nat_tests))
  next_within i before false is =
      let past : length apps ≤ i = grind (arith, nat_tests) in
      omega (arith, more_done i before (length apps), beyond i (times i before) past)

  ordered_within : (order : List ℕ) → sum_by place_weight (ordered apps order) ≤ all_upto (done order 0) (length apps)
  ordered_within [] = omega arith
  ordered_within (i ∷ before) =
      let both = sum_by-append place_weight (ordered apps before) (place_at apps i (times i before)) in
      omega (arith, both, ordered_within before, place_within i (times i before), next_within i before (nat_lt i (length apps)) refl)

  -- all acts

  some_within : (o : Option Script) (k : ℕ) → sum_by f (take k (acts_of o)) ≤ or_zero script_weight o
  some_within None zero = omega arith
  some_within None (suc k) = omega arith
  some_within (Some app) k = sum_by-take-le f app.acts k

  all_within : (t : ℕ → ℕ) (n : ℕ) → all_upto t n ≤ sum_by script_weight (take n apps)
  all_within t zero = omega arith
  all_within t (suc n) = omega (arith, all_within t n, take_next script_weight apps n, some_within (slice_get apps n) (t n))

  pub schedule_within : (order : List ℕ) → sum_by place_weight (schedule apps order) ≤ sum_by script_weight apps
  schedule_within order =
      let names = reverse order in
      let both = sum_by-append place_weight (ordered apps names) (laps apps names MAX_ACTS) in
      let first = ordered_within names in
      let last = laps_within names MAX_ACTS in
      let all = all_within (done names MAX_ACTS) (length apps) in
      let most = sum_by-take-le script_weight apps (length apps) in
      omega (arith, both, first, last, all, most)
