-- A walk joins a pair exactly where no cut of it has the value 0.
use Rattle.std.proofs.Common.{◌≡◌, ◌≢◌, ℕ, zero, suc, ◌+◌, ◌<◌, ◌≤◌, List, [], ◌∷◌, ◌++◌, length, refl, ap, ◌∙◌, sym, subst, arith}
use Rattle.std.specs.Prelude.{Bool, true, false, ◌&&◌, ◌==◌, not, max, if◌then◌else◌, slice_index_or}
use Rattle.std.proofs.lemmas.Bool.Decides.{nat_tests}
use Rattle.st_net.specs.declared.entity.Entity.{Entity}
use Rattle.st_net.specs.declared.topo.LinkOpening.{LinkOpening}
use Rattle.st_net.specs.Groups.{no_link, IsLink, AreLinks}
use Rattle.st_net.specs.UpGraph.{is_up_link, is_joint, Leads, IsWalk}
use Rattle.st_net.specs.Cuts.{is_crossing, cut_value_from, cut_value, IsCut, with_number, cut_of, least_cut}
use Rattle.st_net.specs.Promises.{Holds, is_held}
use Rattle.st_net.proofs.CutLaws.{least_over-attained, least_over-below}
use Rattle.st_net.proofs.Tests.{both, turned}

-- an up link that crosses a set
record Crosses (links : List LinkOpening) (up : Entity → Bool) (side : ℕ → Bool) (i : ℕ) : Type 0 where
  within : i < length links
  is_up : is_up_link up i (slice_index_or links i no_link) ≡ true
  crosses : is_crossing side (slice_index_or links i no_link) ≡ true

-- the same, of links that are numbered from `at`
record CrossesFrom (at : ℕ) (links : List LinkOpening) (up : Entity → Bool) (side : ℕ → Bool) (i : ℕ) : Type 0 where
  within : i < length links
  is_up : is_up_link up (at + i) (slice_index_or links i no_link) ≡ true
  crosses : is_crossing side (slice_index_or links i no_link) ≡ true

later_link : (at : ℕ) (link : LinkOpening) (links : List LinkOpening) (up : Entity → Bool) (side : ℕ → Bool) → ((i : ℕ) × CrossesFrom (at + 1) links up side i) → (i : ℕ) × CrossesFrom at (link ∷ links) up side i
later_link at link links up side found =
    let here : at + 1 + found.0 ≡ at + suc found.0 = omega arith in
    (suc found.0, record { within = omega (arith, found.1.within); is_up = rw (← here) found.1.is_up; crosses = found.1.crosses })

first_or_later : (at : ℕ) (link : LinkOpening) (links : List LinkOpening) (up : Entity → Bool) (side : ℕ → Bool) (p q : Bool) → is_up_link up at link ≡ p → is_crossing side link ≡ q → 0 < (if p && q then link.capacity else 0) + cut_value_from (at + 1) links up side → (0 < cut_value_from (at + 1) links up side → (i : ℕ) × CrossesFrom (at + 1) links up side i) → (i : ℕ) × CrossesFrom at (link ∷ links) up side i
first_or_later at link links up side true true is_up crosses some later =
    let here : at + zero ≡ at = omega arith in
    (zero, record { within = omega arith; is_up = rw here is_up; crosses = crosses })
first_or_later at link links up side true false is_up crosses some later = later_link at link links up side (later (omega arith))
first_or_later at link links up side false q is_up crosses some later = later_link at link links up side (later (omega arith))

-- where something crosses, some link does
crossing_from : (at : ℕ) (links : List LinkOpening) (up : Entity → Bool) (side : ℕ → Bool) → 0 < cut_value_from at links up side → (i : ℕ) × CrossesFrom at links up side i
crossing_from at [] up side some = absurd (omega arith)
crossing_from at (link ∷ links) up side some = first_or_later at link links up side (is_up_link up at link) (is_crossing side link) refl refl some (crossing_from (at + 1) links up side)

-- a walk with one link more
walk_push : (links : List LinkOpening) (up : Entity → Bool) (a : ℕ) (walk : List ℕ) (x y i : ℕ) → IsWalk links up a walk x → Leads links up i x y → IsWalk links up a (walk ++ i ∷ []) y
walk_push links up a [] x y i here leads = (y, rw here leads, refl)
walk_push links up a (j ∷ walk) x y i is leads = (is.0, is.1, walk_push links up is.0 walk x y i is.2 leads)

-- how many numbers below n are not in a set
abbrev missing : ℕ → (ℕ → Bool) → ℕ
missing zero side = 0
missing (suc n) side = missing n side + (if side n then 0 else 1)

missing_above : (n : ℕ) (side : ℕ → Bool) (y : ℕ) → n ≤ y → missing n (with_number side y) ≡ missing n side
missing_above zero side y above = refl
missing_above (suc n) side y above =
    let rest = missing_above n side y (omega arith) in
    let here : with_number side y n ≡ side n = grind (arith, nat_tests) in
    rw (rest, here) refl

missing_last : (n y : ℕ) (side : ℕ → Bool) → y ≡ n → side y ≡ false → missing (suc n) (with_number side y) + 1 ≡ missing (suc n) side
missing_last n y side last out =
    let rest = missing_above n side y (omega arith) in
    let here : with_number side y n ≡ true = grind (arith, nat_tests) in
    let was : side n ≡ false = ap side (sym last) ∙ out in
    rw (rest, here, was) (omega arith)

missing_more_at : (n : ℕ) (side : ℕ → Bool) (y : ℕ) → y < suc n → side y ≡ false → (b : Bool) → (y == n) ≡ b → (y < n → side y ≡ false → missing n (with_number side y) + 1 ≡ missing n side) → missing (suc n) (with_number side y) + 1 ≡ missing (suc n) side
missing_more_at n side y low out true is rest = missing_last n y side (grind (arith, nat_tests)) out
missing_more_at n side y low out false is rest =
    let below : y < n = grind (arith, nat_tests) in
    let before = rest below out in
    let here : with_number side y n ≡ side n = grind (arith, nat_tests) in
    rw here (omega (arith, before))

missing_more : (n : ℕ) (side : ℕ → Bool) (y : ℕ) → y < n → side y ≡ false → missing n (with_number side y) + 1 ≡ missing n side
missing_more zero side y low out = absurd (omega arith)
missing_more (suc n) side y low out = missing_more_at n side y low out (y == n) refl (missing_more n side y)

-- link number i of a sound group
pub is_link_at : (n : ℕ) (links : List LinkOpening) (i : ℕ) → AreLinks n links → i < length links → IsLink n (slice_index_or links i no_link)
is_link_at n [] i are low = absurd (omega arith)
is_link_at n (link ∷ links) zero are low = are.0
is_link_at n (link ∷ links) (suc i) are low = is_link_at n links i are.1 (omega arith)

-- a device outside a set, with a walk to it
record Next (n : ℕ) (links : List LinkOpening) (up : Entity → Bool) (a : ℕ) (side : ℕ → Bool) : Type 0 where
  device : ℕ
  low : device < n
  out : side device ≡ false
  walk : List ℕ
  joins : IsWalk links up a walk device

-- all devices of the set are reached
abbrev Reached : List LinkOpening → (Entity → Bool) → ℕ → (ℕ → Bool) → Type 0
Reached links up a side = (d : ℕ) → side d ≡ true → (walk : List ℕ) × IsWalk links up a walk d

over_link : (n : ℕ) (links : List LinkOpening) (up : Entity → Bool) (a : ℕ) (side : ℕ → Bool) (i : ℕ) (link : LinkOpening) → link ≡ slice_index_or links i no_link → Reached links up a side → IsLink n link → i < length links → is_up_link up i link ≡ true → (p : Bool) → side link.a ≡ p → (if p then not (side link.b) else side link.b) ≡ true → Next n links up a side
over_link n links up a side i link there walks is_link within is_up true from crosses =
    let before = walks link.a from in
    record {
      device = link.b;
      low = is_link.b_in;
      out = turned (side link.b) crosses;
      walk = before.0 ++ i ∷ [];
      joins = walk_push links up a before.0 link.a link.b i before.1 (record { within = within; is_up = rw (← there) is_up; ends = rw (← there) (grind (arith, nat_tests)) });
    }
over_link n links up a side i link there walks is_link within is_up false from crosses =
    let before = walks link.b crosses in
    record {
      device = link.a;
      low = is_link.a_in;
      out = from;
      walk = before.0 ++ i ∷ [];
      joins = walk_push links up a before.0 link.b link.a i before.1 (record { within = within; is_up = rw (← there) is_up; ends = rw (← there) (grind (arith, nat_tests)) });
    }

next_of : (n : ℕ) (links : List LinkOpening) (up : Entity → Bool) (a : ℕ) (side : ℕ → Bool) → Reached links up a side → AreLinks n links → 0 < cut_value links up side → Next n links up a side
next_of n links up a side walks are some =
    let found = crossing_from 0 links up side some in
    let same : 0 + found.0 ≡ found.0 = omega arith in
    let is_up : is_up_link up found.0 (slice_index_or links found.0 no_link) ≡ true = rw same at found.1.is_up in
    over_link n links up a side found.0 (slice_index_or links found.0 no_link) refl walks (is_link_at n links found.0 are found.1.within) found.1.within is_up (side (slice_index_or links found.0 no_link).a) refl found.1.crosses

reached_more : (n : ℕ) (links : List LinkOpening) (up : Entity → Bool) (a : ℕ) (side : ℕ → Bool) → Reached links up a side → (next : Next n links up a side) (d : ℕ) (p : Bool) → (d == next.device) ≡ p → with_number side next.device d ≡ true → (walk : List ℕ) × IsWalk links up a walk d
reached_more n links up a side walks next d true is has =
    let same : next.device ≡ d = grind (arith, nat_tests) in
    (next.walk, subst (λ (x : ℕ). IsWalk links up a next.walk x) same next.joins)
reached_more n links up a side walks next d false is has = walks d (grind (arith, nat_tests))

reached_last : (n : ℕ) (links : List LinkOpening) (up : Entity → Bool) (a b : ℕ) (side : ℕ → Bool) → missing n side ≤ 0 → side a ≡ true → Reached links up a side → AreLinks n links → ((s : ℕ → Bool) → IsCut s a b → 0 < cut_value links up s) → (p : Bool) → side b ≡ p → (walk : List ℕ) × IsWalk links up a walk b
reached_last n links up a b side few start walks are crossed true is = walks b is
reached_last n links up a b side few start walks are crossed false is =
    let next = next_of n links up a side walks are (crossed side (record { inside = start; outside = is })) in
    let more = missing_more n side next.device next.low next.out in
    absurd (omega (arith, more, few))

reached_on : (fuel n : ℕ) (links : List LinkOpening) (up : Entity → Bool) (a b : ℕ) (side : ℕ → Bool) → missing n side ≤ suc fuel → side a ≡ true → Reached links up a side → AreLinks n links → ((s : ℕ → Bool) → IsCut s a b → 0 < cut_value links up s) → (p : Bool) → side b ≡ p → ((next : Next n links up a side) → missing n (with_number side next.device) ≤ fuel → (walk : List ℕ) × IsWalk links up a walk b) → (walk : List ℕ) × IsWalk links up a walk b
reached_on fuel n links up a b side few start walks are crossed true is go_on = walks b is
reached_on fuel n links up a b side few start walks are crossed false is go_on =
    let next = next_of n links up a side walks are (crossed side (record { inside = start; outside = is })) in
    let more = missing_more n side next.device next.low next.out in
    go_on next (omega (arith, more, few))

-- a set that is reached from a grows until it has b
reached : (fuel n : ℕ) (links : List LinkOpening) (up : Entity → Bool) (a b : ℕ) (side : ℕ → Bool) → missing n side ≤ fuel → side a ≡ true → Reached links up a side → AreLinks n links → ((s : ℕ → Bool) → IsCut s a b → 0 < cut_value links up s) → (walk : List ℕ) × IsWalk links up a walk b
reached zero n links up a b side few start walks are crossed = reached_last n links up a b side few start walks are crossed (side b) refl
reached (suc fuel) n links up a b side few start walks are crossed =
    reached_on fuel n links up a b side few start walks are crossed (side b) refl (λ next low. reached fuel n links up a b (with_number side next.device) low (grind (arith, nat_tests)) (λ d. reached_more n links up a side walks next d (d == next.device) refl) are crossed)

-- a pair is joined where something crosses each cut of it
pub joined : (n : ℕ) (links : List LinkOpening) (up : Entity → Bool) (a b : ℕ) → AreLinks n links → ((s : ℕ → Bool) → IsCut s a b → 0 < cut_value links up s) → (walk : List ℕ) × IsWalk links up a walk b
joined n links up a b are crossed =
    reached (missing n (λ d. d == a)) n links up a b (λ d. d == a) (omega arith) (grind (arith, nat_tests)) (λ d is. ([], grind (arith, nat_tests))) are crossed

-- a link that crosses counts
crosses_value : (at : ℕ) (links : List LinkOpening) (up : Entity → Bool) (side : ℕ → Bool) (i : ℕ) → i < length links → is_up_link up (at + i) (slice_index_or links i no_link) ≡ true → is_crossing side (slice_index_or links i no_link) ≡ true → (slice_index_or links i no_link).capacity ≤ cut_value_from at links up side
crosses_value at [] up side i low is_up crosses = absurd (omega arith)
crosses_value at (link ∷ links) up side zero low is_up crosses =
    let same : at + zero ≡ at = omega arith in
    let up_here : is_up_link up at link ≡ true = rw same at is_up in
    rw (up_here, crosses) (omega arith)
crosses_value at (link ∷ links) up side (suc i) low is_up crosses =
    let same : at + suc i ≡ at + 1 + i = omega arith in
    let later = crosses_value (at + 1) links up side i (omega arith) (rw same at is_up) crosses in
    omega (arith, later)

joint_at : (x y : ℕ) (link : LinkOpening) (side : ℕ → Bool) (p : Bool) → (link.a == x && link.b == y) ≡ p → is_joint x y link ≡ true → side x ≡ true → side y ≡ false → is_crossing side link ≡ true
joint_at x y link side true is ends from to =
    let here = both (link.a == x) (link.b == y) is in
    let at_a : link.a ≡ x = grind (arith, nat_tests) in
    let at_b : link.b ≡ y = grind (arith, nat_tests) in
    rw (at_a, at_b, from, to) refl
joint_at x y link side false is ends from to =
    let other : (link.a == y && link.b == x) ≡ true = rw is at ends in
    let here = both (link.a == y) (link.b == x) other in
    let at_a : link.a ≡ y = grind (arith, nat_tests) in
    let at_b : link.b ≡ x = grind (arith, nat_tests) in
    rw (at_a, at_b, from, to) refl

joint_crosses : (x y : ℕ) (link : LinkOpening) (side : ℕ → Bool) → is_joint x y link ≡ true → side x ≡ true → side y ≡ false → is_crossing side link ≡ true
joint_crosses x y link side ends from to = joint_at x y link side (link.a == x && link.b == y) refl ends from to

walk_step : (n : ℕ) (links : List LinkOpening) (up : Entity → Bool) (side : ℕ → Bool) (a i mid : ℕ) (p : Bool) → side mid ≡ p → AreLinks n links → Leads links up i a mid → side a ≡ true → (side mid ≡ true → 0 < cut_value links up side) → 0 < cut_value links up side
walk_step n links up side a i mid true is are leads start go_on = go_on is
walk_step n links up side a i mid false is are leads start go_on =
    let link = is_link_at n links i are leads.within in
    let crosses = joint_crosses a mid (slice_index_or links i no_link) side leads.ends start is in
    let same : 0 + i ≡ i = omega arith in
    let counts = crosses_value 0 links up side i leads.within (rw same leads.is_up) crosses in
    omega (arith, counts, link.carries)

-- a walk crosses each cut of its ends
walk_crosses : (n : ℕ) (links : List LinkOpening) (up : Entity → Bool) (side : ℕ → Bool) (a : ℕ) (walk : List ℕ) (b : ℕ) → AreLinks n links → IsWalk links up a walk b → side a ≡ true → side b ≡ false → 0 < cut_value links up side
walk_crosses n links up side a [] b are is start out = let clash : true ≡ false = sym start ∙ (ap side is ∙ out) in cc
walk_crosses n links up side a (i ∷ walk) b are is start out = walk_step n links up side a i is.0 (side is.0) refl are is.1 start (λ inside. walk_crosses n links up side is.0 walk b are is.2 inside out)

-- what crosses a cut rests on the devices alone
part_rests : (n : ℕ) (link : LinkOpening) (s t : ℕ → Bool) → IsLink n link → ((d : ℕ) → d < n → s d ≡ t d) → is_crossing s link ≡ is_crossing t link
part_rests n link s t is_link same = rw (same link.a is_link.a_in, same link.b is_link.b_in) refl

pub cut_rests : (at n : ℕ) (links : List LinkOpening) (up : Entity → Bool) (s t : ℕ → Bool) → AreLinks n links → ((d : ℕ) → d < n → s d ≡ t d) → cut_value_from at links up s ≡ cut_value_from at links up t
cut_rests at n [] up s t are same = refl
cut_rests at n (link ∷ links) up s t are same = rw (part_rests n link s t are.0 same, cut_rests (at + 1) n links up s t are.1 same) refl

pub cut_of_rests : (a b n : ℕ) (s t : ℕ → Bool) → ((d : ℕ) → d < n → s d ≡ t d) → (d : ℕ) → d < n → cut_of a b s d ≡ cut_of a b t d
cut_of_rests a b n s t same d low = rw (same d low) refl

cut_of_at : (a b : ℕ) (side : ℕ → Bool) → IsCut side a b → (d : ℕ) (p q : Bool) → (d == b) ≡ p → (d == a) ≡ q → (if p then false else (if q then true else side d)) ≡ side d
cut_of_at a b side cut d true q at_b at_a = let here : d ≡ b = grind (arith, nat_tests) in rw here (sym cut.outside)
cut_of_at a b side cut d false true at_b at_a = let here : d ≡ a = grind (arith, nat_tests) in rw here (sym cut.inside)
cut_of_at a b side cut d false false at_b at_a = refl

pub cut_of_cut : (a b : ℕ) (side : ℕ → Bool) → IsCut side a b → (d : ℕ) → cut_of a b side d ≡ side d
cut_of_cut a b side cut d = cut_of_at a b side cut d (d == b) (d == a) refl refl

-- the least cut is no greater than any
pub least_cut-below : (n : ℕ) (links : List LinkOpening) (up : Entity → Bool) (a b : ℕ) (side : ℕ → Bool) → AreLinks n links → IsCut side a b → least_cut n links up a b ≤ cut_value links up side
least_cut-below n links up a b side are cut =
    let low = least_over-below n (λ s. cut_value links up (cut_of a b s)) side (λ s t same. cut_rests 0 n links up (cut_of a b s) (cut_of a b t) are (cut_of_rests a b n s t same)) in
    let is : cut_value links up (cut_of a b side) ≡ cut_value links up side = cut_rests 0 n links up (cut_of a b side) side are (λ d low. cut_of_cut a b side cut d) in
    omega (arith, low, is)

-- and it is a cut's
pub least_cut-attained : (n : ℕ) (links : List LinkOpening) (up : Entity → Bool) (a b : ℕ) → a ≢ b → (side : ℕ → Bool) × IsCut side a b × (cut_value links up side ≡ least_cut n links up a b)
least_cut-attained n links up a b apart =
    let least = least_over-attained n (λ s. cut_value links up (cut_of a b s)) in
    (cut_of a b least.0, record { inside = grind (arith, nat_tests); outside = grind (arith, nat_tests) }, sym least.1)

-- a walk joins a pair where its least cut is not 0
pub least_cut-joins : (n : ℕ) (links : List LinkOpening) (up : Entity → Bool) (a b : ℕ) → AreLinks n links → 0 < least_cut n links up a b → (walk : List ℕ) × IsWalk links up a walk b
least_cut-joins n links up a b are some = joined n links up a b are (λ s cut. let low = least_cut-below n links up a b s are cut in omega (arith, low))

-- and only there
pub walk-least_cut : (n : ℕ) (links : List LinkOpening) (up : Entity → Bool) (a b : ℕ) (walk : List ℕ) → AreLinks n links → a ≢ b → IsWalk links up a walk b → 0 < least_cut n links up a b
walk-least_cut n links up a b walk are apart is =
    let least = least_cut-attained n links up a b apart in
    let crosses = walk_crosses n links up least.0 a walk b are is least.1.inside least.1.outside in
    omega (arith, least.2, crosses)

-- a promise holds exactly where its test says so
pub is_held-holds : (n : ℕ) (links : List LinkOpening) (need a b : ℕ) (up : Entity → Bool) → AreLinks n links → a ≢ b → is_held n links need a b up ≡ true → Holds links need a b up
is_held-holds n links need a b up are apart is =
    let enough : max 1 need ≤ least_cut n links up a b = grind (arith, nat_tests) in
    let some : 0 < least_cut n links up a b = omega arith in
    let walk = least_cut-joins n links up a b are some in
    record { walk = walk.0; joins = walk.1; cuts = λ side cut. let low = least_cut-below n links up a b side are cut in omega (arith, low, enough) }

pub holds-is_held : (n : ℕ) (links : List LinkOpening) (need a b : ℕ) (up : Entity → Bool) → AreLinks n links → a ≢ b → Holds links need a b up → is_held n links need a b up ≡ true
holds-is_held n links need a b up are apart holds =
    let some = walk-least_cut n links up a b holds.walk are apart holds.joins in
    let least = least_cut-attained n links up a b apart in
    let most = holds.cuts least.0 least.1 in
    let enough : max 1 need ≤ least_cut n links up a b = omega (arith, some, most, least.2) in
    grind (arith, nat_tests, enough)
