-- What a step more keeps of a search, and what a search that is settled tells of cuts.
use Rattle.std.proofs.Common.{◌≡◌, ◌≢◌, ℕ, ◌+◌, ◌<◌, ◌≤◌, List, [], ◌∷◌, ◌++◌, length, refl, ap, ◌∙◌, sym, subst, arith, length-append}
use Rattle.std.specs.Prelude.{Bool, true, false, ◌==◌, nat_lt, Option, Some, None, is_some, MatchOption, slice_index_or, slice_set, if◌then◌else◌}
use Rattle.std.proofs.lemmas.Bool.Decides.{nat_tests}
use Rattle.std.proofs.lemmas.List.{get_or_read, get_or_past, get_or-set_same, get_or-set_other, get_or_append_left}
use Rattle.std.proofs.lemmas.List.Sums.{sum_by-set}
use Rattle.std.proofs.Math.Seq.{get_or-append_seam}
use Rattle.std.proofs.Math.ListN.{length-set}
use Rattle.st_net.specs.declared.entity.Entity.{Entity}
use Rattle.st_net.specs.declared.topo.LinkOpening.{LinkOpening}
use Rattle.st_net.specs.Groups.{no_link, AreLinks}
use Rattle.st_net.specs.UpGraph.{is_up_link, Leads}
use Rattle.st_net.proofs.WalkLaws.{is_link_at}
use Rattle.st_promise.specs.declared.search.Step.{Step}
use Rattle.st_promise.specs.declared.search.Came.{Came}
use Rattle.st_promise.specs.Search.{Visits, no_step, step_at, place_in, is_found, unfound, entered, IsFoundBy, IsSearch, IsNext, Extends}

-- a link that is up leads from either end to the other
pub leads_on : (links : List LinkOpening) (up : Entity → Bool) (i : ℕ) → i < length links → is_up_link up i (slice_index_or links i no_link) ≡ true → Leads links up i (slice_index_or links i no_link).a (slice_index_or links i no_link).b
leads_on links up i low is_up = record { within = low; is_up = is_up; ends = grind (arith, nat_tests) }

pub leads_back : (links : List LinkOpening) (up : Entity → Bool) (i : ℕ) → i < length links → is_up_link up i (slice_index_or links i no_link) ≡ true → Leads links up i (slice_index_or links i no_link).b (slice_index_or links i no_link).a
leads_back links up i low is_up = record { within = low; is_up = is_up; ends = grind (arith, nat_tests) }

-- what is read of the places
pub place_read : (xs ys : List (Option ℕ)) (i : ℕ) (x y : Option ℕ) → xs ≡ ys → i < length ys → x ≡ slice_index_or xs i x → x ≡ y → slice_index_or ys i None ≡ y
place_read xs ys i x y same low here is =
    let read = get_or_read ys i x low (here ∙ ap (λ (zs : List (Option ℕ)). slice_index_or zs i x) same) None in
    sym read ∙ is

-- a device that was not found, at the other end of a link from one that was
next_is : (n : ℕ) (links : List LinkOpening) (up : Entity → Bool) (s : Visits) (i x y k : ℕ) → IsSearch n links up s → y < n → place_in s x ≡ Some k → place_in s y ≡ None → Leads links up i x y → IsNext n links up s (record { device = y; came = Some (record { link = i; from = k }) })
next_is n links up s i x y k is low here there leads =
    let at = is.placed x k here in
    record { low = low; new = ap is_some there; found = (at.0, subst (λ (d : ℕ). Leads links up i d y) (sym at.1) leads) }

pub next_over : (n : ℕ) (links : List LinkOpening) (up : Entity → Bool) (s : Visits) (i x y k : ℕ) → IsSearch n links up s → AreLinks n links → i < length links → is_up_link up i (slice_index_or links i no_link) ≡ true → x ≡ (slice_index_or links i no_link).a → y ≡ (slice_index_or links i no_link).b → place_in s x ≡ Some k → place_in s y ≡ None → IsNext n links up s (record { device = y; came = Some (record { link = i; from = k }) })
next_over n links up s i x y k is are low is_up at_a at_b here there =
    let link = is_link_at n links i are low in
    next_is n links up s i x y k is (rw at_b link.b_in) here there (rw (at_a, at_b) (leads_on links up i low is_up))

pub next_back : (n : ℕ) (links : List LinkOpening) (up : Entity → Bool) (s : Visits) (i x y k : ℕ) → IsSearch n links up s → AreLinks n links → i < length links → is_up_link up i (slice_index_or links i no_link) ≡ true → x ≡ (slice_index_or links i no_link).b → y ≡ (slice_index_or links i no_link).a → place_in s x ≡ Some k → place_in s y ≡ None → IsNext n links up s (record { device = y; came = Some (record { link = i; from = k }) })
next_back n links up s i x y k is are low is_up at_b at_a here there =
    let link = is_link_at n links i are low in
    next_is n links up s i x y k is (rw at_a link.a_in) here there (rw (at_b, at_a) (leads_back links up i low is_up))

-- what is found after a step
pub found_same : (s : Visits) (step : Step) (d : ℕ) → step.device < length s.places → d ≡ step.device → place_in (entered s step) d ≡ Some (length s.steps)
found_same s step d low same = rw same (get_or-set_same s.places step.device (Some (length s.steps)) None low)

pub found_other : (s : Visits) (step : Step) (d : ℕ) → d ≢ step.device → place_in (entered s step) d ≡ place_in s d
found_other s step d other = get_or-set_other s.places step.device d (Some (length s.steps)) None other

found_kept_at : (s : Visits) (step : Step) (d : ℕ) (p : Bool) → (d == step.device) ≡ p → step.device < length s.places → is_found s d ≡ true → is_found (entered s step) d ≡ true
found_kept_at s step d true is low has = ap is_some (found_same s step d low (grind (arith, nat_tests)))
found_kept_at s step d false is low has = let other : d ≢ step.device = grind (arith, nat_tests) in ap is_some (found_other s step d other) ∙ has

pub found_kept : (s : Visits) (step : Step) (d : ℕ) → step.device < length s.places → is_found s d ≡ true → is_found (entered s step) d ≡ true
found_kept s step d low has = found_kept_at s step d (d == step.device) refl low has

-- earlier steps stay
step_kept : (s : Visits) (step : Step) (k : ℕ) → k < length s.steps → step_at (entered s step) k ≡ step_at s k
step_kept s step k low = get_or_append_left s.steps (step ∷ []) no_step k low

step_last : (s : Visits) (step : Step) (k : ℕ) → k ≡ length s.steps → step_at (entered s step) k ≡ step
step_last s step k same = rw same (get_or-append_seam s.steps step [] no_step)

by_kept : (links : List LinkOpening) (up : Entity → Bool) (s : Visits) (new : Step) (k : ℕ) (device : ℕ) (came : Option Came) → k ≤ length s.steps → MatchOption came (device ≡ s.root) (λ c. (c.from < k) × Leads links up c.link (step_at s c.from).device device) → MatchOption came (device ≡ s.root) (λ c. (c.from < k) × Leads links up c.link (step_at (entered s new) c.from).device device)
by_kept links up s new k device None low is = is
by_kept links up s new k device (Some c) low is =
    let same = step_kept s new c.from (omega (arith, is.0)) in
    (is.0, subst (λ (x : Step). Leads links up c.link x.device device) (sym same) is.1)

placed_at : (n : ℕ) (links : List LinkOpening) (up : Entity → Bool) (s : Visits) (step : Step) → IsSearch n links up s → step.device < length s.places → (d k : ℕ) (p : Bool) → (d == step.device) ≡ p → place_in (entered s step) d ≡ Some k → (k < length (s.steps ++ step ∷ [])) × ((step_at (entered s step) k).device ≡ d)
placed_at n links up s step is low d k true same here =
    let at : d ≡ step.device = grind (arith, nat_tests) in
    let first = found_same s step d low at in
    let last : k ≡ length s.steps = cc in
    (omega (arith, last, length-append s.steps (step ∷ [])), ap (λ (x : Step). x.device) (step_last s step k last) ∙ sym at)
placed_at n links up s step is low d k false same here =
    let other : d ≢ step.device = grind (arith, nat_tests) in
    let old = is.placed d k (sym (found_other s step d other) ∙ here) in
    (omega (arith, old.0, length-append s.steps (step ∷ [])), ap (λ (x : Step). x.device) (step_kept s step k old.0) ∙ old.1)

each_at : (n : ℕ) (links : List LinkOpening) (up : Entity → Bool) (s : Visits) (step : Step) → IsSearch n links up s → step.device < length s.places → (k : ℕ) (p : Bool) → (k == length s.steps) ≡ p → k < length (s.steps ++ step ∷ []) → is_found (entered s step) (step_at (entered s step) k).device ≡ true
each_at n links up s step is small k true same low =
    let last : k ≡ length s.steps = grind (arith, nat_tests) in
    let device = ap (λ (x : Step). x.device) (step_last s step k last) in
    ap is_some (found_same s step _ small device)
each_at n links up s step is small k false same low =
    let other : k ≢ length s.steps = grind (arith, nat_tests) in
    let before : k < length s.steps = omega (arith, other, length-append s.steps (step ∷ [])) in
    let device = ap (λ (x : Step). x.device) (step_kept s step k before) in
    ap (is_found (entered s step)) device ∙ found_kept s step (step_at s k).device small (is.each k before)

found_at : (n : ℕ) (links : List LinkOpening) (up : Entity → Bool) (s : Visits) (step : Step) → IsSearch n links up s → IsNext n links up s step → (k : ℕ) (p : Bool) → (k == length s.steps) ≡ p → k < length (s.steps ++ step ∷ []) → IsFoundBy links up (entered s step) k (step_at (entered s step) k)
found_at n links up s step is next k true same low =
    let last : k ≡ length s.steps = grind (arith, nat_tests) in
    subst (λ (x : Step). IsFoundBy links up (entered s step) k x) (sym (step_last s step k last)) (subst (λ (m : ℕ). IsFoundBy links up (entered s step) m step) (sym last) (by_kept links up s step (length s.steps) step.device step.came (omega arith) next.found))
found_at n links up s step is next k false same low =
    let other : k ≢ length s.steps = grind (arith, nat_tests) in
    let before : k < length s.steps = omega (arith, other, length-append s.steps (step ∷ [])) in
    subst (λ (x : Step). IsFoundBy links up (entered s step) k x) (sym (step_kept s step k before)) (by_kept links up s step k (step_at s k).device (step_at s k).came (omega arith) (is.found k before))

abbrev weight : Option ℕ → ℕ
weight place = if is_some place then 0 else 1

counted_at : (s : Visits) (step : Step) (p : Option ℕ) → slice_index_or s.places step.device None ≡ p → step.device < length s.places → is_some p ≡ false → unfound (slice_set s.places step.device (Some (length s.steps))) + 1 ≡ unfound s.places
counted_at s step (Some k) here low new = cc
counted_at s step None here low new =
    let count = sum_by-set weight s.places step.device (Some (length s.steps)) None low in
    let one = ap (λ (place : Option ℕ). weight place) here in
    omega (arith, count, one)

-- a search with one step more is one
pub entered_is : (n : ℕ) (links : List LinkOpening) (up : Entity → Bool) (s : Visits) (step : Step) → IsSearch n links up s → IsNext n links up s step → IsSearch n links up (entered s step)
entered_is n links up s step is next =
    let low : step.device < length s.places = omega (arith, next.low, is.one_each) in
    record {
      one_each = length-set _ _ _ ∙ is.one_each;
      counted = (let count = counted_at s step (place_in s step.device) refl low next.new in omega (arith, count, is.counted, length-append s.steps (step ∷ [])));
      start = found_kept s step s.root low is.start;
      placed = λ d k. placed_at n links up s step is low d k (d == step.device) refl;
      each = λ k. each_at n links up s step is low k (k == length s.steps) refl;
      found = λ k. found_at n links up s step is next k (k == length s.steps) refl;
    }

-- a search that goes on from one that goes on
pub extends_on : (a b c : Visits) → Extends a b → Extends b c → Extends a c
extends_on a b c first second = record {
  root = second.root ∙ first.root;
  kept = λ d has. second.kept d (first.kept d has);
  more = omega (arith, first.more, second.more);
  steps = λ k low. second.steps k (omega (arith, first.more)) ∙ first.steps k low;
}

-- what is found is a device
found_low_at : (s : Visits) (d : ℕ) (p : Bool) → nat_lt d (length s.places) ≡ p → is_found s d ≡ true → d < length s.places
found_low_at s d true low found = grind (arith, nat_tests)
found_low_at s d false high found =
    let past : length s.places ≤ d = grind (arith, nat_tests) in
    let none = ap is_some (get_or_past s.places d None past) in
    let clash : true ≡ false = sym found ∙ none in
    absurd (cc)

pub found_low : (s : Visits) (d : ℕ) → is_found s d ≡ true → d < length s.places
found_low s d found = found_low_at s d (nat_lt d (length s.places)) refl found
