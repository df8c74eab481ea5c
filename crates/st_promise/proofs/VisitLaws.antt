-- Going over the links of each device that was found, which settles a search.
use Rattle.std.proofs.Common.{◌≡◌, ℕ, zero, suc, ◌+◌, ◌<◌, ◌≤◌, List, length, refl, ap, ◌∙◌, sym, subst, arith}
use Rattle.std.specs.Prelude.{Bool, true, false, ◌||◌, ◌==◌, nat_lt, Option, Some, None, is_some, slice_index_or, if◌then◌else◌}
use Rattle.std.proofs.lemmas.Bool.Decides.{nat_tests}
use Rattle.st_net.specs.declared.entity.Entity.{Entity}
use Rattle.st_net.specs.declared.topo.LinkOpening.{LinkOpening}
use Rattle.st_net.specs.Groups.{no_link}
use Rattle.st_promise.specs.declared.search.Step.{Step}
use Rattle.st_promise.specs.Incidence.{has_end, last_at, links_left}
use Rattle.st_promise.specs.Search.{Visits, step_at, place_in, is_found, IsSearch, IsJoined, IsWithin, IsVisited, IsSettled, Extends}

-- a link of a device, and none of its links from there to m
pub record IsLastBelow (links : List LinkOpening) (m d i : ℕ) : Type 0 where
  pub low : i < m
  pub ends : has_end d (slice_index_or links i no_link) ≡ true
  pub none : (j : ℕ) → i < j → j < m → has_end d (slice_index_or links j no_link) ≡ false

none_more : (links : List LinkOpening) (m d j : ℕ) (p : Bool) → (j == m) ≡ p → has_end d (slice_index_or links m no_link) ≡ false → j < suc m → (j < m → has_end d (slice_index_or links j no_link) ≡ false) → has_end d (slice_index_or links j no_link) ≡ false
none_more links m d j true same out low before = let at : j ≡ m = grind (arith, nat_tests) in rw at out
none_more links m d j false same out low before = before (let small : j < m = grind (arith, nat_tests) in small)

last_more : (links : List LinkOpening) (m d i : ℕ) → has_end d (slice_index_or links m no_link) ≡ false → IsLastBelow links m d i → IsLastBelow links (suc m) d i
last_more links m d i out last = record {
  low = omega (arith, last.low);
  ends = last.ends;
  none = λ j above low. none_more links m d j (j == m) refl out low (last.none j above);
}

last_some_at : (links : List LinkOpening) (m d i : ℕ) (p : Bool) → has_end d (slice_index_or links m no_link) ≡ p → (if p then Some m else last_at links m d) ≡ Some i → (last_at links m d ≡ Some i → IsLastBelow links m d i) → IsLastBelow links (suc m) d i
last_some_at links m d i true ends is before =
    let same : m ≡ i = cc in
    record {
      low = omega (arith, same);
      ends = subst (λ (k : ℕ). has_end d (slice_index_or links k no_link) ≡ true) same ends;
      none = λ j above low. absurd (omega (arith, same, above, low));
    }
last_some_at links m d i false ends is before = last_more links m d i ends (before is)

pub last_some : (links : List LinkOpening) (m d i : ℕ) → last_at links m d ≡ Some i → IsLastBelow links m d i
last_some links zero d i is = cc
last_some links (suc m) d i is = last_some_at links m d i (has_end d (slice_index_or links m no_link)) refl is (last_some links m d i)

last_none_at : (links : List LinkOpening) (m d j : ℕ) (p : Bool) → has_end d (slice_index_or links m no_link) ≡ p → (if p then Some m else last_at links m d) ≡ None → j < suc m → (last_at links m d ≡ None → j < m → has_end d (slice_index_or links j no_link) ≡ false) → has_end d (slice_index_or links j no_link) ≡ false
last_none_at links m d j true ends is low before = cc
last_none_at links m d j false ends is low before = none_more links m d j (j == m) refl ends low (before is)

pub last_none : (links : List LinkOpening) (m d j : ℕ) → last_at links m d ≡ None → j < m → has_end d (slice_index_or links j no_link) ≡ false
last_none links zero d j is low = absurd (omega arith)
last_none links (suc m) d j is low = last_none_at links m d j (has_end d (slice_index_or links m no_link)) refl is low (last_none links m d j)

-- both ends are found of each up link of a device past those that are left in its chain
pub record IsLeft (links : List LinkOpening) (up : Entity → Bool) (s : Visits) (d : ℕ) (next : Option ℕ) : Type 0 where
  pub bound : ℕ
  pub few : bound ≤ length links
  pub chain : next ≡ last_at links bound d
  pub done : (i : ℕ) → bound ≤ i → i < length links → has_end d (slice_index_or links i no_link) ≡ true → IsWithin links up s i

pub left_is : (links : List LinkOpening) (up : Entity → Bool) (s : Visits) (d : ℕ) (next same : Option ℕ) → next ≡ same → IsLeft links up s d next → IsLeft links up s d same
left_is links up s d next same is left = record { bound = left.bound; few = left.few; chain = sym is ∙ left.chain; done = left.done }

-- an end that is found, of a link that is joined
within_at : (links : List LinkOpening) (up : Entity → Bool) (s : Visits) (d i : ℕ) (p : Bool) → ((slice_index_or links i no_link).a == d) ≡ p → (p || (slice_index_or links i no_link).b == d) ≡ true → is_found s d ≡ true → IsJoined links up s i → IsWithin links up s i
within_at links up s d i true at_a ends found joins is_up =
    let same : (slice_index_or links i no_link).a ≡ d = grind (arith, nat_tests) in
    let a = ap (is_found s) same ∙ found in
    (a, sym (joins is_up) ∙ a)
within_at links up s d i false at_a ends found joins is_up =
    let same : (slice_index_or links i no_link).b ≡ d = grind (arith, nat_tests) in
    let b = ap (is_found s) same ∙ found in
    (joins is_up ∙ b, b)

within_joined : (links : List LinkOpening) (up : Entity → Bool) (s : Visits) (d i : ℕ) → has_end d (slice_index_or links i no_link) ≡ true → is_found s d ≡ true → IsJoined links up s i → IsWithin links up s i
within_joined links up s d i ends found joins = within_at links up s d i ((slice_index_or links i no_link).a == d) refl ends found joins

within_more : (links : List LinkOpening) (up : Entity → Bool) (old new : Visits) (i : ℕ) → Extends old new → IsWithin links up old i → IsWithin links up new i
within_more links up old new i more within is_up = (more.kept _ (within is_up).0, more.kept _ (within is_up).1)

pub visited_more : (links : List LinkOpening) (up : Entity → Bool) (old new : Visits) (d : ℕ) → Extends old new → IsVisited links up old d → IsVisited links up new d
visited_more links up old new d more visited i low ends = within_more links up old new i more (visited i low ends)

done_more : (links : List LinkOpening) (up : Entity → Bool) (old new : Visits) (d link : ℕ) (left : IsLeft links up old d (Some link)) → Extends old new → is_found new d ≡ true → IsJoined links up new link → IsLastBelow links left.bound d link → (i : ℕ) (p : Bool) → (i == link) ≡ p → link ≤ i → i < length links → has_end d (slice_index_or links i no_link) ≡ true → (q : Bool) → nat_lt i left.bound ≡ q → IsWithin links up new i
done_more links up old new d link left more found joins last i true same above low ends q bound =
    let at : link ≡ i = grind (arith, nat_tests) in
    subst (λ (k : ℕ). IsWithin links up new k) at (within_joined links up new d link last.ends found joins)
done_more links up old new d link left more found joins last i false same above low ends true bound =
    let after : link < i = grind (arith, nat_tests) in
    let before : i < left.bound = grind (arith, nat_tests) in
    let out = last.none i after before in
    let clash : true ≡ false = sym ends ∙ out in
    absurd (cc)
done_more links up old new d link left more found joins last i false same above low ends false bound =
    within_more links up old new i more (left.done i (let past : left.bound ≤ i = grind (arith, nat_tests) in past) low ends)

-- with one link more followed
pub left_next : (links : List LinkOpening) (up : Entity → Bool) (old new : Visits) (d link : ℕ) (next : Option ℕ) → IsLeft links up old d (Some link) → Extends old new → is_found new d ≡ true → IsJoined links up new link → next ≡ last_at links link d → IsLeft links up new d next
left_next links up old new d link next left more found joins is =
    let last = last_some links left.bound d link (sym left.chain) in
    record {
      bound = link;
      few = omega (arith, last.low, left.few);
      chain = is;
      done = λ i above low ends. done_more links up old new d link left more found joins last i (i == link) refl above low ends (nat_lt i left.bound) refl;
    }

pub left_low : (links : List LinkOpening) (up : Entity → Bool) (s : Visits) (d link : ℕ) → IsLeft links up s d (Some link) → (link < length links) × (has_end d (slice_index_or links link no_link) ≡ true)
left_low links up s d link left =
    let last = last_some links left.bound d link (sym left.chain) in
    (omega (arith, last.low, left.few), last.ends)

fewer_at : (links : List LinkOpening) (d link : ℕ) (next : Option ℕ) → next ≡ last_at links link d → links_left next < suc link
fewer_at links d link None is = omega arith
fewer_at links d link (Some i) is = let last = last_some links link d i (sym is) in omega (arith, last.low)

pub fewer : (links : List LinkOpening) (d link : ℕ) (before next : Option ℕ) → before ≡ Some link → next ≡ last_at links link d → links_left next < links_left before
fewer links d link before next was is = rw was (fewer_at links d link next is)

left_none_at : (links : List LinkOpening) (up : Entity → Bool) (s : Visits) (d : ℕ) (left : IsLeft links up s d None) (i : ℕ) → i < length links → has_end d (slice_index_or links i no_link) ≡ true → (q : Bool) → nat_lt i left.bound ≡ q → IsWithin links up s i
left_none_at links up s d left i low ends true bound =
    let before : i < left.bound = grind (arith, nat_tests) in
    let out = last_none links left.bound d i (sym left.chain) before in
    let clash : true ≡ false = sym ends ∙ out in
    absurd (cc)
left_none_at links up s d left i low ends false bound = left.done i (let past : left.bound ≤ i = grind (arith, nat_tests) in past) low ends

-- none is left
pub left_none : (links : List LinkOpening) (up : Entity → Bool) (s : Visits) (d : ℕ) → IsLeft links up s d None → IsVisited links up s d
left_none links up s d left i low ends = left_none_at links up s d left i low ends (nat_lt i left.bound) refl

-- a search whose steps are all visited is settled
end_found : (links : List LinkOpening) (up : Entity → Bool) (n : ℕ) (s : Visits) → IsSearch n links up s → ((k : ℕ) → k < length s.steps → IsVisited links up s (step_at s k).device) → (d : ℕ) (place : Option ℕ) → place_in s d ≡ place → is_some place ≡ true → IsVisited links up s d
end_found links up n s is visited d None here found = absurd (cc)
end_found links up n s is visited d (Some k) here found =
    let at = is.placed d k here in
    subst (λ (e : ℕ). IsVisited links up s e) at.1 (visited k at.0)

a_end : (links : List LinkOpening) (i : ℕ) → has_end (slice_index_or links i no_link).a (slice_index_or links i no_link) ≡ true
a_end links i = grind (arith, nat_tests)

b_end : (links : List LinkOpening) (i : ℕ) → has_end (slice_index_or links i no_link).b (slice_index_or links i no_link) ≡ true
b_end links i = grind (arith, nat_tests)

settled_at : (links : List LinkOpening) (up : Entity → Bool) (n : ℕ) (s : Visits) (i a b : ℕ) → (is_found s a ≡ true → (is_found s a ≡ true) × (is_found s b ≡ true)) → (is_found s b ≡ true → (is_found s a ≡ true) × (is_found s b ≡ true)) → (p q : Bool) → is_found s a ≡ p → is_found s b ≡ q → p ≡ q
settled_at links up n s i a b from_a from_b true q has_a has_b = sym (from_a has_a).1 ∙ has_b
settled_at links up n s i a b from_a from_b false true has_a has_b = sym has_a ∙ (from_b has_b).0
settled_at links up n s i a b from_a from_b false false has_a has_b = refl

pub all_visited : (links : List LinkOpening) (up : Entity → Bool) (n : ℕ) (s : Visits) → IsSearch n links up s → ((k : ℕ) → k < length s.steps → IsVisited links up s (step_at s k).device) → IsSettled links up s
all_visited links up n s is visited i low is_up =
    settled_at links up n s i (slice_index_or links i no_link).a (slice_index_or links i no_link).b
    (λ has. end_found links up n s is visited (slice_index_or links i no_link).a (place_in s (slice_index_or links i no_link).a) refl has i low (a_end links i) is_up)
    (λ has. end_found links up n s is visited (slice_index_or links i no_link).b (place_in s (slice_index_or links i no_link).b) refl has i low (b_end links i) is_up)
    (is_found s (slice_index_or links i no_link).a) (is_found s (slice_index_or links i no_link).b) refl refl

-- one step more is visited
more_at : (links : List LinkOpening) (up : Entity → Bool) (old new : Visits) (next : ℕ) → Extends old new → next < length old.steps → ((k : ℕ) → k < next → IsVisited links up old (step_at old k).device) → IsVisited links up new (step_at old next).device → (k : ℕ) (p : Bool) → (k == next) ≡ p → k < next + 1 → IsVisited links up new (step_at new k).device
more_at links up old new next more small before here k true same low =
    let at : k ≡ next = grind (arith, nat_tests) in
    let step = more.steps next small in
    rw at (subst (λ (x : Step). IsVisited links up new x.device) (sym step) here)
more_at links up old new next more small before here k false same low =
    let earlier : k < next = grind (arith, nat_tests) in
    let step = more.steps k (omega (arith, earlier, small)) in
    subst (λ (x : Step). IsVisited links up new x.device) (sym step) (visited_more links up old new (step_at old k).device more (before k earlier))

pub more_visited : (links : List LinkOpening) (up : Entity → Bool) (old new : Visits) (next : ℕ) → Extends old new → next < length old.steps → ((k : ℕ) → k < next → IsVisited links up old (step_at old k).device) → IsVisited links up new (step_at old next).device → (k : ℕ) → k < next + 1 → IsVisited links up new (step_at new k).device
more_visited links up old new next more small before here k = more_at links up old new next more small before here k (k == next) refl
