-- Walks read back from a search, and what it has found as a set that no up link leaves.
use Rattle.std.proofs.Common.{◌≡◌, ℕ, zero, suc, ◌<◌, List, [], ◌∷◌, ◌++◌, length, refl, ap, ◌∙◌, sym, subst, arith}
use Rattle.std.specs.Prelude.{Bool, true, false, Option, Some, None, MatchOption, slice_index_or, reverse}
use Rattle.std.proofs.lemmas.Bool.Decides.{nat_tests}
use Rattle.std.proofs.lemmas.List.{get_or_read, reverse-append}
use Rattle.st_net.specs.declared.entity.Entity.{Entity}
use Rattle.st_net.specs.declared.topo.LinkOpening.{LinkOpening}
use Rattle.st_net.specs.Groups.{Group, no_link, AreLinks, IsSound}
use Rattle.st_net.specs.UpGraph.{is_joint, Leads, IsWalk}
use Rattle.st_net.specs.Cuts.{cut_value, IsCut, numbers_in}
use Rattle.st_net.proofs.WalkLaws.{is_link_at, joined}
use Rattle.st_promise.specs.declared.search.Step.{Step}
use Rattle.st_promise.specs.declared.search.Came.{Came}
use Rattle.st_promise.specs.Search.{Visits, no_step, step_at, is_found, IsSearch, IsSettled}
use Rattle.st_promise.specs.Reach.{IsClosed}
use Rattle.st_promise.proofs.ClosedLaws.{IsLeastClosed, settled_least, zero_stays}
use Rattle.st_promise.proofs.NumberLaws.{member_has, member_is, member_not}

-- what is read of the steps
pub step_read : (xs ys : List Step) (i : ℕ) (x : Step) → xs ≡ ys → i < length ys → x ≡ slice_index_or xs i x → slice_index_or ys i no_step ≡ x
step_read xs ys i x same low here = sym (get_or_read ys i x low (here ∙ ap (λ (zs : List Step). slice_index_or zs i x) same) no_step)

-- an up link leads to each step from one before
pub came_from : (n : ℕ) (links : List LinkOpening) (up : Entity → Bool) (s : Visits) (k : ℕ) (came : Came) → IsSearch n links up s → k < length s.steps → (step_at s k).came ≡ Some came → (came.from < k) × Leads links up came.link (step_at s came.from).device (step_at s k).device
came_from n links up s k came is low same = subst (λ (c : Option Came). MatchOption c ((step_at s k).device ≡ s.root) (λ came. (came.from < k) × Leads links up came.link (step_at s came.from).device (step_at s k).device)) same (is.found k low)

-- but to the start
came_none : (n : ℕ) (links : List LinkOpening) (up : Entity → Bool) (s : Visits) (k : ℕ) → IsSearch n links up s → k < length s.steps → (step_at s k).came ≡ None → (step_at s k).device ≡ s.root
came_none n links up s k is low same = subst (λ (c : Option Came). MatchOption c ((step_at s k).device ≡ s.root) (λ came. (came.from < k) × Leads links up came.link (step_at s came.from).device (step_at s k).device)) same (is.found k low)

reverse_push : (xs ys : List ℕ) (i : ℕ) → ys ≡ xs ++ i ∷ [] → i ∷ reverse xs ≡ reverse ys
reverse_push xs ys i same = sym (ap (λ (zs : List ℕ). reverse zs) same ∙ reverse-append xs (i ∷ []))

-- a walk from a step, and the link that leads to it
pub walk_before : (n : ℕ) (links : List LinkOpening) (up : Entity → Bool) (s : Visits) (k : ℕ) (came : Came) (xs ys : List ℕ) (b : ℕ) → IsSearch n links up s → k < length s.steps → (step_at s k).came ≡ Some came → ys ≡ xs ++ came.link ∷ [] → IsWalk links up (step_at s k).device (reverse xs) b → IsWalk links up (step_at s came.from).device (reverse ys) b
walk_before n links up s k came xs ys b is low same more walk =
    let back = came_from n links up s k came is low same in
    subst (λ (zs : List ℕ). IsWalk links up (step_at s came.from).device zs b) (reverse_push xs ys came.link more) ((step_at s k).device, back.1, walk)

pub walk_whole : (n : ℕ) (links : List LinkOpening) (up : Entity → Bool) (s : Visits) (k : ℕ) (xs ys : List ℕ) (b : ℕ) → IsSearch n links up s → k < length s.steps → (step_at s k).came ≡ None → ys ≡ reverse xs → IsWalk links up (step_at s k).device (reverse xs) b → IsWalk links up s.root ys b
walk_whole n links up s k xs ys b is low start same walk =
    let turned = subst (λ (zs : List ℕ). IsWalk links up (step_at s k).device zs b) (sym same) walk in
    subst (λ (d : ℕ). IsWalk links up d ys b) (came_none n links up s k is low start) turned

-- something crosses each cut of the start and a device that is found
crossed : (links : List LinkOpening) (up : Entity → Bool) (a d : ℕ) (side s : ℕ → Bool) → IsLeastClosed links up a side → side d ≡ true → IsCut s a d → (v : ℕ) → cut_value links up s ≡ v → 0 < v
crossed links up a d side s is has cut zero none =
    let inside = is.least s cut.inside none d has in
    let clash : true ≡ false = sym inside ∙ cut.outside in
    cc
crossed links up a d side s is has cut (suc v) some = omega arith

joint_low : (n x y : ℕ) (link : LinkOpening) → link.a < n → link.b < n → is_joint x y link ≡ true → y < n
joint_low n x y link a_in b_in ends = grind (arith, nat_tests)

end_low : (n : ℕ) (links : List LinkOpening) (up : Entity → Bool) (i x y : ℕ) → AreLinks n links → Leads links up i x y → y < n
end_low n links up i x y are leads =
    let link = is_link_at n links i are leads.within in
    joint_low n x y (slice_index_or links i no_link) link.a_in link.b_in leads.ends

-- what a settled search has found is such a set
pub found_closed : (g : Group) (up : Entity → Bool) (a b : ℕ) (s : Visits) (side : List ℕ) → IsSound g → IsSearch (length g.devices) g.links up s → s.root ≡ a → a < length g.devices → IsSettled g.links up s → is_found s b ≡ false → side ≡ numbers_in (length s.places) (is_found s) → IsClosed g up a b side
found_closed g up a b s side sound is root a_in settled out numbers =
    let all : numbers_in (length g.devices) (is_found s) ≡ side = sym (numbers ∙ ap (λ n. numbers_in n (is_found s)) is.one_each) in
    let closed = settled_least (length g.devices) g.links up a s is root sound.links settled in
    subst (λ (xs : List ℕ). IsClosed g up a b xs) all (record {
      parts = record { inside = member_has (length g.devices) (is_found s) a a_in closed.start; outside = member_not (length g.devices) (is_found s) b out };
      stays = λ i x y leads from. member_has (length g.devices) (is_found s) y (end_low _ g.links up i x y sound.links leads) (zero_stays _ g.links up (is_found s) i x y sound.links closed.closed leads (member_is (length g.devices) (is_found s) x from));
      reached = λ d has. joined (length g.devices) g.links up a d sound.links (λ t cut. crossed g.links up a d (is_found s) t closed (member_is (length g.devices) (is_found s) d has) cut (cut_value g.links up t) refl);
    })
