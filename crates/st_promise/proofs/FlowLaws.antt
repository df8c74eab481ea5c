-- What flows and least cuts of the network of what is up tell of promises.
use Rattle.std.proofs.Common.{◌≡◌, ◌≢◌, ℕ, ◌+◌, ◌*◌, ◌/◌, ◌<◌, ◌≤◌, List, [], ◌∷◌, length, refl, ap, ◌∙◌, sym, subst, arith}
use Rattle.std.proofs.Math.Nat.{mul-le-mul}
use Rattle.std.specs.Prelude.{Bool, true, false, ◌==◌, ◌||◌, max, All}
use Rattle.std.proofs.lemmas.List.Elements.{All-head, All-tail}
use Rattle.std.proofs.lemmas.Bool.Decides.{nat_tests}
use Rattle.std.specs.Int.{div_ceil}
use Rattle.st_net.specs.declared.entity.Entity.{Entity}
use Rattle.st_net.specs.declared.promise.Promise.{Promise}
use Rattle.st_net.specs.Groups.{Group, IsPromiseAmong, IsSound}
use Rattle.st_net.specs.Cuts.{least_cut, is_in_least_side, numbers_in}
use Rattle.st_net.specs.Promises.{is_kept, need_of}
use Rattle.st_net.proofs.WalkLaws.{least_cut-below, least_cut-attained}
use Rattle.st_net.proofs.GroupLaws.{has_one_least_side}
use Rattle.st_flow.specs.declared.cut.Cut.{Cut}
use Rattle.st_flow.specs.Network.{Network, has, IsCut as IsEdgeCut, cut_value as edge_cut_value, IsLeastCut as IsLeastEdgeCut}
use Rattle.st_promise.specs.UpNetwork.{up_network, IsLeastCutOf}
use Rattle.st_promise.proofs.NetworkLaws.{cut_same, cut_low}
use Rattle.st_promise.proofs.NumberLaws.{numbers_of}

-- the least cut of a network of what is up has the least value of the group's cuts
pub value_is : (g : Group) (up : Entity → Bool) (a b value : ℕ) (side : List ℕ) → IsSound g → a ≢ b → IsLeastEdgeCut (up_network g up) a b value side → value ≡ least_cut (length g.devices) g.links up a b
value_is g up a b value side sound apart is =
    let low = least_cut-below (length g.devices) g.links up a b (has side) sound.links (record { inside = is.is_cut.inside; outside = is.is_cut.outside }) in
    let least = least_cut-attained (length g.devices) g.links up a b apart in
    let high = is.least least.0 (record { inside = least.1.inside; outside = least.1.outside }) in
    omega (arith, low, high, least.2, is.value_is, cut_same 0 g.links up (has side), cut_same 0 g.links up least.0)

-- what all numbers of a list are in has each that the list has
all_has : (s : ℕ → Bool) (side : List ℕ) (d : ℕ) → All (λ x. s x ≡ true) side → has side d ≡ true → s d ≡ true
all_has s [] d all is = cc
all_has s (x ∷ side) d all is = all_has_at s x side d (x == d) refl all is (all_has s side d (All-tail (λ y. s y ≡ true) x side all))
  where
    all_has_at : (s : ℕ → Bool) (x : ℕ) (side : List ℕ) (d : ℕ) (p : Bool) → (x == d) ≡ p → All (λ y. s y ≡ true) (x ∷ side) → (p || has side d) ≡ true → (has side d ≡ true → s d ≡ true) → s d ≡ true
    all_has_at s x side d true same all is later = let at : x ≡ d = grind (arith, nat_tests) in sym (ap s at) ∙ All-head (λ y. s y ≡ true) x side all
    all_has_at s x side d false same all is later = later is

-- its side is the least side
pub side_is : (g : Group) (up : Entity → Bool) (a b value : ℕ) (side : List ℕ) → IsSound g → a ≢ b → IsLeastEdgeCut (up_network g up) a b value side → side ≡ numbers_in (length g.devices) (is_in_least_side (length g.devices) g.links up a b)
side_is g up a b value side sound apart is =
    let least = value_is g up a b value side sound apart is in
    numbers_of (length g.devices) side (is_in_least_side (length g.devices) g.links up a b) is.ascending is.in_range
    (λ d low. has_one_least_side g sound up a b (has side) apart
    (record { cut = record { inside = is.is_cut.inside; outside = is.is_cut.outside }; value = cut_same 0 g.links up (has side) ∙ (is.value_is ∙ least) })
    (λ other cut e. all_has other side e (is.inmost other (record { inside = cut.cut.inside; outside = cut.cut.outside }) (sym (cut_same 0 g.links up other) ∙ (cut.value ∙ sym least))))
    d low)

-- where there is a flow of the need or more, and of 1, the promise holds
pub enough_kept : (g : Group) (up : Entity → Bool) (p q : Promise) (net : Network) (need asked : ℕ) → p.a ≢ p.b → q ≡ p → net ≡ up_network g up → need ≡ need_of g p → max need 1 ≤ asked → ((s : ℕ → Bool) → IsEdgeCut s q.a q.b → asked ≤ edge_cut_value net.edges s) → true ≡ is_kept g up p
enough_kept g up p q net need asked apart same is needs asks every =
    let least = least_cut-attained (length g.devices) g.links up p.a p.b apart in
    let high = every least.0 (rw same (record { inside = least.1.inside; outside = least.1.outside })) in
    let value = ap (λ (n : Network). edge_cut_value n.edges least.0) is in
    let enough : max 1 (need_of g p) ≤ least_cut (length g.devices) g.links up p.a p.b = omega (arith, high, value, least.2, cut_same 0 g.links up least.0, needs, asks) in
    sym (grind (arith, nat_tests, enough))

-- where the least cut is answered, it is that of the promise's pair
pub least_of : (g : Group) (up : Entity → Bool) (p q : Promise) (net : Network) (cut : Cut) → IsSound g → p.a ≢ p.b → q ≡ p → net ≡ up_network g up → IsLeastEdgeCut net q.a q.b cut.value cut.side.items → IsLeastCutOf g up p cut
least_of g up p q net cut sound apart same is least =
    let here : IsLeastEdgeCut (up_network g up) p.a p.b cut.value cut.side.items = subst (λ (n : Network). IsLeastEdgeCut n p.a p.b cut.value cut.side.items) is (subst (λ (r : Promise). IsLeastEdgeCut net r.a r.b cut.value cut.side.items) same least) in
    record {
      value = value_is g up p.a p.b cut.value cut.side.items sound apart here;
      side = side_is g up p.a p.b cut.value cut.side.items sound apart here;
    }

-- and where it is below the need, or 0, the promise fails
pub short_fails : (g : Group) (up : Entity → Bool) (p : Promise) (need asked : ℕ) (cut : Cut) → need ≡ need_of g p → asked ≡ max need 1 → cut.value < asked → IsLeastCutOf g up p cut → false ≡ is_kept g up p
short_fails g up p need asked cut needs asks low least =
    let few : least_cut (length g.devices) g.links up p.a p.b < max 1 (need_of g p) = omega (arith, low, least.value, needs, asks) in
    sym (grind (arith, nat_tests, few))

-- where it is enough, the promise holds
pub least_holds : (g : Group) (up : Entity → Bool) (p : Promise) (need asked : ℕ) (cut : Cut) → need ≡ need_of g p → asked ≡ max need 1 → asked ≤ cut.value → IsLeastCutOf g up p cut → true ≡ is_kept g up p
least_holds g up p need asked cut needs asks high least =
    let enough : max 1 (need_of g p) ≤ least_cut (length g.devices) g.links up p.a p.b = omega (arith, high, least.value, needs, asks) in
    sym (grind (arith, nat_tests, enough))

-- a share of what all links can carry fits
pub share_fits : (g : Group) (p q : Promise) (percent value : ℕ) → IsSound g → IsPromiseAmong g.devices p → q ≡ p → percent ≡ q.percent → value ≡ least_cut (length g.devices) g.links (λ e. true) p.a p.b → percent * value ≤ 409600000000
share_fits g p q percent value sound promise same share is =
    let low = least_cut-below (length g.devices) g.links (λ e. true) p.a p.b (λ d. d == p.a) sound.links (record { inside = grind (arith, nat_tests); outside = apart_at p.a p.b promise.apart }) in
    let most = cut_low 0 (length g.devices) g.links (λ e. true) (λ d. d == p.a) sound.links in
    let few : value ≤ 4096000000 = omega (arith, is, low, most, sound.few_links) in
    let share_low : percent ≤ 100 = omega (arith, share, ap (λ (r : Promise). r.percent) same, promise.share) in
    mul-le-mul share_low few
  where
    apart_at : (a b : ℕ) → a ≢ b → (b == a) ≡ false
    apart_at a b apart = grind (arith, nat_tests)

-- the share of the least cut, in hundredths and rounded up, is the need
pub need_is : (g : Group) (p q : Promise) (percent value need : ℕ) → q ≡ p → percent ≡ q.percent → value ≡ least_cut (length g.devices) g.links (λ e. true) p.a p.b → need ≡ div_ceil (percent * value) 100 → need ≡ need_of g p
need_is g p q percent value need same share is made =
    let parts : percent * value ≡ p.percent * least_cut (length g.devices) g.links (λ e. true) p.a p.b = rw (is, share, same) refl in
    made ∙ (ap (λ m. div_ceil m 100) parts ∙ rounded_up (p.percent * least_cut (length g.devices) g.links (λ e. true) p.a p.b))
  where
    rounded_up : (m : ℕ) → div_ceil m 100 ≡ (m + 99) / 100
    rounded_up m = omega arith
