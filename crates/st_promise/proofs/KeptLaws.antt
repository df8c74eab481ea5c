-- What is left of a kept flow: where entities go down, each cut still has at least what the flow sent less what was lost.
use Rattle.std.proofs.Common.{◌≡◌, ℕ, suc, ◌+◌, ◌-◌, ◌<◌, ◌≤◌, ◌==◌, max, Bool, true, false, ◌&&◌, not, if◌then◌else◌, List, [], ◌∷◌, length, All, set, ℤ, pos, ◌+ℤ◌, ◌-ℤ◌, ◌≤ℤ◌, neg_ℤ, Option, None, IfSome, refl, ap, ◌∙◌, sym, arith, inl, inr}
use Rattle.std.specs.Prelude.{slice_index_or}
use Rattle.std.specs.List.{AllZip}
use Rattle.std.proofs.lemmas.Int.{ints}
use Rattle.std.proofs.lemmas.Bool.Decides.{nat_tests, eqb_tells}
use Rattle.std.proofs.lemmas.List.{get_or-set_same, get_or-set_other, length-set}
use Rattle.std.proofs.lemmas.List.Elements.{All-cons, All-nil}
use Rattle.std.proofs.lemmas.List.Sums.{sum_by-cons}
use Rattle.st_net.specs.declared.entity.Entity.{Entity}
use Rattle.st_net.specs.declared.entity.Entity.TheVariants.{Device, Link}
use Rattle.st_net.specs.declared.topo.LinkOpening.{LinkOpening}
use Rattle.st_net.specs.declared.promise.Promise.{Promise}
use Rattle.st_net.specs.Groups.{Group, no_promise, AreLinks, IsSound, IsPromiseAmong}
use Rattle.st_net.specs.UpGraph.{is_up_link}
use Rattle.st_net.specs.Cuts.{is_crossing, cut_value_from, least_cut}
use Rattle.st_net.specs.Promises.{is_kept, need_of}
use Rattle.st_net.proofs.WalkLaws.{least_cut-attained}
use Rattle.st_flow.specs.Network.{Network, IsEdge, FitsEdge, Sends, part_out, net_out, net_out_of}
use Rattle.st_flow.proofs.Duality.{net_out-cut}
use Rattle.st_promise.specs.declared.kept_flow.Share.{Share}
use Rattle.st_promise.specs.declared.kept_flow.KeptFlow.{KeptFlow}
use Rattle.st_promise.specs.UpNetwork.{edge_of, up_edges, up_network}
use Rattle.st_promise.specs.KeptFlow.{amount_of, amounts_from, lost_share, lost, IsKeptFlow, IsEnough, AreKeptFlows}

-- the links of a group are edges, whatever is up
pub edges_fit : (i n : ℕ) (links : List LinkOpening) (up : Entity → Bool) → AreLinks n links → All (IsEdge n) (up_edges i links up)
edges_fit i n [] up are = All-nil (IsEdge n)
edges_fit i n (link ∷ links) up are =
    All-cons (IsEdge n) (edge_of (is_up_link up i link) link) (up_edges (i + 1) links up) (record { u_in = are.0.a_in; v_in = are.0.b_in; apart = are.0.apart; bounded = low (is_up_link up i link) link.capacity are.0.bounded }) (edges_fit (i + 1) n links up are.1)
  where
    low : (u : Bool) (m : ℕ) → m ≤ 1000000 → (if u then m else 0) ≤ 1000000
    low true m le = le
    low false m le = omega arith

pub edges_count : (i : ℕ) (links : List LinkOpening) (up : Entity → Bool) → length (up_edges i links up) ≡ length links
edges_count i [] up = refl
edges_count i (link ∷ links) up = ap suc (edges_count (i + 1) links up)

-- what a link takes out of the set of those of s that are up is within the cut, or lost: s has its ends by su and sv, up are they by uu and uv, and the link by ul
part_v : (su sv uu uv ul : Bool) (m c : ℕ) → m ≤ c → ((if su && uu then pos m else pos 0) -ℤ (if sv && uv then pos m else pos 0)) ≤ℤ pos ((if (ul && uu && uv) && (if su then not sv else sv) then c else 0) + (if ul && uv then 0 else m))
part_v true true true true true m c low = omega (arith, ints)
part_v true true true true false m c low = omega (arith, ints)
part_v true true true false true m c low = omega (arith, ints)
part_v true true true false false m c low = omega (arith, ints)
part_v true true false true true m c low = omega (arith, ints)
part_v true true false true false m c low = omega (arith, ints)
part_v true true false false true m c low = omega (arith, ints)
part_v true true false false false m c low = omega (arith, ints)
part_v true false true true true m c low = omega (arith, ints)
part_v true false true true false m c low = omega (arith, ints)
part_v true false true false true m c low = omega (arith, ints)
part_v true false true false false m c low = omega (arith, ints)
part_v true false false true true m c low = omega (arith, ints)
part_v true false false true false m c low = omega (arith, ints)
part_v true false false false true m c low = omega (arith, ints)
part_v true false false false false m c low = omega (arith, ints)
part_v false true true true true m c low = omega (arith, ints)
part_v false true true true false m c low = omega (arith, ints)
part_v false true true false true m c low = omega (arith, ints)
part_v false true true false false m c low = omega (arith, ints)
part_v false true false true true m c low = omega (arith, ints)
part_v false true false true false m c low = omega (arith, ints)
part_v false true false false true m c low = omega (arith, ints)
part_v false true false false false m c low = omega (arith, ints)
part_v false false true true true m c low = omega (arith, ints)
part_v false false true true false m c low = omega (arith, ints)
part_v false false true false true m c low = omega (arith, ints)
part_v false false true false false m c low = omega (arith, ints)
part_v false false false true true m c low = omega (arith, ints)
part_v false false false true false m c low = omega (arith, ints)
part_v false false false false true m c low = omega (arith, ints)
part_v false false false false false m c low = omega (arith, ints)

part_u : (su sv uu uv ul : Bool) (m c : ℕ) → m ≤ c → ((if su && uu then neg_ℤ (pos m) else pos 0) -ℤ (if sv && uv then neg_ℤ (pos m) else pos 0)) ≤ℤ pos ((if (ul && uu && uv) && (if su then not sv else sv) then c else 0) + (if ul && uu then 0 else m))
part_u true true true true true m c low = omega (arith, ints)
part_u true true true true false m c low = omega (arith, ints)
part_u true true true false true m c low = omega (arith, ints)
part_u true true true false false m c low = omega (arith, ints)
part_u true true false true true m c low = omega (arith, ints)
part_u true true false true false m c low = omega (arith, ints)
part_u true true false false true m c low = omega (arith, ints)
part_u true true false false false m c low = omega (arith, ints)
part_u true false true true true m c low = omega (arith, ints)
part_u true false true true false m c low = omega (arith, ints)
part_u true false true false true m c low = omega (arith, ints)
part_u true false true false false m c low = omega (arith, ints)
part_u true false false true true m c low = omega (arith, ints)
part_u true false false true false m c low = omega (arith, ints)
part_u true false false false true m c low = omega (arith, ints)
part_u true false false false false m c low = omega (arith, ints)
part_u false true true true true m c low = omega (arith, ints)
part_u false true true true false m c low = omega (arith, ints)
part_u false true true false true m c low = omega (arith, ints)
part_u false true true false false m c low = omega (arith, ints)
part_u false true false true true m c low = omega (arith, ints)
part_u false true false true false m c low = omega (arith, ints)
part_u false true false false true m c low = omega (arith, ints)
part_u false true false false false m c low = omega (arith, ints)
part_u false false true true true m c low = omega (arith, ints)
part_u false false true true false m c low = omega (arith, ints)
part_u false false true false true m c low = omega (arith, ints)
part_u false false true false false m c low = omega (arith, ints)
part_u false false false true true m c low = omega (arith, ints)
part_u false false false true false m c low = omega (arith, ints)
part_u false false false false true m c low = omega (arith, ints)
part_u false false false false false m c low = omega (arith, ints)

part_none : (p q : Bool) (n : ℕ) → ((if p then pos 0 else pos 0) -ℤ (if q then pos 0 else pos 0)) ≤ℤ pos n
part_none true true n = omega (arith, ints)
part_none true false n = omega (arith, ints)
part_none false true n = omega (arith, ints)
part_none false false n = omega (arith, ints)

-- the devices of a set that are up
abbrev pub up_part : (Entity → Bool) → (ℕ → Bool) → ℕ → Bool
up_part up s d = s d && up (Device d)

-- what a share's link adds to a cut
abbrev crossed : ℕ → LinkOpening → (Entity → Bool) → (ℕ → Bool) → ℕ
crossed i link up s = if is_up_link up i link && is_crossing s link then link.capacity else 0

fits_v : (m c : ℕ) → pos m ≤ℤ pos c → m ≤ c
fits_v m c le = omega (arith, ints)

fits_u : (m c : ℕ) → neg_ℤ (pos c) ≤ℤ neg_ℤ (pos m) → m ≤ c
fits_u m c le = omega (arith, ints)

share_within : (i : ℕ) (link : LinkOpening) (sh : Share) (up : Entity → Bool) (s : ℕ → Bool) (at_v at_u : Bool) → (link.b == sh.head) ≡ at_v → (link.a == sh.head) ≡ at_u → sh.link ≡ i → FitsEdge (edge_of true link) (if at_v then pos sh.amount else (if at_u then neg_ℤ (pos sh.amount) else pos 0)) → part_out (edge_of true link) (if at_v then pos sh.amount else (if at_u then neg_ℤ (pos sh.amount) else pos 0)) (up_part up s) ≤ℤ pos (crossed i link up s + lost_share up sh)
share_within i link sh up s true at_u is_v is_u same fits =
    let head : link.b ≡ sh.head = grind (arith, nat_tests) in
    rw (same, ← head) (part_v (s link.a) (s link.b) (up (Device link.a)) (up (Device link.b)) (up (Link i)) sh.amount link.capacity (fits_v sh.amount link.capacity fits.high))
share_within i link sh up s false true is_v is_u same fits =
    let head : link.a ≡ sh.head = grind (arith, nat_tests) in
    rw (same, ← head) (part_u (s link.a) (s link.b) (up (Device link.a)) (up (Device link.b)) (up (Link i)) sh.amount link.capacity (fits_u sh.amount link.capacity fits.low))
share_within i link sh up s false false is_v is_u same fits = part_none (up_part up s link.a) (up_part up s link.b) (crossed i link up s + lost_share up sh)

none_within : (here cut rest_cut lost_all : ℕ) (part more : ℤ) → part ≤ℤ pos here → more ≤ℤ pos (rest_cut + lost_all) → cut ≡ here + rest_cut → (part +ℤ more) ≤ℤ pos (cut + lost_all)
none_within here cut rest_cut lost_all part more le_part le_more is = omega (arith, ints)

some_within : (here gone cut rest_cut lost_rest lost_all : ℕ) (part more : ℤ) → part ≤ℤ pos (here + gone) → more ≤ℤ pos (rest_cut + lost_rest) → cut ≡ here + rest_cut → lost_all ≡ gone + lost_rest → (part +ℤ more) ≤ℤ pos (cut + lost_all)
some_within here gone cut rest_cut lost_rest lost_all part more le_part le_more is all = omega (arith, ints)

-- what leaves the part of a set that is up is within its cut, and what was lost
abbrev pub IsWithinCut : ℕ → List LinkOpening → List Share → (Entity → Bool) → (ℕ → Bool) → Type 0
IsWithinCut i links shares up s = AllZip FitsEdge (up_edges i links (λ e. true)) (amounts_from i (up_edges i links (λ e. true)) shares) → net_out (up_edges i links (λ e. true)) (amounts_from i (up_edges i links (λ e. true)) shares) (up_part up s) ≤ℤ pos (cut_value_from i links up s + lost up shares)

-- the amounts of a link and those after it, by whether its share comes first
abbrev amounts_at : Bool → ℕ → LinkOpening → List LinkOpening → Share → List Share → List ℤ
amounts_at here i link links sh shares = if here then amount_of (edge_of true link) sh ∷ amounts_from (i + 1) (up_edges (i + 1) links (λ e. true)) shares else pos 0 ∷ amounts_from (i + 1) (up_edges (i + 1) links (λ e. true)) (sh ∷ shares)

flow_step : (i : ℕ) (link : LinkOpening) (links : List LinkOpening) (sh : Share) (shares : List Share) (up : Entity → Bool) (s : ℕ → Bool) (here : Bool) → (sh.link == i) ≡ here → IsWithinCut (i + 1) links shares up s → IsWithinCut (i + 1) links (sh ∷ shares) up s → AllZip FitsEdge (edge_of true link ∷ up_edges (i + 1) links (λ e. true)) (amounts_at here i link links sh shares) → net_out (edge_of true link ∷ up_edges (i + 1) links (λ e. true)) (amounts_at here i link links sh shares) (up_part up s) ≤ℤ pos (cut_value_from i (link ∷ links) up s + lost up (sh ∷ shares))
flow_step i link links sh shares up s true is with_it without_it fits =
    let same : sh.link ≡ i = grind (arith, nat_tests) in
    some_within (crossed i link up s) (lost_share up sh) (cut_value_from i (link ∷ links) up s) (cut_value_from (i + 1) links up s) (lost up shares) (lost up (sh ∷ shares)) _ _ (share_within i link sh up s (link.b == sh.head) (link.a == sh.head) refl refl same fits.0) (with_it fits.1) refl (sum_by-cons (lost_share up) sh shares)
flow_step i link links sh shares up s false is with_it without_it fits =
    none_within (crossed i link up s) (cut_value_from i (link ∷ links) up s) (cut_value_from (i + 1) links up s) (lost up (sh ∷ shares)) _ _ (part_none (up_part up s link.a) (up_part up s link.b) (crossed i link up s)) (without_it fits.1) refl

pub flow_within : (i : ℕ) (links : List LinkOpening) (shares : List Share) (up : Entity → Bool) (s : ℕ → Bool) → IsWithinCut i links shares up s
flow_within i [] shares up s fits = omega (arith, ints)
flow_within i (link ∷ links) [] up s fits =
    none_within (crossed i link up s) (cut_value_from i (link ∷ links) up s) (cut_value_from (i + 1) links up s) (lost up []) _ _ (part_none (up_part up s link.a) (up_part up s link.b) (crossed i link up s)) (flow_within (i + 1) links [] up s fits.1) refl
flow_within i (link ∷ links) (sh ∷ shares) up s fits = flow_step i link links sh shares up s (sh.link == i) refl (flow_within (i + 1) links shares up s) (flow_within (i + 1) links (sh ∷ shares) up s) fits

cut_enough : (sent lost_all cut need : ℕ) (out set_out : ℤ) → pos sent ≤ℤ out → set_out ≡ out → set_out ≤ℤ pos (cut + lost_all) → max need 1 ≤ sent - lost_all → max 1 need ≤ cut
cut_enough sent lost_all cut need out set_out sends same within left = omega (arith, ints)

-- what is left of a kept flow is enough: the ask holds
pub left_holds : (g : Group) (up : Entity → Bool) (p : Promise) (k : KeptFlow) (need left : ℕ) → IsSound g → IsPromiseAmong g.devices p → IsKeptFlow (up_network g (λ e. true)) p.a p.b k → need ≡ need_of g p → left ≡ k.sent - lost up k.shares.items → max need 1 ≤ left → up (Device p.a) ≡ true → is_kept g up p ≡ true
left_holds g up p k need left sound promise kept needs is enough first =
    let least = least_cut-attained (length g.devices) g.links up p.a p.b promise.apart in
    let es = up_edges 0 g.links (λ e. true) in
    let fs = amounts_from 0 es k.shares.items in
    let inside : up_part up least.0 p.a ≡ true = rw (least.1.inside, first) refl in
    let outside : up_part up least.0 p.b ≡ false = rw least.1.outside refl in
    let out = net_out-cut (length g.devices) es fs p.a p.b (up_part up least.0) (edges_fit 0 (length g.devices) g.links (λ e. true) sound.links) promise.a_in kept.sends.flow (record { inside = inside; outside = outside }) in
    let within = flow_within 0 g.links k.shares.items up least.0 kept.sends.flow.fits in
    let high = cut_enough k.sent (lost up k.shares.items) (cut_value_from 0 g.links up least.0) need (net_out_of es fs p.a) (net_out es fs (up_part up least.0)) kept.sends.enough out within (omega (arith, enough, is)) in
    let all : max 1 (need_of g p) ≤ least_cut (length g.devices) g.links up p.a p.b = omega (arith, high, least.2, needs) in
    grind (arith, nat_tests, all)

-- a flow where some links are down is a flow where all are up
fits_more : (u : Bool) (link : LinkOpening) (f : ℤ) → FitsEdge (edge_of u link) f → FitsEdge (edge_of true link) f
fits_more true link f fits = fits
fits_more false link f fits = record { low = (let low = fits.low in omega (arith, ints)); high = (let high = fits.high in omega (arith, ints)) }

all_fit : (i : ℕ) (links : List LinkOpening) (fs : List ℤ) (up : Entity → Bool) → AllZip FitsEdge (up_edges i links up) fs → AllZip FitsEdge (up_edges i links (λ e. true)) fs
all_fit i [] [] up fits = tt
all_fit i [] (f ∷ fs) up fits = absurd fits
all_fit i (link ∷ links) [] up fits = absurd fits
all_fit i (link ∷ links) (f ∷ fs) up fits = (fits_more (is_up_link up i link) link f fits.0, all_fit (i + 1) links fs up fits.1)

out_same : (i : ℕ) (links : List LinkOpening) (fs : List ℤ) (up : Entity → Bool) (s : ℕ → Bool) → net_out (up_edges i links up) fs s ≡ net_out (up_edges i links (λ e. true)) fs s
out_same i [] fs up s = refl
out_same i (link ∷ links) [] up s = refl
out_same i (link ∷ links) (f ∷ fs) up s = ap (λ m. part_out (edge_of true link) f s +ℤ m) (out_same (i + 1) links fs up s)

pub sends_more : (g : Group) (up : Entity → Bool) (fs : List ℤ) (a b amount : ℕ) → Sends (up_network g up) fs a b amount → Sends (up_network g (λ e. true)) fs a b amount
sends_more g up fs a b amount sends = record {
  flow = record {
    fits = all_fit 0 g.links fs up sends.flow.fits;
    conserved = λ x low not_a not_b. sym (out_same 0 g.links fs up (λ y. y == x)) ∙ sends.flow.conserved x low not_a not_b;
  };
  enough = rw (← out_same 0 g.links fs up (λ y. y == a)) sends.enough;
}

-- one flow is exchanged, or given up
pub flows_with : (net : Network) (ps : List Promise) (needs : List ℕ) (flows : List (Option KeptFlow)) (i : ℕ) (flow : Option KeptFlow) → AreKeptFlows net ps needs flows → i < length ps → IfSome flow (IsEnough net (slice_index_or ps i no_promise) (slice_index_or needs i 0)) → AreKeptFlows net ps needs (set flows i flow)
flows_with net ps needs flows i flow are low enough = record {
  needs_each = are.needs_each;
  flows_each = length-set flows i flow ∙ are.flows_each;
  each = λ j j_low. elim (eqb_tells j i) [
    | inl e ↦ (let is : slice_index_or (set flows i flow) i None ≡ flow = get_or-set_same flows i flow None (omega (arith, low, are.flows_each)) in rw (e.1, is) enough)
    | inr e ↦ (let is : slice_index_or (set flows i flow) j None ≡ slice_index_or flows j None = get_or-set_other flows i j flow None e.1 in rw is (are.each j j_low))
  ];
}
