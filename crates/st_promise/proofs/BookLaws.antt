-- What a book's fields tell of its group: its asks, their needs, and the flows that are kept of them.
use Rattle.std.proofs.Common.{◌≡◌, ℕ, ◌<◌, ◌≤◌, max, Bool, true, List, length, map, All, get_or, ℤ, Option, Some, None, IfSome, ap, ◌∙◌, sym, arith}
use Rattle.std.specs.Prelude.{slice_index_or, slice_set}
use Rattle.std.proofs.lemmas.Int.{ints}
use Rattle.std.proofs.lemmas.List.{get_or_read, get_or-map}
use Rattle.st_net.specs.declared.entity.Entity.{Entity}
use Rattle.st_net.specs.declared.promise.Promise.{Promise}
use Rattle.st_net.specs.Groups.{Group, no_promise, IsSound}
use Rattle.st_net.specs.Promises.{need_of}
use Rattle.st_net.specs.Asks.{asks, ask_count, ask_of}
use Rattle.st_flow.specs.declared.edge.Edge.{Edge}
use Rattle.st_flow.specs.Network.{Network, FitsEdge, Sends}
use Rattle.st_flow.specs.Residual.{no_edge}
use Rattle.st_flow.proofs.Closed.{AllZip-length, AllZip-at}
use Rattle.st_promise.specs.declared.kept_flow.Share.{Share}
use Rattle.st_promise.specs.declared.kept_flow.KeptFlow.{KeptFlow}
use Rattle.st_promise.specs.UpNetwork.{up_edges, up_network}
use Rattle.st_promise.specs.KeptFlow.{IsSmall, IsEndIn, amounts_from, IsEnough, AreKeptFlows}
use Rattle.st_promise.specs.Book.{BookView, IsBookOf}
use Rattle.st_promise.proofs.KeptLaws.{edges_fit, edges_count, sends_more, flows_with}

-- the fields of a book of this group
pub record AreFieldsOf (g : Group) (pairs : List Promise) (needs : List ℕ) (whole : Network) : Type 0 where
  pub asks_are : pairs ≡ asks g
  pub needs_are : needs ≡ map (need_of g) (asks g)
  pub whole_is : whole ≡ up_network g (λ e. true)

pub fields_of : (g : Group) (pairs : List Promise) (needs : List ℕ) (whole : Network) (runs : ℕ) (view : BookView) → record { of = record { needs = needs; asks = pairs; whole = whole }; flows_run = runs } ≡ view → IsBookOf g view.of → AreFieldsOf g pairs needs whole
fields_of g pairs needs whole runs view is book = record {
  asks_are = ap (λ (v : BookView). v.of.asks) is ∙ book.asks_are;
  needs_are = ap (λ (v : BookView). v.of.needs) is ∙ book.needs_are;
  whole_is = ap (λ (v : BookView). v.of.whole) is ∙ book.whole_is;
}

-- what is read of them
pub ask_read : (g : Group) (pairs : List Promise) (needs : List ℕ) (whole : Network) (i : ℕ) (p : Promise) → AreFieldsOf g pairs needs whole → i < ask_count g → p ≡ get_or pairs i p → p ≡ ask_of g i
ask_read g pairs needs whole i p are low read = get_or_read (asks g) i p low (read ∙ ap (λ (ps : List Promise). get_or ps i p) are.asks_are) no_promise

pub need_at : (g : Group) (pairs : List Promise) (needs : List ℕ) (whole : Network) (i : ℕ) → AreFieldsOf g pairs needs whole → i < ask_count g → slice_index_or needs i 0 ≡ need_of g (ask_of g i)
need_at g pairs needs whole i are low = ap (λ (ns : List ℕ). slice_index_or ns i 0) are.needs_are ∙ get_or-map (need_of g) (asks g) i no_promise 0 low

pub need_read : (g : Group) (pairs : List Promise) (needs : List ℕ) (whole : Network) (i n : ℕ) → AreFieldsOf g pairs needs whole → length needs ≡ length pairs → i < ask_count g → n ≡ get_or needs i n → n ≡ need_of g (ask_of g i)
need_read g pairs needs whole i n are each low read =
    get_or_read needs i n (omega (arith, each, low, ap (λ (ps : List Promise). length ps) are.asks_are)) read 0 ∙ need_at g pairs needs whole i are low

-- the flow that is kept of ask number i
pub flow_read : (g : Group) (pairs : List Promise) (needs : List ℕ) (whole : Network) (flows : List (Option KeptFlow)) (i : ℕ) (read : Option KeptFlow) (k : KeptFlow) → AreFieldsOf g pairs needs whole → AreKeptFlows whole pairs needs flows → i < ask_count g → read ≡ get_or flows i read → read ≡ Some k → IsEnough (up_network g (λ e. true)) (ask_of g i) (need_of g (ask_of g i)) k
flow_read g pairs needs whole flows i read k are kept low here is =
    let count = ap (λ (ps : List Promise). length ps) are.asks_are in
    let at : slice_index_or flows i None ≡ Some k = sym (get_or_read flows i read (omega (arith, low, count, kept.flows_each)) here None) ∙ is in
    let each : IfSome (Some k) (IsEnough whole (slice_index_or pairs i no_promise) (slice_index_or needs i 0)) = rw at at (kept.each i (omega (arith, low, count))) in
    rw (are.asks_are, need_at g pairs needs whole i are low, are.whole_is) at each

-- its links and devices have marks
pub links_marked : (n m marks : ℕ) (shares : List Share) → All (λ s. (s.link < m) × (s.head < n)) shares → marks ≡ m → All (λ s. s.link < marks) shares
links_marked n m marks shares all same = λ k d low. let at = all k d low in omega (arith, at.0, same)

pub heads_marked : (n m marks : ℕ) (shares : List Share) → All (λ s. (s.link < m) × (s.head < n)) shares → marks ≡ n → All (λ s. s.head < marks) shares
heads_marked n m marks shares all same = λ k d low. let at = all k d low in omega (arith, at.1, same)

pub link_marked : (g : Group) (p : Promise) (need marks : ℕ) (k : KeptFlow) → IsEnough (up_network g (λ e. true)) p need k → marks ≡ length g.links → All (λ s. s.link < marks) k.shares.items
link_marked g p need marks k enough same = links_marked (length g.devices) (length (up_edges 0 g.links (λ e. true))) marks k.shares.items enough.flow.in_range (same ∙ sym (edges_count 0 g.links (λ e. true)))

-- no link carries more than a link can
pub flow_small : (g : Group) (up : Entity → Bool) (fs : List ℤ) (a b amount : ℕ) → IsSound g → Sends (up_network g up) fs a b amount → All IsSmall fs
flow_small g up fs a b amount sound sends = λ k d low.
    let count = AllZip-length FitsEdge (up_edges 0 g.links up) fs sends.flow.fits in
    let here : k < length (up_edges 0 g.links up) = omega (arith, low, count) in
    let fits = AllZip-at FitsEdge (up_edges 0 g.links up) fs k no_edge d sends.flow.fits here in
    let edge = edges_fit 0 (length g.devices) g.links up sound.links k no_edge here in
    small (get_or (up_edges 0 g.links up) k no_edge) (get_or fs k d) fits edge.bounded
  where
    small : (e : Edge) (f : ℤ) → FitsEdge e f → e.capacity ≤ 1000000 → IsSmall f
    small e f fits bounded = record { low = (let low = fits.low in omega (arith, ints)); high = (let high = fits.high in omega (arith, ints)) }

pub flow_count : (g : Group) (up : Entity → Bool) (fs : List ℤ) (a b amount : ℕ) → Sends (up_network g up) fs a b amount → length fs ≡ length g.links
flow_count g up fs a b amount sends = AllZip-length FitsEdge (up_edges 0 g.links up) fs sends.flow.fits ∙ edges_count 0 g.links up

-- a flow that was found of ask number i, as it is kept
pub kept_with : (g : Group) (pairs : List Promise) (needs : List ℕ) (whole : Network) (flows : List (Option KeptFlow)) (up : Entity → Bool) (fs : List ℤ) (i amount : ℕ) (k : KeptFlow) → AreFieldsOf g pairs needs whole → AreKeptFlows whole pairs needs flows → i < ask_count g → Sends (up_network g up) fs (ask_of g i).a (ask_of g i).b amount → max (need_of g (ask_of g i)) 1 ≤ amount → k.sent ≡ amount → All (λ s. (s.link < length g.links) × (s.head < length g.devices)) k.shares.items → All (IsEndIn (up_edges 0 g.links (λ e. true))) k.shares.items → amounts_from 0 (up_edges 0 g.links (λ e. true)) k.shares.items ≡ fs → AreKeptFlows whole pairs needs (slice_set flows i (Some k))
kept_with g pairs needs whole flows up fs i amount k are kept low sends enough same in_range ends amounts =
    let count = ap (λ (ps : List Promise). length ps) are.asks_are in
    let here : IsEnough (up_network g (λ e. true)) (ask_of g i) (need_of g (ask_of g i)) k = record {
      flow = record {
        in_range = rw (edges_count 0 g.links (λ e. true)) in_range;
        ends = ends;
        sends = rw (amounts, same) (sends_more g up fs (ask_of g i).a (ask_of g i).b amount sends);
      };
      enough = omega (arith, enough, same);
    } in
    flows_with whole pairs needs flows i (Some k) kept (omega (arith, low, count)) (rw (are.asks_are, need_at g pairs needs whole i are low, are.whole_is) here)

-- and a flow that is given up
pub kept_without : (g : Group) (pairs : List Promise) (needs : List ℕ) (whole : Network) (flows : List (Option KeptFlow)) (i : ℕ) → AreFieldsOf g pairs needs whole → AreKeptFlows whole pairs needs flows → i < ask_count g → AreKeptFlows whole pairs needs (slice_set flows i None)
kept_without g pairs needs whole flows i are kept low =
    let count = ap (λ (ps : List Promise). length ps) are.asks_are in
    flows_with whole pairs needs flows i None kept (omega (arith, low, count)) tt

-- the links of a flow have lists
pub lists_for : (g : Group) (pairs : List Promise) (needs : List ℕ) (whole : Network) (n : ℕ) (shares : List Share) → AreFieldsOf g pairs needs whole → n ≡ length whole.edges → All (λ s. (s.link < length g.links) × (s.head < length g.devices)) shares → All (λ s. s.link < n) shares
lists_for g pairs needs whole n shares are count in_range =
    links_marked (length g.devices) (length g.links) n shares in_range (count ∙ ap (λ (net : Network). length net.edges) are.whole_is ∙ edges_count 0 g.links (λ e. true))

pub lists_count : (g : Group) (pairs : List Promise) (needs : List ℕ) (whole : Network) (n : ℕ) → AreFieldsOf g pairs needs whole → n ≡ length whole.edges → n ≡ length g.links
lists_count g pairs needs whole n are count = count ∙ ap (λ (net : Network). length net.edges) are.whole_is ∙ edges_count 0 g.links (λ e. true)
