-- Asks that fail: they fail with fewer entities up, and in every group that has the same book.
use Rattle.std.proofs.Common.{◌≡◌, ℕ, zero, suc, ◌+◌, ◌<◌, max, List, [], ◌∷◌, length, replicate, refl, ap, subst, sym, ◌∙◌, arith}
use Rattle.std.specs.Prelude.{Bool, true, false, ◌&&◌, slice_index_or, nat_le, Option, Some, IfSome, if◌then◌else◌}
use Rattle.std.proofs.lemmas.List.{get_or-map}
use Rattle.st_net.specs.declared.entity.Entity.{Entity}
use Rattle.st_net.specs.declared.promise.Promise.{Promise}
use Rattle.st_net.specs.declared.topo.LinkOpening.{LinkOpening}
use Rattle.st_net.specs.Groups.{Group, no_vals, no_promise}
use Rattle.st_net.specs.Laws.{KeepsWithMore, TellsKept}
use Rattle.st_net.specs.UpGraph.{is_up_link}
use Rattle.st_net.specs.Cuts.{cut_of, cut_value_from, is_crossing, least_over, least_cut}
use Rattle.st_net.specs.Promises.{is_kept, need_of}
use Rattle.st_net.specs.Sets.{IsWithin, MarksOf, is_in}
use Rattle.st_net.specs.Asks.{asks, ask_count, ask_of}
use Rattle.st_flow.specs.declared.edge.Edge.{Edge}
use Rattle.st_promise.specs.UpNetwork.{up_edges, up_network}
use Rattle.st_flow.specs.Network.{Network}
use Rattle.st_promise.specs.declared.failing.Failing.{Failing}
use Rattle.st_promise.specs.Book.{BookOf, BookView, IsBookOf, AreFailing}
use Rattle.st_promise.specs.BookInside.{AreFound}
use Rattle.st_promise.proofs.KeptLaws.{edges_count}

not_both : (b : Bool) → (b ≡ true → ⊥) → b ≡ false
not_both true never = absurd (never refl)
not_both false never = refl

-- what fails with some entities up fails with fewer of them up
pub failing_still : (g : Group) (more up : Entity → Bool) (marks : List Bool) → KeepsWithMore g → TellsKept g → AreFailing g more marks → IsWithin up more → AreFailing g up marks
failing_still g more up marks keeps tells failing within i low marked =
    not_both (is_kept g up (ask_of g i)) (λ kept. let held = (tells more i low).1 (keeps up more (ask_of g i) within ((tells up i low).0 kept)) in let fails = failing i low marked in cc)

-- an edge as a link
link_of : Edge → LinkOpening
link_of e = record { a = e.u; b = e.v; capacity = e.capacity; vals = no_vals; health = 0 }

links_of : List Edge → List LinkOpening
links_of [] = []
links_of (e ∷ es) = link_of e ∷ links_of es

-- a cut has the value that the edges of all links give it
cut_by_edges : (i : ℕ) (links : List LinkOpening) (up : Entity → Bool) (s : ℕ → Bool) → cut_value_from i links up s ≡ cut_value_from i (links_of (up_edges i links (λ e. true))) up s
unfolding links_of link_of
cut_by_edges i [] up s = refl
cut_by_edges i (link ∷ links) up s = ap (λ n. (if is_up_link up i link && is_crossing s link then link.capacity else 0) + n) (cut_by_edges (i + 1) links up s)

least_by_edges : (n : ℕ) (links : List LinkOpening) (up : Entity → Bool) (a b : ℕ) → least_cut n links up a b ≡ least_cut n (links_of (up_edges 0 links (λ e. true))) up a b
least_by_edges n links up a b = ap (λ (f : (ℕ → Bool) → ℕ). least_over n (λ side. f (cut_of a b side))) (λ i s. cut_by_edges 0 links up s i)

-- two groups with the same book have the same least cuts
least_same : (g h : Group) (book : BookOf) (up : Entity → Bool) (a b : ℕ) → IsBookOf g book → IsBookOf h book → least_cut (length g.devices) g.links up a b ≡ least_cut (length h.devices) h.links up a b
least_same g h book up a b one two =
    let same : up_network g (λ e. true) ≡ up_network h (λ e. true) = sym one.whole_is ∙ two.whole_is in
    least_by_edges (length g.devices) g.links up a b
    ∙ ap (λ net. least_cut net.nodes (links_of net.edges) up a b) same
    ∙ sym (least_by_edges (length h.devices) h.links up a b)

-- the same asks, and the same needs
ask_same : (g h : Group) (book : BookOf) (i : ℕ) → IsBookOf g book → IsBookOf h book → ask_of g i ≡ ask_of h i
ask_same g h book i one two = ap (λ ps. slice_index_or ps i no_promise) (sym one.asks_are ∙ two.asks_are)

need_same : (g h : Group) (book : BookOf) (i : ℕ) → IsBookOf g book → IsBookOf h book → i < ask_count g → need_of g (ask_of g i) ≡ need_of h (ask_of h i)
need_same g h book i one two low =
    let count = ap length (sym one.asks_are ∙ two.asks_are) in
    sym (get_or-map (need_of g) (asks g) i no_promise 0 low)
    ∙ ap (λ ns. slice_index_or ns i 0) (sym one.needs_are ∙ two.needs_are)
    ∙ get_or-map (need_of h) (asks h) i no_promise 0 (omega (arith, count))

-- an ask holds in the one where it holds in the other
pub kept_same : (g h : Group) (book : BookOf) (up : Entity → Bool) (i : ℕ) → IsBookOf g book → IsBookOf h book → i < ask_count g → is_kept g up (ask_of g i) ≡ is_kept h up (ask_of h i)
kept_same g h book up i one two low =
    ap (λ n. nat_le (max 1 n) (least_cut (length g.devices) g.links up (ask_of g i).a (ask_of g i).b)) (need_same g h book i one two low)
    ∙ ap (λ n. nat_le (max 1 (need_of h (ask_of h i))) n) (least_same g h book up (ask_of g i).a (ask_of g i).b one two)
    ∙ ap (λ (p : Promise). nat_le (max 1 (need_of h (ask_of h i))) (least_cut (length h.devices) h.links up p.a p.b)) (ask_same g h book i one two)

-- so what fails in the one fails in the other
pub failing_same : (g h : Group) (book : BookOf) (up : Entity → Bool) (marks : List Bool) → IsBookOf g book → IsBookOf h book → AreFailing g up marks → AreFailing h up marks
failing_same g h book up marks one two failing i low marked =
    let count = ap length (sym one.asks_are ∙ two.asks_are) in
    let here : i < ask_count g = omega (arith, count) in
    sym (kept_same g h book up i one two here) ∙ failing i here marked

-- a book's failing asks, in a group that has this book
pub found_in : (g : Group) (needs : List ℕ) (pairs : List Promise) (whole : Network) (runs : ℕ) (view : BookView) (found : Option Failing) (f : Failing) → record { of = record { needs = needs; asks = pairs; whole = whole }; flows_run = runs } ≡ view → IsBookOf g view.of → IfSome found (AreFound (record { needs = needs; asks = pairs; whole = whole })) → found ≡ Some f → MarksOf g f.up × (length f.marks.items ≡ ask_count g) × AreFailing g (is_in f.up) f.marks.items
found_in g needs pairs whole runs view found f is book kept some =
    let at : AreFound (record { needs = needs; asks = pairs; whole = whole }) f = rw some at kept in
    at g (subst (λ (v : BookView). IsBookOf g v.of) (sym is) book)

-- what was found in one group with the book is so in each
found_with : (g : Group) (book : BookOf) (f : Failing) → IsBookOf g book → MarksOf g f.up → length f.marks.items ≡ ask_count g → AreFailing g (is_in f.up) f.marks.items → AreFound book f
found_with g book f one of count fails h two =
    let same : up_network g (λ e. true) ≡ up_network h (λ e. true) = sym one.whole_is ∙ two.whole_is in
    let nodes = ap (λ (net : Network). net.nodes) same in
    let edges = ap (λ (net : Network). length net.edges) same in (
      record { devices = of.devices ∙ nodes; links = of.links ∙ sym (edges_count 0 g.links (λ e. true)) ∙ edges ∙ edges_count 0 h.links (λ e. true) },
      count ∙ ap length (sym one.asks_are ∙ two.asks_are),
      failing_same g h book (is_in f.up) f.marks.items one two fails,
    )

pub found_kept : (g : Group) (needs : List ℕ) (pairs : List Promise) (whole : Network) (runs : ℕ) (view : BookView) (f : Failing) → record { of = record { needs = needs; asks = pairs; whole = whole }; flows_run = runs } ≡ view → IsBookOf g view.of → MarksOf g f.up → length f.marks.items ≡ ask_count g → AreFailing g (is_in f.up) f.marks.items → AreFound (record { needs = needs; asks = pairs; whole = whole }) f
found_kept g needs pairs whole runs view f is book of count fails =
    found_with g (record { needs = needs; asks = pairs; whole = whole }) f (subst (λ (v : BookView). IsBookOf g v.of) (sym is) book) of count fails

-- marks that are all false say nothing
pub none_failing : (g : Group) (up : Entity → Bool) (n : ℕ) → AreFailing g up (replicate n false)
none_failing g up n i low marked = absurd (unmarked n i marked)
  where
    unmarked : (n i : ℕ) → slice_index_or (replicate n false) i false ≡ true → ⊥
    unmarked zero i is = cc
    unmarked (suc n) zero is = cc
    unmarked (suc n) (suc i) is = unmarked n i is
