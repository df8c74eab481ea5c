-- The shares of a flow's links tell the amount of each link.
use Rattle.std.proofs.Common.{◌≡◌, ◌≢◌, ℕ, zero, suc, ◌+◌, ◌<◌, ◌≤◌, ◌==◌, true, false, List, [], ◌∷◌, ◌++◌, length, take, drop, ℤ, pos, negsuc, nat_abs, inl, inr, refl, ap, ◌∙◌, sym, arith, append_assoc}
use Rattle.std.specs.Prelude.{slice_index_or, ⊤, int_lt}
use Rattle.std.proofs.Math.Seq.{take-suc}
use Rattle.std.proofs.lemmas.Int.{ints}
use Rattle.std.proofs.lemmas.Bool.Decides.{nat_tests}
use Rattle.std.proofs.lemmas.List.{append-nil, take_all}
use Rattle.st_net.specs.declared.topo.LinkOpening.{LinkOpening}
use Rattle.st_net.specs.Groups.{no_link, AreLinks}
use Rattle.st_flow.specs.declared.edge.Edge.{Edge}
use Rattle.st_flow.specs.Residual.{no_edge}
use Rattle.st_promise.specs.declared.kept_flow.Share.{Share}
use Rattle.st_promise.specs.UpNetwork.{edge_of, up_edges}
use Rattle.st_promise.specs.KeptFlow.{amount_of, amounts_from, IsShareOf, IsEndIn}
use Rattle.st_net.proofs.WalkLaws.{is_link_at}

-- the share of a link, by the sign of its amount
pub share_is : (i : ℕ) (e : Edge) (f : ℤ) (head : ℕ) → e.u ≢ e.v → (int_lt f (pos 0) ≡ true → head ≡ e.u) → (int_lt f (pos 0) ≡ false → head ≡ e.v) → IsShareOf i e f (record { link = i; head = head; amount = nat_abs f })
share_is i e (pos n) head apart back along =
    let more : int_lt (pos n) (pos 0) ≡ false = grind (arith, ints) in
    let to : head ≡ e.v = along more in
    let here : (e.v == head) ≡ true = grind (arith, nat_tests, to) in
    record { link = refl; end = inr to; amount = rw here refl }
share_is i e (negsuc n) head apart back along =
    let to : head ≡ e.u = back refl in
    let there : (e.v == head) ≡ false = grind (arith, nat_tests, to, apart) in
    let here : (e.u == head) ≡ true = grind (arith, nat_tests, to) in
    record { link = refl; end = inl to; amount = rw (there, here) refl }

-- the first of these shares is of a link from i on
abbrev pub IsFrom : ℕ → List Share → Type 0
IsFrom i [] = ⊤
IsFrom i (s ∷ shares) = i ≤ s.link

-- shares that tell the amounts of the first i edges
abbrev pub TellTo : ℕ → List Edge → List ℤ → List Share → Type 0
TellTo i es fs shares = (rest : List Share) → IsFrom i rest → amounts_from 0 es (shares ++ rest) ≡ take i fs ++ amounts_from i (drop i es) rest

later : (i : ℕ) (rest : List Share) → IsFrom (i + 1) rest → IsFrom i rest
later i [] from = tt
later i (s ∷ rest) from = omega (arith, from)

passed : (i : ℕ) (e : Edge) (es : List Edge) (rest : List Share) → IsFrom (i + 1) rest → amounts_from i (e ∷ es) rest ≡ pos 0 ∷ amounts_from (i + 1) es rest
passed i e es [] from = refl
passed i e es (s ∷ rest) from = let apart : (s.link == i) ≡ false = grind (arith, nat_tests, from) in rw apart refl

taken : (i : ℕ) (e : Edge) (es : List Edge) (s : Share) (rest : List Share) → s.link ≡ i → amounts_from i (e ∷ es) (s ∷ rest) ≡ amount_of e s ∷ amounts_from (i + 1) es rest
taken i e es s rest same = let here : (s.link == i) ≡ true = grind (arith, nat_tests, same) in rw here refl

next_edge : (k : ℕ) (links : List LinkOpening) (i : ℕ) → i < length links → drop i (up_edges k links (λ e. true)) ≡ edge_of true (slice_index_or links i no_link) ∷ drop (i + 1) (up_edges k links (λ e. true))
next_edge k [] i low = absurd (omega arith)
next_edge k (link ∷ links) zero low = refl
next_edge k (link ∷ links) (suc i) low = let next : suc i + 1 ≡ suc (i + 1) = omega arith in rw next (next_edge (k + 1) links i (omega arith))

one_more : (fs : List ℤ) (i : ℕ) (f : ℤ) (rest : List ℤ) → i < length fs → slice_index_or fs i (pos 0) ≡ f → take i fs ++ (f ∷ rest) ≡ take (i + 1) fs ++ rest
one_more fs i f rest low is =
    let next : i + 1 ≡ suc i = omega arith in
    let more : take (i + 1) fs ≡ take i fs ++ f ∷ [] = rw (next, ← is) (take-suc fs i (pos 0) low) in
    rw more (sym (append_assoc (take i fs) (f ∷ []) rest))

pub tell_none : (es : List Edge) (fs : List ℤ) → TellTo 0 es fs []
tell_none es fs rest from = refl

-- the next link carries nothing
pub tell_without : (links : List LinkOpening) (fs : List ℤ) (i : ℕ) (shares : List Share) → TellTo i (up_edges 0 links (λ e. true)) fs shares → i < length links → i < length fs → slice_index_or fs i (pos 0) ≡ pos 0 → TellTo (i + 1) (up_edges 0 links (λ e. true)) fs shares
tell_without links fs i shares tell low here is rest from =
    tell rest (later i rest from)
    ∙ ap (λ fs'. take i fs ++ fs') (ap (λ es. amounts_from i es rest) (next_edge 0 links i low) ∙ passed i (edge_of true (slice_index_or links i no_link)) (drop (i + 1) (up_edges 0 links (λ e. true))) rest from)
    ∙ one_more fs i (pos 0) (amounts_from (i + 1) (drop (i + 1) (up_edges 0 links (λ e. true))) rest) here is

-- the next link carries its share
pub tell_with : (links : List LinkOpening) (fs : List ℤ) (i : ℕ) (shares : List Share) (s : Share) → TellTo i (up_edges 0 links (λ e. true)) fs shares → i < length links → i < length fs → IsShareOf i (edge_of true (slice_index_or links i no_link)) (slice_index_or fs i (pos 0)) s → TellTo (i + 1) (up_edges 0 links (λ e. true)) fs (shares ++ s ∷ [])
tell_with links fs i shares s tell low here is rest from =
    ap (amounts_from 0 (up_edges 0 links (λ e. true))) (append_assoc shares (s ∷ []) rest)
    ∙ tell (s ∷ rest) (omega (arith, is.link))
    ∙ ap (λ fs'. take i fs ++ fs') (ap (λ es. amounts_from i es (s ∷ rest)) (next_edge 0 links i low) ∙ taken i (edge_of true (slice_index_or links i no_link)) (drop (i + 1) (up_edges 0 links (λ e. true))) s rest is.link)
    ∙ one_more fs i (amount_of (edge_of true (slice_index_or links i no_link)) s) (amounts_from (i + 1) (drop (i + 1) (up_edges 0 links (λ e. true))) rest) here (sym is.amount)

-- after the last link they tell all
past_edges : (i k : ℕ) (links : List LinkOpening) → length links ≤ i → drop i (up_edges k links (λ e. true)) ≡ []
past_edges i k [] high = drop_none i
  where
    drop_none : (i : ℕ) → drop i (up_edges k [] (λ e. true)) ≡ []
    drop_none zero = refl
    drop_none (suc i) = refl
past_edges zero k (link ∷ links) high = absurd (omega arith)
past_edges (suc i) k (link ∷ links) high = past_edges i (k + 1) links (omega arith)

pub tell_all : (links : List LinkOpening) (fs : List ℤ) (i : ℕ) (shares : List Share) → TellTo i (up_edges 0 links (λ e. true)) fs shares → length links ≤ i → length fs ≤ i → amounts_from 0 (up_edges 0 links (λ e. true)) shares ≡ fs
tell_all links fs i shares tell high past =
    ap (amounts_from 0 (up_edges 0 links (λ e. true))) (sym (append-nil shares))
    ∙ tell [] tt
    ∙ ap (λ es. take i fs ++ amounts_from i es []) (past_edges i 0 links high)
    ∙ append-nil (take i fs)
    ∙ take_all i fs past

-- a share's link and device are of the group
pub share_in : (n i : ℕ) (links : List LinkOpening) (f : ℤ) (s : Share) → AreLinks n links → i < length links → IsShareOf i (edge_of true (slice_index_or links i no_link)) f s → (s.link < length links) × (s.head < n)
share_in n i links f s are low is =
    let link = is_link_at n links i are low in
    (omega (arith, is.link, low), elim is.end [ inl e ↦ omega (arith, e, link.a_in) | inr e ↦ omega (arith, e, link.b_in) ])

-- and the device is an end of the link
pub edge_read : (k : ℕ) (links : List LinkOpening) (i : ℕ) → i < length links → slice_index_or (up_edges k links (λ e. true)) i no_edge ≡ edge_of true (slice_index_or links i no_link)
edge_read k [] i low = absurd (omega arith)
edge_read k (link ∷ links) zero low = refl
edge_read k (link ∷ links) (suc i) low = edge_read (k + 1) links i (omega arith)

pub share_end : (i : ℕ) (links : List LinkOpening) (f : ℤ) (s : Share) → i < length links → IsShareOf i (edge_of true (slice_index_or links i no_link)) f s → IsEndIn (up_edges 0 links (λ e. true)) s
share_end i links f s low is = rw (is.link, edge_read 0 links i low) is.end
