-- The search for nodes that have room from the start.
use Rattle.std.proofs.Common.{◌≡◌, ◌≢◌, ℕ, ◌+◌, ◌-◌, ◌<◌, ◌≤◌, ◌==◌, suc, zero, Bool, true, false, if◌then◌else◌, List, [], ◌∷◌, ◌++◌, length, get_or, set, get_or-set_other, get_or-set_same, length-set, length-append, ℤ, pos, ◌≤ℤ◌, refl, arith, sym, ◌∙◌, ap, inl, inr, cond, below_more, All}
use Rattle.std.proofs.Math.Seq.{get_or-append_seam}
use Rattle.std.proofs.lemmas.List.{get_or_append_left}
use Rattle.std.proofs.lemmas.Int.{ints}
use Rattle.std.proofs.lemmas.Bool.Decides.{nat_tests, eqb_tells}
use Rattle.std.proofs.lemmas.List.Sums.{sum_by-set}
use Rattle.std.specs.List.{AllZip}
use Rattle.st_flow.specs.declared.edge.Edge.{Edge}
use Rattle.st_flow.specs.declared.search.Mark.{Mark}
use Rattle.st_flow.specs.declared.search.Search.{Search}
use Rattle.st_flow.specs.Network.{Network, IsEdge, FitsEdge}
use Rattle.st_flow.specs.Residual.{other, room, IsEnd, no_edge, edge_at, amount_at, IsFull}
use Rattle.st_flow.specs.Rows.{IsRow}
use Rattle.st_flow.specs.Search.{no_mark, mark_at, before, limit_of, IsStep, IsSearching, IsScanned, Grows, Runs, IsApart}
use Rattle.st_flow.proofs.Closed.{AllZip-at, IsFull-step}

at_end : (queue : List ℕ) (y : ℕ) → get_or (queue ++ y ∷ []) (length queue + 1 - 1) 0 ≡ y
at_end queue y = let k : length queue + 1 - 1 ≡ length queue = omega arith in rw k (get_or-append_seam queue y [] 0)

pub level_cases : {P : Type 0} (n : ℕ) → (n ≡ 0 → P) → (0 < n → P) → P
level_cases zero z s = z refl
level_cases (suc n) z s = s (omega arith)

end_of : (e : Edge) (b : Bool) → IsEnd e (if b then e.u else e.v)
end_of e true = inl refl
end_of e false = inr refl

pub other_in : (nodes : ℕ) (e : Edge) (x : ℕ) → IsEdge nodes e → other e x < nodes
other_in nodes e x is = elim (e.v == x) as (λ b. (if b then e.u else e.v) < nodes) [ true ↦ is.u_in | false ↦ is.v_in ]

pub Grows-none : (marks : List Mark) (n : ℕ) → Grows marks marks n
Grows-none marks n = record { kept = λ y is. refl; later = λ y none is. absurd (omega arith) }

pub Grows-more : (one two three : List Mark) (m n : ℕ) → m ≤ n → Grows one two m → Grows two three n → Grows one three m
Grows-more one two three m n le first next = record {
  kept = λ y is. let k = first.kept y is in next.kept y (omega (arith, ap (λ v. v.level) k, is)) ∙ k;
  later = λ y none is. level_cases (mark_at two y).level
      (λ z. omega (arith, le, next.later y z is))
      (λ more. omega (arith, first.later y none more, ap (λ v. v.level) (next.kept y more)));
}

-- the other end's other end
pub other-other : (e : Edge) (x : ℕ) → e.u ≢ e.v → IsEnd e x → other e (other e x) ≡ x
other-other e x apart end =
    elim (eqb_tells e.v x) [
      | inl is ↦ rw is.0 (elim (eqb_tells e.v e.u) [ inl same ↦ absurd (apart (sym same.1)) | inr not_same ↦ rw not_same.0 is.1 ])
      | inr is ↦ rw is.0 (elim end [ inl at_u ↦ elim (eqb_tells e.v e.v) [ inl same ↦ rw same.0 at_u | inr not_same ↦ absurd (not_same.1 refl) ] | inr at_v ↦ absurd (is.1 at_v) ])
    ]

pub IsEnd-other : (e : Edge) (x : ℕ) → IsEnd e (other e x)
IsEnd-other e x = end_of e (e.v == x)

step_new : (es : List Edge) (fs : List ℤ) (marks new : List Mark) (x y i width level : ℕ) → mark_at new y ≡ record { level = level; edge = i; width = width } → mark_at new x ≡ mark_at marks x →
    other (edge_at es i) y ≡ x → i < length es → IsEnd (edge_at es i) y → pos width ≤ℤ room (edge_at es i) (amount_at fs i) y → width ≤ (mark_at marks x).width →
    0 < (mark_at marks x).level → (mark_at marks x).level < level → IsStep es fs new y
step_new es fs marks new x y i width level here there back i_in end has_room narrows from falls = record {
  edge_in = rw here i_in;
  is_end = rw here end;
  has_room = rw here has_room;
  narrows = rw (here, back, there) narrows;
  from_reached = rw (here, back, there) from;
  falls = rw (here, back, there) falls;
}

step_old : (es : List Edge) (fs : List ℤ) (marks new : List Mark) (z : ℕ) → mark_at new z ≡ mark_at marks z → mark_at new (before es marks z) ≡ mark_at marks (before es marks z) → IsStep es fs marks z → IsStep es fs new z
step_old es fs marks new z here there step = record {
  edge_in = rw here step.edge_in;
  is_end = rw here step.is_end;
  has_room = rw here step.has_room;
  narrows = rw (here, there) step.narrows;
  from_reached = rw (here, there) step.from_reached;
  falls = rw (here, there) step.falls;
}

-- a new node
pub IsSearching-found : (nodes : ℕ) (es : List Edge) (fs : List ℤ) (a limit : ℕ) (marks : List Mark) (queue : List ℕ) (x y i width : ℕ) →
    IsSearching nodes es fs a limit marks queue → AllZip FitsEdge es fs → i < length es → (edge_at es i).u ≢ (edge_at es i).v → IsEnd (edge_at es i) y → other (edge_at es i) y ≡ x →
    y < nodes → 0 < (mark_at marks x).level → (mark_at marks y).level ≡ 0 →
    0 < width → width ≤ (mark_at marks x).width → pos width ≤ℤ room (edge_at es i) (amount_at fs i) y →
    IsSearching nodes es fs a limit (set marks y (record { level = length queue + 1; edge = i; width = width })) (queue ++ y ∷ [])
IsSearching-found nodes es fs a limit marks queue x y i width is fits i_in apart end back y_in from fresh wide narrows has_room =
    let m : Mark = record { level = length queue + 1; edge = i; width = width } in
    let new : List Mark = set marks y m in
    let y_at : y < length marks = omega (arith, is.search.has_nodes) in
    let here : mark_at new y ≡ m = get_or-set_same marks y m no_mark y_at in
    let same : (z : ℕ) → z ≢ y → mark_at new z ≡ mark_at marks z = λ z ne. get_or-set_other marks y z m no_mark ne in
    let old : (z : ℕ) → 0 < (mark_at marks z).level → mark_at new z ≡ mark_at marks z = λ z more. same z (λ e. absurd (omega (arith, fresh, more, ap (λ k. (mark_at marks k).level) e))) in
    let end_level : length (queue ++ y ∷ []) ≡ length queue + 1 = omega (arith, length-append queue (y ∷ [])) in
    record {
      search = record {
        has_nodes = length-set marks y m ∙ is.search.has_nodes;
        starts = rw (old a is.search.starts) is.search.starts;
        start_width = rw (old a is.search.starts) is.search.start_width;
        steps = λ z more not_a. elim (eqb_tells z y) [
          | inl e ↦ rw e.1 (step_new es fs marks new x y i width (length queue + 1) here (old x from) back i_in end has_room narrows from (omega (arith, is.placed x from)))
          | inr ne ↦
              let step = is.search.steps z (rw (same z ne.1) at more) not_a in
              step_old es fs marks new z (same z ne.1) (old (before es marks z) step.from_reached) step
        ];
        wide = λ z more. elim (eqb_tells z y) [
          | inl e ↦ rw (e.1, here) wide
          | inr ne ↦ rw (same z ne.1) (is.search.wide z (rw (same z ne.1) at more))
        ];
        within = λ z. elim (eqb_tells z y) [
          | inl e ↦ rw (e.1, here) (omega (arith, narrows, is.search.within x))
          | inr ne ↦ rw (same z ne.1) (is.search.within z)
        ];
        inmost = λ s s_a closed z more. elim (eqb_tells z y) [
          | inl e ↦ rw e.1 (IsFull-step (edge_at es i) (amount_at fs i) s y apart end (AllZip-at (IsFull s) es fs i no_edge (pos 0) closed i_in) (rw back (is.search.inmost s s_a closed x from)) (omega (arith, ints, wide, has_room)))
          | inr ne ↦ is.search.inmost s s_a closed z (rw (same z ne.1) at more)
        ];
      };
      placed = λ z more. elim (eqb_tells z y) [
        | inl e ↦ rw (e.1, here) (omega (arith, end_level))
        | inr ne ↦ rw (same z ne.1) (omega (arith, end_level, is.placed z (rw (same z ne.1) at more)))
      ];
      is_at = λ z more. elim (eqb_tells z y) [
        | inl e ↦ rw (e.1, here) (at_end queue y)
        | inr ne ↦
            let more_old : 0 < (mark_at marks z).level = rw (same z ne.1) at more in
            rw (same z ne.1) (get_or_append_left queue (y ∷ []) 0 ((mark_at marks z).level - 1) (omega (arith, is.placed z more_old)) ∙ is.is_at z more_old)
      ];
      listed = λ k lt. elim (eqb_tells k (length queue)) [
        | inl e ↦ rw (e.1, get_or-append_seam queue y [] 0, here) (omega arith)
        | inr ne ↦
            let k_in : k < length queue = omega (arith, end_level, ne.1, lt) in
            rw (get_or_append_left queue (y ∷ []) 0 k k_in, old (get_or queue k 0) (is.listed k k_in)) (is.listed k k_in)
      ];
      counted =
          let sums = sum_by-set (λ (n : Mark). cond (n.level == 0) 1 0) marks y m no_mark y_at in
          let zero : ((mark_at marks y).level == 0) ≡ true = rw fresh refl in
          let more : (length queue + 1 == 0) ≡ false = grind (arith, nat_tests) in
          let gone = rw (zero, more) at sums in
          omega (arith, gone, end_level, is.counted);
    }

-- what a search knows while it looks along `row`, the edges of the next node x of its queue
pub record IsLooking (g : Network) (es : List Edge) (fs : List ℤ) (s : Search) (row : List ℕ) (x : ℕ) : Type 0 where
  pub edges : es ≡ g.edges
  pub edges_fit : All (IsEdge g.nodes) es
  pub fits : AllZip FitsEdge es fs
  pub few : g.nodes ≤ 512
  pub rows : IsRow es x row
  pub running : Runs g fs s
  pub waiting : s.next < length s.queue.items
  pub node : x ≡ get_or s.queue.items s.next 0
  pub is_reached : 0 < (mark_at s.marks.items x).level

-- the marks and the queue once it has seen the first k of these edges
pub record IsVisiting (g : Network) (es : List Edge) (fs : List ℤ) (s : Search) (row : List ℕ) (x k : ℕ) (marks : List Mark) (queue : List ℕ) : Type 0 where
  pub searching : IsSearching g.nodes es fs s.start (limit_of s) marks queue
  pub grows : Grows s.marks.items marks (length s.queue.items)
  pub longer : length s.queue.items ≤ length queue
  pub scanned : (j : ℕ) → j < k → IsScanned es fs marks x (get_or row j 0)

pub IsScanned-grows : (es : List Edge) (fs : List ℤ) (marks new : List Mark) (n x i : ℕ) → Grows marks new n → IsScanned es fs marks x i → IsScanned es fs new x i
IsScanned-grows es fs marks new n x i grows is end more =
    let y = other (edge_at es i) x in
    let got = is end more in
    rw (grows.kept y got) got

Grows-found : (marks : List Mark) (y : ℕ) (m : Mark) (n : ℕ) → (mark_at marks y).level ≡ 0 → y < length marks → n < m.level → Grows marks (set marks y m) n
Grows-found marks y m n fresh y_in higher = record {
  kept = λ z more. get_or-set_other marks y z m no_mark (λ e. absurd (omega (arith, fresh, more, ap (λ k. (mark_at marks k).level) e)));
  later = λ z none more. elim (eqb_tells z y) [
    | inl e ↦ rw (e.1, get_or-set_same marks y m no_mark y_in) higher
    | inr ne ↦ absurd (omega (arith, none, rw (get_or-set_other marks y z m no_mark ne.1) at more))
  ];
}

pub IsVisiting-start : (g : Network) (es : List Edge) (fs : List ℤ) (s : Search) (row : List ℕ) (x : ℕ) → IsLooking g es fs s row x → IsVisiting g es fs s row x 0 s.marks.items s.queue.items
IsVisiting-start g es fs s row x look = record {
  searching = rw look.edges look.running.searching;
  grows = Grows-none s.marks.items (length s.queue.items);
  longer = omega arith;
  scanned = λ j lt. absurd (omega arith);
}

-- an edge that leads to a node that is reached, or has no room
pub IsVisiting-skip : (g : Network) (es : List Edge) (fs : List ℤ) (s : Search) (row : List ℕ) (x k : ℕ) (marks : List Mark) (queue : List ℕ) →
    IsVisiting g es fs s row x k marks queue → IsScanned es fs marks x (get_or row k 0) → IsVisiting g es fs s row x (k + 1) marks queue
IsVisiting-skip g es fs s row x k marks queue is here = record {
  searching = is.searching;
  grows = is.grows;
  longer = is.longer;
  scanned = below_more (λ j. IsScanned es fs marks x (get_or row j 0)) k is.scanned here;
}

-- an edge that leads to a new node
pub IsVisiting-found : (g : Network) (es : List Edge) (fs : List ℤ) (s : Search) (row : List ℕ) (x k i width : ℕ) (marks : List Mark) (queue : List ℕ) →
    IsLooking g es fs s row x → IsVisiting g es fs s row x k marks queue → i ≡ get_or row k 0 → i < length es → IsEnd (edge_at es i) x →
    (mark_at marks (other (edge_at es i) x)).level ≡ 0 →
    0 < width → width ≤ (mark_at s.marks.items x).width → pos width ≤ℤ room (edge_at es i) (amount_at fs i) (other (edge_at es i) x) →
    IsVisiting g es fs s row x (k + 1) (set marks (other (edge_at es i) x) (record { level = length queue + 1; edge = i; width = width })) (queue ++ other (edge_at es i) x ∷ [])
IsVisiting-found g es fs s row x k i width marks queue look is at i_in end fresh wide narrows has_room =
    let y = other (edge_at es i) x in
    let m : Mark = record { level = length queue + 1; edge = i; width = width } in
    let new : List Mark = set marks y m in
    let edge = look.edges_fit i no_edge i_in in
    let from = look.is_reached in
    let y_in = other_in g.nodes (edge_at es i) x edge in
    let x_same = is.grows.kept x from in
    let grows = Grows-found marks y m (length queue) fresh (omega (arith, y_in, is.searching.search.has_nodes)) (omega arith) in
    let y_at : 0 < (mark_at new y).level = rw (get_or-set_same marks y m no_mark (omega (arith, y_in, is.searching.search.has_nodes))) (omega arith) in
    record {
      searching = IsSearching-found g.nodes es fs s.start (limit_of s) marks queue x y i width is.searching look.fits i_in edge.apart (IsEnd-other (edge_at es i) x) (other-other (edge_at es i) x edge.apart end)
          y_in (rw x_same from) fresh wide (rw x_same narrows) has_room;
      grows = Grows-more s.marks.items marks new (length s.queue.items) (length queue) is.longer is.grows grows;
      longer = omega (arith, length-append queue (y ∷ []), is.longer);
      scanned = below_more (λ j. IsScanned es fs new x (get_or row j 0)) k
          (λ j lt. IsScanned-grows es fs marks new (length queue) x (get_or row j 0) grows (is.scanned j lt))
          (rw (sym at) (λ e more. y_at));
    }

pub Grows-level : (old marks : List Mark) (n x : ℕ) → Grows old marks n → 0 < (mark_at old x).level → 0 < (mark_at marks x).level
Grows-level old marks n x grows is = rw (grows.kept x is) is

-- a new node that the search across has not reached
pub IsApart-found : (marks across new : List Mark) (y : ℕ) (m : Mark) → new ≡ set marks y m → IsApart marks across → (mark_at across y).level ≡ 0 → IsApart new across
IsApart-found marks across new y m is was free = record {
  same_nodes = rw is (was.same_nodes ∙ sym (length-set marks y m));
  apart = λ z more. elim (eqb_tells z y) [
    | inl e ↦ rw e.1 free
    | inr ne ↦ was.apart z (rw (is, get_or-set_other marks y z m no_mark ne.1) at more)
  ];
}

pub IsApart-sym : (marks across : List Mark) → IsApart marks across → IsApart across marks
IsApart-sym marks across is = record {
  same_nodes = sym is.same_nodes;
  apart = λ y more. level_cases (mark_at marks y).level (λ none. none) (λ got. absurd (omega (arith, is.apart y got, more)));
}
