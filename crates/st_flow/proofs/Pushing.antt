-- Pushing more along one edge.
use Rattle.std.proofs.Common.{◌≡◌, ◌≢◌, ℕ, ◌<◌, ◌≤◌, ◌==◌, suc, zero, Bool, true, false, if◌then◌else◌, List, [], ◌∷◌, length, get_or, set, get_or-set_other, ℤ, pos, ◌+ℤ◌, ◌-ℤ◌, ◌≤ℤ◌, neg_ℤ, refl, arith, ◌∙◌, ap, inl, inr}
use Rattle.std.proofs.lemmas.Int.{ints}
use Rattle.std.proofs.lemmas.Bool.Decides.{eqb_tells}
use Rattle.std.specs.List.{AllZip}
use Rattle.st_flow.specs.declared.edge.Edge.{Edge}
use Rattle.st_flow.specs.declared.search.Mark.{Mark}
use Rattle.st_flow.specs.Network.{part_out, net_out, FitsEdge}
use Rattle.st_flow.proofs.Closed.{AllZip-at, AllZip-length}
use Rattle.st_flow.specs.Residual.{other, room, pushed, IsEnd, no_edge, edge_at, amount_at, only_if}
use Rattle.st_flow.specs.Search.{mark_at, before, IsStep, IsOutside}

pushed_out : (in_u in_v v_is : Bool) (f d : ℤ) → ((if in_u then (if v_is then f +ℤ d else f -ℤ d) else pos 0) -ℤ (if in_v then (if v_is then f +ℤ d else f -ℤ d) else pos 0)) +ℤ only_if (if v_is then in_v else in_u) d ≡ ((if in_u then f else pos 0) -ℤ (if in_v then f else pos 0)) +ℤ only_if (if v_is then in_u else in_v) d
pushed_out true true true f d = omega (arith, ints)
pushed_out true true false f d = omega (arith, ints)
pushed_out true false true f d = omega (arith, ints)
pushed_out true false false f d = omega (arith, ints)
pushed_out false true true f d = omega (arith, ints)
pushed_out false true false f d = omega (arith, ints)
pushed_out false false true f d = omega (arith, ints)
pushed_out false false false f d = omega (arith, ints)

-- with d more into y, as much more leaves each set that has the other end, and less each set that has y
pub part_out-pushed : (e : Edge) (f d : ℤ) (y : ℕ) (s : ℕ → Bool) → IsEnd e y → part_out e (pushed e f y d) s +ℤ only_if (s y) d ≡ part_out e f s +ℤ only_if (s (other e y)) d
part_out-pushed e f d y s end =
    elim (eqb_tells e.v y) [
      | inl is ↦ rw (is.0, ← is.1) (pushed_out (s e.u) (s e.v) true f d)
      | inr is ↦ elim end [
        | inl at_u ↦ rw (is.0, ← at_u) (pushed_out (s e.u) (s e.v) false f d)
        | inr at_v ↦ absurd (is.1 at_v)
      ]
    ]

-- one edge's amount written
pub net_out-set : (es : List Edge) (fs : List ℤ) (i : ℕ) (z : ℤ) (s : ℕ → Bool) → length fs ≡ length es → i < length es → net_out es (set fs i z) s +ℤ part_out (edge_at es i) (amount_at fs i) s ≡ net_out es fs s +ℤ part_out (edge_at es i) z s
net_out-set [] fs i z s same lt = absurd (omega arith)
net_out-set (e ∷ es) [] i z s same lt = absurd (omega arith)
net_out-set (e ∷ es) (f ∷ fs) zero z s same lt = omega (arith, ints)
net_out-set (e ∷ es) (f ∷ fs) (suc i) z s same lt = let r = net_out-set es fs i z s (omega arith) (omega arith) in omega (arith, ints)

pub AllZip-set : {A B : Type 0} (R : A → B → Type 0) (xs : List A) (ys : List B) (i : ℕ) (x : A) (z : B) → AllZip R xs ys → (i < length xs → R (get_or xs i x) z) → AllZip R xs (set ys i z)
AllZip-set R [] [] i x z h here = tt
AllZip-set R [] (q ∷ ys) i x z h here = absurd h
AllZip-set R (p ∷ xs) [] i x z h here = absurd h
AllZip-set R (p ∷ xs) (q ∷ ys) zero x z h here = (here (omega arith), h.1)
AllZip-set R (p ∷ xs) (q ∷ ys) (suc i) x z h here = (h.0, AllZip-set R xs ys i x z h.1 (λ lt. here (omega arith)))

fits_at : (v_is : Bool) (f d : ℤ) (capacity : ℕ) → neg_ℤ (pos capacity) ≤ℤ f → f ≤ℤ pos capacity → pos 0 ≤ℤ d → d ≤ℤ (if v_is then pos capacity -ℤ f else pos capacity +ℤ f) → (neg_ℤ (pos capacity) ≤ℤ (if v_is then f +ℤ d else f -ℤ d)) × ((if v_is then f +ℤ d else f -ℤ d) ≤ℤ pos capacity)
fits_at true f d capacity low high more le = (omega (arith, ints), omega (arith, ints))
fits_at false f d capacity low high more le = (omega (arith, ints), omega (arith, ints))

-- within the room, the amount still fits
pub FitsEdge-pushed : (e : Edge) (f d : ℤ) (y : ℕ) → FitsEdge e f → pos 0 ≤ℤ d → d ≤ℤ room e f y → FitsEdge e (pushed e f y d)
FitsEdge-pushed e f d y fits more le =
    let r = fits_at (e.v == y) f d e.capacity fits.low fits.high more le in record { low = r.0; high = r.1 }

-- on the way back from b, with what more went into each node after y
pub record IsPushing (es : List Edge) (fs gs : List ℤ) (marks : List Mark) (b y more : ℕ) : Type 0 where
  pub fits : AllZip FitsEdge es gs
  pub moved : (s : ℕ → Bool) → net_out es gs s +ℤ only_if (s b) (pos more) ≡ net_out es fs s +ℤ only_if (s y) (pos more)
  -- edges between nodes that are no higher than y are as they were
  pub kept : (i : ℕ) → (mark_at marks (edge_at es i).u).level ≤ (mark_at marks y).level → (mark_at marks (edge_at es i).v).level ≤ (mark_at marks y).level → amount_at gs i ≡ amount_at fs i
  -- and so is each edge with an end that was not reached
  pub outside : (i : ℕ) → IsOutside es marks i → amount_at gs i ≡ amount_at fs i
  pub in_range : y < length marks
  pub is_reached : 0 < (mark_at marks y).level
  pub is_wide : more ≤ (mark_at marks y).width

-- a node with a level is in range
pub reached_in_range : (marks : List Mark) (y : ℕ) → 0 < (mark_at marks y).level → y < length marks
reached_in_range [] y h = absurd (omega arith)
reached_in_range (m ∷ marks) zero h = omega arith
reached_in_range (m ∷ marks) (suc y) h = let r = reached_in_range marks y h in omega arith

pub IsPushing-start : (es : List Edge) (fs : List ℤ) (marks : List Mark) (b more : ℕ) → AllZip FitsEdge es fs → 0 < (mark_at marks b).level → more ≤ (mark_at marks b).width → IsPushing es fs fs marks b b more
IsPushing-start es fs marks b more fits is wide = record {
  fits = fits;
  moved = λ s. refl;
  kept = λ i u v. refl;
  outside = λ i out. refl;
  in_range = reached_in_range marks b is;
  is_reached = is;
  is_wide = wide;
}

-- both ends of an edge between reached nodes are reached
ends_reached : (e : Edge) (y : ℕ) (level : ℕ → ℕ) → IsEnd e y → 0 < level y → 0 < level (other e y) → (0 < level e.u) × (0 < level e.v)
ends_reached e y level end here there = elim (eqb_tells e.v y) [
  | inl is ↦ let f = rw is.0 at there in (omega arith, omega (arith, ap level is.1))
  | inr is ↦ let f = rw is.0 at there in elim end [ inl at_u ↦ (omega (arith, ap level at_u), omega arith) | inr at_v ↦ absurd (is.1 at_v) ]
]

-- the levels of the ends of an edge that leads down to y
ends_below : (e : Edge) (y : ℕ) (level : ℕ → ℕ) → IsEnd e y → level (other e y) < level y → (level e.u ≤ level y) × (level e.v ≤ level y)
ends_below e y level end falls = elim (eqb_tells e.v y) [
  | inl is ↦ let f = rw is.0 at falls in (omega arith, omega (arith, ap level is.1))
  | inr is ↦ let f = rw is.0 at falls in elim end [ inl at_u ↦ (omega (arith, ap level at_u), omega arith) | inr at_v ↦ absurd (is.1 at_v) ]
]

-- the edge at y's mark is as it was
pub IsPushing-kept : (es : List Edge) (fs gs : List ℤ) (marks : List Mark) (b y more : ℕ) → IsPushing es fs gs marks b y more → IsStep es fs marks y → amount_at gs (mark_at marks y).edge ≡ amount_at fs (mark_at marks y).edge
IsPushing-kept es fs gs marks b y more p step =
    let ends = ends_below (edge_at es (mark_at marks y).edge) y (λ x. (mark_at marks x).level) step.is_end step.falls in
    p.kept (mark_at marks y).edge ends.0 ends.1

-- what is pushed is within the room of the edge at y's mark
pub IsPushing-room : (es : List Edge) (fs gs : List ℤ) (marks : List Mark) (b y more : ℕ) → IsPushing es fs gs marks b y more → IsStep es fs marks y →
    pos more ≤ℤ room (edge_at es (mark_at marks y).edge) (amount_at gs (mark_at marks y).edge) y
IsPushing-room es fs gs marks b y more p step =
    let same = IsPushing-kept es fs gs marks b y more p step in
    let wide : pos more ≤ℤ room (edge_at es (mark_at marks y).edge) (amount_at fs (mark_at marks y).edge) y = omega (arith, ints, step.has_room, p.is_wide) in
    rw same wide

-- an end is no higher than the higher of the two ends
ends_above : (e : Edge) (y : ℕ) (level : ℕ → ℕ) (n : ℕ) → IsEnd e y → level e.u ≤ n → level e.v ≤ n → level y ≤ n
ends_above e y level n end u v = elim end [ inl at_u ↦ omega (arith, ap level at_u) | inr at_v ↦ omega (arith, ap level at_v) ]

-- the next step back
pub IsPushing-next : (es : List Edge) (fs gs : List ℤ) (marks : List Mark) (b y more : ℕ) → IsPushing es fs gs marks b y more → IsStep es fs marks y →
    IsPushing es fs (set gs (mark_at marks y).edge (pushed (edge_at es (mark_at marks y).edge) (amount_at gs (mark_at marks y).edge) y (pos more))) marks b (before es marks y) more
IsPushing-next es fs gs marks b y more p step =
    let i = (mark_at marks y).edge in
    let e = edge_at es i in
    let same = IsPushing-kept es fs gs marks b y more p step in
    let wide = IsPushing-room es fs gs marks b y more p step in
    let len = AllZip-length FitsEdge es gs p.fits in
    let x = before es marks y in
    record {
      fits = AllZip-set FitsEdge es gs i no_edge (pushed e (amount_at gs i) y (pos more)) p.fits
          (λ lt. FitsEdge-pushed e (amount_at gs i) (pos more) y (AllZip-at FitsEdge es gs i no_edge (pos 0) p.fits lt) (omega (arith, ints)) wide);
      moved = λ s.
          let one = net_out-set es gs i (pushed e (amount_at gs i) y (pos more)) s len step.edge_in in
          let two = part_out-pushed e (amount_at gs i) (pos more) y s step.is_end in
          let three = p.moved s in
          omega (arith, ints);
      kept = λ j u v.
          let ne : j ≢ i = λ is. absurd (omega (
            arith,
            step.falls,
            ends_above e y (λ z. (mark_at marks z).level) (mark_at marks x).level step.is_end
                (omega (arith, u, ap (λ k. (mark_at marks (edge_at es k).u).level) is)) (omega (arith, v, ap (λ k. (mark_at marks (edge_at es k).v).level) is)),
          )) in
          get_or-set_other gs i j (pushed e (amount_at gs i) y (pos more)) (pos 0) ne ∙ p.kept j (omega (arith, u, step.falls)) (omega (arith, v, step.falls));
      outside = λ j out.
          let both = ends_reached e y (λ z. (mark_at marks z).level) step.is_end p.is_reached step.from_reached in
          let ne : j ≢ i = λ is. elim out [
            | inl u ↦ absurd (omega (arith, both.0, u, ap (λ k. (mark_at marks (edge_at es k).u).level) is))
            | inr v ↦ absurd (omega (arith, both.1, v, ap (λ k. (mark_at marks (edge_at es k).v).level) is))
          ] in
          get_or-set_other gs i j (pushed e (amount_at gs i) y (pos more)) (pos 0) ne ∙ p.outside j out;
      in_range = reached_in_range marks x step.from_reached;
      is_reached = step.from_reached;
      is_wide = omega (arith, p.is_wide, step.narrows);
    }
