-- The search as a whole.
use Rattle.std.proofs.Common.{◌≡◌, ◌≢◌, ℕ, ◌+◌, ◌<◌, ◌≤◌, ◌==◌, Bool, true, false, if◌then◌else◌, List, [], ◌∷◌, length, get_or, set, replicate, get_or-set_other, get_or-set_same, length-set, ℤ, pos, ◌+ℤ◌, ◌-ℤ◌, ◌≤ℤ◌, ◌<ℤ◌, neg_ℤ, refl, arith, All, sym, ◌∙◌, ap, inl, inr, cond}
use Rattle.std.proofs.lemmas.Int.{ints, by_lt_z}
use Rattle.std.proofs.lemmas.Bool.Decides.{nat_tests, eqb_tells, leb_tells}
use Rattle.std.proofs.lemmas.List.Elements.{All-contains}
use Rattle.std.proofs.lemmas.List.Folds.{sum_by-replicate}
use Rattle.std.proofs.lemmas.List.Sums.{sum_by-set}
use Rattle.std.proofs.lemmas.List.{get_or-replicate, get_or_default, length-replicate, ext_get_or}
use Rattle.std.proofs.Math.ListN.{get_or-eq_default}
use Rattle.std.specs.List.{AllZip}
use Rattle.st_flow.specs.declared.edge.Edge.{Edge}
use Rattle.st_flow.specs.declared.search.Mark.{Mark}
use Rattle.st_flow.specs.declared.search.Search.{Search}
use Rattle.st_flow.specs.Network.{Network, IsEdge, FitsEdge}
use Rattle.st_flow.specs.Residual.{other, room, no_edge, edge_at, amount_at, IsFull, IsClosed}
use Rattle.st_flow.specs.Search.{no_mark, mark_at, reached, limit_of, IsSearching, IsRunning, IsScanned, Grows, Runs, IsFurther}
use Rattle.st_flow.specs.Rows.{IsRow}
use Rattle.st_flow.proofs.Closed.{AllZip-at, AllZip-length, AllZip-from}
use Rattle.st_flow.proofs.SearchLemmas.{IsLooking, IsVisiting, IsScanned-grows, level_cases}

pub IsRunning-next : (nodes : ℕ) (es : List Edge) (fs : List ℤ) (a limit next x : ℕ) (marks : List Mark) (queue : List ℕ) (new : List Mark) (new_queue row : List ℕ) →
    IsRunning nodes es fs a limit next marks queue → next < length queue → x ≡ get_or queue next 0 →
    IsSearching nodes es fs a limit new new_queue → Grows marks new (length queue) → IsRow es x row → All (IsScanned es fs new x) row →
    IsRunning nodes es fs a limit (next + 1) new new_queue
IsRunning-next nodes es fs a limit next x marks queue new new_queue row is lt at searching grows rows scanned = record {
  searching = searching;
  done = λ y more le i i_in. level_cases (mark_at marks y).level
      (λ none. absurd (omega (arith, le, lt, grows.later y none more)))
      (λ was.
      let same = ap (λ m. m.level) (grows.kept y was) in
      elim (eqb_tells (mark_at marks y).level (next + 1)) [
        | inl e ↦
            let y_is_x : y ≡ x = sym (is.searching.is_at y was) ∙ (ap (λ k. get_or queue k 0) (omega (arith, e.1)) ∙ sym at) in
            λ end. rw y_is_x (All-contains (IsScanned es fs new x) row i scanned (rows.complete i i_in (rw y_is_x at end)) (rw y_is_x at end))
        | inr ne ↦ IsScanned-grows es fs marks new (length queue) y i grows (is.done y was (omega (arith, le, same, ne.1)) i i_in)
      ]);
}

-- an edge that is scanned from the ends that are reached is full
full_from : (in_u in_v : Bool) (f : ℤ) (capacity : ℕ) → neg_ℤ (pos capacity) ≤ℤ f → f ≤ℤ pos capacity →
    (in_u ≡ true → pos 0 <ℤ (pos capacity -ℤ f) → in_v ≡ true) → (in_v ≡ true → pos 0 <ℤ (pos capacity +ℤ f) → in_u ≡ true) →
    ((if in_u then f else pos 0) -ℤ (if in_v then f else pos 0)) ≡ pos (if in_u then (if in_v then 0 else capacity) else (if in_v then capacity else 0))
full_from true true f capacity low high from_u from_v = omega (arith, ints)
full_from true false f capacity low high from_u from_v =
    by_lt_z (pos 0) (pos capacity -ℤ f) (λ lt. let no = from_u refl lt in cc) (λ le. omega (arith, ints))
full_from false true f capacity low high from_u from_v =
    by_lt_z (pos 0) (pos capacity +ℤ f) (λ lt. let no = from_v refl lt in cc) (λ le. omega (arith, ints))
full_from false false f capacity low high from_u from_v = omega (arith, ints)

other-u : (e : Edge) → e.u ≢ e.v → other e e.u ≡ e.v
other-u e apart = elim (eqb_tells e.v e.u) [ inl is ↦ absurd (apart (sym is.1)) | inr is ↦ rw is.0 ]

other-v : (e : Edge) → other e e.v ≡ e.u
other-v e = elim (eqb_tells e.v e.v) [ inl is ↦ rw is.0 | inr is ↦ absurd (is.1 refl) ]

room-u : (e : Edge) (f : ℤ) → e.u ≢ e.v → room e f e.u ≡ pos e.capacity +ℤ f
room-u e f apart = elim (eqb_tells e.v e.u) [ inl is ↦ absurd (apart (sym is.1)) | inr is ↦ rw is.0 ]

room-v : (e : Edge) (f : ℤ) → room e f e.v ≡ pos e.capacity -ℤ f
room-v e f = elim (eqb_tells e.v e.v) [ inl is ↦ rw is.0 | inr is ↦ absurd (is.1 refl) ]

pub reached_level : (marks : List Mark) (y : ℕ) → reached marks y ≡ true → 0 < (mark_at marks y).level
reached_level marks y is = grind (arith, nat_tests)

pub level_reached : (marks : List Mark) (y : ℕ) → 0 < (mark_at marks y).level → reached marks y ≡ true
level_reached marks y is = grind (arith, nat_tests)

pub level_unreached : (marks : List Mark) (y : ℕ) → (mark_at marks y).level ≡ 0 → reached marks y ≡ false
level_unreached marks y is = grind (arith, nat_tests)

pub past_end : (marks : List Mark) (y : ℕ) → length marks ≤ y → (mark_at marks y).level ≡ 0
past_end marks y past = ap (λ m. m.level) (get_or-eq_default marks no_mark past)

-- once there is nothing more to look at, no edge has room out of what was reached
pub IsRunning-closed : (nodes : ℕ) (es : List Edge) (fs : List ℤ) (a limit next : ℕ) (marks : List Mark) (queue : List ℕ) →
    IsRunning nodes es fs a limit next marks queue → length queue ≤ next → All (IsEdge nodes) es → AllZip FitsEdge es fs → IsClosed es fs (reached marks)
IsRunning-closed nodes es fs a limit next marks queue is end edges fits =
    AllZip-from (IsFull (reached marks)) es fs no_edge (pos 0) (AllZip-length FitsEdge es fs fits) (λ i lt.
    let e = edge_at es i in
    let f = amount_at fs i in
    let fit = AllZip-at FitsEdge es fs i no_edge (pos 0) fits lt in
    let apart = (edges i no_edge lt).apart in
    full_from (reached marks e.u) (reached marks e.v) f e.capacity fit.low fit.high
    (λ r more.
    let at_u = reached_level marks e.u r in
    let v_at = rw (other-u e apart, room-v e f) at (is.done e.u at_u (omega (arith, is.searching.placed e.u at_u)) i lt) in
    level_reached marks e.v (v_at (inl refl) more))
    (λ r more.
    let at_v = reached_level marks e.v r in
    let u_at = rw (other-v e, room-u e f apart) at (is.done e.v at_v (omega (arith, is.searching.placed e.v at_v)) i lt) in
    level_reached marks e.u (u_at (inr refl) more)))

no_mark-replicate : (n y : ℕ) → mark_at (replicate n no_mark) y ≡ no_mark
no_mark-replicate n y = elim (leb_tells n y) [
  | inl past ↦ get_or-eq_default (replicate n no_mark) no_mark (omega (arith, past.1, length-replicate n no_mark))
  | inr here ↦ get_or-replicate n y no_mark no_mark here.1
]

-- the start
pub IsRunning-start : (nodes : ℕ) (es : List Edge) (fs : List ℤ) (a limit : ℕ) → a < nodes → 0 < limit →
    IsRunning nodes es fs a limit 0 (set (replicate nodes no_mark) a (record { level = 1; edge = 0; width = limit })) (a ∷ [])
IsRunning-start nodes es fs a limit a_in more =
    let m : Mark = record { level = 1; edge = 0; width = limit } in
    let marks : List Mark = set (replicate nodes no_mark) a m in
    let a_at : a < length (replicate nodes no_mark) = omega (arith, length-replicate nodes no_mark) in
    let here : mark_at marks a ≡ m = get_or-set_same (replicate nodes no_mark) a m no_mark a_at in
    let elsewhere : (y : ℕ) → y ≢ a → mark_at marks y ≡ no_mark = λ y ne. get_or-set_other (replicate nodes no_mark) a y m no_mark ne ∙ no_mark-replicate nodes y in
    let only : (y : ℕ) → 0 < (mark_at marks y).level → y ≡ a = λ y got. elim (eqb_tells y a) [ inl e ↦ e.1 | inr ne ↦ absurd (omega (arith, got, ap (λ k. k.level) (elsewhere y ne.1))) ] in
    let level : (mark_at marks a).level ≡ 1 = ap (λ k. k.level) here in
    record {
      searching = record {
        search = record {
          has_nodes = length-set (replicate nodes no_mark) a m ∙ length-replicate nodes no_mark;
          starts = omega (arith, level);
          start_width = ap (λ k. k.width) here;
          steps = λ y got not_a. absurd (not_a (only y got));
          wide = λ y got. rw (only y got, here) more;
          within = λ y. elim (eqb_tells y a) [ inl e ↦ rw (e.1, here) (omega arith) | inr ne ↦ rw (elsewhere y ne.1) (omega arith) ];
          inmost = λ s s_a closed y got. rw (only y got) s_a;
        };
        placed = λ y got. rw (only y got, here) (omega arith);
        is_at = λ y got. rw (only y got, here) refl;
        listed = λ k lt. let z : k ≡ 0 = omega (arith, lt) in rw (z, here) (omega arith);
        counted =
            let sums = sum_by-set (λ (n : Mark). cond (n.level == 0) 1 0) (replicate nodes no_mark) a m no_mark a_at in
            let was = rw (no_mark-replicate nodes a, sum_by-replicate (λ (n : Mark). cond (n.level == 0) 1 0) nodes no_mark) at sums in
            omega (arith, was);
      };
      done = λ y got le. absurd (omega (arith, le, got));
    }

-- marks that are all blank
pub blank_marks : (marks : List Mark) (n : ℕ) → length marks ≡ n → ((y : ℕ) → y < n → mark_at marks y ≡ no_mark) → marks ≡ replicate n no_mark
blank_marks marks n same blank =
    ext_get_or no_mark marks (replicate n no_mark) (same ∙ sym (length-replicate n no_mark)) (λ y lt. blank y (omega (arith, lt, same)) ∙ sym (no_mark-replicate n y))

-- a search that was just begun, as the code keeps it
pub Runs-start : (g : Network) (fs : List ℤ) (s : Search) (limit : ℕ) → s.start < g.nodes → 0 < limit → s.next ≡ 0 →
    s.marks.items ≡ set (replicate g.nodes no_mark) s.start (record { level = 1; edge = 0; width = limit }) → s.queue.items ≡ s.start ∷ [] → Runs g fs s
Runs-start g fs s limit start_in wide next marks queue =
    let is = IsRunning-start g.nodes g.edges fs s.start limit start_in wide in
    let limit_is : limit_of s ≡ limit = ap (λ ms. (mark_at ms s.start).width) marks ∙ is.searching.search.start_width in
    rw (limit_is, next, marks, queue) is

-- the next node of a queue is reached
pub Runs-node : (g : Network) (fs : List ℤ) (s : Search) (x : ℕ) → Runs g fs s → s.next < length s.queue.items → x ≡ get_or s.queue.items s.next 0 → 0 < (mark_at s.marks.items x).level
Runs-node g fs s x is lt at = rw at (is.searching.listed s.next lt)

-- a search that stops while it looks from a node goes on from there
pub Runs-kept : (g : Network) (es : List Edge) (fs : List ℤ) (s : Search) (row : List ℕ) (x k start next : ℕ) (new : List Mark) (new_queue : List ℕ) →
    IsLooking g es fs s row x → IsVisiting g es fs s row x k new new_queue → start ≡ s.start → next ≡ s.next →
    IsRunning g.nodes g.edges fs start (mark_at new start).width next new new_queue
Runs-kept g es fs s row x k start next new new_queue look is same same_next =
    let was = look.running in
    let old = s.marks.items in
    let run : IsRunning g.nodes g.edges fs s.start (limit_of s) s.next new new_queue = record {
      searching = rw look.edges at is.searching;
      done = λ y more le i i_in. level_cases (mark_at old y).level
          (λ none. absurd (omega (arith, le, look.waiting, is.grows.later y none more)))
          (λ got. IsScanned-grows g.edges fs old new (length s.queue.items) y i is.grows (was.done y got (omega (arith, le, ap (λ m. m.level) (is.grows.kept y got))) i i_in));
    } in
    rw (same, is.searching.search.start_width, same_next) run

-- once it has looked along all edges of a node
pub Runs-next : (g : Network) (es : List Edge) (fs : List ℤ) (s : Search) (row : List ℕ) (x k start next : ℕ) (new : List Mark) (new_queue : List ℕ) →
    IsLooking g es fs s row x → IsVisiting g es fs s row x k new new_queue → length row ≤ k → start ≡ s.start → next ≡ s.next →
    IsRunning g.nodes g.edges fs start (mark_at new start).width (next + 1) new new_queue
Runs-next g es fs s row x k start next new new_queue look is end same same_next =
    let scanned : All (IsScanned es fs new x) row = λ j d lt. rw (get_or_default row j d 0 lt) (is.scanned j (omega (arith, lt, end))) in
    let was : IsRunning g.nodes es fs s.start (limit_of s) s.next s.marks.items s.queue.items = rw look.edges look.running in
    let run = rw look.edges at (IsRunning-next g.nodes es fs s.start (limit_of s) s.next x s.marks.items s.queue.items new new_queue row was look.waiting look.node is.searching is.grows look.rows scanned) in
    rw (same, is.searching.search.start_width, same_next) run

pub IsFurther-more : (one two three : Search) → IsFurther one two → IsFurther two three → IsFurther one three
IsFurther-more one two three first next = record { start = next.start ∙ first.start; limit = next.limit ∙ first.limit }

-- a search that looks along the edges of one node was begun at the same start, for as much
pub IsVisiting-further : (g : Network) (es : List Edge) (fs : List ℤ) (old now : Search) (row : List ℕ) (x i : ℕ) (marks : List Mark) (queue : List ℕ) →
    now.start ≡ old.start → now.marks.items ≡ marks → IsVisiting g es fs old row x i marks queue → IsFurther old now
IsVisiting-further g es fs old now row x i marks queue start same visiting = record {
  start = start;
  limit = ap (λ n. (mark_at now.marks.items n).width) start ∙ (ap (λ ms. (mark_at ms old.start).width) same ∙ visiting.searching.search.start_width);
}
