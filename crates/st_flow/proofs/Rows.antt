-- The rows of a network: the edges at each node.
use Rattle.std.proofs.Common.{◌≡◌, ◌≢◌, ℕ, ◌<◌, ◌≤◌, suc, zero, List, [], ◌∷◌, ◌++◌, length, get_or, set, length-append, length-set, Vec, Bool, ◌+◌, ◌==◌, All, take, ℤ, pos, ◌+ℤ◌, subst, refl, arith, sym, ◌∙◌, ap, inl, inr}
use Rattle.std.specs.declared.alloc.Global.{Global}
use Rattle.std.proofs.Math.Seq.{get_or-append_seam}
use Rattle.std.proofs.lemmas.List.{get_or_append_left, take_all, length-take}
use Rattle.std.proofs.lemmas.Grind.{take_at_read}
use Rattle.std.proofs.lemmas.Int.{ints}
use Rattle.std.proofs.lemmas.List.Elements.{All-head, All-tail, All-push, Contains-push, Contains-append_left}
use Rattle.std.proofs.lemmas.Bool.Decides.{eqb_tells, leb_tells}
use Rattle.st_flow.specs.declared.edge.Edge.{Edge}
use Rattle.st_flow.specs.Network.{Network, IsEdge, part_out, net_out, net_out_of}
use Rattle.st_flow.specs.Residual.{IsEnd, no_edge, edge_at, amount_at}
use Rattle.st_flow.specs.Rows.{row_at, row_out, IsRow, AreRows, IsGraph}

pub row_at-read : (rows : List (Vec ℕ Global)) (x : ℕ) (row : Vec ℕ Global) → x < length rows → row ≡ get_or rows x row → row_at rows x ≡ row.items
row_at-read [] x row lt is = absurd (omega arith)
row_at-read (r ∷ rows) zero row lt is = ap (λ (v : Vec ℕ Global). v.items) (sym is)
row_at-read (r ∷ rows) (suc x) row lt is = row_at-read rows x row (omega arith) is

pub row_at-set_same : (rows : List (Vec ℕ Global)) (x : ℕ) (row : Vec ℕ Global) → x < length rows → row_at (set rows x row) x ≡ row.items
row_at-set_same [] x row lt = absurd (omega arith)
row_at-set_same (r ∷ rows) zero row lt = refl
row_at-set_same (r ∷ rows) (suc x) row lt = row_at-set_same rows x row (omega arith)

pub row_at-set_other : (rows : List (Vec ℕ Global)) (x y : ℕ) (row : Vec ℕ Global) → y ≢ x → row_at (set rows x row) y ≡ row_at rows y
row_at-set_other [] x y row ne = refl
row_at-set_other (r ∷ rows) zero zero row ne = absurd (ne refl)
row_at-set_other (r ∷ rows) zero (suc y) row ne = refl
row_at-set_other (r ∷ rows) (suc x) zero row ne = refl
row_at-set_other (r ∷ rows) (suc x) (suc y) row ne = row_at-set_other rows x y row (λ e. ne (ap suc e))

-- a row whose numbers stay changes nothing
pub row_at-set_kept : (rows : List (Vec ℕ Global)) (x y : ℕ) (row : Vec ℕ Global) → row.items ≡ row_at rows x → row_at (set rows x row) y ≡ row_at rows y
row_at-set_kept [] x y row same = refl
row_at-set_kept (r ∷ rows) zero zero row same = same
row_at-set_kept (r ∷ rows) zero (suc y) row same = refl
row_at-set_kept (r ∷ rows) (suc x) zero row same = refl
row_at-set_kept (r ∷ rows) (suc x) (suc y) row same = row_at-set_kept rows x y row same

pub IsGraph-kept : (rows : List (Vec ℕ Global)) (es : List Edge) (x : ℕ) (row : Vec ℕ Global) → IsGraph rows es → row.items ≡ row_at rows x → IsGraph (set rows x row) es
IsGraph-kept rows es x row is same =
    let len = length-set rows x row in
    record {
      few_nodes = omega (arith, is.few_nodes, len);
      few_edges = is.few_edges;
      edges_fit = rw len is.edges_fit;
      rows_fit = λ y lt. rw (row_at-set_kept rows x y row same) (is.rows_fit y (omega (arith, lt, len)));
    }

edge_at-old : (es : List Edge) (e : Edge) (i : ℕ) → i < length es → edge_at (es ++ e ∷ []) i ≡ edge_at es i
edge_at-old es e i lt = get_or_append_left es (e ∷ []) no_edge i lt

edge_at-new : (es : List Edge) (e : Edge) → edge_at (es ++ e ∷ []) (length es) ≡ e
edge_at-new es e = get_or-append_seam es e [] no_edge

-- sums with an edge more
net_out-push : (es : List Edge) (fs : List ℤ) (e : Edge) (f : ℤ) (s : ℕ → Bool) → length fs ≡ length es → net_out (es ++ e ∷ []) (fs ++ f ∷ []) s ≡ net_out es fs s +ℤ part_out e f s
net_out-push [] [] e f s same = omega (arith, ints)
net_out-push [] (g ∷ fs) e f s same = absurd (omega arith)
net_out-push (d ∷ es) [] e f s same = absurd (omega arith)
net_out-push (d ∷ es) (g ∷ fs) e f s same = let r = net_out-push es fs e f s (omega arith) in omega (arith, ints)

pub row_out-push : (es : List Edge) (fs : List ℤ) (x : ℕ) (row : List ℕ) (i : ℕ) → row_out es fs x (row ++ i ∷ []) ≡ row_out es fs x row +ℤ part_out (edge_at es i) (amount_at fs i) (λ y. y == x)
row_out-push es fs x [] i = omega (arith, ints)
row_out-push es fs x (j ∷ row) i = let r = row_out-push es fs x row i in omega (arith, ints)

pub row_out-more : (es : List Edge) (fs : List ℤ) (x : ℕ) (row : List ℕ) (k : ℕ) → k < length row → row_out es fs x (take (k + 1) row) ≡ row_out es fs x (take k row) +ℤ part_out (edge_at es (get_or row k 0)) (amount_at fs (get_or row k 0)) (λ y. y == x)
row_out-more es fs x row k lt = rw ((take_at_read row k 0 lt).1) (row_out-push es fs x (take k row) (get_or row k 0))

row_out-old : (es : List Edge) (fs : List ℤ) (e : Edge) (f : ℤ) (x : ℕ) (row : List ℕ) → length fs ≡ length es → All (λ i. i < length es) row → row_out (es ++ e ∷ []) (fs ++ f ∷ []) x row ≡ row_out es fs x row
row_out-old es fs e f x [] same fits = refl
row_out-old es fs e f x (i ∷ row) same fits =
    let lt = All-head (λ i. i < length es) i row fits in
    let rest = row_out-old es fs e f x row same (All-tail (λ i. i < length es) i row fits) in
    rw (edge_at-old es e i lt, get_or_append_left fs (f ∷ []) (pos 0) i (omega (arith, lt, same)), rest) refl

split_last : (fs : List ℤ) (n : ℕ) → length fs ≡ n + 1 → fs ≡ take n fs ++ get_or fs n (pos 0) ∷ []
split_last fs n same = sym (take_all (n + 1) fs (omega (arith, same))) ∙ (take_at_read fs n (pos 0) (omega (arith, same))).1

at_last : (fs : List ℤ) (f : ℤ) (n : ℕ) → length fs ≡ n → amount_at (fs ++ f ∷ []) n ≡ f
at_last fs f n len = rw (← len) (get_or-append_seam fs f [] (pos 0))

alone_none : (e : Edge) (f : ℤ) (x : ℕ) → e.u ≢ x → e.v ≢ x → part_out e f (λ y. y == x) ≡ pos 0
alone_none e f x not_u not_v = elim (eqb_tells e.u x) [
  | inl u ↦ absurd (not_u u.1)
  | inr u ↦ elim (eqb_tells e.v x) [ inl v ↦ absurd (not_v v.1) | inr v ↦ rw (u.0, v.0) refl ]
]

-- past the nodes nothing leaves
pub net_out_of-beyond : (nodes : ℕ) (es : List Edge) (fs : List ℤ) (x : ℕ) → All (IsEdge nodes) es → nodes ≤ x → net_out_of es fs x ≡ pos 0
net_out_of-beyond nodes [] fs x edges past = refl
net_out_of-beyond nodes (e ∷ es) [] x edges past = refl
net_out_of-beyond nodes (e ∷ es) (f ∷ fs) x edges past =
    let here = All-head (IsEdge nodes) e es edges in
    let rest = net_out_of-beyond nodes es fs x (All-tail (IsEdge nodes) e es edges) past in
    let none = alone_none e f x (λ is. absurd (omega (arith, here.u_in, past, is))) (λ is. absurd (omega (arith, here.v_in, past, is))) in
    omega (arith, ints, none, rest)

sums_push : (es : List Edge) (e : Edge) (x : ℕ) (row : List ℕ) (gs : List ℤ) → IsRow es x row → length gs ≡ length es + 1 → row_out (es ++ e ∷ []) gs x (row ++ length es ∷ []) ≡ net_out_of (es ++ e ∷ []) gs x
sums_push es e x row gs is gs_len =
    let n = length es in
    let fs : List ℤ = take n gs in
    let f : ℤ = get_or gs n (pos 0) in
    let fs_len : length fs ≡ n = omega (arith, length-take n gs, gs_len) in
    let one = rw (edge_at-new es e, at_last fs f n fs_len) at (row_out-push (es ++ e ∷ []) (fs ++ f ∷ []) x row n) in
    let two = row_out-old es fs e f x row fs_len (λ k d lt. (is.fits k d lt).0) in
    let three = net_out-push es fs e f (λ y. y == x) fs_len in
    let four = is.sums fs fs_len in
    let five : row_out (es ++ e ∷ []) (fs ++ f ∷ []) x (row ++ n ∷ []) ≡ net_out_of (es ++ e ∷ []) (fs ++ f ∷ []) x = omega (arith, ints, one, two, three, four) in
    subst (λ (hs : List ℤ). row_out (es ++ e ∷ []) hs x (row ++ n ∷ []) ≡ net_out_of (es ++ e ∷ []) hs x) (sym (split_last gs n gs_len)) five

sums_other : (es : List Edge) (e : Edge) (x : ℕ) (row : List ℕ) (gs : List ℤ) → IsRow es x row → e.u ≢ x → e.v ≢ x → length gs ≡ length es + 1 → row_out (es ++ e ∷ []) gs x row ≡ net_out_of (es ++ e ∷ []) gs x
sums_other es e x row gs is not_u not_v gs_len =
    let n = length es in
    let fs : List ℤ = take n gs in
    let f : ℤ = get_or gs n (pos 0) in
    let fs_len : length fs ≡ n = omega (arith, length-take n gs, gs_len) in
    let two = row_out-old es fs e f x row fs_len (λ k d lt. (is.fits k d lt).0) in
    let three = net_out-push es fs e f (λ y. y == x) fs_len in
    let four = is.sums fs fs_len in
    let none = alone_none e f x not_u not_v in
    let five : row_out (es ++ e ∷ []) (fs ++ f ∷ []) x row ≡ net_out_of (es ++ e ∷ []) (fs ++ f ∷ []) x = omega (arith, ints, two, three, four, none) in
    subst (λ (hs : List ℤ). row_out (es ++ e ∷ []) hs x row ≡ net_out_of (es ++ e ∷ []) hs x) (sym (split_last gs n gs_len)) five

-- an edge more, at this node
pub IsRow-push : (es : List Edge) (e : Edge) (x : ℕ) (row : List ℕ) → IsRow es x row → IsEnd e x → IsRow (es ++ e ∷ []) x (row ++ length es ∷ [])
IsRow-push es e x row is end =
    let len = length-append es (e ∷ []) in
    record {
      fits = All-push (λ i. (i < length (es ++ e ∷ [])) × IsEnd (edge_at (es ++ e ∷ []) i) x) row (length es)
          (λ k d lt. let f = is.fits k d lt in (omega (arith, f.0, len), rw (edge_at-old es e (get_or row k d) f.0) f.1))
          (omega (arith, len), rw (edge_at-new es e) end);
      complete = λ i lt at. elim (leb_tells (length es) i) [
        | inl past ↦ let i_is : i ≡ length es = omega (arith, past.1, lt, len) in rw i_is (Contains-push row (length es))
        | inr here ↦ Contains-append_left row (length es ∷ []) i (is.complete i here.1 (rw (edge_at-old es e i here.1) at at))
      ];
      short = omega (arith, len, length-append row (length es ∷ []), is.short);
      sums = λ gs same. sums_push es e x row gs is (omega (arith, same, len));
    }

-- an edge more, elsewhere
pub IsRow-other : (es : List Edge) (e : Edge) (x : ℕ) (row : List ℕ) → IsRow es x row → e.u ≢ x → e.v ≢ x → IsRow (es ++ e ∷ []) x row
IsRow-other es e x row is not_u not_v =
    let len = length-append es (e ∷ []) in
    record {
      fits = λ k d lt. let f = is.fits k d lt in (omega (arith, f.0, len), rw (edge_at-old es e (get_or row k d) f.0) f.1);
      complete = λ i lt at. elim (leb_tells (length es) i) [
        | inl past ↦
            let i_is : i ≡ length es = omega (arith, past.1, lt, len) in
            let new : IsEnd e x = rw (i_is, edge_at-new es e) at at in
            elim new [ inl u ↦ absurd (not_u u) | inr v ↦ absurd (not_v v) ]
        | inr here ↦ is.complete i here.1 (rw (edge_at-old es e i here.1) at at)
      ];
      short = omega (arith, len, is.short);
      sums = λ gs same. sums_other es e x row gs is not_u not_v (omega (arith, same, len));
    }

-- the rows of a network with an edge more
pub IsGraph-push : (rows new : List (Vec ℕ Global)) (es : List Edge) (e : Edge) → IsGraph rows es → length es < 4096 → IsEdge (length rows) e → length new ≡ length rows →
    row_at new e.u ≡ row_at rows e.u ++ length es ∷ [] → row_at new e.v ≡ row_at rows e.v ++ length es ∷ [] →
    ((x : ℕ) → x ≢ e.u → x ≢ e.v → row_at new x ≡ row_at rows x) → IsGraph new (es ++ e ∷ [])
IsGraph-push rows new es e is few edge same at_u at_v rest = record {
  few_nodes = omega (arith, is.few_nodes, same);
  few_edges = omega (arith, length-append es (e ∷ []), few);
  edges_fit = rw same (All-push (IsEdge (length rows)) es e is.edges_fit edge);
  rows_fit = λ x lt.
      let x_in : x < length rows = omega (arith, lt, same) in
      elim (eqb_tells x e.u) [
        | inl u ↦ rw (u.1, at_u) (IsRow-push es e e.u (row_at rows e.u) (is.rows_fit e.u edge.u_in) (inl refl))
        | inr not_u ↦ elim (eqb_tells x e.v) [
          | inl v ↦ rw (v.1, at_v) (IsRow-push es e e.v (row_at rows e.v) (is.rows_fit e.v edge.v_in) (inr refl))
          | inr not_v ↦ rw (rest x not_u.1 not_v.1) (IsRow-other es e x (row_at rows x) (is.rows_fit x x_in) (λ same_u. not_u.1 (sym same_u)) (λ same_v. not_v.1 (sym same_v)))
        ]
      ];
}

-- no edges
pub IsGraph-new : (rows : List (Vec ℕ Global)) → length rows ≤ 512 → ((x : ℕ) → row_at rows x ≡ []) → IsGraph rows []
IsGraph-new rows few none = record {
  few_nodes = few;
  few_edges = omega arith;
  edges_fit = λ k d lt. absurd (omega arith);
  rows_fit = λ x lt. rw (none x) (record { fits = λ k d in_row. absurd (omega arith); complete = λ i i_in. absurd (omega arith); short = omega arith; sums = λ fs same. refl });
}

pub row_at-push : (rows : List (Vec ℕ Global)) (row : Vec ℕ Global) (x : ℕ) → row.items ≡ [] → row_at rows x ≡ [] → row_at (rows ++ row ∷ []) x ≡ []
row_at-push [] row zero none old = none
row_at-push [] row (suc x) none old = refl
row_at-push (r ∷ rows) row zero none old = old
row_at-push (r ∷ rows) row (suc x) none old = row_at-push rows row x none old

-- the two rows written
pub IsGraph-add : (rows : List (Vec ℕ Global)) (es : List Edge) (e : Edge) (at_u at_v : Vec ℕ Global) → IsGraph rows es → length es < 4096 → IsEdge (length rows) e →
    at_u.items ≡ row_at rows e.u ++ length es ∷ [] → at_v.items ≡ row_at (set rows e.u at_u) e.v ++ length es ∷ [] → IsGraph (set (set rows e.u at_u) e.v at_v) (es ++ e ∷ [])
IsGraph-add rows es e at_u at_v is few edge u_is v_is =
    let one : List (Vec ℕ Global) = set rows e.u at_u in
    let len_one = length-set rows e.u at_u in
    let v_not_u : e.v ≢ e.u = λ same. edge.apart (sym same) in
    IsGraph-push rows (set one e.v at_v) es e is few edge
    (length-set one e.v at_v ∙ len_one)
    (row_at-set_other one e.v e.u at_v edge.apart ∙ (row_at-set_same rows e.u at_u edge.u_in ∙ u_is))
    (row_at-set_same one e.v at_v (omega (arith, edge.v_in, len_one)) ∙ (v_is ∙ ap (λ row. row ++ length es ∷ []) (row_at-set_other rows e.u e.v at_u v_not_u)))
    (λ x not_u not_v. row_at-set_other one e.v x at_v not_v ∙ row_at-set_other rows e.u x at_u not_u)

-- rows and edges as they are read from a graph, and the network that it is
pub record IsRead (g : Network) (rows : List (Vec ℕ Global)) (es : List Edge) : Type 0 where
  pub edges : es ≡ g.edges
  pub nodes : length rows ≡ g.nodes
  pub few : g.nodes ≤ 512
  pub edges_fit : All (IsEdge g.nodes) es
  pub rows_fit : AreRows es rows

pub IsRead-of : (g : Network) (kept rows : List (Vec ℕ Global)) (kept_es es : List Edge) → IsGraph kept kept_es → record { nodes = length kept; edges = kept_es } ≡ g →
    rows ≡ kept → es ≡ kept_es → IsRead g rows es
IsRead-of g kept rows kept_es es is view rows_are es_are = rw (← view, rows_are, es_are) (record {
  edges = refl;
  nodes = refl;
  few = is.few_nodes;
  edges_fit = is.edges_fit;
  rows_fit = is.rows_fit;
})
