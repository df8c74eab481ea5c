-- What the checkers compute.
use Rattle.std.proofs.Common.{◌≡◌, ℕ, ◌+◌, ◌*◌, ◌<◌, ◌≤◌, suc, zero, Bool, List, [], ◌∷◌, length, get_or, take, ℤ, ◌+ℤ◌, arith, add-one, All}
use Rattle.std.proofs.lemmas.Int.{ints}
use Rattle.std.proofs.lemmas.List.Sums.{sum_by-le}
use Rattle.st_flow.specs.declared.edge.Edge.{Edge}
use Rattle.st_flow.specs.Network.{IsEdge, part_out, net_out, cut_part, cut_value}
use Rattle.st_flow.specs.Residual.{edge_at, amount_at}

-- one edge more
pub net_out-more : (es : List Edge) (fs : List ℤ) (s : ℕ → Bool) (i : ℕ) → i < length es → length fs ≡ length es →
    net_out (take (i + 1) es) (take (i + 1) fs) s ≡ net_out (take i es) (take i fs) s +ℤ part_out (edge_at es i) (amount_at fs i) s
net_out-more es fs s i lt same = rw add-one (net_out-suc es fs s i lt same)
  where
    net_out-suc : (es : List Edge) (fs : List ℤ) (s : ℕ → Bool) (i : ℕ) → i < length es → length fs ≡ length es →
        net_out (take (suc i) es) (take (suc i) fs) s ≡ net_out (take i es) (take i fs) s +ℤ part_out (edge_at es i) (amount_at fs i) s
    net_out-suc [] fs s i lt same = absurd (omega arith)
    net_out-suc (e ∷ es) [] s i lt same = absurd (omega arith)
    net_out-suc (e ∷ es) (f ∷ fs) s zero lt same = omega (arith, ints)
    net_out-suc (e ∷ es) (f ∷ fs) s (suc i) lt same = let r = net_out-suc es fs s i (omega arith) (omega arith) in omega (arith, ints)

cut_part-le : (s : ℕ → Bool) (e : Edge) → cut_part s e ≤ e.capacity
cut_part-le s e = grind arith

-- no cut has more than this
pub cut_value-le : (nodes : ℕ) (es : List Edge) (s : ℕ → Bool) → All (IsEdge nodes) es → length es ≤ 4096 → cut_value es s ≤ 4096 * 1000000
cut_value-le nodes es s edges few =
    let le = sum_by-le (cut_part s) 1000000 es (λ k d lt. omega (arith, cut_part-le s (get_or es k d), (edges k d lt).bounded)) in
    omega (arith, le, few)
