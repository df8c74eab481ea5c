-- Sums over passes and rooms.
use Rattle.std.proofs.Common.{◌≡◌, ℕ, zero, suc, ◌+◌, ◌<◌, ◌≤◌, List, [], ◌∷◌, length, get_or, sum_by, refl, sym, ◌∙◌, arith}
use Rattle.std.proofs.lemmas.List.Sums.{sum_by-cons}
use Rattle.st_service.specs.Made.{Made}
use Rattle.st_service.proofs.Whole.{same, times, one}

abbrev pub sum_to : (ℕ → ℕ) → ℕ → ℕ
sum_to f zero = 0
sum_to f (suc n) = f 0 + sum_to (λ k. f (suc k)) n

sum_le : (f g : ℕ → ℕ) (n : ℕ) → ((k : ℕ) → k < n → f k ≤ g k) → sum_to f n ≤ sum_to g n
sum_le f g zero le = omega arith
sum_le f g (suc n) le =
    let a = le 0 (omega arith) in
    let r = sum_le (λ k. f (suc k)) (λ k. g (suc k)) n (λ k lt. le (suc k) (omega (arith, lt))) in omega (arith, a, r)

-- where the sums are equal, each term is
each_equal : (f g : ℕ → ℕ) (n : ℕ) → ((k : ℕ) → k < n → f k ≤ g k) → sum_to f n ≡ sum_to g n → (k : ℕ) → k < n → f k ≡ g k
each_equal f g zero le e k lt = absurd (omega (arith, lt))
each_equal f g (suc n) le e zero lt =
    let a = le 0 lt in
    let r = sum_le (λ k. f (suc k)) (λ k. g (suc k)) n (λ k lt. le (suc k) (omega (arith, lt))) in omega (arith, a, r, e)
each_equal f g (suc n) le e (suc k) lt =
    let a = le 0 (omega arith) in
    let r = sum_le (λ k. f (suc k)) (λ k. g (suc k)) n (λ k lt. le (suc k) (omega (arith, lt))) in
    each_equal (λ k. f (suc k)) (λ k. g (suc k)) n (λ k lt. le (suc k) (omega (arith, lt))) (omega (arith, a, r, e)) k (omega (arith, lt))

pub sum_add : (f g : ℕ → ℕ) (n : ℕ) → sum_to (λ k. f k + g k) n ≡ sum_to f n + sum_to g n
sum_add f g zero = refl
sum_add f g (suc n) = let r = sum_add (λ k. f (suc k)) (λ k. g (suc k)) n in omega (arith, r)

pub sum_none : (n : ℕ) → sum_to (λ k. 0) n ≡ 0
sum_none zero = refl
sum_none (suc n) = let r = sum_none n in omega (arith, r)

pub sum_same : (f g : ℕ → ℕ) (n : ℕ) → ((k : ℕ) → k < n → f k ≡ g k) → sum_to f n ≡ sum_to g n
sum_same f g zero e = refl
sum_same f g (suc n) e =
    let a = e 0 (omega arith) in
    let r = sum_same (λ k. f (suc k)) (λ k. g (suc k)) n (λ k lt. e (suc k) (omega (arith, lt))) in omega (arith, a, r)

swapped : (a : ℕ → ℕ → ℕ) (m n : ℕ) → sum_to (λ p. sum_to (λ k. a p k) n) m ≡ sum_to (λ k. sum_to (λ p. a p k) m) n
swapped a zero n = sym (sum_none n)
swapped a (suc m) n =
    let r = swapped (λ p. a (suc p)) m n in
    let s = sum_add (λ k. a 0 k) (λ k. sum_to (λ p. a (suc p) k) m) n in
    omega (arith, r, s)

ones : (x n : ℕ) → sum_to (λ p. one (same x p)) n ≤ 1
ones x zero = omega arith
ones zero (suc n) = let r = sum_none n in omega (arith, r)
ones (suc x) (suc n) = let r = ones x n in omega (arith, r)

times_sum : (log : List Made) (n : ℕ) → sum_to (λ p. times p log) n ≤ length log
times_sum [] n = let r = sum_none n in omega (arith, r)
times_sum (e ∷ es) n =
    let r = times_sum es n in
    let s = sum_add (λ p. one (same e.by p)) (λ p. times p es) n in
    let o = ones e.by n in omega (arith, r, s, o)

-- where each pass has at most its entries in each room, and all together as many as there are, the counts of each room come to its length
pub all_full : (a : ℕ → ℕ → ℕ) (log : ℕ → List Made) (m n : ℕ) → ((p k : ℕ) → p < m → k < n → a p k ≤ times p (log k))
    → sum_to (λ p. sum_to (λ k. a p k) n) m ≡ sum_to (λ k. length (log k)) n → (k : ℕ) → k < n → sum_to (λ p. a p k) m ≡ length (log k)
all_full a log m n le e k lk =
    let column : (j : ℕ) → j < n → sum_to (λ q. a q j) m ≤ sum_to (λ q. times q (log j)) m = λ j lj. sum_le (λ q. a q j) (λ q. times q (log j)) m (λ q lq. le q j lq lj) in
    let below : (j : ℕ) → j < n → sum_to (λ q. a q j) m ≤ length (log j) = λ j lj. let c = column j lj in let t = times_sum (log j) m in omega (arith, c, t) in
    let whole : sum_to (λ j. sum_to (λ q. a q j) m) n ≡ sum_to (λ j. length (log j)) n = sym (swapped a m n) ∙ e in
    each_equal (λ j. sum_to (λ q. a q j) m) (λ j. length (log j)) n below whole k lk

-- and each pass has just its entries
pub all_counted : (a : ℕ → ℕ → ℕ) (log : ℕ → List Made) (m n : ℕ) → ((p k : ℕ) → p < m → k < n → a p k ≤ times p (log k))
    → sum_to (λ p. sum_to (λ k. a p k) n) m ≡ sum_to (λ k. length (log k)) n → (p k : ℕ) → p < m → k < n → a p k ≡ times p (log k)
all_counted a log m n le e p k lp lk =
    let full = all_full a log m n le e k lk in
    let c : sum_to (λ q. a q k) m ≤ sum_to (λ q. times q (log k)) m = sum_le (λ q. a q k) (λ q. times q (log k)) m (λ q lq. le q k lq lk) in
    let t = times_sum (log k) m in
    each_equal (λ q. a q k) (λ q. times q (log k)) m (λ q lq. le q k lq lk) (omega (arith, full, c, t)) p lp

pub sum_by_index : {X : Type 0} (f : X → ℕ) (xs : List X) (d : X) → sum_by f xs ≡ sum_to (λ k. f (get_or xs k d)) (length xs)
sum_by_index f [] d = refl
sum_by_index f (x ∷ xs) d = let r = sum_by_index f xs d in omega (arith, r, sum_by-cons f x xs)
