-- Where the lengths of all lists sum to the lengths of all journals, each list has all entries of its pass.
use Rattle.std.proofs.Common.{◌≡◌, ◌⊎◌, ℕ, zero, suc, ◌+◌, ◌-◌, ◌<◌, ◌≤◌, Bool, true, false, List, [], ◌∷◌, length, map, get_or, inl, inr, refl, ap, sym, subst, ◌∙◌, ⊎_elim, arith}
use Rattle.st_service.specs.Made.{Made, IsMine}
use Rattle.std.specs.Prelude.{◌==◌, if◌then◌else◌}
use Rattle.st_net.proofs.Tests.{equal_numbers, equal_self}
use Rattle.st_service.specs.Closed.{positions}

-- whether two numbers are the same, by recursion
abbrev pub same : ℕ → ℕ → Bool
same zero zero = true
same zero (suc y) = false
same (suc x) zero = false
same (suc x) (suc y) = same x y

abbrev put : Bool → ℕ → List ℕ → List ℕ
put true i rest = i ∷ rest
put false i rest = rest

-- the places, from i on, of the entries that a pass made, by that
abbrev places_by : ℕ → ℕ → List Made → List ℕ
places_by p i [] = []
places_by p i (m ∷ ms) = put (same m.by p) i (places_by p (suc i) ms)

abbrev by_of : Made → ℕ
by_of e = e.by

abbrev pub one : Bool → ℕ
one true = 1
one false = 0

-- how many entries pass p made
abbrev pub times : ℕ → List Made → ℕ
times p [] = 0
times p (e ∷ es) = one (same e.by p) + times p es

same_self : (x : ℕ) → same x x ≡ true
same_self zero = refl
same_self (suc x) = same_self x

same_is : (x y : ℕ) → x ≡ y → same x y ≡ true
same_is x y e = subst (λ (z : ℕ). same x z ≡ true) e (same_self x)

one_none : (b : Bool) → one b ≡ 0 → b ≡ false
one_none true e = absurd (omega (arith, e))
one_none false e = refl

same_true : (x y : ℕ) → same x y ≡ true → x ≡ y
same_true zero zero e = refl
same_true zero (suc y) e = absurd cc
same_true (suc x) zero e = absurd cc
same_true (suc x) (suc y) e = ap suc (same_true x y e)

equal_same : (x y : ℕ) (b c : Bool) → (x == y) ≡ b → same x y ≡ c → b ≡ c
equal_same x y true true e s = refl
equal_same x y false false e s = refl
equal_same x y true false e s = let is = same_is x y (equal_numbers x y e) in absurd cc
equal_same x y false true e s = let is : (x == y) ≡ true = ap (λ (n : ℕ). x == n) (sym (same_true x y s)) ∙ equal_self x in absurd cc

if_put : (b : Bool) (i : ℕ) (rest : List ℕ) → (if b then i ∷ rest else rest) ≡ put b i rest
if_put true i rest = refl
if_put false i rest = refl

positions_are : (p i : ℕ) (log : List Made) → positions p i log ≡ places_by p i log
positions_are p i [] = refl
positions_are p i (m ∷ ms) =
    ap (λ (b : Bool). if b then i ∷ positions p (suc i) ms else positions p (suc i) ms) (equal_same m.by p (m.by == p) (same m.by p) refl refl)
    ∙ (if_put (same m.by p) i (positions p (suc i) ms) ∙ ap (put (same m.by p) i) (positions_are p (suc i) ms))

-- a rising list of numbers from i on, each of an entry of p
abbrev Takes : ℕ → ℕ → List Made → List ℕ → Type 0
Takes p i [] [] = Unit {0}
Takes p i [] (m ∷ ms) = ⊥
Takes p i (e ∷ es) [] = Unit {0}
Takes p i (e ∷ es) (m ∷ ms) = ((m ≡ i) × (e.by ≡ p) × Takes p (suc i) es ms) ⊎ ((i < m) × Takes p (suc i) es (m ∷ ms))

takes_none : (p i : ℕ) (log : List Made) → Takes p i log []
takes_none p i [] = tt
takes_none p i (e ∷ es) = tt

fewer : (p i : ℕ) (log : List Made) (mine : List ℕ) → Takes p i log mine → length mine ≤ times p log
fewer p i [] [] t = omega arith
fewer p i [] (m ∷ ms) t = absurd t
fewer p i (e ∷ es) [] t = omega arith
fewer p i (e ∷ es) (m ∷ ms) t = ⊎_elim
    (λ (a : (m ≡ i) × (e.by ≡ p) × Takes p (suc i) es ms). let r = fewer p (suc i) es ms a.2 in let is : one (same e.by p) ≡ 1 = ap one (same_is e.by p a.1) in omega (arith, r, is))
    (λ (b : (i < m) × Takes p (suc i) es (m ∷ ms)). let r = fewer p (suc i) es (m ∷ ms) b.1 in omega (arith, r))
    t

all_of : (p i : ℕ) (log : List Made) (mine : List ℕ) → Takes p i log mine → length mine ≡ times p log → mine ≡ places_by p i log
all_of p i [] [] t n = refl
all_of p i [] (m ∷ ms) t n = absurd t
all_of p i (e ∷ es) [] t n =
    let no : same e.by p ≡ false = one_none (same e.by p) (omega (arith, n)) in
    rw no (all_of p (suc i) es [] (takes_none p (suc i) es) (omega (arith, n)))
all_of p i (e ∷ es) (m ∷ ms) t n = ⊎_elim
    (λ (a : (m ≡ i) × (e.by ≡ p) × Takes p (suc i) es ms).
    let yes : same e.by p ≡ true = same_is e.by p a.1 in
    let is : one (same e.by p) ≡ 1 = ap one yes in
    let r : ms ≡ places_by p (suc i) es = all_of p (suc i) es ms a.2 (omega (arith, n, is)) in
    rw yes (cc (a.0, r)))
    (λ (b : (i < m) × Takes p (suc i) es (m ∷ ms)).
    let r = fewer p (suc i) es (m ∷ ms) b.1 in
    let no : same e.by p ≡ false = one_none (same e.by p) (omega (arith, n, r)) in
    rw no (all_of p (suc i) es (m ∷ ms) b.1 (omega (arith, n, ap one no))))
    t

at_or_above : (i m : ℕ) → i ≤ m → (m ≡ i) ⊎ (i < m)
at_or_above zero zero le = inl refl
at_or_above zero (suc m) le = inr (omega arith)
at_or_above (suc i) zero le = absurd (omega (arith, le))
at_or_above (suc i) (suc m) le = ⊎_elim (λ (e : m ≡ i). inl (ap suc e)) (λ (l : i < m). inr (omega (arith, l))) (at_or_above i m (omega (arith, le)))

shifted : (p i x : ℕ) (e : Made) (es : List Made) → i < x → get_or (map by_of (e ∷ es)) (x - i) 0 ≡ p → get_or (map by_of es) (x - suc i) 0 ≡ p
shifted p i x e es above at =
    let n : x - i ≡ suc (x - suc i) = omega (arith, above) in
    subst (λ (k : ℕ). get_or (map by_of (e ∷ es)) k 0 ≡ p) n at

all_above : (i m : ℕ) (ms : List ℕ) → i < m → ((j k : ℕ) → j < k → k < length (m ∷ ms) → get_or (m ∷ ms) j 0 < get_or (m ∷ ms) k 0) → (k : ℕ) → k < length (m ∷ ms) → i < get_or (m ∷ ms) k 0
all_above i m ms above rising zero lt = above
all_above i m ms above rising (suc k) lt = let r = rising 0 (suc k) (omega arith) lt in omega (arith, r, above)

takes_from : (p i : ℕ) (log : List Made) (mine : List ℕ)
    → ((k : ℕ) → k < length mine → (i ≤ get_or mine k 0) × (get_or mine k 0 < i + length log))
    → ((k : ℕ) → k < length mine → get_or (map by_of log) (get_or mine k 0 - i) 0 ≡ p)
    → ((j k : ℕ) → j < k → k < length mine → get_or mine j 0 < get_or mine k 0)
    → Takes p i log mine
takes_from p i [] [] within made rising = tt
takes_from p i [] (m ∷ ms) within made rising = let w = within 0 (omega arith) in absurd (omega (arith, w.0, w.1))
takes_from p i (e ∷ es) [] within made rising = tt
takes_from p i (e ∷ es) (m ∷ ms) within made rising =
    let w = within 0 (omega arith) in ⊎_elim
    (λ (at : m ≡ i).
    let none : m - i ≡ 0 = omega (arith, at) in
    let by : e.by ≡ p = ap (λ (k : ℕ). get_or (map by_of (e ∷ es)) k 0) (sym none) ∙ made 0 (omega arith) in
    inl (
      at,
      by,
      takes_from p (suc i) es ms
          (λ k lt. let v = within (suc k) (omega (arith, lt)) in let r = rising 0 (suc k) (omega arith) (omega (arith, lt)) in (omega (arith, r, at), omega (arith, v.1)))
          (λ k lt. let r = rising 0 (suc k) (omega arith) (omega (arith, lt)) in shifted p i (get_or ms k 0) e es (omega (arith, r, at)) (made (suc k) (omega (arith, lt))))
          (λ j k less lt. rising (suc j) (suc k) (omega (arith, less)) (omega (arith, lt))),
    ))
    (λ (above : i < m).
    let high : (k : ℕ) → k < length (m ∷ ms) → i < get_or (m ∷ ms) k 0 = all_above i m ms above rising in
    inr (
      above,
      takes_from p (suc i) es (m ∷ ms)
          (λ k lt. let v = within k lt in let h = high k lt in (omega (arith, h), omega (arith, v.1)))
          (λ k lt. shifted p i (get_or (m ∷ ms) k 0) e es (high k lt) (made k lt))
          rising,
    ))
    (at_or_above i m w.0)

mine_takes : (p : ℕ) (log : List Made) (mine : List ℕ) → IsMine p log mine → Takes p 0 log mine
mine_takes p log mine m = takes_from p 0 log mine
    (λ k lt. let w = m.within k lt in (omega arith, omega (arith, w)))
    (λ k lt. let n : get_or mine k 0 - 0 ≡ get_or mine k 0 = omega arith in subst (λ (j : ℕ). get_or (map by_of log) j 0 ≡ p) (sym n) (m.made k lt))
    m.rising

-- mine has all entries of its pass, where there are as many
pub mine_whole : (p : ℕ) (log : List Made) (mine : List ℕ) → IsMine p log mine → length mine ≡ times p log → mine ≡ positions p 0 log
mine_whole p log mine m n = all_of p 0 log mine (mine_takes p log mine m) n ∙ sym (positions_are p 0 log)

pub mine_fewer : (p : ℕ) (log : List Made) (mine : List ℕ) → IsMine p log mine → length mine ≤ times p log
mine_fewer p log mine m = fewer p 0 log mine (mine_takes p log mine m)
