-- Cuts of two devices, their values, and the cut of least value that all others of that value contain.
use Rattle.std.specs.Prelude.{◌≡◌, ℕ, ◌+◌, zero, suc, min, Bool, true, false, not, ◌&&◌, ◌||◌, ◌==◌, List, [], ◌∷◌, ◌++◌, if◌then◌else◌}
use Rattle.st_net.specs.declared.entity.Entity.{Entity}
use Rattle.st_net.specs.declared.topo.LinkOpening.{LinkOpening}
use Rattle.st_net.specs.UpGraph.{is_up_link}

-- exactly one end is in the set
abbrev pub is_crossing : (ℕ → Bool) → LinkOpening → Bool
is_crossing side link = if side link.a then not (side link.b) else side link.b

-- the capacities of the up links with exactly one end in the set, of links that are numbered from i
abbrev pub cut_value_from : ℕ → List LinkOpening → (Entity → Bool) → (ℕ → Bool) → ℕ
cut_value_from i [] up side = 0
cut_value_from i (link ∷ links) up side = (if is_up_link up i link && is_crossing side link then link.capacity else 0) + cut_value_from (i + 1) links up side

abbrev pub cut_value : List LinkOpening → (Entity → Bool) → (ℕ → Bool) → ℕ
cut_value = cut_value_from 0

-- a set of devices with a and without b
pub record IsCut (side : ℕ → Bool) (a b : ℕ) : Type 0 where
  pub inside : side a ≡ true
  pub outside : side b ≡ false

-- a set with one number more
abbrev pub with_number : (ℕ → Bool) → ℕ → ℕ → Bool
with_number side n d = if d == n then true else side d

-- the least of f over all sets of numbers below n
abbrev pub least_over : ℕ → ((ℕ → Bool) → ℕ) → ℕ
least_over zero f = f (λ d. false)
least_over (suc n) f = min (least_over n f) (least_over n (λ side. f (with_number side n)))

-- whether all sets of numbers below n pass
abbrev pub all_over : ℕ → ((ℕ → Bool) → Bool) → Bool
all_over zero test = test (λ d. false)
all_over (suc n) test = all_over n test && all_over n (λ side. test (with_number side n))

-- the set as a cut: with a, and without b
abbrev pub cut_of : ℕ → ℕ → (ℕ → Bool) → ℕ → Bool
cut_of a b side d = if d == b then false else (if d == a then true else side d)

-- the least value of a cut of a and b, of a group with so many devices
abbrev pub least_cut : ℕ → List LinkOpening → (Entity → Bool) → ℕ → ℕ → ℕ
least_cut n links up a b = least_over n (λ side. cut_value links up (cut_of a b side))

-- whether a device is in each cut of that value
abbrev pub is_in_least_side : ℕ → List LinkOpening → (Entity → Bool) → ℕ → ℕ → ℕ → Bool
is_in_least_side n links up a b d = all_over n (λ side. not (cut_value links up (cut_of a b side) == least_cut n links up a b) || cut_of a b side d)

-- the numbers below n in a set, ascending
abbrev pub numbers_in : ℕ → (ℕ → Bool) → List ℕ
numbers_in zero test = []
numbers_in (suc n) test = numbers_in n test ++ (if test n then n ∷ [] else [])
