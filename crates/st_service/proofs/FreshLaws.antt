-- Passes that take their places, room after room.
use Rattle.std.proofs.Common.{◌≡◌, ◌≢◌, ℕ, zero, suc, ◌+◌, ◌<◌, ◌≤◌, List, [], ◌∷◌, ◌++◌, length, get_or, set, take, drop, refl, sym, ◌∙◌, ap, subst, arith, below_more, length-append, length-set}
use Rattle.std.proofs.lemmas.List.{get_or-set_same, get_or-set_other}
use Rattle.std.proofs.Math.Seq.{take-append_seam}
use Rattle.st_board.specs.Published.{Published}
use Rattle.st_service.specs.Made.{Made}
use Rattle.st_service.specs.Opened.{IsFresh}
use Rattle.st_service.specs.Passes.{Holder, no_reader}

-- what holds of whatever is found in a list, or past its end, and of one item more
every_more : {X : Type 0} (P : X → Type 0) (xs : List X) (x d : X) → ((k : ℕ) → P (get_or xs k d)) → P x → (k : ℕ) → P (get_or (xs ++ x ∷ []) k d)
every_more P [] x d all here zero = here
every_more P [] x d all here (suc k) = all 0
every_more P (y ∷ xs) x d all here zero = all 0
every_more P (y ∷ xs) x d all here (suc k) = every_more P xs x d (λ j. all (suc j)) here k

-- a fresh pass that takes a place in the next room is fresh
pub fresh_next : (n g : ℕ) (p q : Holder) (r : Published) → IsFresh n g p → r.proposals ≡ [] → q ≡ record p { fronts = p.fronts ++ [] ∷ []; mines = p.mines ++ [] ∷ []; readers = p.readers ++ r ∷ [] } → IsFresh n (g + 1) q
fresh_next n g p q r f none is = rw is (record {
  numbered = f.numbered;
  rooms_are = (omega (arith, length-append p.fronts ([] ∷ []), f.rooms_are.0), omega (arith, length-append p.mines ([] ∷ []), f.rooms_are.1));
  unseen = every_more (λ (front : List Made). front ≡ []) p.fronts [] [] f.unseen refl;
  unmade = every_more (λ (mine : List ℕ). mine ≡ []) p.mines [] [] f.unmade refl;
  unread = every_more (λ (reader : Published). reader.proposals ≡ []) p.readers r no_reader f.unread none;
  unlogged = f.unlogged;
})

-- the passes below the next one have their places, and so has the next one now
pub seated_more : (g next : ℕ) (ps : List Holder) (q : Holder) → next < length ps → IsFresh next (g + 1) q → ((n : ℕ) (p : Holder) → n < next → IsFresh n (g + 1) (get_or ps n p))
    → (n : ℕ) (p : Holder) → n < next + 1 → IsFresh n (g + 1) (get_or (set ps next q) n p)
seated_more g next ps q in_it here below n p lt = below_more (λ (k : ℕ). IsFresh k (g + 1) (get_or (set ps next q) k p)) next
    (λ k less. let ne : k ≢ next = omega arith in subst (IsFresh k (g + 1)) (sym (get_or-set_other ps next k q p ne)) (below k p less))
    (subst (IsFresh next (g + 1)) (sym (get_or-set_same ps next q p in_it)) here) n lt

-- the passes above the next one wait for their places
pub waiting_less : (g next : ℕ) (ps : List Holder) (q : Holder) → ((n : ℕ) (p : Holder) → next ≤ n → n < length ps → IsFresh n g (get_or ps n p))
    → (n : ℕ) (p : Holder) → next + 1 ≤ n → n < length (set ps next q) → IsFresh n g (get_or (set ps next q) n p)
waiting_less g next ps q above n p le lt =
    let ne : n ≢ next = omega arith in
    let same = length-set ps next q in
    subst (IsFresh n g) (sym (get_or-set_other ps next n q p ne)) (above n p (omega arith) (omega (arith, same, lt)))

-- what holds of each item by its number, of the same list where none has been taken
pub start_named : {X A : Type 0} (f : X → A) (name : ℕ → A) (xs ys : List X) (n : ℕ) → ys ≡ xs → n ≡ 0 → ((k : ℕ) (d : X) → k < length xs → f (get_or xs k d) ≡ name k) → (k : ℕ) (d : X) → k < length ys → f (get_or ys k d) ≡ name (n + k)
start_named {X} f name xs ys n e none all k d lt =
    let at : n + k ≡ k = omega arith in
    let len = ap length e in
    ap (λ (l : List X). f (get_or l k d)) e ∙ (all k d (omega arith) ∙ ap name (sym at))

-- a list all of whose items were written through a slice
pub written_back : {X : Type 0} (ps qs : List X) (n : ℕ) → n ≡ length ps → length qs ≡ length ps → take n (qs ++ drop (length qs) ps) ≡ qs
written_back ps qs n all same = let at : n ≡ length qs = omega arith in rw at (take-append_seam qs (drop (length qs) ps))
