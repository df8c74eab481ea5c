-- The lists of a close: what was taken of a list one item after another; the places of a pass; and what the counts of all passes and rooms say.
use Rattle.std.proofs.Common.{below_more, ◌≡◌, ℕ, ◌<◌, ◌≤◌, true, List, [], ◌∷◌, ◌++◌, length, map, get_or, reverse, sum_by, refl, ap, sym, subst, ◌∙◌, arith, length-append, append_assoc}
use Rattle.std.proofs.lemmas.List.{append-nil, get_or_append_left, get_or_at, get_or-map, length-map, nil_from_length}
use Rattle.std.proofs.lemmas.List.Sums.{sum_by-cons}
use Rattle.std.proofs.Math.Seq.{get_or-append_seam}
use mathlib.Core.List.{IsPrefix}
use Rattle.st_net.specs.Groups.{Group, IsSound}
use Rattle.st_event.specs.declared.act.Log.{Log}
use Rattle.st_event.specs.declared.act.LogEntry.{LogEntry}
use Rattle.st_event.specs.declared.journal.Entry.{Entry}
use Rattle.st_event.specs.Legal.{IsLegal}
use Rattle.st_event.specs.Proposals.{overlays}
use Rattle.st_board.specs.Published.{Published}
use Rattle.st_service.specs.Asked.{all_asked}
use Rattle.st_service.specs.Closed.{IsWhole, Stands, entered, positions}
use Rattle.st_service.specs.Made.{Made, IsMine, past_in}
use Rattle.st_service.specs.Passes.{Holder, front_at, mine_at, no_reader}
use Rattle.st_service.proofs.AskedLaws.{requests_mine}
use Rattle.st_service.proofs.Counts.{all_counted, all_full, sum_by_index, sum_same, sum_to}
use Rattle.st_service.proofs.HolderLaws.{holder}
use Rattle.st_service.proofs.Mines.{item_at, item_was}
use Rattle.st_service.proofs.Whole.{mine_fewer, mine_whole, times}

-- what f has of an item, where it has the same of two lists
pub mapped_at : {X A : Type 0} (f : X → A) (xs ys : List X) (k : ℕ) (d : X) → map f xs ≡ map f ys → k < length ys → f (get_or xs k d) ≡ f (get_or ys k d)
mapped_at f xs ys k d same lt =
    let low : k < length xs = omega (arith, lt, ap length same, length-map xs f, length-map ys f) in
    sym (get_or-map f xs k d (f d) low) ∙ (ap (λ l. get_or l k (f d)) same ∙ get_or-map f ys k d (f d) lt)

pub mapped_long : {X A : Type 0} (f : X → A) (xs ys : List X) → map f xs ≡ map f ys → length xs ≡ length ys
mapped_long f xs ys same = omega (arith, ap length same, length-map xs f, length-map ys f)

-- what comes next stands behind what came so far
pub next_at : {X : Type 0} (all done rest : List X) (x d : X) → all ≡ done ++ x ∷ rest → get_or all (length done) d ≡ x
next_at all done rest x d e = ap (λ l. get_or l (length done) d) e ∙ get_or-append_seam done x rest d

pub next_low : {X : Type 0} (all done rest : List X) (x : X) → all ≡ done ++ x ∷ rest → length done < length all
next_low all done rest x e = omega (arith, ap length e, length-append done (x ∷ rest))

pub next_all : {X : Type 0} (all done rest more : List X) (x : X) → all ≡ done ++ rest → rest ≡ x ∷ more → all ≡ (done ++ x ∷ []) ++ more
next_all all done rest more x e f = e ∙ (ap (λ l. done ++ l) f ∙ sym (append_assoc done (x ∷ []) more))

-- at the end nothing is left
pub none_left : {X : Type 0} (all done rest : List X) → all ≡ done ++ rest → length rest ≡ 0 → done ≡ all
none_left all done rest e none = sym (e ∙ (ap (λ l. done ++ l) (nil_from_length rest none) ∙ append-nil done))

-- what holds of two items at each place below, and of the next two
pub both_more : {X Y : Type 0} (P : ℕ → X → Y → Type 0) (xs : List X) (ys : List Y) (x : X) (y : Y) → length ys ≡ length xs
    → ((k : ℕ) (d : X) (e : Y) → k < length xs → P k (get_or xs k d) (get_or ys k e)) → P (length xs) x y
    → (k : ℕ) (d : X) (e : Y) → k < length (xs ++ x ∷ []) → P k (get_or (xs ++ x ∷ []) k d) (get_or (ys ++ y ∷ []) k e)
both_more P xs ys x y same all here k d e lt =
    let ends = length-append xs (x ∷ []) in
    below_more (λ (n : ℕ). P n (get_or (xs ++ x ∷ []) n d) (get_or (ys ++ y ∷ []) n e)) (length xs)
    (λ n less.
    let also : n < length ys = omega (arith, less, same) in
    subst (λ w. P n w (get_or (ys ++ y ∷ []) n e)) (sym (get_or_append_left xs (x ∷ []) d n less)) (subst (λ w. P n (get_or xs n d) w) (sym (get_or_append_left ys (y ∷ []) e n also)) (all n d e less)))
    (subst (λ w. P (length xs) w (get_or (ys ++ y ∷ []) (length xs) e)) (sym (get_or-append_seam xs x [] d)) (subst (λ w. P (length xs) x w) (sym (get_or_at ys y [] e (length xs) same)) here))
    k (omega (arith, lt, ends))

pub sum_by_map : {X Y : Type 0} (f : X → Y) (h : Y → ℕ) (xs : List X) → sum_by h (map f xs) ≡ sum_by (λ x. h (f x)) xs
sum_by_map f h [] = refl
sum_by_map f h (x ∷ xs) = let r = sum_by_map f h xs in omega (arith, r, sum_by-cons h (f x) (map f xs), sum_by-cons (λ y. h (f y)) x xs)

-- what a place has of its room stands in its pass
pub place_stands : {X : Type 0} (log : X → List Made) (mine : X → List ℕ) (reader : X → Published) (number : ℕ) (lines : List LogEntry) (ps : List X) (x : X) (k : ℕ) (front : List Made)
    → k < length ps → x ≡ get_or ps k x → IsPrefix (log x) front → IsMine number front (mine x) → IsPrefix (reader x).proposals (overlays (past_in front)) → Stands (holder log mine reader number ps lines) front k
place_stands log mine reader number lines ps x k front lt at begins m reads = record {
  begins = subst (λ l. IsPrefix l front) (sym (item_was log ps k x [] lt at)) begins;
  mine = subst (λ l. IsMine number front l) (sym (item_was mine ps k x [] lt at)) m;
  reads = subst (λ (l : Published). IsPrefix l.proposals (overlays (past_in front))) (sym (item_was reader ps k x no_reader lt at)) reads;
}

pub entered_is : {X : Type 0} (log : X → List Made) (mine : X → List ℕ) (reader : X → Published) (number : ℕ) (lines : List LogEntry) (ps : List X) → entered (holder log mine reader number ps lines) ≡ sum_by (λ x. length (mine x)) ps
entered_is log mine reader number lines ps = sum_by_map mine length ps

abbrev pub AreNumbered : List Holder → Type 0
AreNumbered passes = (n : ℕ) (p : Holder) → n < length passes → (get_or passes n p).number ≡ n

-- each pass has a place in each room, and stands there
abbrev pub AllStand : List Holder → List (List Made) → Type 0
AllStand passes fronts = (n : ℕ) (p : Holder) (k : ℕ) → n < length passes → k < length fronts → Stands (get_or passes n p) (front_at fronts k) k

abbrev pub AreLong : List Holder → ℕ → Type 0
AreLong passes rooms = (n : ℕ) (p : Holder) → n < length passes → length (get_or passes n p).mines ≡ rooms

abbrev counts : List Holder → Holder → ℕ → ℕ → ℕ
counts passes p n k = length (mine_at (get_or passes n p).mines k)

few_mine : (passes : List Holder) (fronts : List (List Made)) (p : Holder) → AreNumbered passes → AllStand passes fronts → (n k : ℕ) → n < length passes → k < length fronts → counts passes p n k ≤ times n (front_at fronts k)
few_mine passes fronts p numbers stands n k ln lk =
    let s = stands n p k ln lk in
    mine_fewer n (front_at fronts k) (mine_at (get_or passes n p).mines k) (subst (λ (m : ℕ). IsMine m (front_at fronts k) (mine_at (get_or passes n p).mines k)) (numbers n p ln) s.mine)

sums_are : (passes : List Holder) (fronts : List (List Made)) (p : Holder) → AreLong passes (length fronts) → sum_by entered passes ≡ sum_by length fronts
    → sum_to (λ n. sum_to (λ k. counts passes p n k) (length fronts)) (length passes) ≡ sum_to (λ k. length (front_at fronts k)) (length fronts)
sums_are passes fronts p long e =
    let each : (n : ℕ) → n < length passes → sum_to (λ k. counts passes p n k) (length fronts) ≡ entered (get_or passes n p) =
    λ n ln. sym (sum_by_index length (get_or passes n p).mines [] ∙ ap (λ (m : ℕ). sum_to (λ k. counts passes p n k) m) (long n p ln)) in
    sum_same (λ n. sum_to (λ k. counts passes p n k) (length fronts)) (λ n. entered (get_or passes n p)) (length passes) each
    ∙ (sym (sum_by_index entered passes p) ∙ (e ∙ sum_by_index length fronts []))

pub stand_mapped : {X : Type 0} (log : X → List Made) (passes : List Holder) (xs : List X)
    → ((n : ℕ) (p : Holder) (k : ℕ) (d : X) → n < length passes → k < length xs → Stands (get_or passes n p) (log (get_or xs k d)) k) → AllStand passes (map log xs)
stand_mapped log passes xs all n p k ln lk =
    let low : k < length xs = omega (arith, lk, length-map xs log) in
    let it = item_at xs k low in
    subst (λ (front : List Made). Stands (get_or passes n p) front k) (sym (get_or-map log xs k it.0 [] low)) (all n p k it.0 ln low)

no_holder : Holder
no_holder = record { number = 0; fronts = []; mines = []; readers = []; log = [] }

-- a closed room is whole: as many places came back as there are entries, so each pass has just its own
pub whole_at : (group : Group) (passes : List Holder) (fronts : List (List Made)) (k : ℕ) (entries : List Entry) → AreNumbered passes → AreLong passes (length fronts) → AllStand passes fronts
    → sum_by entered passes ≡ sum_by length fronts → k < length fronts → past_in (front_at fronts k) ≡ reverse entries → IsLegal group (reverse entries) → IsSound group → all_asked (front_at fronts k) ≡ true
    → IsWhole group passes k entries (front_at fronts k)
whole_at group passes fronts k entries numbers long stands e lk journal legal sound asked =
    let front = front_at fronts k in
    let made : (n : ℕ) (p : Holder) → n < length passes → mine_at (get_or passes n p).mines k ≡ positions n 0 front = λ n p ln.
    let s = stands n p k ln lk in
    let own : IsMine n front (mine_at (get_or passes n p).mines k) = subst (λ (m : ℕ). IsMine m front (mine_at (get_or passes n p).mines k)) (numbers n p ln) s.mine in
    mine_whole n front (mine_at (get_or passes n p).mines k) own (all_counted (counts passes p) (front_at fronts) (length passes) (length fronts) (few_mine passes fronts p numbers stands) (sums_are passes fronts p long e) n k ln lk) in
    record {
      journal = journal;
      legal = subst (IsLegal group) (sym journal) legal;
      sound = sound;
      stands = λ n p ln. stands n p k ln lk;
      made = made;
      asked = λ n p ln. requests_mine n front (mine_at (get_or passes n p).mines k) asked (made n p ln);
      count = sum_by_index (λ (p : Holder). length (mine_at p.mines k)) passes no_holder
          ∙ all_full (counts passes no_holder) (front_at fronts) (length passes) (length fronts) (few_mine passes fronts no_holder numbers stands) (sums_are passes fronts no_holder long e) k lk;
    }

-- the logs of the passes so far, of which the first are the applications'
pub record AreLogs (apps : ℕ) (passes : List Holder) (logs : List Log) : Type 0 where
  pub below : length passes ≤ apps → length logs ≡ length passes
  pub above : apps ≤ length passes → length logs ≡ apps
  pub logged : (n : ℕ) (l : Log) (p : Holder) → n < length logs → ((get_or logs n l).app.0 ≡ n) × ((get_or logs n l).entries ≡ (get_or passes n p).log)

pub logs_none : (apps : ℕ) (passes : List Holder) (logs : List Log) → passes ≡ [] → logs ≡ [] → AreLogs apps passes logs
logs_none apps passes logs p l =
    let none : length passes ≡ 0 = ap length p in
    let empty : length logs ≡ 0 = ap length l in
    record {
      below = λ le. omega (arith, none, empty);
      above = λ le. omega (arith, none, empty, le);
      logged = λ n m q lt. absurd (omega (arith, empty, lt));
    }

-- one more of an application
pub logs_more : (apps : ℕ) (passes : List Holder) (logs : List Log) (p : Holder) (l : Log) → length passes < apps → l.app.0 ≡ length passes → l.entries ≡ p.log → AreLogs apps passes logs → AreLogs apps (passes ++ p ∷ []) (logs ++ l ∷ [])
logs_more apps passes logs p l lt app entries are =
    let same : length logs ≡ length passes = are.below (omega (arith, lt)) in
    let a = length-append passes (p ∷ []) in
    let b = length-append logs (l ∷ []) in
    record {
      below = λ le. omega (arith, same, a, b);
      above = λ le. omega (arith, same, a, b, le, lt);
      logged = λ n m q less. both_more (λ (k : ℕ) (x : Log) (y : Holder). (x.app.0 ≡ k) × (x.entries ≡ y.log)) logs passes l p (sym same) (λ k d e t. are.logged k d e t) (app ∙ sym same, entries) n m q less;
    }

-- one more of none
pub logs_kept : (apps : ℕ) (passes : List Holder) (logs : List Log) (p : Holder) → apps ≤ length passes → AreLogs apps passes logs → AreLogs apps (passes ++ p ∷ []) logs
logs_kept apps passes logs p le are =
    let same : length logs ≡ apps = are.above le in
    let a = length-append passes (p ∷ []) in
    record {
      below = λ few. absurd (omega (arith, few, le, a));
      above = λ many. same;
      logged = λ n m q less. let r = are.logged n m q less in (r.0, r.1 ∙ ap (λ (h : Holder). h.log) (sym (get_or_append_left passes (p ∷ []) q n (omega (arith, less, same, le)))));
    }
