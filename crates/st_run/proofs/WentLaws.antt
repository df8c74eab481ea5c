-- What commands leave with a pass, one after another: few entries on each group, and a journal that it has seen full, which stays full.
use Rattle.std.proofs.Common.{◌≡◌, ◌≢◌, ⊎_elim, ℕ, zero, suc, ◌+◌, ◌<◌, ◌≤◌, Bool, true, false, List, [], ◌∷◌, ◌++◌, length, take, get_or, refl, ap, sym, subst, ◌∙◌, arith, length-append}
use Rattle.std.specs.Prelude.{◌==◌, if◌then◌else◌}
use Rattle.std.proofs.lemmas.List.Sums.{sum_by-append, sum_by_push, sum_by-take-le}
use Rattle.std.proofs.Math.Seq.{take-suc}
use mathlib.Core.List.{IsPrefix}
use Rattle.st_net.specs.Groups.{Group}
use Rattle.st_net.proofs.Tests.{equal_numbers, equal_self}
use Rattle.st_event.specs.declared.act.Act.{Act}
use Rattle.st_event.specs.declared.act.Act.TheVariants.{Await}
use Rattle.st_event.specs.declared.journal.TheConstants.{MAX_ENTRIES, MAX_PENDING}
use Rattle.st_wire.specs.declared.line.WireLine.{WireLine}
use Rattle.st_event.proofs.Prefixes.{prefix_self, prefix_trans, prefix_length}
use Rattle.st_world.specs.Acts.{group_number}
use Rattle.st_service.specs.Kept.{Grows, Kept}
use Rattle.st_service.specs.Made.{Made}
use Rattle.st_service.specs.Passes.{Holder, front_at, mine_at}
use Rattle.st_service.specs.Shares.{act_share}
use Rattle.st_run.specs.Jobs.{Does, Did, awaits_on}
use Rattle.st_run.specs.Went.{Went, HasFull, MeetsFull, StopsAt, shares_on}
use Rattle.st_run.proofs.DidLaws.{did_both, goes_front, kept_goes, same_or_not}

-- how many entries a command adds on group n at the most
abbrev pub share_on : ℕ → Group → List WireLine → Act → ℕ
share_on n g lines act = if group_number act == n then act_share act g lines else 0

pub shares_none : (n : ℕ) (g : Group) (lines : List WireLine) → shares_on n g lines [] ≡ 0
shares_none n g lines = refl

pub shares_append : (n : ℕ) (g : Group) (lines : List WireLine) (xs ys : List Act) → shares_on n g lines (xs ++ ys) ≡ shares_on n g lines xs + shares_on n g lines ys
shares_append n g lines xs ys = sum_by-append (share_on n g lines) xs ys

pub shares_push : (n : ℕ) (g : Group) (lines : List WireLine) (xs : List Act) (act : Act) → shares_on n g lines (xs ++ act ∷ []) ≡ shares_on n g lines xs + share_on n g lines act
shares_push n g lines xs act = sum_by_push (share_on n g lines) xs act

pub shares_one : (n : ℕ) (g : Group) (lines : List WireLine) (act : Act) → shares_on n g lines (act ∷ []) ≡ share_on n g lines act
shares_one n g lines act = omega (arith, shares_push n g lines [] act, shares_none n g lines)

pub shares_first : (n : ℕ) (g : Group) (lines : List WireLine) (acts : List Act) (k : ℕ) → shares_on n g lines (take k acts) ≤ shares_on n g lines acts
shares_first n g lines acts k = sum_by-take-le (share_on n g lines) acts k

pub share_here : (n : ℕ) (g : Group) (lines : List WireLine) (act : Act) → group_number act ≡ n → share_on n g lines act ≡ act_share act g lines
share_here n g lines act here = ap (λ (b : Bool). if b then act_share act g lines else 0) (ap (λ (k : ℕ). k == n) here ∙ equal_self n)

none_there : (n m share : ℕ) (b : Bool) → (m == n) ≡ b → n ≢ m → (if b then share else 0) ≡ 0
none_there n m share true at apart = absurd (apart (sym (equal_numbers m n at)))
none_there n m share false other apart = refl

pub share_there : (n : ℕ) (g : Group) (lines : List WireLine) (act : Act) → n ≢ group_number act → share_on n g lines act ≡ 0
share_there n g lines act apart = none_there n (group_number act) (act_share act g lines) (group_number act == n) refl apart

-- the awaits on other groups add nothing, and the one on group n as many as can be pending
awaits_below : (n : ℕ) (g : Group) (lines : List WireLine) (k : ℕ) → k ≤ n → shares_on n g lines (awaits_on k) ≡ 0
awaits_below n g lines zero le = refl
awaits_below n g lines (suc k) le =
    let apart : n ≢ k = λ e. absurd (omega (arith, le, e)) in
    shares_push n g lines (awaits_on k) (Await k) ∙ omega (arith, awaits_below n g lines k (omega (arith, le)), share_there n g lines (Await k) apart)

await_at : (n : ℕ) (g : Group) (lines : List WireLine) (k : ℕ) → k ≡ n → shares_on n g lines (awaits_on k) + share_on n g lines (Await k) ≤ MAX_PENDING
await_at n g lines k at =
    let share : share_on n g lines (Await k) ≡ MAX_PENDING = share_here n g lines (Await k) at in
    omega (arith, awaits_below n g lines k (omega (arith, at)), share)

pub shares_awaits : (n : ℕ) (g : Group) (lines : List WireLine) (rooms : ℕ) → shares_on n g lines (awaits_on rooms) ≤ MAX_PENDING
shares_awaits n g lines zero = omega (arith, shares_none n g lines)
shares_awaits n g lines (suc k) =
    let most : shares_on n g lines (awaits_on k) + share_on n g lines (Await k) ≤ MAX_PENDING =
    ⊎_elim (λ (at : n ≡ k). await_at n g lines k (sym at)) (λ (apart : n ≢ k). omega (arith, shares_awaits n g lines k, share_there n g lines (Await k) apart)) (same_or_not n k) in
    subst (λ (s : ℕ). s ≤ MAX_PENDING) (sym (shares_push n g lines (awaits_on k) (Await k))) most

-- no command

pub went_self : (groups : ℕ → Group) (lines : ℕ → List WireLine) (p : Holder) → Went groups lines [] p p
went_self groups lines p = record {
  number = refl;
  rooms = (refl, refl);
  fronts = λ n. prefix_self (front_at p.fronts n);
  few = λ n. omega arith;
}

-- these commands, and then those
pub went_then : (groups : ℕ → Group) (lines : ℕ → List WireLine) (xs ys : List Act) (a b c : Holder) → Went groups lines xs a b → Went groups lines ys b c → Went groups lines (xs ++ ys) a c
went_then groups lines xs ys a b c p q = record {
  number = q.number ∙ p.number;
  rooms = (q.rooms.0 ∙ p.rooms.0, q.rooms.1 ∙ p.rooms.1);
  fronts = λ n. prefix_trans (front_at a.fronts n) (front_at b.fronts n) (front_at c.fronts n) (p.fronts n) (q.fronts n);
  few = λ n. omega (arith, p.few n, q.few n, shares_append n (groups n) (lines n) xs ys);
}

-- the first of these commands
pub went_first : (groups : ℕ → Group) (lines : ℕ → List WireLine) (acts : List Act) (k : ℕ) (a b : Holder) → Went groups lines (take k acts) a b → Went groups lines acts a b
went_first groups lines acts k a b w = record {
  number = w.number;
  rooms = w.rooms;
  fronts = w.fronts;
  few = λ n. omega (arith, w.few n, shares_first n (groups n) (lines n) acts k);
}

-- a command

pub grows_few : (most : ℕ) (before : List Made) (was : List ℕ) (after : List Made) (now : List ℕ) → Grows most before was after now → length now ≤ length was + most
grows_few most before was after now g = omega (arith, ap length g.1.1 ∙ length-append was g.1.0, g.1.2)

few_one : (groups : ℕ → Group) (lines : ℕ → List WireLine) (act : Act) (old new : Holder) → Kept old new (group_number act) (act_share act (groups (group_number act)) (lines (group_number act)))
    → (n : ℕ) → length (mine_at new.mines n) ≤ length (mine_at old.mines n) + share_on n (groups n) (lines n) act
few_one groups lines act old new k n =
    let g = group_number act in
    let most = act_share act (groups g) (lines g) in
    let here : length (mine_at new.mines g) ≤ length (mine_at old.mines g) + share_on g (groups g) (lines g) act =
    omega (arith, grows_few most (front_at old.fronts g) (mine_at old.mines g) (front_at new.fronts g) (mine_at new.mines g) k.grows, share_here g (groups g) (lines g) act refl) in
    ⊎_elim (λ (at : n ≡ g). subst (λ (j : ℕ). length (mine_at new.mines j) ≤ length (mine_at old.mines j) + share_on j (groups j) (lines j) act) (sym at) here)
    (λ (apart : n ≢ g). omega (arith, ap length (k.others n apart).1)) (same_or_not n g)

pub went_one : (groups : ℕ → Group) (lines : ℕ → List WireLine) (act : Act) (old new : Holder) → Kept old new (group_number act) (act_share act (groups (group_number act)) (lines (group_number act))) → Went groups lines (act ∷ []) old new
went_one groups lines act old new k = record {
  number = k.number;
  rooms = k.rooms;
  fronts = λ n. goes_front n old new (kept_goes n (group_number act) (act_share act (groups (group_number act)) (lines (group_number act))) old new k);
  few = λ n. omega (arith, few_one groups lines act old new k n, shares_one n (groups n) (lines n) act);
}

-- one command more of a list

take_more : (acts : List Act) (k : ℕ) (act : Act) → k < length acts → act ≡ get_or acts k act → take k acts ++ act ∷ [] ≡ take (k + 1) acts
take_more acts k act lt is =
    let next : suc k ≡ k + 1 = omega arith in
    ap (λ (x : Act). take k acts ++ x ∷ []) is ∙ (sym (take-suc acts k act lt) ∙ ap (λ (j : ℕ). take j acts) next)

pub went_more : (groups : ℕ → Group) (lines : ℕ → List WireLine) (acts : List Act) (k : ℕ) (act : Act) (a b c : Holder) → k < length acts → act ≡ get_or acts k act → Went groups lines (take k acts) a b
    → Kept b c (group_number act) (act_share act (groups (group_number act)) (lines (group_number act))) → Went groups lines (take (k + 1) acts) a c
went_more groups lines acts k act a b c lt is w kept =
    subst (λ (xs : List Act). Went groups lines xs a c) (take_more acts k act lt is) (went_then groups lines (take k acts) (act ∷ []) a b c w (went_one groups lines act b c kept))

-- one command more, of all the commands
pub went_on : (groups : ℕ → Group) (lines : ℕ → List WireLine) (acts : List Act) (k : ℕ) (act : Act) (a b c : Holder) → k < length acts → act ≡ get_or acts k act → Went groups lines (take k acts) a b
    → Kept b c (group_number act) (act_share act (groups (group_number act)) (lines (group_number act))) → Went groups lines acts a c
went_on groups lines acts k act a b c lt is w kept = went_first groups lines acts (k + 1) a c (went_more groups lines acts k act a b c lt is w kept)

pub did_more : (groups : ℕ → Group) (lines : ℕ → List WireLine) (acts : List Act) (k : ℕ) (act : Act) (a b c : Holder) → k < length acts → act ≡ get_or acts k act → Did groups lines (take k acts) a b
    → Does groups lines act b c → Did groups lines (take (k + 1) acts) a c
did_more groups lines acts k act a b c lt is d does =
    subst (λ (xs : List Act). Did groups lines xs a c) (take_more acts k act lt is) (did_both groups lines (take k acts) (act ∷ []) a b c d (c, does, refl))

pub went_next : (groups : ℕ → Group) (lines : ℕ → List WireLine) (acts : List Act) (k : ℕ) (act : Act) (a b c : Holder) → k < length acts → act ≡ get_or acts k act → Went groups lines (take k acts) a b
    → Went groups lines (act ∷ []) b c → Went groups lines (take (k + 1) acts) a c
went_next groups lines acts k act a b c lt is w one =
    subst (λ (xs : List Act). Went groups lines xs a c) (take_more acts k act lt is) (went_then groups lines (take k acts) (act ∷ []) a b c w one)

-- a journal that was seen full

pub full_on : (groups : ℕ → Group) (lines : ℕ → List WireLine) (acts : List Act) (n : ℕ) (a b : Holder) → Went groups lines acts a b → HasFull a n → HasFull b n
full_on groups lines acts n a b w full = (omega (arith, full.0, w.rooms.0), omega (arith, full.1, prefix_length (front_at a.fronts n) (front_at b.fronts n) (w.fronts n)))

-- the commands of a list up to one that met a full journal
take_begins : (acts : List Act) (k : ℕ) → IsPrefix (take k acts) acts
take_begins acts zero = (acts, refl)
take_begins [] (suc k) = ([], refl)
take_begins (act ∷ acts) (suc k) = let rest = take_begins acts k in (rest.0, ap (λ (xs : List Act). act ∷ xs) rest.1)

pub stops_at : (groups : ℕ → Group) (lines : ℕ → List WireLine) (n : ℕ) (acts : List Act) (k : ℕ) (act : Act) (a b c : Holder) → k < length acts → act ≡ get_or acts k act → Did groups lines (take k acts) a b
    → n ≡ group_number act → MeetsFull groups lines act b c → StopsAt groups lines n acts a c
stops_at groups lines n acts k act a b c lt is d here met = record {
  done = take k acts;
  last = act;
  begins = subst (λ (xs : List Act). IsPrefix xs acts) (sym (take_more acts k act lt is)) (take_begins acts (k + 1));
  group = sym here;
  mid = b;
  did = d;
  met = met;
}

-- a pass whose command met a full journal has seen the journal of the command's group full
pub full_of : (act : Act) (n : ℕ) (p : Holder) → group_number act < length p.fronts → n ≡ group_number act → length (front_at p.fronts (group_number act)) ≡ MAX_ENTRIES → HasFull p n
full_of act n p lt is full = subst (λ (m : ℕ). HasFull p m) (sym is) (lt, omega (arith, full))
