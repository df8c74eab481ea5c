-- What a chain of commands that a pass did keeps of a group, and how it splits.
use Rattle.std.proofs.Common.{◌≡◌, ◌≢◌, ◌⊎◌, inl, inr, ⊎_elim, ℕ, zero, suc, ◌+◌, ◌<◌, ◌≤◌, Bool, true, false, List, [], ◌∷◌, ◌++◌, length, map, get_or, refl, ap, sym, subst, ◌∙◌, arith, append_assoc}
use Rattle.std.specs.Prelude.{All, ◌==◌, Some, slice_get, reverse, if◌then◌else◌}
use Rattle.std.proofs.lemmas.List.{append-nil, reverse-append, reverse-reverse}
use Rattle.std.proofs.lemmas.List.Elements.{All-cons}
use mathlib.Core.List.{IsPrefix}
use Rattle.st_net.specs.Groups.{Group}
use Rattle.st_net.proofs.Tests.{equal_numbers, equal_self}
use Rattle.st_event.specs.declared.act.Act.{Act}
use Rattle.st_event.specs.declared.act.Act.TheVariants.{Await}
use Rattle.st_event.specs.declared.journal.Entry.{Entry}
use Rattle.st_wire.specs.declared.line.WireLine.{WireLine}
use Rattle.st_event.proofs.Prefixes.{prefix_self, prefix_trans}
use Rattle.st_world.specs.Acts.{group_number}
use Rattle.st_service.specs.Acts.{ActEnters}
use Rattle.st_service.specs.Asked.{requests_of, requests_in}
use Rattle.st_service.specs.Closed.{IsWhole, Stands, positions}
use Rattle.st_run.specs.Jobs.{Does, Did, HaveRun, awaits_on}
use Rattle.st_service.specs.Kept.{Grows, Kept}
use Rattle.st_service.specs.Made.{Made}
use Rattle.st_service.specs.Opened.{IsFresh}
use Rattle.st_service.specs.Passes.{Holder, front_at, mine_at, reader_at}
use Rattle.st_run.specs.Requests.{acts_on}
use Rattle.st_service.specs.Shares.{act_share}
use Rattle.st_service.proofs.ChainLaws.{grows_on}

-- what holds of each item, item by item
abbrev pub Each : {X : Type 0} → (X → Type 0) → List X → Type 0
Each P [] = Unit {0}
Each P (x ∷ xs) = P x × Each P xs

pub each_all : {X : Type 0} (P : X → Type 0) (xs : List X) → Each P xs → All P xs
each_all P [] e = λ k d lt. absurd (omega (arith, lt))
each_all P (x ∷ xs) e = All-cons P x xs e.0 (each_all P xs e.1)

pub all_each : {X : Type 0} (P : X → Type 0) (xs : List X) → All P xs → Each P xs
all_each P [] a = tt
all_each P (x ∷ xs) a = (a 0 x (omega arith), all_each P xs (λ k d lt. a (suc k) d (omega (arith, lt))))

pub each_append : {X : Type 0} (P : X → Type 0) (xs ys : List X) → Each P xs → Each P ys → Each P (xs ++ ys)
each_append P [] ys a b = b
each_append P (x ∷ xs) ys a b = (a.0, each_append P xs ys a.1 b)

pub same_or_not : (m n : ℕ) → (m ≡ n) ⊎ (m ≢ n)
same_or_not zero zero = inl refl
same_or_not zero (suc n) = inr (λ e. absurd (omega (arith, e)))
same_or_not (suc m) zero = inr (λ e. absurd (omega (arith, e)))
same_or_not (suc m) (suc n) = ⊎_elim (λ (e : m ≡ n). inl (ap suc e)) (λ (no : m ≢ n). inr (λ e. no (omega (arith, e)))) (same_or_not m n)

-- a pass went on: its front of group n goes on, its list there has more behind what was there, and its readers go on
pub record GoesOn (n : ℕ) (old new : Holder) : Type 0 where
  pub most : ℕ
  pub number : new.number ≡ old.number
  pub rooms : (length new.fronts ≡ length old.fronts) × (length new.mines ≡ length old.mines)
  pub grows : Grows most (front_at old.fronts n) (mine_at old.mines n) (front_at new.fronts n) (mine_at new.mines n)
  pub readers : (k : ℕ) → IsPrefix (reader_at old.readers k).proposals (reader_at new.readers k).proposals

pub goes_front : (n : ℕ) (old new : Holder) → GoesOn n old new → IsPrefix (front_at old.fronts n) (front_at new.fronts n)
goes_front n old new g = g.grows.0

pub goes_mine : (n : ℕ) (old new : Holder) → GoesOn n old new → IsPrefix (mine_at old.mines n) (mine_at new.mines n)
goes_mine n old new g = (g.grows.1.0, sym g.grows.1.1)

pub grows_self : (front : List Made) (mine : List ℕ) → Grows 0 front mine front mine
grows_self front mine = (prefix_self front, ([], sym (append-nil mine), omega arith, tt))

pub goes_self : (n : ℕ) (a : Holder) → GoesOn n a a
goes_self n a = record {
  most = 0;
  number = refl;
  rooms = (refl, refl);
  grows = grows_self (front_at a.fronts n) (mine_at a.mines n);
  readers = λ k. prefix_self (reader_at a.readers k).proposals;
}

pub goes_then : (n : ℕ) (a b c : Holder) → GoesOn n a b → GoesOn n b c → GoesOn n a c
goes_then n a b c p q = record {
  most = p.most + q.most;
  number = q.number ∙ p.number;
  rooms = (q.rooms.0 ∙ p.rooms.0, q.rooms.1 ∙ p.rooms.1);
  grows = grows_on p.most q.most (p.most + q.most) (front_at a.fronts n) (front_at b.fronts n) (front_at c.fronts n) (mine_at a.mines n) (mine_at b.mines n) (mine_at c.mines n) (omega arith) p.grows q.grows;
  readers = λ k. prefix_trans (reader_at a.readers k).proposals (reader_at b.readers k).proposals (reader_at c.readers k).proposals (p.readers k) (q.readers k);
}

kept_here : (n g most : ℕ) (old new : Holder) → n ≡ g → Kept old new g most → GoesOn n old new
kept_here n g most old new at k = record {
  most = most;
  number = k.number;
  rooms = k.rooms;
  grows = subst (λ (j : ℕ). Grows most (front_at old.fronts j) (mine_at old.mines j) (front_at new.fronts j) (mine_at new.mines j)) (sym at) k.grows;
  readers = k.readers;
}

kept_there : (n g most : ℕ) (old new : Holder) → n ≢ g → Kept old new g most → GoesOn n old new
kept_there n g most old new apart k =
    let f = front_at old.fronts n in
    let m = mine_at old.mines n in
    let o = k.others n apart in
    record {
      most = 0;
      number = k.number;
      rooms = k.rooms;
      grows = subst (λ (after : List Made). Grows 0 f m after (mine_at new.mines n)) (sym o.0) (subst (λ (now : List ℕ). Grows 0 f m f now) (sym o.1) (grows_self f m));
      readers = k.readers;
    }

-- a call on any group
pub kept_goes : (n g most : ℕ) (old new : Holder) → Kept old new g most → GoesOn n old new
kept_goes n g most old new k = ⊎_elim (λ (at : n ≡ g). kept_here n g most old new at k) (λ (apart : n ≢ g). kept_there n g most old new apart k) (same_or_not n g)

-- a command on any group
pub does_goes : (groups : ℕ → Group) (lines : ℕ → List WireLine) (n : ℕ) (act : Act) (old new : Holder) → Does groups lines act old new → GoesOn n old new
does_goes groups lines n act old new d = kept_goes n (group_number act) (act_share act (groups (group_number act)) (lines (group_number act))) old new d.kept

-- along a chain each front begins the last one, and each list of places
pub did_goes : (groups : ℕ → Group) (lines : ℕ → List WireLine) (n : ℕ) (acts : List Act) (old new : Holder) → Did groups lines acts old new → GoesOn n old new
did_goes groups lines n [] old new d = subst (λ (h : Holder). GoesOn n old h) (sym d) (goes_self n old)
did_goes groups lines n (act ∷ acts) old new d = goes_then n old d.0 new (does_goes groups lines n act old d.0 d.1) (did_goes groups lines n acts d.0 new d.2)

-- a command on another group changes nothing of this one
pub does_other : (groups : ℕ → Group) (lines : ℕ → List WireLine) (n : ℕ) (act : Act) (old new : Holder) → n ≢ group_number act → Does groups lines act old new → (front_at new.fronts n ≡ front_at old.fronts n) × (mine_at new.mines n ≡ mine_at old.mines n)
does_other groups lines n act old new apart d = d.kept.others n apart

pub did_others : (groups : ℕ → Group) (lines : ℕ → List WireLine) (n : ℕ) (acts : List Act) (old new : Holder) → Each (λ act. n ≢ group_number act) acts → Did groups lines acts old new → (front_at new.fronts n ≡ front_at old.fronts n) × (mine_at new.mines n ≡ mine_at old.mines n)
did_others groups lines n [] old new apart d = (ap (λ (h : Holder). front_at h.fronts n) d, ap (λ (h : Holder). mine_at h.mines n) d)
did_others groups lines n (act ∷ acts) old new apart d =
    let one = does_other groups lines n act old d.0 apart.0 d.1 in
    let rest = did_others groups lines n acts d.0 new apart.1 d.2 in
    (rest.0 ∙ one.0, rest.1 ∙ one.1)

-- a chain splits at a middle holder
pub did_append : (groups : ℕ → Group) (lines : ℕ → List WireLine) (xs ys : List Act) (old new : Holder) → Did groups lines (xs ++ ys) old new → (mid : Holder) × Did groups lines xs old mid × Did groups lines ys mid new
did_append groups lines [] ys old new d = (old, refl, d)
did_append groups lines (act ∷ xs) ys old new d =
    let rest = did_append groups lines xs ys d.0 new d.2 in
    (rest.0, (d.0, d.1, rest.1), rest.2)

pub did_both : (groups : ℕ → Group) (lines : ℕ → List WireLine) (xs ys : List Act) (old mid new : Holder) → Did groups lines xs old mid → Did groups lines ys mid new → Did groups lines (xs ++ ys) old new
did_both groups lines [] ys old mid new p q = subst (λ (h : Holder). Did groups lines ys h new) p q
did_both groups lines (act ∷ xs) ys old mid new p q = (p.0, p.1, did_both groups lines xs ys p.0 mid new p.2 q)

-- a chain at one of its commands
pub record DidAt (groups : ℕ → Group) (lines : ℕ → List WireLine) (before : List Act) (act : Act) (behind : List Act) (start last : Holder) : Type 0 where
  pub old : Holder
  pub mid : Holder
  pub before_it : Did groups lines before start old
  pub does : Does groups lines act old mid
  pub behind_it : Did groups lines behind mid last

pub did_at : (groups : ℕ → Group) (lines : ℕ → List WireLine) (acts before : List Act) (act : Act) (behind : List Act) (start last : Holder) → acts ≡ before ++ act ∷ behind → Did groups lines acts start last → DidAt groups lines before act behind start last
did_at groups lines acts before act behind start last is d =
    let s = did_append groups lines before (act ∷ behind) start last (subst (λ (xs : List Act). Did groups lines xs start last) is d) in
    record { old = s.0; mid = s.2.0; before_it = s.1; does = s.2.1; behind_it = s.2.2 }

-- a chain at its last command, where the commands stand newest first
pub record DidLast (groups : ℕ → Group) (lines : ℕ → List WireLine) (before : List Act) (act : Act) (start new : Holder) : Type 0 where
  pub old : Holder
  pub did : Did groups lines (reverse before) start old
  pub does : Does groups lines act old new

pub did_last : (groups : ℕ → Group) (lines : ℕ → List WireLine) (before : List Act) (act : Act) (start new : Holder) → Did groups lines (reverse (act ∷ before)) start new → DidLast groups lines before act start new
did_last groups lines before act start new d =
    let s = did_append groups lines (reverse before) (act ∷ []) start new (subst (λ (xs : List Act). Did groups lines xs start new) (reverse-append (act ∷ []) before) d) in
    record { old = s.0; did = s.1; does = subst (λ (h : Holder). Does groups lines act s.0 h) (sym s.2.2) s.2.1 }

-- a chain as one group has it: what each command on it enters there

abbrev pub EntersAll : Group → List WireLine → ℕ → List Act → List Made → List ℕ → List Made → List ℕ → Type 0
EntersAll g lines number [] before was after now = (after ≡ before) × (now ≡ was)
EntersAll g lines number (act ∷ acts) before was after now =
    (mid : List Made) × (got : List ℕ) × ActEnters act g lines number before was mid got × Grows (act_share act g lines) before was mid got × EntersAll g lines number acts mid got after now

enters_moved : (g : Group) (lines : List WireLine) (number : ℕ) (acts : List Act) (before mid : List Made) (was got : List ℕ) (after : List Made) (now : List ℕ) → mid ≡ before → got ≡ was → EntersAll g lines number acts mid got after now → EntersAll g lines number acts before was after now
enters_moved g lines number acts before mid was got after now p q e = subst (λ (f : List Made). EntersAll g lines number acts f was after now) p (subst (λ (m : List ℕ). EntersAll g lines number acts mid m after now) q e)

did_one : (groups : ℕ → Group) (lines : ℕ → List WireLine) (n : ℕ) (act : Act) (acts : List Act) (number : ℕ) (old mid new : Holder) (b : Bool) → (group_number act == n) ≡ b → old.number ≡ number → Does groups lines act old mid
    → EntersAll (groups n) (lines n) number (acts_on n acts) (front_at mid.fronts n) (mine_at mid.mines n) (front_at new.fronts n) (mine_at new.mines n)
    → EntersAll (groups n) (lines n) number (if b then act ∷ acts_on n acts else acts_on n acts) (front_at old.fronts n) (mine_at old.mines n) (front_at new.fronts n) (mine_at new.mines n)
did_one groups lines n act acts number old mid new true at is d rest =
    let here : group_number act ≡ n = equal_numbers (group_number act) n at in (
      front_at mid.fronts n,
      mine_at mid.mines n,
      subst (λ (a : ℕ). ActEnters act (groups n) (lines n) a (front_at old.fronts n) (mine_at old.mines n) (front_at mid.fronts n) (mine_at mid.mines n)) is
          (subst (λ (k : ℕ). ActEnters act (groups k) (lines k) old.number (front_at old.fronts k) (mine_at old.mines k) (front_at mid.fronts k) (mine_at mid.mines k)) here d.done.entered),
      subst (λ (k : ℕ). Grows (act_share act (groups k) (lines k)) (front_at old.fronts k) (mine_at old.mines k) (front_at mid.fronts k) (mine_at mid.mines k)) here d.kept.grows,
      rest,
    )
did_one groups lines n act acts number old mid new false other is d rest =
    let apart : n ≢ group_number act = λ e. let is_it : (group_number act == n) ≡ true = ap (λ (k : ℕ). k == n) (sym e) ∙ equal_self n in cc in
    let o = does_other groups lines n act old mid apart d in
    enters_moved (groups n) (lines n) number (acts_on n acts) (front_at old.fronts n) (front_at mid.fronts n) (mine_at old.mines n) (mine_at mid.mines n) (front_at new.fronts n) (mine_at new.mines n) o.0 o.1 rest

pub did_enters : (groups : ℕ → Group) (lines : ℕ → List WireLine) (n : ℕ) (acts : List Act) (number : ℕ) (old new : Holder) → old.number ≡ number → Did groups lines acts old new
    → EntersAll (groups n) (lines n) number (acts_on n acts) (front_at old.fronts n) (mine_at old.mines n) (front_at new.fronts n) (mine_at new.mines n)
did_enters groups lines n [] number old new is d = (ap (λ (h : Holder). front_at h.fronts n) d, ap (λ (h : Holder). mine_at h.mines n) d)
did_enters groups lines n (act ∷ acts) number old new is d = did_one groups lines n act acts number old d.0 new (group_number act == n) refl is d.1
    (did_enters groups lines n acts number d.0 new (d.1.kept.number ∙ is) d.2)

-- along a chain the front goes on, and so does the list of places
pub enters_grows : (g : Group) (lines : List WireLine) (number : ℕ) (acts : List Act) (before : List Made) (was : List ℕ) (after : List Made) (now : List ℕ) → EntersAll g lines number acts before was after now → (most : ℕ) × Grows most before was after now
enters_grows g lines number [] before was after now e = (0, subst (λ (f : List Made). Grows 0 before was f now) (sym e.0) (subst (λ (m : List ℕ). Grows 0 before was before m) (sym e.1) (grows_self before was)))
enters_grows g lines number (act ∷ acts) before was after now e =
    let rest = enters_grows g lines number acts e.0 e.1 after now e.4 in
    (act_share act g lines + rest.0, grows_on (act_share act g lines) rest.0 (act_share act g lines + rest.0) before e.0 after was e.1 now (omega arith) e.3 rest.1)

-- the awaits at the end

apart_awaits : (n k : ℕ) → k ≤ n → Each (λ act. n ≢ group_number act) (awaits_on k)
apart_awaits n zero le = tt
apart_awaits n (suc k) le = each_append (λ act. n ≢ group_number act) (awaits_on k) (Await k ∷ []) (apart_awaits n k (omega (arith, le))) (λ e. absurd (omega (arith, le, e)), tt)

-- the awaits on other groups behind that on group n
pub record AwaitsAround (rooms n : ℕ) : Type 0 where
  pub behind : List Act
  pub are : awaits_on rooms ≡ awaits_on n ++ Await n ∷ behind
  pub apart : Each (λ act. n ≢ group_number act) behind

awaits_next : (rooms n : ℕ) → n < rooms → AwaitsAround rooms n → AwaitsAround (suc rooms) n
awaits_next rooms n lt a = record {
  behind = a.behind ++ Await rooms ∷ [];
  are = ap (λ (xs : List Act). xs ++ Await rooms ∷ []) a.are ∙ append_assoc (awaits_on n) (Await n ∷ a.behind) (Await rooms ∷ []);
  apart = each_append (λ act. n ≢ group_number act) a.behind (Await rooms ∷ []) a.apart (λ e. absurd (omega (arith, lt, e)), tt);
}

below_or_at : (n k : ℕ) → n < suc k → (n < k) ⊎ (n ≡ k)
below_or_at zero zero lt = inr refl
below_or_at zero (suc k) lt = inl (omega arith)
below_or_at (suc n) zero lt = absurd (omega (arith, lt))
below_or_at (suc n) (suc k) lt = ⊎_elim (λ (t : n < k). inl (omega (arith, t))) (λ (t : n ≡ k). inr (ap suc t)) (below_or_at n k (omega (arith, lt)))

pub awaits_around : (rooms n : ℕ) → n < rooms → AwaitsAround rooms n
awaits_around zero n lt = absurd (omega (arith, lt))
awaits_around (suc rooms) n lt = ⊎_elim
    (λ (t : n < rooms). awaits_next rooms n t (awaits_around rooms n t))
    (λ (t : n ≡ rooms). subst (AwaitsAround (suc rooms)) (sym t) (record { behind = []; are = refl; apart = tt }))
    (below_or_at n rooms lt)

-- of the awaits behind a script one is on group n
filter_none : (n : ℕ) (acts : List Act) → Each (λ act. n ≢ group_number act) acts → acts_on n acts ≡ []
filter_none n [] a = refl
filter_none n (act ∷ acts) a = none_of (group_number act == n) refl (filter_none n acts a.1)
  where
    none_of : (b : Bool) → (group_number act == n) ≡ b → acts_on n acts ≡ [] → (if b then act ∷ acts_on n acts else acts_on n acts) ≡ []
    none_of true e rest = absurd (a.0 (sym (equal_numbers (group_number act) n e)))
    none_of false e rest = rest

-- a pass of a service that was closed

-- what a pass has done when its script and the awaits are done: its number, and what it has of a group whose journal was told whole
pub record Ended (groups : ℕ → Group) (lines : ℕ → List WireLine) (rooms number n : ℕ) (acts : List Act) (front : List Made) (p : Holder) : Type 0 where
  pub start : Holder
  pub fresh : IsFresh number rooms start
  pub did : Did groups lines (acts ++ awaits_on rooms) start p
  pub number_is : p.number ≡ number
  pub stands : Stands p front n
  pub made : mine_at p.mines n ≡ positions number 0 front
  pub asked : requests_of number 0 front ≡ requests_in front (mine_at p.mines n)

get_below : {X : Type 0} (xs : List X) (k : ℕ) (x : X) → slice_get xs k ≡ Some x → (k < length xs) × (get_or xs k x ≡ x)
get_below [] k x e = absurd cc
get_below (y ∷ xs) zero x e = (omega arith, cc)
get_below (y ∷ xs) (suc k) x e = let r = get_below xs k x e in (omega (arith, r.0), r.1)

pub ended : (groups : ℕ → Group) (lines : ℕ → List WireLine) (rooms : ℕ) (scripts : List (List Act)) (passes : List Holder) (n : ℕ) (entries : List Entry) (front : List Made) (a : ℕ) (acts : List Act) (p : Holder)
    → HaveRun groups lines rooms scripts passes → IsWhole (groups n) passes n entries front → slice_get scripts a ≡ Some acts → slice_get passes a ≡ Some p → Ended groups lines rooms a n acts front p
ended groups lines rooms scripts passes n entries front a acts p run whole script pass =
    let done = run.each a acts p script pass in
    let at = get_below passes a p pass in
    let is : get_or passes a p ≡ p = at.1 in
    record {
      start = done.start;
      fresh = done.fresh;
      did = done.did;
      number_is = (did_goes groups lines n (acts ++ awaits_on rooms) done.start p done.did).number ∙ done.fresh.numbered;
      stands = subst (λ (h : Holder). Stands h front n) is (whole.stands a p at.0);
      made = subst (λ (h : Holder). mine_at h.mines n ≡ positions a 0 front) is (whole.made a p at.0);
      asked = subst (λ (h : Holder). requests_of a 0 front ≡ requests_in front (mine_at h.mines n)) is (whole.asked a p at.0);
    }

-- what the pass has of the group, from nothing
pub ended_enters : (groups : ℕ → Group) (lines : ℕ → List WireLine) (rooms number n : ℕ) (acts : List Act) (front : List Made) (p : Holder) → Ended groups lines rooms number n acts front p
    → EntersAll (groups n) (lines n) number (acts_on n (acts ++ awaits_on rooms)) [] [] (front_at p.fronts n) (mine_at p.mines n)
ended_enters groups lines rooms number n acts front p e = enters_moved (groups n) (lines n) number (acts_on n (acts ++ awaits_on rooms)) [] (front_at e.start.fronts n) [] (mine_at e.start.mines n) (front_at p.fronts n) (mine_at p.mines n) (e.fresh.unseen n) (e.fresh.unmade n)
    (did_enters groups lines n (acts ++ awaits_on rooms) number e.start p e.fresh.numbered e.did)

-- the entries of the front are those of the journal
pub front_entries : (g : Group) (passes : List Holder) (n : ℕ) (entries : List Entry) (front : List Made) → IsWhole g passes n entries front → map (λ (m : Made). m.entry) front ≡ entries
front_entries g passes n entries front w = sym (reverse-reverse (map (λ (m : Made). m.entry) front)) ∙ (ap reverse w.journal ∙ reverse-reverse entries)
