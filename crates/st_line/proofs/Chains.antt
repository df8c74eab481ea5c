-- The chains of a book: what the writer of a line knows of it, and that each step keeps the rule.
use Rattle.std.proofs.Common.{◌≡◌, ◌⊎◌, ℕ, ◌<◌, ◌==◌, ◌&&◌, Bool, true, false, cond, List, [], ◌∷◌, ◌++◌, length, is_some, refl, ap, sym, ◌∙◌, subst, arith, inl, inr, append_assoc, length-append, slice_set, filter_map, Option, None, Some, nat_lt}
use Rattle.std.proofs.lemmas.List.{append-nil, get_or-set_same, get_or-set_other, get_or_append_left, get_or_past, length-set}
use Rattle.std.proofs.lemmas.List.Elements.{filter-append, filter_map-append}
use Rattle.std.specs.List.{cons_option}
use Rattle.std.proofs.lemmas.Bool.Decides.{nat_tests}
use mathlib.Core.List.{IsPrefix}
use prog.Atomic.{either}
use Rattle.logbook.specs.Pages.{Cell, cell, adds, gives, keeps, Nib, no_nib, may_write, step, Moves}
use Rattle.st_line.specs.declared.link.Link.{Link}
use Rattle.st_line.specs.LineInside.{links_of, entries_of, last_line_or, last_next_or, right_of, IsKept, Deals, Adds, Looks}

by_test : {X : Type 0} (b : Bool) → (b ≡ true → X) → (b ≡ false → X) → X
by_test true f g = f refl
by_test false f g = g refl

both : (a b : Bool) → (a && b) ≡ true → (a ≡ true) × (b ≡ true)
both true true e = (refl, refl)
both true false e = absurd (cc e)
both false b e = absurd (cc e)

-- a cell at home stays so when a cell is set at home, and when cells come behind
home_set : (cs : List Cell) (i k x : ℕ) → i < length cs → (cell cs k).1 ≡ true → (cell (slice_set cs i (x, true)) k).1 ≡ true
home_set cs i k x lt home = by_test (k == i)
    (λ is. let here : k ≡ i = grind (arith, nat_tests) in
    subst (λ j. (cell (slice_set cs i (x, true)) j).1 ≡ true) (sym here) (ap (λ (c : Cell). c.1) (get_or-set_same cs i (x, true) (0, false) lt)))
    (λ is. ap (λ (c : Cell). c.1) (get_or-set_other cs i k (x, true) (0, false) (λ e. grind (arith, nat_tests))) ∙ home)

some_cell : (cs : List Cell) → (cell cs 0).1 ≡ true → 0 < length cs
some_cell [] home = absurd (cc home)
some_cell (c ∷ cs) home = omega arith

home_behind : (cs ds : List Cell) (k : ℕ) → (cell cs k).1 ≡ true → (cell (cs ++ ds) k).1 ≡ true
home_behind cs ds k home = by_test (nat_lt k (length cs))
    (λ is. ap (λ (c : Cell). c.1) (get_or_append_left cs ds (0, false) k (grind (arith, nat_tests))) ∙ home)
    (λ is. absurd (cc (ap (λ (c : Cell). c.1) (get_or_past cs k (0, false) (grind (arith, nat_tests))), home)))

cut_more : {A : Type 0} (z x : A) (all xs : List A) (l a : A) → z ≡ x → ((a ≡ l) × (all ≡ xs)) ⊎ ((zs : List A) × (all ≡ xs ++ l ∷ zs)) → ((a ≡ l) × (z ∷ all ≡ x ∷ xs)) ⊎ ((zs : List A) × (z ∷ all ≡ x ∷ (xs ++ l ∷ zs)))
cut_more z x all xs l a e (inl p) = inl (p.0, cc (e, p.1))
cut_more z x all xs l a e (inr p) = inr (p.0, cc (e, p.1))

-- where an element stands in a list that has one more at its end
pub cut : {A : Type 0} (all : List A) (a : A) (xs ys : List A) (l : A) → all ++ a ∷ [] ≡ xs ++ l ∷ ys → ((a ≡ l) × (all ≡ xs)) ⊎ ((zs : List A) × (all ≡ xs ++ l ∷ zs))
cut [] a [] ys l e = inl (cc e, refl)
cut [] a (x ∷ xs) ys l e = absurd (omega (arith, ap length e, length-append xs (l ∷ ys)))
cut (z ∷ all) a [] ys l e = inr (all, cc e)
cut (z ∷ all) a (x ∷ xs) ys l e = cut_more z x all xs l a (cc e) (cut all a xs ys l (cc e))

module _ {E : Type 0} where
  abbrev pub shown : List (Link E) → List (Link E)
  shown links = []

  abbrev pub moved : List (Link E) → List (Link E) → ℕ → Type 0
  moved xs ys n = Unit {0}

  abbrev pub naming : ℕ → Link E
  naming k = record { line = k; entry = None; next = k }

  pub links_append : (k : ℕ) (xs ys : List (Link E)) → links_of k (xs ++ ys) ≡ links_of k xs ++ links_of k ys
  links_append k xs ys = filter-append (λ (l : Link E). is_some l.entry && (l.line == k)) xs ys

  pub entries_prefix : (k : ℕ) (xs ys : List (Link E)) → IsPrefix xs ys → IsPrefix (entries_of k xs) (entries_of k ys)
  entries_prefix k xs ys p = (entries_of k p.0, sym (filter_map-append (λ (l : Link E). l.entry) (links_of k xs) (links_of k p.0)) ∙ (ap (filter_map (λ (l : Link E). l.entry)) (sym (links_append k xs p.0)) ∙ ap (entries_of k) p.1))

  pub later : (xs ys zs : List (Link E)) → IsPrefix xs ys → IsPrefix ys zs → IsPrefix xs zs
  later xs ys zs p q = (p.0 ++ q.0, sym (append_assoc xs p.0 q.0) ∙ (ap (λ ls. ls ++ q.0) p.1 ∙ q.1))

  -- a link of another line, or with no entry, changes nothing of this one
  off : (k : ℕ) (xs : List (Link E)) (l : Link E) → (is_some l.entry && (l.line == k)) ≡ false → links_of k (xs ++ l ∷ []) ≡ links_of k xs
  off k xs l is = links_append k xs (l ∷ []) ∙ (ap (λ b. links_of k xs ++ cond b (l ∷ []) []) is ∙ append-nil (links_of k xs))

  on : (k : ℕ) (xs : List (Link E)) (l : Link E) → (is_some l.entry && (l.line == k)) ≡ true → links_of k (xs ++ l ∷ []) ≡ links_of k xs ++ l ∷ []
  on k xs l is = links_append k xs (l ∷ []) ∙ ap (λ b. links_of k xs ++ cond b (l ∷ []) []) is

  -- where the word that the next link would bring home is not, there is no next link
  none_more : (cs : List Cell) (links v rest : List (Link E)) (k : ℕ) → IsKept cs links → links ≡ v ++ rest → (cell cs (right_of k v)).1 ≡ false → links_of k links ≡ links_of k v
  none_more cs links v [] k kept all away = ap (links_of k) (all ∙ append-nil v)
  none_more cs links v (l ∷ rest) k kept all away = by_test (is_some l.entry && (l.line == k))
      (λ is. let parts = both (is_some l.entry) (l.line == k) is in
      let here : l.line ≡ k = grind (arith, nat_tests, parts.1) in
      let home : (cell cs (right_of k v)).1 ≡ true = subst (λ j. (cell cs (right_of j v)).1 ≡ true) here (kept.used v rest l all parts.0) in
      absurd (cc (home, away)))
      (λ is. none_more cs links (v ++ l ∷ []) rest k kept (all ∙ sym (append_assoc v (l ∷ []) rest)) (subst (λ ls. (cell cs (last_next_or k ls)).1 ≡ false) (sym (off k v l is)) away) ∙ off k v l is)

  used_more : (cs ds : List Cell) (links : List (Link E)) (a : Link E) (xs : List (Link E)) (l : Link E) → IsKept cs links → ((k : ℕ) → (cell cs k).1 ≡ true → (cell ds k).1 ≡ true) → (is_some a.entry ≡ true → (cell ds (right_of a.line links)).1 ≡ true) → is_some l.entry ≡ true → ((a ≡ l) × (links ≡ xs)) ⊎ ((zs : List (Link E)) × (links ≡ xs ++ l ∷ zs)) → (cell ds (right_of l.line xs)).1 ≡ true
  used_more cs ds links a xs l kept stay new is (inl p) =
      let here : (cell ds (right_of l.line links)).1 ≡ true = subst (λ (m : Link E). is_some m.entry ≡ true → (cell ds (right_of m.line links)).1 ≡ true) p.0 new is in
      subst (λ ls. (cell ds (right_of l.line ls)).1 ≡ true) p.1 here
  used_more cs ds links a xs l kept stay new is (inr p) = stay (right_of l.line xs) (kept.used xs p.0 l p.1 is)

  -- the rule goes on where cells at home stay so, and a new entry brings its word home
  kept_more : (cs ds : List Cell) (links : List (Link E)) (a : Link E) → IsKept cs links → ((k : ℕ) → (cell cs k).1 ≡ true → (cell ds k).1 ≡ true) → (is_some a.entry ≡ true → (cell ds (right_of a.line links)).1 ≡ true) → IsKept ds (links ++ a ∷ [])
  kept_more cs ds links a kept stay new = record {
    home = stay 0 kept.home;
    used = λ xs ys l e is. used_more cs ds links a xs l kept stay new is (cut links a xs ys l e);
  }

  last_line_snoc : (k : ℕ) (links : List (Link E)) (a : Link E) → last_line_or k (links ++ a ∷ []) ≡ a.line
  last_line_snoc k [] a = refl
  last_line_snoc k (l ∷ links) a = last_line_snoc l.line links a

  last_next_snoc : (k : ℕ) (links : List (Link E)) (a : Link E) → last_next_or k (links ++ a ∷ []) ≡ a.next
  last_next_snoc k [] a = refl
  last_next_snoc k (l ∷ links) a = last_next_snoc l.next links a

  none_before : (xs ys : List (Link E)) (l : Link E) → [] ≡ xs ++ l ∷ ys → ⊥
  none_before xs ys l e = absurd (omega (arith, ap length e, length-append xs (l ∷ ys)))

  -- a new book has two words, and no link
  pub kept_new : (cs : List Cell) → cs ≡ (0, true) ∷ (0, true) ∷ [] → IsKept {E = E} cs []
  kept_new cs e = subst (λ ds. IsKept {E = E} ds []) (sym e) (record { home = refl; used = λ xs ys l all is. absurd (none_before xs ys l all) })

  pub added : (k : ℕ) (vs ws : List (Link E)) (a : Link E) (x : E) → links_of k ws ≡ links_of k vs ++ a ∷ [] → a.entry ≡ Some x → entries_of k ws ≡ entries_of k vs ++ x ∷ []
  added k vs ws a x all is = ap (filter_map (λ (l : Link E). l.entry)) all ∙ (filter_map-append (λ (l : Link E). l.entry) (links_of k vs) (a ∷ []) ∙ ap (λ o. entries_of k vs ++ cons_option o []) is)

  pub next_added : (k : ℕ) (vs ws : List (Link E)) (a : Link E) → links_of k ws ≡ links_of k vs ++ a ∷ [] → right_of k ws ≡ a.next
  next_added k vs ws a all = ap (λ ls. last_next_or k ls) all ∙ last_next_snoc k (links_of k vs) a

  -- a word is added to the book, and a link that names a line by it
  pub deals_moves : (v : List (Link E)) (state : Option ℕ) (ask : Link E)
      → Moves IsKept shown moved 0 (v, (no_nib, state)) (λ n. either (n == 0) 0 n) (Deals (step 0 0 0 ask) (v, (no_nib, state)))
  deals_moves v state ask cs links kept pre away =
      let n = length cs in
      let some : 0 < length cs = some_cell cs kept.home in
      let x = either ((cell cs 0).0 == 0) 0 (cell cs 0).0 in
      let set = slice_set cs 0 (x, true) in
      let more : IsKept (set ++ (0, false) ∷ []) (links ++ naming n ∷ []) = kept_more cs (set ++ (0, false) ∷ []) links (naming n) kept
      (λ k home. home_behind set ((0, false) ∷ []) k (home_set cs 0 k x some home)) (λ e. absurd (cc e)) in
      let gone : (cell cs n).1 ≡ false = ap (λ (c : Cell). c.1) (get_or_past cs n (0, false) (omega arith)) in
      let none : links_of n (links ++ naming n ∷ []) ≡ [] = off n links (naming n) refl ∙ none_more cs links [] links n kept refl gone in
      (some, kept.home, (adds, naming n ∷ [], state, tt, more, inl (refl, refl), (refl, last_line_snoc 0 links (naming n), none)))

  whole : (xs v links ys zs : List (Link E)) → xs ++ ys ≡ v → v ++ zs ≡ links → links ≡ xs ++ (ys ++ zs)
  whole xs v links ys zs q p = sym p ∙ (ap (λ w. w ++ zs) (sym q) ∙ append_assoc xs ys zs)

  -- whoever has the pen of the word that comes next on a line knows all its links
  known_all : (cs : List Cell) (links v xs : List (Link E)) (key k : ℕ) → IsKept cs links → IsPrefix v links → IsPrefix xs v → right_of k xs ≡ key → (cell cs key).1 ≡ false → links_of k links ≡ links_of k xs
  known_all cs links v xs key k kept pre q at away = none_more cs links xs (q.0 ++ pre.0) k kept (whole xs v links q.0 pre.0 q.1 pre.1) (subst (λ j. (cell cs j).1 ≡ false) (sym at) away)

  -- an entry is added to a line by the writer, whose pen's word it brings home
  pub adds_moves : (v : List (Link E)) (p : Nib) (state : Option ℕ) (ask : Link E) (vs : List (Link E)) → p.right ≡ may_write → is_some ask.entry ≡ true → IsPrefix vs v → right_of ask.line vs ≡ p.key
      → Moves IsKept shown moved 0 (v, (p, state)) (λ n. either (n == 0) 0 n) (Adds (step 0 0 0 ask) (v, (p, state)))
  adds_moves v p state ask vs right is of key cs links kept pre away =
      let there = away right in
      let some : 0 < length cs = some_cell cs kept.home in
      let x = either ((cell cs 0).0 == 0) 0 (cell cs 0).0 in
      let set = slice_set cs 0 (x, true) in
      let now = slice_set set p.key (p.value, true) in
      let known : (us : List (Link E)) → IsPrefix us v → right_of ask.line us ≡ p.key → links_of ask.line links ≡ links_of ask.line us = λ us q at. known_all cs links v us p.key ask.line kept pre q at there.1 in
      let mine : right_of ask.line links ≡ p.key = ap (λ ls. last_next_or ask.line ls) (known vs of key) ∙ key in
      let lt : p.key < length set = omega (arith, there.0, length-set cs 0 (x, true)) in
      let home : (cell now (right_of ask.line links)).1 ≡ true = subst (λ k. (cell now k).1 ≡ true) (sym mine) (ap (λ (c : Cell). c.1) (get_or-set_same set p.key (p.value, true) (0, false) lt)) in
      let more : IsKept now (links ++ ask ∷ []) = kept_more cs now links ask kept
      (λ k h. home_set set p.key k p.value lt (home_set cs 0 k x some h)) (λ e. home) in
      let test : (is_some ask.entry && (ask.line == ask.line)) ≡ true = grind (arith, nat_tests, is) in
      (some, kept.home, (gives, ask ∷ [], state, right, more, inl (refl, refl), λ us q at. on ask.line links ask test ∙ ap (λ ls. ls ++ ask ∷ []) (known us q at)))

  -- the writer looks, whose pen's word is away: it has all of its line
  pub looks_moves : (v : List (Link E)) (p : Nib) (state : Option ℕ) (ask : Link E) → p.right ≡ may_write
      → Moves IsKept shown moved 0 (v, (p, state)) (λ n. either (n == 0) 0 n) (Looks (step 0 0 0 ask) (v, (p, state)))
  looks_moves v p state ask right cs links kept pre away =
      let there = away right in
      let some : 0 < length cs = some_cell cs kept.home in
      let x = either ((cell cs 0).0 == 0) 0 (cell cs 0).0 in
      let set = slice_set cs 0 (x, true) in
      let same : IsKept set links = record { home = home_set cs 0 0 x some kept.home; used = λ xs ys l all is. home_set cs 0 (right_of l.line xs) x some (kept.used xs ys l all is) } in
      let none : links ≡ links ++ [] = sym (append-nil links) in
      let known : (k : ℕ) (us : List (Link E)) → IsPrefix us v → right_of k us ≡ p.key → links_of k (links ++ []) ≡ links_of k us =
      λ k us q at. subst (λ ls. links_of k ls ≡ links_of k us) none (known_all cs links v us p.key k kept pre q at there.1) in
      (some, kept.home, (keeps, [], state, tt, subst (λ ls. IsKept set ls) none same, inl (refl, refl), (refl, known)))
