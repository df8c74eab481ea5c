-- Worked examples: two lines of one book, whose links stand mixed.
use Rattle.std.proofs.Common.{◌≡◌, ◌++◌, ℕ, List, [], ◌∷◌, length, true, false, Some, None, is_some, refl, ap, sym, subst, arith, length-append}
use Rattle.std.specs.Prelude.{filter_map, sum}
use mathlib.Core.List.{IsPrefix}
use Rattle.logbook.specs.Pages.{Cell, View, cell, no_nib, nib, may_make, may_write, step}
use Rattle.st_line.specs.declared.link.Link.{Link}
use Rattle.st_line.specs.LineInside.{links_of, entries_of, last_line, right_of, IsKept, Deals, Adds}
use Rattle.st_line.proofs.Chains.{naming}

-- an entry of a line, with the word that it names
abbrev entry : ℕ → ℕ → ℕ → Link ℕ
entry k x n = record { line = k; entry = Some x; next = n }

-- line 2 has the entries 7 and 8, and line 3 has 9; words 4 to 6 were dealt for them
abbrev before : List (Link ℕ)
before = naming 2 ∷ naming 3 ∷ naming 4 ∷ entry 2 7 4 ∷ naming 5 ∷ entry 3 9 5 ∷ []

abbrev mixed : List (Link ℕ)
mixed = before ++ naming 6 ∷ entry 2 8 6 ∷ []

pub of_the_first : entries_of 2 mixed ≡ 7 ∷ 8 ∷ []
of_the_first = refl

pub of_the_second : entries_of 3 mixed ≡ 9 ∷ []
of_the_second = refl

-- a word that was dealt for an entry names a line too, which has none
pub of_no_entry : entries_of 4 mixed ≡ []
of_no_entry = refl

-- the next entry of a line brings home the word that its last one names, and the first brings home the line's own
pub next_of_the_first : right_of 2 mixed ≡ 6
next_of_the_first = refl

pub next_of_one_with_no_entry : right_of 4 mixed ≡ 4
next_of_one_with_no_entry = refl

pub named_last : last_line {E = ℕ} (naming 2 ∷ naming 3 ∷ []) ≡ 3
named_last = refl

-- A word at home, and one that is away
abbrev home : Cell
home = (0, true)

abbrev away : Cell
away = (0, false)

unnamed : (l : Link ℕ) (k : ℕ) → naming k ≡ l → is_some l.entry ≡ true → ⊥
unnamed l k e is = let no : is_some l.entry ≡ false = ap (λ (m : Link ℕ). is_some m.entry) (sym e) in absurd (cc (no, is))

-- a line that was just named: its word is away, as it has no entry
named_alone : (xs ys : List (Link ℕ)) (l : Link ℕ) → naming 2 ∷ [] ≡ xs ++ l ∷ ys → is_some l.entry ≡ true → (cell (home ∷ home ∷ away ∷ []) (right_of l.line xs)).1 ≡ true
named_alone [] ys l e is = absurd (unnamed l 2 (cc e) is)
named_alone (x ∷ xs) ys l e is = absurd (omega (arith, ap length e, length-append xs (l ∷ ys)))

pub kept_at_none : IsKept {E = ℕ} (home ∷ home ∷ away ∷ []) (naming 2 ∷ [])
kept_at_none = record { home = refl; used = named_alone }

-- of two lines one has an entry, which brought home word 2
abbrev two : List (Link ℕ)
two = naming 2 ∷ naming 3 ∷ naming 4 ∷ entry 2 7 4 ∷ []

abbrev words : List Cell
words = home ∷ home ∷ home ∷ away ∷ away ∷ []

last_of_two : (a b c l : Link ℕ) → naming 2 ≡ a → naming 3 ≡ b → naming 4 ≡ c → entry 2 7 4 ≡ l → (cell words (right_of l.line (a ∷ b ∷ c ∷ []))).1 ≡ true
last_of_two a b c l ea eb ec el =
    let third : (cell words (right_of 2 (naming 2 ∷ naming 3 ∷ c ∷ []))).1 ≡ true = subst (λ (m : Link ℕ). (cell words (right_of 2 (naming 2 ∷ naming 3 ∷ m ∷ []))).1 ≡ true) ec refl in
    let second : (cell words (right_of 2 (naming 2 ∷ b ∷ c ∷ []))).1 ≡ true = subst (λ (m : Link ℕ). (cell words (right_of 2 (naming 2 ∷ m ∷ c ∷ []))).1 ≡ true) eb third in
    let first : (cell words (right_of 2 (a ∷ b ∷ c ∷ []))).1 ≡ true = subst (λ (m : Link ℕ). (cell words (right_of 2 (m ∷ b ∷ c ∷ []))).1 ≡ true) ea second in
    subst (λ (m : Link ℕ). (cell words (right_of m.line (a ∷ b ∷ c ∷ []))).1 ≡ true) el first

used_by_two : (xs ys : List (Link ℕ)) (l : Link ℕ) → two ≡ xs ++ l ∷ ys → is_some l.entry ≡ true → (cell words (right_of l.line xs)).1 ≡ true
used_by_two [] ys l e is = absurd (unnamed l 2 (cc e) is)
used_by_two (a ∷ []) ys l e is = absurd (unnamed l 3 (cc e) is)
used_by_two (a ∷ b ∷ []) ys l e is = absurd (unnamed l 4 (cc e) is)
used_by_two (a ∷ b ∷ c ∷ []) ys l e is = last_of_two a b c l (cc e) (cc e) (cc e) (cc e)
used_by_two (a ∷ b ∷ c ∷ d ∷ xs) ys l e is = absurd (omega (arith, ap length e, length-append xs (l ∷ ys)))

pub kept_by_two : IsKept words two
kept_by_two = record { home = refl; used = used_by_two }

-- the word of all steps is away, or not there
pub not_away : IsKept {E = ℕ} (away ∷ []) [] → ⊥
not_away k = absurd (cc (k.home))

pub not_without_a_word : IsKept {E = ℕ} [] [] → ⊥
not_without_a_word k = absurd (cc (k.home))

-- the entry did not bring home its line's word
pub not_unused : IsKept (home ∷ home ∷ away ∷ away ∷ away ∷ []) two → ⊥
not_unused k = absurd (cc (k.used (naming 2 ∷ naming 3 ∷ naming 4 ∷ []) [] (entry 2 7 4) refl refl))

-- the second entry did not bring home the word that the first names
pub not_by_the_first_word : IsKept words (two ++ entry 2 8 3 ∷ []) → ⊥
not_by_the_first_word k = absurd (cc (k.used two [] (entry 2 8 3) refl refl))

-- What a step tells
abbrev view_of : List (Link ℕ) → ℕ → View (Link ℕ) ℕ
view_of links k = (links, (nib may_make k 0, None))

abbrev told : Link ℕ → List (Link ℕ) → List (Link ℕ) → ℕ → Type 0
told ask v w key = Adds (step 0 0 0 ask) (v, (nib may_write key 0, None)) 0 (w, (no_nib, None))

pub deals_a_word : Deals (step 0 0 0 (naming 0)) (before, (no_nib, None)) 0 (view_of (before ++ naming 6 ∷ []) 6)
deals_a_word = (refl, refl, refl)

-- the word has entries, the last link names another, or the pen is no right to make it
pub not_a_word_of_entries : Deals (step 0 0 0 (naming 0)) (before, (no_nib, None)) 0 (view_of (before ++ naming 2 ∷ []) 2) → ⊥
not_a_word_of_entries d = absurd (omega (arith, ap length d.2))

pub not_named : Deals (step 0 0 0 (naming 0)) (before, (no_nib, None)) 0 (view_of (before ++ naming 7 ∷ []) 6) → ⊥
not_named d = absurd (omega (arith, d.1))

pub not_with_no_right : Deals (step 0 0 0 (naming 0)) (before, (no_nib, None)) 0 (before ++ naming 6 ∷ [], (nib may_write 6 0, None)) → ⊥
not_with_no_right d = absurd (cc (d.0))

-- the first entry of a line stands behind none, whether the link that names the line was known or not
behind_none : (links : List (Link ℕ)) → IsPrefix links (naming 2 ∷ []) → right_of 2 links ≡ 2 → links_of 2 (naming 2 ∷ entry 2 7 3 ∷ []) ≡ links_of 2 links ++ entry 2 7 3 ∷ []
behind_none [] p is = refl
behind_none (a ∷ []) p is = let e : naming 2 ≡ a = cc (p.1) in subst (λ (m : Link ℕ). entry 2 7 3 ∷ [] ≡ links_of 2 (m ∷ []) ++ entry 2 7 3 ∷ []) e refl
behind_none (a ∷ b ∷ links) p is = absurd (omega (arith, ap length p.1, length-append links p.0))

pub adds_the_first : told (entry 2 7 3) (naming 2 ∷ []) (naming 2 ∷ entry 2 7 3 ∷ []) 2
adds_the_first = behind_none

-- where word 4 is the pen's, line 2 has just the entry 7. Nothing was added, two entries, one of another line, or another
pub not_nothing_added : told (entry 2 8 6) before before 4 → ⊥
not_nothing_added t = absurd (omega (arith, ap length (t before ([], refl) refl)))

pub not_two_added : told (entry 2 8 6) before (before ++ entry 2 9 6 ∷ entry 2 8 6 ∷ []) 4 → ⊥
not_two_added t = absurd (omega (arith, ap length (t before ([], refl) refl)))

pub not_on_another_line : told (entry 2 8 6) before (before ++ entry 3 8 6 ∷ []) 4 → ⊥
not_on_another_line t = absurd (omega (arith, ap length (t before ([], refl) refl)))

pub not_another_entry : told (entry 2 8 6) before (before ++ entry 2 9 6 ∷ []) 4 → ⊥
not_another_entry t = absurd (omega (arith, ap (λ (links : List (Link ℕ)). sum (filter_map (λ l. l.entry) links)) (t before ([], refl) refl)))
