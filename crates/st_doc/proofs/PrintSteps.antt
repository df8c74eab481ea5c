-- Lines of words that are printed one after another, and what they make of a draft.
use Rattle.std.proofs.Common.{◌≡◌, ℕ, ◌+◌, List, [], ◌∷◌, ◌++◌, map, ap, sym, ◌∙◌, subst, refl}
use Rattle.std.specs.Prelude.{true, false, not, flat_map, Result, Ok}
use Rattle.std.specs.List.{AllByRecursion}
use Rattle.std.proofs.lemmas.List.{append-nil, append_assoc}
use Rattle.std.proofs.lemmas.List.Concat.{flat_map_single}
use Rattle.st_text.specs.Words.{IsWord, line_text, text_of}
use Rattle.st_text.proofs.WordLemmas.{word_lines_cut_again, words_cut_again, words_allowed}
use Rattle.st_net.proofs.Tests.{both, turned}
use Rattle.st_net.specs.Names.{is_among}
use Rattle.st_net.specs.Groups.{are_new}
use Rattle.st_token.specs.declared.fault.FaultKind.{FaultKind}
use Rattle.st_token.specs.Steps.{◌>>=◌}
use Rattle.st_token.specs.Reading.{read_on}
use Rattle.st_token.proofs.ReadTokens.{came_from}
use Rattle.st_grammar.specs.declared.doc.Doc.{Doc}
use Rattle.st_grammar.specs.Draft.{Draft, nothing, has_header}
use Rattle.st_grammar.specs.Lines.{tokens_line, line_of}
use Rattle.st_grammar.specs.Reading.{doc_of, document_of}
use Rattle.st_doc.specs.Printed.{Words}

-- what lines of words, one after another, make of a draft
abbrev pub takes : Draft → List Words → Result Draft FaultKind
takes d [] = Ok d
takes d (words ∷ more) = tokens_line d words >>= λ next. takes next more

-- the lines make of one draft another, and their words can stand in a line
pub record Prints (d : Draft) (lines : List Words) (e : Draft) : Type 0 where
  pub taken : takes d lines ≡ Ok e
  pub words : AllByRecursion (AllByRecursion IsWord) lines

takes_both : (a b : List Words) (d m e : Draft) → takes d a ≡ Ok m → takes m b ≡ Ok e → takes d (a ++ b) ≡ Ok e
takes_both [] b d m e p q = let same : d ≡ m = cc in rw same q
takes_both (w ∷ ws) b d m e p q =
    let step = came_from (tokens_line d w) (λ next. takes next ws) m p in
    rw step.1 (takes_both ws b step.0 m e step.2 q)

words_both : (a b : List Words) → AllByRecursion (AllByRecursion IsWord) a → AllByRecursion (AllByRecursion IsWord) b → AllByRecursion (AllByRecursion IsWord) (a ++ b)
words_both [] b p q = q
words_both (w ∷ ws) b p q = (p.0, words_both ws b p.1 q)

pub prints_none : (d : Draft) → Prints d [] d
prints_none d = record { taken = refl; words = tt }

pub prints_line : (d : Draft) (words : Words) (e : Draft) → tokens_line d words ≡ Ok e → AllByRecursion IsWord words → Prints d (words ∷ []) e
prints_line d words e p all = record { taken = rw p refl; words = (all, tt) }

pub prints_both : (d : Draft) (a : List Words) (m : Draft) (b : List Words) (e : Draft) → Prints d a m → Prints m b e → Prints d (a ++ b) e
prints_both d a m b e p q = record { taken = takes_both a b d m e p.taken q.taken; words = words_both a b p.words q.words }

-- a section of a list: for each item its lines, over the draft of those before it
pub along : {S X : Type 0} (whole : List X) (draft : List X → List X → S → Draft) (f : X → List Words) (Holds : List X → S → Type 0)
    → ((front : List X) (x : X) (behind : List X) (s : S) → front ++ x ∷ behind ≡ whole → Holds front s → (t : S) × Prints (draft front (x ∷ behind) s) (f x) (draft (front ++ x ∷ []) behind t) × Holds (front ++ x ∷ []) t)
    → (front left : List X) (s : S) → front ++ left ≡ whole → Holds front s → (t : S) × Prints (draft front left s) (flat_map f left) (draft whole [] t) × Holds whole t
along {S = S} {X = X} whole draft f Holds step front [] s is h =
    let all : front ≡ whole = sym (append-nil front) ∙ is in
    (s, subst (λ (ys : List X). Prints (draft front [] s) [] (draft ys [] s)) all (prints_none (draft front [] s)), subst (λ (ys : List X). Holds ys s) all h)
along whole draft f Holds step front (x ∷ left) s is h =
    let one = step front x left s is h in
    let rest = along whole draft f Holds step (front ++ x ∷ []) left one.0 (append_assoc front (x ∷ []) left ∙ is) one.2 in
    (rest.0, prints_both (draft front (x ∷ left) s) (f x) (draft (front ++ x ∷ []) left one.0) (flat_map f left) (draft whole [] rest.0) one.1 rest.1, rest.2)

-- the same where the draft is known from the items alone
pub straight : {X : Type 0} (whole : List X) (draft : List X → List X → Draft) (f : X → List Words)
    → ((front : List X) (x : X) (behind : List X) → front ++ x ∷ behind ≡ whole → Prints (draft front (x ∷ behind)) (f x) (draft (front ++ x ∷ []) behind))
    → (front left : List X) → front ++ left ≡ whole → Prints (draft front left) (flat_map f left) (draft whole [])
straight {X = X} whole draft f step front [] is =
    subst (λ (ys : List X). Prints (draft front []) [] (draft ys [])) (sym (append-nil front) ∙ is) (prints_none (draft front []))
straight whole draft f step front (x ∷ left) is =
    prints_both (draft front (x ∷ left)) (f x) (draft (front ++ x ∷ []) left) (flat_map f left) (draft whole []) (step front x left is)
    (straight whole draft f step (front ++ x ∷ []) left (append_assoc front (x ∷ []) left ∙ is))

-- and with one line an item
pub lined : {X : Type 0} (whole : List X) (draft : List X → List X → Draft) (f : X → Words)
    → ((front : List X) (x : X) (behind : List X) → front ++ x ∷ behind ≡ whole → Prints (draft front (x ∷ behind)) (f x ∷ []) (draft (front ++ x ∷ []) behind))
    → Prints (draft [] whole) (map f whole) (draft whole [])
lined whole draft f step =
    subst (λ (lines : List Words). Prints (draft [] whole) lines (draft whole [])) (flat_map_single f whole) (straight whole draft (λ x. f x ∷ []) step [] whole refl)

-- what holds of each item of a list holds of one amid it
all_amid : {X : Type 0} (P : X → Type 0) (front : List X) (x : X) (behind : List X) → AllByRecursion P (front ++ x ∷ behind) → P x
all_amid P [] x behind all = all.0
all_amid P (y ∷ front) x behind all = all_amid P front x behind all.1

pub amid : {X : Type 0} (P : X → Type 0) (whole front : List X) (x : X) (behind : List X) → front ++ x ∷ behind ≡ whole → AllByRecursion P whole → P x
amid P whole front x behind is all = all_amid P front x behind (subst (AllByRecursion P) (sym is) all)

-- a name amid others of which none stands twice is none of those before it
new_behind : (before front : List (List ℕ)) (n : List ℕ) (behind : List (List ℕ)) → are_new before (front ++ n ∷ behind) ≡ true → is_among n (before ++ front) ≡ false
new_behind before [] n behind new =
    let parts : (not (is_among n before) ≡ true) × (are_new (before ++ n ∷ []) behind ≡ true) = both (not (is_among n before)) (are_new (before ++ n ∷ []) behind) new in
    ap (is_among n) (append-nil before) ∙ turned (is_among n before) parts.0
new_behind before (m ∷ front) n behind new =
    let parts : (not (is_among m before) ≡ true) × (are_new (before ++ m ∷ []) (front ++ n ∷ behind) ≡ true) = both (not (is_among m before)) (are_new (before ++ m ∷ []) (front ++ n ∷ behind)) new in
    ap (is_among n) (sym (append_assoc before (m ∷ []) front)) ∙ new_behind (before ++ m ∷ []) front n behind parts.1

pub new_before : (names front : List (List ℕ)) (n : List ℕ) (behind : List (List ℕ)) → front ++ n ∷ behind ≡ names → are_new [] names ≡ true → is_among n front ≡ false
new_before names front n behind is new = new_behind [] front n behind (subst (λ (ns : List (List ℕ)). are_new [] ns ≡ true) (sym is) new)

-- lines of words are read as they are taken
line_again : (d e : Draft) (words : Words) → AllByRecursion IsWord words → tokens_line d words ≡ Ok e → line_of d (line_text words) ≡ Ok e
unfolding line_of
line_again d e words all p = rw (words_allowed words all, words_cut_again words all) p

lines_again : (lines : List Words) (d e : Draft) (n : ℕ) → AllByRecursion (AllByRecursion IsWord) lines → takes d lines ≡ Ok e → read_on line_of d n (map line_text lines) ≡ Ok e
lines_again [] d e n all p = let same : d ≡ e = cc in rw same refl
lines_again (w ∷ ws) d e n all p =
    let step = came_from (tokens_line d w) (λ next. takes next ws) e p in
    rw (line_again d step.0 w all.0 step.1) (lines_again ws step.0 e (n + 1) all.1 step.2)

-- lines that make a draft of nothing are the text of its document
pub text_again : (lines : List Words) (e : Draft) (doc : Doc) → Prints nothing lines e → has_header e ≡ true → doc_of e ≡ doc → document_of (text_of lines) ≡ Ok doc
text_again lines e doc p b is = rw (word_lines_cut_again lines p.words, lines_again lines nothing e 1 p.words p.taken, b, is) refl
