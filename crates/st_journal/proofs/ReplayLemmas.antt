-- A world's journal after one more entry of a journal that is replayed, and what a first wrong entry means.
use Rattle.std.proofs.Common.{◌≡◌, ◌≢◌, ℕ, ◌+◌, ◌<◌, ◌≤◌, List, [], ◌∷◌, ◌++◌, length, get_or, take, drop, reverse, refl, ap, sym, ◌∙◌, subst, append_assoc, inl, inr, arith}
use Rattle.std.proofs.lemmas.List.{take_more, take-append-drop, take_all, reverse-append, length-take-le}
use Rattle.std.specs.Prelude.{Bool, true, false, IsTrue, ◌↔◌}
use Rattle.std.proofs.lemmas.Bool.{cases_lt, false≢true}
use Rattle.st_net.specs.Groups.{Group}
use Rattle.st_event.proofs.Begun.{legal_begun}
use Rattle.st_event.specs.declared.journal.Entry.{Entry}
use Rattle.st_event.specs.History.{History, with_entry}
use Rattle.st_event.specs.Legal.{IsLegal}
use Rattle.st_event.specs.Replies.{reply}
use Rattle.st_event.specs.Services.{entry_after}
use Rattle.st_world.specs.World.{WorldView}
use Rattle.st_journal.specs.Replaying.{IsReplayOf, IsFirstWrong, WrongIsIllegal, FirstWrongIsOne}

-- the world has gone through the first of these entries, with no line in its plan
pub record WentThrough (g : Group) (entries : List Entry) (i : ℕ) (w : WorldView) : Type 0 where
  pub history : w.history ≡ record { group = g; past = reverse (take i entries) }
  pub lines : w.lines ≡ []

abbrev went : Group → List Entry → History
went g past = record { group = g; past = past }

-- the entries so far, newest first, with one more
past_more : (entries : List Entry) (i : ℕ) (entry : Entry) → i < length entries → entry ≡ get_or entries i entry → reverse (take (i + 1) entries) ≡ entry ∷ reverse (take i entries)
past_more entries i entry low is =
    ap reverse (take_more entries i entry low) ∙ (reverse-append (take i entries) (get_or entries i entry ∷ []) ∙ ap (λ (e : Entry). e ∷ reverse (take i entries)) (sym is))

-- an entry with the reply that is called for
called_for : (g : Group) (past : List Entry) (entry : Entry) → entry.reply ≡ reply g past entry.event → entry_after g past entry.event ≡ entry
called_for g past entry same = rw (← same) refl

pub went_on : (g : Group) (entries : List Entry) (i : ℕ) (old new : WorldView) (entry : Entry) → WentThrough g entries i old → i < length entries → entry ≡ get_or entries i entry
    → entry.reply ≡ reply old.history.group old.history.past entry.event → new.history ≡ with_entry old.history (entry_after old.history.group old.history.past entry.event) → new.lines ≡ old.lines
    → WentThrough g entries (i + 1) new
went_on g entries i old new entry before low is same entered plan =
    let next : old.history.past ≡ reverse (take i entries) = ap (λ (h : History). h.past) before.history in
    let group : old.history.group ≡ g = ap (λ (h : History). h.group) before.history in
    let added : new.history ≡ with_entry old.history entry = entered ∙ ap (λ (e : Entry). with_entry old.history e) (called_for old.history.group old.history.past entry same) in
    record {
      history = added ∙ ap (λ (h : History). with_entry h entry) before.history ∙ ap (went g) (sym (past_more entries i entry low is));
      lines = plan ∙ before.lines;
    }

-- the entries before a place, the one there, and those behind it
around : (entries : List Entry) (i : ℕ) (entry : Entry) → i < length entries → entry ≡ get_or entries i entry → entries ≡ take i entries ++ entry ∷ drop (i + 1) entries
around entries i entry low is =
    sym (take-append-drop (i + 1) entries) ∙ (ap (λ (es : List Entry). es ++ drop (i + 1) entries) (take_more entries i entry low)
    ∙ (append_assoc (take i entries) (get_or entries i entry ∷ []) (drop (i + 1) entries) ∙ ap (λ (e : Entry). take i entries ++ e ∷ drop (i + 1) entries) (sym is)))

-- what is not said does not hold
pub unsaid : (said : Bool) (P : Type 0) → (IsTrue said ↔ P) → said ≡ false → ¬ P
unsaid true P says e = absurd cc
unsaid false P says e = λ (p : P). absurd (false≢true (says.1 p))

pub went_wrong : (g : Group) (entries : List Entry) (i : ℕ) (old new : WorldView) (entry : Entry) → WentThrough g entries i old → i < length entries → entry ≡ get_or entries i entry
    → entry.reply ≢ reply old.history.group old.history.past entry.event → new.history ≡ with_entry old.history (entry_after old.history.group old.history.past entry.event)
    → IsLegal new.history.group new.history.past → IsFirstWrong g entries (i + 1)
went_wrong g entries i old new entry before low is other entered legal =
    let all : IsLegal g (entry_after g (reverse (take i entries)) entry.event ∷ reverse (take i entries)) =
    subst (λ (h : History). IsLegal h.group h.past) (entered ∙ ap (λ (h : History). with_entry h (entry_after h.group h.past entry.event)) before.history) legal in
    record {
      before = take i entries;
      wrong = entry;
      after = drop (i + 1) entries;
      entries_are = around entries i entry low is;
      number = ap (λ (n : ℕ). n + 1) (sym (length-take-le i entries (omega arith)));
      legal = all.1;
      differs = subst (λ (h : History). entry.reply ≢ reply h.group h.past entry.event) before.history other;
    }

pub went_all : (g : Group) (entries : List Entry) (i : ℕ) (w : WorldView) → WentThrough g entries i w → length entries ≤ i → IsLegal w.history.group w.history.past → IsReplayOf g entries w
went_all g entries i w through end legal =
    let all : reverse (take i entries) ≡ reverse entries = ap reverse (take_all i entries end) in
    record {
      legal = subst (λ (past : List Entry). IsLegal g past) all (subst (λ (h : History). IsLegal h.group h.past) through.history legal);
      history = through.history ∙ ap (went g) all;
      lines = through.lines;
    }

-- newest first, the entries behind one stand before it
turned_around : (before : List Entry) (entry : Entry) (after : List Entry) → reverse (before ++ entry ∷ after) ≡ reverse after ++ entry ∷ reverse before
turned_around before entry after =
    reverse-append before (entry ∷ after) ∙ (ap (λ (es : List Entry). es ++ reverse before) (reverse-append (entry ∷ []) after) ∙ append_assoc (reverse after) (entry ∷ []) (reverse before))

-- an entry of a legal journal has the reply that is called for
legal_at : (g : Group) (before : List Entry) (entry : Entry) (after : List Entry) → IsLegal g (reverse (before ++ entry ∷ after)) → entry.reply ≡ reply g (reverse before) entry.event
legal_at g before entry after legal =
    (legal_begun g (reverse after) (entry ∷ reverse before) (subst (IsLegal g) (turned_around before entry after) legal)).0.answer

pub wrong_is_illegal : WrongIsIllegal
wrong_is_illegal g entries n wrong = λ (legal : IsLegal g (reverse entries)).
    wrong.differs (legal_at g wrong.before wrong.wrong wrong.after (subst (λ (es : List Entry). IsLegal g (reverse es)) wrong.entries_are legal))

-- two lists that are one, cut at an earlier and at a later place
cut_earlier : (a : List Entry) (x : Entry) (p b : List Entry) (y : Entry) (q : List Entry) → a ++ x ∷ p ≡ b ++ y ∷ q → length a < length b → (between : List Entry) × (b ≡ a ++ x ∷ between)
cut_earlier [] x p [] y q same low = absurd (omega arith)
cut_earlier [] x p (z ∷ b) y q same low = (b, cc)
cut_earlier (w ∷ a) x p [] y q same low = absurd (omega arith)
cut_earlier (w ∷ a) x p (z ∷ b) y q same low =
    let first : w ≡ z = cc in
    let behind : a ++ x ∷ p ≡ b ++ y ∷ q = cc in
    let rest = cut_earlier a x p b y q behind (omega arith) in
    (rest.0, ap (λ (es : List Entry). z ∷ es) rest.1 ∙ ap (λ (e : Entry). e ∷ (a ++ x ∷ rest.0)) (sym first))

-- of two first wrong entries neither stands before the other
none_earlier : (g : Group) (entries : List Entry) (m n : ℕ) → (a : IsFirstWrong g entries m) → (b : IsFirstWrong g entries n) → length a.before < length b.before → ⊥
none_earlier g entries m n a b low =
    let cut = cut_earlier a.before a.wrong a.after b.before b.wrong b.after (sym a.entries_are ∙ b.entries_are) low in
    a.differs (legal_at g a.before a.wrong cut.0 (subst (λ (es : List Entry). IsLegal g (reverse es)) cut.1 b.legal))

pub first_wrong_is_one : FirstWrongIsOne
first_wrong_is_one g entries m n a b = elim (cases_lt (length a.before) (length b.before)) [
  | inl low ↦ absurd (none_earlier g entries m n a b low)
  | inr high ↦ elim (cases_lt (length b.before) (length a.before)) [
    | inl low ↦ absurd (none_earlier g entries n m b a low)
    | inr low ↦ omega (arith, a.number, b.number)
  ]
]
