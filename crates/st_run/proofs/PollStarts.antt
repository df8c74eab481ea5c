-- Polls that stand in a front, by the places of their first entries: each is a report of the entity's, with the arrivals that it calls for
-- behind it, and so two polls are apart; and as many polls stand in the journal as there are such places.
use Rattle.std.proofs.Common.{◌≡◌, ◌≢◌, ◌⊎◌, inl, inr, ⊎_elim, ℕ, zero, suc, ◌<◌, ◌≤◌, Bool, true, false, List, [], ◌∷◌, ◌++◌, length, map, refl, ap, sym, subst, ◌∙◌, arith, append_assoc}
use Rattle.std.specs.Prelude.{Option, Some, None, slice_get, reverse}
use Rattle.std.proofs.lemmas.List.{map-append, reverse-append}
use Rattle.std.proofs.lemmas.Option.{slice_get_within}
use mathlib.Core.List.{IsPrefix}
use Rattle.st_net.specs.declared.entity.Entity.{Entity}
use Rattle.st_net.specs.Groups.{Group}
use Rattle.st_event.specs.declared.event.Event.{Event}
use Rattle.st_event.specs.declared.event.Event.TheVariants.{Submit, Check, Lock, Unlock, Send, Deliver, Finish, Report, Hear, Fail, Withdraw}
use Rattle.st_event.specs.declared.journal.Entry.{Entry}
use Rattle.st_wire.specs.declared.line.WireLine.{WireLine}
use Rattle.st_event.proofs.Prefixes.{prefix_get, prefix_length, prefix_shorter, prefix_trans}
use Rattle.st_world.specs.Rounds.{Course, course_from, poll}
use Rattle.st_world.specs.World.{IsBeginning}
use Rattle.st_service.specs.Made.{Made, past_in}
use Rattle.st_run.specs.Stands.{Stand}
use Rattle.st_run.proofs.DidLaws.{Each, each_append, same_or_not}

abbrev pub is_report : Event → Bool
is_report (Report entity) = true
is_report (Submit app rows) = false
is_report Check = false
is_report (Lock app entity prio) = false
is_report (Unlock app entity prio) = false
is_report (Send entity) = false
is_report (Deliver n) = false
is_report (Finish entity) = false
is_report (Hear n) = false
is_report (Fail entity vals health) = false
is_report (Withdraw entity) = false

abbrev pub is_report_at : Option Made → Bool
is_report_at (Some m) = is_report m.entry.event
is_report_at None = false

-- a poll of this pass stands in a front from this place on
pub record StartsAt (g : Group) (lines : List WireLine) (e : Entity) (number : ℕ) (front : List Made) (place : ℕ) : Type 0 where
  pub before : List Made
  pub after : List Made
  pub at : length before ≡ place
  pub went : IsPrefix before after
  pub run : poll g lines (course_from (past_in before)) e ≡ record { past = past_in after; stopped = false }
  pub first : Made
  pub is_there : slice_get after place ≡ Some first
  pub own : first.by ≡ number
  pub reports : is_report first.entry.event ≡ true
  pub quiet : (k : ℕ) → place < k → is_report_at (slice_get after k) ≡ false
  pub within : IsPrefix after front

pub starts_longer : (g : Group) (lines : List WireLine) (e : Entity) (number : ℕ) (front longer : List Made) (place : ℕ) → IsPrefix front longer
    → StartsAt g lines e number front place → StartsAt g lines e number longer place
starts_longer g lines e number front longer place p s = record {
  before = s.before;
  after = s.after;
  at = s.at;
  went = s.went;
  run = s.run;
  first = s.first;
  is_there = s.is_there;
  own = s.own;
  reports = s.reports;
  quiet = s.quiet;
  within = prefix_trans s.after front longer s.within p;
}

some_is : {X : Type 0} (x y : X) → Some x ≡ Some y → x ≡ y
some_is x y e = cc

-- polls of two passes have two places
pub apart_makers : (g : Group) (lines : List WireLine) (e : Entity) (a b : ℕ) (front : List Made) (s t : ℕ) → StartsAt g lines e a front s
    → StartsAt g lines e b front t → a ≢ b → s ≢ t
apart_makers g lines e a b front s t p q apart same =
    let one : slice_get front s ≡ Some p.first = prefix_get p.after front s p.first p.within p.is_there in
    let other : slice_get front t ≡ Some q.first = prefix_get q.after front t q.first q.within q.is_there in
    let both : p.first ≡ q.first = some_is p.first q.first (sym one ∙ (ap (slice_get front) same ∙ other)) in
    apart (sym p.own ∙ (ap (λ (m : Made). m.by) both ∙ q.own))

le_or_lt : (m n : ℕ) → (m ≤ n) ⊎ (n < m)
le_or_lt zero n = inl (omega arith)
le_or_lt (suc m) zero = inr (omega arith)
le_or_lt (suc m) (suc n) = ⊎_elim (λ (t : m ≤ n). inl (omega (arith, t))) (λ (t : n < m). inr (omega (arith, t))) (le_or_lt m n)

get_inside : (xs : List Made) (k : ℕ) → k < length xs → (m : Made) × (slice_get xs k ≡ Some m)
get_inside [] k lt = absurd (omega (arith, lt))
get_inside (x ∷ xs) zero lt = (x, refl)
get_inside (x ∷ xs) (suc k) lt = get_inside xs k (omega (arith, lt))

-- of two places the one's poll ends before the other
pub ends_before : (g : Group) (lines : List WireLine) (e : Entity) (a b : ℕ) (front : List Made) (s t : ℕ) → (p : StartsAt g lines e a front s)
    → StartsAt g lines e b front t → s < t → length p.after ≤ t
ends_before g lines e a b front s t p q lt = ⊎_elim
    (λ (done : length p.after ≤ t). done)
    (λ (inside : t < length p.after).
    let here = get_inside p.after t inside in
    let one : slice_get front t ≡ Some here.0 = prefix_get p.after front t here.0 p.within here.1 in
    let other : slice_get front t ≡ Some q.first = prefix_get q.after front t q.first q.within q.is_there in
    let both : here.0 ≡ q.first = some_is here.0 q.first (sym one ∙ other) in
    let yes : is_report here.0.entry.event ≡ true = ap (λ (m : Made). is_report m.entry.event) both ∙ q.reports in
    let no : is_report here.0.entry.event ≡ false = ap is_report_at (sym here.1) ∙ p.quiet t lt in
    let neither : true ≡ false = sym yes ∙ no in
    absurd (cc neither))
    (le_or_lt (length p.after) t)

-- beginnings

pub begins_past : (front longer : List Made) → IsPrefix front longer → IsBeginning (past_in front) (past_in longer)
begins_past front longer p = (
  reverse (map (λ (m : Made). m.entry) p.0),
  ap past_in (sym p.1) ∙ (ap reverse (map-append (λ (m : Made). m.entry) front p.0) ∙ reverse-append (map (λ (m : Made). m.entry) front)
      (map (λ (m : Made). m.entry) p.0)),
)

beginning_trans : (xs ys zs : List Entry) → IsBeginning xs ys → IsBeginning ys zs → IsBeginning xs zs
beginning_trans xs ys zs p q = (q.0 ++ p.0, q.1 ∙ (ap (λ (l : List Entry). q.0 ++ l) p.1 ∙ sym (append_assoc q.0 p.0 xs)))

-- what stands in a journal stands in a longer one
pub stand_longer : (course : List Entry → Course) (k : ℕ) (from past longer : List Entry) → IsBeginning past longer → Stand course k from past
    → Stand course k from longer
stand_longer course zero from past longer p s = beginning_trans from past longer s p
stand_longer course (suc k) from past longer p s = (s.0, s.1, s.2, s.3, beginning_trans s.1 past longer s.4 p)

-- places that differ from each other

abbrev pub Distinct : List ℕ → Type 0
Distinct [] = Unit {0}
Distinct (n ∷ ns) = Each (λ m. n ≢ m) ns × Distinct ns

pub each_mapped : (P Q : ℕ → Type 0) (ns : List ℕ) → ((n : ℕ) → P n → Q n) → Each P ns → Each Q ns
each_mapped P Q [] f e = tt
each_mapped P Q (n ∷ ns) f e = (f n e.0, each_mapped P Q ns f e.1)

each_both : (P Q : ℕ → Type 0) (ns : List ℕ) → Each P ns → Each Q ns → Each (λ n. P n × Q n) ns
each_both P Q [] p q = tt
each_both P Q (n ∷ ns) p q = ((p.0, q.0), each_both P Q ns p.1 q.1)

pub distinct_append : (ms ns : List ℕ) → Distinct ms → Distinct ns → Each (λ m. Each (λ n. m ≢ n) ns) ms → Distinct (ms ++ ns)
distinct_append [] ns d e apart = e
distinct_append (m ∷ ms) ns d e apart = (each_append (λ n. m ≢ n) ms ns d.0 apart.0, distinct_append ms ns d.1 e apart.1)

-- a number is among these, with the others then
record IsIn (P : ℕ → Type 0) (n : ℕ) (ns : List ℕ) : Type 0 where
  rest : List ℕ
  it : P n
  count : length ns ≡ suc (length rest)
  distinct : Distinct rest
  each : Each (λ m. P m × (n ≢ m)) rest
  apart : (m : ℕ) → Each (λ k. m ≢ k) ns → Each (λ k. m ≢ k) rest

is_first : (P : ℕ → Type 0) (n m : ℕ) (ns : List ℕ) → n ≡ m → Distinct (m ∷ ns) → Each P (m ∷ ns) → IsIn P n (m ∷ ns)
is_first P n m ns same d e = record {
  rest = ns;
  it = subst P (sym same) e.0;
  count = refl;
  distinct = d.1;
  each = each_both P (λ k. n ≢ k) ns e.1 (subst (λ (j : ℕ). Each (λ k. j ≢ k) ns) (sym same) d.0);
  apart = λ k other. other.1;
}

is_later : (P : ℕ → Type 0) (n m : ℕ) (ns : List ℕ) → n ≢ m → Distinct (m ∷ ns) → Each P (m ∷ ns) → IsIn P n ns → IsIn P n (m ∷ ns)
is_later P n m ns other d e f = record {
  rest = m ∷ f.rest;
  it = f.it;
  count = ap suc f.count;
  distinct = (f.apart m d.0, f.distinct);
  each = ((e.0, other), f.each);
  apart = λ k apart. (apart.0, f.apart k apart.1);
}

look : (P : ℕ → Type 0) (n : ℕ) (ns : List ℕ) → Distinct ns → Each P ns → (Each (λ m. n ≢ m) ns) ⊎ IsIn P n ns
look P n [] d e = inl tt
look P n (m ∷ ns) d e = ⊎_elim
    (λ (same : n ≡ m). inr (is_first P n m ns same d e))
    (λ (other : n ≢ m). ⊎_elim
    (λ (none : Each (λ k. n ≢ k) ns). inl (other, none))
    (λ (f : IsIn P n ns). inr (is_later P n m ns other d e f))
    (look P n ns d.1 e.1))
    (same_or_not n m)

-- a poll starts here, by some pass
abbrev pub IsStart : Group → List WireLine → Entity → List Made → ℕ → Type 0
IsStart g lines e front place = (a : ℕ) × StartsAt g lines e a front place

-- so many polls stand in a beginning of the front, and each other one starts behind it
record Stood (g : Group) (lines : List WireLine) (e : Entity) (front : List Made) (below k : ℕ) : Type 0 where
  seen : List Made
  within : IsPrefix seen front
  stand : Stand (λ past. poll g lines (course_from past) e) k [] (past_in seen)
  behind : (t : ℕ) → below ≤ t → IsStart g lines e front t → length seen ≤ t

under : (g : Group) (lines : List WireLine) (e : Entity) (front : List Made) (m s : ℕ) → (IsStart g lines e front s × (s < suc m)) × (m ≢ s)
    → IsStart g lines e front s × (s < m)
under g lines e front m s p = (p.0.0, ⊎_elim (λ (high : m ≤ s). absurd (p.1 (omega (arith, high, p.0.1)))) (λ (low : s < m). low) (le_or_lt m s))

one_more : (g : Group) (lines : List WireLine) (e : Entity) (front : List Made) (m k : ℕ) → IsStart g lines e front m → Stood g lines e front m k
    → Stood g lines e front (suc m) (suc k)
one_more g lines e front m k start r =
    let p = start.1 in
    let early : length r.seen ≤ length p.before = let low = r.behind m (omega arith) start in omega (arith, low, p.at) in
    let begun : IsPrefix p.before front = prefix_trans p.before p.after front p.went p.within in
    let ahead : IsPrefix r.seen p.before = prefix_shorter r.seen p.before front r.within begun early in
    let before : Stand (λ past. poll g lines (course_from past) e) k [] (past_in p.before) =
    stand_longer (λ past. poll g lines (course_from past) e) k [] (past_in r.seen) (past_in p.before) (begins_past r.seen p.before ahead) r.stand in
    record {
      seen = p.after;
      within = p.within;
      stand = (past_in p.before, past_in p.after, before, p.run, ([], refl));
      behind = λ t le s. ends_before g lines e start.0 s.0 front m t p s.1 (omega (arith, le));
    }

stood : (g : Group) (lines : List WireLine) (e : Entity) (front : List Made) (m : ℕ) (places : List ℕ) → Distinct places
    → Each (λ s. IsStart g lines e front s × (s < m)) places → Stood g lines e front m (length places)
stood g lines e front zero [] d each = record { seen = []; within = (front, refl); stand = ([], refl); behind = λ t le s. omega arith }
stood g lines e front zero (n ∷ ns) d each = absurd (omega (arith, each.0.1))
stood g lines e front (suc m) places d each = ⊎_elim
    (λ (none : Each (λ s. m ≢ s) places).
    let low : Each (λ s. IsStart g lines e front s × (s < m)) places =
    each_mapped (λ s. (IsStart g lines e front s × (s < suc m)) × (m ≢ s)) (λ s. IsStart g lines e front s × (s < m)) places
    (under g lines e front m) (each_both (λ s. IsStart g lines e front s × (s < suc m)) (λ s. m ≢ s) places each none) in
    let r = stood g lines e front m places d low in
    record { seen = r.seen; within = r.within; stand = r.stand; behind = λ t le s. r.behind t (omega (arith, le)) s })
    (λ (f : IsIn (λ s. IsStart g lines e front s × (s < suc m)) m places).
    let low : Each (λ s. IsStart g lines e front s × (s < m)) f.rest =
    each_mapped (λ s. (IsStart g lines e front s × (s < suc m)) × (m ≢ s)) (λ s. IsStart g lines e front s × (s < m)) f.rest (under g lines e front m) f.each in
    subst (Stood g lines e front (suc m)) (sym f.count) (one_more g lines e front m (length f.rest) f.it.0 (stood g lines e front m f.rest f.distinct low)))
    (look (λ s. IsStart g lines e front s × (s < suc m)) m places d each)

start_within : (g : Group) (lines : List WireLine) (e : Entity) (front : List Made) (s : ℕ) → IsStart g lines e front s
    → IsStart g lines e front s × (s < length front)
start_within g lines e front s p =
    let lt = slice_get_within p.1.after s p.1.first p.1.is_there in
    let le = prefix_length p.1.after front p.1.within in
    (p, omega (arith, lt, le))

-- as many polls stand in the journal as there are places where one starts
pub polls_stand : (g : Group) (lines : List WireLine) (e : Entity) (front : List Made) (places : List ℕ) → Distinct places
    → Each (IsStart g lines e front) places
    → Stand (λ past. poll g lines (course_from past) e) (length places) [] (past_in front)
polls_stand g lines e front places d each =
    let r = stood g lines e front (length front) places d (each_mapped (IsStart g lines e front)
    (λ s. IsStart g lines e front s × (s < length front)) places (start_within g lines e front) each) in
    stand_longer (λ past. poll g lines (course_from past) e) (length places) [] (past_in r.seen) (past_in front) (begins_past r.seen front r.within) r.stand
