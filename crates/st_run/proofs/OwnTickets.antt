-- The latest ticket of a journal is the latest of the pass that made its entry.
use Rattle.std.proofs.Common.{◌≡◌, ◌⊎◌, inl, inr, ⊎_elim, ℕ, zero, suc, ◌+◌, ◌<◌, ◌≤◌, List, [], ◌∷◌, ◌++◌, length, map, get_or, refl, ap, sym, subst, ◌∙◌, arith, append_assoc, length-append}
use Rattle.std.specs.Prelude.{Bool, true, false, Option, Some, None, ◌==◌, slice_get, reverse, if◌then◌else◌}
use Rattle.std.specs.Option.{option_or}
use Rattle.std.proofs.lemmas.List.{reverse-append}
use Rattle.std.proofs.lemmas.Bool.Decides.{nat_tests}
use Rattle.st_net.specs.Groups.{Group}
use Rattle.st_net.proofs.Tests.{equal_self}
use Rattle.st_event.specs.declared.event.Event.{Event}
use Rattle.st_event.specs.declared.journal.Entry.{Entry}
use Rattle.st_event.specs.Legal.{IsLegal}
use Rattle.st_event.specs.Proposals.{proposals}
use Rattle.st_event.specs.Replies.{reply}
use Rattle.st_service.specs.Closed.{IsWhole, positions}
use Rattle.st_service.specs.Made.{Made}
use Rattle.st_service.specs.Passes.{Holder, mine_at}
use Rattle.st_service.specs.Tickets.{ticket_in, ticket_of, last_ticket, latest_in}
use Rattle.st_service.proofs.Counts.{sum_add, sum_none, sum_to, sum_by_index, sum_same}
use Rattle.st_run.specs.Requests.{is_submit}
use Rattle.st_run.proofs.DidLaws.{Each}
use Rattle.st_run.proofs.GivenTickets.{counted, last_append, no_ticket, or_none}
use Rattle.st_run.proofs.OwnEntries.{and_entry, entries_at}
use Rattle.st_run.proofs.Interleaved.{get_here}
use Rattle.st_run.proofs.ScriptEntries.{at_if}
use Rattle.st_service.proofs.Whole.{one, same, times}

-- the entries that a pass made
abbrev pub own : ℕ → List Made → List Entry
own p [] = []
own p (m ∷ ms) = if m.by == p then m.entry ∷ own p ms else own p ms

own_if : (b : Bool) (e : Entry) (xs ys : List Entry) → (if b then e ∷ (xs ++ ys) else (xs ++ ys)) ≡ (if b then e ∷ xs else xs) ++ ys
own_if true e xs ys = refl
own_if false e xs ys = refl

pub own_append : (p : ℕ) (xs ys : List Made) → own p (xs ++ ys) ≡ own p xs ++ own p ys
own_append p [] ys = refl
own_append p (m ∷ xs) ys = ap (λ (l : List Entry). if m.by == p then m.entry ∷ l else l) (own_append p xs ys) ∙ own_if (m.by == p) m.entry (own p xs) (own p ys)

-- the entries that a pass made stand at the pass's positions
pub entries_positions : (p : ℕ) (pre ms : List Made) → entries_at (pre ++ ms) (positions p (length pre) ms) ≡ own p ms
entries_positions p pre [] = refl
entries_positions p pre (m ∷ ms) =
    let next = pre ++ m ∷ [] in
    let len : length next ≡ suc (length pre) = omega (arith, length-append pre (m ∷ [])) in
    let all : next ++ ms ≡ pre ++ m ∷ ms = append_assoc pre (m ∷ []) ms in
    let rest : entries_at (pre ++ m ∷ ms) (positions p (suc (length pre)) ms) ≡ own p ms =
    subst (λ (n : ℕ). entries_at (pre ++ m ∷ ms) (positions p n ms) ≡ own p ms) len (subst (λ (l : List Made). entries_at l (positions p (length next) ms) ≡ own p ms) all (entries_positions p next ms)) in
    at_if (pre ++ m ∷ ms) (m.by == p) (length pre) m (positions p (suc (length pre)) ms) (get_here pre m ms)
    ∙ ap (λ (l : List Entry). if m.by == p then m.entry ∷ l else l) rest

-- the latest ticket of a list of places is the last of the entries there
latest_one : (o : Option Made) (es : List Entry) → option_or (last_ticket es) (ticket_of o) ≡ last_ticket (and_entry o es)
latest_one (Some m) es = refl
latest_one None es = or_none (last_ticket es)

pub latest_is : (front : List Made) (mine : List ℕ) → latest_in front mine ≡ last_ticket (entries_at front mine)
latest_is front [] = refl
latest_is front (n ∷ ns) = ap (λ (o : Option ℕ). option_or o (ticket_of (slice_get front n))) (latest_is front ns) ∙ latest_one (slice_get front n) (entries_at front ns)

-- each entry was made by one of the passes

ones : (x n : ℕ) → (sum_to (λ p. one (same x p)) n ≡ 0) ⊎ ((x < n) × (sum_to (λ p. one (same x p)) n ≡ 1))
ones x zero = inl refl
ones zero (suc n) = let r = sum_none n in inr (omega arith, omega (arith, r))
ones (suc x) (suc n) = ⊎_elim
    (λ (t : sum_to (λ p. one (same x p)) n ≡ 0). inl (omega (arith, t)))
    (λ (t : (x < n) × (sum_to (λ p. one (same x p)) n ≡ 1)). inr (omega (arith, t.0), omega (arith, t.1)))
    (ones x n)

ones_few : (x n : ℕ) → sum_to (λ p. one (same x p)) n ≤ 1
ones_few x n = ⊎_elim (λ (t : sum_to (λ p. one (same x p)) n ≡ 0). omega (arith, t)) (λ (t : (x < n) × (sum_to (λ p. one (same x p)) n ≡ 1)). omega (arith, t.1)) (ones x n)

times_few : (log : List Made) (n : ℕ) → sum_to (λ p. times p log) n ≤ length log
times_few [] n = let r = sum_none n in omega (arith, r)
times_few (e ∷ es) n =
    let r = times_few es n in
    let s = sum_add (λ p. one (same e.by p)) (λ p. times p es) n in
    let o = ones_few e.by n in omega (arith, r, s, o)

makers : (log : List Made) (n : ℕ) → length log ≤ sum_to (λ p. times p log) n → Each (λ (m : Made). m.by < n) log
makers [] n le = tt
makers (e ∷ es) n le =
    let r = times_few es n in
    let s = sum_add (λ p. one (same e.by p)) (λ p. times p es) n in
    let few = ones_few e.by n in (
      ⊎_elim
          (λ (t : sum_to (λ p. one (same e.by p)) n ≡ 0). absurd (omega (arith, t, r, s, le)))
          (λ (t : (e.by < n) × (sum_to (λ p. one (same e.by p)) n ≡ 1)). t.0)
          (ones e.by n),
      makers es n (omega (arith, s, few, le)),
    )

first_none : (y : ℕ) → (0 == suc y) ≡ false
first_none y = grind (arith, nat_tests)

later_none : (x : ℕ) → (suc x == 0) ≡ false
later_none x = grind (arith, nat_tests)

next_same : (x y : ℕ) → (suc x == suc y) ≡ (x == y)
next_same x y = grind (arith, nat_tests)

equal_same : (x y : ℕ) → (x == y) ≡ same x y
equal_same zero zero = equal_self 0
equal_same zero (suc y) = first_none y
equal_same (suc x) zero = later_none x
equal_same (suc x) (suc y) = next_same x y ∙ equal_same x y

length_if : (b : Bool) (i : ℕ) (rest : List ℕ) → length (if b then i ∷ rest else rest) ≡ one b + length rest
length_if true i rest = omega arith
length_if false i rest = omega arith

length_positions : (p i : ℕ) (log : List Made) → length (positions p i log) ≡ times p log
length_positions p i [] = refl
length_positions p i (m ∷ ms) =
    length_if (m.by == p) i (positions p (suc i) ms)
    ∙ (ap (λ (b : Bool). one b + length (positions p (suc i) ms)) (equal_same m.by p)
    ∙ ap (λ (k : ℕ). one (same m.by p) + k) (length_positions p (suc i) ms))

pub made_by_passes : (g : Group) (passes : List Holder) (n : ℕ) (entries : List Entry) (front : List Made) → IsWhole g passes n entries front → Each (λ (m : Made). m.by < length passes) front
made_by_passes g passes n entries front w =
    let d : Holder = record { number = 0; fronts = []; mines = []; readers = []; log = [] } in
    let each : (k : ℕ) → k < length passes → length (mine_at (get_or passes k d).mines n) ≡ times k front = λ k lt. ap length (w.made k d lt) ∙ length_positions k 0 front in
    let sum : sum_to (λ k. length (mine_at (get_or passes k d).mines n)) (length passes) ≡ length front = sym (sum_by_index (λ (p : Holder). length (mine_at p.mines n)) passes d) ∙ w.count in
    let is : sum_to (λ k. length (mine_at (get_or passes k d).mines n)) (length passes) ≡ sum_to (λ k. times k front) (length passes) = sum_same (λ k. length (mine_at (get_or passes k d).mines n)) (λ k. times k front) (length passes) each in
    makers front (length passes) (omega (arith, sum, is))

-- the pass of the latest ticket of a journal, whose newest entry stands first here, where these passes alone propose
pub newest : (g : Group) (count : ℕ) (ms : List Made) → IsLegal g (map (λ (m : Made). m.entry) ms) → 0 < length (proposals (map (λ (m : Made). m.entry) ms)) → Each (λ (m : Made). is_submit m.entry.event ≡ true → m.by < count) ms
    → (b : ℕ) × (b < count) × (last_ticket (own b (reverse ms)) ≡ Some (length (proposals (map (λ (m : Made). m.entry) ms))))
newest g count [] legal some each = absurd (omega (arith, some))
newest g count (m ∷ ms) legal some each = ⊎_elim
    (λ (t : (ticket_in m.entry.reply ≡ None) × (length (proposals (map (λ (x : Made). x.entry) (m ∷ ms))) ≡ length (proposals (map (λ (x : Made). x.entry) ms)))).
    let rest = newest g count ms legal.1 (omega (arith, some, t.1)) each.1 in
    (rest.0, rest.1, seam rest.0 ∙ (ap (λ (o : Option ℕ). option_or o (last_ticket (own rest.0 (reverse ms)))) (quiet (m.by == rest.0) t.0) ∙ (rest.2 ∙ ap Some (sym t.1)))))
    (λ (t : ticket_in m.entry.reply ≡ Some (length (proposals (map (λ (x : Made). x.entry) (m ∷ ms))))).
    (m.by, each.0 (given m.entry.event legal.0.answer t (is_submit m.entry.event) refl), seam m.by ∙ ap (λ (o : Option ℕ). option_or o (last_ticket (own m.by (reverse ms)))) (told (m.by == m.by) (equal_self m.by) ∙ t)))
    (counted g (map (λ (x : Made). x.entry) ms) m.entry legal.0)
  where
    given : (event : Event) → m.entry.reply ≡ reply g (map (λ (x : Made). x.entry) ms) event → ticket_in m.entry.reply ≡ Some (length (proposals (map (λ (x : Made). x.entry) (m ∷ ms)))) → (b : Bool) → is_submit event ≡ b → is_submit event ≡ true
    given event answer told_it true is = is
    given event answer told_it false is = let none : ticket_in m.entry.reply ≡ None = ap ticket_in answer ∙ no_ticket g (map (λ (x : Made). x.entry) ms) event is in absurd (cc none)

    seam : (b : ℕ) → last_ticket (own b (reverse (m ∷ ms))) ≡ option_or (last_ticket (own b (m ∷ []))) (last_ticket (own b (reverse ms)))
    seam b = ap (λ (l : List Made). last_ticket (own b l)) (reverse-append (m ∷ []) ms) ∙ (ap last_ticket (own_append b (reverse ms) (m ∷ [])) ∙ last_append (own b (reverse ms)) (own b (m ∷ [])))

    quiet : (c : Bool) → ticket_in m.entry.reply ≡ None → last_ticket (if c then m.entry ∷ [] else []) ≡ None
    quiet true e = e
    quiet false e = refl

    told : (c : Bool) → c ≡ true → last_ticket (if c then m.entry ∷ [] else []) ≡ ticket_in m.entry.reply
    told true e = refl
    told false e = absurd (cc e)
