-- Of the entries of a journal that was told whole each was made by a script's pass, or is one that a worker makes.
use Rattle.std.proofs.Common.{◌≡◌, ◌⊎◌, inl, inr, ⊎_elim, ℕ, zero, suc, ◌<◌, ◌≤◌, Bool, true, false, List, [], ◌∷◌, ◌++◌, length, get_or, refl, ap, sym, subst, ◌∙◌, arith}
use Rattle.std.specs.Prelude.{Option, Some, None, ◌==◌, slice_get, if◌then◌else◌}
use Rattle.std.proofs.lemmas.List.{append-nil}
use Rattle.std.proofs.lemmas.Option.{slice_get-get_or, slice_get_within, get_or_from_slice_get}
use mathlib.Core.List.{IsPrefix}
use Rattle.st_net.specs.Groups.{Group}
use Rattle.st_net.proofs.Tests.{equal_self}
use Rattle.st_event.specs.declared.journal.Entry.{Entry}
use Rattle.st_service.specs.Closed.{IsWhole}
use Rattle.st_service.specs.Made.{Made}
use Rattle.st_service.specs.Passes.{Holder, front_at, mine_at}
use Rattle.st_run.specs.Workers.{IsOfWorker, MadeByWorker, is_workers}
use Rattle.st_run.proofs.DidLaws.{Each, all_each}
use Rattle.st_run.proofs.OwnEntries.{and_entry, entries_at}
use Rattle.st_run.proofs.OwnTickets.{entries_positions, made_by_passes, own}

-- a worker makes the entry
abbrev pub IsWorkerEntry : Entry → Type 0
IsWorkerEntry e = is_workers e.event ≡ true

get_more : (xs more : List Made) (n : ℕ) (m : Made) → slice_get xs n ≡ Some m → slice_get (xs ++ more) n ≡ Some m
get_more [] more n m is = absurd cc
get_more (x ∷ xs) more zero m is = is
get_more (x ∷ xs) more (suc n) m is = get_more xs more n m is

-- the entries at these places of a front, in one that goes on
one_of : (seen more : List Made) (n : ℕ) (es : List Entry) (o : Option Made) → slice_get seen n ≡ o → IsOfWorker o → Each IsWorkerEntry es
    → Each IsWorkerEntry (and_entry (slice_get (seen ++ more) n) es)
one_of seen more n es (Some m) is w rest = subst (λ (o : Option Made). Each IsWorkerEntry (and_entry o es)) (sym (get_more seen more n m is)) (w, rest)
one_of seen more n es None is w rest = absurd w

all_of : (seen more : List Made) (mine : List ℕ) → Each (λ place. IsOfWorker (slice_get seen place)) mine → Each IsWorkerEntry (entries_at (seen ++ more) mine)
all_of seen more [] w = tt
all_of seen more (n ∷ ns) w = one_of seen more n (entries_at (seen ++ more) ns) (slice_get seen n) refl w.0 (all_of seen more ns w.1)

pub worker_entries : (front : List Made) (mine : List ℕ) → Each (λ place. IsOfWorker (slice_get front place)) mine → Each IsWorkerEntry (entries_at front mine)
worker_entries front mine w = subst (λ (f : List Made). Each IsWorkerEntry (entries_at f mine)) (append-nil front) (all_of front [] mine w)

-- those of a pass that made what workers make
pub own_of_worker : (g : Group) (passes : List Holder) (n : ℕ) (entries : List Entry) (front : List Made) (a : ℕ) (p : Holder) → IsWhole g passes n entries front
    → slice_get passes a ≡ Some p → MadeByWorker p → Each IsWorkerEntry (own a front)
own_of_worker g passes n entries front a p whole at made =
    let lt : a < length passes = slice_get_within passes a p at in
    let is : get_or passes a p ≡ p = get_or_from_slice_get passes a p p at in
    let begins : IsPrefix (front_at p.fronts n) front = subst (λ (h : Holder). IsPrefix (front_at h.fronts n) front) is (whole.stands a p lt).begins in
    let places = ap (λ (h : Holder). mine_at h.mines n) (sym is) ∙ whole.made a p lt in
    let all : Each IsWorkerEntry (entries_at front (mine_at p.mines n)) =
    subst (λ (f : List Made). Each IsWorkerEntry (entries_at f (mine_at p.mines n))) begins.1
    (all_of (front_at p.fronts n) begins.0 (mine_at p.mines n) (all_each (λ place. IsOfWorker (slice_get (front_at p.fronts n) place)) (mine_at p.mines n) (made n))) in
    subst (Each IsWorkerEntry) (ap (entries_at front) places ∙ entries_positions a [] front) all

-- an entry of one of the first so many passes, or one that a worker makes
abbrev pub IsByOrWorkers : ℕ → Made → Type 0
IsByOrWorkers count m = (m.by < count) ⊎ (is_workers m.entry.event ≡ true)

below_or_not : (m n : ℕ) → (m < n) ⊎ (n ≤ m)
below_or_not m zero = inr (omega arith)
below_or_not zero (suc n) = inl (omega arith)
below_or_not (suc m) (suc n) = ⊎_elim (λ (t : m < n). inl (omega (arith, t))) (λ (t : n ≤ m). inr (omega (arith, t))) (below_or_not m n)

first_if : (b : Bool) (e : Entry) (es : List Entry) → b ≡ true → Each IsWorkerEntry (if b then e ∷ es else es) → IsWorkerEntry e
first_if true e es is w = w.0
first_if false e es is w = absurd (cc is)

rest_if : (b : Bool) (e : Entry) (es : List Entry) → Each IsWorkerEntry (if b then e ∷ es else es) → Each IsWorkerEntry es
rest_if true e es w = w.1
rest_if false e es w = w

by_or_workers : (count many : ℕ) (ms : List Made) → Each (λ (m : Made). m.by < many) ms → ((a : ℕ) → count ≤ a → a < many → Each IsWorkerEntry (own a ms))
    → Each (IsByOrWorkers count) ms
by_or_workers count many [] low own_are = tt
by_or_workers count many (m ∷ ms) low own_are = (
  ⊎_elim
      (λ (t : m.by < count). inl t)
      (λ (t : count ≤ m.by). inr (first_if (m.by == m.by) m.entry (own m.by ms) (equal_self m.by) (own_are m.by t low.0)))
      (below_or_not m.by count),
  by_or_workers count many ms low.1 (λ a le lt. rest_if (m.by == a) m.entry (own a ms) (own_are a le lt)),
)

nobody : Holder
nobody = record { number = 0; fronts = []; mines = []; readers = []; log = [] }

-- the entries of a journal, where the passes from this number on made only what workers make
pub scripts_or_workers : (g : Group) (passes : List Holder) (n : ℕ) (entries : List Entry) (front : List Made) (count : ℕ)
    → ((a : ℕ) (p : Holder) → count ≤ a → slice_get passes a ≡ Some p → MadeByWorker p) → IsWhole g passes n entries front → Each (IsByOrWorkers count) front
scripts_or_workers g passes n entries front count workers whole =
    by_or_workers count (length passes) front (made_by_passes g passes n entries front whole)
    (λ a le lt.
    let at = slice_get-get_or passes a nobody lt in
    own_of_worker g passes n entries front a (get_or passes a nobody) whole at (workers a (get_or passes a nobody) le at))
