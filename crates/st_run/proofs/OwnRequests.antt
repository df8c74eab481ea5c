-- Each request of a journal that was told whole names the pass that made it, and so one of the document's applications; the passes of workers make none.
use Rattle.std.proofs.Common.{◌≡◌, ⊎_elim, ℕ, suc, ◌<◌, ◌≤◌, Bool, true, false, List, [], ◌∷◌, ◌++◌, length, refl, ap, sym, subst, ◌∙◌, arith, append_assoc, length-append}
use Rattle.std.specs.Prelude.{◌==◌, All, IfSome, Option, Some, None, map, reverse, slice_get, if◌then◌else◌}
use Rattle.std.proofs.lemmas.List.{reverse-reverse}
use Rattle.st_net.proofs.Tests.{equal_numbers, equal_self}
use Rattle.st_net.specs.Groups.{Group}
use Rattle.st_event.specs.declared.event.Event.{Event}
use Rattle.st_event.specs.declared.event.Event.TheVariants.{Submit, Check, Lock, Unlock, Send, Deliver, Finish, Report, Hear, Fail, Withdraw}
use Rattle.st_event.specs.declared.journal.Entry.{Entry}
use Rattle.st_service.specs.Asked.{asker, is_of, is_own, is_request, is_request_at, requests_in, requests_of}
use Rattle.st_service.specs.Closed.{IsWhole, positions}
use Rattle.st_service.specs.Made.{Made}
use Rattle.st_service.specs.Passes.{Holder}
use Rattle.st_run.specs.Running.{IsByOneOf}
use Rattle.st_run.specs.Workers.{MadeByWorker, is_workers}
use Rattle.st_run.proofs.DidLaws.{Each, each_all}
use Rattle.st_run.proofs.Interleaved.{get_here}
use Rattle.st_run.proofs.WorkerEntries.{IsByOrWorkers, scripts_or_workers}

-- the entry at a place is a request that names an application
abbrev is_of_at : ℕ → Option Made → Bool
is_of_at a (Some m) = is_of a (asker m.entry.event)
is_of_at a None = false

abbrev IsNamed : ℕ → List Made → ℕ → Type 0
IsNamed a front k = is_of_at a (slice_get front k) ≡ true

one_more : (xs : List Made) (m : Made) → length (xs ++ m ∷ []) ≡ suc (length xs)
one_more xs m = omega (arith, length-append xs (m ∷ []))

-- at each place that is listed as a request of an application the entry names the application
put_named : (a : ℕ) (front : List Made) (b : Bool) (i : ℕ) (m : Made) (rest : List ℕ) → slice_get front i ≡ Some m → is_of a (asker m.entry.event) ≡ b
    → Each (IsNamed a front) rest → Each (IsNamed a front) (if b then i ∷ rest else rest)
put_named a front true i m rest at is each = (ap (is_of_at a) at ∙ is, each)
put_named a front false i m rest at is each = each

named_at : (a : ℕ) (pre ms : List Made) → Each (IsNamed a (pre ++ ms)) (requests_of a (length pre) ms)
named_at a pre [] = tt
named_at a pre (m ∷ ms) =
    let next = pre ++ m ∷ [] in
    let all : next ++ ms ≡ pre ++ m ∷ ms = append_assoc pre (m ∷ []) ms in
    let rest : Each (IsNamed a (pre ++ m ∷ ms)) (requests_of a (suc (length pre)) ms) =
    subst (λ (n : ℕ). Each (IsNamed a (pre ++ m ∷ ms)) (requests_of a n ms)) (one_more pre m)
    (subst (λ (l : List Made). Each (IsNamed a l) (requests_of a (length next) ms)) all (named_at a next ms)) in
    put_named a (pre ++ m ∷ ms) (is_of a (asker m.entry.event)) (length pre) m (requests_of a (suc (length pre)) ms) (get_here pre m ms) refl rest

-- where the requests at a pass's places all name the pass's application, so does each request that the pass made
abbrev IsOwnOf : ℕ → Made → Type 0
IsOwnOf a m = (m.by == a) ≡ true → is_own a (asker m.entry.event) ≡ true

own_by : (a : ℕ) (o : Option ℕ) → (is_request o ≡ true → is_of a o ≡ true) → is_own a o ≡ true
own_by a (Some app) named = named refl
own_by a None named = refl

-- a place that was chosen is named
here_named : (a : ℕ) (front : List Made) (i : ℕ) (m : Made) (rest : List ℕ) (o : Option Made) → o ≡ Some m → slice_get front i ≡ o
    → Each (IsNamed a front) (if is_request_at o then i ∷ rest else rest) → is_request (asker m.entry.event) ≡ true → is_of a (asker m.entry.event) ≡ true
here_named a front i m rest None is at each asks = absurd (cc is)
here_named a front i m rest (Some x) is at each asks =
    let chosen : is_request_at (Some x) ≡ true = ap is_request_at is ∙ asks in
    let all : Each (IsNamed a front) (i ∷ rest) = subst (λ (b : Bool). Each (IsNamed a front) (if b then i ∷ rest else rest)) chosen each in
    sym (ap (is_of_at a) (at ∙ is)) ∙ all.0

drop_one : (a : ℕ) (front : List Made) (b : Bool) (i : ℕ) (rest : List ℕ) → Each (IsNamed a front) (if b then i ∷ rest else rest) → Each (IsNamed a front) rest
drop_one a front true i rest each = each.1
drop_one a front false i rest each = each

own_at : (a : ℕ) (front : List Made) (b : Bool) (i : ℕ) (m : Made) (places : List ℕ) → slice_get front i ≡ Some m
    → Each (IsNamed a front) (requests_in front (if b then i ∷ places else places)) → b ≡ true → is_own a (asker m.entry.event) ≡ true
own_at a front false i m places at each is = absurd (cc is)
own_at a front true i m places at each is =
    own_by a (asker m.entry.event) (here_named a front i m (requests_in front places) (slice_get front i) at refl each)

rest_at : (a : ℕ) (front : List Made) (b : Bool) (i : ℕ) (places : List ℕ)
    → Each (IsNamed a front) (requests_in front (if b then i ∷ places else places)) → Each (IsNamed a front) (requests_in front places)
rest_at a front true i places each = drop_one a front (is_request_at (slice_get front i)) i (requests_in front places) each
rest_at a front false i places each = each

owned : (a : ℕ) (pre ms : List Made) → Each (IsNamed a (pre ++ ms)) (requests_in (pre ++ ms) (positions a (length pre) ms)) → Each (IsOwnOf a) ms
owned a pre [] each = tt
owned a pre (m ∷ ms) each =
    let front = pre ++ m ∷ ms in
    let next = pre ++ m ∷ [] in
    let places = positions a (suc (length pre)) ms in
    let all : front ≡ next ++ ms = sym (append_assoc pre (m ∷ []) ms) in
    let more = rest_at a front (m.by == a) (length pre) places each in
    let rest : Each (IsNamed a (next ++ ms)) (requests_in (next ++ ms) (positions a (length next) ms)) =
    subst (λ (n : ℕ). Each (IsNamed a (next ++ ms)) (requests_in (next ++ ms) (positions a n ms))) (sym (one_more pre m))
    (subst (λ (l : List Made). Each (IsNamed a l) (requests_in l places)) all more) in
    (own_at a front (m.by == a) (length pre) m places (get_here pre m ms) each, owned a next ms rest)

-- of a whole journal, for each pass
pass_owned : (g : Group) (passes : List Holder) (n : ℕ) (entries : List Entry) (front : List Made) (a : ℕ) (p : Holder) → IsWhole g passes n entries front
    → a < length passes → Each (IsOwnOf a) front
pass_owned g passes n entries front a p whole low =
    let places : requests_of a 0 front ≡ requests_in front (positions a 0 front) = whole.asked a p low ∙ ap (requests_in front) (whole.made a p low) in
    owned a [] front (subst (Each (IsNamed a front)) places (named_at a [] front))

-- a request that names its pass's application names one of so many applications
by_asker : (count n : ℕ) (o : Option ℕ) → n < count → is_own n o ≡ true → IfSome o (λ app. app < count)
by_asker count n (Some app) low own = omega (arith, low, equal_numbers app n own)
by_asker count n None low own = tt

by_one : (count n : ℕ) (event : Event) → n < count → is_own n (asker event) ≡ true → IsByOneOf count event
by_one count n event low own = by_asker count n (asker event) low own

-- an entry that a worker makes is no request
by_worker : (count : ℕ) (event : Event) → is_workers event ≡ true → IsByOneOf count event
by_worker count (Submit app rows) is = absurd (cc is)
by_worker count Check is = tt
by_worker count (Lock app entity prio) is = absurd (cc is)
by_worker count (Unlock app entity prio) is = absurd (cc is)
by_worker count (Send entity) is = tt
by_worker count (Deliver m) is = tt
by_worker count (Finish entity) is = tt
by_worker count (Report entity) is = tt
by_worker count (Hear m) is = tt
by_worker count (Fail entity vals health) is = tt
by_worker count (Withdraw entity) is = tt

front_by : (count : ℕ) (ms : List Made) → ((a : ℕ) → a < count → Each (IsOwnOf a) ms) → Each (IsByOrWorkers count) ms → Each (λ e. IsByOneOf count e.event) (map (λ m. m.entry) ms)
front_by count [] own by = tt
front_by count (m ∷ ms) own by = (
  ⊎_elim
      (λ (low : m.by < count). by_one count m.by m.entry.event low ((own m.by low).0 (equal_self m.by)))
      (λ (is : is_workers m.entry.event ≡ true). by_worker count m.entry.event is)
      by.0,
  front_by count ms (λ a low. (own a low).1) by.1,
)

nobody : Holder
nobody = record { number = 0; fronts = []; mines = []; readers = []; log = [] }

-- where the passes from this number on made only what workers make
pub requests_own : (g : Group) (passes : List Holder) (n : ℕ) (entries : List Entry) (front : List Made) (count : ℕ) → count ≤ length passes
    → ((a : ℕ) (p : Holder) → count ≤ a → slice_get passes a ≡ Some p → MadeByWorker p) → IsWhole g passes n entries front
    → All (λ entry. IsByOneOf count entry.event) entries
requests_own g passes n entries front count many workers whole =
    let made = map (λ (m : Made). m.entry) front in
    let same : made ≡ entries = sym (reverse-reverse made) ∙ ap reverse whole.journal ∙ reverse-reverse entries in
    let each = front_by count front (λ a low. pass_owned g passes n entries front a nobody whole (omega (arith, low, many))) (scripts_or_workers g passes n entries front count workers whole) in
    each_all (λ entry. IsByOneOf count entry.event) entries (subst (Each (λ entry. IsByOneOf count entry.event)) same each)
