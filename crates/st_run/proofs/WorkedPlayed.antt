-- A worked service of one room, on which an application locked the switch, beside a worker: what it hands out once it is closed, and what it does not.
use Rattle.std.proofs.Common.{◌≡◌, ◌≢◌, ℕ, zero, suc, ◌+◌, ◌<◌, ◌≤◌, List, [], ◌∷◌, ◌++◌, length, sum_by, refl, ap, subst, ◌∙◌, arith, length-append}
use Rattle.std.specs.Prelude.{false, All, Some, None, slice_get, slice_index_or}
use Rattle.st_net.specs.declared.entity.Prio.TheVariants.{Low}
use Rattle.st_net.specs.Groups.{Group}
use Rattle.st_event.specs.declared.act.Act.{Act}
use Rattle.st_event.specs.declared.act.Act.TheVariants.{Await, Lock}
use Rattle.st_event.specs.declared.act.Log.{Log}
use Rattle.st_event.specs.declared.event.Event.TheVariants.{Check, Lock as lock_event}
use Rattle.st_event.specs.declared.journal.Entry.{Entry}
use Rattle.st_event.specs.declared.journal.Journal.{Journal}
use Rattle.st_event.specs.declared.journal.TheConstants.{MAX_ENTRIES, MAX_PENDING}
use Rattle.st_event.specs.Services.{entry_after}
use Rattle.st_wire.specs.declared.line.WireLine.{WireLine}
use Rattle.st_event.proofs.Prefixes.{prefix_length}
use Rattle.st_world.specs.Acts.{course_of}
use Rattle.st_world.specs.Rounds.{Course, course_from}
use Rattle.st_service.specs.Acts.{ActEnters, CanDo}
use Rattle.st_service.specs.Asked.{requests_in, requests_of}
use Rattle.st_service.specs.Closed.{IsWhole, Stands, positions}
use Rattle.st_service.specs.Lines.{tagged}
use Rattle.st_service.specs.Made.{Made, past_in}
use Rattle.st_service.specs.Opened.{IsFresh}
use Rattle.st_service.specs.Passes.{Holder, front_at, mine_at}
use Rattle.st_service.proofs.WorkedLines.{no_places, one_place}
use Rattle.st_service.proofs.WorkedRooms.{sound}
use Rattle.st_run.specs.Jobs.{Does, HasDone, HaveRun}
use Rattle.st_run.specs.Played.{AreClosed, IsFinished, IsPlayed, WasFull, made_on}
use Rattle.st_run.specs.Went.{MeetsFull, StopsAt, shares_on}
use Rattle.st_run.specs.Workers.{IsOfWorker, MadeByWorker, worker_shares_on}
use Rattle.st_run.proofs.DidLaws.{did_goes, goes_front}
use Rattle.st_run.proofs.SmallCases.{a1, all_none, all_one, app, small}

abbrev groups : ℕ → Group
groups n = small

abbrev lines : ℕ → List WireLine
lines n = []

-- the script locks the switch
abbrev locks : List Act
locks = Lock 0 a1 Low ∷ []

abbrev locked : Entry
locked = entry_after small [] (lock_event (app 0) a1 Low)

abbrev front : List Made
front = record { by = 0; entry = locked } ∷ []

-- a pass of one room, by what it has seen and made there
abbrev pass : ℕ → List Made → List ℕ → Holder
pass number seen mine = record { number = number; fronts = seen ∷ []; mines = mine ∷ []; readers = []; log = [] }

-- the application's, which made the entry, and a worker's, which made nothing
abbrev first : Holder
first = pass 0 front (0 ∷ [])

abbrev passes : List Holder
passes = first ∷ pass 1 [] [] ∷ []

abbrev journals : List Journal
journals = record { group = 0; entries = locked ∷ [] } ∷ []

abbrev logs : List Log
logs = record { app = app 0; entries = [] } ∷ []

fresh : IsFresh 0 1 (pass 0 [] [])
fresh = record { numbered = refl; rooms_are = (refl, refl); unseen = unseen; unmade = unmade; unread = λ k. refl; unlogged = refl }
  where
    unseen : (k : ℕ) → front_at ([] ∷ []) k ≡ []
    unseen zero = refl
    unseen (suc k) = refl

    unmade : (k : ℕ) → mine_at ([] ∷ []) k ≡ []
    unmade zero = refl
    unmade (suc k) = refl

-- the lock, and the await behind it, which finds no ticket of the pass
does_lock : Does groups lines (Lock 0 a1 Low) (pass 0 [] []) first
does_lock = record {
  kept = record {
    number = refl;
    rooms = (refl, refl);
    others = others;
    grows = ((front, refl), (0 ∷ [], refl, omega arith, (omega arith, omega arith, tt)));
    readers = λ k. ([], refl);
  };
  done = record { entered = ([], record { entries = locked ∷ []; puts = (([], refl), refl, refl); run = refl; full = λ e. absurd (cc e) }); logged = refl; taught = ([], refl) };
}
  where
    others : (k : ℕ) → k ≢ 0 → (front_at (front ∷ []) k ≡ front_at ([] ∷ []) k) × (mine_at ((0 ∷ []) ∷ []) k ≡ mine_at ([] ∷ []) k)
    others zero apart = absurd (apart refl)
    others (suc k) apart = (refl, refl)

does_await : Does groups lines (Await 0) first first
does_await = record {
  kept = record { number = refl; rooms = (refl, refl); others = λ k apart. (refl, refl); grows = (([], refl), ([], refl, omega arith, tt)); readers = λ k. ([], refl) };
  done = record { entered = (([], refl), refl); logged = refl; taught = ([], refl) };
}

done : HasDone groups lines 1 0 locks first
done = record { start = pass 0 [] []; fresh = fresh; did = (first, does_lock, (first, does_await, refl)) }

-- the lock was done, and one more met a full journal: the await behind them is not begun
stopped : (full : Holder) → MeetsFull groups lines (Lock 0 a1 Low) first full → StopsAt groups lines 0 (Lock 0 a1 Low ∷ Lock 0 a1 Low ∷ Await 0 ∷ []) (pass 0 [] []) full
stopped full met = record { done = locks; last = Lock 0 a1 Low; begins = (Await 0 ∷ [], refl); group = refl; mid = first; did = (first, does_lock, refl); met = met }

-- not where the journal has room, and not without commands
not_stopped : (acts : List Act) → StopsAt groups lines 0 acts (pass 0 [] []) first → ⊥
not_stopped acts s =
    let full : length (front_at (front ∷ []) 0) ≡ MAX_ENTRIES = subst (λ (n : ℕ). length (front_at (front ∷ []) n) ≡ MAX_ENTRIES) s.group s.met.full.full in
    absurd (omega (arith, full))

not_stopped_by_none : (full : Holder) → StopsAt groups lines 0 [] (pass 0 [] []) full → ⊥
not_stopped_by_none full s =
    let ends = length-append (s.done ++ s.last ∷ []) s.begins.0 in
    absurd (omega (arith, ends, ap length s.begins.1, length-append s.done (s.last ∷ [])))

-- what stands in a list of one, and of two
item : {X : Type 0} (P : ℕ → X → Type 0) (x y : X) (n : ℕ) → P 0 x → slice_get (x ∷ []) n ≡ Some y → P n y
item P x y zero here is = let same : x ≡ y = cc is in subst (P 0) same here
item P x y (suc n) here is = absurd cc

either : {X : Type 0} (P : ℕ → X → Type 0) (x y z : X) (n : ℕ) → P 0 x → P 1 y → slice_get (x ∷ y ∷ []) n ≡ Some z → P n z
either P x y z zero here there is = let same : x ≡ z = cc is in subst (P 0) same here
either P x y z (suc zero) here there is = let same : y ≡ z = cc is in subst (P 1) same there
either P x y z (suc (suc n)) here there is = absurd cc

-- a worker's pass that made nothing
nothing_made : MadeByWorker (pass 1 [] [])
nothing_made zero = all_none (λ place. IsOfWorker (slice_get [] place))
nothing_made (suc k) = all_none (λ place. IsOfWorker (slice_get [] place))

worker : (p : Holder) → MadeByWorker p → (a : ℕ) (q : Holder) → 1 ≤ a → slice_get (first ∷ p ∷ []) a ≡ Some q → MadeByWorker q
worker p made a q le is = either (λ (n : ℕ) (h : Holder). 1 ≤ n → MadeByWorker h) first p q a (λ low. absurd (omega (arith, low))) (λ low. made) is le

run : HaveRun groups lines 1 (locks ∷ []) passes
run = record {
  count = omega arith;
  fit = all_one (All (CanDo groups 1)) locks (all_one (CanDo groups 1) (Lock 0 a1 Low) (omega arith, omega arith, tt));
  each = λ a acts p script is. item (λ (n : ℕ) (xs : List Act). (q : Holder) → slice_get passes n ≡ Some q → HasDone groups lines 1 n xs q) locks acts a
      (λ q at. let same : first ≡ q = cc at in subst (HasDone groups lines 1 0 locks) same done) script p is;
  workers = worker (pass 1 [] []) nothing_made;
}

-- the application's pass made no more than its script and an await can
finished : IsFinished groups lines 1 0 locks first
finished = record { number_is = refl; rooms_are = (refl, refl); few = few }
  where
    few : (n : ℕ) → n < 1 → length (mine_at ((0 ∷ []) ∷ []) n) ≤ shares_on n (groups n) (lines n) locks + MAX_PENDING
    few zero lt = omega arith
    few (suc n) lt = absurd (omega (arith, lt))

-- the closed service: a journal of the one entry, of which the worker has seen nothing
both_stand : (n : ℕ) (p : Holder) → n < 2 → Stands (slice_index_or passes n p) front 0
both_stand zero p lt = record { begins = ([], refl); mine = one_place 0 0 front (omega arith) refl; reads = ([], refl) }
both_stand (suc zero) p lt = record { begins = (front, refl); mine = no_places 1 front; reads = ([], refl) }
both_stand (suc (suc n)) p lt = absurd (omega (arith, lt))

both_made : (n : ℕ) (p : Holder) → n < 2 → mine_at (slice_index_or passes n p).mines 0 ≡ positions n 0 front
both_made zero p lt = refl
both_made (suc zero) p lt = refl
both_made (suc (suc n)) p lt = absurd (omega (arith, lt))

both_asked : (n : ℕ) (p : Holder) → n < 2 → requests_of n 0 front ≡ requests_in front (mine_at (slice_index_or passes n p).mines 0)
both_asked zero p lt = refl
both_asked (suc zero) p lt = refl
both_asked (suc (suc n)) p lt = absurd (omega (arith, lt))

whole : IsWhole small passes 0 (locked ∷ []) front
whole = record { journal = refl; legal = (record { room = omega arith; fits = omega arith; answer = refl }, tt); sound = sound; stands = both_stand; made = both_made; asked = both_asked; count = refl }

closed : AreClosed groups 1 1 passes journals logs
closed = record { journal_count = refl; numbered = numbered; whole = wholes; log_count = refl; logged = logged }
  where
    numbered : (k : ℕ) (j : Journal) → k < 1 → (slice_index_or journals k j).group ≡ k
    numbered zero j lt = refl
    numbered (suc k) j lt = absurd (omega (arith, lt))

    wholes : (k : ℕ) (j : Journal) → k < 1 → (seen : List Made) × IsWhole (groups k) passes k (slice_index_or journals k j).entries seen
    wholes zero j lt = (front, whole)
    wholes (suc k) j lt = absurd (omega (arith, lt))

    logged : (a : ℕ) (l : Log) (p : Holder) → a < 1 → ((slice_index_or logs a l).app.0 ≡ a) × ((slice_index_or logs a l).entries ≡ (slice_index_or passes a p).log)
    logged zero l p lt = (refl, refl)
    logged (suc a) l p lt = absurd (omega (arith, lt))

of_one_room : (p : Holder) → length p.fronts ≡ 1 → (a : ℕ) (q : Holder) → slice_get (first ∷ p ∷ []) a ≡ Some q → length q.fronts ≡ 1
of_one_room p one a q is = either (λ (n : ℕ) (h : Holder). length h.fronts ≡ 1) first p q a refl one is

all_finished : (p : Holder) (a : ℕ) (acts : List Act) (q : Holder) → slice_get (locks ∷ []) a ≡ Some acts → slice_get (first ∷ p ∷ []) a ≡ Some q → IsFinished groups lines 1 a acts q
all_finished p a acts q script at = item (λ (n : ℕ) (xs : List Act). (h : Holder) → slice_get (first ∷ p ∷ []) n ≡ Some h → IsFinished groups lines 1 n xs h) locks acts a
    (λ h is. let same : first ≡ h = cc is in subst (IsFinished groups lines 1 0 locks) same finished) script q at

played : IsPlayed groups lines 1 (locks ∷ []) None journals logs passes
played = record {
  count = omega arith;
  rooms_are = of_one_room (pass 1 [] []) refl;
  finished = all_finished (pass 1 [] []);
  workers = worker (pass 1 [] []) nothing_made;
  worked = worked;
  run = λ e. run;
  full_is = tt;
  closed = closed;
}
  where
    worked : (n : ℕ) → n < 1 → made_on n (pass 1 [] [] ∷ []) ≤ sum_by (worker_shares_on n (groups n) (lines n)) (locks ∷ [])
    worked zero lt = omega arith
    worked (suc n) lt = absurd (omega (arith, lt))

-- a pass is missing, a journal, or a log
not_without_passes : IsPlayed groups lines 1 (locks ∷ []) None journals logs [] → ⊥
not_without_passes p = absurd (omega (arith, p.count))

not_without_a_journal : IsPlayed groups lines 1 (locks ∷ []) None [] logs passes → ⊥
not_without_a_journal p = absurd (omega (arith, p.closed.journal_count))

not_without_a_log : IsPlayed groups lines 1 (locks ∷ []) None journals [] passes → ⊥
not_without_a_log p = absurd (omega (arith, p.closed.log_count))

-- a pass of another number is an application's
not_by_another_pass : IsPlayed groups lines 1 (locks ∷ []) None journals logs (pass 4 front (0 ∷ []) ∷ pass 1 [] [] ∷ []) → ⊥
not_by_another_pass p = absurd (omega (arith, (p.finished 0 locks (pass 4 front (0 ∷ [])) refl refl).number_is))

-- no script proposes, and the worker made a check
abbrev idle_check : Made
idle_check = record { by = 1; entry = entry_after small (locked ∷ []) Check }

abbrev checker : Holder
checker = pass 1 (record { by = 0; entry = locked } ∷ idle_check ∷ []) (1 ∷ [])

not_with_more_checks : (found : List Journal) → IsPlayed groups lines 1 (locks ∷ []) None found logs (first ∷ checker ∷ []) → ⊥
not_with_more_checks found p = absurd (omega (arith, p.worked 0 (omega arith)))

-- a worker makes checks
with_more_checks_else : MadeByWorker checker
with_more_checks_else zero = all_one (λ place. IsOfWorker (slice_get (record { by = 0; entry = locked } ∷ idle_check ∷ []) place)) 1 refl
with_more_checks_else (suc k) = all_none (λ place. IsOfWorker (slice_get [] place))

-- the worker made the application's entry: no entry of its kind is a worker's
not_by_a_worker : (scripts : List (List Act)) (found : List Journal) (told : List Log) → length scripts ≤ 1 → IsPlayed groups lines 1 scripts None found told (pass 0 [] [] ∷ pass 1 front (0 ∷ []) ∷ []) → ⊥
not_by_a_worker scripts found told few p = let made = p.workers 1 (pass 1 front (0 ∷ [])) few refl 0 0 0 (omega arith) in cc made

-- a lock leaves an entry in a front
lock_enters : (number : ℕ) (before : List Made) (was : List ℕ) (after : List Made) (now : List ℕ) → length after ≤ 0 → ActEnters (Lock 0 a1 Low) small [] number before was after now → ⊥
lock_enters number before was after now none e =
    let mid = e.0 in
    let run = e.1 in
    let size : length after ≡ length mid + length (tagged number run.entries) = ap length run.puts.1 ∙ length-append mid (tagged number run.entries) in
    locked_once number mid after (omega (arith, none, size)) none run.run
  where
    locked_once : (number : ℕ) (mid after : List Made) → length mid ≤ 0 → length after ≤ 0 → course_of (app number) (Lock 0 a1 Low) small [] (course_from (past_in mid)) ≡ record { past = past_in after; stopped = false } → ⊥
    locked_once number [] [] few none is = absurd (omega (arith, ap (λ (r : Course). length r.past) is))
    locked_once number [] (m ∷ after) few none is = absurd (omega (arith, none))
    locked_once number (m ∷ mid) after few none is = absurd (omega (arith, few))

-- the script was not done, and no journal was full
not_undone : (found : List Journal) (told : List Log) → IsPlayed groups lines 1 (locks ∷ []) None found told (pass 0 [] [] ∷ []) → ⊥
not_undone found told p =
    let d = (p.run refl).each 0 locks (pass 0 [] []) refl refl in
    let e : ActEnters (Lock 0 a1 Low) small [] d.start.number (front_at d.start.fronts 0) (mine_at d.start.mines 0) (front_at d.did.0.fronts 0) (mine_at d.did.0.mines 0) = d.did.1.done.entered in
    let back = goes_front 0 d.did.0 (pass 0 [] []) (did_goes groups lines 0 (Await 0 ∷ []) d.did.0 (pass 0 [] []) d.did.2) in
    absurd (lock_enters d.start.number (front_at d.start.fronts 0) (mine_at d.start.mines 0) (front_at d.did.0.fronts 0) (mine_at d.did.0.mines 0) (prefix_length (front_at d.did.0.fronts 0) [] back) e)

-- the group is named, and nobody saw its journal full
not_full : (found : List Journal) (told : List Log) → IsPlayed groups lines 1 (locks ∷ []) (Some 0) found told passes → ⊥
not_full found told p =
    let w : WasFull passes 0 = p.full_is in
    either (λ (n : ℕ) (h : Holder). MAX_ENTRIES ≤ length (front_at h.fronts 0) → ⊥) first (pass 1 [] []) w.pass w.number
    (λ many. absurd (omega (arith, many))) (λ many. absurd (omega (arith, many))) w.is w.full.1
