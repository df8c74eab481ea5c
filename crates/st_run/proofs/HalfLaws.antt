-- What a half of a round, or a check off the lock, leaves with a worker's pass, which goes on to have made only what workers make.
use Rattle.std.proofs.Common.{zero, suc, ◌+◌, ◌≡◌, ◌≢◌, ⊎_elim, ℕ, ◌<◌, List, [], ◌∷◌, length, true, refl, sym, subst, arith}
use Rattle.std.specs.Prelude.{All, Option, Some, None, Result, Ok, Err, IfOk, slice_get}
use Rattle.std.proofs.lemmas.Option.{slice_get_within}
use Rattle.st_net.specs.Groups.{Group}
use Rattle.st_event.specs.declared.journal.TheConstants.{MAX_ENTRIES}
use Rattle.st_wire.specs.declared.line.WireLine.{WireLine}
use Rattle.st_world.specs.declared.world.rounds.Rounded.{Rounded}
use Rattle.st_world.specs.declared.world.rounds.Rounded.TheVariants.{Did, JournalFull}
use Rattle.st_world.specs.declared.world.commits.Committed.{Committed}
use Rattle.st_world.specs.declared.world.commits.Committed.TheVariants.{Did as decided_here, Gone as gone_by, JournalFull as full_there}
use Rattle.st_service.specs.declared.offlock.OffLock.{OffLock}
use Rattle.st_service.specs.declared.offlock.OffLock.TheVariants.{Decided, Gone, Idle, JournalFull as met_full}
use Rattle.st_service.specs.declared.work.Part.{Part}
use Rattle.st_service.specs.declared.work.Part.TheVariants.{Update as update_half, Monitor as monitor_half}
use Rattle.st_service.specs.OffLock.{ChecksOff, CommitsIn, verdict_entry}
use Rattle.st_event.proofs.Prefixes.{prefix_self}
use Rattle.st_service.specs.Kept.{AllWithin, Kept}
use Rattle.st_service.specs.Made.{Made}
use Rattle.st_service.specs.Passes.{Holder, front_at, mine_at}
use Rattle.st_service.specs.Turns.{RoundOf, RoundToFull, RoundTold}
use Rattle.st_run.specs.declared.application.Came.{Came}
use Rattle.st_run.specs.declared.application.Came.TheVariants.{Through, ToFull, OutOfMemory}
use Rattle.st_run.specs.declared.workers.Duty.{Duty}
use Rattle.st_run.specs.declared.workers.Duty.TheVariants.{Check, Update, Monitor}
use Rattle.st_run.specs.Duties.{DidOnce, DoesDuty, DoesTimes, StopsDuty, StopsOf, WorkedTo, came_by_half, came_by_check}
use Rattle.st_run.specs.Went.{HadMemory}
use Rattle.st_run.specs.Workers.{IsOfWorker, MadeByWorker, is_workers}
use Rattle.st_run.proofs.CommandEntries.{each_then, round_full_only, round_only}
use Rattle.st_run.proofs.DidLaws.{Each, all_each, each_all, each_append, same_or_not}
use Rattle.st_run.proofs.OwnEntries.{AddsEach, adds_puts, and_entry, each_none, entries_at}
use Rattle.st_net.proofs.Tests.{get_some}
use Rattle.st_run.proofs.RunEntries.{OfTurns}
use Rattle.st_run.proofs.WorkerEntries.{IsWorkerEntry, worker_entries}

-- the events of turns are those of workers
of_turns : OfTurns (λ event. is_workers event ≡ true)
of_turns = record { send = λ e. refl; deliver = λ n. refl; finish = λ e. refl; report = λ e. refl; hear = λ n. refl; withdraw = λ e. refl }

-- places of a front, and the entries there

places_within : (front : List Made) (mine : List ℕ) → Each (λ place. IsOfWorker (slice_get front place)) mine → AllWithin 0 (length front) mine
places_within front [] w = tt
places_within front (n ∷ ns) w = (omega arith, there (slice_get front n) refl w.0, places_within front ns w.1)
  where
    there : (o : Option Made) → slice_get front n ≡ o → IsOfWorker o → n < length front
    there (Some m) is of = slice_get_within front n m is
    there None is of = absurd of

at_places : (front : List Made) (mine : List ℕ) → AllWithin 0 (length front) mine → Each IsWorkerEntry (entries_at front mine) → Each (λ place. IsOfWorker (slice_get front place)) mine
at_places front [] w e = tt
at_places front (n ∷ ns) w e =
    let there = get_some front n w.1 in
    let both : Each IsWorkerEntry (and_entry (Some there.0) (entries_at front ns)) = subst (λ (o : Option Made). Each IsWorkerEntry (and_entry o (entries_at front ns))) there.1 e in
    (subst IsOfWorker (sym there.1) both.0, at_places front ns w.2 both.1)

-- what was added is a worker's too
made_more : (before : List Made) (was : List ℕ) (after : List Made) (now : List ℕ) → AddsEach IsWorkerEntry before was after now
    → Each (λ place. IsOfWorker (slice_get before place)) was → Each (λ place. IsOfWorker (slice_get after place)) now
made_more before was after now a w =
    let within = places_within before was w in
    at_places after now (a.adds.within within)
    (subst (Each IsWorkerEntry) (sym (a.adds.made within)) (each_append IsWorkerEntry (entries_at before was) a.entries (worker_entries before was w) a.each))

-- the entries of a pass on a group
abbrev MadeOn : List Made → List ℕ → Type 0
MadeOn front mine = All (λ place. IsOfWorker (slice_get front place)) mine

-- a pass that made only what workers make has made only that still, where all that the pass has on the group of the call is a worker's
all_workers : (n most : ℕ) (old new : Holder) → Kept old new n most → MadeOn (front_at new.fronts n) (mine_at new.mines n) → MadeByWorker old → MadeByWorker new
all_workers n most old new kept here made k = ⊎_elim
    (λ (at : k ≡ n). subst (λ (j : ℕ). MadeOn (front_at new.fronts j) (mine_at new.mines j)) (sym at) here)
    (λ (apart : k ≢ n).
    let same = kept.others k apart in
    subst (λ (f : List Made). MadeOn f (mine_at new.mines k)) (sym same.0) (subst (MadeOn (front_at old.fronts k)) (sym same.1) (made k)))
    (same_or_not k n)

still_workers : (n most : ℕ) (old new : Holder) → Kept old new n most → AddsEach IsWorkerEntry (front_at old.fronts n) (mine_at old.mines n) (front_at new.fronts n) (mine_at new.mines n)
    → MadeByWorker old → MadeByWorker new
still_workers n most old new kept adds made =
    let before = front_at old.fronts n in
    let after = front_at new.fronts n in
    all_workers n most old new kept
    (each_all (λ place. IsOfWorker (slice_get after place)) (mine_at new.mines n)
    (made_more before (mine_at old.mines n) after (mine_at new.mines n) adds
    (all_each (λ place. IsOfWorker (slice_get before place)) (mine_at old.mines n) (made n))))
    made

-- what a check off the lock adds

commit_adds : (c : Committed) (g : Group) (ticket number : ℕ) (before : List Made) (was : List ℕ) (after : List Made) (now : List ℕ) → CommitsIn c g ticket number before was after now
    → AddsEach IsWorkerEntry before was after now
commit_adds (decided_here receipt) g ticket number before was after now c =
    record { entries = verdict_entry receipt ∷ []; each = (refl, tt); adds = adds_puts number (verdict_entry receipt ∷ []) c.1 before was after now c.3 }
commit_adds (gone_by entry) g ticket number before was after now c = each_none IsWorkerEntry before was after now c.0 c.1
commit_adds (full_there entries) g ticket number before was after now c = each_none IsWorkerEntry before was after now c.0 c.1

-- the second of a pair, and the third of what a number begins
behind : {A B : Type 0} → A × B → B
behind p = p.1

third : {A : Type 0} {B C : A → Type 0} (p : (a : A) × B a × C a) → C p.0
third p = p.2

behind_of : {A : Type 0} {B : A → Type 0} (p : (a : A) × B a) → B p.0
behind_of p = p.1

off_adds : (off : OffLock) (g : Group) (number : ℕ) (before : List Made) (was : List ℕ) (after : List Made) (now : List ℕ) → ChecksOff off g number before was after now → AddsEach IsWorkerEntry before was after now
off_adds (Decided receipt) g number before was after now told = commit_adds (decided_here receipt) g receipt.ticket number before was after now (behind told)
off_adds (Gone entry) g number before was after now told = commit_adds (gone_by entry) g told.0 number before was after now (third told)
off_adds Idle g number before was after now told = each_none IsWorkerEntry before was after now told.0 told.1
off_adds (met_full entries) g number before was after now told = commit_adds (full_there entries) g told.0 number before was after now (third told)

-- what is added by a duty that was done, and by one that met a full journal

abbrev AddsOn : ℕ → Holder → Holder → Type 0
AddsOn n old new = AddsEach IsWorkerEntry (front_at old.fronts n) (mine_at old.mines n) (front_at new.fronts n) (mine_at new.mines n)

duty_adds : (duty : Duty) (n : ℕ) (g : Group) (lines : List WireLine) (old new : Holder) → DoesDuty duty n g lines old new → AddsOn n old new
duty_adds Check n g lines old new d = off_adds d.0 g old.number (front_at old.fronts n) (mine_at old.mines n) (front_at new.fronts n) (mine_at new.mines n) (third d)
duty_adds Update n g lines old new d = round_only (λ event. is_workers event ≡ true) update_half g lines old.number (front_at old.fronts n) (mine_at old.mines n) (front_at new.fronts n) (mine_at new.mines n) of_turns d
duty_adds Monitor n g lines old new d = round_only (λ event. is_workers event ≡ true) monitor_half g lines old.number (front_at old.fronts n) (mine_at old.mines n) (front_at new.fronts n) (mine_at new.mines n) of_turns d

stop_adds : (duty : Duty) (n : ℕ) (g : Group) (lines : List WireLine) (old new : Holder) → StopsDuty duty n g lines old new → AddsOn n old new
stop_adds Check n g lines old new d = off_adds (met_full d.0) g old.number (front_at old.fronts n) (mine_at old.mines n) (front_at new.fronts n) (mine_at new.mines n) (behind_of d)
stop_adds Update n g lines old new d = round_full_only (λ event. is_workers event ≡ true) update_half g lines old.number (front_at old.fronts n) (mine_at old.mines n) (front_at new.fronts n) (mine_at new.mines n) of_turns d
stop_adds Monitor n g lines old new d = round_full_only (λ event. is_workers event ≡ true) monitor_half g lines old.number (front_at old.fronts n) (mine_at old.mines n) (front_at new.fronts n) (mine_at new.mines n) of_turns d

times_adds : (k : ℕ) (duty : Duty) (n : ℕ) (g : Group) (lines : List WireLine) (old new : Holder) → DoesTimes k duty n g lines old new → AddsOn n old new
times_adds zero duty n g lines old new d = subst (λ (h : Holder). AddsOn n old h) (sym d) (each_none IsWorkerEntry (front_at old.fronts n) (mine_at old.mines n) (front_at old.fronts n) (mine_at old.mines n) (prefix_self (front_at old.fronts n)) refl)
times_adds (suc k) duty n g lines old new d =
    each_then IsWorkerEntry (front_at old.fronts n) (mine_at old.mines n) (front_at d.0.fronts n) (mine_at d.0.mines n) (front_at new.fronts n) (mine_at new.mines n)
    (times_adds k duty n g lines old d.0 d.1) (duty_adds duty n g lines d.0 new (third d))

stops_adds : (times : ℕ) (duty : Duty) (n : ℕ) (g : Group) (lines : List WireLine) (old new : Holder) → StopsOf times duty n g lines old new → AddsOn n old new
stops_adds times duty n g lines old new s =
    each_then IsWorkerEntry (front_at old.fronts n) (mine_at old.mines n) (front_at s.mid.fronts n) (mine_at s.mid.mines n) (front_at new.fronts n) (mine_at new.mines n)
    (times_adds s.done duty n g lines old s.mid s.did) (stop_adds duty n g lines s.mid new s.met)

-- so a task leaves a pass that made only what workers make
pub task_made : (came : Came) (times : ℕ) (duty : Duty) (n most : ℕ) (g : Group) (lines : List WireLine) (old new : Holder) → Kept old new n most → WorkedTo came times duty n g lines old new → HadMemory came
    → MadeByWorker old → MadeByWorker new
task_made Through times duty n most g lines old new kept w had = still_workers n most old new kept (times_adds times duty n g lines old new w)
task_made (ToFull m) times duty n most g lines old new kept w had = still_workers n most old new kept (stops_adds times duty n g lines old new w.2)
task_made OutOfMemory times duty n most g lines old new kept w had = absurd had

-- what a half of a round, and a check, answer tells how far the pass came

pub half_did : {E : Type 0} (r : Result Rounded E) (part : Part) (g : Group) (lines : List WireLine) (duty : Duty) (n : ℕ) (old new : Holder) → n < length new.fronts
    → (RoundOf part g lines old.number (front_at old.fronts n) (mine_at old.mines n) (front_at new.fronts n) (mine_at new.mines n) → DoesDuty duty n g lines old new)
    → (RoundToFull part g lines old.number (front_at old.fronts n) (mine_at old.mines n) (front_at new.fronts n) (mine_at new.mines n) → StopsDuty duty n g lines old new)
    → IfOk r (λ rounded. RoundTold rounded part g lines old.number (front_at old.fronts n) (mine_at old.mines n) (front_at new.fronts n) (mine_at new.mines n))
    → DidOnce (came_by_half n r) duty n g lines old new
half_did (Ok (Did unsettled)) part g lines duty n old new lt does stops told = does told.0
half_did (Ok (JournalFull entries)) part g lines duty n old new lt does stops told =
    let full : length (front_at new.fronts n) ≡ MAX_ENTRIES = told.0.2.enters.full refl in
    (refl, (lt, omega (arith, full)), stops told.0)
half_did (Err error) part g lines duty n old new lt does stops told = tt

pub check_did : {E : Type 0} (r : Result OffLock E) (g : Group) (lines : List WireLine) (n : ℕ) (old new : Holder) → n < length new.fronts
    → IfOk r (λ off. ChecksOff off g old.number (front_at old.fronts n) (mine_at old.mines n) (front_at new.fronts n) (mine_at new.mines n))
    → DidOnce (came_by_check n r) Check n g lines old new
check_did (Ok (Decided receipt)) g lines n old new lt told = (Decided receipt, tt, told)
check_did (Ok (Gone entry)) g lines n old new lt told = (Gone entry, tt, told)
check_did (Ok Idle) g lines n old new lt told = (Idle, tt, told)
check_did (Ok (met_full entries)) g lines n old new lt told =
    let c : CommitsIn (full_there entries) g told.0 old.number (front_at old.fronts n) (mine_at old.mines n) (front_at new.fronts n) (mine_at new.mines n) = third told in
    (refl, (lt, omega (arith, c.2)), (entries, told))
check_did (Err error) g lines n old new lt told = tt

-- one time more
pub times_next : (k : ℕ) (duty : Duty) (n : ℕ) (g : Group) (lines : List WireLine) (a b c : Holder) → DoesTimes k duty n g lines a b → DoesDuty duty n g lines b c → DoesTimes (k + 1) duty n g lines a c
times_next k duty n g lines a b c d e =
    let next : suc k ≡ k + 1 = omega arith in
    subst (λ (j : ℕ). DoesTimes j duty n g lines a c) next (b, d, e)
