-- What is left of the jobs of a run: of applications, which have gone through their scripts and awaited on each group, and of workers behind them.
use Rattle.std.proofs.Common.{◌≡◌, ◌≢◌, ⊎_elim, ℕ, ◌+◌, ◌-◌, ◌*◌, ◌<◌, ◌≤◌, Bool, true, false, List, [], length, get_or, refl, ap, sym, subst, ◌∙◌, arith}
use Rattle.std.specs.Prelude.{All, ◌==◌, if◌then◌else◌}
use Rattle.std.proofs.lemmas.Option.{slice_get-get_or}
use Rattle.st_net.specs.Groups.{Group}
use Rattle.st_net.proofs.Tests.{equal_self}
use Rattle.st_event.specs.declared.act.Act.{Act}
use Rattle.st_grammar.specs.declared.doc.Script.{Script}
use Rattle.st_wire.specs.declared.line.WireLine.{WireLine}
use Rattle.st_crew.specs.Ends.{EndsOf}
use Rattle.st_service.specs.Acts.{CanDo}
use Rattle.st_service.specs.Kept.{Kept}
use Rattle.st_service.specs.Opened.{IsFresh}
use Rattle.st_service.specs.Passes.{Holder, front_at, mine_at}
use Rattle.st_service.proofs.Mines.{item_at}
use Rattle.st_run.specs.declared.application.Came.{Came}
use Rattle.st_run.specs.declared.application.Came.TheVariants.{Through, ToFull}
use Rattle.st_run.specs.declared.jobs.Chore.{Chore}
use Rattle.st_run.specs.declared.jobs.Chore.TheVariants.{Acts, Task as task_chore}
use Rattle.st_run.specs.declared.workers.Task.{Task}
use Rattle.st_run.specs.Chores.{CanDoChore, ChoreTo, IsChore, WentThrough, awaits_for}
use Rattle.st_run.specs.Duties.{DoesTimes, WorkedTo, duty_share}
use Rattle.st_run.specs.Ended.{AreDone, AreEnded, HasDoneTask}
use Rattle.st_run.specs.Jobs.{Did, HasDone, awaits_on}
use Rattle.st_run.specs.Played.{AllCanBeDone, IsFinished}
use Rattle.st_run.specs.Tasks.{task_share_on}
use Rattle.st_run.specs.Went.{CameTo, HadMemory, HasFull, Went}
use Rattle.st_run.specs.Workers.{MadeByWorker}
use Rattle.st_run.proofs.DidLaws.{same_or_not}
use Rattle.st_run.proofs.FinishLaws.{awaits_none, awaits_own}
use Rattle.st_run.proofs.HalfLaws.{task_made}
use Rattle.st_run.proofs.PlayLaws.{has_done, is_finished}
use Rattle.st_run.proofs.WentLaws.{grows_few}

-- a job of a fresh pass may be worked
pub job_fits : {S : Type 0} (was is : S) (apps_of rooms_of : S → ℕ) (groups : ℕ → Group) (apps : List Script) (tasks : List Task) (n : ℕ) (start pass : Holder) (chore : Chore) → is ≡ was → pass ≡ start → IsChore apps tasks n chore
    → IsFresh n (rooms_of was) start → apps_of was ≡ length apps → n < length apps + length tasks → AllCanBeDone groups (rooms_of was) apps → All (λ task. task.group < rooms_of was) tasks
    → CanDoChore groups (apps_of is) (rooms_of is) chore pass
job_fits {S} was is apps_of rooms_of groups apps tasks n start pass chore p q are f count lt fit tasks_fit =
    subst (λ (s : S). CanDoChore groups (apps_of s) (rooms_of s) chore pass) (sym p) (subst (CanDoChore groups (apps_of was) (rooms_of was) chore) (sym q) (by chore are))
  where
    by : (c : Chore) → IsChore apps tasks n c → CanDoChore groups (apps_of was) (rooms_of was) c start
    by (Acts acts) i =
        let s = (item_at apps n i.0).0 in
        (omega (arith, i.0, f.numbered, count), f.rooms_are.0, subst (All (CanDo groups (rooms_of was))) (sym (i.1 s)) (fit n s i.0))
    by (task_chore task) i =
        let low : n - length apps < length tasks = omega (arith, i.0, lt) in
        (subst (λ (t : Task). t.group < rooms_of was) (sym (i.1 task)) (tasks_fit (n - length apps) task low), f.rooms_are.0)

-- what a job has come to from its pass
pub record HasGone (groups : ℕ → Group) (lines : ℕ → List WireLine) (apps : List Script) (tasks : List Task) (n : ℕ) (came : Came) (start mid : Holder) : Type 0 where
  pub chore : Chore
  pub is : IsChore apps tasks n chore
  pub went : WentThrough groups lines chore start mid
  pub to : ChoreTo came groups lines chore start mid

-- the jobs of the passes, and what is left of them
pub have_gone : {X Y : Type 0} (jobs : List X) (lefts : List Y) (groups : ℕ → Group) (lines : ℕ → List WireLine) (passes : List Holder) (apps : List Script) (tasks : List Task) (job_pass : X → Holder) (job_chore : X → Chore) (pass : Y → Holder) (came : Y → Came)
    → EndsOf (λ job left. WentThrough groups lines (job_chore job) (job_pass job) (pass left) × ChoreTo (came left) groups lines (job_chore job) (job_pass job) (pass left)) jobs lefts
    → length jobs ≡ length passes
    → ((n : ℕ) (d : X) (p : Holder) → n < length passes → (job_pass (get_or jobs n d) ≡ get_or passes n p) × IsChore apps tasks n (job_chore (get_or jobs n d)))
    → (n : ℕ) (d : Y) (p : Holder) → n < length passes → HasGone groups lines apps tasks n (came (get_or lefts n d)) (get_or passes n p) (pass (get_or lefts n d))
have_gone {X} {Y} jobs lefts groups lines passes apps tasks job_pass job_chore pass came ends many are n d p lt =
    let low : n < length jobs = omega (arith, lt, many) in
    let there : n < length lefts = omega (arith, low, ends.count) in
    let j : X = (item_at jobs n low).0 in
    let job = are n j p lt in
    let chore = job_chore (get_or jobs n j) in
    let left = get_or lefts n d in
    let gone = ends.each n (get_or jobs n j) left (slice_get-get_or jobs n j low) (slice_get-get_or lefts n d there) in
    record {
      chore = chore;
      is = job.1;
      went = subst (λ (h : Holder). WentThrough groups lines chore h (pass left)) job.0 gone.0;
      to = subst (λ (h : Holder). ChoreTo (came left) groups lines chore h (pass left)) job.0 gone.1;
    }

-- that of an application
gone_script : (groups : ℕ → Group) (lines : ℕ → List WireLine) (apps : List Script) (tasks : List Task) (n : ℕ) (came : Came) (start mid : Holder) (s : Script) → HasGone groups lines apps tasks n came start mid → n < length apps
    → Went groups lines (get_or apps n s).acts start mid × CameTo came groups lines (get_or apps n s).acts start mid
gone_script groups lines apps tasks n came start mid s h lt = by h.chore h.is h.went h.to
  where
    by : (c : Chore) → IsChore apps tasks n c → WentThrough groups lines c start mid → ChoreTo came groups lines c start mid
        → Went groups lines (get_or apps n s).acts start mid × CameTo came groups lines (get_or apps n s).acts start mid
    by (Acts acts) i w t = (subst (λ (xs : List Act). Went groups lines xs start mid) (i.1 s) w, subst (λ (xs : List Act). CameTo came groups lines xs start mid) (i.1 s) t)
    by (task_chore task) i w t = absurd (omega (arith, i.0, lt))

-- that of a worker
record HasWorked (groups : ℕ → Group) (lines : ℕ → List WireLine) (task : Task) (came : Came) (start mid : Holder) : Type 0 where
  kept : Kept start mid task.group (task.times * duty_share task.duty (groups task.group) (lines task.group))
  to : WorkedTo came task.times task.duty task.group (groups task.group) (lines task.group) start mid

gone_worker : (groups : ℕ → Group) (lines : ℕ → List WireLine) (apps : List Script) (tasks : List Task) (n : ℕ) (came : Came) (start mid : Holder) (t : Task) → HasGone groups lines apps tasks n came start mid → length apps ≤ n
    → HasWorked groups lines (get_or tasks (n - length apps) t) came start mid
gone_worker groups lines apps tasks n came start mid t h le = by h.chore h.is h.went h.to
  where
    by : (c : Chore) → IsChore apps tasks n c → WentThrough groups lines c start mid → ChoreTo came groups lines c start mid → HasWorked groups lines (get_or tasks (n - length apps) t) came start mid
    by (Acts acts) i w to = absurd (omega (arith, i.0, le))
    by (task_chore task) i w to = subst (λ (u : Task). HasWorked groups lines u came start mid) (i.1 t) (record { kept = w; to = to })

-- that of any
pub gone_on : (groups : ℕ → Group) (lines : ℕ → List WireLine) (apps : List Script) (tasks : List Task) (n : ℕ) (came : Came) (start mid : Holder) → HasGone groups lines apps tasks n came start mid → (mid.number ≡ start.number) × (length mid.fronts ≡ length start.fronts)
gone_on groups lines apps tasks n came start mid h = by h.chore h.went
  where
    by : (c : Chore) → WentThrough groups lines c start mid → (mid.number ≡ start.number) × (length mid.fronts ≡ length start.fronts)
    by (Acts acts) w = (w.number, w.rooms.0)
    by (task_chore task) w = (w.number, w.rooms.0)

pub gone_full : (groups : ℕ → Group) (lines : ℕ → List WireLine) (apps : List Script) (tasks : List Task) (n m : ℕ) (came : Came) (start mid : Holder) → HasGone groups lines apps tasks n came start mid → came ≡ ToFull m → HasFull mid m
gone_full groups lines apps tasks n m came start mid h e = by h.chore h.to
  where
    by : (c : Chore) → ChoreTo came groups lines c start mid → HasFull mid m
    by (Acts acts) t =
        let c : CameTo (ToFull m) groups lines acts.now start mid = subst (λ (x : Came). CameTo x groups lines acts.now start mid) e t in
        c.0
    by (task_chore task) t =
        let w : WorkedTo (ToFull m) task.times task.duty task.group (groups task.group) (lines task.group) start mid = subst (λ (x : Came). WorkedTo x task.times task.duty task.group (groups task.group) (lines task.group) start mid) e t in
        w.1

-- how many entries a worker's pass made

here_if : (b : Bool) (most : ℕ) → b ≡ true → (if b then most else 0) ≡ most
here_if true most e = refl
here_if false most e = absurd (cc e)

worked_few : (groups : ℕ → Group) (lines : ℕ → List WireLine) (task : Task) (start mid : Holder) (n : ℕ) → mine_at start.mines n ≡ [] → Kept start mid task.group (task.times * duty_share task.duty (groups task.group) (lines task.group))
    → length (mine_at mid.mines n) ≤ task_share_on n (groups n) (lines n) task
worked_few groups lines task start mid n none kept = ⊎_elim
    (λ (at : task.group ≡ n).
    let most = task.times * duty_share task.duty (groups task.group) (lines task.group) in
    let here : length (mine_at mid.mines task.group) ≤ length (mine_at start.mines task.group) + most =
    grows_few most (front_at start.fronts task.group) (mine_at start.mines task.group) (front_at mid.fronts task.group) (mine_at mid.mines task.group) kept.grows in
    let there : length (mine_at mid.mines n) ≤ length (mine_at start.mines n) + task.times * duty_share task.duty (groups n) (lines n) =
    subst (λ (k : ℕ). length (mine_at mid.mines k) ≤ length (mine_at start.mines k) + task.times * duty_share task.duty (groups k) (lines k)) at here in
    let same : (task.group == n) ≡ true = ap (λ (k : ℕ). k == n) at ∙ equal_self n in
    few_here (length (mine_at mid.mines n)) (length (mine_at start.mines n)) (task.times * duty_share task.duty (groups n) (lines n)) (task_share_on n (groups n) (lines n) task) there (ap length none) (here_if (task.group == n) (task.times * duty_share task.duty (groups n) (lines n)) same))
    (λ (apart : task.group ≢ n).
    let same = (kept.others n (λ e. apart (sym e))).1 in
    few_there (length (mine_at mid.mines n)) (task_share_on n (groups n) (lines n) task) (ap length same ∙ ap length none))
    (same_or_not task.group n)
  where
    few_here : (a b most share : ℕ) → a ≤ b + most → b ≡ 0 → share ≡ most → a ≤ share
    few_here a b most share le none is = omega (arith, le, none, is)

    few_there : (a share : ℕ) → a ≡ 0 → a ≤ share
    few_there a share none = omega (arith, none)

-- a job's pass at its end
pub record Ending (groups : ℕ → Group) (lines : ℕ → List WireLine) (rooms : ℕ) (apps : List Script) (tasks : List Task) (n : ℕ) (start mid : Holder) (came : Came) (last : Holder) : Type 0 where
  pub fresh : IsFresh n rooms start
  pub gone : HasGone groups lines apps tasks n came start mid
  pub behind : Went groups lines (awaits_for (length apps) n (awaits_on rooms)) mid last
  pub had : HadMemory came
  pub still : length apps ≤ n → last ≡ mid

ending_finished : (groups : ℕ → Group) (lines : ℕ → List WireLine) (rooms : ℕ) (apps : List Script) (tasks : List Task) (n : ℕ) (start mid : Holder) (came : Came) (last : Holder) (s : Script)
    → Ending groups lines rooms apps tasks n start mid came last → n < length apps → IsFinished groups lines rooms n (get_or apps n s).acts last
ending_finished groups lines rooms apps tasks n start mid came last s e lt =
    is_finished groups lines rooms n (get_or apps n s).acts (awaits_for (length apps) n (awaits_on rooms)) start mid last (awaits_own (length apps) n (awaits_on rooms) lt) e.fresh
    (gone_script groups lines apps tasks n came start mid s e.gone lt).0 e.behind

ending_few : (groups : ℕ → Group) (lines : ℕ → List WireLine) (rooms : ℕ) (apps : List Script) (tasks : List Task) (n k : ℕ) (start mid : Holder) (came : Came) (last : Holder) (t : Task)
    → Ending groups lines rooms apps tasks n start mid came last → length apps ≤ n → length (mine_at last.mines k) ≤ task_share_on k (groups k) (lines k) (get_or tasks (n - length apps) t)
ending_few groups lines rooms apps tasks n k start mid came last t e le =
    let worked = gone_worker groups lines apps tasks n came start mid t e.gone le in
    let few = worked_few groups lines (get_or tasks (n - length apps) t) start mid k (e.fresh.unmade k) worked.kept in
    let none : Went groups lines [] mid last = subst (λ (xs : List Act). Went groups lines xs mid last) (awaits_none (length apps) n (awaits_on rooms) le) e.behind in
    few_on (length (mine_at mid.mines k)) (length (mine_at last.mines k)) (task_share_on k (groups k) (lines k) (get_or tasks (n - length apps) t)) few (none.few k)
  where
    few_on : (a b share : ℕ) → a ≤ share → b ≤ a + 0 → b ≤ share
    few_on a b share p q = omega (arith, p, q)

ending_numbers : (groups : ℕ → Group) (lines : ℕ → List WireLine) (rooms : ℕ) (apps : List Script) (tasks : List Task) (n : ℕ) (start mid : Holder) (came : Came) (last : Holder)
    → Ending groups lines rooms apps tasks n start mid came last → (last.number ≡ n) × (length last.fronts ≡ rooms)
ending_numbers groups lines rooms apps tasks n start mid came last e =
    let on = gone_on groups lines apps tasks n came start mid e.gone in
    (e.behind.number ∙ (on.0 ∙ e.fresh.numbered), e.behind.rooms.0 ∙ (on.1 ∙ e.fresh.rooms_are.0))

ending_done : (groups : ℕ → Group) (lines : ℕ → List WireLine) (rooms : ℕ) (apps : List Script) (tasks : List Task) (n : ℕ) (start mid : Holder) (came : Came) (last : Holder) (s : Script)
    → Ending groups lines rooms apps tasks n start mid came last → came ≡ Through → Did groups lines (awaits_for (length apps) n (awaits_on rooms)) mid last → n < length apps
    → HasDone groups lines rooms n (get_or apps n s).acts last
ending_done groups lines rooms apps tasks n start mid came last s e through did lt =
    has_done groups lines rooms n (get_or apps n s).acts (awaits_for (length apps) n (awaits_on rooms)) start mid last came (awaits_own (length apps) n (awaits_on rooms) lt) e.fresh
    (gone_script groups lines apps tasks n came start mid s e.gone lt).1 through did

-- and that of a worker made what workers make, unless memory was refused

fresh_made : (n rooms : ℕ) (start : Holder) → IsFresh n rooms start → MadeByWorker start
fresh_made n rooms start f k = λ i d lt. absurd (omega (arith, lt, ap length (f.unmade k)))

ending_made : (groups : ℕ → Group) (lines : ℕ → List WireLine) (rooms : ℕ) (apps : List Script) (tasks : List Task) (n : ℕ) (start mid : Holder) (came : Came) (last : Holder) (t : Task)
    → Ending groups lines rooms apps tasks n start mid came last → length apps ≤ n → MadeByWorker last
ending_made groups lines rooms apps tasks n start mid came last t e le =
    let worked = gone_worker groups lines apps tasks n came start mid t e.gone le in
    let task = get_or tasks (n - length apps) t in
    let most = task.times * duty_share task.duty (groups task.group) (lines task.group) in
    subst MadeByWorker (sym (e.still le))
    (task_made came task.times task.duty task.group most (groups task.group) (lines task.group) start mid worked.kept worked.to e.had (fresh_made n rooms start e.fresh))

-- a worker's pass whose job came through did its task
ending_worked : (groups : ℕ → Group) (lines : ℕ → List WireLine) (rooms : ℕ) (apps : List Script) (tasks : List Task) (n : ℕ) (start mid : Holder) (came : Came) (last : Holder) (t : Task)
    → Ending groups lines rooms apps tasks n start mid came last → came ≡ Through → length apps ≤ n → HasDoneTask groups lines rooms n (get_or tasks (n - length apps) t) last
ending_worked groups lines rooms apps tasks n start mid came last t e through le =
    let task = get_or tasks (n - length apps) t in
    let worked = gone_worker groups lines apps tasks n came start mid t e.gone le in
    let did : DoesTimes task.times task.duty task.group (groups task.group) (lines task.group) start mid =
    subst (λ (x : Came). WorkedTo x task.times task.duty task.group (groups task.group) (lines task.group) start mid) through worked.to in record {
      start = start;
      fresh = e.fresh;
      did = subst (λ (h : Holder). DoesTimes task.times task.duty task.group (groups task.group) (lines task.group) start h) (sym (e.still le)) did;
    }

-- the passes of all jobs, where each has an ending
pub are_ended : (groups : ℕ → Group) (lines : ℕ → List WireLine) (rooms : ℕ) (apps : List Script) (tasks : List Task) (ends : List Holder) → length ends ≡ length apps + length tasks
    → ((n : ℕ) (p : Holder) → n < length ends → (start : Holder) × (mid : Holder) × (came : Came) × Ending groups lines rooms apps tasks n start mid came (get_or ends n p))
    → AreEnded groups lines rooms apps tasks ends
are_ended groups lines rooms apps tasks ends count each = record {
  count = count;
  numbers = λ n p lt. let e = each n p lt in (ending_numbers groups lines rooms apps tasks n e.0 e.1 e.2 (get_or ends n p) e.3).0;
  rooms_are = λ n p lt. let e = each n p lt in (ending_numbers groups lines rooms apps tasks n e.0 e.1 e.2 (get_or ends n p) e.3).1;
  finished = λ n s p lt. let e = each n p (omega (arith, lt, count)) in ending_finished groups lines rooms apps tasks n e.0 e.1 e.2 (get_or ends n p) s e.3 lt;
  few = λ k n t p lt.
      let e = each (length apps + k) p (omega (arith, lt, count)) in
      let at : (length apps + k) - length apps ≡ k = omega arith in
      subst (λ (i : ℕ). length (mine_at (get_or ends (length apps + k) p).mines n) ≤ task_share_on n (groups n) (lines n) (get_or tasks i t)) at
      (ending_few groups lines rooms apps tasks (length apps + k) n e.0 e.1 e.2 (get_or ends (length apps + k) p) t e.3 (omega arith));
  made = λ n p le lt.
      let e = each n p lt in
      let low : n - length apps < length tasks = omega (arith, le, lt, count) in
      ending_made groups lines rooms apps tasks n e.0 e.1 e.2 (get_or ends n p) (item_at tasks (n - length apps) low).0 e.3 le;
}

pub are_done : (groups : ℕ → Group) (lines : ℕ → List WireLine) (rooms : ℕ) (apps : List Script) (tasks : List Task) (ends : List Holder) → length ends ≡ length apps + length tasks
    → ((n : ℕ) (p : Holder) → n < length ends → (start : Holder) × (mid : Holder) × (came : Came) × Ending groups lines rooms apps tasks n start mid came (get_or ends n p)
    × (came ≡ Through) × Did groups lines (awaits_for (length apps) n (awaits_on rooms)) mid (get_or ends n p))
    → AreDone groups lines rooms apps tasks ends
are_done groups lines rooms apps tasks ends count each = record {
  done = λ n s p lt. let e = each n p (omega (arith, lt, count)) in ending_done groups lines rooms apps tasks n e.0 e.1 e.2 (get_or ends n p) s e.3 e.4 e.5 lt;
  worked = λ k t p lt.
      let n = length apps + k in
      let e = each n p (omega (arith, lt, count)) in
      let at : n - length apps ≡ k = omega arith in
      subst (λ (i : ℕ). HasDoneTask groups lines rooms n (get_or tasks i t) (get_or ends n p)) at (ending_worked groups lines rooms apps tasks n e.0 e.1 e.2 (get_or ends n p) t e.3 e.4 (omega arith));
}
