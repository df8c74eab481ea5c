-- Worked cases of what workers enter: passes that made what a worker makes, and ones that made what only an application makes; and of whose chore is which.
use Rattle.std.proofs.Common.{◌≡◌, ℕ, zero, suc, ◌<◌, ◌≤◌, List, [], ◌∷◌, length, refl, ap, arith}
use Rattle.std.specs.Borrow.{Bor}
use Rattle.std.specs.Prelude.{All, codes, slice_get}
use Rattle.std.proofs.lemmas.List.Elements.{All-cons}
use Rattle.st_event.specs.declared.act.Act.{Act}
use Rattle.st_event.specs.declared.act.Act.TheVariants.{Propose, Await, Settle, Lock}
use Rattle.st_event.specs.declared.event.Event.{Event}
use Rattle.st_event.specs.declared.event.Event.TheVariants.{Submit, Check, Send, Report, Fail}
use Rattle.st_event.specs.Services.{entry_after}
use Rattle.st_net.specs.declared.entity.Prio.TheVariants.{Low}
use Rattle.st_service.specs.Made.{Made}
use Rattle.st_service.specs.Passes.{Holder}
use Rattle.st_grammar.specs.declared.doc.Script.{Script}
use Rattle.st_run.specs.declared.jobs.Chore.TheVariants.{Acts, Task as task_chore}
use Rattle.st_run.specs.declared.workers.Task.{Task}
use Rattle.st_run.specs.declared.workers.Duty.TheVariants.{Check as check_duty, Update as update_duty, Monitor as monitor_duty}
use Rattle.st_run.specs.Chores.{IsChore, awaits_for}
use Rattle.st_run.specs.Tasks.{tasks_by}
use Rattle.st_run.specs.Workers.{IsOfWorker, MadeByWorker, worker_shares_on}
use Rattle.st_run.proofs.SmallCases.{a1, app, firmware, small, usual}

abbrev made : ℕ → Event → Made
made by event = record { by = by; entry = entry_after small [] event }

-- an application proposes, a checker decides, an updater sends, a monitor reports, and the switch fails
abbrev front : List Made
front = made 0 (Submit (app 0) (firmware 2)) ∷ made 1 Check ∷ made 2 (Send a1) ∷ made 3 (Report a1) ∷ made 0 (Fail a1 usual 5) ∷ []

-- a pass that has seen all of this, and made the entries at these places
abbrev pass : List ℕ → Holder
pass mine = record { number = 1; fronts = front ∷ []; mines = mine ∷ []; readers = []; log = [] }

none : (places : List ℕ) → places ≡ [] → All (λ place. IsOfWorker (slice_get front place)) places
none [] is = λ n d lt. absurd (omega (arith, lt))
none (p ∷ ps) is = absurd (cc is)

-- what a checker, an updater and a monitor made
workers_made : MadeByWorker (pass (1 ∷ 2 ∷ 3 ∷ []))
workers_made zero =
    All-cons (λ place. IsOfWorker (slice_get front place)) 1 (2 ∷ 3 ∷ []) refl
    (All-cons (λ place. IsOfWorker (slice_get front place)) 2 (3 ∷ []) refl
    (All-cons (λ place. IsOfWorker (slice_get front place)) 3 [] refl (none [] refl)))
workers_made (suc k) = λ n d lt. absurd (omega (arith, lt))

-- nothing, as a pass at the start
nothing_made : MadeByWorker (pass [])
nothing_made zero = none [] refl
nothing_made (suc k) = λ n d lt. absurd (omega (arith, lt))

-- a proposal, a failure, and an entry that is not there
no_proposal : MadeByWorker (pass (1 ∷ 0 ∷ [])) → ⊥
no_proposal is = let at = is 0 1 0 (omega arith) in cc at

no_failure : MadeByWorker (pass (4 ∷ [])) → ⊥
no_failure is = let at = is 0 0 0 (omega arith) in cc at

none_beyond : MadeByWorker (pass (5 ∷ [])) → ⊥
none_beyond is = is 0 0 0 (omega arith)

-- a proposal has one check made for it, and a settle of three rounds one half of each kind: of one switch, without a loss plan, 4 entries and 2
abbrev script : List Act
script = Propose 0 (firmware 2) ∷ Settle 0 3 ∷ Lock 0 a1 Low ∷ Propose 1 (firmware 2) ∷ []

few : worker_shares_on 0 small [] script ≡ 7
few = refl

-- a proposal and a settle on one group make three tasks, with one try each; two proposals to another one task with two
abbrev two_groups : List Script
two_groups =
    record { name = codes "up"; acts = Propose 0 (firmware 2) ∷ Settle 0 3 ∷ Propose 1 (firmware 2) ∷ [] }
    ∷ record { name = codes "te"; acts = Propose 1 (firmware 3) ∷ Lock 0 a1 Low ∷ [] }
    ∷ []

three_and_one : tasks_by two_groups 2 ≡ record { group = 0; duty = check_duty; times = 1 } ∷ record { group = 0; duty = update_duty; times = 1 } ∷ record { group = 0; duty = monitor_duty; times = 1 } ∷ record { group = 1; duty = check_duty; times = 2 } ∷ []
three_and_one = refl

-- and where nothing is proposed or settled there is none
no_task : tasks_by (record { name = codes "te"; acts = Lock 0 a1 Low ∷ [] } ∷ []) 2 ≡ []
no_task = refl

-- the chores of these: the first numbers are the applications', with their scripts, and the others the workers', with their tasks

first_script : (acts : Bor (List Act)) → acts.now ≡ Propose 0 (firmware 2) ∷ Settle 0 3 ∷ Propose 1 (firmware 2) ∷ [] → IsChore two_groups (tasks_by two_groups 2) 0 (Acts acts)
first_script acts is = (omega arith, λ s. is)

last_task : IsChore two_groups (tasks_by two_groups 2) 5 (task_chore (record { group = 1; duty = check_duty; times = 2 }))
last_task = (omega arith, λ t. refl)

-- a script of another application, or for a worker; a task of another worker, or for an application
not_anothers_script : (acts : Bor (List Act)) → length acts.now ≡ 3 → IsChore two_groups (tasks_by two_groups 2) 1 (Acts acts) → ⊥
not_anothers_script acts three c = absurd (omega (arith, three, ap (λ (xs : List Act). length xs) (c.1 (record { name = []; acts = [] }))))

not_for_a_worker : (acts : Bor (List Act)) → IsChore two_groups (tasks_by two_groups 2) 2 (Acts acts) → ⊥
not_for_a_worker acts c = let low : 2 < 2 = c.0 in absurd (omega (arith, low))

not_anothers_task : IsChore two_groups (tasks_by two_groups 2) 2 (task_chore (record { group = 1; duty = check_duty; times = 2 })) → ⊥
not_anothers_task c = absurd (omega (arith, ap (λ (t : Task). t.times) (c.1 (record { group = 0; duty = check_duty; times = 0 }))))

not_for_an_application : IsChore two_groups (tasks_by two_groups 2) 1 (task_chore (record { group = 0; duty = check_duty; times = 1 })) → ⊥
not_for_an_application c = let high : 2 ≤ 1 = c.0 in absurd (omega (arith, high))

-- of two applications the second awaits behind its job, and a worker does not
awaits_behind : (awaits_for 2 1 (Await 0 ∷ Await 1 ∷ []) ≡ Await 0 ∷ Await 1 ∷ []) × (awaits_for 2 2 (Await 0 ∷ Await 1 ∷ []) ≡ [])
awaits_behind = (refl, refl)
