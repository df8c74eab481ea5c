-- The tasks of workers: they are few, and of the groups that there are, and have no more shares than scripts have for workers.
use Rattle.std.proofs.Common.{◌≡◌, ◌≢◌, ⊎_elim, ℕ, zero, suc, ◌+◌, ◌*◌, ◌<◌, ◌≤◌, Bool, true, false, List, [], ◌∷◌, ◌++◌, length, refl, ap, subst, ◌∙◌, arith, length-append}
use Rattle.std.specs.Prelude.{All, nat_lt, sum_by, count_by, cond, map, ◌==◌, if◌then◌else◌}
use Rattle.std.proofs.Math.Nat.{add-mul, mul_comm}
use Rattle.std.proofs.lemmas.List.{length-map}
use Rattle.std.proofs.lemmas.List.Elements.{All-append, All-map}
use Rattle.std.proofs.lemmas.List.Sums.{sum_by-cons, sum_by-append}
use Rattle.st_net.specs.Groups.{Group}
use Rattle.st_net.proofs.Tests.{equal_numbers}
use Rattle.st_event.specs.declared.act.Act.{Act}
use Rattle.st_event.specs.declared.act.Act.TheVariants.{Propose, Await, Settle, Lock, Unlock, Read, ReadAt, Fail, Poll, Span}
use Rattle.st_grammar.specs.declared.doc.Script.{Script}
use Rattle.st_wire.specs.declared.line.WireLine.{WireLine}
use Rattle.st_world.specs.Acts.{group_number}
use Rattle.st_run.specs.declared.workers.Duty.{Duty}
use Rattle.st_run.specs.declared.workers.Duty.TheVariants.{Check, Update, Monitor}
use Rattle.st_run.specs.declared.workers.Task.{Task}
use Rattle.st_service.specs.Shares.{check_share}
use Rattle.st_run.specs.Duties.{duty_share}
use Rattle.st_run.specs.Played.{acts_of}
use Rattle.st_run.specs.Tasks.{is_propose_of, is_settle_of, proposes_of, settles_of, task_share_on, tasks_by, tasks_for, tasks_on}
use Rattle.st_run.specs.Workers.{worker_share, worker_shares_on}
use Rattle.st_run.proofs.DidLaws.{same_or_not}

-- the two halves of a group
abbrev halves : Group → List WireLine → ℕ
halves g lines = duty_share Update g lines + duty_share Monitor g lines

-- what the workers of a group enter for so many proposals and settles
abbrev worked : ℕ → ℕ → Group → List WireLine → ℕ
worked proposes settles g lines = proposes * check_share + settles * halves g lines

both_are : {p q s t : ℕ} (g : Group) (lines : List WireLine) → p ≡ q → s ≡ t → worked p s g lines ≡ worked q t g lines
both_are {p} {q} {s} {t} g lines same also = ap (λ (m : ℕ). worked m s g lines) same ∙ ap (λ (m : ℕ). worked q m g lines) also

worked_sum : (p q s t : ℕ) (g : Group) (lines : List WireLine) → worked (p + q) (s + t) g lines ≡ worked p s g lines + worked q t g lines
worked_sum p q s t g lines = omega (arith, add-mul p q check_share, add-mul s t (halves g lines))

-- a command on group n has a share of these

one_command : (n : ℕ) (g : Group) (lines : List WireLine) (act : Act)
    → worked (cond (is_propose_of n act) 1 0) (cond (is_settle_of n act) 1 0) g lines ≤ (if group_number act == n then worker_share act g lines else 0)
one_command n g lines (Propose m rows) = by (m == n)
  where
    by : (b : Bool) → worked (cond b 1 0) 0 g lines ≤ (if b then check_share else 0)
    by true = omega arith
    by false = omega arith
one_command n g lines (Settle m rounds) = by (m == n)
  where
    by : (b : Bool) → worked 0 (cond b 1 0) g lines ≤ (if b then halves g lines else 0)
    by true = omega arith
    by false = omega arith
one_command n g lines (Await m) = omega arith
one_command n g lines (Lock m entity prio) = omega arith
one_command n g lines (Unlock m entity prio) = omega arith
one_command n g lines (Read m entity var) = omega arith
one_command n g lines (ReadAt m version entity var) = omega arith
one_command n g lines (Fail m entity health rows) = omega arith
one_command n g lines (Poll m entity) = omega arith
one_command n g lines (Span first first_rows second second_rows) = omega arith

script_works : (n : ℕ) (g : Group) (lines : List WireLine) (acts : List Act) → worked (count_by (is_propose_of n) acts) (count_by (is_settle_of n) acts) g lines ≤ worker_shares_on n g lines acts
script_works n g lines [] = omega arith
script_works n g lines (act ∷ acts) =
    let one = one_command n g lines act in
    let rest = script_works n g lines acts in
    let proposes = sum_by-cons (λ (x : Act). cond (is_propose_of n x) 1 0) act acts in
    let settles = sum_by-cons (λ (x : Act). cond (is_settle_of n x) 1 0) act acts in
    let split = both_are g lines proposes settles ∙ worked_sum (cond (is_propose_of n act) 1 0) (count_by (is_propose_of n) acts) (cond (is_settle_of n act) 1 0) (count_by (is_settle_of n) acts) g lines in
    omega (arith, one, rest, split, sum_by-cons (λ (x : Act). if group_number x == n then worker_share x g lines else 0) act acts)

all_works : (n : ℕ) (g : Group) (lines : List WireLine) (apps : List Script) → worked (proposes_of n apps) (settles_of n apps) g lines ≤ sum_by (worker_shares_on n g lines) (acts_of apps)
all_works n g lines [] = omega arith
all_works n g lines (app ∷ apps) =
    let one = script_works n g lines app.acts in
    let rest = all_works n g lines apps in
    let proposes = sum_by-cons (λ (x : Script). count_by (is_propose_of n) x.acts) app apps in
    let settles = sum_by-cons (λ (x : Script). count_by (is_settle_of n) x.acts) app apps in
    let split = both_are g lines proposes settles ∙ worked_sum (count_by (is_propose_of n) app.acts) (proposes_of n apps) (count_by (is_settle_of n) app.acts) (settles_of n apps) g lines in
    omega (arith, one, rest, split, sum_by-cons (worker_shares_on n g lines) app.acts (acts_of apps))

-- the tasks of one group

for_one : (n k times : ℕ) (g : Group) (lines : List WireLine) (some same : Bool) (duty : Duty) → (k == n) ≡ same
    → sum_by (task_share_on n g lines) (if some then record { group = k; duty = duty; times = times } ∷ [] else []) ≤ (if same then times * duty_share duty g lines else 0)
for_one n k times g lines false true duty is = omega arith
for_one n k times g lines false false duty is = omega arith
for_one n k times g lines true true duty is = rw is (omega arith)
for_one n k times g lines true false duty is = rw is (omega arith)

for_both : (n k times : ℕ) (g : Group) (lines : List WireLine) (some same : Bool) → (k == n) ≡ same
    → sum_by (task_share_on n g lines) (if some then record { group = k; duty = Update; times = times } ∷ record { group = k; duty = Monitor; times = times } ∷ [] else [])
    ≤ (if same then times * halves g lines else 0)
for_both n k times g lines false true is = omega arith
for_both n k times g lines false false is = omega arith
for_both n k times g lines true true is =
    let split : times * halves g lines ≡ times * duty_share Update g lines + times * duty_share Monitor g lines =
    mul_comm times (halves g lines) ∙ (add-mul (duty_share Update g lines) (duty_share Monitor g lines) times ∙
    (ap (λ (m : ℕ). m + duty_share Monitor g lines * times) (mul_comm (duty_share Update g lines) times) ∙ ap (λ (m : ℕ). times * duty_share Update g lines + m) (mul_comm (duty_share Monitor g lines) times))) in
    rw is (omega (arith, split))
for_both n k times g lines true false is = rw is (omega arith)

of_group : (n k proposes settles : ℕ) (g : Group) (lines : List WireLine) (some any same : Bool) → (k == n) ≡ same
    → sum_by (task_share_on n g lines) ((if some then record { group = k; duty = Check; times = proposes } ∷ [] else [])
    ++ (if any then record { group = k; duty = Update; times = settles } ∷ record { group = k; duty = Monitor; times = settles } ∷ [] else []))
    ≤ (if same then worked proposes settles g lines else 0)
of_group n k proposes settles g lines some any same is =
    let checks = if some then record { group = k; duty = Check; times = proposes } ∷ [] else [] in
    let both = if any then record { group = k; duty = Update; times = settles } ∷ record { group = k; duty = Monitor; times = settles } ∷ [] else [] in
    join same (sum_by (task_share_on n g lines) checks) (sum_by (task_share_on n g lines) both) (sum_by (task_share_on n g lines) (checks ++ both)) (proposes * check_share) (settles * halves g lines)
    (for_one n k proposes g lines some same Check is) (for_both n k settles g lines any same is) (sum_by-append (task_share_on n g lines) checks both)
  where
    join : (b : Bool) (x y z p q : ℕ) → x ≤ (if b then p else 0) → y ≤ (if b then q else 0) → z ≡ x + y → z ≤ (if b then p + q else 0)
    join true x y z p q l m e = omega (arith, l, m, e)
    join false x y z p q l m e = omega (arith, l, m, e)

tasks_of_group : (n k : ℕ) (g : Group) (lines : List WireLine) (apps : List Script)
    → sum_by (task_share_on n g lines) (tasks_on apps k) ≤ (if k == n then worked (proposes_of k apps) (settles_of k apps) g lines else 0)
tasks_of_group n k g lines apps = of_group n k (proposes_of k apps) (settles_of k apps) g lines (nat_lt 0 (proposes_of k apps)) (nat_lt 0 (settles_of k apps)) (k == n) refl

on_group : (n k : ℕ) (g : Group) (lines : List WireLine) (apps : List Script) → k ≡ n → sum_by (task_share_on n g lines) (tasks_on apps k) ≤ worked (proposes_of n apps) (settles_of n apps) g lines
on_group n k g lines apps at =
    subst (λ (m : ℕ). sum_by (task_share_on n g lines) (tasks_on apps k) ≤ m) (ap (λ (j : ℕ). worked (proposes_of j apps) (settles_of j apps) g lines) at)
    (both_le (k == n) (sum_by (task_share_on n g lines) (tasks_on apps k)) (worked (proposes_of k apps) (settles_of k apps) g lines) (tasks_of_group n k g lines apps))
  where
    both_le : (b : Bool) (a m : ℕ) → a ≤ (if b then m else 0) → a ≤ m
    both_le true a m le = le
    both_le false a m le = omega (arith, le)

off_group : (n k : ℕ) (g : Group) (lines : List WireLine) (apps : List Script) → k ≢ n → sum_by (task_share_on n g lines) (tasks_on apps k) ≡ 0
off_group n k g lines apps apart = none (k == n) refl (tasks_of_group n k g lines apps)
  where
    none : (b : Bool) → (k == n) ≡ b → sum_by (task_share_on n g lines) (tasks_on apps k) ≤ (if b then worked (proposes_of k apps) (settles_of k apps) g lines else 0) → sum_by (task_share_on n g lines) (tasks_on apps k) ≡ 0
    none true is le = absurd (apart (equal_numbers k n is))
    none false is le = omega (arith, le)

tasks_next : (n k : ℕ) (g : Group) (lines : List WireLine) (apps : List Script)
    → sum_by (task_share_on n g lines) (tasks_by apps (suc k)) ≡ sum_by (task_share_on n g lines) (tasks_by apps k) + sum_by (task_share_on n g lines) (tasks_on apps k)
tasks_next n k g lines apps = sum_by-append (task_share_on n g lines) (tasks_by apps k) (tasks_on apps k)

tasks_below : (n k : ℕ) (g : Group) (lines : List WireLine) (apps : List Script) → k ≤ n → sum_by (task_share_on n g lines) (tasks_by apps k) ≡ 0
tasks_below n zero g lines apps le = refl
tasks_below n (suc k) g lines apps le =
    let apart : k ≢ n = λ e. absurd (omega (arith, le, e)) in
    both_none (sum_by (task_share_on n g lines) (tasks_by apps k)) (sum_by (task_share_on n g lines) (tasks_on apps k)) (sum_by (task_share_on n g lines) (tasks_by apps (suc k)))
    (tasks_next n k g lines apps) (tasks_below n k g lines apps (omega (arith, le))) (off_group n k g lines apps apart)
  where
    both_none : (a b c : ℕ) → c ≡ a + b → a ≡ 0 → b ≡ 0 → c ≡ 0
    both_none a b c e p q = omega (arith, e, p, q)

tasks_few : (n k : ℕ) (g : Group) (lines : List WireLine) (apps : List Script) → sum_by (task_share_on n g lines) (tasks_by apps k) ≤ worked (proposes_of n apps) (settles_of n apps) g lines
tasks_few n zero g lines apps = omega arith
tasks_few n (suc k) g lines apps = ⊎_elim
    (λ (at : k ≡ n). last_few (sum_by (task_share_on n g lines) (tasks_by apps k)) (sum_by (task_share_on n g lines) (tasks_on apps k)) (sum_by (task_share_on n g lines) (tasks_by apps (suc k))) (worked (proposes_of n apps) (settles_of n apps) g lines)
    (tasks_next n k g lines apps) (tasks_below n k g lines apps (omega (arith, at))) (on_group n k g lines apps at))
    (λ (apart : k ≢ n). first_few (sum_by (task_share_on n g lines) (tasks_by apps k)) (sum_by (task_share_on n g lines) (tasks_on apps k)) (sum_by (task_share_on n g lines) (tasks_by apps (suc k))) (worked (proposes_of n apps) (settles_of n apps) g lines)
    (tasks_next n k g lines apps) (tasks_few n k g lines apps) (off_group n k g lines apps apart))
    (same_or_not k n)
  where
    last_few : (a b c m : ℕ) → c ≡ a + b → a ≡ 0 → b ≤ m → c ≤ m
    last_few a b c m e p q = omega (arith, e, p, q)

    first_few : (a b c m : ℕ) → c ≡ a + b → a ≤ m → b ≡ 0 → c ≤ m
    first_few a b c m e p q = omega (arith, e, p, q)

-- the shares of all tasks on a group are those that the scripts have for workers
pub tasks_within : (n : ℕ) (g : Group) (lines : List WireLine) (apps : List Script) (rooms : ℕ) → sum_by (task_share_on n g lines) (tasks_by apps rooms) ≤ sum_by (worker_shares_on n g lines) (acts_of apps)
tasks_within n g lines apps rooms = within (sum_by (task_share_on n g lines) (tasks_by apps rooms)) (worked (proposes_of n apps) (settles_of n apps) g lines) (sum_by (worker_shares_on n g lines) (acts_of apps))
    (tasks_few n rooms g lines apps) (all_works n g lines apps)
  where
    within : (a b c : ℕ) → a ≤ b → b ≤ c → a ≤ c
    within a b c p q = omega (arith, p, q)

-- each task is of a group that there is, and there are three of a group at the most

fit_for : (some : Bool) (n times rooms : ℕ) (duties : List Duty) → n < rooms
    → All (λ (task : Task). task.group < rooms) (if some then map (λ duty. record { group = n; duty = duty; times = times }) duties else [])
fit_for true n times rooms duties lt = All-map (λ (task : Task). task.group < rooms) (λ (duty : Duty). record { group = n; duty = duty; times = times }) duties (λ k d within. lt)
fit_for false n times rooms duties lt = λ k d none. absurd (omega (arith, none))

pub tasks_fit : (apps : List Script) (k rooms : ℕ) → k ≤ rooms → All (λ (task : Task). task.group < rooms) (tasks_by apps k)
tasks_fit apps zero rooms le = λ k d none. absurd (omega (arith, none))
tasks_fit apps (suc k) rooms le =
    let fits = λ (task : Task). task.group < rooms in
    let lt : k < rooms = omega (arith, le) in
    let checks = fit_for (nat_lt 0 (proposes_of k apps)) k (proposes_of k apps) rooms (Check ∷ []) lt in
    let both = fit_for (nat_lt 0 (settles_of k apps)) k (settles_of k apps) rooms (Update ∷ Monitor ∷ []) lt in
    All-append fits (tasks_by apps k) (tasks_on apps k) (tasks_fit apps k rooms (omega (arith, le)))
    (All-append fits (tasks_for k (proposes_of k apps) (Check ∷ [])) (tasks_for k (settles_of k apps) (Update ∷ Monitor ∷ [])) checks both)

abbrev task_of : ℕ → ℕ → Duty → Task
task_of n times duty = record { group = n; duty = duty; times = times }

few_for : (some : Bool) (n times : ℕ) (duties : List Duty) → length {A = Task} (if some then map (task_of n times) duties else []) ≤ length duties
few_for true n times duties = omega (arith, length-map duties (task_of n times))
few_for false n times duties = omega arith

pub tasks_many : (apps : List Script) (rooms : ℕ) → length (tasks_by apps rooms) ≤ 3 * rooms
tasks_many apps zero = omega arith
tasks_many apps (suc k) =
    let rest = tasks_many apps k in
    let checks = few_for (nat_lt 0 (proposes_of k apps)) k (proposes_of k apps) (Check ∷ []) in
    let both = few_for (nat_lt 0 (settles_of k apps)) k (settles_of k apps) (Update ∷ Monitor ∷ []) in
    let ends = length-append (tasks_for k (proposes_of k apps) (Check ∷ [])) (tasks_for k (settles_of k apps) (Update ∷ Monitor ∷ [])) in
    omega (arith, rest, checks, both, ends, length-append (tasks_by apps k) (tasks_on apps k))
