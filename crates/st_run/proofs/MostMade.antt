-- Passes together make no more entries on a group than the scripts of their applications can make at the most.
use Rattle.std.proofs.Common.{◌≡◌, ℕ, suc, ◌+◌, ◌*◌, ◌<◌, ◌≤◌, Bool, true, false, List, [], ◌∷◌, length, refl, ap, sym, subst, ◌∙◌, arith}
use Rattle.std.specs.Prelude.{Some, drop, slice_get, sum_by, option_map, ◌==◌, if◌then◌else◌}
use Rattle.std.proofs.Math.Nat.{add-mul, mul_comm, mul-suc}
use Rattle.std.proofs.lemmas.List.{length-map}
use Rattle.std.proofs.lemmas.List.Sums.{sum_by-cons}
use Rattle.std.proofs.lemmas.Option.{slice_get-map}
use Rattle.st_net.specs.Groups.{Group}
use Rattle.st_net.specs.InOrder.{entities_of, entity_count}
use Rattle.st_net.proofs.EntityOrder.{entities_count}
use Rattle.st_event.specs.declared.act.Act.{Act}
use Rattle.st_event.specs.declared.act.Act.TheVariants.{Propose, Await, Settle, Lock, Unlock, Read, ReadAt, Fail, Poll, Span}
use Rattle.st_event.specs.declared.journal.TheConstants.{MAX_PENDING}
use Rattle.st_wire.specs.declared.line.WireLine.{WireLine}
use Rattle.st_world.specs.Acts.{group_number}
use Rattle.st_service.specs.Passes.{Holder, mine_at}
use Rattle.st_service.specs.Shares.{act_share}
use Rattle.st_service.proofs.ClosingLaws.{sum_by_map}
use Rattle.st_grammar.specs.declared.doc.Script.{Script}
use Rattle.st_serial.specs.Most.{script_most, share_on}
use Rattle.st_serial.specs.Shares.{share}
use Rattle.st_run.specs.Played.{IsFinished, acts_of, made_on}
use Rattle.st_run.specs.Went.{shares_on}
use Rattle.st_run.specs.Workers.{worker_share, worker_shares_on}

-- the share of a command that a pass does, with that of workers for it, is within that of the command on one thread

-- a round more than a settle asks for has room for a half of each kind
halves_are : (d own : ℕ) → (4 + d) * own + (2 + d) * own ≡ (6 + 2 * d) * own
halves_are d own = sym (add-mul (4 + d) (2 + d) own) ∙ ap (λ (m : ℕ). m * own) (omega arith)

rounds_within : (rounds d own all : ℕ) → own ≡ all → rounds * ((6 + 2 * d) * own) + ((4 + d) * own + (2 + d) * own) ≤ (6 + 2 * d) * all * (rounds + 1)
rounds_within rounds d own all is =
    let turns = 6 + 2 * d in
    let same : rounds * (turns * own) ≡ turns * all * rounds = ap (λ (m : ℕ). rounds * (turns * m)) is ∙ mul_comm rounds (turns * all) in
    let half : (4 + d) * own + (2 + d) * own ≡ turns * all = halves_are d own ∙ ap (λ (m : ℕ). turns * m) is in
    let next : rounds + 1 ≡ suc rounds = omega arith in
    let more = ap (λ (m : ℕ). turns * all * m) next ∙ mul-suc (turns * all) rounds in
    omega (arith, same, half, more)

pub share_within : (act : Act) (g : Group) (lines : List WireLine) → act_share act g lines + worker_share act g lines ≤ share act g lines
share_within (Propose n rows) g lines = omega arith
share_within (Await n) g lines = omega arith
share_within (Settle n rounds) g lines = rounds_within rounds (length lines) (length (entities_of g)) (entity_count g) (entities_count g)
share_within (Lock n entity prio) g lines = omega arith
share_within (Unlock n entity prio) g lines = omega arith
share_within (Fail n entity health rows) g lines = omega arith
share_within (Poll n entity) g lines = omega arith
share_within (Read n entity var) g lines = omega arith
share_within (ReadAt n version entity var) g lines = omega arith
share_within (Span first first_rows second second_rows) g lines = omega arith

-- so are those of a script's commands on a group

one_within : (b : Bool) (own workers all : ℕ) → own + workers ≤ all → (if b then own else 0) + (if b then workers else 0) ≤ (if b then all else 0)
one_within true own workers all low = low
one_within false own workers all low = omega arith

pub shares_within : (n : ℕ) (g : Group) (lines : List WireLine) (acts : List Act) → shares_on n g lines acts + worker_shares_on n g lines acts ≤ sum_by (share_on n g lines) acts
shares_within n g lines [] = omega arith
shares_within n g lines (act ∷ acts) =
    let own = λ (act : Act). if group_number act == n then act_share act g lines else 0 in
    let workers = λ (act : Act). if group_number act == n then worker_share act g lines else 0 in
    let one = one_within (group_number act == n) (act_share act g lines) (worker_share act g lines) (share act g lines) (share_within act g lines) in
    let rest = shares_within n g lines acts in
    omega (arith, one, rest, sum_by-cons own act acts, sum_by-cons workers act acts, sum_by-cons (share_on n g lines) act acts)

-- a sum over passes, of which those of applications each have little more than its commands, and those behind have what workers may do for all
-- applications
sums_within : (own : Holder → ℕ) (acts_most workers all : Script → ℕ) (few : ℕ) (apps : List Script) (passes : List Holder) → length apps ≤ length passes
    → ((app : Script) → acts_most app + workers app ≤ all app)
    → ((a : ℕ) (app : Script) (p : Holder) → slice_get apps a ≡ Some app → slice_get passes a ≡ Some p → own p ≤ acts_most app + few)
    → (more : ℕ) → sum_by own (drop (length apps) passes) ≤ more + sum_by workers apps
    → sum_by own passes ≤ more + sum_by all apps + few * length apps
sums_within own acts_most workers all few [] passes many fit each more behind = omega (arith, behind)
sums_within own acts_most workers all few (app ∷ apps) [] many fit each more behind = absurd (omega (arith, many))
sums_within own acts_most workers all few (app ∷ apps) (p ∷ passes) many fit each more behind =
    let first = each 0 app p refl refl in
    let next : sum_by own (drop (length apps) passes) ≤ (more + workers app) + sum_by workers apps = omega (arith, behind, sum_by-cons workers app apps) in
    let rest = sums_within own acts_most workers all few apps passes (omega (arith, many)) fit (λ a script q. each (suc a) script q) (more + workers app) next in
    omega (arith, rest, first, fit app, sum_by-cons own p passes, sum_by-cons all app apps, mul-suc few (length apps))

-- what passes made on a group, of which those of applications are finished
pub made_within : (groups : ℕ → Group) (lines : ℕ → List WireLine) (rooms n : ℕ) (apps : List Script) (passes : List Holder) → n < rooms
    → length (acts_of apps) ≤ length passes
    → ((a : ℕ) (acts : List Act) (p : Holder) → slice_get (acts_of apps) a ≡ Some acts → slice_get passes a ≡ Some p → IsFinished groups lines rooms a acts p)
    → made_on n (drop (length (acts_of apps)) passes) ≤ sum_by (worker_shares_on n (groups n) (lines n)) (acts_of apps)
    → made_on n passes ≤ sum_by (script_most n (groups n) (lines n)) apps + MAX_PENDING * length apps
made_within groups lines rooms n apps passes low many finished worked =
    let acts_in : Script → List Act = λ app. app.acts in
    let count = length-map apps acts_in in
    let own : Holder → ℕ = λ p. length (mine_at p.mines n) in
    let workers : Script → ℕ = λ app. worker_shares_on n (groups n) (lines n) app.acts in
    let behind : sum_by own (drop (length apps) passes) ≤ 0 + sum_by workers apps =
    subst (λ (k : ℕ). sum_by own (drop k passes) ≤ 0 + sum_by workers apps) count (omega (arith, worked, sum_by_map acts_in (worker_shares_on n (groups n) (lines n)) apps)) in
    let all = sums_within own (λ app. shares_on n (groups n) (lines n) app.acts) workers (script_most n (groups n) (lines n)) MAX_PENDING apps passes (omega (arith, many, count))
    (λ app. shares_within n (groups n) (lines n) app.acts)
    (λ a app p script pass. (finished a app.acts p (slice_get-map acts_in apps a ∙ ap (option_map acts_in) script) pass).few n low)
    0 behind in
    omega (arith, all)
