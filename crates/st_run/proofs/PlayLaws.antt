-- Passes that have gone through their scripts and the awaits behind them, and what a service has of them once it is closed.
use Rattle.std.proofs.Common.{◌≡◌, ◌⊎◌, ⊎_elim, ℕ, zero, suc, ◌+◌, ◌<◌, ◌≤◌, List, [], ◌∷◌, length, get_or, sum_by, refl, ap, sym, subst, ◌∙◌, arith}
use Rattle.std.specs.Prelude.{All, drop, Option, Some, None, IfSome, Result, Ok, Err, IfOk, slice_get}
use Rattle.std.proofs.lemmas.List.{length-map, length-drop}
use Rattle.std.proofs.lemmas.List.Elements.{All-map, All-push}
use Rattle.std.proofs.lemmas.List.Sums.{sum_by-cons}
use Rattle.std.proofs.lemmas.Option.{slice_get-get_or, slice_get_within, get_or_from_slice_get}
use Rattle.st_net.specs.Groups.{Group}
use Rattle.st_event.specs.declared.act.Act.{Act}
use Rattle.st_event.specs.declared.act.Act.TheVariants.{Await}
use Rattle.st_event.specs.declared.act.Log.{Log}
use Rattle.st_event.specs.declared.journal.Journal.{Journal}
use Rattle.st_grammar.specs.declared.doc.Script.{Script}
use Rattle.st_wire.specs.declared.line.WireLine.{WireLine}
use Rattle.st_event.proofs.Prefixes.{prefix_length}
use Rattle.st_service.specs.Acts.{CanDo}
use Rattle.st_service.specs.Opened.{IsFresh}
use Rattle.st_service.specs.Passes.{Holder, front_at, mine_at}
use Rattle.st_run.specs.Jobs.{Did, HasDone, awaits_on}
use Rattle.st_run.specs.Played.{AllCanBeDone, AreClosed, IsFinished, IsPlayed, WasFull, acts_of, made_on}
use Rattle.st_run.specs.Went.{CameTo, HasFull, Went}
use Rattle.st_run.specs.Workers.{MadeByWorker, worker_shares_on}
use Rattle.st_run.specs.Ended.{AreDone, AreEnded}
use Rattle.st_run.specs.Tasks.{task_share_on, tasks_by}
use Rattle.st_run.specs.declared.workers.Task.{Task}
use Rattle.st_run.proofs.TaskLaws.{tasks_within}
use Rattle.st_run.specs.declared.application.Came.{Came}
use Rattle.st_run.specs.declared.application.Came.TheVariants.{Through, ToFull}
use Rattle.st_run.proofs.DidLaws.{did_both}
use Rattle.st_run.proofs.WentLaws.{shares_awaits}

-- the script that stands at a is an application's
script_at : (apps : List Script) (a : ℕ) (acts : List Act) → slice_get (acts_of apps) a ≡ Some acts → (s : Script) × (a < length apps) × ((get_or apps a s).acts ≡ acts)
script_at [] a acts e = absurd cc
script_at (s ∷ apps) zero acts e = (s, omega arith, cc)
script_at (s ∷ apps) (suc a) acts e = let r = script_at apps a acts e in (r.0, omega (arith, r.1), r.2)

-- what holds of each pass by its number holds of the pass that stands at a, with its script
at_script : (P : ℕ → List Act → Holder → Type 0) (apps : List Script) (passes : List Holder) → ((n : ℕ) (s : Script) (p : Holder) → n < length apps → P n (get_or apps n s).acts (get_or passes n p))
    → (a : ℕ) (acts : List Act) (p : Holder) → slice_get (acts_of apps) a ≡ Some acts → slice_get passes a ≡ Some p → P a acts p
at_script P apps passes all a acts p script pass =
    let s = script_at apps a acts script in
    subst (λ (xs : List Act). P a xs p) s.2 (subst (λ (h : Holder). P a (get_or apps a s.0).acts h) (get_or_from_slice_get passes a p p pass) (all a s.0 p s.1))

-- passes of which each made no more than the share of its task made no more together
made_few : (n : ℕ) (share : Task → ℕ) (tasks : List Task) (passes : List Holder) → length passes ≡ length tasks
    → ((k : ℕ) (t : Task) (p : Holder) → k < length tasks → length (mine_at (get_or passes k p).mines n) ≤ share (get_or tasks k t))
    → made_on n passes ≤ sum_by share tasks
made_few n share [] [] same each = omega arith
made_few n share [] (p ∷ passes) same each = absurd (omega (arith, same))
made_few n share (t ∷ tasks) [] same each = absurd (omega (arith, same))
made_few n share (t ∷ tasks) (p ∷ passes) same each =
    let first = each 0 t p (omega arith) in
    let rest = made_few n share tasks passes (omega (arith, same)) (λ k u q lt. each (suc k) u q (omega (arith, lt))) in
    omega (arith, first, rest, sum_by-cons (λ (h : Holder). length (mine_at h.mines n)) p passes, sum_by-cons share t tasks)

get_drop : {X : Type 0} (xs : List X) (n k : ℕ) (d : X) → get_or (drop n xs) k d ≡ get_or xs (n + k) d
get_drop xs zero k d = ap (λ (i : ℕ). get_or xs i d) (omega arith)
get_drop [] (suc n) k d = refl
get_drop (x ∷ xs) (suc n) k d =
    let next : suc (n + k) ≡ suc n + k = omega arith in
    get_drop xs n k d ∙ ap (λ (i : ℕ). get_or (x ∷ xs) i d) next

-- a closed service on which scripts were played, with the tasks of their workers
pub is_played : (groups : ℕ → Group) (lines : ℕ → List WireLine) (rooms : ℕ) (apps : List Script) (tasks : List Task) (full : Option ℕ) (journals : List Journal) (logs : List Log) (passes : List Holder)
    → tasks ≡ tasks_by apps rooms → AllCanBeDone groups rooms apps
    → AreEnded groups lines rooms apps tasks passes → (full ≡ None → AreDone groups lines rooms apps tasks passes)
    → IfSome full (λ m. WasFull passes m) → AreClosed groups rooms (length apps) passes journals logs
    → IsPlayed groups lines rooms (acts_of apps) full journals logs passes
is_played groups lines rooms apps tasks full journals logs passes are can ended none one closed =
    let same : length (acts_of apps) ≡ length apps = length-map apps (λ (s : Script). s.acts) in
    let many = ended.count in
    let count : length (acts_of apps) ≤ length passes = omega (arith, many, same) in
    let behind : length (drop (length apps) passes) ≡ length tasks = length-drop (length apps) passes ∙ omega (arith, many) in
    let worked : (n : ℕ) → made_on n (drop (length apps) passes) ≤ sum_by (worker_shares_on n (groups n) (lines n)) (acts_of apps) = λ n.
    let few = made_few n (task_share_on n (groups n) (lines n)) tasks (drop (length apps) passes) behind
    (λ k t p lt. subst (λ (h : Holder). length (mine_at h.mines n) ≤ task_share_on n (groups n) (lines n) (get_or tasks k t)) (sym (get_drop passes (length apps) k p)) (ended.few k n t p lt)) in
    let within = tasks_within n (groups n) (lines n) apps rooms in
    less_both (made_on n (drop (length apps) passes)) (sum_by (task_share_on n (groups n) (lines n)) tasks) (sum_by (task_share_on n (groups n) (lines n)) (tasks_by apps rooms)) (sum_by (worker_shares_on n (groups n) (lines n)) (acts_of apps))
    few (ap (sum_by (task_share_on n (groups n) (lines n))) are) within in
    let workers : (a : ℕ) (p : Holder) → length (acts_of apps) ≤ a → slice_get passes a ≡ Some p → MadeByWorker p = λ a p le at.
    let lt = slice_get_within passes a p at in
    subst MadeByWorker (get_or_from_slice_get passes a p p at) (ended.made a p (omega (arith, le, same)) lt) in
    record {
      count = count;
      rooms_are = λ a p at.
          let lt = slice_get_within passes a p at in
          subst (λ (h : Holder). length h.fronts ≡ rooms) (get_or_from_slice_get passes a p p at) (ended.rooms_are a p lt);
      finished = at_script (IsFinished groups lines rooms) apps passes ended.finished;
      workers = workers;
      worked = λ n lt. subst (λ (k : ℕ). made_on n (drop k passes) ≤ sum_by (worker_shares_on n (groups n) (lines n)) (acts_of apps)) (sym same) (worked n);
      run = λ e. record {
        count = count;
        fit = All-map (All (CanDo groups rooms)) (λ (s : Script). s.acts) apps can;
        each = at_script (HasDone groups lines rooms) apps passes (none e).done;
        workers = workers;
      };
      full_is = one;
      closed = subst (λ (k : ℕ). AreClosed groups rooms k passes journals logs) (sym same) closed;
    }
  where
    less_both : (a b c d : ℕ) → a ≤ b → b ≡ c → c ≤ d → a ≤ d
    less_both a b c d p q r = omega (arith, p, q, r)

-- a fresh pass that went through its script, and then through the awaits

few_both : (a b c x y m : ℕ) → a ≡ 0 → b ≤ a + x → c ≤ b + y → y ≤ m → c ≤ x + m
few_both a b c x y m p q r s = omega (arith, p, q, r, s)

pub is_finished : (groups : ℕ → Group) (lines : ℕ → List WireLine) (rooms n : ℕ) (acts awaits : List Act) (start mid last : Holder) → awaits ≡ awaits_on rooms → IsFresh n rooms start → Went groups lines acts start mid → Went groups lines awaits mid last → IsFinished groups lines rooms n acts last
is_finished groups lines rooms n acts awaits start mid last are f p w =
    let q : Went groups lines (awaits_on rooms) mid last = subst (λ (xs : List Act). Went groups lines xs mid last) are w in record {
      number_is = q.number ∙ (p.number ∙ f.numbered);
      rooms_are = (q.rooms.0 ∙ (p.rooms.0 ∙ f.rooms_are.0), q.rooms.1 ∙ (p.rooms.1 ∙ f.rooms_are.1));
      few = λ k lt. few_both _ _ _ _ _ _ (ap length (f.unmade k)) (p.few k) (q.few k) (shares_awaits k (groups k) (lines k) rooms);
    }

-- and that did each command
pub has_done : (groups : ℕ → Group) (lines : ℕ → List WireLine) (rooms n : ℕ) (acts awaits : List Act) (start mid last : Holder) (came : Came) → awaits ≡ awaits_on rooms → IsFresh n rooms start → CameTo came groups lines acts start mid → came ≡ Through → Did groups lines awaits mid last
    → HasDone groups lines rooms n acts last
has_done groups lines rooms n acts awaits start mid last came are f p through q = record {
  start = start;
  fresh = f;
  did = did_both groups lines acts (awaits_on rooms) start mid last (subst (λ (w : Came). CameTo w groups lines acts start mid) through p) (subst (λ (xs : List Act). Did groups lines xs mid last) are q);
}

-- a pass that met a full journal, in its script or in the awaits behind the script, has seen that journal full
pub was_full : (groups : ℕ → Group) (lines : ℕ → List WireLine) (awaits : List Act) (ends : List Holder) (n m : ℕ) (mid p : Holder) (came : Came) → n < length ends
    → (came ≡ ToFull m → HasFull mid m) → Went groups lines awaits mid (get_or ends n p) → (came ≡ ToFull m) ⊎ HasFull (get_or ends n p) m → WasFull ends m
was_full groups lines awaits ends n m mid p came lt c w full = record {
  number = n;
  pass = get_or ends n p;
  is = slice_get-get_or ends n p lt;
  full = ⊎_elim
      (λ (e : came ≡ ToFull m).
      let was : HasFull mid m = c e in
      (omega (arith, was.0, w.rooms.0), omega (arith, was.1, prefix_length (front_at mid.fronts m) (front_at (get_or ends n p).fronts m) (w.fronts m))))
      (λ (h : HasFull (get_or ends n p) m). h)
      full;
}

-- each await can be done
pub awaits_fit : (groups : ℕ → Group) (rooms k : ℕ) → k ≤ rooms → All (CanDo groups rooms) (awaits_on k)
awaits_fit groups rooms zero le = λ n d lt. absurd (omega (arith, lt))
awaits_fit groups rooms (suc k) le = All-push (CanDo groups rooms) (awaits_on k) (Await k) (awaits_fit groups rooms k (omega (arith, le))) (omega (arith, le), tt, tt)

-- what follows from what clauses say of the value in an `Ok`
pub ok_then : {T E : Type 0} (r : Result T E) {P Q : T → Type 0} → IfOk r P → ((x : T) → P x → Q x) → IfOk r Q
ok_then (Ok x) p f = f x p
ok_then (Err e) p f = tt

pub ok_both : {T E : Type 0} (r : Result T E) (P Q : T → Type 0) → IfOk r P → IfOk r Q → IfOk r (λ x. P x × Q x)
ok_both (Ok x) P Q p q = (p, q)
ok_both (Err e) P Q p q = tt

pub ok_then2 : {T E : Type 0} (r : Result T E) {P Q R : T → Type 0} → IfOk r P → IfOk r Q → ((x : T) → P x → Q x → R x) → IfOk r R
ok_then2 (Ok x) p q f = f x p q
ok_then2 (Err e) p q f = tt

pub ok_then3 : {T E : Type 0} (r : Result T E) {P Q R S : T → Type 0} → IfOk r P → IfOk r Q → IfOk r R → ((x : T) → P x → Q x → R x → S x) → IfOk r S
ok_then3 (Ok x) p q s f = f x p q s
ok_then3 (Err e) p q s f = tt
