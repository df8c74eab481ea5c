-- The failures of a group, as its journal tells them, are those that the scripts' commands ask for, those of each script in its order.
use Rattle.std.proofs.Common.{◌≡◌, ⊎_elim, ℕ, zero, suc, ◌<◌, Bool, true, false, List, [], ◌∷◌, ◌++◌, length, map, get_or, refl, ap, sym, subst, ◌∙◌, arith, append_assoc, length-append}
use Rattle.std.specs.Prelude.{Some, slice_get, reverse, ◌==◌, if◌then◌else◌}
use Rattle.std.specs.List.{filter}
use Rattle.std.proofs.lemmas.List.{append-nil, map-append, reverse-append, length-map, get_or-map}
use Rattle.std.proofs.lemmas.List.Elements.{filter-append}
use Rattle.std.proofs.lemmas.Option.{slice_get-get_or}
use Rattle.std.proofs.Math.Seq.{take-append_seam}
use Rattle.st_net.specs.Groups.{Group}
use Rattle.st_event.specs.declared.act.Act.{Act}
use Rattle.st_event.specs.declared.act.Act.TheVariants.{Await}
use Rattle.st_event.specs.declared.event.Event.{Event}
use Rattle.st_event.specs.declared.event.Event.TheVariants.{Submit, Check, Lock as lock_event, Unlock as unlock_event, Send, Deliver, Finish, Report, Hear, Fail as fail_event, Withdraw}
use Rattle.st_event.specs.declared.journal.Entry.{Entry}
use Rattle.st_wire.specs.declared.line.WireLine.{WireLine}
use Rattle.st_world.specs.Acts.{group_number}
use Rattle.st_run.specs.CarriedLaws.{history_of}
use Rattle.st_run.specs.CarriedOn.{FailsAsAsked, is_failing}
use Rattle.st_service.specs.Closed.{IsWhole, positions}
use Rattle.st_run.specs.Failures.{Failure, IsFailureBy, failure_by, failures_in}
use Rattle.st_run.specs.Jobs.{HaveRun, awaits_on}
use Rattle.st_service.specs.Kept.{AllWithin}
use Rattle.st_service.specs.Made.{Made, past_in}
use Rattle.st_service.specs.Passes.{Holder, front_at, mine_at}
use Rattle.st_run.specs.Requests.{acts_on}
use Rattle.st_run.specs.Stands.{IsInterleaving}
use Rattle.st_run.specs.Workers.{is_workers}
use Rattle.st_run.proofs.DidLaws.{Each, each_append, ended, ended_enters, enters_grows}
use Rattle.st_run.proofs.FailEntries.{failure_at, failures_at, failures_longer, grows_within, script_fails}
use Rattle.st_run.proofs.Interleaved.{Owned, Pairs, get_here, interleaves, items, part}
use Rattle.st_run.proofs.WorkerEntries.{IsByOrWorkers, scripts_or_workers}

-- the failures that these entries make behind a journal, each with the maker of its entry

abbrev owned_by : {X : Type 0} → ℕ → List X → List (Owned X)
owned_by a [] = []
owned_by a (x ∷ xs) = record { by = a; item = x } ∷ owned_by a xs

abbrev failures_of : Group → List Entry → List Made → List (Owned Failure)
failures_of g past [] = []
failures_of g past (m ∷ ms) = owned_by m.by (failure_by g past m.entry.event) ++ failures_of g (m.entry ∷ past) ms

items_owned : {X : Type 0} (a : ℕ) (xs : List X) (rest : List (Owned X)) → items (owned_by a xs ++ rest) ≡ xs ++ items rest
items_owned a [] rest = refl
items_owned a (x ∷ xs) rest = ap (λ l. x ∷ l) (items_owned a xs rest)

each_owned : {X : Type 0} (n a : ℕ) (xs : List X) → a < n → Each (λ (x : Owned X). x.by < n) (owned_by a xs)
each_owned n a [] lt = tt
each_owned n a (x ∷ xs) lt = (lt, each_owned n a xs lt)

-- workers make none

none_failed : (g : Group) (past : List Entry) (event : Event) → is_workers event ≡ true → failure_by g past event ≡ []
none_failed g past (Submit app rows) is = refl
none_failed g past Check is = refl
none_failed g past (lock_event app e prio) is = refl
none_failed g past (unlock_event app e prio) is = refl
none_failed g past (Send e) is = refl
none_failed g past (Deliver n) is = refl
none_failed g past (Finish e) is = refl
none_failed g past (Report e) is = refl
none_failed g past (Hear n) is = refl
none_failed g past (Withdraw e) is = refl
none_failed g past (fail_event e vals health) is = absurd (cc is)

entry_owned : (g : Group) (n : ℕ) (past : List Entry) (m : Made) → IsByOrWorkers n m
    → Each (λ (x : Owned Failure). x.by < n) (owned_by m.by (failure_by g past m.entry.event))
entry_owned g n past m = ⊎_elim
    (λ (lt : m.by < n). each_owned n m.by (failure_by g past m.entry.event) lt)
    (λ (is : is_workers m.entry.event ≡ true). subst (λ (fs : List Failure). Each (λ (x : Owned Failure). x.by < n) (owned_by m.by fs)) (sym (none_failed g past m.entry.event is)) tt)

failures_owned : (g : Group) (n : ℕ) (past : List Entry) (ms : List Made) → Each (IsByOrWorkers n) ms
    → Each (λ (x : Owned Failure). x.by < n) (failures_of g past ms)
failures_owned g n past [] e = tt
failures_owned g n past (m ∷ ms) e = each_append (λ (x : Owned Failure). x.by < n) (owned_by m.by (failure_by g past m.entry.event))
    (failures_of g (m.entry ∷ past) ms)
    (entry_owned g n past m e.0) (failures_owned g n (m.entry ∷ past) ms e.1)

-- all of them are the failures of the journal

entries_then : (m : Made) (ms : List Made) (past : List Entry) → past_in (m ∷ ms) ++ past ≡ past_in ms ++ m.entry ∷ past
entries_then m ms past = ap (λ (l : List Entry). l ++ past) (reverse-append (m.entry ∷ []) (map (λ (x : Made). x.entry) ms)) ∙ append_assoc
    (past_in ms) (m.entry ∷ []) past

all_failures : (g : Group) (past : List Entry) (ms : List Made)
    → failures_in g (past_in ms ++ past) ≡ failures_in g past ++ items (failures_of g past ms)
all_failures g past [] = sym (append-nil (failures_in g past))
all_failures g past (m ∷ ms) =
    let made = failure_by g past m.entry.event in
    let rest = failures_of g (m.entry ∷ past) ms in
    ap (failures_in g) (entries_then m ms past)
    ∙ (all_failures g (m.entry ∷ past) ms
    ∙ (append_assoc (failures_in g past) made (items rest) ∙ ap (λ (l : List Failure). failures_in g past ++ l) (sym (items_owned m.by made rest))))

-- those of one maker are the failures at its places

part_here : {X : Type 0} (a by : ℕ) (xs : List X) (rest : List (Owned X)) → (by == a) ≡ true → part a (owned_by by xs ++ rest) ≡ xs ++ part a rest
part_here a by [] rest is = refl
part_here a by (x ∷ xs) rest is = rw is (ap (λ l. x ∷ l) (part_here a by xs rest is))

part_there : {X : Type 0} (a by : ℕ) (xs : List X) (rest : List (Owned X)) → (by == a) ≡ false → part a (owned_by by xs ++ rest) ≡ part a rest
part_there a by [] rest is = refl
part_there a by (x ∷ xs) rest is = rw is (part_there a by xs rest is)

at_place : (g : Group) (pre : List Made) (m : Made) (ms : List Made)
    → failure_at g (pre ++ m ∷ ms) (length pre) (slice_get (pre ++ m ∷ ms) (length pre)) ≡ failure_by g (past_in pre) m.entry.event
at_place g pre m ms = ap (failure_at g (pre ++ m ∷ ms) (length pre)) (get_here pre m ms) ∙ ap
    (λ (l : List Made). failure_by g (past_in l) m.entry.event) (take-append_seam pre (m ∷ ms))

next_past : (pre : List Made) (m : Made) → past_in (pre ++ m ∷ []) ≡ m.entry ∷ past_in pre
next_past pre m = ap reverse (map-append (λ (x : Made). x.entry) pre (m ∷ [])) ∙ reverse-append (map (λ (x : Made). x.entry) pre) (m.entry ∷ [])

one_part : (g : Group) (a : ℕ) (pre : List Made) (m : Made) (ms : List Made) (b : Bool) → (m.by == a) ≡ b
    → part a (failures_of g (m.entry ∷ past_in pre) ms) ≡ failures_at g (pre ++ m ∷ ms) (positions a (suc (length pre)) ms)
    → part a (failures_of g (past_in pre) (m ∷ ms)) ≡ failures_at g (pre ++ m ∷ ms)
    (if b then length pre ∷ positions a (suc (length pre)) ms else positions a (suc (length pre)) ms)
one_part g a pre m ms true is rest =
    let made = failure_by g (past_in pre) m.entry.event in
    let others = failures_of g (m.entry ∷ past_in pre) ms in
    part_here a m.by made others is ∙ (ap (λ (l : List Failure). made ++ l) rest
    ∙ ap (λ (l : List Failure). l ++ failures_at g (pre ++ m ∷ ms) (positions a (suc (length pre)) ms)) (sym (at_place g pre m ms)))
one_part g a pre m ms false is rest = part_there a m.by (failure_by g (past_in pre) m.entry.event) (failures_of g (m.entry ∷ past_in pre) ms) is ∙ rest

parts : (g : Group) (a : ℕ) (pre ms : List Made) → part a (failures_of g (past_in pre) ms) ≡ failures_at g (pre ++ ms) (positions a (length pre) ms)
parts g a pre [] = refl
parts g a pre (m ∷ ms) =
    let next = pre ++ m ∷ [] in
    let len : length next ≡ suc (length pre) = omega (arith, length-append pre (m ∷ [])) in
    let all : next ++ ms ≡ pre ++ m ∷ ms = append_assoc pre (m ∷ []) ms in
    let rest : part a (failures_of g (past_in next) ms) ≡ failures_at g (pre ++ m ∷ ms) (positions a (suc (length pre)) ms) =
    parts g a next ms ∙ (ap (λ (l : List Made). failures_at g l (positions a (length next) ms)) all ∙ ap
    (λ (n : ℕ). failures_at g (pre ++ m ∷ ms) (positions a n ms)) len) in
    one_part g a pre m ms (m.by == a) refl (ap (λ (past : List Entry). part a (failures_of g past ms)) (sym (next_past pre m)) ∙ rest)

-- the awaits at the end ask for none

abbrev pub fails_on : ℕ → List Act → List Act
fails_on n acts = filter is_failing (acts_on n acts)

await_fails : (k : ℕ) (b : Bool) → filter is_failing (if b then Await k ∷ [] else []) ≡ []
await_fails k true = refl
await_fails k false = refl

awaits_fail : (n rooms : ℕ) → fails_on n (awaits_on rooms) ≡ []
awaits_fail n zero = refl
awaits_fail n (suc k) =
    ap (filter is_failing) (filter-append (λ (act : Act). group_number act == n) (awaits_on k) (Await k ∷ []))
    ∙ (filter-append is_failing (acts_on n (awaits_on k)) (acts_on n (Await k ∷ []))
    ∙ (ap (λ (l : List Act). l ++ fails_on n (Await k ∷ [])) (awaits_fail n k) ∙ await_fails k (k == n)))

script_only : (n rooms : ℕ) (acts : List Act) → fails_on n (acts ++ awaits_on rooms) ≡ fails_on n acts
script_only n rooms acts =
    ap (filter is_failing) (filter-append (λ (act : Act). group_number act == n) acts (awaits_on rooms))
    ∙ (filter-append is_failing (acts_on n acts) (acts_on n (awaits_on rooms))
    ∙ (ap (λ (l : List Act). fails_on n acts ++ l) (awaits_fail n rooms) ∙ append-nil (fails_on n acts)))

-- the failures of one pass

pass_fails : (groups : ℕ → Group) (lines : ℕ → List WireLine) (rooms : ℕ) (scripts : List (List Act)) (passes : List Holder) (n : ℕ)
    (entries : List Entry) (front : List Made) (a : ℕ) (acts : List Act) (p : Holder)
    → HaveRun groups lines rooms scripts passes → IsWhole (groups n) passes n entries front → slice_get scripts a ≡ Some acts
    → slice_get passes a ≡ Some p
    → Pairs IsFailureBy (part a (failures_of (groups n) [] front)) (fails_on n acts)
pass_fails groups lines rooms scripts passes n entries front a acts p run whole script pass =
    let g = groups n in
    let e = ended groups lines rooms scripts passes n entries front a acts p run whole script pass in
    let seen = front_at p.fronts n in
    let mine = mine_at p.mines n in
    let all = acts_on n (acts ++ awaits_on rooms) in
    let chain = ended_enters groups lines rooms a n acts front p e in
    let f = script_fails g (lines n) a all [] [] seen mine tt chain in
    let grows = enters_grows g (lines n) a all [] [] seen mine chain in
    let within : AllWithin 0 (length seen) mine = grows_within grows.0 [] [] seen mine grows.1 tt in
    let are : f.failures ≡ part a (failures_of g [] front) =
    sym f.made ∙ (sym (failures_longer g seen front mine e.stands.begins within) ∙ (ap (failures_at g front) e.made ∙ sym (parts g a [] front))) in
    subst (Pairs IsFailureBy (part a (failures_of g [] front))) (script_only n rooms acts)
    (subst (λ (l : List Failure). Pairs IsFailureBy l (filter is_failing all)) are f.asked)

nobody : Holder
nobody = record { number = 0; fronts = []; mines = []; readers = []; log = [] }

pub fails_as_asked : (groups : ℕ → Group) (lines : ℕ → List WireLine) (rooms : ℕ) (scripts : List (List Act)) (passes : List Holder) (n : ℕ)
    (entries : List Entry) (front : List Made)
    → HaveRun groups lines rooms scripts passes → n < rooms → IsWhole (groups n) passes n entries front
    → FailsAsAsked scripts n (history_of (groups n) entries)
fails_as_asked groups lines rooms scripts passes n entries front run within whole =
    let g = groups n in
    let lists = map (fails_on n) scripts in
    let made = failures_of g [] front in
    let as_many : length scripts ≡ length lists = sym (length-map scripts (fails_on n)) in
    let owned : Each (λ (x : Owned Failure). x.by < length lists) made =
    subst (λ (k : ℕ). Each (λ (x : Owned Failure). x.by < k) made) as_many
    (failures_owned g (length scripts) [] front (scripts_or_workers (groups n) passes n entries front (length scripts) run.workers whole)) in
    let each : (a : ℕ) → a < length lists → Pairs IsFailureBy (part a made) (get_or lists a []) = λ a lt.
    let here : a < length scripts = omega (arith, lt, length-map scripts (fails_on n)) in
    let there : a < length passes = omega (arith, here, run.count) in
    subst (Pairs IsFailureBy (part a made)) (sym (get_or-map (fails_on n) scripts a [] [] here))
    (pass_fails groups lines rooms scripts passes n entries front a (get_or scripts a []) (get_or passes a nobody) run whole
    (slice_get-get_or scripts a [] here) (slice_get-get_or passes a nobody there)) in
    let journal : failures_in g (reverse entries) ≡ items made =
    ap (failures_in g) (sym whole.journal ∙ sym (append-nil (past_in front))) ∙ all_failures g [] front in
    subst (λ (l : List Failure). IsInterleaving IsFailureBy l lists) (sym journal) (interleaves IsFailureBy made lists owned each)
