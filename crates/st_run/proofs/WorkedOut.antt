-- A worked document of two groups and two applications: journals and logs with which it was carried out, and ones with which it was not. A case `x` is refused
-- by `not_x`, and `x_else` has its other points.
use Rattle.std.proofs.Common.{◌≡◌, ℕ, zero, suc, ◌<◌, List, [], ◌∷◌, refl, subst, arith}
use Rattle.std.specs.Prelude.{false, All, codes, map, reverse, None, Some, slice_get}
use Rattle.std.proofs.lemmas.List.Elements.{All-cons}
use Rattle.st_net.specs.declared.entity.Prio.TheVariants.{Low}
use Rattle.st_net.specs.declared.entity.Var.TheVariants.{Firmware, Config}
use Rattle.st_net.specs.declared.parts.Parts.{Parts}
use Rattle.st_net.specs.Faults.{no_parts, group_of}
use Rattle.st_event.specs.declared.act.Act.{Act}
use Rattle.st_event.specs.declared.act.Act.TheVariants.{Propose, Await, Lock, Read}
use Rattle.st_event.specs.declared.act.LogSaw.TheVariants.{Seen}
use Rattle.st_event.specs.declared.event.Event.TheVariants.{Submit, Check, Lock as lock_event}
use Rattle.st_event.specs.declared.journal.Entry.{Entry}
use Rattle.st_event.specs.declared.act.Log.{Log}
use Rattle.st_event.specs.declared.journal.Journal.{Journal}
use Rattle.st_grammar.specs.declared.doc.Doc.{Doc}
use Rattle.st_grammar.specs.declared.doc.Script.{Script}
use Rattle.st_serial.specs.Serial.{GroupState}
use Rattle.st_run.specs.Logs.{HasSeen, IsTrueOf, accepted_up_to}
use Rattle.st_run.specs.CarriedOn.{IsDoneBy, IsDoneOn, IsLogged}
use Rattle.st_event.specs.Services.{AreNumbers}
use Rattle.st_run.specs.CarriedOut.{CarriedOut, groups_by, with_journals}
use Rattle.st_run.proofs.SmallCases.{usual, a1, app, firmware, after_all, line, none_at, all_one, idle, none_failed, from_nothing, one_ticket}

-- a group of one switch
abbrev parts : List ℕ → Parts
parts name = record no_parts { name = name; devices = record { name = codes "a1"; tor = false; vals = usual; health = 5 } ∷ [] }

-- the first application updates the firmware on the first group
abbrev updates : List Act
updates = Propose 0 (firmware 2) ∷ Await 0 ∷ Read 0 a1 Firmware ∷ []

-- the second application locks the switch of the second group
abbrev locks : List Act
locks = Lock 1 a1 Low ∷ []

abbrev update : Script
update = record { name = codes "update"; acts = updates }

abbrev guard : Script
guard = record { name = codes "guard"; acts = locks }

abbrev doc : Doc
doc = record { groups = parts (codes "dc1") ∷ parts (codes "dc2") ∷ []; wires = [] ∷ [] ∷ []; apps = update ∷ guard ∷ []; order = []; journal_at = None }

abbrev first_past : List Entry
first_past = after_all [] (Submit (app 0) (firmware 2) ∷ Check ∷ [])

abbrev second_past : List Entry
second_past = after_all [] (lock_event (app 1) a1 Low ∷ [])

abbrev first_journal : Journal
first_journal = record { group = 0; entries = reverse first_past }

abbrev second_journal : Journal
second_journal = record { group = 1; entries = reverse second_past }

abbrev update_log : Log
update_log = record { app = app 0; entries = line (Seen 1 2) ∷ [] }

abbrev guard_log : Log
guard_log = record { app = app 1; entries = [] }

-- the groups with their journals
abbrev first : GroupState
first = record { history = record { group = group_of (parts (codes "dc1")); past = first_past }; lines = [] }

abbrev second : GroupState
second = record { history = record { group = group_of (parts (codes "dc2")); past = second_past }; lines = [] }

groups_are : groups_by doc (first_journal ∷ second_journal ∷ []) ≡ first ∷ second ∷ []
groups_are = refl

-- a group without a journal is left out
one_group : groups_by doc (first_journal ∷ []) ≡ first ∷ []
one_group = refl

no_groups : with_journals [] (first_journal ∷ []) ≡ []
no_groups = refl

numbered : (k : ℕ) → k < 2 → slice_get (0 ∷ 1 ∷ []) k ≡ Some k
numbered zero lt = refl
numbered (suc zero) lt = refl
numbered (suc (suc k)) lt = absurd (omega (arith, lt))

numbers : AreNumbers (0 ∷ 1 ∷ []) 2
numbers = (refl, numbered)

-- none are the numbers of nothing; one too few, one too many, and the same in another order are not the numbers
no_numbers : AreNumbers [] 0
no_numbers = (refl, λ k lt. none_at k lt)

not_too_few : AreNumbers (0 ∷ []) 2 → ⊥
not_too_few are = absurd (omega (arith, are.0))

not_too_many : AreNumbers (0 ∷ 1 ∷ []) 1 → ⊥
not_too_many are = absurd (omega (arith, are.0))

same_some : {X : Type 0} (x y : X) → Some x ≡ Some y → x ≡ y
same_some x y is = cc is

no_some : {X Y : Type 0} (x : X) → None ≡ Some x → Y
no_some x is = absurd (cc is)

not_in_order : AreNumbers (1 ∷ 0 ∷ []) 2 → ⊥
not_in_order are = let one : 1 ≡ 0 = same_some 1 0 (are.1 0 (omega arith)) in absurd (omega (arith, one))

-- each script on each group

abbrev DoneBy : ℕ → ℕ → Script → Log → GroupState → Type 0
DoneBy a n script log s = IsDoneBy (app a) script.acts log.entries n s.history s.lines

-- a command or a line on one group says nothing of the other one
other : {P : Type 0} → zero ≡ suc zero → P
other is = absurd (omega (arith, is))

others : {P : Type 0} → suc zero ≡ zero → P
others is = absurd (omega (arith, is))

update_on_first : DoneBy 0 0 update update_log first
update_on_first = record {
  asked = refl;
  given = one_ticket;
  timely = (idle, (idle, ((λ is there k d lt. none_at k lt), tt)));
  settled = (tt, (tt, (tt, tt)));
  truly = all_one (λ l. l.group ≡ 0 → IsTrueOf first.history l.entity l.var l.saw) (line (Seen 1 2)) (λ here. (omega arith, refl));
  awaited = ((λ here. all_one (λ ticket. HasSeen (Seen 1 2) (accepted_up_to ticket first_past)) 1 (omega arith)), tt);
}

update_on_second : DoneBy 0 1 update update_log second
update_on_second = record {
  asked = refl;
  given = λ k d lt. none_at k lt;
  timely = (idle, (idle, ((λ is there. other there), tt)));
  settled = (tt, (tt, (tt, tt)));
  truly = all_one (λ l. l.group ≡ 1 → IsTrueOf second.history l.entity l.var l.saw) (line (Seen 1 2)) (λ here. other here);
  awaited = ((λ here. other here), tt);
}

guard_on_first : DoneBy 1 0 guard guard_log first
guard_on_first = record {
  asked = refl;
  given = λ k d lt. none_at k lt;
  timely = ((λ is there. others there), tt);
  settled = (tt, tt);
  truly = λ k d lt. none_at k lt;
  awaited = tt;
}

guard_on_second : DoneBy 1 1 guard guard_log second
guard_on_second = record {
  asked = refl;
  given = λ k d lt. none_at k lt;
  timely = ((λ is there k d lt. none_at k lt), tt);
  settled = (tt, tt);
  truly = λ k d lt. none_at k lt;
  awaited = tt;
}

two_without : All (λ (l : List Act). l ≡ []) ([] ∷ [] ∷ [])
two_without = All-cons (λ (l : List Act). l ≡ []) [] ([] ∷ []) refl none_failed

all_on_first : IsDoneOn (updates ∷ locks ∷ []) 0 first.history first.lines
all_on_first = record { decided = refl; failed = two_without; polled = λ e. from_nothing first_past }

all_on_second : IsDoneOn (updates ∷ locks ∷ []) 1 second.history second.lines
all_on_second = record { decided = refl; failed = two_without; polled = λ e. from_nothing second_past }

update_logged : IsLogged updates update_log.entries
update_logged = record { each = ((record { group = refl; entity = refl; var = refl }, tt), tt); no_less = ((λ k d lt. none_at k lt), tt) }

guard_logged : IsLogged locks guard_log.entries
guard_logged = record { each = tt; no_less = tt }

-- what holds of the items that stand in lists holds of what is taken from them
moved_by : (a n : ℕ) (script was : Script) (log had : Log) (s at : GroupState) → script ≡ was → log ≡ had → s ≡ at → DoneBy a n script log s → DoneBy a n was had at
moved_by a n script was log had s at same_script same_log same_state done =
    subst (λ (w : Script). DoneBy a n w had at) same_script (subst (λ (l : Log). DoneBy a n script l at) same_log (subst (λ (g : GroupState). DoneBy a n script log g) same_state done))

moved_on : (n : ℕ) (s at : GroupState) → s ≡ at → IsDoneOn (updates ∷ locks ∷ []) n s.history s.lines → IsDoneOn (updates ∷ locks ∷ []) n at.history at.lines
moved_on n s at same done = subst (λ (g : GroupState). IsDoneOn (updates ∷ locks ∷ []) n g.history g.lines) same done

moved_log : (script was : Script) (log had : Log) → script ≡ was → log ≡ had → IsLogged script.acts log.entries → IsLogged was.acts had.entries
moved_log script was log had same_script same_log done = subst (λ (w : Script). IsLogged w.acts had.entries) same_script (subst (λ (l : Log). IsLogged script.acts l.entries) same_log done)

abbrev two : {X : Type 0} → X → X → List X
two x y = x ∷ y ∷ []

-- what holds of each of two logs, of each of two groups and of each script on each of them, with its log, holds of all of them
all_logged : (ours theirs : Log) → IsLogged updates ours.entries → IsLogged locks theirs.entries → (a : ℕ) (script : Script) (log : Log) → slice_get doc.apps a ≡ Some script → slice_get (two ours theirs) a ≡ Some log → IsLogged script.acts log.entries
all_logged ours theirs is are zero script log s l = moved_log update script ours log (same_some update script s) (same_some ours log l) is
all_logged ours theirs is are (suc zero) script log s l = moved_log guard script theirs log (same_some guard script s) (same_some theirs log l) are
all_logged ours theirs is are (suc (suc a)) script log s l = no_some script s

by_all : (ours theirs : Log) (f s : GroupState) → DoneBy 0 0 update ours f → DoneBy 0 1 update ours s → DoneBy 1 0 guard theirs f → DoneBy 1 1 guard theirs s → (a n : ℕ) (script : Script) (log : Log) (at : GroupState) → slice_get doc.apps a ≡ Some script → slice_get (two ours theirs) a ≡ Some log → slice_get (two f s) n ≡ Some at → DoneBy a n script log at
by_all ours theirs f s p q r t zero zero script log at c l g = moved_by 0 0 update script ours log f at (same_some update script c) (same_some ours log l) (same_some f at g) p
by_all ours theirs f s p q r t zero (suc zero) script log at c l g = moved_by 0 1 update script ours log s at (same_some update script c) (same_some ours log l) (same_some s at g) q
by_all ours theirs f s p q r t (suc zero) zero script log at c l g = moved_by 1 0 guard script theirs log f at (same_some guard script c) (same_some theirs log l) (same_some f at g) r
by_all ours theirs f s p q r t (suc zero) (suc zero) script log at c l g = moved_by 1 1 guard script theirs log s at (same_some guard script c) (same_some theirs log l) (same_some s at g) t
by_all ours theirs f s p q r t (suc (suc a)) n script log at c l g = no_some script c
by_all ours theirs f s p q r t zero (suc (suc n)) script log at c l g = no_some at g
by_all ours theirs f s p q r t (suc zero) (suc (suc n)) script log at c l g = no_some at g

on_all : (f s : GroupState) → IsDoneOn (updates ∷ locks ∷ []) 0 f.history f.lines → IsDoneOn (updates ∷ locks ∷ []) 1 s.history s.lines → (n : ℕ) (at : GroupState) → slice_get (two f s) n ≡ Some at → IsDoneOn (updates ∷ locks ∷ []) n at.history at.lines
on_all f s is are zero at g = moved_on 0 f at (same_some f at g) is
on_all f s is are (suc zero) at g = moved_on 1 s at (same_some s at g) are
on_all f s is are (suc (suc n)) at g = no_some at g

-- the points of the document
abbrev Numbered : List Journal → List Log → Type 0
Numbered journals logs = AreNumbers (map (λ j. j.group) journals) 2 × AreNumbers (map (λ l. l.app.0) logs) 2

abbrev Logged : List Log → Type 0
Logged logs = (a : ℕ) (script : Script) (log : Log) → slice_get doc.apps a ≡ Some script → slice_get logs a ≡ Some log → IsLogged script.acts log.entries

abbrev ByEach : List Journal → List Log → Type 0
ByEach journals logs =
    (a n : ℕ) (script : Script) (log : Log) (s : GroupState) → slice_get doc.apps a ≡ Some script → slice_get logs a ≡ Some log → slice_get (groups_by doc journals) n ≡ Some s → DoneBy a n script log s

abbrev OnEach : List Journal → Type 0
OnEach journals = (n : ℕ) (s : GroupState) → slice_get (groups_by doc journals) n ≡ Some s → IsDoneOn (updates ∷ locks ∷ []) n s.history s.lines

abbrev journals : List Journal
journals = first_journal ∷ second_journal ∷ []

abbrev logs : List Log
logs = update_log ∷ guard_log ∷ []

logged : Logged logs
logged = all_logged update_log guard_log update_logged guard_logged

by_each : ByEach journals logs
by_each = by_all update_log guard_log first second update_on_first update_on_second guard_on_first guard_on_second

on_each : OnEach journals
on_each = on_all first second all_on_first all_on_second

carried_out : CarriedOut doc journals logs
carried_out = record { groups = numbers; apps = numbers; logged = logged; by_each = by_each; on_each = on_each }

-- of a list that was cut behind its first item, an item is one of the whole list
of_first : {X : Type 0} (x y z : X) (k : ℕ) → slice_get (x ∷ []) k ≡ Some z → slice_get (x ∷ y ∷ []) k ≡ Some z
of_first x y z zero is = is
of_first x y z (suc k) is = no_some z is

-- a log too few
not_a_log_less : CarriedOut doc journals (update_log ∷ []) → ⊥
not_a_log_less out = not_too_few out.apps

a_log_less_else : AreNumbers (map (λ j. j.group) journals) 2 × Logged (update_log ∷ []) × ByEach journals (update_log ∷ []) × OnEach journals
a_log_less_else = (numbers, (λ a script log c l. logged a script log c (of_first update_log guard_log log a l)), (λ a n script log s c l g. by_each a n script log s c (of_first update_log guard_log log a l) g), on_each)

-- two logs in their places, each with the other's application
abbrev our_swapped : Log
our_swapped = record { app = app 1; entries = update_log.entries }

abbrev their_swapped : Log
their_swapped = record { app = app 0; entries = guard_log.entries }

abbrev swapped_logs : List Log
swapped_logs = our_swapped ∷ their_swapped ∷ []

not_swapped_logs : CarriedOut doc journals swapped_logs → ⊥
not_swapped_logs out = not_in_order out.apps

swapped_logs_else : AreNumbers (map (λ j. j.group) journals) 2 × Logged swapped_logs × ByEach journals swapped_logs × OnEach journals
swapped_logs_else = (numbers, all_logged our_swapped their_swapped update_logged guard_logged, by_all our_swapped their_swapped first second update_on_first update_on_second guard_on_first guard_on_second, on_each)

-- a journal too few
not_a_journal_less : CarriedOut doc (first_journal ∷ []) logs → ⊥
not_a_journal_less out = not_too_few out.groups

a_journal_less_else : AreNumbers (map (λ l. l.app.0) logs) 2 × Logged logs × ByEach (first_journal ∷ []) logs × OnEach (first_journal ∷ [])
a_journal_less_else = (numbers, logged, (λ a n script log s c l g. by_each a n script log s c l (of_first first second s n g)), (λ n s g. on_each n s (of_first first second s n g)))

-- the two journals in the wrong order. Each is taken for the other group's, so other points refuse them too
not_swapped_journals : CarriedOut doc (second_journal ∷ first_journal ∷ []) logs → ⊥
not_swapped_journals out = not_in_order out.groups

-- two journals in their places, each with the other's number
abbrev swapped_numbers : List Journal
swapped_numbers = record { group = 1; entries = first_journal.entries } ∷ record { group = 0; entries = second_journal.entries } ∷ []

not_swapped_numbers : CarriedOut doc swapped_numbers logs → ⊥
not_swapped_numbers out = not_in_order out.groups

swapped_numbers_else : AreNumbers (map (λ l. l.app.0) logs) 2 × Logged logs × ByEach swapped_numbers logs × OnEach swapped_numbers
swapped_numbers_else = (numbers, logged, by_each, on_each)

-- a log that has another variable than was read
abbrev config_log : Log
config_log = record { app = app 0; entries = record { group = 0; entity = a1; var = Config; saw = Seen 1 1 } ∷ [] }

not_another_variable : CarriedOut doc journals (config_log ∷ guard_log ∷ []) → ⊥
not_another_variable out = absurd (cc (out.logged 0 update config_log refl refl).each.0.0.var)

config_on_first : DoneBy 0 0 update config_log first
config_on_first = record {
  asked = update_on_first.asked;
  given = update_on_first.given;
  timely = update_on_first.timely;
  settled = update_on_first.settled;
  truly = all_one (λ l. l.group ≡ 0 → IsTrueOf first.history l.entity l.var l.saw) (record { group = 0; entity = a1; var = Config; saw = Seen 1 1 }) (λ here. (omega arith, refl));
  awaited = ((λ here. all_one (λ ticket. HasSeen (Seen 1 1) (accepted_up_to ticket first_past)) 1 (omega arith)), tt);
}

config_on_second : DoneBy 0 1 update config_log second
config_on_second = record {
  asked = update_on_second.asked;
  given = update_on_second.given;
  timely = update_on_second.timely;
  settled = update_on_second.settled;
  truly = all_one (λ l. l.group ≡ 1 → IsTrueOf second.history l.entity l.var l.saw) (record { group = 0; entity = a1; var = Config; saw = Seen 1 1 }) (λ here. other here);
  awaited = ((λ here. other here), tt);
}

another_variable_else : Numbered journals (config_log ∷ guard_log ∷ []) × ByEach journals (config_log ∷ guard_log ∷ []) × OnEach journals
another_variable_else = ((numbers, numbers), by_all config_log guard_log first second config_on_first config_on_second guard_on_first guard_on_second, on_each)

-- a journal without the lock that was asked for on its group
abbrev unlocked_journal : Journal
unlocked_journal = record { group = 1; entries = [] }

abbrev unlocked : GroupState
unlocked = record second { history = record second.history { past = [] } }

not_unlocked : CarriedOut doc (first_journal ∷ unlocked_journal ∷ []) logs → ⊥
not_unlocked out = absurd (cc (out.by_each 1 1 guard guard_log unlocked refl refl refl).asked)

all_on_unlocked : IsDoneOn (updates ∷ locks ∷ []) 1 unlocked.history unlocked.lines
all_on_unlocked = record { decided = refl; failed = two_without; polled = λ e. from_nothing [] }

unlocked_else : Numbered (first_journal ∷ unlocked_journal ∷ []) logs × Logged logs × OnEach (first_journal ∷ unlocked_journal ∷ [])
unlocked_else = ((numbers, numbers), logged, on_all first unlocked all_on_first all_on_unlocked)

-- a proposal that no script asked for is left pending
abbrev pending_past : List Entry
pending_past = after_all second_past (Submit (app 2) (firmware 2) ∷ [])

abbrev pending_journal : Journal
pending_journal = record { group = 1; entries = reverse pending_past }

abbrev waiting : GroupState
waiting = record second { history = record second.history { past = pending_past } }

not_waiting : CarriedOut doc (first_journal ∷ pending_journal ∷ []) logs → ⊥
not_waiting out = absurd (cc (out.on_each 1 waiting refl).decided)

update_on_waiting : DoneBy 0 1 update update_log waiting
update_on_waiting = record {
  asked = refl;
  given = λ k d lt. none_at k lt;
  timely = (idle, (idle, ((λ is there. other there), tt)));
  settled = (tt, (tt, (tt, tt)));
  truly = all_one (λ l. l.group ≡ 1 → IsTrueOf waiting.history l.entity l.var l.saw) (line (Seen 1 2)) (λ here. other here);
  awaited = ((λ here. other here), tt);
}

guard_on_waiting : DoneBy 1 1 guard guard_log waiting
guard_on_waiting = record {
  asked = refl;
  given = λ k d lt. none_at k lt;
  timely = ((λ is there k d lt. none_at k lt), tt);
  settled = (tt, tt);
  truly = λ k d lt. none_at k lt;
  awaited = tt;
}

waiting_else : Numbered (first_journal ∷ pending_journal ∷ []) logs × Logged logs × ByEach (first_journal ∷ pending_journal ∷ []) logs
waiting_else = ((numbers, numbers), logged, by_all update_log guard_log first waiting update_on_first update_on_waiting guard_on_first guard_on_waiting)
