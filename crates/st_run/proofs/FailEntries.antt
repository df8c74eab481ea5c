-- The failures that a pass's entries make of a group, by its list of places, as its commands are done: a command that asks for a failure makes it,
-- and no other command makes one.
use Rattle.std.proofs.Common.{◌≡◌, ℕ, zero, suc, ◌<◌, Bool, true, false, List, [], ◌∷◌, ◌++◌, length, take, refl, ap, sym, subst, ◌∙◌, arith, append_assoc}
use Rattle.std.specs.Prelude.{Option, Some, None, slice_get, reverse, ◌==◌, if◌then◌else◌}
use Rattle.std.specs.List.{filter}
use Rattle.std.proofs.lemmas.List.{append-nil, append_cancel_left, append_cancel_right, reverse-reverse, take-append-le}
use Rattle.std.proofs.lemmas.List.Elements.{filter-append}
use Rattle.std.proofs.Math.Seq.{take-append_seam}
use mathlib.Core.List.{IsPrefix}
use Rattle.st_net.specs.declared.entity.Entity.{Entity}
use Rattle.st_net.specs.declared.entity.Row.{Row}
use Rattle.st_net.specs.Groups.{Group}
use Rattle.st_event.specs.declared.act.Act.{Act}
use Rattle.st_event.specs.declared.act.Act.TheVariants.{Propose, Await, Settle, Lock, Unlock, Read, ReadAt, Fail, Poll, Span}
use Rattle.st_event.specs.declared.event.Event.{Event}
use Rattle.st_event.specs.declared.event.Event.TheVariants.{Submit, Check, Lock as lock_event, Unlock as unlock_event, Fail as fail_event}
use Rattle.st_event.specs.declared.journal.Entry.{Entry}
use Rattle.st_event.specs.declared.journal.TheConstants.{MAX_PENDING}
use Rattle.st_event.specs.Moments.{vals}
use Rattle.st_event.specs.Proposals.{pending}
use Rattle.st_event.specs.Services.{entry_after}
use Rattle.st_wire.specs.declared.line.WireLine.{WireLine}
use Rattle.st_event.proofs.Prefixes.{prefix_length, prefix_trans}
use Rattle.st_world.specs.Acts.{course_of, failed_vals, proposed, with_room}
use Rattle.st_world.specs.Rounds.{course_from, enter, unsettled}
use Rattle.st_world.specs.declared.world.rounds.Going.TheVariants.{On}
use Rattle.st_service.specs.declared.work.Part.TheVariants.{Whole}
use Rattle.st_service.specs.Acts.{ActEnters}
use Rattle.st_run.specs.CarriedOn.{is_failing}
use Rattle.st_run.specs.Failures.{Failure, IsFailureBy, failure_by}
use Rattle.st_service.specs.Kept.{AllWithin, Grows}
use Rattle.st_service.specs.Lines.{tagged, numbers}
use Rattle.st_service.specs.Made.{Made, past_in}
use Rattle.st_service.specs.Puts.{Enters}
use Rattle.st_service.specs.Shares.{act_share}
use Rattle.st_service.specs.Tickets.{latest_in}
use Rattle.st_service.specs.Turns.{Turns, RoundsMade}
use Rattle.st_service.specs.Works.{part_of}
use Rattle.st_run.proofs.CommandEntries.{IsChecked, awaits_checked, each_then, enters_only}
use Rattle.st_run.proofs.DidLaws.{Each, EntersAll}
use Rattle.st_service.proofs.ChainLaws.{within_both}
use Rattle.st_service.proofs.HoldLaws.{past_more}
use Rattle.st_service.proofs.TicketLaws.{get_left}
use Rattle.st_run.proofs.Interleaved.{Pairs, get_here, pairs_append}
use Rattle.st_run.proofs.OwnEntries.{AddsEach, and_entry, each_none, entries_append, entries_at, entries_longer, within_longer}
use Rattle.st_run.proofs.RunEntries.{Only, OfTurns, only_none, only_enter, only_poll, only_turn, was_entered}

-- the failures that the entries at these places make, each of the values that the journal before it tells

abbrev pub failure_at : Group → List Made → ℕ → Option Made → List Failure
failure_at g front n (Some m) = failure_by g (past_in (take n front)) m.entry.event
failure_at g front n None = []

abbrev pub failures_at : Group → List Made → List ℕ → List Failure
failures_at g front [] = []
failures_at g front (n ∷ ns) = failure_at g front n (slice_get front n) ++ failures_at g front ns

failures_append : (g : Group) (front : List Made) (ms ns : List ℕ) → failures_at g front (ms ++ ns) ≡ failures_at g front ms ++ failures_at g front ns
failures_append g front [] ns = refl
failures_append g front (m ∷ ms) ns =
    let here = failure_at g front m (slice_get front m) in
    ap (λ (l : List Failure). here ++ l) (failures_append g front ms ns) ∙ sym (append_assoc here (failures_at g front ms) (failures_at g front ns))

at_longer : (g : Group) (xs more : List Made) (n : ℕ) → n < length xs
    → failure_at g (xs ++ more) n (slice_get (xs ++ more) n) ≡ failure_at g xs n (slice_get xs n)
at_longer g xs more n lt =
    ap (failure_at g (xs ++ more) n) (get_left xs more n lt) ∙ same (slice_get xs n)
  where
    same : (o : Option Made) → failure_at g (xs ++ more) n o ≡ failure_at g xs n o
    same (Some m) = ap (λ (l : List Made). failure_by g (past_in l) m.entry.event) (take-append-le n xs more (omega (arith, lt)))
    same None = refl

longer_by : (g : Group) (xs more : List Made) (mine : List ℕ) → AllWithin 0 (length xs) mine → failures_at g (xs ++ more) mine ≡ failures_at g xs mine
longer_by g xs more [] w = refl
longer_by g xs more (n ∷ ns) w =
    ap (λ (l : List Failure). l ++ failures_at g (xs ++ more) ns) (at_longer g xs more n w.1)
    ∙ ap (λ (l : List Failure). failure_at g xs n (slice_get xs n) ++ l) (longer_by g xs more ns w.2)

-- a longer front has the same there
pub failures_longer : (g : Group) (xs ys : List Made) (mine : List ℕ) → IsPrefix xs ys → AllWithin 0 (length xs) mine
    → failures_at g ys mine ≡ failures_at g xs mine
failures_longer g xs ys mine p w = ap (λ (l : List Made). failures_at g l mine) (sym p.1) ∙ longer_by g xs p.0 mine w

-- an event that makes no failure
abbrev pub NeverFails : Group → Event → Type 0
NeverFails g event = (past : List Entry) → failure_by g past event ≡ []

abbrev pub NoFailure : Group → Entry → Type 0
NoFailure g e = NeverFails g e.event

calm_turns : (g : Group) → OfTurns (NeverFails g)
calm_turns g = record { send = λ e past. refl; deliver = λ n past. refl; finish = λ e past. refl; report = λ e past. refl; hear = λ n past. refl; withdraw = λ e past. refl }

calm_one : (g : Group) (front : List Made) (n : ℕ) (rest : List ℕ) (o : Option Made)
    → (Each (NoFailure g) (entries_at front rest) → failures_at g front rest ≡ []) → Each (NoFailure g) (and_entry o (entries_at front rest))
    → failure_at g front n o ++ failures_at g front rest ≡ []
calm_one g front n rest (Some m) others e = ap (λ (l : List Failure). l ++ failures_at g front rest) (e.0 (past_in (take n front))) ∙ others e.1
calm_one g front n rest None others e = others e

calm : (g : Group) (front : List Made) (ns : List ℕ) → Each (NoFailure g) (entries_at front ns) → failures_at g front ns ≡ []
calm g front [] e = refl
calm g front (n ∷ ns) e = calm_one g front n ns (slice_get front n) (calm g front ns) e

-- the places of a pass stay within its front

within_lower : (lo hi : ℕ) (ns : List ℕ) → AllWithin lo hi ns → AllWithin 0 hi ns
within_lower lo hi [] w = tt
within_lower lo hi (n ∷ ns) w = (omega arith, w.1, within_lower lo hi ns w.2)

pub grows_within : (most : ℕ) (before : List Made) (was : List ℕ) (after : List Made) (now : List ℕ) → Grows most before was after now
    → AllWithin 0 (length before) was → AllWithin 0 (length after) now
grows_within most before was after now g w = subst (AllWithin 0 (length after)) (sym g.1.1)
    (within_both 0 (length after) was g.1.0 (within_longer 0 (length before) (length after) was (prefix_length before after g.0) w)
    (within_lower (length before) (length after) g.1.0 g.1.3))

-- what a command makes of failures

pub record Fails (g : Group) (acts : List Act) (before : List Made) (was : List ℕ) (after : List Made) (now : List ℕ) : Type 0 where
  pub failures : List Failure
  pub asked : Pairs IsFailureBy failures (filter is_failing acts)
  pub made : failures_at g after now ≡ failures_at g before was ++ failures

-- entries that make none
none_failed : (g : Group) (most : ℕ) (before : List Made) (was : List ℕ) (after : List Made) (now : List ℕ) → AllWithin 0 (length before) was
    → Grows most before was after now → AddsEach (NoFailure g) before was after now
    → failures_at g after now ≡ failures_at g before was ++ []
none_failed g most before was after now w grows a =
    let more = grows.1.0 in
    let old = entries_at before was in
    let new : old ++ entries_at after more ≡ old ++ a.entries =
    ap (λ (l : List Entry). l ++ entries_at after more) (sym (entries_longer before after was grows.0 w)) ∙
    (sym (entries_append after was more) ∙ (ap (entries_at after) (sym grows.1.1) ∙ a.adds.made w)) in
    let same : entries_at after more ≡ a.entries = append_cancel_left old (entries_at after more) a.entries new in
    let none : failures_at g after more ≡ [] = calm g after more (subst (Each (NoFailure g)) (sym same) a.each) in
    ap (failures_at g after) grows.1.1 ∙ (failures_append g after was more
    ∙ (ap (λ (l : List Failure). l ++ failures_at g after more) (failures_longer g before after was grows.0 w) ∙ ap
    (λ (l : List Failure). failures_at g before was ++ l) none))

calm_command : (g : Group) (act : Act) (most : ℕ) (before : List Made) (was : List ℕ) (after : List Made) (now : List ℕ) → is_failing act ≡ false
    → AllWithin 0 (length before) was → Grows most before was after now
    → AddsEach (NoFailure g) before was after now → Fails g (act ∷ []) before was after now
calm_command g act most before was after now other w grows a = record { failures = []; asked = rw other tt; made = none_failed g most before was after now w grows a }

-- the entries of turns

turns_calm : (g : Group) (lines : List WireLine) (number : ℕ) (es : List Entity) (before : List Made) (was : List ℕ) (after : List Made) (now : List ℕ)
    → Turns Whole g lines number es before was after now → AddsEach (NoFailure g) before was after now
turns_calm g lines number [] before was after now t = each_none (NoFailure g) before was after now t.0 t.1
turns_calm g lines number (x ∷ es) before was after now t = each_then (NoFailure g) before was t.1 t.2 after now
    (enters_only (NeverFails g) (λ past. part_of Whole g lines (course_from past) x) On number t.0 before was t.1 t.2
    (only_turn (NeverFails g) g lines (past_in t.0) (course_from (past_in t.0)) x (calm_turns g) (only_none (NeverFails g) (past_in t.0))) t.3)
    (turns_calm g lines number es t.1 t.2 after now t.4)

rounds_calm : (g : Group) (lines : List WireLine) (number k : ℕ) (before : List Made) (was : List ℕ) (after : List Made) (now : List ℕ)
    → RoundsMade g lines number k before was after now → AddsEach (NoFailure g) before was after now
rounds_calm g lines number zero before was after now r = each_none (NoFailure g) before was after now r.0 r.1
rounds_calm g lines number (suc k) before was after now r =
    let f = r.2.0 in
    let seen : AddsEach (NoFailure g) before was f was = each_none (NoFailure g) before was f was r.2.1 refl in
    let one : AddsEach (NoFailure g) f was r.0 r.1 = turns_calm g lines number (unsettled g (past_in f)) f was r.0 r.1 r.2.2 in
    each_then (NoFailure g) before was r.0 r.1 after now (each_then (NoFailure g) before was f was r.0 r.1 seen one)
    (rounds_calm g lines number k r.0 r.1 after now r.3)

checks_calm : (g : Group) (es : List Entry) → Each (IsChecked g) es → Each (NoFailure g) es
checks_calm g [] e = tt
checks_calm g (x ∷ es) e = (subst (NoFailure g) (sym e.0.1) (λ past. refl), checks_calm g es e.1)

awaits_calm : (g : Group) (before : List Made) (was : List ℕ) (after : List Made) (now : List ℕ) → AddsEach (IsChecked g) before was after now
    → AddsEach (NoFailure g) before was after now
awaits_calm g before was after now a = record { entries = a.entries; each = checks_calm g a.entries a.each; adds = a.adds }

-- a proposal: a check at the most before it

calm_room : (g : Group) (past : List Entry) (b : Bool) → Only (NeverFails g) past (if b then enter g (course_from past) Check else course_from past)
calm_room g past true = only_enter (NeverFails g) g past (course_from past) Check (λ p. refl) (only_none (NeverFails g) past)
calm_room g past false = only_none (NeverFails g) past

calm_proposed : (g : Group) (number : ℕ) (rows : List Row) (past : List Entry)
    → Only (NeverFails g) past (proposed g (course_from past) (record { 0 = number }) rows)
calm_proposed g number rows past =
    only_enter (NeverFails g) g past (with_room g (course_from past)) (Submit (record { 0 = number }) rows) (λ p. refl)
    (calm_room g past (length (pending past) == MAX_PENDING))

-- a failure that is asked for

abbrev failing : Group → List Entry → Entity → ℕ → List Row → Event
failing g past entity health rows = fail_event entity (failed_vals entity (vals g past entity) rows) health

failed_entry : (g : Group) (lines : List WireLine) (number n : ℕ) (entity : Entity) (health : ℕ) (rows : List Row) (mid before : List Made)
    (was : List ℕ) (after : List Made) (now : List ℕ)
    → AllWithin 0 (length before) was
    → Enters (λ past. course_of (record { 0 = number }) (Fail n entity health rows) g lines (course_from past)) On number mid before was after now
    → Fails g (Fail n entity health rows ∷ []) before was after now
failed_entry g lines number n entity health rows mid before was after now w e =
    let past = past_in mid in
    let event = failing g past entity health rows in
    let entry = entry_after g past event in
    let new : past_in after ≡ reverse e.entries ++ past = ap past_in e.puts.1 ∙ past_more mid number e.entries in
    let one = was_entered g (course_from past) event (past_in after) e.run in
    let back : reverse e.entries ≡ entry ∷ [] = append_cancel_right (reverse e.entries) (entry ∷ []) past (sym new ∙ one.is) in
    let entries : e.entries ≡ entry ∷ [] = sym (reverse-reverse e.entries) ∙ ap reverse back in
    let made : Made = record { by = number; entry = entry } in
    let after_is : after ≡ mid ++ made ∷ [] = e.puts.1 ∙ ap (λ (es : List Entry). mid ++ tagged number es) entries in
    let now_is : now ≡ was ++ length mid ∷ [] = e.puts.2 ∙ ap (λ (es : List Entry). was ++ numbers (length mid) (length es)) entries in
    let failure : Failure = record { entity = entity; before = vals g past entity; after = failed_vals entity (vals g past entity) rows; health = health } in
    let at : failure_at g (mid ++ made ∷ []) (length mid) (slice_get (mid ++ made ∷ []) (length mid)) ≡ failure ∷ [] =
    ap (failure_at g (mid ++ made ∷ []) (length mid)) (get_here mid made []) ∙ ap (λ (l : List Made). failure_by g (past_in l) event)
    (take-append_seam mid (made ∷ [])) in
    let here : failures_at g after (length mid ∷ []) ≡ failure ∷ [] =
    ap (λ (f : List Made). failures_at g f (length mid ∷ [])) after_is ∙ ap (λ (l : List Failure). l ++ []) at in
    let later : IsPrefix before after = prefix_trans before mid after e.puts.0 (tagged number e.entries, sym e.puts.1) in
    record {
      failures = failure ∷ [];
      asked = ((refl, refl, refl), tt);
      made = ap (failures_at g after) now_is ∙ (failures_append g after was (length mid ∷ [])
          ∙ (ap (λ (l : List Failure). l ++ failures_at g after (length mid ∷ [])) (failures_longer g before after was later w) ∙ ap
          (λ (l : List Failure). failures_at g before was ++ l) here));
    }

-- each command

pub command_fails : (act : Act) (g : Group) (lines : List WireLine) (number : ℕ) (before : List Made) (was : List ℕ) (after : List Made) (now : List ℕ)
    → AllWithin 0 (length before) was → Grows (act_share act g lines) before was after now
    → ActEnters act g lines number before was after now → Fails g (act ∷ []) before was after now
command_fails (Propose n rows) g lines number before was after now w grows e = calm_command g (Propose n rows) _ before was after now refl w grows
    (enters_only (NeverFails g) _ On number e.0 before was after now (calm_proposed g number rows (past_in e.0)) e.1)
command_fails (Await n) g lines number before was after now w grows e = calm_command g (Await n) _ before was after now refl w grows
    (awaits_calm g before was after now (awaits_checked g number (latest_in before was) before was after now e))
command_fails (Settle n rounds) g lines number before was after now w grows e = calm_command g (Settle n rounds) _ before was after now refl w grows
    (each_then (NoFailure g) before was e.2 now after now (rounds_calm g lines number e.0 before was e.2 now e.3) (each_none (NoFailure g) e.2 now after now e.4 refl))
command_fails (Lock n entity prio) g lines number before was after now w grows e = calm_command g (Lock n entity prio) _ before was after now refl w grows
    (enters_only (NeverFails g) _ On number e.0 before was after now (only_enter (NeverFails g) g (past_in e.0) (course_from (past_in e.0))
    (lock_event (record { 0 = number }) entity prio) (λ p. refl) (only_none (NeverFails g) (past_in e.0))) e.1)
command_fails (Unlock n entity prio) g lines number before was after now w grows e = calm_command g (Unlock n entity prio) _ before was after now refl w grows
    (enters_only (NeverFails g) _ On number e.0 before was after now (only_enter (NeverFails g) g (past_in e.0) (course_from (past_in e.0))
    (unlock_event (record { 0 = number }) entity prio) (λ p. refl) (only_none (NeverFails g) (past_in e.0))) e.1)
command_fails (Read n entity var) g lines number before was after now w grows e = calm_command g (Read n entity var) _ before was after now refl w grows
    (each_none (NoFailure g) before was after now (subst (IsPrefix before) (sym e.0) ([], append-nil before)) e.1)
command_fails (ReadAt n version entity var) g lines number before was after now w grows e = calm_command g
    (ReadAt n version entity var) _ before was after now refl w grows
    (each_none (NoFailure g) before was after now e.0 e.1)
command_fails (Fail n entity health rows) g lines number before was after now w grows e = failed_entry g lines number n entity health rows e.0 before was after now w e.1
command_fails (Poll n entity) g lines number before was after now w grows e = calm_command g (Poll n entity) _ before was after now refl w grows
    (enters_only (NeverFails g) _ On number e.0 before was after now (only_poll (NeverFails g) g lines (past_in e.0) (course_from (past_in e.0)) entity
    (calm_turns g) (only_none (NeverFails g) (past_in e.0))) e.1)
command_fails (Span first first_rows second second_rows) g lines number before was after now w grows e = absurd e

-- a chain of commands
pub script_fails : (g : Group) (lines : List WireLine) (number : ℕ) (acts : List Act) (before : List Made) (was : List ℕ) (after : List Made) (now : List ℕ)
    → AllWithin 0 (length before) was → EntersAll g lines number acts before was after now
    → Fails g acts before was after now
script_fails g lines number [] before was after now w e = record {
  failures = [];
  asked = tt;
  made = ap (λ (f : List Made). failures_at g f now) e.0 ∙ (ap (failures_at g before) e.1 ∙ sym (append-nil (failures_at g before was)));
}
script_fails g lines number (act ∷ acts) before was after now w e =
    let one = command_fails act g lines number before was e.0 e.1 w e.3 e.2 in
    let rest = script_fails g lines number acts e.0 e.1 after now (grows_within (act_share act g lines) before was e.0 e.1 e.3 w) e.4 in
    record {
      failures = one.failures ++ rest.failures;
      asked = subst (Pairs IsFailureBy (one.failures ++ rest.failures)) (sym (filter-append is_failing (act ∷ []) acts))
          (pairs_append IsFailureBy one.failures rest.failures (filter is_failing (act ∷ [])) (filter is_failing acts) one.asked rest.asked);
      made = rest.made ∙ (ap (λ (l : List Failure). l ++ rest.failures) one.made ∙ append_assoc (failures_at g before was) one.failures rest.failures);
    }
