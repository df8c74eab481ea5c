-- Worked examples on what several holds leave: turns, rounds, and checks while a ticket is pending.
use Rattle.std.proofs.Common.{◌≡◌, ◌⊎◌, ℕ, zero, suc, ◌<◌, ◌≤◌, List, [], ◌∷◌, ◌++◌, length, Some, None, inl, inr, ◌+◌, refl, ap, sym, subst, ◌∙◌, arith, length-append}
use mathlib.Core.List.{IsPrefix}
use Rattle.st_net.specs.declared.entity.Entity.{Entity}
use Rattle.st_event.specs.declared.event.Event.TheVariants.{Submit, Check, Send, Deliver, Finish, Report, Hear}
use Rattle.st_event.specs.declared.journal.Entry.{Entry}
use Rattle.st_event.specs.declared.journal.TheConstants.{MAX_ENTRIES}
use Rattle.st_event.specs.declared.reply.Reply.TheVariants.{Sent, Begun, Done, Reported, Taken}
use Rattle.st_event.specs.Proposals.{deciders}
use Rattle.st_event.specs.Services.{entry_after}
use Rattle.st_world.specs.Rounds.{Course, course_from, turn, unsettled}
use Rattle.st_world.specs.declared.world.rounds.Going.TheVariants.{On, Full}
use Rattle.st_world.specs.declared.world.rounds.Rounded.TheVariants.{Did, JournalFull}
use Rattle.st_event.proofs.Prefixes.{prefix_trans, prefix_length, prefix_shorter, prefix_whole}
use Rattle.st_service.specs.declared.awaits.Checked.TheVariants.{Over, Went, Full as full_before}
use Rattle.st_service.specs.declared.work.Part.TheVariants.{Whole, Update, Monitor}
use Rattle.st_service.specs.Awaits.{WentOn, ChecksFor, Waits, WaitsOut, Awaits, Awaited}
use Rattle.st_service.specs.Lines.{tagged}
use Rattle.st_service.specs.Made.{Made, past_in, maker}
use Rattle.st_service.specs.Puts.{Enters, Puts}
use Rattle.st_service.specs.Turns.{ToFull, Turns, Turned, RoundOf, RoundTold, RoundsMade, WasSettled, Settles, Settled}
use Rattle.st_service.specs.Works.{part_of}
use Rattle.st_service.proofs.ChainLaws.{rounds_later}
use Rattle.st_service.proofs.WorkedJournals.{small, a1, app, firmware, idle, made, then_by, proposed, decided, turned}

-- Turns

abbrev sent : Entry
sent = record { event = Send a1; reply = Sent 1 }

abbrev begun : Entry
begun = record { event = Deliver 1; reply = Begun }

abbrev done : Entry
done = record { event = Finish a1; reply = Done }

abbrev reported : Entry
reported = record { event = Report a1; reply = Reported 1 }

abbrev heard : Entry
heard = record { event = Hear 1; reply = Taken }

-- the entries of the switch's turn
abbrev of_turn : List Entry
of_turn = sent ∷ begun ∷ done ∷ reported ∷ heard ∷ []

the_turn : turned ≡ decided ++ tagged 0 of_turn
the_turn = refl

pub one_turn : Turns Whole small [] 0 (a1 ∷ []) decided (0 ∷ []) turned (0 ∷ 2 ∷ 3 ∷ 4 ∷ 5 ∷ 6 ∷ [])
one_turn = (
  decided,
  turned,
  0 ∷ 2 ∷ 3 ∷ 4 ∷ 5 ∷ 6 ∷ [],
  record { entries = of_turn; puts = (([], refl), refl, refl); run = refl; full = λ e. absurd (cc e) },
  (([], refl), refl),
)

-- the half of a turn that updates, and then the half that monitors, behind another pass's check
abbrev updated : List Made
updated = decided ++ tagged 0 (sent ∷ begun ∷ done ∷ [])

pub an_update : Turns Update small [] 0 (a1 ∷ []) decided (0 ∷ []) updated (0 ∷ 2 ∷ 3 ∷ 4 ∷ [])
an_update = (
  decided,
  updated,
  0 ∷ 2 ∷ 3 ∷ 4 ∷ [],
  record { entries = sent ∷ begun ∷ done ∷ []; puts = (([], refl), refl, refl); run = refl; full = λ e. absurd (cc e) },
  (([], refl), refl),
)

abbrev checked_between : List Made
checked_between = updated ++ made 1 idle ∷ []

pub then_a_report : Turns Monitor small [] 0 (a1 ∷ []) updated (0 ∷ 2 ∷ 3 ∷ 4 ∷ []) (checked_between ++ tagged 0 (reported ∷ heard ∷ [])) (0 ∷ 2 ∷ 3 ∷ 4 ∷ 6 ∷ 7 ∷ [])
then_a_report = (
  checked_between,
  checked_between ++ tagged 0 (reported ∷ heard ∷ []),
  0 ∷ 2 ∷ 3 ∷ 4 ∷ 6 ∷ 7 ∷ [],
  record { entries = reported ∷ heard ∷ []; puts = ((made 1 idle ∷ [], refl), refl, refl); run = refl; full = λ e. absurd (cc e) },
  (([], refl), refl),
)

-- no turns: others' entries may have come, and no own ones
pub no_turns : Turns Whole small [] 0 [] proposed (0 ∷ []) decided (0 ∷ [])
no_turns = ((made 1 (entry_after small (past_in proposed) Check) ∷ [], refl), refl)

pub no_turns_no_places : Turns Whole small [] 0 [] decided (0 ∷ []) turned (0 ∷ 2 ∷ 3 ∷ 4 ∷ 5 ∷ 6 ∷ []) → ⊥
no_turns_no_places t = absurd (cc (t.1))

pub no_turns_no_way_back : Turns Whole small [] 0 [] decided (0 ∷ []) proposed (0 ∷ []) → ⊥
no_turns_no_way_back t = absurd (omega (arith, prefix_length decided proposed t.0))

-- turns only add to a front
turns_go_on : (es : List Entity) (before after : List Made) (was now : List ℕ) → Turns Whole small [] 0 es before was after now → IsPrefix before after
turns_go_on [] before after was now t = t.0
turns_go_on (e ∷ es) before after was now t =
    prefix_trans before t.0 after t.3.puts.0 (prefix_trans t.0 t.1 after (tagged 0 t.3.entries, sym t.3.puts.1) (turns_go_on es t.1 after t.2 now t.4))

-- a turn that leaves a front as it was had nothing to enter
stood_still : (before : List Made) (was now : List ℕ) → Turns Whole small [] 0 (a1 ∷ []) before was before now → (turn small [] (course_from (past_in before)) a1).past ≡ past_in before
stood_still before was now t =
    let p = prefix_length before t.0 t.3.puts.0 in
    let q = prefix_length t.1 before t.4.0 in
    let n : length t.1 ≡ length t.0 + length (tagged 0 t.3.entries) = ap length t.3.puts.1 ∙ length-append t.0 (tagged 0 t.3.entries) in
    let mid : before ≡ t.0 = prefix_whole before t.0 t.3.puts.0 (omega (arith, p, q, n)) in
    let next : t.1 ≡ before = prefix_whole t.1 before t.4.0 (omega (arith, p, q, n)) in
    ap (λ (f : List Made). (turn small [] (course_from (past_in f)) a1).past) mid ∙ (ap (λ (course : Course). course.past) t.3.run ∙ ap past_in next)

-- a turn enters something
pub not_an_empty_turn : (was now : List ℕ) → Turns Whole small [] 0 (a1 ∷ []) decided was decided now → ⊥
not_an_empty_turn was now t = absurd (omega (arith, ap length (stood_still decided was now t)))

-- the switch's turn met a full journal
abbrev MetFull : List Made → List ℕ → List Made → List ℕ → Type 0
MetFull before was after now = (seen : List Made) × Enters (λ past. part_of Whole small [] (course_from past) a1) Full 0 seen before was after now

-- as many as the journal had room for: then it is full
pub turned_on : Turned On Whole small [] 0 (a1 ∷ []) decided (0 ∷ []) turned (0 ∷ 2 ∷ 3 ∷ 4 ∷ 5 ∷ 6 ∷ [])
turned_on = one_turn

pub turned_full : (after : List Made) (now : List ℕ) → MetFull decided (0 ∷ []) after now → Turned Full Whole small [] 0 (a1 ∷ []) decided (0 ∷ []) after now
turned_full after now met = record { done = []; last = a1; begins = ([], refl); mid = decided; got = 0 ∷ []; turns = (([], refl), refl); seen = met.0; enters = met.1 }

pub not_turned_full : Turned Full Whole small [] 0 (a1 ∷ []) decided (0 ∷ []) turned (0 ∷ 2 ∷ 3 ∷ 4 ∷ 5 ∷ 6 ∷ []) → ⊥
not_turned_full t = absurd (omega (arith, t.enters.full refl))

-- where there is no entity, no event met a full journal
pub not_turned_of_none : (after : List Made) (now : List ℕ) → Turned Full Whole small [] 0 [] decided (0 ∷ []) after now → ⊥
not_turned_of_none after now t =
    let ends = length-append (t.done ++ t.last ∷ []) t.begins.0 in
    absurd (omega (arith, ends, ap length t.begins.1, length-append t.done (t.last ∷ [])))

-- one turn was done, and the next met a full journal
pub full_behind_a_turn : (after : List Made) (now : List ℕ) → MetFull turned (0 ∷ 2 ∷ 3 ∷ 4 ∷ 5 ∷ 6 ∷ []) after now → ToFull Whole small [] 0 (a1 ∷ a1 ∷ []) decided (0 ∷ []) after now
full_behind_a_turn after now met =
    record { done = a1 ∷ []; last = a1; begins = ([], refl); mid = turned; got = 0 ∷ 2 ∷ 3 ∷ 4 ∷ 5 ∷ 6 ∷ []; turns = one_turn; seen = met.0; enters = met.1 }

-- a journal that has room behind the turn, or that does not go on from what the pass had seen
pub not_full_behind_a_turn : ToFull Whole small [] 0 (a1 ∷ a1 ∷ []) decided (0 ∷ []) turned (0 ∷ 2 ∷ 3 ∷ 4 ∷ 5 ∷ 6 ∷ []) → ⊥
not_full_behind_a_turn t = absurd (omega (arith, t.enters.full refl))

pub not_full_elsewhere : (after : List Made) (was now : List ℕ) → IsPrefix turned after → ToFull Whole small [] 0 (a1 ∷ a1 ∷ []) (made 5 idle ∷ []) was after now → ⊥
not_full_elsewhere after was now p t =
    let mid = turns_go_on t.done (made 5 idle ∷ []) t.mid was t.got t.turns in
    let seen = prefix_trans (made 5 idle ∷ []) t.mid t.seen mid t.enters.puts.0 in
    let last = prefix_trans (made 5 idle ∷ []) t.seen after seen (tagged 0 t.enters.entries, sym t.enters.puts.1) in
    let there = prefix_shorter (made 5 idle ∷ []) turned after last p (omega arith) in
    absurd (omega (arith, ap (λ (f : List Made). maker f 0) there.1))

-- Rounds

-- the switch is not settled behind the verdict, and is behind its turn
settled_by_its_turn : (unsettled small (past_in proposed) ≡ []) × (unsettled small (past_in decided) ≡ a1 ∷ []) × (unsettled small (past_in turned) ≡ [])
settled_by_its_turn = (refl, refl, refl)

pub a_round : RoundOf Whole small [] 0 decided (0 ∷ []) turned (0 ∷ 2 ∷ 3 ∷ 4 ∷ 5 ∷ 6 ∷ [])
a_round = (decided, ([], refl), one_turn)

-- of a pass that had seen less
pub a_round_from_less : RoundOf Whole small [] 0 proposed (0 ∷ []) turned (0 ∷ 2 ∷ 3 ∷ 4 ∷ 5 ∷ 6 ∷ [])
a_round_from_less = (decided, (made 1 (entry_after small (past_in proposed) Check) ∷ [], refl), one_turn)

-- where all is settled a round has no turns
pub a_round_of_none : RoundOf Whole small [] 0 turned (0 ∷ []) turned (0 ∷ [])
a_round_of_none = (turned, ([], refl), (([], refl), refl))

-- the switch was left out
pub not_left_out : (was now : List ℕ) → RoundOf Whole small [] 0 decided was decided now → ⊥
not_left_out was now r =
    let back = turns_go_on (unsettled small (past_in r.0)) r.0 decided was now r.2 in
    let same : r.0 ≡ decided = sym (prefix_whole decided r.0 r.1 (prefix_length r.0 decided back)) in
    not_an_empty_turn was now (subst (λ (f : List Made). Turns Whole small [] 0 (unsettled small (past_in f)) f was decided now) same r.2)

-- the front that was seen does not go on from what the pass had seen
pub not_a_round_elsewhere : (was now : List ℕ) → RoundOf Whole small [] 0 (made 5 idle ∷ []) was turned now → ⊥
not_a_round_elsewhere was now r =
    let there = prefix_trans (made 5 idle ∷ []) r.0 turned r.1 (turns_go_on (unsettled small (past_in r.0)) r.0 turned was now r.2) in
    absurd (omega (arith, ap (λ (f : List Made). maker f 0) there.1))

-- what is told: how many are left
pub told_none_left : RoundTold (Did 0) Whole small [] 0 decided (0 ∷ []) turned (0 ∷ 2 ∷ 3 ∷ 4 ∷ 5 ∷ 6 ∷ [])
told_none_left = (a_round, refl)

pub not_told_one_left : RoundTold (Did 1) Whole small [] 0 decided (0 ∷ []) turned (0 ∷ 2 ∷ 3 ∷ 4 ∷ 5 ∷ 6 ∷ []) → ⊥
not_told_one_left r = let one : 1 ≡ 0 = r.1 in absurd (omega (arith, one))

pub not_told_without_it : RoundTold (Did 1) Whole small [] 0 decided (0 ∷ []) decided (0 ∷ []) → ⊥
not_told_without_it r = not_left_out (0 ∷ []) (0 ∷ []) r.0

-- or that the journal is full, and of how many entries
pub told_full : (after : List Made) (now : List ℕ) → MetFull decided (0 ∷ []) after now → RoundTold (JournalFull 200000) Whole small [] 0 decided (0 ∷ []) after now
told_full after now met = ((decided, ([], refl), turned_full after now met), refl)

pub not_told_full : RoundTold (JournalFull 200000) Whole small [] 0 decided (0 ∷ []) turned (0 ∷ 2 ∷ 3 ∷ 4 ∷ 5 ∷ 6 ∷ []) → ⊥
not_told_full r = absurd (omega (arith, r.0.2.enters.full refl))

pub not_full_of_less : (after : List Made) → RoundTold (JournalFull 7) Whole small [] 0 decided (0 ∷ []) after (0 ∷ []) → ⊥
not_full_of_less after r = absurd (omega (arith, r.1))

-- several
pub no_rounds : RoundsMade small [] 0 0 proposed (0 ∷ []) decided (0 ∷ [])
no_rounds = ((made 1 (entry_after small (past_in proposed) Check) ∷ [], refl), refl)

pub one_round : RoundsMade small [] 0 1 decided (0 ∷ []) turned (0 ∷ 2 ∷ 3 ∷ 4 ∷ 5 ∷ 6 ∷ [])
one_round = (turned, 0 ∷ 2 ∷ 3 ∷ 4 ∷ 5 ∷ 6 ∷ [], a_round, (([], refl), refl))

-- the second has nothing left to do
pub two_rounds : RoundsMade small [] 0 2 decided (0 ∷ []) turned (0 ∷ 2 ∷ 3 ∷ 4 ∷ 5 ∷ 6 ∷ [])
two_rounds = (turned, 0 ∷ 2 ∷ 3 ∷ 4 ∷ 5 ∷ 6 ∷ [], a_round, (turned, 0 ∷ 2 ∷ 3 ∷ 4 ∷ 5 ∷ 6 ∷ [], (turned, ([], refl), (([], refl), refl)), (([], refl), refl)))

pub not_without_rounds : RoundsMade small [] 0 0 decided (0 ∷ []) turned (0 ∷ 2 ∷ 3 ∷ 4 ∷ 5 ∷ 6 ∷ []) → ⊥
not_without_rounds r = absurd (cc (r.1))

pub not_back_without_rounds : RoundsMade small [] 0 0 decided (0 ∷ []) proposed (0 ∷ []) → ⊥
not_back_without_rounds r = absurd (omega (arith, prefix_length decided proposed r.0))

pub not_an_empty_round : (was now : List ℕ) → RoundsMade small [] 0 1 decided was decided now → ⊥
not_an_empty_round was now r =
    let round = r.2 in
    let there = prefix_trans decided round.0 r.0 round.1 (turns_go_on (unsettled small (past_in round.0)) round.0 r.0 was r.1 round.2) in
    let same : r.0 ≡ decided = sym (prefix_whole decided r.0 there (prefix_length r.0 decided r.3.0)) in
    not_left_out was r.1 (subst (λ (f : List Made). RoundOf Whole small [] 0 decided was f r.1) same round)

-- A settle

-- as many rounds as were asked, or fewer since all was settled behind them
pub as_many_as_asked : Settles small [] 0 1 decided (0 ∷ []) turned (0 ∷ 2 ∷ 3 ∷ 4 ∷ 5 ∷ 6 ∷ [])
as_many_as_asked = (1, omega arith, turned, one_round, ([], refl), inl refl)

pub settled_before_the_last : Settles small [] 0 9 decided (0 ∷ []) turned (0 ∷ 2 ∷ 3 ∷ 4 ∷ 5 ∷ 6 ∷ [])
settled_before_the_last = (1, omega arith, turned, one_round, ([], refl), inr (turned, ([], refl), ([], refl), refl))

no_round_of_none : (k : ℕ) (mid : List Made) → k ≤ 0 → RoundsMade small [] 0 k decided (0 ∷ []) mid (0 ∷ 2 ∷ 3 ∷ 4 ∷ 5 ∷ 6 ∷ []) → ⊥
no_round_of_none zero mid le r = absurd (cc (r.1))
no_round_of_none (suc k) mid le r = absurd (omega (arith, le))

-- a round more than was asked
pub not_a_round_more : Settles small [] 0 0 decided (0 ∷ []) turned (0 ∷ 2 ∷ 3 ∷ 4 ∷ 5 ∷ 6 ∷ []) → ⊥
not_a_round_more s = no_round_of_none s.0 s.2 s.1 s.3

-- all was settled behind the turn
pub settled_behind_it : WasSettled small turned turned
settled_behind_it = (turned, ([], refl), ([], refl), refl)

-- the switch was settled before the verdict alone, and that front does not go on from the verdict
pub not_settled_before_it : WasSettled small decided decided → ⊥
not_settled_before_it s =
    let same : s.0 ≡ decided = sym (prefix_whole decided s.0 s.1 (prefix_length s.0 decided s.2)) in
    let none : a1 ∷ [] ≡ [] = subst (λ (f : List Made). unsettled small (past_in f) ≡ []) same s.3 in
    absurd (cc none)

-- a round less, though the switch was not settled
no_round_less : (k : ℕ) (mid : List Made) → k ≤ 1 → RoundsMade small [] 0 k decided (0 ∷ []) mid (0 ∷ []) → IsPrefix mid decided → ((k ≡ 1) ⊎ WasSettled small mid decided) → ⊥
no_round_less zero mid le r p (inl e) = absurd (omega (arith, e))
no_round_less zero mid le r p (inr s) = not_settled_before_it (s.0, prefix_trans decided mid s.0 r.0 s.1, s.2, s.3)
no_round_less (suc zero) mid le r p well = not_an_empty_round (0 ∷ []) (0 ∷ []) (rounds_later small [] 0 1 decided mid decided (0 ∷ []) (0 ∷ []) r p)
no_round_less (suc (suc k)) mid le r p well = absurd (omega (arith, le))

pub not_a_round_less : Settles small [] 0 1 decided (0 ∷ []) decided (0 ∷ []) → ⊥
not_a_round_less s = no_round_less s.0 s.2 s.1 s.3 s.4 s.5

pub settled_on : Settled On small [] 0 1 decided (0 ∷ []) turned (0 ∷ 2 ∷ 3 ∷ 4 ∷ 5 ∷ 6 ∷ [])
settled_on = as_many_as_asked

pub settled_full : (after : List Made) → length after ≡ MAX_ENTRIES → Settled Full small [] 0 1 decided (0 ∷ []) after (0 ∷ [])
settled_full after full = full

pub not_settled_full : Settled Full small [] 0 1 decided (0 ∷ []) turned (0 ∷ 2 ∷ 3 ∷ 4 ∷ 5 ∷ 6 ∷ []) → ⊥
not_settled_full s = absurd (omega (arith, s))

-- Checks for a ticket

-- pass 0 decides its proposal itself
abbrev pub checked : List Made
checked = then_by proposed 0 (Check ∷ [])

abbrev verdict : Entry
verdict = entry_after small (past_in proposed) Check

pub own_check : WentOn small 1 0 proposed (0 ∷ []) checked (0 ∷ 1 ∷ [])
own_check = record {
  seen = proposed;
  later = ([], refl);
  within = (made 0 verdict ∷ [], refl);
  pending = omega arith;
  near = omega arith;
  decided = omega arith;
  made = inr (([], refl), refl, refl);
}

-- or another pass does
pub anothers_check : WentOn small 1 0 proposed (0 ∷ []) decided (0 ∷ [])
anothers_check = record { seen = proposed; later = ([], refl); within = (made 1 verdict ∷ [], refl); pending = omega arith; near = omega arith; decided = omega arith; made = inl refl }

-- the front that had been seen does not begin the front that is seen now
pub not_from_elsewhere : WentOn small 1 0 (made 5 idle ∷ []) (0 ∷ []) checked (0 ∷ 1 ∷ []) → ⊥
not_from_elsewhere w = absurd (omega (arith, ap (λ (f : List Made). maker f 0) (prefix_trans (made 5 idle ∷ []) w.seen checked w.later w.within).1))

-- the ticket was not pending
pub not_for_no_ticket : WentOn small 0 0 proposed (0 ∷ []) checked (0 ∷ 1 ∷ []) → ⊥
not_for_no_ticket w = absurd (omega (arith, w.pending))

-- the ticket is more than 64 above the last that was decided
pub not_for_a_far_ticket : WentOn small 66 0 proposed (0 ∷ []) checked (0 ∷ 1 ∷ []) → ⊥
not_for_a_far_ticket w = let one : length (deciders (past_in w.seen)) < 1 = w.decided in absurd (omega (arith, one, w.near))

-- no verdict came
pub not_without_a_verdict : WentOn small 1 0 proposed (0 ∷ []) proposed (0 ∷ []) → ⊥
not_without_a_verdict w = let none : length (deciders (past_in w.seen)) < 0 = w.decided in absurd (omega (arith, none))

-- the check is in the journal, and another place in the list
abbrev misplaced : List ℕ
misplaced = 0 ∷ 9 ∷ []

no_other_place : (seen : List Made) → IsPrefix seen checked → ((misplaced ≡ 0 ∷ []) ⊎ Puts 0 (entry_after small (past_in seen) Check ∷ []) seen seen (0 ∷ []) checked misplaced) → ⊥
no_other_place seen p (inl e) = absurd (cc e)
no_other_place seen p (inr q) = let place : 9 ≡ length seen = cc (q.2) in absurd (omega (arith, place, prefix_length seen checked p))

pub not_at_another_place : WentOn small 1 0 proposed (0 ∷ []) checked misplaced → ⊥
not_at_another_place w = no_other_place w.seen w.within w.made

-- One check's answers

pub over : ChecksFor Over small 1 0 proposed (0 ∷ []) decided (0 ∷ [])
over = ((made 1 verdict ∷ [], refl), refl, omega arith)

pub not_over_and_back : ChecksFor Over small 1 0 turned (0 ∷ []) decided (0 ∷ []) → ⊥
not_over_and_back c = absurd (omega (arith, prefix_length turned decided c.0))

pub not_over_with_a_place : ChecksFor Over small 1 0 proposed (0 ∷ []) decided (0 ∷ 1 ∷ []) → ⊥
not_over_with_a_place c = absurd (cc (c.1))

pub not_over_while_pending : ChecksFor Over small 1 0 proposed (0 ∷ []) proposed (0 ∷ []) → ⊥
not_over_while_pending c = let none : 1 ≤ 0 = c.2 in absurd (omega (arith, none))

pub went : ChecksFor Went small 1 0 proposed (0 ∷ []) checked (0 ∷ 1 ∷ [])
went = own_check

pub not_went : ChecksFor Went small 1 0 proposed (0 ∷ []) proposed (0 ∷ []) → ⊥
not_went w = not_without_a_verdict w

pub full_journal : (after : List Made) → length after ≡ MAX_ENTRIES → ChecksFor full_before small 1 0 proposed (0 ∷ []) after (0 ∷ [])
full_journal after full = full

pub not_full_journal : ChecksFor full_before small 1 0 proposed (0 ∷ []) proposed (0 ∷ []) → ⊥
not_full_journal c = absurd (omega (arith, c))

-- Several checks

-- two proposals of pass 0, of which the first is decided by it, and then the second
abbrev two : List Made
two = then_by proposed 0 (Submit (app 0) (firmware 3) ∷ [])

abbrev first : List Made
first = then_by two 0 (Check ∷ [])

abbrev second : List Made
second = then_by first 0 (Check ∷ [])

pub no_checks : Waits small 1 0 0 proposed (0 ∷ []) decided (0 ∷ [])
no_checks = ((made 1 verdict ∷ [], refl), refl)

pub one_check : Waits small 1 0 1 proposed (0 ∷ []) checked (0 ∷ 1 ∷ [])
one_check = (checked, 0 ∷ 1 ∷ [], own_check, (([], refl), refl))

first_check : WentOn small 2 0 two (0 ∷ 1 ∷ []) first (0 ∷ 1 ∷ 2 ∷ [])
first_check = record {
  seen = two;
  later = ([], refl);
  within = (made 0 (entry_after small (past_in two) Check) ∷ [], refl);
  pending = omega arith;
  near = omega arith;
  decided = omega arith;
  made = inr (([], refl), refl, refl);
}

second_check : WentOn small 2 0 first (0 ∷ 1 ∷ 2 ∷ []) second (0 ∷ 1 ∷ 2 ∷ 3 ∷ [])
second_check = record {
  seen = first;
  later = ([], refl);
  within = (made 0 (entry_after small (past_in first) Check) ∷ [], refl);
  pending = omega arith;
  near = omega arith;
  decided = omega arith;
  made = inr (([], refl), refl, refl);
}

pub two_checks : Waits small 2 0 2 two (0 ∷ 1 ∷ []) second (0 ∷ 1 ∷ 2 ∷ 3 ∷ [])
two_checks = (first, 0 ∷ 1 ∷ 2 ∷ [], first_check, (second, 0 ∷ 1 ∷ 2 ∷ 3 ∷ [], second_check, (([], refl), refl)))

-- without a check there is no place
pub not_a_place_without_checks : Waits small 1 0 0 proposed (0 ∷ []) checked (0 ∷ 1 ∷ []) → ⊥
not_a_place_without_checks w = absurd (cc (w.1))

pub not_back_without_checks : Waits small 1 0 0 decided (0 ∷ []) proposed (0 ∷ []) → ⊥
not_back_without_checks w = absurd (omega (arith, prefix_length decided proposed w.0))

-- a check that decides nothing
pub not_a_check_for_nothing : Waits small 1 0 1 [] [] [] [] → ⊥
not_a_check_for_nothing w =
    let empty : w.0 ≡ [] = prefix_whole w.0 [] w.3.0 (omega arith) in
    let none : length (deciders (past_in w.2.seen)) < 0 = subst (λ (f : List Made). length (deciders (past_in w.2.seen)) < length (deciders (past_in f))) empty w.2.decided in
    absurd (omega (arith, none))

-- An await

pub waits_out : WaitsOut small 2 0 two (0 ∷ 1 ∷ []) second (0 ∷ 1 ∷ 2 ∷ 3 ∷ [])
waits_out = (2, omega arith, two_checks, omega arith)

-- of a ticket that was decided before
pub waits_for_nothing : WaitsOut small 1 0 decided (0 ∷ []) decided (0 ∷ [])
waits_for_nothing = (0, omega arith, (([], refl), refl), omega arith)

-- the wait ended while the ticket was pending
pub not_after_one_check : WaitsOut small 2 0 two (0 ∷ 1 ∷ []) first (0 ∷ 1 ∷ 2 ∷ []) → ⊥
not_after_one_check w = let early : 2 ≤ 1 = w.3 in absurd (omega (arith, early))

pub awaits : Awaits (Some 2) small 0 two (0 ∷ 1 ∷ []) second (0 ∷ 1 ∷ 2 ∷ 3 ∷ [])
awaits = waits_out

-- without a ticket nothing is entered
pub awaits_no_ticket : Awaits None small 0 proposed [] decided []
awaits_no_ticket = ((made 1 verdict ∷ [], refl), refl)

pub not_a_check_for_no_ticket : Awaits None small 0 proposed [] checked (1 ∷ []) → ⊥
not_a_check_for_no_ticket a = absurd (cc (a.1))

pub not_back_for_no_ticket : Awaits None small 0 decided [] proposed [] → ⊥
not_back_for_no_ticket a = absurd (omega (arith, prefix_length decided proposed a.0))

pub awaited_on : Awaited On (Some 2) small 0 two (0 ∷ 1 ∷ []) second (0 ∷ 1 ∷ 2 ∷ 3 ∷ [])
awaited_on = waits_out

pub awaited_full : (after : List Made) → length after ≡ MAX_ENTRIES → Awaited Full (Some 2) small 0 two (0 ∷ 1 ∷ []) after (0 ∷ 1 ∷ [])
awaited_full after full = full

pub not_awaited_full : Awaited Full (Some 2) small 0 two (0 ∷ 1 ∷ []) first (0 ∷ 1 ∷ 2 ∷ []) → ⊥
not_awaited_full a = absurd (omega (arith, a))
