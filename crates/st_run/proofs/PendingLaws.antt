-- Nothing is pending behind the awaits of all passes.
use Rattle.std.proofs.Common.{◌≡◌, ⊎_elim, ℕ, zero, suc, ◌<◌, ◌≤◌, List, [], ◌∷◌, ◌++◌, length, map, refl, ap, sym, subst, ◌∙◌, arith, append_assoc}
use Rattle.std.specs.Prelude.{true, Option, Some, None, reverse}
use Rattle.std.specs.Option.{option_or}
use Rattle.std.proofs.Math.ListN.{drop_of_length-le}
use Rattle.std.proofs.lemmas.List.{map-append, reverse-append, reverse-reverse}
use mathlib.Core.List.{IsPrefix}
use Rattle.st_net.specs.Groups.{Group}
use Rattle.st_net.proofs.Tests.{get_some}
use Rattle.st_event.specs.declared.act.Act.{Act}
use Rattle.st_event.specs.declared.act.Act.TheVariants.{Await}
use Rattle.st_event.specs.declared.event.Event.{Event}
use Rattle.st_event.specs.declared.event.Event.TheVariants.{Submit, Check, Lock as lock_event, Unlock as unlock_event, Send, Deliver, Finish, Report, Hear, Fail as fail_event, Withdraw}
use Rattle.st_event.specs.declared.journal.Entry.{Entry}
use Rattle.st_event.specs.Legal.{IsLegal}
use Rattle.st_event.specs.Proposals.{deciders, pending, proposals}
use Rattle.st_event.proofs.Standings.{length-deciders}
use Rattle.st_wire.specs.declared.line.WireLine.{WireLine}
use Rattle.st_service.specs.Awaits.{Awaits}
use Rattle.st_service.specs.Closed.{IsWhole}
use Rattle.st_run.specs.Jobs.{HaveRun, awaits_on}
use Rattle.st_run.specs.Requests.{is_submit}
use Rattle.st_run.specs.Workers.{is_workers}
use Rattle.st_service.specs.Kept.{AllWithin}
use Rattle.st_service.specs.Made.{Made, past_in}
use Rattle.st_service.specs.Passes.{Holder, front_at, mine_at}
use Rattle.st_service.specs.Tickets.{last_ticket, latest_in}
use Rattle.st_service.specs.Works.{IsDecided}
use Rattle.st_service.proofs.AwaitLaws.{decided_later}
use Rattle.st_run.proofs.CommandEntries.{awaits_checked}
use Rattle.st_run.proofs.DidLaws.{Each, Ended, GoesOn, ended, did_at, did_goes, did_others, awaits_around}
use Rattle.st_run.proofs.GivenTickets.{checks_none, last_append}
use Rattle.st_run.proofs.OwnEntries.{entries_at, entries_longer}
use Rattle.st_run.proofs.OwnTickets.{own, entries_positions, latest_is, newest}
use Rattle.st_run.proofs.RunEntries.{each_reverse}
use Rattle.st_run.proofs.WorkerEntries.{IsByOrWorkers, scripts_or_workers}

low_within : (lo hi : ℕ) (ns : List ℕ) → AllWithin lo hi ns → AllWithin 0 hi ns
low_within lo hi [] w = tt
low_within lo hi (n ∷ ns) w = (omega arith, w.1, low_within lo hi ns w.2)

-- the places of a pass that began with none
goes_within : (n : ℕ) (old new : Holder) → mine_at old.mines n ≡ [] → GoesOn n old new → AllWithin 0 (length (front_at new.fronts n)) (mine_at new.mines n)
goes_within n old new none g =
    let is : mine_at new.mines n ≡ g.grows.1.0 = g.grows.1.1 ∙ ap (λ (l : List ℕ). l ++ g.grows.1.0) none in
    subst (AllWithin 0 (length (front_at new.fronts n))) (sym is) (low_within (length (front_at old.fronts n)) (length (front_at new.fronts n)) g.grows.1.0 g.grows.1.3)

or_none : (o : Option ℕ) → option_or None o ≡ o
or_none (Some n) = refl
or_none None = refl

-- an await on a pass's latest ticket, which no check changes
awaited : (g : Group) (number : ℕ) (before : List Made) (was : List ℕ) (after : List Made) (now : List ℕ) (ticket : ℕ) (latest : Option ℕ) → latest_in before was ≡ latest → AllWithin 0 (length before) was → last_ticket (entries_at after now) ≡ Some ticket
    → Awaits latest g number before was after now → IsDecided ticket (past_in after)
awaited g number before was after now ticket latest at within last a = by latest at a
  where
    same : (o : Option ℕ) → latest_in before was ≡ o → Awaits o g number before was after now → o ≡ Some ticket
    same o is w =
        let c = awaits_checked g number o before was after now w in
        sym is ∙ (latest_is before was ∙ (sym (or_none (last_ticket (entries_at before was)))
        ∙ (ap (λ (x : Option ℕ). option_or x (last_ticket (entries_at before was))) (sym (checks_none g c.entries c.each))
        ∙ (sym (last_append (entries_at before was) c.entries) ∙ (ap last_ticket (sym (c.adds.made within)) ∙ last)))))

    by : (o : Option ℕ) → latest_in before was ≡ o → Awaits o g number before was after now → IsDecided ticket (past_in after)
    by (Some t) is w = let e : Some t ≡ Some ticket = same (Some t) is w in let n : t ≡ ticket = cc e in subst (λ (k : ℕ). IsDecided k (past_in after)) n w.3
    by None is w = let e : None ≡ Some ticket = same None is w in absurd (cc e)

-- the last ticket of a pass's entries is decided when the pass's script and the awaits are done
pub own_decided : (groups : ℕ → Group) (lines : ℕ → List WireLine) (rooms number n : ℕ) (acts : List Act) (front : List Made) (p : Holder) (ticket : ℕ) → n < rooms → Ended groups lines rooms number n acts front p → last_ticket (own number front) ≡ Some ticket
    → ticket ≤ length (deciders (past_in front))
own_decided groups lines rooms number n acts front p ticket within e last =
    let a = awaits_around rooms n within in
    let split : acts ++ awaits_on rooms ≡ (acts ++ awaits_on n) ++ Await n ∷ a.behind = ap (λ (l : List Act). acts ++ l) a.are ∙ sym (append_assoc acts (awaits_on n) (Await n ∷ a.behind)) in
    let d = did_at groups lines (acts ++ awaits_on rooms) (acts ++ awaits_on n) (Await n) a.behind e.start p split e.did in
    let o = did_others groups lines n a.behind d.mid p a.apart d.behind_it in
    let old = goes_within n e.start d.old (e.fresh.unmade n) (did_goes groups lines n (acts ++ awaits_on n) e.start d.old d.before_it) in
    let all = goes_within n e.start p (e.fresh.unmade n) (did_goes groups lines n (acts ++ awaits_on rooms) e.start p e.did) in
    let here : entries_at (front_at d.mid.fronts n) (mine_at d.mid.mines n) ≡ own number front =
    ap (λ (f : List Made). entries_at f (mine_at d.mid.mines n)) (sym o.0)
    ∙ (ap (entries_at (front_at p.fronts n)) (sym o.1)
    ∙ (sym (entries_longer (front_at p.fronts n) front (mine_at p.mines n) e.stands.begins all)
    ∙ (ap (entries_at front) e.made ∙ entries_positions number [] front))) in
    let decided : IsDecided ticket (past_in (front_at d.mid.fronts n)) = awaited (groups n) d.old.number (front_at d.old.fronts n) (mine_at d.old.mines n) (front_at d.mid.fronts n) (mine_at d.mid.mines n) ticket
    (latest_in (front_at d.old.fronts n) (mine_at d.old.mines n)) refl old (ap last_ticket here ∙ last) d.does.done.entered in
    let grows = decided_later (front_at d.mid.fronts n) front (subst (λ (f : List Made). IsPrefix f front) o.0 e.stands.begins) in
    omega (arith, decided, grows)

map_reverse : (ms : List Made) → map (λ (m : Made). m.entry) (reverse ms) ≡ reverse (map (λ (m : Made). m.entry) ms)
map_reverse [] = refl
map_reverse (m ∷ ms) =
    ap (map (λ (x : Made). x.entry)) (reverse-append (m ∷ []) ms)
    ∙ (map-append (λ (x : Made). x.entry) (reverse ms) (m ∷ [])
    ∙ (ap (λ (l : List Entry). l ++ m.entry ∷ []) (map_reverse ms) ∙ sym (reverse-append (m.entry ∷ []) (map (λ (x : Made). x.entry) ms))))

-- workers propose nothing

abbrev Proposes : ℕ → Made → Type 0
Proposes count m = is_submit m.entry.event ≡ true → m.by < count

never_proposed : (event : Event) → is_workers event ≡ true → is_submit event ≡ true → ⊥
never_proposed (Submit app rows) w s = cc w
never_proposed Check w s = cc s
never_proposed (lock_event app e prio) w s = cc w
never_proposed (unlock_event app e prio) w s = cc w
never_proposed (Send e) w s = cc s
never_proposed (Deliver n) w s = cc s
never_proposed (Finish e) w s = cc s
never_proposed (Report e) w s = cc s
never_proposed (Hear n) w s = cc s
never_proposed (Withdraw e) w s = cc s
never_proposed (fail_event e vals health) w s = cc w

scripts_propose : (count : ℕ) (ms : List Made) → Each (IsByOrWorkers count) ms → Each (Proposes count) ms
scripts_propose count [] e = tt
scripts_propose count (m ∷ ms) e = (
  λ submits. ⊎_elim
      (λ (t : m.by < count). t)
      (λ (t : is_workers m.entry.event ≡ true). absurd (never_proposed m.entry.event t submits))
      e.0,
  scripts_propose count ms e.1,
)

-- each ticket of the journal is decided
all_decided : (groups : ℕ → Group) (lines : ℕ → List WireLine) (rooms : ℕ) (scripts : List (List Act)) (passes : List Holder) (n : ℕ) (entries : List Entry) (front : List Made) (count : ℕ) → length (proposals (past_in front)) ≡ count
    → HaveRun groups lines rooms scripts passes → n < rooms → IsWhole (groups n) passes n entries front → count ≤ length (deciders (past_in front))
all_decided groups lines rooms scripts passes n entries front zero is run within whole = omega arith
all_decided groups lines rooms scripts passes n entries front (suc k) is run within whole =
    let ms = reverse front in
    let past : map (λ (m : Made). m.entry) ms ≡ past_in front = map_reverse front in
    let b = newest (groups n) (length scripts) ms (subst (IsLegal (groups n)) (sym past) whole.legal) (omega (arith, is, ap (λ (l : List Entry). length (proposals l)) past))
    (each_reverse (Proposes (length scripts)) front (scripts_propose (length scripts) front (scripts_or_workers (groups n) passes n entries front (length scripts) run.workers whole))) in
    let p = get_some passes b.0 (omega (arith, b.1, run.count)) in
    let acts = get_some scripts b.0 b.1 in
    let e = ended groups lines rooms scripts passes n entries front b.0 acts.0 p.0 run whole acts.1 p.1 in
    let last : last_ticket (own b.0 front) ≡ Some (suc k) = ap (λ (l : List Made). last_ticket (own b.0 l)) (sym (reverse-reverse front)) ∙ (b.2 ∙ ap Some (ap (λ (l : List Entry). length (proposals l)) past ∙ is)) in
    own_decided groups lines rooms b.0 n acts.0 front p.0 (suc k) within e last

pub none_pending : (groups : ℕ → Group) (lines : ℕ → List WireLine) (rooms : ℕ) (scripts : List (List Act)) (passes : List Holder) (n : ℕ) (entries : List Entry) (front : List Made)
    → HaveRun groups lines rooms scripts passes → n < rooms → IsWhole (groups n) passes n entries front → pending (reverse entries) ≡ []
none_pending groups lines rooms scripts passes n entries front run within whole =
    let all = all_decided groups lines rooms scripts passes n entries front (length (proposals (past_in front))) refl run within whole in
    ap pending (sym whole.journal) ∙ drop_of_length-le (proposals (past_in front)) (omega (arith, all, length-deciders (past_in front)))
