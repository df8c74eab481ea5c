-- Along a chain of commands: a request stands behind the decisions that were awaited before it, and a settle behind what was done before it.
use Rattle.std.proofs.Common.{◌≡◌, ℕ, suc, ◌<◌, ◌≤◌, Bool, true, false, List, [], ◌∷◌, ◌++◌, length, refl, ap, sym, subst, ◌∙◌, arith}
use Rattle.std.specs.Prelude.{All, Option, Some, None, reverse, ◌==◌, if◌then◌else◌}
use Rattle.std.specs.List.{filter}
use Rattle.std.proofs.lemmas.List.{length-map}
use Rattle.std.proofs.lemmas.List.Elements.{All-nil, All-cons, All-weaker}
use mathlib.Core.List.{IsPrefix}
use Rattle.st_net.specs.declared.entity.AppId.{AppId}
use Rattle.st_net.specs.Groups.{Group}
use Rattle.st_net.proofs.Tests.{equal_numbers}
use Rattle.st_event.specs.declared.act.Act.{Act}
use Rattle.st_event.specs.declared.act.Act.TheVariants.{Propose, Await, Settle, Lock, Unlock, Read, ReadAt, Fail, Poll, Span}
use Rattle.st_event.specs.declared.journal.Entry.{Entry}
use Rattle.st_wire.specs.declared.line.WireLine.{WireLine}
use Rattle.st_event.proofs.Prefixes.{prefix_trans, prefix_length}
use Rattle.st_world.specs.Acts.{group_number}
use Rattle.st_service.specs.Awaits.{Awaits}
use Rattle.st_run.specs.CarriedOn.{EachAct, IsSettledIn, done_by, first_of}
use Rattle.st_run.specs.Jobs.{Does, Did}
use Rattle.st_service.specs.Made.{Made, past_in}
use Rattle.st_service.specs.Passes.{Holder, front_at, mine_at}
use Rattle.st_run.specs.Requests.{awaited_by, decision_of, is_asked_by, is_await, latest_ticket, request_number, requests_by, with_ticket}
use Rattle.st_service.specs.Tickets.{latest_in}
use Rattle.st_service.specs.Turns as turns
use Rattle.st_service.specs.Works.{IsDecided}
use Rattle.st_run.proofs.DidLaws.{did_goes, did_last, does_goes, goes_front}
use Rattle.st_run.proofs.EntryNumbers.{first_begins, greatest_within, number_passes, number_reaches, past_begins}
use Rattle.st_service.proofs.HoldLaws.{length_past}
use Rattle.st_run.proofs.LatestTickets.{HasAsked, decision_within, entries_begin, entries_in, latest_told}
use Rattle.st_run.proofs.SettledTurns.{journal_in, settles_in}

-- what holds of each command where it is done, holds of each with the commands before it. The commands stand newest first
pub each_done : (groups : ℕ → Group) (lines : ℕ → List WireLine) (P : List Act → Act → Type 0) (start last : Holder)
    → ((before : List Act) (act : Act) (behind : List Act) (old new : Holder) → Did groups lines (reverse before) start old → Does groups lines act old new → Did groups lines behind new last → P before act)
    → (acts behind : List Act) (mid : Holder) → Did groups lines (reverse acts) start mid → Did groups lines behind mid last → EachAct P acts
each_done groups lines P start last all [] behind mid d e = tt
each_done groups lines P start last all (act ∷ before) behind mid d e =
    let s = did_last groups lines before act start mid d in
    (all before act behind s.old mid s.did s.does e, each_done groups lines P start last all before (act ∷ behind) s.old s.did (mid, s.does, e))

-- an await decides the latest ticket of its pass

pub awaited_decides : (g : Group) (number : ℕ) (latest : Option ℕ) (t : ℕ) (before : List Made) (was : List ℕ) (after : List Made) (now : List ℕ) → latest ≡ Some t → Awaits latest g number before was after now → IsDecided t (past_in after)
awaited_decides g number None t before was after now is a = absurd cc
awaited_decides g number (Some u) t before was after now is a = let same : u ≡ t = cc is in subst (λ (n : ℕ). IsDecided n (past_in after)) same a.3

await_decides : (groups : ℕ → Group) (lines : ℕ → List WireLine) (n : ℕ) (act : Act) (old new : Holder) (t : ℕ) → is_await act ≡ true → group_number act ≡ n → Does groups lines act old new → latest_in (front_at old.fronts n) (mine_at old.mines n) ≡ Some t → IsDecided t (past_in (front_at new.fronts n))
await_decides groups lines n (Await m) old new t is here d latest =
    let entered : Awaits (latest_in (front_at old.fronts n) (mine_at old.mines n)) (groups n) old.number (front_at old.fronts n) (mine_at old.mines n) (front_at new.fronts n) (mine_at new.mines n) =
    subst (λ (k : ℕ). Awaits (latest_in (front_at old.fronts k) (mine_at old.mines k)) (groups k) old.number (front_at old.fronts k) (mine_at old.mines k) (front_at new.fronts k) (mine_at new.mines k)) here d.done.entered in
    awaited_decides (groups n) old.number (latest_in (front_at old.fronts n) (mine_at old.mines n)) t (front_at old.fronts n) (mine_at old.mines n) (front_at new.fronts n) (mine_at new.mines n) latest entered
await_decides groups lines n (Propose m rows) old new t is here d latest = absurd cc
await_decides groups lines n (Settle m rounds) old new t is here d latest = absurd cc
await_decides groups lines n (Lock m entity prio) old new t is here d latest = absurd cc
await_decides groups lines n (Unlock m entity prio) old new t is here d latest = absurd cc
await_decides groups lines n (Read m entity var) old new t is here d latest = absurd cc
await_decides groups lines n (ReadAt m version entity var) old new t is here d latest = absurd cc
await_decides groups lines n (Fail m entity health rows) old new t is here d latest = absurd cc
await_decides groups lines n (Poll m entity) old new t is here d latest = absurd cc
await_decides groups lines n (Span first first_rows second second_rows) old new t is here d latest = absurd cc

-- what holds of the tickets awaited before, and of the one that is awaited now, if there is one
pub adds_ticket : (P : ℕ → Type 0) (waits here : Bool) (latest : Option ℕ) (tickets : List ℕ) → All P tickets → (waits ≡ true → here ≡ true → (t : ℕ) → latest ≡ Some t → P t)
    → All P (if waits then (if here then with_ticket latest tickets else tickets) else tickets)
adds_ticket P false here latest tickets all one = all
adds_ticket P true false latest tickets all one = all
adds_ticket P true true None tickets all one = all
adds_ticket P true true (Some t) tickets all one = All-cons P t tickets (one refl refl t refl) all

-- a pass whose chain of commands is known to the journal of a group, at each moment
pub record AtEach (groups : ℕ → Group) (lines : ℕ → List WireLine) (app : AppId) (n : ℕ) (start last : Holder) (whole : List Made) : Type 0 where
  pub begins : IsPrefix (front_at last.fronts n) whole
  pub asked : (before behind : List Act) (mid : Holder) → Did groups lines before start mid → Did groups lines behind mid last → HasAsked app n before (front_at mid.fronts n) (mine_at mid.mines n)

front_begins : (groups : ℕ → Group) (lines : ℕ → List WireLine) (app : AppId) (n : ℕ) (start last : Holder) (whole : List Made) (behind : List Act) (mid : Holder)
    → AtEach groups lines app n start last whole → Did groups lines behind mid last → IsPrefix (front_at mid.fronts n) whole
front_begins groups lines app n start last whole behind mid a d = prefix_trans (front_at mid.fronts n) (front_at last.fronts n) whole (goes_front n mid last (did_goes groups lines n behind mid last d)) a.begins

-- the decisions that were awaited are within the front
pub awaited_within : (groups : ℕ → Group) (lines : ℕ → List WireLine) (app : AppId) (n : ℕ) (start last : Holder) (whole : List Made) → AtEach groups lines app n start last whole
    → (before behind : List Act) (mid : Holder) → Did groups lines (reverse before) start mid → Did groups lines behind mid last
    → All (λ t. decision_of t (entries_in whole) ≤ length (front_at mid.fronts n)) (awaited_by app n (entries_in whole) before)
awaited_within groups lines app n start last whole a [] behind mid d e = All-nil (λ t. decision_of t (entries_in whole) ≤ length (front_at mid.fronts n))
awaited_within groups lines app n start last whole a (act ∷ before) behind mid d e =
    let s = did_last groups lines before act start mid d in
    let rest : Did groups lines (act ∷ behind) s.old last = (mid, s.does, e) in
    let goes = prefix_length (front_at s.old.fronts n) (front_at mid.fronts n) (goes_front n s.old mid (does_goes groups lines n act s.old mid s.does)) in
    adds_ticket (λ t. decision_of t (entries_in whole) ≤ length (front_at mid.fronts n)) (is_await act) (group_number act == n) (latest_ticket app n (entries_in whole) before) (awaited_by app n (entries_in whole) before)
    (All-weaker (λ t. decision_of t (entries_in whole) ≤ length (front_at s.old.fronts n)) (λ t. decision_of t (entries_in whole) ≤ length (front_at mid.fronts n)) (λ t le. omega (arith, le, goes)) (awaited_by app n (entries_in whole) before)
    (awaited_within groups lines app n start last whole a before (act ∷ behind) s.old s.did rest))
    (λ waits here t told.
    decision_within t (front_at mid.fronts n) whole (front_begins groups lines app n start last whole behind mid a e)
    (await_decides groups lines n act s.old mid t waits (equal_numbers (group_number act) n here) s.does
    (latest_told app n before (front_at s.old.fronts n) (mine_at s.old.mines n) whole t (a.asked (reverse before) (act ∷ behind) s.old s.did rest) (front_begins groups lines app n start last whole (act ∷ behind) s.old a rest) told)))

-- as many requests as there were commands that make one
asked_count : (app : AppId) (n : ℕ) (before : List Act) (front : List Made) (mine : List ℕ) → HasAsked app n before front mine → length (filter (is_asked_by app) (entries_in front)) ≡ length (requests_by app n before)
asked_count app n before front mine h = sym (length-map (filter (is_asked_by app) (entries_in front)) (λ (e : Entry). e.event)) ∙ ap length h.asks

-- the next request is behind the decisions that were awaited
pub in_time : (groups : ℕ → Group) (lines : ℕ → List WireLine) (app : AppId) (n : ℕ) (start last : Holder) (whole : List Made) → AtEach groups lines app n start last whole
    → (before behind : List Act) (mid : Holder) → Did groups lines (reverse before) start mid → Did groups lines behind mid last
    → All (λ t. decision_of t (entries_in whole) < request_number app (suc (length (requests_by app n (reverse before)))) (entries_in whole)) (awaited_by app n (entries_in whole) before)
in_time groups lines app n start last whole a before behind mid d e =
    let front = front_at mid.fronts n in
    let next = suc (length (requests_by app n (reverse before))) in
    let p = front_begins groups lines app n start last whole behind mid a e in
    let few = asked_count app n (reverse before) front (mine_at mid.mines n) (a.asked (reverse before) behind mid d e) in
    let passes = number_passes (is_asked_by app) next (entries_in front) (entries_in p.0) (omega (arith, few)) in
    let count = length-map front (λ (m : Made). m.entry) in
    let all : request_number app next (entries_in whole) ≡ request_number app next (entries_in front ++ entries_in p.0) = ap (request_number app next) (entries_begin front whole p) in
    All-weaker (λ t. decision_of t (entries_in whole) ≤ length front) (λ t. decision_of t (entries_in whole) < request_number app next (entries_in whole)) (λ t le. omega (arith, le, passes, count, all)) (awaited_by app n (entries_in whole) before)
    (awaited_within groups lines app n start last whole a before behind mid d e)

-- and what was done is within the front
pub done_within : (groups : ℕ → Group) (lines : ℕ → List WireLine) (app : AppId) (n : ℕ) (start last : Holder) (whole : List Made) → AtEach groups lines app n start last whole
    → (before behind : List Act) (mid : Holder) → Did groups lines (reverse before) start mid → Did groups lines behind mid last
    → done_by app n (entries_in whole) before ≤ length (front_at mid.fronts n)
done_within groups lines app n start last whole a before behind mid d e =
    let front = front_at mid.fronts n in
    let count = length (requests_by app n (reverse before)) in
    let p = front_begins groups lines app n start last whole behind mid a e in
    let few = asked_count app n (reverse before) front (mine_at mid.mines n) (a.asked (reverse before) behind mid d e) in
    let reaches = number_reaches (is_asked_by app) count (entries_in front) (entries_in p.0) (omega (arith, few)) in
    let size = length-map front (λ (m : Made). m.entry) in
    let all : request_number app count (entries_in whole) ≡ request_number app count (entries_in front ++ entries_in p.0) = ap (request_number app count) (entries_begin front whole p) in
    let awaits = greatest_within (λ t. decision_of t (entries_in whole)) (length front) (awaited_by app n (entries_in whole) before) (awaited_within groups lines app n start last whole a before behind mid d e) in
    omega (arith, reaches, size, all, awaits)

-- a settle is behind the requests and the awaited decisions before the settle
pub settled_behind : (groups : ℕ → Group) (lines : ℕ → List WireLine) (app : AppId) (n : ℕ) (start last : Holder) (whole : List Made) → AtEach groups lines app n start last whole
    → (before behind : List Act) (m rounds : ℕ) (old new : Holder) → Did groups lines (reverse before) start old → Does groups lines (Settle m rounds) old new → Did groups lines behind new last → m ≡ n
    → IsSettledIn (journal_in (groups n) whole) (lines n) (first_of (done_by app n (entries_in whole) before) (past_in whole)) rounds
settled_behind groups lines app n start last whole a before behind m rounds old new d does e here =
    let rest : Did groups lines (Settle m rounds ∷ behind) old last = (new, does, e) in
    let p = front_begins groups lines app n start last whole (Settle m rounds ∷ behind) old a rest in
    let le = done_within groups lines app n start last whole a before (Settle m rounds ∷ behind) old d rest in
    let size = length_past (front_at old.fronts n) in
    let from = first_begins (done_by app n (entries_in whole) before) (past_in (front_at old.fronts n)) (past_in whole) (past_begins (front_at old.fronts n) whole p) (omega (arith, le, size)) in
    settles_in (groups n) (lines n) old.number rounds (front_at old.fronts n) (mine_at old.mines n) (front_at new.fronts n) (mine_at new.mines n) whole (first_of (done_by app n (entries_in whole) before) (past_in whole))
    (front_begins groups lines app n start last whole behind new a e) from
    (subst (λ (k : ℕ). turns.Settles (groups k) (lines k) old.number rounds (front_at old.fronts k) (mine_at old.mines k) (front_at new.fronts k) (mine_at new.mines k)) here does.done.entered)
