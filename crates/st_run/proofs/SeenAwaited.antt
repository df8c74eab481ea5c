-- A line on a group has seen what was accepted up to each ticket that was awaited before.
use Rattle.std.proofs.Common.{◌≡◌, ℕ, ◌≤◌, Bool, true, false, nat_le, List, ◌∷◌, length, sym, subst, arith}
use Rattle.std.specs.Prelude.{All, Some, reverse, ◌==◌, if◌then◌else◌}
use Rattle.std.proofs.lemmas.List.{reverse-reverse}
use Rattle.std.proofs.lemmas.List.Elements.{All-nil, All-weaker}
use mathlib.Core.List.{IsPrefix}
use Rattle.st_net.specs.declared.entity.AppId.{AppId}
use Rattle.st_net.specs.Groups.{Group}
use Rattle.st_net.proofs.Tests.{equal_numbers}
use Rattle.st_event.specs.declared.act.Act.{Act}
use Rattle.st_event.specs.declared.act.Act.TheVariants.{Propose, Await, Settle, Lock, Unlock, Read, ReadAt, Fail, Poll, Span}
use Rattle.st_event.specs.declared.act.LogEntry.{LogEntry}
use Rattle.st_event.specs.declared.act.LogSaw.TheVariants.{At, NoVersion}
use Rattle.st_event.specs.declared.journal.Entry.{Entry}
use Rattle.st_event.specs.Legal.{IsLegal}
use Rattle.st_event.specs.Proposals.{overlays, version}
use Rattle.st_event.specs.Versions.{value_at}
use Rattle.st_wire.specs.declared.line.WireLine.{WireLine}
use Rattle.st_world.specs.Acts.{group_number}
use Rattle.st_event.proofs.Prefixes.{prefix_length, prefix_trans}
use Rattle.st_service.specs.Awaits.{Awaits}
use Rattle.st_run.specs.CarriedLaws.{history_of}
use Rattle.st_run.specs.CarriedOn.{SeesAwaited}
use Rattle.st_service.specs.Closed.{IsWhole}
use Rattle.st_run.specs.Jobs.{Does, Did}
use Rattle.st_run.specs.Logs.{EachRead, HasSeen, accepted_up_to}
use Rattle.st_service.specs.Made.{Made, past_in}
use Rattle.st_service.specs.Passes.{Holder, IsTaught, front_at, mine_at, reader_at}
use Rattle.st_run.specs.Requests.{awaited_by, is_await, latest_ticket}
use Rattle.st_service.specs.Tickets.{latest_in}
use Rattle.st_service.specs.Works.{IsDecided}
use Rattle.st_run.proofs.AcceptedLater.{accepted_first, front_version, past_later}
use Rattle.st_run.proofs.DidLaws.{Ended, GoesOn, did_goes, does_goes, goes_front}
use Rattle.st_run.proofs.LoggedReads.{IsLineBy, each_read, stays_along}
use Rattle.st_run.proofs.OrderInTime.{adds_ticket, awaited_decides}
use Rattle.st_event.proofs.Begun.{legal_begun}

-- the latest ticket by these entries is that of the pass, where it has done these commands. They stand newest first
abbrev pub TellsLatest : (ℕ → Group) → (ℕ → List WireLine) → AppId → ℕ → List Entry → Holder → Holder → Type 0
TellsLatest groups lines app n entries start last =
    (before behind : List Act) (old : Holder) (t : ℕ) → Did groups lines (reverse before) start old → Did groups lines behind old last → latest_ticket app n entries before ≡ Some t → latest_in (front_at old.fronts n) (mine_at old.mines n) ≡ Some t

-- a pass knows of so many acceptances, by its front and by its reader
abbrev pub KnowsOf : ℕ → Holder → ℕ → Type 0
KnowsOf n h count = (count ≤ version (past_in (front_at h.fronts n))) × (count ≤ length (reader_at h.readers n).proposals)

knows_of_later : (n : ℕ) (old new : Holder) (count : ℕ) → GoesOn n old new → KnowsOf n old count → KnowsOf n new count
knows_of_later n old new count g k =
    let v = front_version (front_at old.fronts n) (front_at new.fronts n) (goes_front n old new g) in
    let r = prefix_length (reader_at old.readers n).proposals (reader_at new.readers n).proposals (g.readers n) in
    (omega (arith, k.0, v), omega (arith, k.1, r))

-- an await decides the ticket of its pass, and teaches its reader

legal_within : (g : Group) (xs ys : List Made) → IsPrefix xs ys → IsLegal g (past_in ys) → IsLegal g (past_in xs)
legal_within g xs ys p legal = legal_begun g (past_in p.0) (past_in xs) (subst (IsLegal g) (past_later xs ys p) legal)

knows_decided : (g : Group) (n : ℕ) (new : Holder) (front : List Made) (t : ℕ) → IsLegal g (past_in front) → IsPrefix (front_at new.fronts n) front → IsTaught new n → IsDecided t (past_in (front_at new.fronts n)) → KnowsOf n new (accepted_up_to t (past_in front))
knows_decided g n new front t legal p taught decided =
    let count = accepted_first g (front_at new.fronts n) front t (legal_within g (front_at new.fronts n) front p legal) p decided in
    let r = prefix_length (overlays (past_in (front_at new.fronts n))) (reader_at new.readers n).proposals taught in
    (count, omega (arith, count, r))

knows_awaited : (groups : ℕ → Group) (lines : ℕ → List WireLine) (n : ℕ) (act : Act) (old new : Holder) (front : List Made) (t : ℕ) → IsLegal (groups n) (past_in front) → IsPrefix (front_at new.fronts n) front
    → is_await act ≡ true → group_number act ≡ n → Does groups lines act old new → latest_in (front_at old.fronts n) (mine_at old.mines n) ≡ Some t → KnowsOf n new (accepted_up_to t (past_in front))
knows_awaited groups lines n (Await m) old new front t legal p is here d latest =
    let entered : Awaits (latest_in (front_at old.fronts n) (mine_at old.mines n)) (groups n) old.number (front_at old.fronts n) (mine_at old.mines n) (front_at new.fronts n) (mine_at new.mines n) =
    subst (λ (k : ℕ). Awaits (latest_in (front_at old.fronts k) (mine_at old.mines k)) (groups k) old.number (front_at old.fronts k) (mine_at old.mines k) (front_at new.fronts k) (mine_at new.mines k)) here d.done.entered in
    knows_decided (groups n) n new front t legal p (subst (IsTaught new) here d.done.taught)
    (awaited_decides (groups n) old.number (latest_in (front_at old.fronts n) (mine_at old.mines n)) t (front_at old.fronts n) (mine_at old.mines n) (front_at new.fronts n) (mine_at new.mines n) latest entered)
knows_awaited groups lines n (Propose m rows) old new front t legal p is here d latest = absurd cc
knows_awaited groups lines n (Settle m rounds) old new front t legal p is here d latest = absurd cc
knows_awaited groups lines n (Lock m entity prio) old new front t legal p is here d latest = absurd cc
knows_awaited groups lines n (Unlock m entity prio) old new front t legal p is here d latest = absurd cc
knows_awaited groups lines n (Read m entity var) old new front t legal p is here d latest = absurd cc
knows_awaited groups lines n (ReadAt m asked entity var) old new front t legal p is here d latest = absurd cc
knows_awaited groups lines n (Fail m entity health rows) old new front t legal p is here d latest = absurd cc
knows_awaited groups lines n (Poll m entity) old new front t legal p is here d latest = absurd cc
knows_awaited groups lines n (Span first first_rows second second_rows) old new front t legal p is here d latest = absurd cc

-- at each moment of a chain a pass knows of what was accepted up to the tickets that it awaited
knows_all : (groups : ℕ → Group) (lines : ℕ → List WireLine) (app : AppId) (n : ℕ) (entries : List Entry) (front : List Made) (start last : Holder)
    → IsLegal (groups n) (past_in front) → IsPrefix (front_at last.fronts n) front → TellsLatest groups lines app n entries start last
    → (before behind : List Act) (mid : Holder) → Did groups lines (reverse before) start mid → Did groups lines behind mid last → All (λ t. KnowsOf n mid (accepted_up_to t (past_in front))) (awaited_by app n entries before)
knows_all groups lines app n entries front start last legal p tells =
    stays_along groups lines (λ before h. All (λ t. KnowsOf n h (accepted_up_to t (past_in front))) (awaited_by app n entries before)) start last
    (λ before act behind old new d does e all.
    let begins = prefix_trans (front_at new.fronts n) (front_at last.fronts n) front (goes_front n new last (did_goes groups lines n behind new last e)) p in
    adds_ticket (λ t. KnowsOf n new (accepted_up_to t (past_in front))) (is_await act) (group_number act == n) (latest_ticket app n entries before) (awaited_by app n entries before)
    (All-weaker (λ t. KnowsOf n old (accepted_up_to t (past_in front))) (λ t. KnowsOf n new (accepted_up_to t (past_in front)))
    (λ t k. knows_of_later n old new (accepted_up_to t (past_in front)) (does_goes groups lines n act old new does) k) (awaited_by app n entries before) all)
    (λ waits here t told. knows_awaited groups lines n act old new front t legal begins waits (equal_numbers (group_number act) n here) does (tells before (act ∷ behind) old t d (new, does, e) told)))
    (All-nil (λ t. KnowsOf n start (accepted_up_to t (past_in front))))

-- a line has seen as many acceptances as its pass knows of

seen_at_version : (b : Bool) (asked x latest count : ℕ) → count ≤ latest → HasSeen (if b then At asked x else NoVersion asked latest) count
seen_at_version true asked x latest count le = tt
seen_at_version false asked x latest count le = le

line_has_seen : (groups : ℕ → Group) (n : ℕ) (act : Act) (new : Holder) (line : LogEntry) (count : ℕ) → IsLineBy act (groups (group_number act)) new line → KnowsOf n new count → line.group ≡ n → HasSeen line.saw count
line_has_seen groups n (Read m entity var) new line count is k =
    subst (λ (l : LogEntry). l.group ≡ n → HasSeen l.saw count) (sym is)
    (λ (same : m ≡ n). subst (λ (j : ℕ). count ≤ length (reader_at new.readers j).proposals) (sym same) k.1)
line_has_seen groups n (ReadAt m asked entity var) new line count is k =
    let past = past_in (front_at new.fronts m) in
    subst (λ (l : LogEntry). l.group ≡ n → HasSeen l.saw count) (sym is)
    (λ (same : m ≡ n).
    seen_at_version (nat_le asked (version past)) asked (value_at (groups m) past asked entity var) (version past) count
    (subst (λ (j : ℕ). count ≤ version (past_in (front_at new.fronts j))) (sym same) k.0))
line_has_seen groups n (Propose m rows) new line count is k = absurd is
line_has_seen groups n (Await m) new line count is k = absurd is
line_has_seen groups n (Settle m rounds) new line count is k = absurd is
line_has_seen groups n (Lock m entity prio) new line count is k = absurd is
line_has_seen groups n (Unlock m entity prio) new line count is k = absurd is
line_has_seen groups n (Fail m entity health rows) new line count is k = absurd is
line_has_seen groups n (Poll m entity) new line count is k = absurd is
line_has_seen groups n (Span first first_rows second second_rows) new line count is k = absurd is

-- of a script's whole log, where the journal tells the latest tickets
pub sees_awaited_by : (groups : ℕ → Group) (lines : ℕ → List WireLine) (rooms : ℕ) (passes : List Holder) (n : ℕ) (entries : List Entry) (front : List Made) (a : ℕ) (acts : List Act) (p : Holder)
    → IsWhole (groups n) passes n entries front → (e : Ended groups lines rooms a n acts front p) → TellsLatest groups lines (record { 0 = a }) n entries e.start p → SeesAwaited (record { 0 = a }) n acts p.log (history_of (groups n) entries)
sees_awaited_by groups lines rooms passes n entries front a acts p whole e tells =
    let app : AppId = record { 0 = a } in
    let P : List Act → Act → LogEntry → Type 0 = λ before act line. line.group ≡ n → All (λ t. HasSeen line.saw (accepted_up_to t (past_in front))) (awaited_by app n entries before) in
    let reads : EachRead P (reverse acts) (reverse p.log) =
    each_read groups lines rooms acts e.start p P e.fresh.unlogged e.did
    (λ before act behind old new line d does rest is.
    λ same.
    All-weaker (λ t. KnowsOf n old (accepted_up_to t (past_in front))) (λ t. HasSeen line.saw (accepted_up_to t (past_in front)))
    (λ t k. line_has_seen groups n act new line (accepted_up_to t (past_in front)) is (knows_of_later n old new (accepted_up_to t (past_in front)) (does_goes groups lines n act old new does) k) same)
    (awaited_by app n entries before)
    (knows_all groups lines app n entries front e.start p whole.legal e.stands.begins tells before (act ∷ behind) old d (new, does, rest))) in
    subst (λ (es : List Entry). EachRead (λ before act line. line.group ≡ n → All (λ t. HasSeen line.saw (accepted_up_to t (reverse entries))) (awaited_by app n es before)) (reverse acts) (reverse p.log)) (sym (reverse-reverse entries))
    (subst (λ (past : List Entry). EachRead (λ before act line. line.group ≡ n → All (λ t. HasSeen line.saw (accepted_up_to t past)) (awaited_by app n entries before)) (reverse acts) (reverse p.log)) whole.journal reads)
