-- The requests of a script stand in the journal behind the decisions that it awaited before them, and its settles settle each entity, or give it its turns.
use Rattle.std.proofs.Common.{◌≡◌, ℕ, suc, ◌<◌, List, [], ◌∷◌, ◌++◌, length, map, refl, ap, sym, subst, ◌∙◌, arith}
use Rattle.std.specs.Prelude.{All, Some, slice_get, reverse}
use Rattle.std.specs.List.{filter}
use Rattle.std.proofs.lemmas.List.{reverse-reverse}
use mathlib.Core.List.{IsPrefix}
use Rattle.st_net.specs.declared.entity.AppId.{AppId}
use Rattle.st_net.specs.Numbered.{nth}
use Rattle.st_net.specs.Groups.{Group}
use Rattle.st_event.specs.declared.act.Act.{Act}
use Rattle.st_event.specs.declared.act.Act.TheVariants.{Propose, Await, Settle, Lock, Unlock, Read, ReadAt, Fail, Poll, Span}
use Rattle.st_event.specs.declared.journal.Entry.{Entry}
use Rattle.st_event.specs.declared.reply.Reply.{Reply}
use Rattle.st_wire.specs.declared.line.WireLine.{WireLine}
use Rattle.st_event.proofs.Prefixes.{prefix_length, prefix_trans}
use Rattle.st_service.specs.Asked.{requests_in as places_in, requests_of}
use Rattle.st_run.specs.CarriedLaws.{history_of}
use Rattle.st_run.specs.CarriedOn.{AsksInTime, EachAct, IsInTime, IsSettledIn, Settles, SettlesAll, done_by, entries_of, first_of}
use Rattle.st_service.specs.Closed.{IsWhole}
use Rattle.st_run.specs.Jobs.{Did, Does, HaveRun, awaits_on}
use Rattle.st_service.specs.Made.{Made, past_in}
use Rattle.st_service.specs.Passes.{Holder, front_at, mine_at}
use Rattle.st_run.specs.Requests.{acts_on, answers_in, awaited_by, decision_of, is_asked_by, request_number, requests_by, ticket_in}
use Rattle.st_service.specs.Tickets.{last_ticket, latest_in}
use Rattle.st_run.proofs.CommandEntries.{is_asking, legal_prefix}
use Rattle.st_run.proofs.DidLaws.{Ended, EntersAll, did_append, did_enters, did_goes, ended, front_entries, goes_front}
use Rattle.st_run.proofs.LatestTickets.{HasAsked, entries_in}
use Rattle.st_run.proofs.OrderInTime.{AtEach, each_done, in_time, settled_behind}
use Rattle.st_run.proofs.OwnEntries.{entries_at, within_longer}
use Rattle.st_run.proofs.AnsweredTickets.{last_proposed, last_reply, own_tickets, proposals_asking, proposes}
use Rattle.st_run.proofs.OwnTickets.{latest_is}
use Rattle.st_run.proofs.RequestsBefore.{asked_before}
use Rattle.st_run.proofs.ScriptEntries.{script_adds}

-- what the journal of a group has of a pass at a moment, by what its commands until then added

has_asked : (app : AppId) (n : ℕ) (before : List Act) (front : List Made) (mine : List ℕ) → filter (is_asked_by app) (entries_in front) ≡ filter is_asking (entries_at front mine)
    → map (λ (e : Entry). e.event) (filter is_asking (entries_at front mine)) ≡ requests_by app n before → latest_in front mine ≡ last_ticket (filter proposes (entries_at front mine)) → HasAsked app n before front mine
has_asked app n before front mine are asks latest =
    let own = entries_at front mine in
    let answers : answers_in app (entries_in front) ≡ map (λ (e : Entry). e.reply) (filter proposes own) =
    ap (λ (es : List Entry). map (λ (e : Entry). e.reply) (filter proposes es)) are ∙ ap (map (λ (e : Entry). e.reply)) (proposals_asking own) in
    record {
      asks = ap (map (λ (e : Entry). e.event)) are ∙ asks;
      latest = λ t told.
          latest
          ∙ last_reply (filter proposes own) t (ap (λ (rs : List Reply). ticket_in (nth rs (length rs))) (sym answers) ∙ told);
    }

-- a pass whose number is that of the application, at each moment
pub at_each : (groups : ℕ → Group) (lines : ℕ → List WireLine) (rooms : ℕ) (passes : List Holder) (n : ℕ) (entries : List Entry) (front : List Made) (a : ℕ) (acts : List Act) (p : Holder)
    → IsWhole (groups n) passes n entries front → (e : Ended groups lines rooms a n acts front p) → AtEach groups lines (record { 0 = a }) n e.start p front
at_each groups lines rooms passes n entries front a acts p whole e = record { begins = e.stands.begins; asked = asked }
  where
    app : AppId
    app = record { 0 = a }

    asked : (before behind : List Act) (mid : Holder) → Did groups lines before e.start mid → Did groups lines behind mid p → HasAsked app n before (front_at mid.fronts n) (mine_at mid.mines n)
    asked before behind mid d r =
        let f = front_at mid.fronts n in
        let mine = mine_at mid.mines n in
        let goes = did_goes groups lines n behind mid p r in
        let begins : IsPrefix f front = prefix_trans f (front_at p.fronts n) front (goes_front n mid p goes) e.stands.begins in
        let legal = legal_prefix (groups n) f front begins whole.legal in
        let from_start = did_enters groups lines n before a e.start mid e.fresh.numbered d in
        let from_none : EntersAll (groups n) (lines n) a (acts_on n before) [] [] f mine =
        subst (λ (x : List Made). EntersAll (groups n) (lines n) a (acts_on n before) x [] f mine) (e.fresh.unseen n)
        (subst (λ (x : List ℕ). EntersAll (groups n) (lines n) a (acts_on n before) (front_at e.start.fronts n) x f mine) (e.fresh.unmade n) from_start) in
        let s = script_adds (groups n) (lines n) a (acts_on n before) [] [] f mine legal from_none in
        let own : entries_at f mine ≡ s.entries = s.adds.made tt in
        let high = within_longer (length f) (length (front_at p.fronts n)) (length front) goes.grows.1.0 (prefix_length (front_at p.fronts n) front e.stands.begins) goes.grows.1.3 in
        let places : requests_of a 0 front ≡ places_in front (mine ++ goes.grows.1.0) = e.asked ∙ ap (places_in front) goes.grows.1.1 in
        let are = asked_before a f front mine goes.grows.1.0 (length front) begins (omega arith) (s.adds.within tt) high places in
        has_asked app n before f mine are
        (ap (λ (es : List Entry). map (λ (x : Entry). x.event) (filter is_asking es)) own ∙ s.answers.asks)
        (latest_is f mine ∙ last_proposed (entries_at f mine) (own_tickets (groups n) f mine legal))

-- the entries of a front are those of its history
told_entries : (g : Group) (passes : List Holder) (n : ℕ) (entries : List Entry) (front : List Made) → IsWhole g passes n entries front → entries_in front ≡ entries_of (history_of g entries)
told_entries g passes n entries front whole = front_entries g passes n entries front whole ∙ sym (reverse-reverse entries)

-- what holds of each command of a script where it is done
each_of : (groups : ℕ → Group) (lines : ℕ → List WireLine) (P : List Act → Act → Type 0) (acts behind : List Act) (start last : Holder) → Did groups lines (acts ++ behind) start last
    → ((before : List Act) (act : Act) (rest : List Act) (old new : Holder) → Did groups lines (reverse before) start old → Does groups lines act old new → Did groups lines rest new last → P before act)
    → EachAct P (reverse acts)
each_of groups lines P acts behind start last d all =
    let s = did_append groups lines acts behind start last d in
    each_done groups lines P start last all (reverse acts) behind s.0 (subst (λ (xs : List Act). Did groups lines xs start s.0) (sym (reverse-reverse acts)) s.1) s.2

pub asks_in_time : (groups : ℕ → Group) (lines : ℕ → List WireLine) (rooms : ℕ) (scripts : List (List Act)) (passes : List Holder) (n : ℕ) (entries : List Entry) (front : List Made) (a : ℕ) (acts : List Act) (p : Holder)
    → HaveRun groups lines rooms scripts passes → n < rooms → IsWhole (groups n) passes n entries front → slice_get scripts a ≡ Some acts → slice_get passes a ≡ Some p → AsksInTime (record { 0 = a }) n acts (history_of (groups n) entries)
asks_in_time groups lines rooms scripts passes n entries front a acts p run within whole script pass =
    let app : AppId = record { 0 = a } in
    let e = ended groups lines rooms scripts passes n entries front a acts p run whole script pass in
    let each = at_each groups lines rooms passes n entries front a acts p whole e in
    each_of groups lines (IsInTime app n (history_of (groups n) entries)) acts (awaits_on rooms) e.start p e.did
    (λ before act rest old new d does r.
    λ asks here.
    subst (λ (es : List Entry). All (λ ticket. decision_of ticket es < request_number app (suc (length (requests_by app n (reverse before)))) es) (awaited_by app n es before)) (told_entries (groups n) passes n entries front whole)
    (in_time groups lines app n e.start p front each before (act ∷ rest) old d (new, does, r)))

-- a settle in the journal of a front is one in its history
settled_told : (g : Group) (lines : List WireLine) (app : AppId) (n : ℕ) (passes : List Holder) (entries : List Entry) (front : List Made) (before : List Act) (rounds : ℕ) → IsWhole g passes n entries front
    → IsSettledIn (record { group = g; past = past_in front }) lines (first_of (done_by app n (entries_in front) before) (past_in front)) rounds
    → IsSettledIn (history_of g entries) lines (first_of (done_by app n (entries_of (history_of g entries)) before) (history_of g entries).past) rounds
settled_told g lines app n passes entries front before rounds whole s =
    subst (λ (es : List Entry). IsSettledIn (history_of g entries) lines (first_of (done_by app n es before) (reverse entries)) rounds) (told_entries g passes n entries front whole)
    (subst (λ (past : List Entry). IsSettledIn (record { group = g; past = past }) lines (first_of (done_by app n (entries_in front) before) past) rounds) whole.journal s)

-- what a command leaves of settling: something, if it is a settle on the group
settles_one : (app : AppId) (n : ℕ) (g : Group) (entries : List Entry) (lines : List WireLine) (before : List Act) (act : Act)
    → ((m rounds : ℕ) → act ≡ Settle m rounds → m ≡ n → IsSettledIn (history_of g entries) lines (first_of (done_by app n (entries_of (history_of g entries)) before) (history_of g entries).past) rounds)
    → Settles app n (history_of g entries) lines before act
settles_one app n g entries lines before (Settle m rounds) one = one m rounds refl
settles_one app n g entries lines before (Propose m rows) one = tt
settles_one app n g entries lines before (Await m) one = tt
settles_one app n g entries lines before (Lock m entity prio) one = tt
settles_one app n g entries lines before (Unlock m entity prio) one = tt
settles_one app n g entries lines before (Read m entity var) one = tt
settles_one app n g entries lines before (ReadAt m version entity var) one = tt
settles_one app n g entries lines before (Fail m entity health rows) one = tt
settles_one app n g entries lines before (Poll m entity) one = tt
settles_one app n g entries lines before (Span first first_rows second second_rows) one = tt

pub settles_all : (groups : ℕ → Group) (lines : ℕ → List WireLine) (rooms : ℕ) (scripts : List (List Act)) (passes : List Holder) (n : ℕ) (entries : List Entry) (front : List Made) (a : ℕ) (acts : List Act) (p : Holder)
    → HaveRun groups lines rooms scripts passes → n < rooms → IsWhole (groups n) passes n entries front → slice_get scripts a ≡ Some acts → slice_get passes a ≡ Some p → SettlesAll (record { 0 = a }) n acts (history_of (groups n) entries) (lines n)
settles_all groups lines rooms scripts passes n entries front a acts p run within whole script pass =
    let app : AppId = record { 0 = a } in
    let e = ended groups lines rooms scripts passes n entries front a acts p run whole script pass in
    let each = at_each groups lines rooms passes n entries front a acts p whole e in
    each_of groups lines (Settles app n (history_of (groups n) entries) (lines n)) acts (awaits_on rooms) e.start p e.did
    (λ before act rest old new d does r.
    settles_one app n (groups n) entries (lines n) before act
    (λ m rounds is here.
    settled_told (groups n) (lines n) app n passes entries front before rounds whole
    (settled_behind groups lines app n e.start p front each before rest m rounds old new d (subst (λ (x : Act). Does groups lines x old new) is does) r here)))
