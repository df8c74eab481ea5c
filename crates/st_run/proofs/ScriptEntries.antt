-- The requests of an application in a journal are those of its script's commands, and each of its proposals was given a ticket.
use Rattle.std.proofs.Common.{◌≡◌, ℕ, zero, suc, ◌<◌, Bool, true, false, List, [], ◌∷◌, ◌++◌, length, map, refl, ap, sym, subst, ◌∙◌, arith, append_assoc, length-append}
use Rattle.std.specs.Prelude.{All, Option, Some, None, slice_get, ◌==◌, if◌then◌else◌}
use Rattle.std.specs.List.{filter, filter_map, cons_option}
use Rattle.std.proofs.lemmas.List.{append-nil, reverse-reverse}
use Rattle.std.proofs.lemmas.List.Elements.{filter-append, filter_map-append}
use Rattle.st_net.specs.declared.entity.AppId.{AppId}
use Rattle.st_net.specs.Groups.{Group}
use Rattle.st_event.specs.declared.act.Act.{Act}
use Rattle.st_event.specs.declared.act.Act.TheVariants.{Await}
use Rattle.st_event.specs.declared.event.Event.{Event}
use Rattle.st_event.specs.declared.event.Event.TheVariants.{Submit, Check, Lock, Unlock, Send, Deliver, Finish, Report, Hear, Fail, Withdraw}
use Rattle.st_event.specs.declared.reply.Reply.{Reply}
use Rattle.st_event.specs.declared.journal.Entry.{Entry}
use Rattle.st_event.specs.Legal.{IsLegal}
use Rattle.st_event.specs.Proposals.{is_queued}
use Rattle.st_wire.specs.declared.line.WireLine.{WireLine}
use Rattle.st_world.specs.Acts.{group_number}
use Rattle.st_service.specs.Asked.{asker, is_request, is_of, is_request_at, requests_of, requests_in as places_in}
use Rattle.st_run.specs.CarriedLaws.{history_of}
use Rattle.st_run.specs.CarriedOn.{AsksAll, HasTickets, entries_of}
use Rattle.st_service.specs.Closed.{IsWhole}
use Rattle.st_run.specs.Jobs.{HaveRun, awaits_on}
use Rattle.st_service.specs.Made.{Made, past_in}
use Rattle.st_service.specs.Passes.{Holder, front_at, mine_at}
use Rattle.st_event.specs.Events.{is_request_of}
use Rattle.st_run.specs.Requests.{acts_on, answers_in, is_asked_by, is_submit, request_by, requests_by, requests_in}
use Rattle.st_run.proofs.CommandEntries.{AnswersTo, IsTicketed, as_list, is_asking, answers_append, answers_none, command_adds, legal_prefix}
use Rattle.st_run.proofs.DidLaws.{Each, each_all, EntersAll, ended, ended_enters, enters_grows, front_entries}
use Rattle.st_run.proofs.Interleaved.{get_here}
use Rattle.st_run.proofs.OwnEntries.{Adds, adds_none, adds_then, and_entry, entries_at, entries_longer}

-- what the commands of a script add
pub record ScriptAdds (number : ℕ) (acts : List Act) (before : List Made) (was : List ℕ) (after : List Made) (now : List ℕ) : Type 0 where
  pub entries : List Entry
  pub answers : AnswersTo (filter_map (request_by (record { 0 = number })) acts) entries
  pub adds : Adds entries before was after now

onto_list : (o : Option Event) (es : List Event) → as_list o ++ es ≡ cons_option o es
onto_list (Some e) es = refl
onto_list None es = refl

pub script_adds : (g : Group) (lines : List WireLine) (number : ℕ) (acts : List Act) (before : List Made) (was : List ℕ) (after : List Made) (now : List ℕ) → IsLegal g (past_in after) → EntersAll g lines number acts before was after now → ScriptAdds number acts before was after now
script_adds g lines number [] before was after now legal e = record { entries = []; answers = answers_none [] tt; adds = adds_none before was after now ([], append-nil before ∙ sym e.0) e.1 }
script_adds g lines number (act ∷ acts) before was after now legal e =
    let one = command_adds act g lines number before was e.0 e.1 (legal_prefix g e.0 after (enters_grows g lines number acts e.0 e.1 after now e.4).1.0 legal) e.2 in
    let rest = script_adds g lines number acts e.0 e.1 after now legal e.4 in
    let app : AppId = record { 0 = number } in
    record {
      entries = one.entries ++ rest.entries;
      answers = subst (λ (l : List Event). AnswersTo l (one.entries ++ rest.entries)) (onto_list (request_by app act) (filter_map (request_by app) acts)) (answers_append (as_list (request_by app act)) (filter_map (request_by app) acts) one.entries rest.entries one.answers rest.answers);
      adds = adds_then one.entries rest.entries before was e.0 e.1 after now one.adds rest.adds;
    }

-- the awaits at the end ask for nothing
await_asks : (app : AppId) (n k : ℕ) (b : Bool) → filter_map (request_by app) (if b then Await k ∷ [] else []) ≡ []
await_asks app n k true = refl
await_asks app n k false = refl

awaits_ask : (app : AppId) (n rooms : ℕ) → requests_by app n (awaits_on rooms) ≡ []
awaits_ask app n zero = refl
awaits_ask app n (suc k) =
    ap (filter_map (request_by app)) (filter-append (λ (act : Act). group_number act == n) (awaits_on k) (Await k ∷ []))
    ∙ (filter_map-append (request_by app) (acts_on n (awaits_on k)) (acts_on n (Await k ∷ []))
    ∙ (ap (λ (l : List Event). l ++ filter_map (request_by app) (acts_on n (Await k ∷ []))) (awaits_ask app n k) ∙ await_asks app n k (k == n)))

pub script_asks : (app : AppId) (n rooms : ℕ) (acts : List Act) → requests_by app n (acts ++ awaits_on rooms) ≡ requests_by app n acts
script_asks app n rooms acts =
    ap (filter_map (request_by app)) (filter-append (λ (act : Act). group_number act == n) acts (awaits_on rooms))
    ∙ (filter_map-append (request_by app) (acts_on n acts) (acts_on n (awaits_on rooms))
    ∙ (ap (λ (l : List Event). requests_by app n acts ++ l) (awaits_ask app n rooms) ∙ append-nil (requests_by app n acts)))

-- the entries that name an application

names : (a : ℕ) (event : Event) → is_of a (asker event) ≡ is_request_of (record { 0 = a }) event
names a (Submit app rows) = refl
names a Check = refl
names a (Lock app entity prio) = refl
names a (Unlock app entity prio) = refl
names a (Send entity) = refl
names a (Deliver n) = refl
names a (Finish entity) = refl
names a (Report entity) = refl
names a (Hear n) = refl
names a (Fail entity vals health) = refl
names a (Withdraw entity) = refl

pub at_if : (front : List Made) (b : Bool) (i : ℕ) (m : Made) (rest : List ℕ) → slice_get front i ≡ Some m → entries_at front (if b then i ∷ rest else rest) ≡ (if b then m.entry ∷ entries_at front rest else entries_at front rest)
at_if front true i m rest is = ap (λ (o : Option Made). and_entry o (entries_at front rest)) is
at_if front false i m rest is = refl

pub named : (a : ℕ) (pre ms : List Made) → entries_at (pre ++ ms) (requests_of a (length pre) ms) ≡ filter (is_asked_by (record { 0 = a })) (map (λ (m : Made). m.entry) ms)
named a pre [] = refl
named a pre (m ∷ ms) =
    let next = pre ++ m ∷ [] in
    let len : length next ≡ suc (length pre) = omega (arith, length-append pre (m ∷ [])) in
    let all : next ++ ms ≡ pre ++ m ∷ ms = append_assoc pre (m ∷ []) ms in
    let entries = filter (is_asked_by (record { 0 = a })) (map (λ (x : Made). x.entry) ms) in
    let rest : entries_at (pre ++ m ∷ ms) (requests_of a (suc (length pre)) ms) ≡ entries =
    subst (λ (n : ℕ). entries_at (pre ++ m ∷ ms) (requests_of a n ms) ≡ entries) len (subst (λ (l : List Made). entries_at l (requests_of a (length next) ms) ≡ entries) all (named a next ms)) in
    at_if (pre ++ m ∷ ms) (is_of a (asker m.entry.event)) (length pre) m (requests_of a (suc (length pre)) ms) (get_here pre m ms)
    ∙ (ap (λ (l : List Entry). if is_of a (asker m.entry.event) then m.entry ∷ l else l) rest
    ∙ ap (λ (b : Bool). if b then m.entry ∷ entries else entries) (names a m.entry.event))

asking_one : (front : List Made) (n : ℕ) (ns : List ℕ) (o : Option Made) → slice_get front n ≡ o → entries_at front (places_in front ns) ≡ filter is_asking (entries_at front ns)
    → entries_at front (if is_request_at o then n ∷ places_in front ns else places_in front ns) ≡ filter is_asking (and_entry o (entries_at front ns))
asking_one front n ns None is rest = rest
asking_one front n ns (Some m) is rest = by (is_request (asker m.entry.event)) refl
  where
    by : (b : Bool) → is_request (asker m.entry.event) ≡ b → entries_at front (if b then n ∷ places_in front ns else places_in front ns) ≡ (if b then m.entry ∷ filter is_asking (entries_at front ns) else filter is_asking (entries_at front ns))
    by true e = ap (λ (o : Option Made). and_entry o (entries_at front (places_in front ns))) is ∙ ap (λ (l : List Entry). m.entry ∷ l) rest
    by false e = rest

pub asking : (front : List Made) (mine : List ℕ) → entries_at front (places_in front mine) ≡ filter is_asking (entries_at front mine)
asking front [] = refl
asking front (n ∷ ns) = asking_one front n ns (slice_get front n) refl (asking front ns)

-- the entries of an application's requests are those of its pass, in order
pub record HasAsked (groups : ℕ → Group) (number n : ℕ) (acts : List Act) (entries : List Entry) : Type 0 where
  pub made : List Entry
  pub are : filter (is_asked_by (record { 0 = number })) entries ≡ filter is_asking made
  pub answers : AnswersTo (requests_by (record { 0 = number }) n acts) made

pub has_asked : (groups : ℕ → Group) (lines : ℕ → List WireLine) (rooms : ℕ) (scripts : List (List Act)) (passes : List Holder) (n : ℕ) (entries : List Entry) (front : List Made) (a : ℕ) (acts : List Act) (p : Holder)
    → HaveRun groups lines rooms scripts passes → IsWhole (groups n) passes n entries front → slice_get scripts a ≡ Some acts → slice_get passes a ≡ Some p → HasAsked groups a n acts entries
has_asked groups lines rooms scripts passes n entries front a acts p run whole script pass =
    let e = ended groups lines rooms scripts passes n entries front a acts p run whole script pass in
    let mine = mine_at p.mines n in
    let app : AppId = record { 0 = a } in
    let legal = legal_prefix (groups n) (front_at p.fronts n) front e.stands.begins whole.legal in
    let s = script_adds (groups n) (lines n) a (acts_on n (acts ++ awaits_on rooms)) [] [] (front_at p.fronts n) mine legal (ended_enters groups lines rooms a n acts front p e) in
    let own : entries_at front mine ≡ s.entries = entries_longer (front_at p.fronts n) front mine e.stands.begins (s.adds.within tt) ∙ s.adds.made tt in
    record {
      made = s.entries;
      are = ap (filter (is_asked_by app)) (sym (front_entries (groups n) passes n entries front whole)) ∙ (sym (named a [] front) ∙ (ap (entries_at front) e.asked ∙ (asking front mine ∙ ap (filter is_asking) own)));
      answers = subst (λ (l : List Event). AnswersTo l s.entries) (script_asks app n rooms acts) s.answers;
    }

pub asks_all : (groups : ℕ → Group) (lines : ℕ → List WireLine) (rooms : ℕ) (scripts : List (List Act)) (passes : List Holder) (n : ℕ) (entries : List Entry) (front : List Made) (a : ℕ) (acts : List Act) (p : Holder)
    → HaveRun groups lines rooms scripts passes → n < rooms → IsWhole (groups n) passes n entries front → slice_get scripts a ≡ Some acts → slice_get passes a ≡ Some p → AsksAll (record { 0 = a }) n acts (history_of (groups n) entries)
asks_all groups lines rooms scripts passes n entries front a acts p run within whole script pass =
    let h = has_asked groups lines rooms scripts passes n entries front a acts p run whole script pass in
    ap (requests_in (record { 0 = a })) (reverse-reverse entries) ∙ (ap (map (λ (e : Entry). e.event)) h.are ∙ h.answers.asks)

-- the tickets

each_filter : {X : Type 0} (P : X → Type 0) (test : X → Bool) (xs : List X) → Each P xs → Each P (filter test xs)
each_filter P test [] e = tt
each_filter P test (x ∷ xs) e = by (test x) (each_filter P test xs e.1)
  where
    by : (b : Bool) → Each P (filter test xs) → Each P (if b then x ∷ filter test xs else filter test xs)
    by true rest = (e.0, rest)
    by false rest = rest

each_queued : (es : List Entry) → Each IsTicketed es → Each (λ (reply : Reply). is_queued reply ≡ true) (map (λ (e : Entry). e.reply) (filter (λ (e : Entry). is_submit e.event) es))
each_queued [] e = tt
each_queued (x ∷ es) e = by (is_submit x.event) refl (each_queued es e.1)
  where
    by : (b : Bool) → is_submit x.event ≡ b → Each (λ (reply : Reply). is_queued reply ≡ true) (map (λ (e : Entry). e.reply) (filter (λ (e : Entry). is_submit e.event) es))
        → Each (λ (reply : Reply). is_queued reply ≡ true) (map (λ (e : Entry). e.reply) (if b then x ∷ filter (λ (e : Entry). is_submit e.event) es else filter (λ (e : Entry). is_submit e.event) es))
    by true is others = (e.0 is, others)
    by false is others = others

pub has_tickets : (groups : ℕ → Group) (lines : ℕ → List WireLine) (rooms : ℕ) (scripts : List (List Act)) (passes : List Holder) (n : ℕ) (entries : List Entry) (front : List Made) (a : ℕ) (acts : List Act) (p : Holder)
    → HaveRun groups lines rooms scripts passes → n < rooms → IsWhole (groups n) passes n entries front → slice_get scripts a ≡ Some acts → slice_get passes a ≡ Some p → HasTickets (record { 0 = a }) (history_of (groups n) entries)
has_tickets groups lines rooms scripts passes n entries front a acts p run within whole script pass =
    let h = has_asked groups lines rooms scripts passes n entries front a acts p run whole script pass in
    let app : AppId = record { 0 = a } in
    let queued = each_queued (filter is_asking h.made) (each_filter IsTicketed is_asking h.made h.answers.queued) in
    let is : answers_in app (entries_of (history_of (groups n) entries)) ≡ map (λ (e : Entry). e.reply) (filter (λ (e : Entry). is_submit e.event) (filter is_asking h.made)) =
    ap (answers_in app) (reverse-reverse entries) ∙ ap (λ (l : List Entry). map (λ (e : Entry). e.reply) (filter (λ (e : Entry). is_submit e.event) l)) h.are in
    subst (All (λ (reply : Reply). is_queued reply ≡ true)) (sym is) (each_all (λ (reply : Reply). is_queued reply ≡ true) _ queued)
