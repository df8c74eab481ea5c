-- The ticket for which an await waits, as the journal tells it, and the number of the entry that decides it.
use Rattle.std.proofs.Common.{◌≡◌, ℕ, zero, suc, pred, ◌+◌, ◌<◌, ◌≤◌, Bool, true, false, List, [], ◌∷◌, ◌++◌, length, map, refl, ap, sym, ◌∙◌, arith, length-append}
use Rattle.std.specs.Prelude.{Option, Some, None, slice_get, reverse, ◌==◌, if◌then◌else◌}
use Rattle.std.specs.List.{filter, filter_map}
use Rattle.std.proofs.lemmas.List.{append-nil, length-map, map-append, reverse-append}
use Rattle.std.proofs.lemmas.List.Elements.{filter-append}
use mathlib.Core.List.{IsPrefix}
use Rattle.st_net.specs.declared.entity.AppId.{AppId}
use Rattle.st_net.specs.Numbered.{nth}
use Rattle.st_event.specs.declared.act.Act.{Act}
use Rattle.st_event.specs.declared.act.Act.TheVariants.{Propose, Await, Settle, Lock, Unlock, Read, ReadAt, Fail, Poll, Span}
use Rattle.st_event.specs.declared.event.Event.{Event}
use Rattle.st_event.specs.declared.event.Event.TheVariants.{Check}
use Rattle.st_event.specs.declared.journal.Entry.{Entry}
use Rattle.st_event.specs.declared.reply.Reply.{Reply}
use Rattle.st_event.specs.declared.reply.Reply.TheVariants.{Decided}
use Rattle.st_event.specs.Proposals.{deciders, deciders_after}
use Rattle.st_world.specs.Acts.{group_number}
use Rattle.st_service.specs.Made.{Made, past_in}
use Rattle.st_run.specs.Requests.{acts_on, answers_in, decides_one, decision_of, is_asked_by, is_proposal, is_submit, latest_ticket, request_by, requests_by, requests_in, ticket_in}
use Rattle.st_service.specs.Tickets.{latest_in}
use Rattle.st_service.specs.Works.{IsDecided}
use Rattle.st_run.proofs.EntryNumbers.{number_reaches}

-- the entries of a front, the oldest first
abbrev pub entries_in : List Made → List Entry
entries_in front = map (λ m. m.entry) front

pub entries_begin : (xs ys : List Made) (p : IsPrefix xs ys) → entries_in ys ≡ entries_in xs ++ entries_in p.0
entries_begin xs ys p = ap entries_in (sym p.1) ∙ map-append (λ (m : Made). m.entry) xs p.0

-- lists that are tested in the other order

filter_one : {X : Type 0} (f : X → Bool) (x : X) (xs : List X) (b : Bool) → f x ≡ b → reverse (filter f xs) ++ filter f (x ∷ []) ≡ reverse (filter f (x ∷ xs))
filter_one f x xs true is = rw is (sym (reverse-append (x ∷ []) (filter f xs)))
filter_one f x xs false is = rw is (append-nil (reverse (filter f xs)))

pub filter_reverse : {X : Type 0} (f : X → Bool) (xs : List X) → filter f (reverse xs) ≡ reverse (filter f xs)
filter_reverse f [] = refl
filter_reverse f (x ∷ xs) =
    ap (filter f) (reverse-append (x ∷ []) xs)
    ∙ (filter-append f (reverse xs) (x ∷ [])
    ∙ (ap (λ (ys : List _). ys ++ filter f (x ∷ [])) (filter_reverse f xs)
    ∙ filter_one f x xs (f x) refl))

count_append : {X : Type 0} (f : X → Bool) (xs ys : List X) → length (filter f (xs ++ ys)) ≡ length (filter f xs) + length (filter f ys)
count_append f xs ys = ap length (filter-append f xs ys) ∙ length-append (filter f xs) (filter f ys)

count_one : {X : Type 0} (f : X → Bool) (x : X) (xs : List X) (b : Bool) → f x ≡ b → length (filter f xs) + length (filter f (x ∷ [])) ≡ length (filter f (x ∷ xs))
count_one f x xs true is = rw is (omega arith)
count_one f x xs false is = rw is (omega arith)

pub count_reverse : {X : Type 0} (f : X → Bool) (xs : List X) → length (filter f (reverse xs)) ≡ length (filter f xs)
count_reverse f [] = refl
count_reverse f (x ∷ xs) =
    ap (λ (ys : List _). length (filter f ys)) (reverse-append (x ∷ []) xs)
    ∙ (count_append f (reverse xs) (x ∷ [])
    ∙ (ap (λ (k : ℕ). k + length (filter f (x ∷ []))) (count_reverse f xs)
    ∙ count_one f x xs (f x) refl))

count_map : {X Y : Type 0} (f : X → Y) (p : Y → Bool) (xs : List X) → length (filter (λ x. p (f x)) xs) ≡ length (filter p (map f xs))
count_map f p [] = refl
count_map f p (x ∷ xs) = by_test (p (f x)) (count_map f p xs)
  where
    by_test : (b : Bool) → length (filter (λ y. p (f y)) xs) ≡ length (filter p (map f xs))
        → length (if b then x ∷ filter (λ y. p (f y)) xs else filter (λ y. p (f y)) xs) ≡ length (if b then f x ∷ filter p (map f xs) else filter p (map f xs))
    by_test true e = ap suc e
    by_test false e = e

-- the answers to proposals, by the requests that were made

pub answers_append : (app : AppId) (xs ys : List Entry) → answers_in app (xs ++ ys) ≡ answers_in app xs ++ answers_in app ys
answers_append app xs ys =
    ap (λ (es : List Entry). map (λ (e : Entry). e.reply) (filter (λ (e : Entry). is_submit e.event) es)) (filter-append (is_asked_by app) xs ys)
    ∙ (ap (map (λ (e : Entry). e.reply)) (filter-append (λ (e : Entry). is_submit e.event) (filter (is_asked_by app) xs) (filter (is_asked_by app) ys))
    ∙ map-append (λ (e : Entry). e.reply) (filter (λ (e : Entry). is_submit e.event) (filter (is_asked_by app) xs)) (filter (λ (e : Entry). is_submit e.event) (filter (is_asked_by app) ys)))

answers_count : (app : AppId) (es : List Entry) → length (answers_in app es) ≡ length (filter is_submit (requests_in app es))
answers_count app es =
    length-map (filter (λ (e : Entry). is_submit e.event) (filter (is_asked_by app) es)) (λ (e : Entry). e.reply)
    ∙ count_map (λ (e : Entry). e.event) is_submit (filter (is_asked_by app) es)

proposals_count : (app : AppId) (acts : List Act) → length (filter is_submit (filter_map (request_by app) acts)) ≡ length (filter is_proposal acts)
proposals_count app [] = refl
proposals_count app (Propose n rows ∷ acts) = ap suc (proposals_count app acts)
proposals_count app (Await n ∷ acts) = proposals_count app acts
proposals_count app (Settle n rounds ∷ acts) = proposals_count app acts
proposals_count app (Lock n entity prio ∷ acts) = proposals_count app acts
proposals_count app (Unlock n entity prio ∷ acts) = proposals_count app acts
proposals_count app (Read n entity var ∷ acts) = proposals_count app acts
proposals_count app (ReadAt n version entity var ∷ acts) = proposals_count app acts
proposals_count app (Fail n entity health rows ∷ acts) = proposals_count app acts
proposals_count app (Poll n entity ∷ acts) = proposals_count app acts
proposals_count app (Span first first_rows second second_rows ∷ acts) = proposals_count app acts

-- what the journal of a group has of a pass that did these commands: their requests, and that the last answer to a proposal gives its latest ticket
pub record HasAsked (app : AppId) (n : ℕ) (before : List Act) (front : List Made) (mine : List ℕ) : Type 0 where
  pub asks : requests_in app (entries_in front) ≡ requests_by app n before
  pub latest : (t : ℕ) → ticket_in (nth (answers_in app (entries_in front)) (length (answers_in app (entries_in front)))) ≡ Some t → latest_in front mine ≡ Some t

-- as many answers as proposals, whose commands stand here with the newest first
answered_all : (app : AppId) (n : ℕ) (before : List Act) (front : List Made) (mine : List ℕ) → HasAsked app n (reverse before) front mine → length (filter is_proposal (acts_on n before)) ≡ length (answers_in app (entries_in front))
answered_all app n before front mine h =
    sym (count_reverse is_proposal (acts_on n before))
    ∙ (ap (λ (acts : List Act). length (filter is_proposal acts)) (sym (filter_reverse (λ act. group_number act == n) before))
    ∙ (sym (proposals_count app (acts_on n (reverse before)))
    ∙ (ap (λ (events : List Event). length (filter is_submit events)) (sym h.asks)
    ∙ sym (answers_count app (entries_in front)))))

get_left : {X : Type 0} (xs ys : List X) (n : ℕ) → n < length xs → slice_get (xs ++ ys) n ≡ slice_get xs n
get_left [] ys n lt = absurd (omega (arith, lt))
get_left (x ∷ xs) ys zero lt = refl
get_left (x ∷ xs) ys (suc n) lt = get_left xs ys n (omega (arith, lt))

last_left : {X : Type 0} (xs ys : List X) → nth (xs ++ ys) (length xs) ≡ nth xs (length xs)
last_left [] ys = refl
last_left (x ∷ xs) ys = ap (λ (o : Option _). if suc (length xs) == 0 then None else o) (get_left (x ∷ xs) ys (pred (suc (length xs))) (omega arith))

-- the latest ticket that the whole journal tells is the pass's
pub latest_told : (app : AppId) (n : ℕ) (before : List Act) (front : List Made) (mine : List ℕ) (whole : List Made) (t : ℕ) → HasAsked app n (reverse before) front mine → IsPrefix front whole
    → latest_ticket app n (entries_in whole) before ≡ Some t → latest_in front mine ≡ Some t
latest_told app n before front mine whole t h p told =
    let here = answers_in app (entries_in front) in
    let rest = answers_in app (entries_in p.0) in
    let all : answers_in app (entries_in whole) ≡ here ++ rest = ap (answers_in app) (entries_begin front whole p) ∙ answers_append app (entries_in front) (entries_in p.0) in
    let same : nth (answers_in app (entries_in whole)) (length (filter is_proposal (acts_on n before))) ≡ nth here (length here) =
    ap (nth (answers_in app (entries_in whole))) (answered_all app n before front mine h)
    ∙ (ap (λ (rs : List Reply). nth rs (length here)) all ∙ last_left here rest) in
    h.latest t (ap ticket_in (sym same) ∙ told)

-- the number of the entry that decides a ticket

either_within : (b : Bool) (k : ℕ) (e : Entry) (es : List Entry) → k ≤ length es → k ≤ length (if b then e ∷ es else es)
either_within true k e es le = omega (arith, le)
either_within false k e es le = le

deciders_one : (event : Event) (reply : Reply) (n : ℕ) (before : List ℕ) (e : Entry) (es : List Entry) → length before ≤ length es → length (deciders_after event reply n before) ≤ length (if decides_one reply then e ∷ es else es)
deciders_one Check (Decided receipt) n before e es le = let m = length-append before (n ∷ []) in omega (arith, m, le)
deciders_one Check _ n before e es le = le
deciders_one _ reply n before e es le = either_within (decides_one reply) (length before) e es le

deciders_few : (past : List Entry) → length (deciders past) ≤ length (filter (λ e. decides_one e.reply) past)
deciders_few [] = omega arith
deciders_few (entry ∷ past) = deciders_one entry.event entry.reply (length past + 1) (deciders past) entry (filter (λ e. decides_one e.reply) past) (deciders_few past)

-- the entry that decides a ticket is within each beginning in which the ticket is decided
pub decision_within : (t : ℕ) (front whole : List Made) → IsPrefix front whole → IsDecided t (past_in front) → decision_of t (entries_in whole) ≤ length front
decision_within t front whole p decided =
    let few = deciders_few (past_in front) in
    let same : length (filter (λ (e : Entry). decides_one e.reply) (past_in front)) ≡ length (filter (λ (e : Entry). decides_one e.reply) (entries_in front)) = count_reverse (λ (e : Entry). decides_one e.reply) (entries_in front) in
    let reach = number_reaches (λ (e : Entry). decides_one e.reply) t (entries_in front) (entries_in p.0) (omega (arith, few, same, decided)) in
    let count = length-map front (λ (m : Made). m.entry) in
    let all : decision_of t (entries_in whole) ≡ decision_of t (entries_in front ++ entries_in p.0) = ap (decision_of t) (entries_begin front whole p) in
    omega (arith, reach, count, all)
