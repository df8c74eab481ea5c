-- What a command adds to the entries of its pass: its request, if it makes one, with a ticket for a proposal, and else no request.
use Rattle.std.proofs.Common.{◌≡◌, ⊎_elim, ℕ, zero, suc, Bool, true, false, List, [], ◌∷◌, ◌++◌, length, map, refl, ap, sym, subst, ◌∙◌}
use Rattle.std.specs.Prelude.{Option, Some, None, reverse, if◌then◌else◌, ◌==◌}
use Rattle.std.specs.List.{filter}
use Rattle.std.proofs.lemmas.List.{append-nil, append_cancel_right, reverse-reverse, reverse-append, map-append}
use Rattle.std.proofs.lemmas.List.Elements.{filter-append}
use mathlib.Core.List.{IsPrefix}
use Rattle.st_net.specs.declared.entity.Entity.{Entity}
use Rattle.st_net.specs.declared.entity.Row.{Row}
use Rattle.st_net.specs.Groups.{Group}
use Rattle.st_event.specs.declared.act.Act.{Act}
use Rattle.st_event.specs.declared.act.Act.TheVariants.{Propose, Await, Settle, Lock, Unlock, Read, ReadAt, Fail, Poll, Span}
use Rattle.st_event.specs.declared.event.Event.{Event}
use Rattle.st_event.specs.declared.event.Event.TheVariants.{Submit, Check, Lock as lock_event, Unlock as unlock_event}
use Rattle.st_event.specs.declared.journal.Entry.{Entry}
use Rattle.st_event.specs.declared.journal.TheConstants.{MAX_PENDING}
use Rattle.st_event.specs.Legal.{IsLegal}
use Rattle.st_event.specs.Proposals.{is_queued, pending}
use Rattle.st_event.specs.Services.{entry_after}
use Rattle.st_wire.specs.declared.line.WireLine.{WireLine}
use Rattle.st_event.proofs.Prefixes.{prefix_trans}
use Rattle.st_world.specs.Acts.{proposed}
use Rattle.st_world.specs.Rounds.{Course, course_from, enter, unsettled}
use Rattle.st_world.specs.declared.world.rounds.Going.{Going}
use Rattle.st_world.specs.declared.world.rounds.Going.TheVariants.{On, Full}
use Rattle.st_service.specs.declared.work.Part.{Part}
use Rattle.st_service.specs.declared.work.Part.TheVariants.{Whole, Update, Monitor}
use Rattle.st_service.specs.Acts.{ActEnters}
use Rattle.st_service.specs.Asked.{asker, is_request}
use Rattle.st_service.specs.Awaits.{Awaits, Waits, WentOn}
use Rattle.st_service.specs.Made.{Made, past_in}
use Rattle.st_service.specs.Puts.{Puts, Enters}
use Rattle.st_run.specs.Requests.{request_by, is_submit}
use Rattle.st_service.specs.Tickets.{latest_in}
use Rattle.st_service.specs.Turns.{Turns, RoundOf, RoundToFull, RoundsMade}
use Rattle.st_service.specs.Works.{part_of}
use Rattle.st_run.proofs.DidLaws.{Each, each_append}
use Rattle.st_service.proofs.HoldLaws.{past_more}
use Rattle.st_event.proofs.Begun.{legal_begun}
use Rattle.st_run.proofs.OwnEntries.{Adds, AddsEach, adds_puts, adds_then, each_none}
use Rattle.st_run.proofs.ProposalLaws.{was_proposed}
use Rattle.st_run.proofs.RunEntries.{Only, OfTurns, was_entered, only_none, only_enter, only_poll, only_update, only_turn, only_made}

-- an event that is no request
abbrev pub NoRequest : Event → Type 0
NoRequest event = (is_request (asker event) ≡ false) × (is_submit event ≡ false)

no_turns : OfTurns NoRequest
no_turns = record { send = λ e. (refl, refl); deliver = λ n. (refl, refl); finish = λ e. (refl, refl); report = λ e. (refl, refl); hear = λ n. (refl, refl); withdraw = λ e. (refl, refl) }

abbrev pub NoneAsks : Entry → Type 0
NoneAsks e = NoRequest e.event

-- the entries that are requests
abbrev pub is_asking : Entry → Bool
is_asking e = is_request (asker e.event)

abbrev pub IsTicketed : Entry → Type 0
IsTicketed e = is_submit e.event ≡ true → is_queued e.reply ≡ true

abbrev pub as_list : Option Event → List Event
as_list (Some event) = event ∷ []
as_list None = []

pub record AnswersTo (asked : List Event) (es : List Entry) : Type 0 where
  pub asks : map (λ (e : Entry). e.event) (filter is_asking es) ≡ asked
  pub queued : Each IsTicketed es

pub answers_none : (es : List Entry) → Each NoneAsks es → AnswersTo [] es
answers_none [] e = record { asks = refl; queued = tt }
answers_none (x ∷ es) e =
    let rest = answers_none es e.1 in
    record {
      asks = rw e.0.0 rest.asks;
      queued = (λ (is : is_submit x.event ≡ true). let both : false ≡ true = sym e.0.1 ∙ is in absurd (cc both), rest.queued);
    }

pub answers_append : (ps qs : List Event) (xs ys : List Entry) → AnswersTo ps xs → AnswersTo qs ys → AnswersTo (ps ++ qs) (xs ++ ys)
answers_append ps qs xs ys p q = record {
  asks = ap (map (λ (e : Entry). e.event)) (filter-append is_asking xs ys) ∙ (map-append (λ (e : Entry). e.event) (filter is_asking xs) (filter is_asking ys) ∙ (ap (λ (l : List Event). l ++ map (λ (e : Entry). e.event) (filter is_asking ys)) p.asks ∙ ap (λ (l : List Event). ps ++ l) q.asks));
  queued = each_append IsTicketed xs ys p.queued q.queued;
}

-- what a command adds
pub record CommandAdds (number : ℕ) (act : Act) (before : List Made) (was : List ℕ) (after : List Made) (now : List ℕ) : Type 0 where
  pub entries : List Entry
  pub answers : AnswersTo (as_list (request_by (record { 0 = number }) act)) entries
  pub adds : Adds entries before was after now

none_added : (number : ℕ) (act : Act) (before : List Made) (was : List ℕ) (after : List Made) (now : List ℕ) → request_by (record { 0 = number }) act ≡ None → AddsEach NoneAsks before was after now → CommandAdds number act before was after now
none_added number act before was after now none a = record { entries = a.entries; answers = subst (λ (l : List Event). AnswersTo l a.entries) (sym (ap as_list none)) (answers_none a.entries a.each); adds = a.adds }

-- the events of a hold whose course makes none

pub enters_only : (P : Event → Type 0) (course : List Entry → Course) (going : Going) (number : ℕ) (mid before : List Made) (was : List ℕ) (after : List Made) (now : List ℕ) → Only P (past_in mid) (course (past_in mid)) → Enters course going number mid before was after now → AddsEach (λ e. P e.event) before was after now
enters_only P course going number mid before was after now o e =
    let run = course (past_in mid) in
    let is : run.past ≡ reverse e.entries ++ past_in mid = ap (λ (r : Course). r.past) e.run ∙ (ap past_in e.puts.1 ∙ past_more mid number e.entries) in
    record { entries = e.entries; each = only_made P (past_in mid) run e.entries is o; adds = adds_puts number e.entries mid before was after now e.puts }

pub each_then : (P : Entry → Type 0) (a : List Made) (was : List ℕ) (b : List Made) (mid : List ℕ) (c : List Made) (now : List ℕ) → AddsEach P a was b mid → AddsEach P b mid c now → AddsEach P a was c now
each_then P a was b mid c now p q = record { entries = p.entries ++ q.entries; each = each_append P p.entries q.entries p.each q.each; adds = adds_then p.entries q.entries a was b mid c now p.adds q.adds }

-- a settle, and a round or a half of one, of whose turns each event has a property

only_part : (P : Event → Type 0) (part : Part) (g : Group) (lines : List WireLine) (past : List Entry) (e : Entity) → OfTurns P → Only P past (part_of part g lines (course_from past) e)
only_part P Whole g lines past e o = only_turn P g lines past (course_from past) e o (only_none P past)
only_part P Update g lines past e o = only_update P g lines past (course_from past) e o (only_none P past)
only_part P Monitor g lines past e o = only_poll P g lines past (course_from past) e o (only_none P past)

turns_only : (P : Event → Type 0) (part : Part) (g : Group) (lines : List WireLine) (number : ℕ) (es : List Entity) (before : List Made) (was : List ℕ) (after : List Made) (now : List ℕ) → OfTurns P → Turns part g lines number es before was after now → AddsEach (λ e. P e.event) before was after now
turns_only P part g lines number [] before was after now o t = each_none (λ e. P e.event) before was after now t.0 t.1
turns_only P part g lines number (x ∷ es) before was after now o t =
    each_then (λ e. P e.event) before was t.1 t.2 after now
    (enters_only P (λ past. part_of part g lines (course_from past) x) On number t.0 before was t.1 t.2 (only_part P part g lines (past_in t.0) x o) t.3)
    (turns_only P part g lines number es t.1 t.2 after now o t.4)

pub round_only : (P : Event → Type 0) (part : Part) (g : Group) (lines : List WireLine) (number : ℕ) (before : List Made) (was : List ℕ) (after : List Made) (now : List ℕ) → OfTurns P → RoundOf part g lines number before was after now → AddsEach (λ e. P e.event) before was after now
round_only P part g lines number before was after now o r =
    let f = r.0 in
    let seen : AddsEach (λ e. P e.event) before was f was = each_none (λ e. P e.event) before was f was r.1 refl in
    each_then (λ e. P e.event) before was f was after now seen (turns_only P part g lines number (unsettled g (past_in f)) f was after now o r.2)

-- or as far as the journal had room
pub round_full_only : (P : Event → Type 0) (part : Part) (g : Group) (lines : List WireLine) (number : ℕ) (before : List Made) (was : List ℕ) (after : List Made) (now : List ℕ) → OfTurns P → RoundToFull part g lines number before was after now → AddsEach (λ e. P e.event) before was after now
round_full_only P part g lines number before was after now o r =
    let f = r.0 in
    let t = r.2 in
    let seen : AddsEach (λ e. P e.event) before was f was = each_none (λ e. P e.event) before was f was r.1 refl in
    let done : AddsEach (λ e. P e.event) f was t.mid t.got = turns_only P part g lines number t.done f was t.mid t.got o t.turns in
    let last : AddsEach (λ e. P e.event) t.mid t.got after now =
    enters_only P (λ past. part_of part g lines (course_from past) t.last) Full number t.seen t.mid t.got after now (only_part P part g lines (past_in t.seen) t.last o) t.enters in
    each_then (λ e. P e.event) before was f was after now seen (each_then (λ e. P e.event) f was t.mid t.got after now done last)

rounds_only : (P : Event → Type 0) (g : Group) (lines : List WireLine) (number k : ℕ) (before : List Made) (was : List ℕ) (after : List Made) (now : List ℕ) → OfTurns P → RoundsMade g lines number k before was after now → AddsEach (λ e. P e.event) before was after now
rounds_only P g lines number zero before was after now o r = each_none (λ e. P e.event) before was after now r.0 r.1
rounds_only P g lines number (suc k) before was after now o r =
    each_then (λ e. P e.event) before was r.0 r.1 after now (round_only P Whole g lines number before was r.0 r.1 o r.2) (rounds_only P g lines number k r.0 r.1 after now o r.3)

-- an await: only checks, each with the reply that the journal called for

abbrev pub IsChecked : Group → Entry → Type 0
IsChecked g e = (past : List Entry) × (e ≡ entry_after g past Check)

checked_once : (g : Group) (ticket number : ℕ) (before : List Made) (was : List ℕ) (after : List Made) (now : List ℕ) → WentOn g ticket number before was after now → AddsEach (IsChecked g) before was after now
checked_once g ticket number before was after now w = ⊎_elim
    (λ (same : now ≡ was). each_none (IsChecked g) before was after now (prefix_trans before w.seen after w.later w.within) same)
    (λ (p : Puts number (entry_after g (past_in w.seen) Check ∷ []) w.seen w.seen was after now).
    let q : Puts number (entry_after g (past_in w.seen) Check ∷ []) w.seen before was after now = (w.later, p.1, p.2) in
    record { entries = entry_after g (past_in w.seen) Check ∷ []; each = ((past_in w.seen, refl), tt); adds = adds_puts number (entry_after g (past_in w.seen) Check ∷ []) w.seen before was after now q })
    w.made

waits_checked : (g : Group) (ticket number k : ℕ) (before : List Made) (was : List ℕ) (after : List Made) (now : List ℕ) → Waits g ticket number k before was after now → AddsEach (IsChecked g) before was after now
waits_checked g ticket number zero before was after now w = each_none (IsChecked g) before was after now w.0 w.1
waits_checked g ticket number (suc k) before was after now w = each_then (IsChecked g) before was w.0 w.1 after now (checked_once g ticket number before was w.0 w.1 w.2) (waits_checked g ticket number k w.0 w.1 after now w.3)

pub awaits_checked : (g : Group) (number : ℕ) (latest : Option ℕ) (before : List Made) (was : List ℕ) (after : List Made) (now : List ℕ) → Awaits latest g number before was after now → AddsEach (IsChecked g) before was after now
awaits_checked g number (Some ticket) before was after now w = waits_checked g ticket number w.0 before was after now w.2
awaits_checked g number None before was after now w = each_none (IsChecked g) before was after now w.0 w.1

checks_ask : (g : Group) (es : List Entry) → Each (IsChecked g) es → Each NoneAsks es
checks_ask g [] e = tt
checks_ask g (x ∷ es) e = (subst NoneAsks (sym e.0.1) (refl, refl), checks_ask g es e.1)

awaits_ask : (g : Group) (before : List Made) (was : List ℕ) (after : List Made) (now : List ℕ) → AddsEach (IsChecked g) before was after now → AddsEach NoneAsks before was after now
awaits_ask g before was after now a = record { entries = a.entries; each = checks_ask g a.entries a.each; adds = a.adds }

-- the legal journals before

pub legal_prefix : (g : Group) (before after : List Made) → IsPrefix before after → IsLegal g (past_in after) → IsLegal g (past_in before)
legal_prefix g before after p legal =
    let is : past_in after ≡ reverse (map (λ (m : Made). m.entry) p.0) ++ past_in before = ap past_in (sym p.1) ∙ (ap reverse (map-append (λ (m : Made). m.entry) before p.0) ∙ reverse-append (map (λ (m : Made). m.entry) before) (map (λ (m : Made). m.entry) p.0)) in
    legal_begun g (reverse (map (λ (m : Made). m.entry) p.0)) (past_in before) (subst (IsLegal g) is legal)

-- a proposal, and a request of one entry

one_entry : (number : ℕ) (act : Act) (g : Group) (event : Event) (mid before : List Made) (was : List ℕ) (after : List Made) (now : List ℕ) → request_by (record { 0 = number }) act ≡ Some event → is_request (asker event) ≡ true → is_submit event ≡ false
    → Enters (λ past. enter g (course_from past) event) On number mid before was after now → CommandAdds number act before was after now
one_entry number act g event mid before was after now asked is other e =
    let past = past_in mid in
    let new : past_in after ≡ reverse e.entries ++ past = ap past_in e.puts.1 ∙ past_more mid number e.entries in
    let w = was_entered g (course_from past) event (past_in after) e.run in
    let back : reverse e.entries ≡ entry_after g past event ∷ [] = append_cancel_right (reverse e.entries) (entry_after g past event ∷ []) past (sym new ∙ w.is) in
    let entries : e.entries ≡ entry_after g past event ∷ [] = sym (reverse-reverse e.entries) ∙ ap reverse back in
    let answers : AnswersTo (event ∷ []) (entry_after g past event ∷ []) = record { asks = rw is refl; queued = (λ (s : is_submit event ≡ true). let both : false ≡ true = sym other ∙ s in absurd (cc both), tt) } in
    record {
      entries = e.entries;
      answers = subst (λ (o : Option Event). AnswersTo (as_list o) e.entries) (sym asked) (subst (AnswersTo (event ∷ [])) (sym entries) answers);
      adds = adds_puts number e.entries mid before was after now e.puts;
    }

checks_none : (g : Group) (past first : List Entry) (b : Bool) → first ≡ (if b then entry_after g past Check ∷ [] else []) → Each NoneAsks (reverse first)
checks_none g past first true is = subst (λ (l : List Entry). Each NoneAsks (reverse l)) (sym is) ((refl, refl), tt)
checks_none g past first false is = subst (λ (l : List Entry). Each NoneAsks (reverse l)) (sym is) tt

propose_entries : (number n : ℕ) (rows : List Row) (g : Group) (mid before : List Made) (was : List ℕ) (after : List Made) (now : List ℕ) → IsLegal g (past_in mid)
    → Enters (λ past. proposed g (course_from past) (record { 0 = number }) rows) On number mid before was after now → CommandAdds number (Propose n rows) before was after now
propose_entries number n rows g mid before was after now legal e =
    let past = past_in mid in
    let submit : Event = Submit (record { 0 = number }) rows in
    let new : past_in after ≡ reverse e.entries ++ past = ap past_in e.puts.1 ∙ past_more mid number e.entries in
    let w = was_proposed g past (record { 0 = number }) rows (past_in after) legal e.run in
    let last = entry_after g (w.first ++ past) submit in
    let back : reverse e.entries ≡ last ∷ w.first = append_cancel_right (reverse e.entries) (last ∷ w.first) past (sym new ∙ w.all) in
    let entries : e.entries ≡ reverse w.first ++ last ∷ [] = sym (reverse-reverse e.entries) ∙ (ap reverse back ∙ reverse-append (last ∷ []) w.first) in
    let one : AnswersTo (submit ∷ []) (last ∷ []) = record { asks = refl; queued = (λ (s : true ≡ true). w.queued, tt) } in
    let all : AnswersTo (submit ∷ []) (reverse w.first ++ last ∷ []) = answers_append [] (submit ∷ []) (reverse w.first) (last ∷ []) (answers_none (reverse w.first) (checks_none g past w.first (length (pending past) == MAX_PENDING) w.checks)) one in
    record { entries = e.entries; answers = subst (AnswersTo (submit ∷ [])) (sym entries) all; adds = adds_puts number e.entries mid before was after now e.puts }

-- each command

enters_mid : (course : List Entry → Course) (number : ℕ) (mid before : List Made) (was : List ℕ) (after : List Made) (now : List ℕ) → Enters course On number mid before was after now → IsPrefix mid after
enters_mid course number mid before was after now e = (_, sym e.puts.1)

pub command_adds : (act : Act) (g : Group) (lines : List WireLine) (number : ℕ) (before : List Made) (was : List ℕ) (after : List Made) (now : List ℕ) → IsLegal g (past_in after) → ActEnters act g lines number before was after now → CommandAdds number act before was after now
command_adds (Propose n rows) g lines number before was after now legal e = propose_entries number n rows g e.0 before was after now (legal_prefix g e.0 after (enters_mid _ number e.0 before was after now e.1) legal) e.1
command_adds (Await n) g lines number before was after now legal e = none_added number (Await n) before was after now refl (awaits_ask g before was after now (awaits_checked g number (latest_in before was) before was after now e))
command_adds (Settle n rounds) g lines number before was after now legal e = none_added number (Settle n rounds) before was after now refl (each_then (λ e. NoRequest e.event) before was e.2 now after now
    (rounds_only NoRequest g lines number e.0 before was e.2 now no_turns e.3) (each_none (λ e. NoRequest e.event) e.2 now after now e.4 refl))
command_adds (Lock n entity prio) g lines number before was after now legal e = one_entry number (Lock n entity prio) g (lock_event (record { 0 = number }) entity prio) e.0 before was after now refl refl refl e.1
command_adds (Unlock n entity prio) g lines number before was after now legal e = one_entry number (Unlock n entity prio) g (unlock_event (record { 0 = number }) entity prio) e.0 before was after now refl refl refl e.1
command_adds (Read n entity var) g lines number before was after now legal e = none_added number (Read n entity var) before was after now refl (each_none NoneAsks before was after now (subst (IsPrefix before) (sym e.0) ([], append-nil before)) e.1)
command_adds (ReadAt n version entity var) g lines number before was after now legal e = none_added number (ReadAt n version entity var) before was after now refl (each_none NoneAsks before was after now e.0 e.1)
command_adds (Fail n entity health rows) g lines number before was after now legal e = none_added number (Fail n entity health rows) before was after now refl
    (enters_only NoRequest _ On number e.0 before was after now (only_enter NoRequest g (past_in e.0) (course_from (past_in e.0)) _ (refl, refl) (only_none NoRequest (past_in e.0))) e.1)
command_adds (Poll n entity) g lines number before was after now legal e = none_added number (Poll n entity) before was after now refl
    (enters_only NoRequest _ On number e.0 before was after now (only_poll NoRequest g lines (past_in e.0) (course_from (past_in e.0)) entity no_turns (only_none NoRequest (past_in e.0))) e.1)
command_adds (Span first first_rows second second_rows) g lines number before was after now legal e = absurd e
