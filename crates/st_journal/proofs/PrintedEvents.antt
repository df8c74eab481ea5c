-- The words of an event are read as the event.
use Rattle.std.proofs.Common.{◌≡◌, ℕ, ◌<◌, List, [], ◌∷◌, ◌++◌, length, refl, ap, sym, ◌∙◌, arith}
use Rattle.std.specs.Prelude.{Bool, true, false, ◌&&◌, ◌==◌, nat_le, nat_lt, ◌^◌, Some, Ok, bytes_eq, codes, decimal}
use Rattle.std.specs.List.{AllByRecursion}
use Rattle.std.proofs.lemmas.List.Elements.{recursion_from_All}
use Rattle.std.proofs.lemmas.Bool.Decides.{nat_tests}
use Rattle.std.proofs.lemmas.Slice.Eq.{bytes_eq-Decides}
use Rattle.st_text.specs.Numbers.{number_of}
use Rattle.st_text.specs.Words.{IsWord}
use Rattle.st_text.proofs.NumberLemmas.{numbers_again}
use Rattle.st_net.proofs.Tests.{both, at_most, equal_numbers}
use Rattle.st_net.specs.declared.entity.AppId.{AppId}
use Rattle.st_net.specs.declared.entity.Entity.{Entity}
use Rattle.st_net.specs.declared.entity.Entity.TheVariants.{Device, Link}
use Rattle.st_net.specs.declared.entity.Prio.{Prio}
use Rattle.st_net.specs.declared.entity.Prio.TheVariants.{Low, High}
use Rattle.st_net.specs.declared.entity.Row.{Row}
use Rattle.st_net.specs.declared.entity.Vals.{Vals}
use Rattle.st_net.specs.declared.entity.Var.{Var}
use Rattle.st_net.specs.declared.entity.Var.TheVariants.{Power, Firmware, Config, Routing, LinkPower, Iface}
use Rattle.st_net.specs.declared.topo.TheConstants.{MAX_ROWS}
use Rattle.st_net.specs.Names.{is_name}
use Rattle.st_net.specs.Entities.{vars_of}
use Rattle.st_net.specs.Groups.{Group, IsSound, IsEntityOf, name_of, find_in, no_vals}
use Rattle.st_net.specs.Ranges.{RowFits, RowsFit, is_in_range, are_in_range, is_health_of, most_health}
use Rattle.st_event.specs.declared.event.Event.{Event}
use Rattle.st_event.specs.declared.event.Event.TheVariants.{Submit, Check, Lock, Unlock, Send, Deliver, Finish, Report as make_report, Hear, Fail, Withdraw}
use Rattle.st_event.specs.Legal.{Fits, FailFits}
use Rattle.st_token.specs.Variables.{rows_in}
use Rattle.st_token.specs.Words.{prio_word, value_word}
use Rattle.st_token.specs.ReadingBack.{IsPrintable}
use Rattle.st_token.proofs.PrintedTokens.{name_word, number_is_word, prio_is_word, assignment_is_word, value_is_word, literal, ranged, number_again, within_again, prio_again, value_again, dot_cut}
use Rattle.st_token.proofs.PrintedRows.{rows_again, free_of_none}
use Rattle.st_token.proofs.FoundNames.{named}
use Rattle.st_token.specs.Places.{cut_at}
use Rattle.st_entry.specs.declared.keyword.EventWord.{EventWord}
use Rattle.st_entry.specs.declared.keyword.EventWord.TheVariants as events
use Rattle.st_entry.specs.Keywords.{event_word, reply_mark}
use Rattle.st_entry.specs.Words.{Words, app_word, assignment, assignment_words, value_words}
use Rattle.st_entry.specs.Entries.{event_words}
use Rattle.st_journal.specs.EntryWords.{event_named, takes_event_tokens}
use Rattle.st_journal.specs.EventReading.{vals_in, submit_of, check_of, lock_of, unlock_of, send_of, finish_of, report_of, deliver_of, hear_of, fail_of, withdraw_of, event_of, has_few_rows}
use Rattle.st_journal.specs.ReadingBack.{AreNames, IsByApp, HasSmallNumber}
use Rattle.st_journal.proofs.PrintedNames.{app_spelled, app_again, entity_spelled, entity_name_again}

-- an event that can be entered, and whose words say what it is
pub record IsSpelled (g : Group) (apps : List (List ℕ)) (event : Event) : Type 0 where
  pub fits : Fits g event
  pub app : IsByApp apps event
  pub number : HasSmallNumber event

-- the word of an event, and the words behind it
abbrev pub event_keyword : Event → EventWord
event_keyword (Submit app rows) = events.Submit
event_keyword Check = events.Check
event_keyword (Lock app e prio) = events.Lock
event_keyword (Unlock app e prio) = events.Unlock
event_keyword (Send e) = events.Send
event_keyword (Deliver n) = events.Deliver
event_keyword (Finish e) = events.Finish
event_keyword (make_report e) = events.Report
event_keyword (Hear n) = events.Hear
event_keyword (Fail e vals health) = events.Fail
event_keyword (Withdraw e) = events.Withdraw

abbrev pub event_args : Group → List (List ℕ) → Event → Words
event_args g apps (Submit app rows) = app_word apps app ∷ assignment_words g rows
event_args g apps Check = []
event_args g apps (Lock app e prio) = app_word apps app ∷ name_of g e ∷ prio_word prio ∷ []
event_args g apps (Unlock app e prio) = app_word apps app ∷ name_of g e ∷ prio_word prio ∷ []
event_args g apps (Send e) = name_of g e ∷ []
event_args g apps (Deliver n) = decimal n ∷ []
event_args g apps (Finish e) = name_of g e ∷ []
event_args g apps (make_report e) = name_of g e ∷ []
event_args g apps (Hear n) = decimal n ∷ []
event_args g apps (Fail e vals health) = name_of g e ∷ decimal health ∷ value_words e vals
event_args g apps (Withdraw e) = name_of g e ∷ []

pub event_words_are : (g : Group) (apps : List (List ℕ)) (event : Event) → event_words g apps event ≡ event_word (event_keyword event) ∷ event_args g apps event
event_words_are g apps (Submit app rows) = refl
event_words_are g apps Check = refl
event_words_are g apps (Lock app e prio) = refl
event_words_are g apps (Unlock app e prio) = refl
event_words_are g apps (Send e) = refl
event_words_are g apps (Deliver n) = refl
event_words_are g apps (Finish e) = refl
event_words_are g apps (make_report e) = refl
event_words_are g apps (Hear n) = refl
event_words_are g apps (Fail e vals health) = refl
event_words_are g apps (Withdraw e) = refl

pub event_named_again : (word : EventWord) → event_named (event_word word) ≡ Some word
unfolding event_named
event_named_again events.Submit = refl
event_named_again events.Check = refl
event_named_again events.Lock = refl
event_named_again events.Unlock = refl
event_named_again events.Send = refl
event_named_again events.Deliver = refl
event_named_again events.Finish = refl
event_named_again events.Report = refl
event_named_again events.Hear = refl
event_named_again events.Fail = refl
event_named_again events.Withdraw = refl

pub event_is_word : (word : EventWord) → IsWord (event_word word)
event_is_word events.Submit = literal (codes "submit") refl refl
event_is_word events.Check = literal (codes "check") refl refl
event_is_word events.Lock = literal (codes "lock") refl refl
event_is_word events.Unlock = literal (codes "unlock") refl refl
event_is_word events.Send = literal (codes "send") refl refl
event_is_word events.Deliver = literal (codes "deliver") refl refl
event_is_word events.Finish = literal (codes "finish") refl refl
event_is_word events.Report = literal (codes "report") refl refl
event_is_word events.Hear = literal (codes "hear") refl refl
event_is_word events.Fail = literal (codes "fail") refl refl
event_is_word events.Withdraw = literal (codes "withdraw") refl refl

-- tokens other than `:`
abbrev pub IsNoMark : List ℕ → Type 0
IsNoMark token = bytes_eq token reply_mark ≡ false

-- a test that can't be true
pub untrue : (b : Bool) → (b ≡ true → ⊥) → b ≡ false
untrue true isnt = absurd (isnt refl)
untrue false isnt = refl

unlike : (token : List ℕ) → (token ≡ reply_mark → ⊥) → IsNoMark token
unlike token isnt = untrue (bytes_eq token reply_mark) (λ e. isnt ((bytes_eq-Decides token reply_mark).0 e))

mark_is_no_name : is_name reply_mark ≡ true → ⊥
mark_is_no_name e = absurd cc

name_is_no_mark : (name : List ℕ) → is_name name ≡ true → IsNoMark name
name_is_no_mark name spelled = unlike name (λ (e : name ≡ reply_mark). mark_is_no_name (sym (ap is_name e) ∙ spelled))

number_is_no_mark : (n : ℕ) → n < 2 ^ 32 → IsNoMark (decimal n)
number_is_no_mark n less = unlike (decimal n) (λ (e : decimal n ≡ reply_mark). let same : number_of reply_mark ≡ Some n = sym (ap number_of e) ∙ numbers_again n less in absurd cc)

assignment_is_no_mark : (name rest : List ℕ) → is_name name ≡ true → IsNoMark (name ++ 46 ∷ rest)
assignment_is_no_mark name rest spelled = unlike (name ++ 46 ∷ rest) (λ (e : name ++ 46 ∷ rest ≡ reply_mark). let same : cut_at 46 reply_mark ≡ Some (name, rest) = sym (ap (cut_at 46) e) ∙ dot_cut name rest spelled in absurd cc)

prio_is_no_mark : (prio : Prio) → IsNoMark (prio_word prio)
prio_is_no_mark Low = refl
prio_is_no_mark High = refl

value_is_no_mark : (v : Var) (x : ℕ) → IsNoMark (value_word v x)
value_is_no_mark Power x = refl
value_is_no_mark Firmware x = refl
value_is_no_mark Config x = refl
value_is_no_mark Routing x = refl
value_is_no_mark LinkPower x = refl
value_is_no_mark Iface x = refl

pub event_is_no_mark : (word : EventWord) → IsNoMark (event_word word)
event_is_no_mark events.Submit = refl
event_is_no_mark events.Check = refl
event_is_no_mark events.Lock = refl
event_is_no_mark events.Unlock = refl
event_is_no_mark events.Send = refl
event_is_no_mark events.Deliver = refl
event_is_no_mark events.Finish = refl
event_is_no_mark events.Report = refl
event_is_no_mark events.Hear = refl
event_is_no_mark events.Fail = refl
event_is_no_mark events.Withdraw = refl

module _ (g : Group) (apps : List (List ℕ)) (sound : IsSound g) (are : AreNames apps) where
  printable : (rows : List Row) → AllByRecursion (RowFits g) rows → AllByRecursion (IsPrintable (find_in g) (name_of g)) rows
  printable [] fits = tt
  printable (row ∷ rows) fits = (record { named = named g row.entity sound fits.0.entity; range = fits.0.range }, printable rows fits.1)

  pub assigned_again : (rows : List Row) → RowsFit g rows → rows_in (find_in g) [] (assignment_words g rows) ≡ Ok rows
  assigned_again rows fits = rows_again (find_in g) (name_of g) [] rows (printable rows (recursion_from_All (RowFits g) rows fits.each)) fits.apart (free_of_none rows)

  submit_again : (app : AppId) (rows : List Row) → RowsFit g rows → app.0 < length apps → submit_of g apps (app_word apps app ∷ assignment_words g rows) ≡ Ok (Submit app rows)
  unfolding submit_of
  submit_again app [] fits low = absurd (omega (arith, fits.some))
  submit_again app (row ∷ rows) fits low = rw (app_again apps app are low, assigned_again (row ∷ rows) fits) refl

  lock_again : (app : AppId) (e : Entity) (prio : Prio) → IsEntityOf g e → app.0 < length apps → lock_of g apps (app_word apps app ∷ name_of g e ∷ prio_word prio ∷ []) ≡ Ok (Lock app e prio)
  unfolding lock_of
  lock_again app e prio within low = rw (app_again apps app are low, entity_name_again g e sound within, prio_again prio) refl

  unlock_again : (app : AppId) (e : Entity) (prio : Prio) → IsEntityOf g e → app.0 < length apps → unlock_of g apps (app_word apps app ∷ name_of g e ∷ prio_word prio ∷ []) ≡ Ok (Unlock app e prio)
  unfolding unlock_of
  unlock_again app e prio within low = rw (app_again apps app are low, entity_name_again g e sound within, prio_again prio) refl

  send_again : (e : Entity) → IsEntityOf g e → send_of g (name_of g e ∷ []) ≡ Ok (Send e)
  unfolding send_of
  send_again e within = rw (entity_name_again g e sound within) refl

  finish_again : (e : Entity) → IsEntityOf g e → finish_of g (name_of g e ∷ []) ≡ Ok (Finish e)
  unfolding finish_of
  finish_again e within = rw (entity_name_again g e sound within) refl

  report_again : (e : Entity) → IsEntityOf g e → report_of g (name_of g e ∷ []) ≡ Ok (make_report e)
  unfolding report_of
  report_again e within = rw (entity_name_again g e sound within) refl

  withdraw_again : (e : Entity) → IsEntityOf g e → withdraw_of g (name_of g e ∷ []) ≡ Ok (Withdraw e)
  unfolding withdraw_of
  withdraw_again e within = rw (entity_name_again g e sound within) refl

  deliver_again : (n : ℕ) → n < 2 ^ 32 → deliver_of (decimal n ∷ []) ≡ Ok (Deliver n)
  unfolding deliver_of
  deliver_again n less = rw (number_again n less) refl

  hear_again : (n : ℕ) → n < 2 ^ 32 → hear_of (decimal n ∷ []) ≡ Ok (Hear n)
  unfolding hear_of
  hear_again n less = rw (number_again n less) refl

  check_again : check_of [] ≡ Ok Check
  unfolding check_of
  check_again = refl

abbrev vals_of : ℕ → ℕ → ℕ → ℕ → Vals
vals_of v0 v1 v2 v3 = record { v0 = v0; v1 = v1; v2 = v2; v3 = v3 }

two_kept : (v0 v1 v2 v3 : ℕ) → v2 ≡ 0 → v3 ≡ 0 → vals_of v0 v1 0 0 ≡ vals_of v0 v1 v2 v3
two_kept v0 v1 v2 v3 p q = rw (p, q) refl

-- the values of an entity, all of them in order
vals_again : (e : Entity) (vals : Vals) → are_in_range e vals ≡ true → vals_in e no_vals (vars_of e) (value_words e vals) ≡ Ok vals
unfolding vals_in
vals_again (Device i) vals range =
    let last = both (nat_le vals.v0 1 && nat_lt vals.v1 (2 ^ 32) && nat_lt vals.v2 (2 ^ 32)) (nat_le vals.v3 1) range in
    let third = both (nat_le vals.v0 1 && nat_lt vals.v1 (2 ^ 32)) (nat_lt vals.v2 (2 ^ 32)) last.0 in
    let second = both (nat_le vals.v0 1) (nat_lt vals.v1 (2 ^ 32)) third.0 in
    rw (value_again (Device i) Power vals.v0 second.0, value_again (Device i) Firmware vals.v1 second.1, value_again (Device i) Config vals.v2 third.1, value_again (Device i) Routing vals.v3 last.1) refl
vals_again (Link i) vals range =
    let last = both (nat_le vals.v0 1 && nat_lt vals.v1 (2 ^ 32) && vals.v2 == 0) (vals.v3 == 0) range in
    let third = both (nat_le vals.v0 1 && nat_lt vals.v1 (2 ^ 32)) (vals.v2 == 0) last.0 in
    let second = both (nat_le vals.v0 1) (nat_lt vals.v1 (2 ^ 32)) third.0 in
    let two : vals.v2 ≡ 0 = equal_numbers vals.v2 0 third.1 in
    let three : vals.v3 ≡ 0 = equal_numbers vals.v3 0 last.1 in
    rw (value_again (Link i) LinkPower vals.v0 second.0, value_again (Link i) Iface vals.v1 second.1) (ap Ok (two_kept vals.v0 vals.v1 vals.v2 vals.v3 two three))

healthy : (e : Entity) (health : ℕ) → is_health_of e health ≡ true → (health < 2 ^ 32) × ((nat_le 0 health && nat_le health (most_health e)) ≡ true)
healthy (Device i) health level = let low : nat_le health 5 ≡ true = level in (grind (arith, nat_tests), rw (at_most 0 health (omega arith), level) refl)
healthy (Link i) health level = let low : nat_le health 1 ≡ true = level in (grind (arith, nat_tests), rw (at_most 0 health (omega arith), level) refl)

-- a failure names one value at least
fail_by : (g : Group) (e : Entity) (vals : Vals) (health : ℕ) → IsSound g → FailFits g e vals health → (token : List ℕ) (tokens : Words) → value_words e vals ≡ token ∷ tokens → fail_of g (name_of g e ∷ decimal health ∷ token ∷ tokens) ≡ Ok (Fail e vals health)
unfolding fail_of
fail_by g e vals health sound fits token tokens same =
    let level = healthy e health fits.level in
    rw (entity_name_again g e sound fits.entity, within_again 0 (most_health e) health level.0 level.1, ← same, vals_again e vals fits.range) refl

fail_again : (g : Group) (e : Entity) (vals : Vals) (health : ℕ) → IsSound g → FailFits g e vals health → fail_of g (name_of g e ∷ decimal health ∷ value_words e vals) ≡ Ok (Fail e vals health)
fail_again g (Device i) vals health sound fits = fail_by g (Device i) vals health sound fits _ _ refl
fail_again g (Link i) vals health sound fits = fail_by g (Link i) vals health sound fits _ _ refl

-- the words behind the word of an event say the event
pub event_again : (g : Group) (apps : List (List ℕ)) (event : Event) → IsSound g → AreNames apps → IsSpelled g apps event → event_of g apps (event_keyword event) (event_args g apps event) ≡ Ok event
event_again g apps (Submit app rows) sound are is = submit_again g apps sound are app rows is.fits is.app
event_again g apps Check sound are is = check_again g apps sound are
event_again g apps (Lock app e prio) sound are is = lock_again g apps sound are app e prio is.fits is.app
event_again g apps (Unlock app e prio) sound are is = unlock_again g apps sound are app e prio is.fits is.app
event_again g apps (Send e) sound are is = send_again g apps sound are e is.fits
event_again g apps (Deliver n) sound are is = deliver_again g apps sound are n is.number
event_again g apps (Finish e) sound are is = finish_again g apps sound are e is.fits
event_again g apps (make_report e) sound are is = report_again g apps sound are e is.fits
event_again g apps (Hear n) sound are is = hear_again g apps sound are n is.number
event_again g apps (Fail e vals health) sound are is = fail_again g e vals health sound is.fits
event_again g apps (Withdraw e) sound are is = withdraw_again g apps sound are e is.fits

-- they are as many as the event takes
pub event_counted : (g : Group) (apps : List (List ℕ)) (event : Event) → IsSpelled g apps event → takes_event_tokens (event_keyword event) (length (event_args g apps event)) ≡ true
event_counted g apps (Submit app []) is = absurd (omega (arith, is.fits.some))
event_counted g apps (Submit app (row ∷ rows)) is = at_most 2 (length (app_word apps app ∷ assignment g row ∷ assignment_words g rows)) (omega arith)
event_counted g apps Check is = refl
event_counted g apps (Lock app e prio) is = refl
event_counted g apps (Unlock app e prio) is = refl
event_counted g apps (Send e) is = refl
event_counted g apps (Deliver n) is = refl
event_counted g apps (Finish e) is = refl
event_counted g apps (make_report e) is = refl
event_counted g apps (Hear n) is = refl
event_counted g apps (Fail (Device i) vals health) is = refl
event_counted g apps (Fail (Link i) vals health) is = refl
event_counted g apps (Withdraw e) is = refl

pub few_rows : (g : Group) (event : Event) → Fits g event → has_few_rows event ≡ true
few_rows g (Submit app rows) fits = at_most (length rows) MAX_ROWS fits.few
few_rows g Check fits = refl
few_rows g (Lock app e prio) fits = refl
few_rows g (Unlock app e prio) fits = refl
few_rows g (Send e) fits = refl
few_rows g (Deliver n) fits = refl
few_rows g (Finish e) fits = refl
few_rows g (make_report e) fits = refl
few_rows g (Hear n) fits = refl
few_rows g (Fail e vals health) fits = refl
few_rows g (Withdraw e) fits = refl

-- each of them can stand in a line, and none is `:`
pub record IsEventToken (token : List ℕ) : Type 0 where
  pub word : IsWord token
  pub unmarked : IsNoMark token

abbrev AreTokens : Words → Type 0
AreTokens tokens = AllByRecursion IsEventToken tokens

name_token : (name : List ℕ) → is_name name ≡ true → IsEventToken name
name_token name spelled = record { word = name_word name spelled; unmarked = name_is_no_mark name spelled }

number_token : (n : ℕ) → n < 2 ^ 32 → IsEventToken (decimal n)
number_token n less = record { word = number_is_word n less; unmarked = number_is_no_mark n less }

prio_token : (prio : Prio) → IsEventToken (prio_word prio)
prio_token prio = record { word = prio_is_word prio; unmarked = prio_is_no_mark prio }

value_token : (e : Entity) (v : Var) (x : ℕ) → is_in_range e v x ≡ true → IsEventToken (value_word v x)
value_token e v x range = record { word = value_is_word v x (ranged e v x range).1; unmarked = value_is_no_mark v x }

row_tokens : (g : Group) (rows : List Row) → IsSound g → AllByRecursion (RowFits g) rows → AreTokens (assignment_words g rows)
row_tokens g [] sound fits = tt
row_tokens g (row ∷ rows) sound fits =
    let spelled = entity_spelled g row.entity sound fits.0.entity in (
      record {
        word = assignment_is_word (name_of g row.entity) row.var row.value spelled (ranged row.entity row.var row.value fits.0.range).1;
        unmarked = assignment_is_no_mark (name_of g row.entity) (value_word row.var row.value) spelled;
      },
      row_tokens g rows sound fits.1,
    )

value_tokens : (e : Entity) (vals : Vals) → are_in_range e vals ≡ true → AreTokens (value_words e vals)
value_tokens (Device i) vals range =
    let last = both (nat_le vals.v0 1 && nat_lt vals.v1 (2 ^ 32) && nat_lt vals.v2 (2 ^ 32)) (nat_le vals.v3 1) range in
    let third = both (nat_le vals.v0 1 && nat_lt vals.v1 (2 ^ 32)) (nat_lt vals.v2 (2 ^ 32)) last.0 in
    let second = both (nat_le vals.v0 1) (nat_lt vals.v1 (2 ^ 32)) third.0 in
    (value_token (Device i) Power vals.v0 second.0, (value_token (Device i) Firmware vals.v1 second.1, (value_token (Device i) Config vals.v2 third.1, (value_token (Device i) Routing vals.v3 last.1, tt))))
value_tokens (Link i) vals range =
    let last = both (nat_le vals.v0 1 && nat_lt vals.v1 (2 ^ 32) && vals.v2 == 0) (vals.v3 == 0) range in
    let third = both (nat_le vals.v0 1 && nat_lt vals.v1 (2 ^ 32)) (vals.v2 == 0) last.0 in
    let second = both (nat_le vals.v0 1) (nat_lt vals.v1 (2 ^ 32)) third.0 in
    (value_token (Link i) LinkPower vals.v0 second.0, (value_token (Link i) Iface vals.v1 second.1, tt))

args_are_tokens : (g : Group) (apps : List (List ℕ)) (event : Event) → IsSound g → AreNames apps → IsSpelled g apps event → AreTokens (event_args g apps event)
args_are_tokens g apps (Submit app rows) sound are is = (name_token (app_word apps app) (app_spelled apps app are is.app), row_tokens g rows sound (recursion_from_All (RowFits g) rows is.fits.each))
args_are_tokens g apps Check sound are is = tt
args_are_tokens g apps (Lock app e prio) sound are is = (name_token (app_word apps app) (app_spelled apps app are is.app), (name_token (name_of g e) (entity_spelled g e sound is.fits), (prio_token prio, tt)))
args_are_tokens g apps (Unlock app e prio) sound are is = (name_token (app_word apps app) (app_spelled apps app are is.app), (name_token (name_of g e) (entity_spelled g e sound is.fits), (prio_token prio, tt)))
args_are_tokens g apps (Send e) sound are is = (name_token (name_of g e) (entity_spelled g e sound is.fits), tt)
args_are_tokens g apps (Deliver n) sound are is = (number_token n is.number, tt)
args_are_tokens g apps (Finish e) sound are is = (name_token (name_of g e) (entity_spelled g e sound is.fits), tt)
args_are_tokens g apps (make_report e) sound are is = (name_token (name_of g e) (entity_spelled g e sound is.fits), tt)
args_are_tokens g apps (Hear n) sound are is = (number_token n is.number, tt)
args_are_tokens g apps (Fail e vals health) sound are is = (name_token (name_of g e) (entity_spelled g e sound is.fits.entity), (number_token health (healthy e health is.fits.level).0, value_tokens e vals is.fits.range))
args_are_tokens g apps (Withdraw e) sound are is = (name_token (name_of g e) (entity_spelled g e sound is.fits), tt)

pub event_tokens : (g : Group) (apps : List (List ℕ)) (event : Event) → IsSound g → AreNames apps → IsSpelled g apps event → AllByRecursion IsEventToken (event_word (event_keyword event) ∷ event_args g apps event)
event_tokens g apps event sound are is = (record { word = event_is_word (event_keyword event); unmarked = event_is_no_mark (event_keyword event) }, args_are_tokens g apps event sound are is)
