-- What an event says, by the tokens behind its word, or the first kind that applies to these. Each `do` line is one test, and they stand in the
-- order of the tokens.
use Rattle.std.specs.Prelude.{ℕ, List, [], ◌∷◌, Bool, true, nat_le, length, Result, Ok, Err}
use Rattle.st_net.specs.declared.entity.AppId.{AppId}
use Rattle.st_net.specs.declared.entity.Entity.{Entity}
use Rattle.st_net.specs.declared.entity.Var.{Var}
use Rattle.st_net.specs.declared.entity.Vals.{Vals}
use Rattle.st_net.specs.declared.topo.TheConstants.{MAX_ROWS}
use Rattle.st_net.specs.Entities.{vars_of, value_set}
use Rattle.st_net.specs.Groups.{Group, find_in, no_vals}
use Rattle.st_net.specs.Ranges.{most_health}
use Rattle.st_event.specs.declared.event.Event.{Event}
use Rattle.st_event.specs.declared.event.Event.TheVariants.{Submit, Check, Lock, Unlock, Send, Deliver, Finish, Report as make_report, Hear, Fail, Withdraw}
use Rattle.st_token.specs.declared.fault.FaultKind.{FaultKind}
use Rattle.st_token.specs.declared.fault.FaultKind.TheVariants as kinds
use Rattle.st_token.specs.Steps.{◌>>=◌}
use Rattle.st_token.specs.Counts.{none_of, one_of, three_of, one_and_some_of, two_and_some_of}
use Rattle.st_token.specs.Spelling.{known_name_in, entity_in, number_in, number_within, prio_in}
use Rattle.st_token.specs.Variables.{value_in, rows_in}
use Rattle.st_entry.specs.declared.keyword.EventWord.{EventWord}
use Rattle.st_entry.specs.declared.keyword.EventWord.TheVariants as events

-- an application, by its name
unfoldable pub app_in : List (List ℕ) → List ℕ → Result AppId FaultKind
app_in apps token = do
  place ← known_name_in apps token
  Ok (record { 0 = place })

-- the values of these variables, each by its token: one on each, in order
unfoldable pub vals_in : Entity → Vals → List Var → List (List ℕ) → Result Vals FaultKind
vals_in e vals [] [] = Ok vals
vals_in e vals [] (token ∷ tokens) = Err kinds.Value
vals_in e vals (var ∷ vars) [] = Err kinds.Value
vals_in e vals (var ∷ vars) (token ∷ tokens) = do
  n ← value_in e var token
  vals_in e (value_set e vals var n) vars tokens

-- `submit APP ASSIGNMENT..`
unfoldable pub submit_of : Group → List (List ℕ) → List (List ℕ) → Result Event FaultKind
submit_of g apps args = do
  words ← one_and_some_of args
  app ← app_in apps words.0
  rows ← rows_in (find_in g) [] words.1
  Ok (Submit app rows)

-- `check`
unfoldable pub check_of : List (List ℕ) → Result Event FaultKind
check_of args = do
  none ← none_of args
  Ok Check

-- `lock APP ENTITY PRIO` and `unlock APP ENTITY PRIO`
unfoldable pub lock_of : Group → List (List ℕ) → List (List ℕ) → Result Event FaultKind
lock_of g apps args = do
  words ← three_of args
  app ← app_in apps words.0
  e ← entity_in (find_in g) words.1
  prio ← prio_in words.2
  Ok (Lock app e prio)

unfoldable pub unlock_of : Group → List (List ℕ) → List (List ℕ) → Result Event FaultKind
unlock_of g apps args = do
  words ← three_of args
  app ← app_in apps words.0
  e ← entity_in (find_in g) words.1
  prio ← prio_in words.2
  Ok (Unlock app e prio)

-- `send ENTITY`, `finish ENTITY`, `report ENTITY` and `withdraw ENTITY`
unfoldable pub send_of : Group → List (List ℕ) → Result Event FaultKind
send_of g args = do
  word ← one_of args
  e ← entity_in (find_in g) word
  Ok (Send e)

unfoldable pub finish_of : Group → List (List ℕ) → Result Event FaultKind
finish_of g args = do
  word ← one_of args
  e ← entity_in (find_in g) word
  Ok (Finish e)

unfoldable pub report_of : Group → List (List ℕ) → Result Event FaultKind
report_of g args = do
  word ← one_of args
  e ← entity_in (find_in g) word
  Ok (make_report e)

unfoldable pub withdraw_of : Group → List (List ℕ) → Result Event FaultKind
withdraw_of g args = do
  word ← one_of args
  e ← entity_in (find_in g) word
  Ok (Withdraw e)

-- `deliver N` and `hear N`
unfoldable pub deliver_of : List (List ℕ) → Result Event FaultKind
deliver_of args = do
  word ← one_of args
  n ← number_in word
  Ok (Deliver n)

unfoldable pub hear_of : List (List ℕ) → Result Event FaultKind
hear_of args = do
  word ← one_of args
  n ← number_in word
  Ok (Hear n)

-- `fail ENTITY N VAR=N..`
unfoldable pub fail_of : Group → List (List ℕ) → Result Event FaultKind
fail_of g args = do
  words ← two_and_some_of args
  e ← entity_in (find_in g) words.0
  health ← number_within 0 (most_health e) words.1
  vals ← vals_in e no_vals (vars_of e) words.2
  Ok (Fail e vals health)

-- what the event of a word says
abbrev pub event_of : Group → List (List ℕ) → EventWord → List (List ℕ) → Result Event FaultKind
event_of g apps events.Submit args = submit_of g apps args
event_of g apps events.Check args = check_of args
event_of g apps events.Lock args = lock_of g apps args
event_of g apps events.Unlock args = unlock_of g apps args
event_of g apps events.Send args = send_of g args
event_of g apps events.Deliver args = deliver_of args
event_of g apps events.Finish args = finish_of g args
event_of g apps events.Report args = report_of g args
event_of g apps events.Hear args = hear_of args
event_of g apps events.Fail args = fail_of g args
event_of g apps events.Withdraw args = withdraw_of g args

-- a proposal has at most 16 rows
abbrev pub has_few_rows : Event → Bool
has_few_rows (Submit app rows) = nat_le (length rows) MAX_ROWS
has_few_rows Check = true
has_few_rows (Lock app e prio) = true
has_few_rows (Unlock app e prio) = true
has_few_rows (Send e) = true
has_few_rows (Deliver n) = true
has_few_rows (Finish e) = true
has_few_rows (make_report e) = true
has_few_rows (Hear n) = true
has_few_rows (Fail e vals health) = true
has_few_rows (Withdraw e) = true
