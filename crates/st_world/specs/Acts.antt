-- What an application's act does to its group: the events, one after another, each with the reply that is called for; and what an act that reads
-- sees.
use Rattle.std.specs.Prelude.{ℕ, zero, suc, Bool, true, false, ◌==◌, nat_le, List, [], ◌∷◌, length, Option, Some, None, unwrap_or, if◌then◌else◌}
use Rattle.std.specs.List.{list_any}
use Rattle.st_net.specs.declared.entity.AppId.{AppId}
use Rattle.st_net.specs.declared.entity.Entity.{Entity}
use Rattle.st_net.specs.declared.entity.Row.{Row}
use Rattle.st_net.specs.declared.entity.Vals.{Vals}
use Rattle.st_net.specs.declared.entity.Var.{Var}
use Rattle.st_net.specs.Entities.{value_of, vals_by}
use Rattle.st_net.specs.Groups.{Group, IsEntityOf}
use Rattle.st_net.specs.Merge.{row_on}
use Rattle.st_net.specs.Ranges.{RowsFit, IsVariableOf, IsChangeOf}
use Rattle.st_event.specs.declared.act.Act.{Act}
use Rattle.st_event.specs.declared.act.Act.TheVariants.{Propose, Await, Settle, Lock, Unlock, Read, ReadAt, Fail, Poll, Span}
use Rattle.st_event.specs.declared.act.LogEntry.{LogEntry}
use Rattle.st_event.specs.declared.act.LogSaw.{LogSaw}
use Rattle.st_event.specs.declared.act.LogSaw.TheVariants.{Seen, At, NoVersion}
use Rattle.st_event.specs.declared.event.Event.TheVariants.{Submit, Check, Lock as lock_event, Unlock as unlock_event, Fail as fail_event}
use Rattle.st_event.specs.declared.event.Proposal.{Proposal}
use Rattle.st_event.specs.declared.journal.TheConstants.{MAX_PENDING}
use Rattle.st_event.specs.History.{History}
use Rattle.st_event.specs.Moments.{vals}
use Rattle.st_event.specs.Proposals.{pending, version, target}
use Rattle.st_event.specs.Versions.{value_at}
use Rattle.st_wire.specs.declared.line.WireLine.{WireLine}
use Rattle.st_world.specs.Rounds.{Course, course_from, enter, poll, turns, unsettled}

-- checks, at most n, while what is pending passes
unfoldable pub checked_while : Group → (List Proposal → Bool) → ℕ → Course → Course
checked_while g waits zero course = course
checked_while g waits (suc n) course = if waits (pending course.past) then checked_while g waits n (enter g course Check) else course

-- whether some proposal is pending, and whether one of an application is. The oldest is decided first: so an application's latest proposal is
-- pending exactly where one of the application's proposals is
abbrev pub is_something : List Proposal → Bool
is_something [] = false
is_something (p ∷ ps) = true

abbrev pub has_one_of : AppId → List Proposal → Bool
has_one_of app ps = list_any (λ p. p.app.0 == app.0) ps

-- checks while some proposal is pending, and while one of an application is: no more than 64 proposals are pending
abbrev pub all_checked : Group → Course → Course
all_checked g course = checked_while g is_something MAX_PENDING course

abbrev pub awaited : Group → Course → AppId → Course
awaited g course app = checked_while g (has_one_of app) MAX_PENDING course

-- a check first where 64 proposals are pending
abbrev pub with_room : Group → Course → Course
with_room g course = if length (pending course.past) == MAX_PENDING then enter g course Check else course

-- a proposal, for which there is room
abbrev pub proposed : Group → Course → AppId → List Row → Course
proposed g course app rows = enter g (with_room g course) (Submit app rows)

-- a proposal, and directly behind it a check
abbrev pub decided_now : Group → Course → AppId → List Row → Course
decided_now g course app rows = enter g (enter g course (Submit app rows)) Check

-- rounds, at most n, while some entity is not settled
abbrev pub is_none_left : List Entity → Bool
is_none_left [] = true
is_none_left (e ∷ es) = false

unfoldable pub rounds_done : Group → List WireLine → ℕ → Course → Course
rounds_done g lines zero course = course
rounds_done g lines (suc n) course = if is_none_left (unsettled g course.past) then course else rounds_done g lines n (turns g lines course (unsettled g course.past))

-- what an entity's values become where these rows name some of the variables: the others stay
abbrev pub failed_vals : Entity → Vals → List Row → Vals
failed_vals e vals rows = vals_by e vals (λ v. unwrap_or (row_on rows e v) (value_of e vals v))

-- the entity changes of itself: to this health, and to the values that rows name
abbrev pub failed : Group → Course → Entity → ℕ → List Row → Course
failed g course e health rows = enter g course (fail_event e (failed_vals e (vals g course.past e) rows) health)

-- the group of an act; of a span, which is over two, the first
abbrev pub group_number : Act → ℕ
group_number (Propose n rows) = n
group_number (Await n) = n
group_number (Settle n rounds) = n
group_number (Lock n entity prio) = n
group_number (Unlock n entity prio) = n
group_number (Read n entity var) = n
group_number (ReadAt n version entity var) = n
group_number (Fail n entity health rows) = n
group_number (Poll n entity) = n
group_number (Span first first_rows second second_rows) = first

-- what an act of an application makes of its group, whose loss plan has these lines
abbrev pub course_of : AppId → Act → Group → List WireLine → Course → Course
course_of app (Propose n rows) g lines course = proposed g course app rows
course_of app (Await n) g lines course = awaited g course app
course_of app (Settle n rounds) g lines course = rounds_done g lines rounds course
course_of app (Lock n entity prio) g lines course = enter g course (lock_event app entity prio)
course_of app (Unlock n entity prio) g lines course = enter g course (unlock_event app entity prio)
course_of app (Fail n entity health rows) g lines course = failed g course entity health rows
course_of app (Poll n entity) g lines course = poll g lines course entity
course_of app (Read n entity var) g lines course = course
course_of app (ReadAt n version entity var) g lines course = course
course_of app (Span first first_rows second second_rows) g lines course = course

-- what the act makes of its group from where the group stands
abbrev pub act_course : AppId → Act → History → List WireLine → Course
act_course app act h lines = course_of app act h.group lines (course_from h.past)

-- what is seen of a variable: the value in the target now, and the value at a version, if there is that version
abbrev pub seen_now : History → Entity → Var → LogSaw
seen_now h entity var = Seen (version h.past) (target h.group h.past entity var)

abbrev pub seen_at : History → ℕ → Entity → Var → LogSaw
seen_at h v entity var = if nat_le v (version h.past) then At v (value_at h.group h.past v entity var) else NoVersion v (version h.past)

-- the line that an act adds to its application's log, if the act reads
abbrev pub seen_by : Act → History → Option LogEntry
seen_by (Read n entity var) h = Some (record { group = n; entity = entity; var = var; saw = seen_now h entity var })
seen_by (ReadAt n v entity var) h = Some (record { group = n; entity = entity; var = var; saw = seen_at h v entity var })
seen_by _ h = None

-- an act fits its group; a span fits none, since no group does it alone
abbrev pub ActFits : Act → Group → Type 0
ActFits (Propose n rows) g = RowsFit g rows
ActFits (Lock n entity prio) g = IsEntityOf g entity
ActFits (Unlock n entity prio) g = IsEntityOf g entity
ActFits (Read n entity var) g = IsVariableOf entity var g
ActFits (ReadAt n v entity var) g = IsVariableOf entity var g
ActFits (Fail n entity health rows) g = IsChangeOf entity health rows g
ActFits (Poll n entity) g = IsEntityOf g entity
ActFits (Await n) g = Unit {0}
ActFits (Settle n rounds) g = Unit {0}
ActFits (Span first first_rows second second_rows) g = ⊥
