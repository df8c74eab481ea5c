-- What leads the groups of a document back to a version, and what is told of it.
use Rattle.std.specs.Prelude.{◌≡◌, ℕ, ◌+◌, List, [], ◌∷◌, ◌++◌, map, true, Some, None, is_some, codes, decimal, if◌then◌else◌}
use Rattle.st_text.specs.Words.{text_of}
use Rattle.st_net.specs.declared.entity.AppId.{AppId}
use Rattle.st_net.specs.declared.entity.Row.{Row}
use Rattle.st_event.specs.declared.act.Log.{Log}
use Rattle.st_event.specs.declared.event.Event.{Event}
use Rattle.st_event.specs.declared.event.Event.TheVariants.{Submit, Check}
use Rattle.st_event.specs.declared.journal.Entry.{Entry}
use Rattle.st_event.specs.declared.reply.Receipt.{Receipt}
use Rattle.st_event.specs.declared.reply.Reply.TheVariants.{Queued, Decided}
use Rattle.st_event.specs.declared.reply.Verdict.{Verdict}
use Rattle.st_event.specs.History.{History}
use Rattle.st_event.specs.Judge.{judge}
use Rattle.st_event.specs.Locks.{holder}
use Rattle.st_event.specs.Observed.{observed, sure, sure_after}
use Rattle.st_event.specs.Proposals.{is_accepted, target, version}
use Rattle.st_event.specs.Versions.{value_at}
use Rattle.st_grammar.specs.declared.doc.Doc.{Doc}
use Rattle.st_entry.specs.Words.{Words}
use Rattle.st_world.specs.Rounds.{Course, course_from, enter_all}
use Rattle.st_report.specs.Text.{report_text_of}
use Rattle.st_replay.specs.Replaying.{app_names}
use Rattle.st_revert.specs.declared.back.Revert.{Revert}
use Rattle.st_revert.specs.declared.back.Revert.TheVariants.{Rows, NoVersion, Same, TooMany}
use Rattle.st_revert.specs.Back.{back, revert_after}
use Rattle.st_serial.specs.Serial.{Checked, GroupState, Run, serial_end, state_at, with_checked, with_group}

-- the application that asks for the rows: the document's first. One without applications overlays nothing, and so gives no rows
abbrev pub first_app : AppId
first_app = record { 0 = 0 }

-- how a group gets back to version n
abbrev pub answer_in : ℕ → GroupState → Revert
answer_in n s = revert_after s.history.group s.history.past n

-- where there are rows they are submitted and checked
abbrev pub asked_by : Revert → List Event
asked_by (Rows rows) = Submit first_app rows ∷ Check ∷ []
asked_by (NoVersion latest) = []
asked_by Same = []
asked_by (TooMany rows) = []

abbrev pub course_back : ℕ → GroupState → Course
course_back n s = enter_all s.history.group (course_from s.history.past) (asked_by (answer_in n s))

-- groups that are numbered from m on are led back in order, as far as no journal is full
abbrev pub all_led_back : ℕ → ℕ → List GroupState → Checked
all_led_back n m [] = record { groups = []; full = None }
all_led_back n m (s ∷ ss) =
    let course = course_back n s in
    if course.stopped then record { groups = state_at s course ∷ ss; full = Some m } else with_group (state_at s course) (all_led_back n (m + 1) ss)

-- a run whose groups are led back, where it met no full journal
abbrev pub led_back : ℕ → Run → Run
led_back n run = if is_some run.full then run else with_checked run (all_led_back n 0 run.groups)

-- the scripts of a document, and then its groups led back
abbrev pub reverted : ℕ → Doc → Run
reverted n doc = led_back n (serial_end doc)

-- a group with more entries, the newest first
abbrev pub with_entries : GroupState → List Entry → GroupState
with_entries s more = record s { history = record s.history { past = more ++ s.history.past } }

-- the verdict on an application's rows, as a group stands
abbrev pub verdict_on : History → AppId → List Row → Verdict
verdict_on h app rows = judge h.group (observed h.group h.past) (target h.group h.past) (holder h.past) (sure h.group h.past) (sure_after h.group h.past rows) (version h.past) app rows

-- the rows that lead a group back were submitted and checked. The verdict is what is called for where the group stood; and where it accepts,
-- the target is that of version n
pub record IsAsked (n : ℕ) (before after : GroupState) : Type 0 where
  pub ticket : ℕ
  pub receipt : Receipt
  pub entries : after ≡ with_entries before (record { event = Check; reply = Decided receipt } ∷ record { event = Submit first_app (back before.history.group before.history.past n); reply = Queued ticket } ∷ [])
  pub judged : receipt.verdict ≡ verdict_on before.history first_app (back before.history.group before.history.past n)
  pub leads : is_accepted receipt.verdict ≡ true → target after.history.group after.history.past ≡ value_at before.history.group before.history.past n

-- by the answer: where there are rows they were asked, and else the group is as it was
abbrev pub IsLedBy : ℕ → Revert → GroupState → GroupState → Type 0
IsLedBy n (Rows rows) before after = IsAsked n before after
IsLedBy n (NoVersion latest) before after = after ≡ before
IsLedBy n Same before after = after ≡ before
IsLedBy n (TooMany rows) before after = after ≡ before

-- each group was led back
abbrev pub AreLedBack : ℕ → List GroupState → List GroupState → Type 0
AreLedBack n [] [] = Unit {0}
AreLedBack n [] (after ∷ afters) = ⊥
AreLedBack n (before ∷ befores) [] = ⊥
AreLedBack n (before ∷ befores) (after ∷ afters) = IsLedBy n (answer_in n before) before after × AreLedBack n befores afters

-- what is told of a group: whether rows were asked, or why not
abbrev pub answer_words : Revert → Words
answer_words (Rows rows) = codes "asked" ∷ []
answer_words (NoVersion latest) = codes "noversion" ∷ codes "latest" ∷ decimal latest ∷ []
answer_words Same = codes "same" ∷ []
answer_words (TooMany rows) = codes "toomany" ∷ decimal rows ∷ []

abbrev pub revert_words : ℕ → GroupState → Words
revert_words n s = codes "revert" ∷ s.history.group.name ∷ answer_words (answer_in n s)

abbrev pub revert_lines : ℕ → List GroupState → List Words
revert_lines n groups = (codes "statesman" ∷ codes "revert" ∷ codes "1" ∷ []) ∷ map (revert_words n) groups

-- a line for each group as it stood before, and the report of what came of them
abbrev pub revert_text : ℕ → Doc → List GroupState → List History → List Log → List ℕ
revert_text n doc before after logs = text_of (revert_lines n before) ++ report_text_of after (app_names doc) logs
