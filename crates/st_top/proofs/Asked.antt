-- What was asked of a group that is led back: the rows are a proposal's, they are judged as the group stood, and lead back where they are
-- accepted.
use Rattle.std.proofs.Common.{◌≡◌, ℕ, ◌+◌, ◌≤◌, List, [], ◌∷◌, ◌++◌, length, Bool, true, false, None, Some, refl, ap, sym, ◌∙◌, subst, arith, drop, length-drop}
use Rattle.std.specs.Prelude.{All, is_some, nat_lt, if◌then◌else◌}
use Rattle.std.proofs.Math.Seq.{drop-append_seam}
use Rattle.std.proofs.lemmas.List.Elements.{All-head, All-tail}
use Rattle.st_net.specs.declared.entity.Row.{Row}
use Rattle.st_net.specs.Groups.{Group, IsSound}
use Rattle.st_net.specs.Ranges.{RowsFit}
use Rattle.st_event.specs.declared.event.Event.{Event}
use Rattle.st_event.specs.declared.event.Event.TheVariants.{Submit, Check}
use Rattle.st_event.specs.declared.event.Proposal.{Proposal}
use Rattle.st_event.specs.declared.journal.Entry.{Entry}
use Rattle.st_event.specs.declared.journal.TheConstants.{MAX_ENTRIES, MAX_PENDING}
use Rattle.st_event.specs.declared.reply.Reply.TheVariants.{Queued, Full, Decided}
use Rattle.st_event.specs.Legal.{IsLegal}
use Rattle.st_event.specs.Proposals.{is_accepted, overlays, pending, proposals, target, verdicts}
use Rattle.st_event.specs.Replies.{check_reply, receipt_of}
use Rattle.st_event.specs.Services.{entry_after}
use Rattle.st_event.proofs.Ranges.{all_in_range}
use Rattle.st_event.proofs.Targets.{legal_orderly, target_next}
use Rattle.st_grammar.specs.declared.doc.Doc.{Doc}
use Rattle.st_world.specs.Rounds.{Course, course_from, enter, enter_all}
use Rattle.st_world.proofs.RunLaws.{entered}
use Rattle.st_revert.specs.declared.back.Revert.{Revert}
use Rattle.st_revert.specs.declared.back.Revert.TheVariants.{Rows, NoVersion, Same, TooMany}
use Rattle.st_revert.specs.Back.{back, revert_after}
use Rattle.st_revert.proofs.AskedLaws.{is_asked}
use Rattle.st_revert.proofs.WholeLaws.{leads_all_back}
use Rattle.st_replay.specs.Again.{AreKeptStates, IsKeptHistory}
use Rattle.st_serial.specs.Serial.{Checked, GroupState, Run, serial_end, state_at, with_checked, with_group}
use Rattle.st_serial.specs.Decided.{HasNonePending}
use Rattle.st_serial.proofs.Runs.{none_full}
use Rattle.st_serial.proofs.Waiting.{all_are_decided}
use Rattle.st_top.specs.Reverting.{AreLedBack, IsAsked, IsLedBy, all_led_back, answer_in, asked_by, course_back, first_app, reverted}

-- the rows of an answer are a proposal's
pub asked_fit : (g : Group) (past : List Entry) (n : ℕ) (asked : List Row) → IsSound g → IsLegal g past → revert_after g past n ≡ Rows asked → RowsFit g asked
asked_fit g past n asked sound legal is = (is_asked g past n asked is).fits sound (all_in_range g past sound legal).overlaid

-- two events that met no full journal were entered

record WasEntered (course : Course) (entry : Entry) (stopped : Bool) (next : Course) : Type 0 where
  on : stopped ≡ false
  past : next.past ≡ entry ∷ course.past

one_entered : (course : Course) (entry : Entry) (stopped room : Bool) → course.stopped ≡ stopped → (entered course entry stopped room).stopped ≡ false → WasEntered course entry stopped (entered course entry stopped room)
one_entered course entry true room is on = absurd (cc)
one_entered course entry false true is on = record { on = refl; past = refl }
one_entered course entry false false is on = absurd (cc)

was_entered : (g : Group) (course : Course) (event : Event) → (enter g course event).stopped ≡ false → WasEntered course (entry_after g course.past event) course.stopped (enter g course event)
was_entered g course event on = one_entered course (entry_after g course.past event) course.stopped (nat_lt (length course.past) MAX_ENTRIES) refl on

two_entered : (g : Group) (past : List Entry) (first second : Event) → (enter_all g (course_from past) (first ∷ second ∷ [])).stopped ≡ false
    → (enter_all g (course_from past) (first ∷ second ∷ [])).past ≡ entry_after g (entry_after g past first ∷ past) second ∷ entry_after g past first ∷ past
two_entered g past first second on =
    let one = enter g (course_from past) first in
    let later = was_entered g one second on in
    later.past ∙ ap (λ (p : List Entry). entry_after g p second ∷ p) (was_entered g (course_from past) first later.on).past

-- where nothing is pending, a proposal that is queued is the only one that is

alone : (xs : List Proposal) (p : Proposal) (n : ℕ) → n ≤ length xs → drop n xs ≡ [] → drop n (xs ++ p ∷ []) ≡ p ∷ []
alone xs p n few none =
    let all : n ≡ length xs = omega (arith, few, length-drop n xs, ap length none) in
    ap (λ m. drop m (xs ++ p ∷ [])) all ∙ drop-append_seam xs (p ∷ [])

module _ (g : Group) (past : List Entry) (rows : List Row) where
  abbrev asking : Proposal
  asking = record { app = first_app; rows = rows }

  abbrev queued : Entry
  queued = record { event = Submit first_app rows; reply = Queued (length (proposals past) + 1) }

  abbrev decided : Entry
  decided = record { event = Check; reply = Decided (receipt_of g (queued ∷ past) asking) }

  was_queued : pending past ≡ [] → entry_after g past (Submit first_app rows) ≡ queued
  was_queued none = ap (λ (queue : List Proposal). record { event = Submit first_app rows; reply = if nat_lt (length queue) MAX_PENDING then Queued (length (proposals past) + 1) else Full (length queue) }) none

  waits : IsLegal g past → pending past ≡ [] → pending (queued ∷ past) ≡ asking ∷ []
  waits legal none = alone (proposals past) asking (length (verdicts past)) (legal_orderly g past legal).few none

  was_decided : IsLegal g past → pending past ≡ [] → entry_after g (queued ∷ past) Check ≡ decided
  was_decided legal none = ap (λ (queue : List Proposal). record { event = Check; reply = check_reply g (queued ∷ past) queue }) (waits legal none)

  both : IsLegal g past → pending past ≡ [] → (enter_all g (course_from past) (Submit first_app rows ∷ Check ∷ [])).stopped ≡ false
      → (enter_all g (course_from past) (Submit first_app rows ∷ Check ∷ [])).past ≡ decided ∷ queued ∷ past
  both legal none on =
      two_entered g past (Submit first_app rows) Check on
      ∙ ap (λ (entry : Entry). entry_after g (entry ∷ past) Check ∷ entry ∷ past) (was_queued none)
      ∙ ap (λ (entry : Entry). entry ∷ queued ∷ past) (was_decided legal none)

-- so the group was asked

asked_back : (n : ℕ) (s : GroupState) (course : Course) → IsSound s.history.group → IsLegal s.history.group s.history.past → HasNonePending s
    → course.past ≡ decided s.history.group s.history.past (back s.history.group s.history.past n) ∷ queued s.history.group s.history.past (back s.history.group s.history.past n) ∷ s.history.past
    → IsAsked n s (state_at s course)
asked_back n s course sound legal none came =
    let g = s.history.group in
    let past = s.history.past in
    let rows = back g past n in
    record {
      ticket = length (proposals past) + 1;
      receipt = receipt_of g (queued g past rows ∷ past) (asking g past rows);
      entries = ap (λ (es : List Entry). record s { history = record s.history { past = es } }) came;
      judged = refl;
      leads = λ yes.
          ap (target g) came
          ∙ target_next g (queued g past rows ∷ past) (receipt_of g (queued g past rows ∷ past) (asking g past rows)) (asking g past rows) [] (waits g past rows legal none) yes
          ∙ leads_all_back g past n sound (all_in_range g past sound legal).overlaid;
    }

-- what came before in a legal journal is legal
legal_before : (g : Group) (past : List Entry) (course : Course) (first second : Event) → course ≡ enter_all g (course_from past) (first ∷ second ∷ []) → course.stopped ≡ false → IsLegal g course.past → IsLegal g past
legal_before g past course first second is on legal =
    let came = ap (λ (c : Course). c.past) is ∙ two_entered g past first second (sym (ap (λ (c : Course). c.stopped) is) ∙ on) in
    (subst (IsLegal g) came legal).1.1

one_led : (n : ℕ) (s : GroupState) → HasNonePending s → IsKeptHistory (state_at s (course_back n s)).history → (course_back n s).stopped ≡ false → IsLedBy n (answer_in n s) s (state_at s (course_back n s))
one_led n s none kept on = by_answer (answer_in n s) refl
  where
    went : (answer : Revert) → answer_in n s ≡ answer → course_back n s ≡ enter_all s.history.group (course_from s.history.past) (asked_by answer)
    went answer is = ap (λ (a : Revert). enter_all s.history.group (course_from s.history.past) (asked_by a)) is

    stays : (answer : Revert) → answer_in n s ≡ answer → asked_by answer ≡ [] → state_at s (course_back n s) ≡ s
    stays answer is idle = ap (state_at s) (went answer is ∙ ap (enter_all s.history.group (course_from s.history.past)) idle)

    asks : (rows : List Row) → answer_in n s ≡ Rows rows → rows ≡ back s.history.group s.history.past n → IsAsked n s (state_at s (course_back n s))
    asks rows is same =
        let g = s.history.group in
        let past = s.history.past in
        let legal = legal_before g past (course_back n s) (Submit first_app rows) Check (went (Rows rows) is) on kept.legal in
        let course_is : course_back n s ≡ enter_all g (course_from past) (Submit first_app (back g past n) ∷ Check ∷ []) = went (Rows rows) is ∙ ap (λ (rs : List Row). enter_all g (course_from past) (Submit first_app rs ∷ Check ∷ [])) same in
        asked_back n s (course_back n s) kept.sound legal none
        (ap (λ (c : Course). c.past) course_is ∙ both g past (back g past n) legal none (sym (ap (λ (c : Course). c.stopped) course_is) ∙ on))

    by_answer : (answer : Revert) → answer_in n s ≡ answer → IsLedBy n answer s (state_at s (course_back n s))
    by_answer (Rows rows) is = asks rows is (is_asked s.history.group s.history.past n rows is).are_back
    by_answer (NoVersion latest) is = stays (NoVersion latest) is refl
    by_answer Same is = stays Same is refl
    by_answer (TooMany rows) is = stays (TooMany rows) is refl

-- and all groups

abbrev AreLed : ℕ → List GroupState → Checked → Type 0
AreLed n ss checked = checked.full ≡ None → AreKeptStates checked.groups → AreLedBack n ss checked.groups

next_led : (n m : ℕ) (s : GroupState) (ss : List GroupState) (b : Bool) → (course_back n s).stopped ≡ b → HasNonePending s → AreLed n ss (all_led_back n (m + 1) ss)
    → AreLed n (s ∷ ss) (if b then record { groups = state_at s (course_back n s) ∷ ss; full = Some m } else with_group (state_at s (course_back n s)) (all_led_back n (m + 1) ss))
next_led n m s ss true is none rest = λ full kept. absurd (cc)
next_led n m s ss false is none rest = λ full kept. (one_led n s none kept.0 is, rest full kept.1)

all_led : (n m : ℕ) (ss : List GroupState) → All HasNonePending ss → AreLed n ss (all_led_back n m ss)
all_led n m [] none = λ full kept. tt
all_led n m (s ∷ ss) none = next_led n m s ss (course_back n s).stopped refl (All-head HasNonePending s ss none) (all_led n (m + 1) ss (All-tail HasNonePending s ss none))

run_led : (n : ℕ) (run : Run) (b : Bool) → is_some run.full ≡ b → (run.full ≡ None → All HasNonePending run.groups) → (if b then run else with_checked run (all_led_back n 0 run.groups)).full ≡ None
    → AreKeptStates (if b then run else with_checked run (all_led_back n 0 run.groups)).groups → AreLedBack n run.groups (if b then run else with_checked run (all_led_back n 0 run.groups)).groups
run_led n run true is none full kept = let no : false ≡ true = ap is_some (sym full) ∙ is in absurd (cc)
run_led n run false is none full kept = all_led n 0 run.groups (none (none_full run.full is)) full kept

pub reverted_led : (n : ℕ) (doc : Doc) → (reverted n doc).full ≡ None → AreKeptStates (reverted n doc).groups → AreLedBack n (serial_end doc).groups (reverted n doc).groups
reverted_led n doc full kept = run_led n (serial_end doc) (is_some (serial_end doc).full) refl (all_are_decided doc) full kept
