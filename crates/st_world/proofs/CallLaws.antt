-- What a round makes has a Withdraw directly behind each Send that calls for one, and nowhere else.
use Rattle.std.proofs.Common.{◌≡◌, ℕ, List, [], ◌∷◌, ◌++◌, length, Option, Some, None, refl, ap, sym, ◌∙◌, subst, append_assoc}
use Rattle.std.specs.Prelude.{Bool, true, false, ◌==◌, nat_lt, All, Result, Ok, Err, OnErr, if◌then◌else◌}
use Rattle.std.proofs.lemmas.List.{append_cancel_right}
use Rattle.std.proofs.lemmas.List.Elements.{All-nil, All-head, All-tail, All-map}
use Rattle.st_net.specs.declared.entity.Entity.{Entity}
use Rattle.st_net.specs.declared.entity.Var.{Var}
use Rattle.st_net.specs.declared.message.Command.{Command}
use Rattle.st_net.specs.declared.message.Report.{Report}
use Rattle.st_net.specs.Entities.{value_of}
use Rattle.st_net.specs.Groups.{Group}
use Rattle.st_net.specs.Numbered.{nth}
use Rattle.st_event.specs.declared.event.Event.{Event}
use Rattle.st_event.specs.declared.event.Event.TheVariants.{Send, Deliver, Finish, Report as make_report, Hear, Withdraw}
use Rattle.st_event.specs.declared.reply.Reply.{Reply}
use Rattle.st_event.specs.declared.reply.Reply.TheVariants.{Sent, Blocked, Begun, Stale, Reported, Taken, Old}
use Rattle.st_event.specs.declared.journal.Entry.{Entry}
use Rattle.st_event.specs.declared.journal.TheConstants.{MAX_ENTRIES}
use Rattle.st_event.specs.Moments.{commands, fence, reports}
use Rattle.st_event.specs.Observed.{observed}
use Rattle.st_event.specs.Replies.{reply, deliver_reply, hear_reply}
use Rattle.st_event.specs.Services.{entry_after}
use Rattle.st_wire.specs.declared.line.WireKind.TheVariants.{Command as command_kind, Report as report_kind}
use Rattle.st_wire.specs.declared.line.WireLine.{WireLine}
use Rattle.st_wire.specs.Deliveries.{deliveries}
use Rattle.st_world.specs.World.{WorldView, IsBeginning}
use Rattle.st_world.specs.Rounds.{Course, course_from, course_with, enter, enter_all, follow_ups_of, follow_ups, blocks_change, is_called_back, called_back, send_turn, update_turn, poll, turn, turns, unsettled, round, withdraws, calls_by, calls_for, AnswersCalls, WithdrawsInTurn, WithdrawsAll, IsPartOf}
use Rattle.st_world.specs.declared.world.rounds.Going.{Going}
use Rattle.st_world.specs.declared.world.rounds.Going.TheVariants.{On}
use Rattle.st_world.proofs.RunLaws.{entered, enter_all-stopped, called_back-stopped}

-- a course that made these entries, of which each Withdraw answers a call, and the last one calls for none unless the course has stopped
pub record Answered (g : Group) (past : List Entry) (course : Course) : Type 0 where
  pub made : List Entry
  pub all : course.past ≡ made ++ past
  pub answers : AnswersCalls g made past
  pub no_more : course.stopped ≡ false → calls_for g made past ≡ None

answered_start : (g : Group) (past : List Entry) → Answered g past (course_from past)
answered_start g past = record { made = []; all = refl; answers = tt; no_more = λ going. refl }

-- an event that is neither a Send nor a Withdraw calls for none and is none
pub record IsPlain (event : Event) : Type 0 where
  pub withdraws_none : withdraws event ≡ None
  pub calls_none : (views : Entity → Report) (answer : Reply) → calls_by views event answer ≡ None

pub plain_deliver : (n : ℕ) → IsPlain (Deliver n)
plain_deliver n = record { withdraws_none = refl; calls_none = λ views answer. refl }

pub plain_finish : (e : Entity) → IsPlain (Finish e)
plain_finish e = record { withdraws_none = refl; calls_none = λ views answer. refl }

pub plain_report : (e : Entity) → IsPlain (make_report e)
plain_report e = record { withdraws_none = refl; calls_none = λ views answer. refl }

pub plain_hear : (n : ℕ) → IsPlain (Hear n)
plain_hear n = record { withdraws_none = refl; calls_none = λ views answer. refl }

plain_by : (g : Group) (past : List Entry) (course : Course) (entry : Entry) (stopped room : Bool) → course.stopped ≡ stopped → IsPlain entry.event → Answered g past course → Answered g past (entered course entry stopped room)
plain_by g past course entry true room is plain was = was
plain_by g past course entry false true is plain was = record {
  made = entry ∷ was.made;
  all = ap (λ (journal : List Entry). entry ∷ journal) was.all;
  answers = (plain.withdraws_none ∙ sym (was.no_more is), was.answers);
  no_more = λ going. plain.calls_none (observed g (entry ∷ was.made ++ past)) entry.reply;
}
plain_by g past course entry false false is plain was = record { made = was.made; all = was.all; answers = was.answers; no_more = λ going. cc }

pub plain_entered : (g : Group) (past : List Entry) (course : Course) (event : Event) → IsPlain event → Answered g past course → Answered g past (enter g course event)
plain_entered g past course event plain was = plain_by g past course (entry_after g course.past event) course.stopped (nat_lt (length course.past) MAX_ENTRIES) refl plain was

plain_all : (g : Group) (past : List Entry) (course : Course) (events : List Event) → All IsPlain events → Answered g past course → Answered g past (enter_all g course events)
plain_all g past course [] plain was = was
plain_all g past course (event ∷ events) plain was = plain_all g past (enter g course event) events (All-tail IsPlain event events plain) (plain_entered g past course event (All-head IsPlain event events plain) was)

follow_ups_of_plain : (g : Group) (lines : List WireLine) (past : List Entry) (reply : Reply) → All IsPlain (follow_ups_of g lines past reply)
follow_ups_of_plain g lines past (Sent n) = All-map IsPlain Deliver (deliveries lines command_kind n) (λ k d low. plain_deliver _)
follow_ups_of_plain g lines past (Reported n) = All-map IsPlain Hear (deliveries lines report_kind n) (λ k d low. plain_hear _)
follow_ups_of_plain g lines past _ = All-nil IsPlain

follow_ups_plain : (g : Group) (lines : List WireLine) (past : List Entry) → All IsPlain (follow_ups g lines past)
follow_ups_plain g lines [] = All-nil IsPlain
follow_ups_plain g lines (entry ∷ past) = follow_ups_of_plain g lines (entry ∷ past) entry.reply

poll_answered : (g : Group) (lines : List WireLine) (past : List Entry) (course : Course) (e : Entity) → Answered g past course → Answered g past (poll g lines course e)
poll_answered g lines past course e was =
    let next = enter g course (make_report e) in
    plain_all g past next (follow_ups g lines next.past) (follow_ups_plain g lines next.past) (plain_entered g past course (make_report e) (plain_report e) was)

-- a Send with what it calls for

-- events whose replies block nothing
pub record IsFree (g : Group) (event : Event) : Type 0 where
  pub free : (past : List Entry) (value : Var → ℕ) → blocks_change value (reply g past event) ≡ false

begun_or_stale : (value : Var → ℕ) (b : Bool) (fence : ℕ) → blocks_change value (if b then Begun else Stale fence) ≡ false
begun_or_stale value true fence = refl
begun_or_stale value false fence = refl

delivery_free : (value : Var → ℕ) (fence : Entity → ℕ) (sent : ℕ) (o : Option Command) → blocks_change value (deliver_reply fence sent o) ≡ false
delivery_free value fence sent None = refl
delivery_free value fence sent (Some c) = begun_or_stale value (nat_lt (fence c.entity) c.stamp) (fence c.entity)

taken_or_old : (value : Var → ℕ) (b : Bool) (kept : ℕ) → blocks_change value (if b then Taken else Old kept) ≡ false
taken_or_old value true kept = refl
taken_or_old value false kept = refl

hearing_free : (value : Var → ℕ) (views : Entity → Report) (made : ℕ) (o : Option Report) → blocks_change value (hear_reply views made o) ≡ false
hearing_free value views made None = refl
hearing_free value views made (Some r) = taken_or_old value (nat_lt (views r.entity).number r.number) (views r.entity).number

follow_ups_of_free : (g : Group) (lines : List WireLine) (past : List Entry) (answer : Reply) → All (IsFree g) (follow_ups_of g lines past answer)
follow_ups_of_free g lines past (Sent n) = All-map (IsFree g) Deliver (deliveries lines command_kind n) (λ k d low. record { free = λ before value. delivery_free value (fence g before) (length (commands g before)) (nth (commands g before) _) })
follow_ups_of_free g lines past (Reported n) = All-map (IsFree g) Hear (deliveries lines report_kind n) (λ k d low. record { free = λ before value. hearing_free value (observed g before) (length (reports g before)) (nth (reports g before) _) })
follow_ups_of_free g lines past _ = All-nil (IsFree g)

free_by : (g : Group) (course : Course) (event : Event) (e : Entity) (stopped room : Bool) → IsFree g event → is_called_back g course.past e ≡ false → is_called_back g (entered course (entry_after g course.past event) stopped room).past e ≡ false
free_by g course event e true room is free = free
free_by g course event e false true is free = is.free course.past (value_of e (observed g (entry_after g course.past event ∷ course.past) e).vals)
free_by g course event e false false is free = free

free_all : (g : Group) (course : Course) (events : List Event) (e : Entity) → All (IsFree g) events → is_called_back g course.past e ≡ false → is_called_back g (enter_all g course events).past e ≡ false
free_all g course [] e all free = free
free_all g course (event ∷ events) e all free =
    free_all g (enter g course event) events e (All-tail (IsFree g) event events all)
    (free_by g course event e course.stopped (nat_lt (length course.past) MAX_ENTRIES) (All-head (IsFree g) event events all) free)

-- nothing is delivered behind what blocks
blocked_alone : (g : Group) (lines : List WireLine) (past : List Entry) (value : Var → ℕ) (answer : Reply) → blocks_change value answer ≡ true → follow_ups_of g lines past answer ≡ []
blocked_alone g lines past value (Blocked row) blocks = refl
blocked_alone g lines past value (Sent n) blocks = cc
blocked_alone g lines past value (Reported n) blocks = cc
blocked_alone g lines past value _ blocks = refl

-- a Withdraw that is called for
withdraw_by : (g : Group) (past : List Entry) (course : Course) (e : Entity) (made : List Entry) (room : Bool) → course.past ≡ made ++ past → AnswersCalls g made past → calls_for g made past ≡ Some e → Answered g past (entered course (entry_after g course.past (Withdraw e)) false room)
withdraw_by g past course e made true all answers calls = record {
  made = entry_after g course.past (Withdraw e) ∷ made;
  all = ap (λ (journal : List Entry). entry_after g course.past (Withdraw e) ∷ journal) all;
  answers = (sym calls, answers);
  no_more = λ going. refl;
}
withdraw_by g past course e made false all answers calls = record { made = made; all = all; answers = answers; no_more = λ going. cc }

calls_if : (b : Bool) (e : Entity) → b ≡ true → (if b then Some e else None) ≡ Some e
calls_if b e is = rw is refl

calls_unless : (b : Bool) (e : Entity) → b ≡ false → ◌≡◌ {A = Option Entity} (if b then Some e else None) None
calls_unless b e is = rw is refl

-- the journal behind a Send that was entered
sent_by_call : (g : Group) (lines : List WireLine) (past : List Entry) (course : Course) (e : Entity) (called : Bool) → let entry = entry_after g course.past (Send e) in blocks_change (value_of e (observed g (entry ∷ course.past) e).vals) entry.reply ≡ called → course.stopped ≡ false → Answered g past course → Answered g past (called_back g (let next = course_from (entry ∷ course.past) in enter_all g next (follow_ups g lines next.past)) e)
sent_by_call g lines past course e true is going was =
    let entry = entry_after g course.past (Send e) in
    let next = course_from (entry ∷ course.past) in
    let alone : follow_ups g lines next.past ≡ [] = blocked_alone g lines (entry ∷ course.past) (value_of e (observed g (entry ∷ course.past) e).vals) entry.reply is in
    let made = entry ∷ was.made in
    let all : next.past ≡ made ++ past = ap (λ (journal : List Entry). entry ∷ journal) was.all in
    let here : blocks_change (value_of e (observed g (entry ∷ was.made ++ past) e).vals) entry.reply ≡ true = subst (λ (journal : List Entry). blocks_change (value_of e (observed g (entry ∷ journal) e).vals) entry.reply ≡ true) was.all is in
    let calls : calls_for g made past ≡ Some e = calls_if (blocks_change (value_of e (observed g (entry ∷ was.made ++ past) e).vals) entry.reply) e here in
    let first : withdraws (Send e) ≡ calls_for g was.made past = sym (was.no_more going) in
    let done = withdraw_by g past next e made (nat_lt (length next.past) MAX_ENTRIES) all (first, was.answers) calls in
    subst (λ (events : List Event). Answered g past (called_back g (enter_all g next events) e)) (sym alone) (rw is done)
sent_by_call g lines past course e false is going was =
    let entry = entry_after g course.past (Send e) in
    let next = course_from (entry ∷ course.past) in
    let told = enter_all g next (follow_ups g lines next.past) in
    let here : blocks_change (value_of e (observed g (entry ∷ was.made ++ past) e).vals) entry.reply ≡ false = subst (λ (journal : List Entry). blocks_change (value_of e (observed g (entry ∷ journal) e).vals) entry.reply ≡ false) was.all is in
    let first : withdraws (Send e) ≡ calls_for g was.made past = sym (was.no_more going) in
    let after : Answered g past next = record {
      made = entry ∷ was.made;
      all = ap (λ (journal : List Entry). entry ∷ journal) was.all;
      answers = (first, was.answers);
      no_more = λ on. calls_unless (blocks_change (value_of e (observed g (entry ∷ was.made ++ past) e).vals) entry.reply) e here;
    } in
    let free : is_called_back g told.past e ≡ false = free_all g next (follow_ups g lines next.past) e (follow_ups_of_free g lines next.past entry.reply) is in
    let plain : Answered g past told = plain_all g past next (follow_ups g lines next.past) (follow_ups_plain g lines next.past) after in
    rw free plain

send_by : (g : Group) (lines : List WireLine) (past : List Entry) (course : Course) (e : Entity) (stopped room : Bool) → course.stopped ≡ stopped → Answered g past course → Answered g past (called_back g (let next = entered course (entry_after g course.past (Send e)) stopped room in enter_all g next (follow_ups g lines next.past)) e)
send_by g lines past course e true room is was =
    let still : called_back g (enter_all g course (follow_ups g lines course.past)) e ≡ course = ap (λ (r : Course). called_back g r e) (enter_all-stopped g course (follow_ups g lines course.past) is) ∙ called_back-stopped g course e is in
    subst (λ (r : Course). Answered g past r) (sym still) was
send_by g lines past course e false true is was = sent_by_call g lines past course e (blocks_change (value_of e (observed g (entry_after g course.past (Send e) ∷ course.past) e).vals) (reply g course.past (Send e))) refl is was
send_by g lines past course e false false is was =
    let full : Course = record { past = course.past; stopped = true } in
    let still : called_back g (enter_all g full (follow_ups g lines full.past)) e ≡ full = ap (λ (r : Course). called_back g r e) (enter_all-stopped g full (follow_ups g lines full.past) refl) ∙ called_back-stopped g full e refl in
    subst (λ (r : Course). Answered g past r) (sym still) (record { made = was.made; all = was.all; answers = was.answers; no_more = λ going. cc })

send_answered : (g : Group) (lines : List WireLine) (past : List Entry) (course : Course) (e : Entity) → Answered g past course → Answered g past (send_turn g lines course e)
send_answered g lines past course e was = send_by g lines past course e course.stopped (nat_lt (length course.past) MAX_ENTRIES) refl was

turn_answered : (g : Group) (lines : List WireLine) (past : List Entry) (course : Course) (e : Entity) → Answered g past course → Answered g past (turn g lines course e)
turn_answered g lines past course e was =
    let sent = send_turn g lines course e in
    poll_answered g lines past (update_turn g lines course e) e (plain_entered g past sent (Finish e) (plain_finish e) (send_answered g lines past course e was))

turns_answered : (g : Group) (lines : List WireLine) (past : List Entry) (course : Course) (es : List Entity) → Answered g past course → Answered g past (turns g lines course es)
turns_answered g lines past course [] was = was
turns_answered g lines past course (e ∷ es) was = turns_answered g lines past (turn g lines course e) es (turn_answered g lines past course e was)

pub round_answered : (g : Group) (lines : List WireLine) (past : List Entry) → Answered g past (round g lines past)
round_answered g lines past = turns_answered g lines past (course_from past) (unsettled g past) (answered_start g past)

-- of a round that was entered, whole or in part

pub withdraws_all : (old new : WorldView) → course_with On new ≡ round old.history.group old.lines old.history.past → WithdrawsAll old new
withdraws_all old new is =
    let whole = subst (λ (r : Course). Answered old.history.group old.history.past r) (sym is) (round_answered old.history.group old.lines old.history.past) in
    record { made = whole.made; all = whole.all; answers = whole.answers; no_more = whole.no_more refl }

pub withdraws_until : (old new : WorldView) (going : Going) → course_with going new ≡ round old.history.group old.lines old.history.past → WithdrawsInTurn old new
withdraws_until old new going is =
    let whole = subst (λ (r : Course). Answered old.history.group old.history.past r) (sym is) (round_answered old.history.group old.lines old.history.past) in
    record { made = whole.made; all = whole.all; answers = whole.answers }

fewer : (g : Group) (more made past : List Entry) → AnswersCalls g (more ++ made) past → AnswersCalls g made past
fewer g [] made past answers = answers
fewer g (entry ∷ more) made past answers = fewer g more made past answers.1

in_part : (old new : WorldView) → IsPartOf old new (round old.history.group old.lines old.history.past) → WithdrawsInTurn old new
in_part old new part =
    let whole = round_answered old.history.group old.lines old.history.past in
    let began = part.began in
    let joined : part.part.0 ++ (began.0 ++ old.history.past) ≡ whole.made ++ old.history.past = ap (λ (journal : List Entry). part.part.0 ++ journal) (sym began.1) ∙ sym part.part.1 ∙ whole.all in
    let same : whole.made ≡ part.part.0 ++ began.0 = append_cancel_right whole.made (part.part.0 ++ began.0) old.history.past (sym joined ∙ sym (append_assoc part.part.0 began.0 old.history.past)) in
    record { made = began.0; all = began.1; answers = fewer old.history.group part.part.0 began.0 old.history.past (subst (λ (made : List Entry). AnswersCalls old.history.group made old.history.past) same whole.answers) }

-- where the turns met an `Err`, and where what follows them did

pub withdraws_broken : {T E : Type 0} (r : Result T E) (old new : WorldView) (es items : List Entity) → IsPartOf old new (turns old.history.group old.lines (course_from old.history.past) es) → es ≡ items → items ≡ unsettled old.history.group old.history.past → OnErr r (WithdrawsInTurn old new)
withdraws_broken (Ok x) old new es items part read all = tt
withdraws_broken (Err e) old new es items part read all = in_part old new (subst (λ (xs : List Entity). IsPartOf old new (turns old.history.group old.lines (course_from old.history.past) xs)) (read ∙ all) part)

pub withdraws_whole : {T E : Type 0} (r : Result T E) (old new : WorldView) → course_with On new ≡ round old.history.group old.lines old.history.past → OnErr r (WithdrawsInTurn old new)
withdraws_whole (Ok x) old new is = tt
withdraws_whole (Err e) old new is = withdraws_until old new On is
