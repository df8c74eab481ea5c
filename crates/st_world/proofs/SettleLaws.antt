-- Over a loss plan without lines, each entity that a round sends a command, and that never failed, is settled behind the round.
use Rattle.std.proofs.Common.{◌≡◌, ℕ, ◌+◌, ◌<◌, ◌≤◌, suc, List, [], ◌∷◌, ◌++◌, length, Option, Some, None, refl, ap, sym, ◌∙◌, subst, inl, inr, arith}
use Rattle.std.specs.Prelude.{Bool, true, false, ◌&&◌, ◌==◌, ◌⊎◌, not, nat_lt, is_some, All, if◌then◌else◌}
use Rattle.std.proofs.lemmas.List.Elements.{All-head, All-tail}
use Rattle.std.proofs.Math.Bool.{and-false}
use Rattle.st_net.specs.declared.entity.Entity.{Entity}
use Rattle.st_net.specs.declared.entity.Row.{Row}
use Rattle.st_net.specs.declared.entity.Vals.{Vals}
use Rattle.st_net.specs.declared.entity.Var.{Var}
use Rattle.st_net.specs.declared.message.Command.{Command}
use Rattle.st_net.specs.declared.message.Report.{Report}
use Rattle.st_net.specs.Entities.{is_same_entity, is_same_vals, value_of, vals_by}
use Rattle.st_net.specs.Groups.{Group, IsEntityOf, opening_of}
use Rattle.st_net.specs.Merge.{vals_in}
use Rattle.st_net.specs.Numbered.{nth}
use Rattle.st_net.specs.Reports.{is_settled_by}
use Rattle.st_net.proofs.Tests.{both, equal_numbers, same_entity, same_self, less_is, not_less}
use Rattle.st_event.specs.declared.event.Event.{Event}
use Rattle.st_event.specs.declared.event.Event.TheVariants.{Send, Deliver, Finish, Report as make_report, Hear, Withdraw}
use Rattle.st_event.specs.declared.reply.Lack.{Lack}
use Rattle.st_event.specs.declared.reply.Reply.{Reply}
use Rattle.st_event.specs.declared.reply.Reply.TheVariants.{Settled, Sent, Begun, Stale, Reported}
use Rattle.st_event.specs.declared.journal.Entry.{Entry}
use Rattle.st_event.specs.Proposals.{target, makes_version}
use Rattle.st_event.specs.Receipts.{rows_withdrawn}
use Rattle.st_event.specs.Judge.{lack_at}
use Rattle.st_event.specs.Replies.{reply, deliver_reply, blocked_or_sent, governing, row_to}
use Rattle.st_event.specs.Moments.{heard, is_sent, is_taken, is_fail_of, stamp, commands, fence, busy, reports}
use Rattle.st_event.specs.Observed.{observed, is_settled}
use Rattle.st_event.specs.Past.{is_spoiled}
use Rattle.st_event.specs.Legal.{IsLegal}
use Rattle.st_event.specs.Services.{entry_after}
use Rattle.st_event.proofs.Made.{report_now, observed_own}
use Rattle.st_event.proofs.Promises.{entry_of}
use Rattle.st_event.proofs.Shown.{made_is_true}
use Rattle.st_event.proofs.Stamps.{fence_small}
use Rattle.st_event.proofs.Standings.{quiet_stamp}
use Rattle.st_event.proofs.Targets.{target_same}
use Rattle.st_event.proofs.Withdrawals.{other_stamp, other_target, withdrawal}
use Rattle.st_event.proofs.Turns.{report_settles, turn_settles, sent_named, reported_named}
use Rattle.st_wire.specs.declared.line.WireLine.{WireLine}
use Rattle.st_world.specs.Rounds.{Course, course_from, enter, enter_all, follow_ups_of, follow_ups, enter_told, blocks_change, is_called_back, send_turn, turn, turns, unsettled, round, is_sending, WasSent, NeverFailed}
use Rattle.st_world.specs.World.{IsBeginning}
use Rattle.st_world.proofs.RunLaws.{entered, round-grows, turn-legal, turns-stopped, unsettled_fit}

-- a turn where there is room for all of it

-- the journal with each of these events, the first of them first
abbrev pub all_by : Group → List Event → List Entry → List Entry
all_by g [] past = past
all_by g (event ∷ events) past = all_by g events (entry_after g past event ∷ past)

-- the journal with an event and then what follows its entry
abbrev pub told_by : Group → List WireLine → Event → List Entry → List Entry
told_by g lines event past = let next = entry_after g past event ∷ past in all_by g (follow_ups g lines next) next

-- the journal with a turn's finish, report, and arrivals of the report
abbrev pub ended_by : Group → List WireLine → Entity → List Entry → List Entry
ended_by g lines e past = told_by g lines (make_report e) (entry_after g past (Finish e) ∷ past)

-- with what a blocked Send calls for
abbrev pub withdrawn_by : Group → Entity → List Entry → List Entry
withdrawn_by g e past = if is_called_back g past e then entry_after g past (Withdraw e) ∷ past else past

abbrev pub turn_by : Group → List WireLine → Entity → List Entry → List Entry
turn_by g lines e past = ended_by g lines e (withdrawn_by g e (told_by g lines (Send e) past))

entered-whole : (course : Course) (entry : Entry) (stopped room : Bool) → course.stopped ≡ stopped → (entered course entry stopped room).stopped ≡ false → (course.stopped ≡ false) × (entered course entry stopped room ≡ course_from (entry ∷ course.past))
entered-whole course entry true room is going = let stops : true ≡ false = sym is ∙ going in cc
entered-whole course entry false true is going = (is, refl)
entered-whole course entry false false is going = cc

enter-whole : (g : Group) (course : Course) (event : Event) → (enter g course event).stopped ≡ false → (course.stopped ≡ false) × (enter g course event ≡ course_from (entry_after g course.past event ∷ course.past))
enter-whole g course event going = entered-whole course (entry_after g course.past event) course.stopped _ refl going

enter_all-whole : (g : Group) (course : Course) (events : List Event) → (enter_all g course events).stopped ≡ false → (course.stopped ≡ false) × ((enter_all g course events).past ≡ all_by g events course.past)
enter_all-whole g course [] going = (going, refl)
enter_all-whole g course (event ∷ events) going =
    let rest = enter_all-whole g (enter g course event) events going in
    let here = enter-whole g course event rest.0 in
    (here.0, rest.1 ∙ ap (λ (r : Course). all_by g events r.past) here.1)

enter_told-whole : (g : Group) (lines : List WireLine) (course : Course) (event : Event) → (enter_told g lines course event).stopped ≡ false → (course.stopped ≡ false) × ((enter_told g lines course event).past ≡ told_by g lines event course.past)
enter_told-whole g lines course event going =
    let next = enter g course event in
    let rest = enter_all-whole g next (follow_ups g lines next.past) going in
    let here = enter-whole g course event rest.0 in
    (here.0, rest.1 ∙ ap (λ (r : Course). all_by g (follow_ups g lines r.past) r.past) here.1)

called-whole : (g : Group) (course : Course) (e : Entity) (called : Bool) → (if called then enter g course (Withdraw e) else course).stopped ≡ false → (course.stopped ≡ false) × ((if called then enter g course (Withdraw e) else course).past ≡ (if called then entry_after g course.past (Withdraw e) ∷ course.past else course.past))
called-whole g course e true going = let here = enter-whole g course (Withdraw e) going in (here.0, ap (λ (r : Course). r.past) here.1)
called-whole g course e false going = (going, refl)

-- a turn that meets no full journal enters all of its entries
pub turn-whole : (g : Group) (lines : List WireLine) (course : Course) (e : Entity) → (turn g lines course e).stopped ≡ false → (course.stopped ≡ false) × ((turn g lines course e).past ≡ turn_by g lines e course.past)
turn-whole g lines course e going =
    let told = enter_told g lines course (Send e) in
    let sent = send_turn g lines course e in
    let finished = enter g sent (Finish e) in
    let last = enter_told-whole g lines finished (make_report e) going in
    let middle = enter-whole g sent (Finish e) last.0 in
    let second = called-whole g told e (is_called_back g told.past e) middle.0 in
    let first = enter_told-whole g lines course (Send e) second.0 in
    (first.0, last.1 ∙ ap (λ (r : Course). told_by g lines (make_report e) r.past) middle.1 ∙ ap (ended_by g lines e) (second.1 ∙ ap (withdrawn_by g e) first.1))

-- how often an entity was sent a command
abbrev pub sendings : List Entry → Entity → ℕ
sendings [] e = 0
sendings (entry ∷ past) e = if is_sending e entry.event && is_sent entry.reply then sendings past e + 1 else sendings past e

counted_low : (b : Bool) (n k : ℕ) → k ≤ n → k ≤ (if b then n + 1 else n)
counted_low true n k low = omega arith
counted_low false n k low = low

sendings_grow : (made past : List Entry) (e : Entity) → sendings past e ≤ sendings (made ++ past) e
sendings_grow [] past e = omega arith
sendings_grow (entry ∷ made) past e = counted_low (is_sending e entry.event && is_sent entry.reply) (sendings (made ++ past) e) (sendings past e) (sendings_grow made past e)

sent_counts_from : (entry : Entry) (made past : List Entry) (e : Entity) → (((is_sending e entry.event && is_sent entry.reply) ≡ true) ⊎ WasSent made e) → (WasSent made e → sendings past e < sendings (made ++ past) e) → sendings past e < sendings (entry ∷ made ++ past) e
sent_counts_from entry made past e (inl is) before = let grows = sendings_grow made past e in rw is (omega (arith, grows))
sent_counts_from entry made past e (inr sent) before = counted_low (is_sending e entry.event && is_sent entry.reply) (sendings (made ++ past) e) (suc (sendings past e)) (let more = before sent in omega (arith, more))

sent_counts : (made past : List Entry) (e : Entity) → WasSent made e → sendings past e < sendings (made ++ past) e
sent_counts [] past e sent = absurd sent
sent_counts (entry ∷ made) past e sent = sent_counts_from entry made past e sent (sent_counts made past e)

-- an entity that never failed

unspoiled : (g : Group) (past : List Entry) (e : Entity) → NeverFailed past e → is_spoiled g past e ≡ false
unspoiled g [] e never = refl
unspoiled g (entry ∷ past) e never =
    let before = unspoiled g past e never.1 in
    let here : is_fail_of e entry.event ≡ false = never.0 in
    rw (here, before) refl

never_failed_before : (made past : List Entry) (e : Entity) → NeverFailed (made ++ past) e → NeverFailed past e
never_failed_before [] past e never = never
never_failed_before (entry ∷ made) past e never = never_failed_before made past e never.1

-- what a send is answered

-- the command's number, or an answer that nothing was sent: no delivery follows it, and it blocks nothing where the entity is settled
pub record SendsNone (g : Group) (e : Entity) (past : List Entry) (answer : Reply) : Type 0 where
  pub quiet : follow_ups_of g [] (entry_of (Send e) answer ∷ past) answer ≡ []
  pub unsent : is_sent answer ≡ false
  pub unblocked : is_settled g past e ≡ true → (value : Var → ℕ) → blocks_change value answer ≡ false

abbrev Answers : Group → Entity → List Entry → ℕ → Reply → Type 0
Answers g e past n answer = (answer ≡ Sent n) ⊎ SendsNone g e past answer

answers_by : (g : Group) (e : Entity) (past : List Entry) (lack : Option Lack) (row : Row) (sent : ℕ) (settled : Bool) → is_settled g past e ≡ settled → Answers g e past (sent + 1) (if settled then Settled else blocked_or_sent lack row sent)
answers_by g e past lack row sent true is = inr (record { quiet = refl; unsent = refl; unblocked = λ settled value. refl })
answers_by g e past (Some lack) row sent false is = inr (record { quiet = refl; unsent = refl; unblocked = λ settled value. let no : false ≡ true = sym is ∙ settled in cc })
answers_by g e past None row sent false is = inl refl

send_answers : (g : Group) (past : List Entry) (e : Entity) → Answers g e past (length (commands g past) + 1) (reply g past (Send e))
send_answers g past e =
    let v = governing e (observed g past e).vals (target g past e) in
    answers_by g e past (lack_at g (observed g past) (target g past) e v) (row_to e v (target g past e)) (length (commands g past)) (is_settled g past e) refl

-- a delivery is not blocked
delivered : (value : Var → ℕ) (b : Bool) (fence : ℕ) → blocks_change value (if b then Begun else Stale fence) ≡ false
delivered value true fence = refl
delivered value false fence = refl

deliver_unblocked : (value : Var → ℕ) (fence : Entity → ℕ) (sent : ℕ) (o : Option Command) → blocks_change value (deliver_reply fence sent o) ≡ false
deliver_unblocked value fence sent None = refl
deliver_unblocked value fence sent (Some c) = delivered value (nat_lt (fence c.entity) c.stamp) (fence c.entity)

-- what keeps an entity settled

same_settled : (r x : Report) (s t : ℕ) (goal goal2 : Vals) → r ≡ x → s ≡ t → goal ≡ goal2 → is_settled_by r s goal ≡ is_settled_by x t goal2
same_settled r x s t goal goal2 p q same = rw (p, q, same) refl

-- an event that makes no version, hears nothing and leaves the target
quiet_settled : (g : Group) (past : List Entry) (event : Event) (answer : Reply) (e : Entity) → makes_version event answer ≡ false → heard event (nth (reports g past)) ≡ None → vals_in g (target g (entry_of event answer ∷ past)) e ≡ vals_in g (target g past) e → is_settled g (entry_of event answer ∷ past) e ≡ is_settled g past e
quiet_settled g past event answer e none silent goals =
    let views : observed g (entry_of event answer ∷ past) e ≡ observed g past e = rw silent refl in
    same_settled (observed g (entry_of event answer ∷ past) e) (observed g past e) (stamp g (entry_of event answer ∷ past) e) (stamp g past e) (vals_in g (target g (entry_of event answer ∷ past)) e) (vals_in g (target g past) e)
    views (ap (λ (f : Entity → ℕ). f e) (quiet_stamp g past event answer none silent)) goals

-- a withdrawal of another entity
other_withdrawn_by : (g : Group) (past : List Entry) (x e : Entity) (b : Bool) → is_some (rows_withdrawn (reply g past (Withdraw x))) ≡ b → is_same_entity x e ≡ false → is_settled g (entry_after g past (Withdraw x) ∷ past) e ≡ is_settled g past e
other_withdrawn_by g past x e true some other =
    let answer = reply g past (Withdraw x) in
    let it = withdrawal g past x answer refl some in
    let goals : vals_in g (target g (entry_of (Withdraw x) answer ∷ past)) e ≡ vals_in g (target g past) e = ap (vals_by e (opening_of g e)) (other_target g past x e answer it other) in
    same_settled (observed g past e) (observed g past e) (stamp g (entry_of (Withdraw x) answer ∷ past) e) (stamp g past e) (vals_in g (target g (entry_of (Withdraw x) answer ∷ past)) e) (vals_in g (target g past) e) refl (other_stamp g past x e answer it other) goals
other_withdrawn_by g past x e false none other =
    let answer = reply g past (Withdraw x) in
    quiet_settled g past (Withdraw x) answer e none refl (ap (λ (t : Entity → Var → ℕ). vals_in g t e) (target_same g past (entry_of (Withdraw x) answer) none))

other_withdrawn : (g : Group) (past : List Entry) (x e : Entity) (called : Bool) → is_same_entity x e ≡ false → is_settled g (if called then entry_after g past (Withdraw x) ∷ past else past) e ≡ is_settled g past e
other_withdrawn g past x e true other = other_withdrawn_by g past x e (is_some (rows_withdrawn (reply g past (Withdraw x)))) refl other
other_withdrawn g past x e false other = refl

-- a report of another entity
other_heard : (g : Group) (past : List Entry) (k : ℕ) (answer : Reply) (r : Report) (e : Entity) → nth (reports g past) k ≡ Some r → is_same_entity r.entity e ≡ false → is_settled g (entry_of (Hear k) answer ∷ past) e ≡ is_settled g past e
other_heard g past k answer r e names other =
    let views : observed g (entry_of (Hear k) answer ∷ past) e ≡ observed g past e = rw (names, other) refl in
    let stamps : stamp g (entry_of (Hear k) answer ∷ past) e ≡ stamp g past e = rw (names, other, and-false (is_taken answer)) refl in
    same_settled (observed g (entry_of (Hear k) answer ∷ past) e) (observed g past e) (stamp g (entry_of (Hear k) answer ∷ past) e) (stamp g past e) (vals_in g (target g past) e) (vals_in g (target g past) e) views stamps refl

-- the end of another entity's turn
other_ended : (g : Group) (past : List Entry) (x e : Entity) → is_same_entity x e ≡ false → is_settled g (ended_by g [] x past) e ≡ is_settled g past e
other_ended g past x e other =
    let three = entry_after g past (Finish x) ∷ past in
    let k = length (reports g three) + 1 in
    let four = entry_of (make_report x) (Reported k) ∷ three in
    other_heard g four k (reply g four (Hear k)) (report_now g three x) e (reported_named g three x k (Reported k) refl) other
    ∙ quiet_settled g three (make_report x) (Reported k) e refl refl refl
    ∙ quiet_settled g past (Finish x) (reply g past (Finish x)) e refl refl refl

-- the journal with a send of this answer and what follows it
abbrev sent_by : Group → Entity → List Entry → Reply → List Entry
sent_by g x past answer = all_by g (follow_ups_of g [] (entry_of (Send x) answer ∷ past) answer) (entry_of (Send x) answer ∷ past)

unsent_by : (g : Group) (x : Entity) (past : List Entry) (answer : Reply) → follow_ups_of g [] (entry_of (Send x) answer ∷ past) answer ≡ [] → sent_by g x past answer ≡ entry_of (Send x) answer ∷ past
unsent_by g x past answer none = ap (λ (events : List Event). all_by g events (entry_of (Send x) answer ∷ past)) none

other_sent : (g : Group) (past : List Entry) (x e : Entity) (n : ℕ) (answer : Reply) → Answers g x past n answer → is_settled g (sent_by g x past answer) e ≡ is_settled g past e
other_sent g past x e n answer (inl is) =
    let one = entry_of (Send x) (Sent n) ∷ past in
    ap (λ (a : Reply). is_settled g (sent_by g x past a) e) is
    ∙ quiet_settled g one (Deliver n) (reply g one (Deliver n)) e refl refl refl
    ∙ quiet_settled g past (Send x) (Sent n) e refl refl refl
other_sent g past x e n answer (inr not_sent) =
    ap (λ (journal : List Entry). is_settled g journal e) (unsent_by g x past answer not_sent.quiet)
    ∙ quiet_settled g past (Send x) answer e refl refl refl

-- an agent whose entity is settled has begun what its stamp stands for
settled_begun : (g : Group) (past : List Entry) (e : Entity) → is_settled g past e ≡ true → fence g past e ≡ stamp g past e
settled_begun g past e settled =
    let r = observed g past e in
    let shown = both (not r.busy && r.fence == stamp g past e) (is_same_vals r.vals (vals_in g (target g past) e)) settled in
    let begun = equal_numbers r.fence (stamp g past e) (both (not r.busy) (r.fence == stamp g past e) shown.0).1 in
    let own = observed_own g past e in
    let behind = (made_is_true g past r own.made).behind in
    let at : fence g past r.entity ≡ fence g past e = ap (fence g past) own.own in
    let low = fence_small g past e in
    omega (arith, begun, behind, at, low)

-- its own turn settles an entity: where it is sent its command, and where it was settled
own_sent : (g : Group) (past : List Entry) (e : Entity) (n : ℕ) → n ≡ length (commands g past) + 1 → is_spoiled g past e ≡ false → IsLegal g (ended_by g [] e (sent_by g e past (Sent n))) → is_settled g (ended_by g [] e (sent_by g e past (Sent n))) e ≡ true
own_sent g past e n is whole legal =
    let one = entry_of (Send e) (Sent n) ∷ past in
    let two = entry_of (Deliver n) (reply g one (Deliver n)) ∷ one in
    let three = entry_of (Finish e) (reply g two (Finish e)) ∷ two in
    let k = length (reports g three) + 1 in
    let four = entry_of (make_report e) (Reported k) ∷ three in
    turn_settles g past e n k (Sent n) (reply g one (Deliver n)) (reply g two (Finish e)) (Reported k) (reply g four (Hear k)) legal whole (sent_named g past e n is) (reported_named g three e k (Reported k) refl)

own_unsent : (g : Group) (past : List Entry) (e : Entity) (answer : Reply) → is_spoiled g past e ≡ false → IsLegal g (ended_by g [] e (entry_of (Send e) answer ∷ past)) → is_settled g past e ≡ true → is_settled g (ended_by g [] e (entry_of (Send e) answer ∷ past)) e ≡ true
own_unsent g past e answer whole legal settled =
    let one = entry_of (Send e) answer ∷ past in
    let c = reply g one (Finish e) in
    let three = entry_of (Finish e) c ∷ one in
    let k = length (reports g three) + 1 in
    let four = entry_of (make_report e) (Reported k) ∷ three in
    let idle : busy g three e ≡ false = rw (same_self e) (and-false (busy g one e)) in
    let begun : fence g three e ≡ stamp g past e = settled_begun g past e settled in
    let stamps : stamp g three ≡ stamp g past = quiet_stamp g one (Finish e) c refl refl ∙ quiet_stamp g past (Send e) answer refl refl in
    let unharmed : is_spoiled g three e ≡ false = rw whole refl in
    report_settles g three e k (Reported k) (reply g four (Hear k)) legal idle (begun ∙ sym (ap (λ (f : Entity → ℕ). f e) stamps)) unharmed (reported_named g three e k (Reported k) refl)

-- what entries between two journals make of an entity
pub record Settles (g : Group) (e : Entity) (before after : List Entry) : Type 0 where
  -- it is settled where it was sent a command in between
  pub sent : sendings before e < sendings after e → is_settled g after e ≡ true
  -- it stays settled
  pub kept : is_settled g before e ≡ true → is_settled g after e ≡ true

-- a command that was sent calls for no withdrawal
sent_calls_none : (g : Group) (past : List Entry) (e : Entity) (n : ℕ) → withdrawn_by g e (sent_by g e past (Sent n)) ≡ sent_by g e past (Sent n)
sent_calls_none g past e n =
    let one = entry_of (Send e) (Sent n) ∷ past in
    let two = sent_by g e past (Sent n) in
    rw (deliver_unblocked (value_of e (observed g two e).vals) (fence g one) (length (commands g one)) (nth (commands g one) n)) refl

own_turn : (g : Group) (past : List Entry) (e : Entity) (answer : Reply) → Answers g e past (length (commands g past) + 1) answer → is_spoiled g past e ≡ false → IsLegal g (ended_by g [] e (withdrawn_by g e (sent_by g e past answer))) → Settles g e past (ended_by g [] e (withdrawn_by g e (sent_by g e past answer)))
own_turn g past e answer (inl is) whole =
    subst (λ (a : Reply). IsLegal g (ended_by g [] e (withdrawn_by g e (sent_by g e past a))) → Settles g e past (ended_by g [] e (withdrawn_by g e (sent_by g e past a)))) (sym is)
    (subst (λ (journal : List Entry). IsLegal g (ended_by g [] e journal) → Settles g e past (ended_by g [] e journal)) (sym (sent_calls_none g past e (length (commands g past) + 1)))
    (λ legal. let settled = own_sent g past e (length (commands g past) + 1) refl whole legal in record { sent = λ more. settled; kept = λ was. settled }))
own_turn g past e answer (inr not_sent) whole =
    subst (λ (journal : List Entry). IsLegal g (ended_by g [] e (withdrawn_by g e journal)) → Settles g e past (ended_by g [] e (withdrawn_by g e journal))) (sym (unsent_by g e past answer not_sent.quiet))
    (λ legal. record {
      sent = λ more. absurd (unsent_once (is_same_entity e e) (is_sent answer) (sendings past e) not_sent.unsent (counted (is_called_back g (entry_of (Send e) answer ∷ past) e) more));
      kept = λ was.
          let free : is_called_back g (entry_of (Send e) answer ∷ past) e ≡ false = not_sent.unblocked was (value_of e (observed g (entry_of (Send e) answer ∷ past) e).vals) in
          let same : withdrawn_by g e (entry_of (Send e) answer ∷ past) ≡ entry_of (Send e) answer ∷ past = rw free refl in
          subst (λ (journal : List Entry). IsLegal g (ended_by g [] e journal) → is_settled g (ended_by g [] e journal) e ≡ true) (sym same) (λ legal. own_unsent g past e answer whole legal was) legal;
    })
  where
    unsent_once : (same sent : Bool) (n : ℕ) → sent ≡ false → n < (if same && sent then n + 1 else n) → ⊥
    unsent_once same sent n none more = let still : n < n = rw (none, and-false same) at more in omega (arith, still)

    counted : (called : Bool) → sendings past e < sendings (ended_by g [] e (if called then entry_after g (entry_of (Send e) answer ∷ past) (Withdraw e) ∷ entry_of (Send e) answer ∷ past else entry_of (Send e) answer ∷ past)) e → sendings past e < (if is_same_entity e e && is_sent answer then sendings past e + 1 else sendings past e)
    counted true more = more
    counted false more = more

other_turn : (g : Group) (past : List Entry) (x e : Entity) (n : ℕ) (answer : Reply) → Answers g x past n answer → is_same_entity x e ≡ false → Settles g e past (ended_by g [] x (withdrawn_by g x (sent_by g x past answer)))
other_turn g past x e n answer answers other =
    let sent = sent_by g x past answer in
    let same = other_ended g (withdrawn_by g x sent) x e other ∙ other_withdrawn g sent x e (is_called_back g sent x) other ∙ other_sent g past x e n answer answers in
    record { sent = λ more. absurd (omega (arith, more, counted sent (is_called_back g sent x), once n answer answers)); kept = λ was. same ∙ was }
  where
    once : (n : ℕ) (answer : Reply) → Answers g x past n answer → sendings (sent_by g x past answer) e ≡ sendings past e
    once n answer (inl is) = ap (λ (a : Reply). sendings (sent_by g x past a) e) is ∙ rw other refl
    once n answer (inr not_sent) = ap (λ (journal : List Entry). sendings journal e) (unsent_by g x past answer not_sent.quiet) ∙ rw other refl

    counted : (journal : List Entry) (called : Bool) → sendings (ended_by g [] x (if called then entry_after g journal (Withdraw x) ∷ journal else journal)) e ≡ sendings journal e
    counted journal true = refl
    counted journal false = refl

turn_by_settles : (g : Group) (past : List Entry) (x e : Entity) (same : Bool) → is_same_entity x e ≡ same → is_spoiled g past e ≡ false → IsLegal g (turn_by g [] x past) → Settles g e past (turn_by g [] x past)
turn_by_settles g past x e true is whole legal =
    subst (λ (y : Entity). IsLegal g (turn_by g [] y past) → Settles g e past (turn_by g [] y past)) (sym (same_entity x e is))
    (own_turn g past e (reply g past (Send e)) (send_answers g past e) whole) legal
turn_by_settles g past x e false is whole legal = other_turn g past x e (length (commands g past) + 1) (reply g past (Send x)) (send_answers g past x) is

-- a turn fails nothing
turn_unspoiled : (g : Group) (past : List Entry) (x e : Entity) → is_spoiled g past e ≡ false → is_spoiled g (turn_by g [] x past) e ≡ false
turn_unspoiled g past x e whole =
    let told = told_by g [] (Send x) past in
    ended (withdrawn_by g x told) (back told (is_called_back g told x) (begun (length (commands g past) + 1) (reply g past (Send x)) (send_answers g past x)))
  where
    ended : (journal : List Entry) → is_spoiled g journal e ≡ false → is_spoiled g (ended_by g [] x journal) e ≡ false
    ended journal unharmed = rw unharmed refl

    back : (journal : List Entry) (called : Bool) → is_spoiled g journal e ≡ false → is_spoiled g (if called then entry_after g journal (Withdraw x) ∷ journal else journal) e ≡ false
    back journal true unharmed = rw unharmed refl
    back journal false unharmed = unharmed

    begun : (n : ℕ) (answer : Reply) → Answers g x past n answer → is_spoiled g (sent_by g x past answer) e ≡ false
    begun n answer (inl is) = ap (λ (a : Reply). is_spoiled g (sent_by g x past a) e) is ∙ rw whole refl
    begun n answer (inr not_sent) = ap (λ (journal : List Entry). is_spoiled g journal e) (unsent_by g x past answer not_sent.quiet) ∙ rw whole refl

-- what holds of the entries up to a journal, and of those behind it, holds of all of them
settles_both : (g : Group) (e : Entity) (before middle after : List Entry) → Settles g e before middle → Settles g e middle after → Settles g e before after
settles_both g e before middle after first second = record { sent = by_last (nat_lt (sendings middle e) (sendings after e)) refl; kept = λ was. second.kept (first.kept was) }
  where
    by_last : (b : Bool) → nat_lt (sendings middle e) (sendings after e) ≡ b → sendings before e < sendings after e → is_settled g after e ≡ true
    by_last true is more = second.sent (less_is (sendings middle e) (sendings after e) is)
    by_last false is more = let none = not_less (sendings middle e) (sendings after e) is in second.kept (first.sent (omega (arith, none, more)))

goes_on : (stopped : Bool) (end : Bool) → (stopped ≡ true → end ≡ true) → end ≡ false → stopped ≡ false
goes_on true end stays going = let stops = sym (stays refl) ∙ going in cc
goes_on false end stays going = refl

-- turns that meet no full journal settle each entity that they send a command, and keep the settled ones, where the entity has not failed
-- since its last finish
pub turns_settle : (g : Group) (course : Course) (es : List Entity) (e : Entity) → IsLegal g course.past → All (IsEntityOf g) es → is_spoiled g course.past e ≡ false → (turns g [] course es).stopped ≡ false → Settles g e course.past (turns g [] course es).past
turns_settle g course [] e legal own unharmed going = record { sent = λ more. absurd (omega (arith, more)); kept = λ was. was }
turns_settle g course (x ∷ es) e legal own unharmed going =
    let next = turn g [] course x in
    let goes : next.stopped ≡ false = goes_on next.stopped (turns g [] next es).stopped (λ stop. ap (λ (r : Course). r.stopped) (turns-stopped g [] next es stop) ∙ stop) going in
    let whole = turn-whole g [] course x goes in
    let legal_next = turn-legal g [] course x legal (All-head (IsEntityOf g) x es own) in
    let here = turn_by_settles g course.past x e (is_same_entity x e) refl unharmed (subst (λ (journal : List Entry). IsLegal g journal) whole.1 legal_next) in
    let unharmed_next = ap (λ (journal : List Entry). is_spoiled g journal e) whole.1 ∙ turn_unspoiled g course.past x e unharmed in
    settles_both g e course.past next.past (turns g [] next es).past (subst (λ (journal : List Entry). Settles g e course.past journal) (sym whole.1) here)
    (turns_settle g next es e legal_next (All-tail (IsEntityOf g) x es own) unharmed_next going)

-- over a loss plan without lines, an entity that a round sends a command, and that never failed, is settled behind the round
pub round_settles : (g : Group) (past made : List Entry) → IsLegal g past → round g [] past ≡ record { past = made ++ past; stopped = false } → (e : Entity) → WasSent made e → NeverFailed (made ++ past) e → is_settled g (made ++ past) e ≡ true
round_settles g past made legal is e sent never =
    let unharmed = unspoiled g past e (never_failed_before made past e never) in
    let settles = turns_settle g (course_from past) (unsettled g past) e legal (unsettled_fit g past) unharmed (ap (λ (r : Course). r.stopped) is) in
    let all = subst (λ (journal : List Entry). Settles g e past journal) (ap (λ (r : Course). r.past) is) settles in
    all.sent (sent_counts made past e sent)

-- what a round that met no full journal made; and the same of any loss plan that has no lines
pub round_made : (g : Group) (lines : List WireLine) (past whole : List Entry) → IsLegal g past → round g lines past ≡ record { past = whole; stopped = false } → (made : List Entry) × (whole ≡ made ++ past) × (lines ≡ [] → (e : Entity) → WasSent made e → NeverFailed whole e → is_settled g whole e ≡ true)
round_made g lines past whole legal is =
    let grows : IsBeginning past whole = subst (λ (journal : List Entry). IsBeginning past journal) (ap (λ (r : Course). r.past) is) (round-grows g lines past) in
    let course : course_from whole ≡ course_from (grows.0 ++ past) = ap course_from grows.1 in
    let settled = λ (none : lines ≡ []) (e : Entity) (sent : WasSent grows.0 e). round_settles g past grows.0 legal (ap (λ (l : List WireLine). round g l past) (sym none) ∙ is ∙ course) e sent in
    (grows.0, grows.1, λ none e sent. subst (λ (journal : List Entry). NeverFailed journal e → is_settled g journal e ≡ true) (sym grows.1) (settled none e sent))
