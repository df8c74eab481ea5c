-- What each step of a round does to a journal: it only adds entries, adds none once an event met the journal full, and keeps it legal.
use Rattle.std.proofs.Common.{◌≡◌, List, [], ◌∷◌, ◌++◌, length, refl, ap, sym, ◌∙◌, append_assoc}
use Rattle.std.specs.Prelude.{Bool, true, false, nat_lt, All, if◌then◌else◌}
use Rattle.std.proofs.lemmas.List.Elements.{All-nil, All-head, All-tail, All-map, All-filter}
use Rattle.st_net.specs.declared.entity.Entity.{Entity}
use Rattle.st_net.specs.Groups.{Group, IsEntityOf}
use Rattle.st_net.specs.InOrder.{entities_of}
use Rattle.st_net.proofs.EntityOrder.{entities_fit}
use Rattle.st_net.proofs.Tests.{less_is}
use Rattle.st_event.specs.declared.event.Event.{Event}
use Rattle.st_event.specs.declared.event.Event.TheVariants.{Send, Deliver, Finish, Report as make_report, Hear, Withdraw}
use Rattle.st_event.specs.declared.reply.Reply.{Reply}
use Rattle.st_event.specs.declared.reply.Reply.TheVariants.{Sent, Reported}
use Rattle.st_event.specs.declared.journal.Entry.{Entry}
use Rattle.st_event.specs.declared.journal.TheConstants.{MAX_ENTRIES}
use Rattle.st_event.specs.Legal.{Fits, IsNext, IsLegal}
use Rattle.st_event.specs.Services.{entry_after}
use Rattle.st_wire.specs.declared.line.WireKind.TheVariants.{Command as command_kind, Report as report_kind}
use Rattle.st_wire.specs.declared.line.WireLine.{WireLine}
use Rattle.st_wire.specs.Deliveries.{deliveries}
use Rattle.st_world.specs.World.{IsBeginning}
use Rattle.st_world.specs.Rounds.{Course, course_from, enter, enter_all, follow_ups_of, follow_ups, enter_told, is_called_back, called_back, send_turn, update_turn, poll, turn, turns, unsettled, round}

-- beginnings

pub beginning-self : (past : List Entry) → IsBeginning past past
beginning-self past = ([], refl)

pub beginning-more : (past middle whole : List Entry) → IsBeginning past middle → IsBeginning middle whole → IsBeginning past whole
beginning-more past middle whole first second = (second.0 ++ first.0, second.1 ∙ ap (λ (x : List Entry). second.0 ++ x) first.1 ∙ sym (append_assoc second.0 first.0 past))

-- a course after an event with this entry: it had stopped before, or there is room, or it stops
abbrev pub entered : Course → Entry → Bool → Bool → Course
entered course entry stopped room = if stopped then course else (if room then record { past = entry ∷ course.past; stopped = false } else record { past = course.past; stopped = true })

entered-grows : (course : Course) (entry : Entry) (stopped room : Bool) → IsBeginning course.past (entered course entry stopped room).past
entered-grows course entry true room = beginning-self course.past
entered-grows course entry false true = (entry ∷ [], refl)
entered-grows course entry false false = beginning-self course.past

-- each step leaves what was entered before

pub enter-grows : (g : Group) (course : Course) (event : Event) → IsBeginning course.past (enter g course event).past
enter-grows g course event = entered-grows course (entry_after g course.past event) course.stopped (nat_lt (length course.past) MAX_ENTRIES)

pub enter_all-grows : (g : Group) (course : Course) (events : List Event) → IsBeginning course.past (enter_all g course events).past
enter_all-grows g course [] = beginning-self course.past
enter_all-grows g course (event ∷ events) = beginning-more course.past (enter g course event).past (enter_all g (enter g course event) events).past (enter-grows g course event) (enter_all-grows g (enter g course event) events)

pub enter_told-grows : (g : Group) (lines : List WireLine) (course : Course) (event : Event) → IsBeginning course.past (enter_told g lines course event).past
enter_told-grows g lines course event =
    let next = enter g course event in
    beginning-more course.past next.past (enter_told g lines course event).past (enter-grows g course event) (enter_all-grows g next (follow_ups g lines next.past))

called-grows : (g : Group) (course : Course) (e : Entity) (called : Bool) → IsBeginning course.past (if called then enter g course (Withdraw e) else course).past
called-grows g course e true = enter-grows g course (Withdraw e)
called-grows g course e false = beginning-self course.past

pub called_back-grows : (g : Group) (course : Course) (e : Entity) → IsBeginning course.past (called_back g course e).past
called_back-grows g course e = called-grows g course e (is_called_back g course.past e)

pub send_turn-grows : (g : Group) (lines : List WireLine) (course : Course) (e : Entity) → IsBeginning course.past (send_turn g lines course e).past
send_turn-grows g lines course e =
    let told = enter_told g lines course (Send e) in
    beginning-more course.past told.past (send_turn g lines course e).past (enter_told-grows g lines course (Send e)) (called_back-grows g told e)

pub update_turn-grows : (g : Group) (lines : List WireLine) (course : Course) (e : Entity) → IsBeginning course.past (update_turn g lines course e).past
update_turn-grows g lines course e =
    let sent = send_turn g lines course e in
    beginning-more course.past sent.past (update_turn g lines course e).past (send_turn-grows g lines course e) (enter-grows g sent (Finish e))

pub poll-grows : (g : Group) (lines : List WireLine) (course : Course) (e : Entity) → IsBeginning course.past (poll g lines course e).past
poll-grows g lines course e = enter_told-grows g lines course (make_report e)

pub turn-grows : (g : Group) (lines : List WireLine) (course : Course) (e : Entity) → IsBeginning course.past (turn g lines course e).past
turn-grows g lines course e =
    let updated = update_turn g lines course e in
    beginning-more course.past updated.past (turn g lines course e).past (update_turn-grows g lines course e) (poll-grows g lines updated e)

pub turns-grows : (g : Group) (lines : List WireLine) (course : Course) (es : List Entity) → IsBeginning course.past (turns g lines course es).past
turns-grows g lines course [] = beginning-self course.past
turns-grows g lines course (e ∷ es) = beginning-more course.past (turn g lines course e).past (turns g lines (turn g lines course e) es).past (turn-grows g lines course e) (turns-grows g lines (turn g lines course e) es)

pub round-grows : (g : Group) (lines : List WireLine) (past : List Entry) → IsBeginning past (round g lines past).past
round-grows g lines past = turns-grows g lines (course_from past) (unsettled g past)

-- a course that has stopped stays as it is

pub enter-stopped : (g : Group) (course : Course) (event : Event) → course.stopped ≡ true → enter g course event ≡ course
enter-stopped g course event stopped = rw stopped refl

pub enter_all-stopped : (g : Group) (course : Course) (events : List Event) → course.stopped ≡ true → enter_all g course events ≡ course
enter_all-stopped g course [] stopped = refl
enter_all-stopped g course (event ∷ events) stopped = ap (λ (r : Course). enter_all g r events) (enter-stopped g course event stopped) ∙ enter_all-stopped g course events stopped

pub enter_told-stopped : (g : Group) (lines : List WireLine) (course : Course) (event : Event) → course.stopped ≡ true → enter_told g lines course event ≡ course
enter_told-stopped g lines course event stopped = ap (λ (r : Course). enter_all g r (follow_ups g lines r.past)) (enter-stopped g course event stopped) ∙ enter_all-stopped g course (follow_ups g lines course.past) stopped

called-stopped : (g : Group) (course : Course) (e : Entity) (called : Bool) → course.stopped ≡ true → (if called then enter g course (Withdraw e) else course) ≡ course
called-stopped g course e true stopped = enter-stopped g course (Withdraw e) stopped
called-stopped g course e false stopped = refl

pub called_back-stopped : (g : Group) (course : Course) (e : Entity) → course.stopped ≡ true → called_back g course e ≡ course
called_back-stopped g course e stopped = called-stopped g course e (is_called_back g course.past e) stopped

pub send_turn-stopped : (g : Group) (lines : List WireLine) (course : Course) (e : Entity) → course.stopped ≡ true → send_turn g lines course e ≡ course
send_turn-stopped g lines course e stopped = ap (λ (r : Course). called_back g r e) (enter_told-stopped g lines course (Send e) stopped) ∙ called_back-stopped g course e stopped

pub update_turn-stopped : (g : Group) (lines : List WireLine) (course : Course) (e : Entity) → course.stopped ≡ true → update_turn g lines course e ≡ course
update_turn-stopped g lines course e stopped = ap (λ (r : Course). enter g r (Finish e)) (send_turn-stopped g lines course e stopped) ∙ enter-stopped g course (Finish e) stopped

pub poll-stopped : (g : Group) (lines : List WireLine) (course : Course) (e : Entity) → course.stopped ≡ true → poll g lines course e ≡ course
poll-stopped g lines course e stopped = enter_told-stopped g lines course (make_report e) stopped

pub turn-stopped : (g : Group) (lines : List WireLine) (course : Course) (e : Entity) → course.stopped ≡ true → turn g lines course e ≡ course
turn-stopped g lines course e stopped = ap (λ (r : Course). poll g lines r e) (update_turn-stopped g lines course e stopped) ∙ poll-stopped g lines course e stopped

pub turns-stopped : (g : Group) (lines : List WireLine) (course : Course) (es : List Entity) → course.stopped ≡ true → turns g lines course es ≡ course
turns-stopped g lines course [] stopped = refl
turns-stopped g lines course (e ∷ es) stopped = ap (λ (r : Course). turns g lines r es) (turn-stopped g lines course e stopped) ∙ turns-stopped g lines course es stopped

-- what follows an entry fits

pub follow_ups_of_fit : (g : Group) (lines : List WireLine) (past : List Entry) (reply : Reply) → All (Fits g) (follow_ups_of g lines past reply)
follow_ups_of_fit g lines past (Sent n) = All-map (Fits g) Deliver (deliveries lines command_kind n) (λ k d low. tt)
follow_ups_of_fit g lines past (Reported n) = All-map (Fits g) Hear (deliveries lines report_kind n) (λ k d low. tt)
follow_ups_of_fit g lines past _ = All-nil (Fits g)

pub follow_ups_fit : (g : Group) (lines : List WireLine) (past : List Entry) → All (Fits g) (follow_ups g lines past)
follow_ups_fit g lines [] = All-nil (Fits g)
follow_ups_fit g lines (entry ∷ past) = follow_ups_of_fit g lines (entry ∷ past) entry.reply

-- the entities that are not settled are ones of the group

pub unsettled_fit : (g : Group) (past : List Entry) → All (IsEntityOf g) (unsettled g past)
unsettled_fit g past = All-filter _ (IsEntityOf g) (entities_of g) (entities_fit g)

-- each step keeps the journal legal, where its events fit

entered-legal : (g : Group) (course : Course) (entry : Entry) (stopped room : Bool) → IsLegal g course.past → (room ≡ true → IsNext g course.past entry) → IsLegal g (entered course entry stopped room).past
entered-legal g course entry true room legal next = legal
entered-legal g course entry false true legal next = (next refl, legal)
entered-legal g course entry false false legal next = legal

pub enter-legal : (g : Group) (course : Course) (event : Event) → IsLegal g course.past → Fits g event → IsLegal g (enter g course event).past
enter-legal g course event legal fits =
    entered-legal g course (entry_after g course.past event) course.stopped (nat_lt (length course.past) MAX_ENTRIES) legal
    (λ room. record { room = less_is (length course.past) MAX_ENTRIES room; fits = fits; answer = refl })

pub enter_all-legal : (g : Group) (course : Course) (events : List Event) → IsLegal g course.past → All (Fits g) events → IsLegal g (enter_all g course events).past
enter_all-legal g course [] legal fit = legal
enter_all-legal g course (event ∷ events) legal fit = enter_all-legal g (enter g course event) events (enter-legal g course event legal (All-head (Fits g) event events fit)) (All-tail (Fits g) event events fit)

pub enter_told-legal : (g : Group) (lines : List WireLine) (course : Course) (event : Event) → IsLegal g course.past → Fits g event → IsLegal g (enter_told g lines course event).past
enter_told-legal g lines course event legal fits =
    let next = enter g course event in
    enter_all-legal g next (follow_ups g lines next.past) (enter-legal g course event legal fits) (follow_ups_fit g lines next.past)

called-legal : (g : Group) (course : Course) (e : Entity) (called : Bool) → IsLegal g course.past → IsEntityOf g e → IsLegal g (if called then enter g course (Withdraw e) else course).past
called-legal g course e true legal own = enter-legal g course (Withdraw e) legal own
called-legal g course e false legal own = legal

pub called_back-legal : (g : Group) (course : Course) (e : Entity) → IsLegal g course.past → IsEntityOf g e → IsLegal g (called_back g course e).past
called_back-legal g course e legal own = called-legal g course e (is_called_back g course.past e) legal own

pub send_turn-legal : (g : Group) (lines : List WireLine) (course : Course) (e : Entity) → IsLegal g course.past → IsEntityOf g e → IsLegal g (send_turn g lines course e).past
send_turn-legal g lines course e legal own = called_back-legal g (enter_told g lines course (Send e)) e (enter_told-legal g lines course (Send e) legal own) own

pub update_turn-legal : (g : Group) (lines : List WireLine) (course : Course) (e : Entity) → IsLegal g course.past → IsEntityOf g e → IsLegal g (update_turn g lines course e).past
update_turn-legal g lines course e legal own = enter-legal g (send_turn g lines course e) (Finish e) (send_turn-legal g lines course e legal own) own

pub poll-legal : (g : Group) (lines : List WireLine) (course : Course) (e : Entity) → IsLegal g course.past → IsEntityOf g e → IsLegal g (poll g lines course e).past
poll-legal g lines course e legal own = enter_told-legal g lines course (make_report e) legal own

pub turn-legal : (g : Group) (lines : List WireLine) (course : Course) (e : Entity) → IsLegal g course.past → IsEntityOf g e → IsLegal g (turn g lines course e).past
turn-legal g lines course e legal own = poll-legal g lines (update_turn g lines course e) e (update_turn-legal g lines course e legal own) own

pub turns-legal : (g : Group) (lines : List WireLine) (course : Course) (es : List Entity) → IsLegal g course.past → All (IsEntityOf g) es → IsLegal g (turns g lines course es).past
turns-legal g lines course [] legal own = legal
turns-legal g lines course (e ∷ es) legal own = turns-legal g lines (turn g lines course e) es (turn-legal g lines course e legal (All-head (IsEntityOf g) e es own)) (All-tail (IsEntityOf g) e es own)

pub round-legal : (g : Group) (lines : List WireLine) (past : List Entry) → IsLegal g past → IsLegal g (round g lines past).past
round-legal g lines past legal = turns-legal g lines (course_from past) (unsettled g past) legal (unsettled_fit g past)
