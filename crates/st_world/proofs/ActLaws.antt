-- Acts of several events: a proposal for which there is room, checks while what is pending passes, and rounds while some entity is not settled.
use Rattle.std.proofs.Common.{◌≡◌, ◌≢◌, ℕ, zero, suc, ◌+◌, ◌-◌, ◌<◌, ◌≤◌, List, [], ◌∷◌, length, refl, ap, sym, ◌∙◌, subst, arith}
use Rattle.std.specs.Prelude.{Bool, true, false, ◌==◌, Result, OnErr, if◌then◌else◌}
use Rattle.st_net.specs.declared.entity.AppId.{AppId}
use Rattle.st_net.specs.declared.entity.Entity.{Entity}
use Rattle.st_net.specs.declared.entity.Row.{Row}
use Rattle.st_net.specs.Groups.{Group}
use Rattle.st_event.specs.declared.event.Event.TheVariants.{Submit, Check}
use Rattle.st_event.specs.declared.event.Proposal.{Proposal}
use Rattle.st_event.specs.declared.journal.Entry.{Entry}
use Rattle.st_event.specs.declared.journal.TheConstants.{MAX_PENDING}
use Rattle.st_event.specs.Proposals.{pending}
use Rattle.st_wire.specs.declared.line.WireLine.{WireLine}
use Rattle.st_world.specs.declared.world.rounds.Going.{Going}
use Rattle.st_world.specs.declared.world.rounds.Going.TheVariants.{On, Full}
use Rattle.st_world.specs.declared.world.rounds.Rounded.{Rounded}
use Rattle.st_world.specs.declared.world.rounds.Rounded.TheVariants.{Did, JournalFull}
use Rattle.st_world.specs.World.{WorldView, IsBeginning}
use Rattle.st_world.specs.Rounds.{Course, course_from, course_with, enter, turns, unsettled, round, Rounds, Goes, HasSameSetting, IsPartOf}
use Rattle.st_world.specs.Acts.{checked_while, is_something, is_none_left, proposed, rounds_done, with_room}
use Rattle.st_world.proofs.RunLaws.{beginning-self, beginning-more, enter-grows, enter-stopped, turns-grows, turns-stopped, round-grows}
use Rattle.st_world.proofs.RoundLaws.{IsOnWay, part_goes, part_parts, stops_there}

-- at the start all of a course is left
pub way_start : (w : WorldView) (whole : Course) → IsOnWay w w whole whole
way_start w whole = record { began = beginning-self w.history.past; setting = record { group = refl; lines = refl }; ends = refl }

-- where nothing is left the world has gone through all of the course
goes_none : (old now : WorldView) (whole left : Course) → IsOnWay old now whole left → left ≡ course_from now.history.past → Goes now whole On
goes_none old now whole left way none = sym none ∙ way.ends

-- of two courses that a test chooses between, each goes on from the same beginning
by_test-grows : (past : List Entry) (b : Bool) (first second : Course) → IsBeginning past first.past → IsBeginning past second.past → IsBeginning past (if b then first else second).past
by_test-grows past true first second one two = one
by_test-grows past false first second one two = two

-- proposals

pub with_room-grows : (g : Group) (course : Course) → IsBeginning course.past (with_room g course).past
with_room-grows g course = by_test-grows course.past (length (pending course.past) == MAX_PENDING) (enter g course Check) course (enter-grows g course Check) (beginning-self course.past)

pub proposed-grows : (g : Group) (course : Course) (app : AppId) (rows : List Row) → IsBeginning course.past (proposed g course app rows).past
proposed-grows g course app rows =
    let room = with_room g course in
    beginning-more course.past room.past (proposed g course app rows).past (with_room-grows g course) (enter-grows g room (Submit app rows))

-- the proposal that follows the check that makes room
abbrev pub submitting : AppId → List Row → Group → List WireLine → Course → Course
submitting app rows g lines course = enter g course (Submit app rows)

-- the check that follows a proposal
abbrev pub checking : Group → List WireLine → Course → Course
checking g lines course = enter g course Check

-- checks

-- where what is pending does not pass no check is made
while_none : (g : Group) (waits : List Proposal → Bool) (n : ℕ) (course : Course) → waits (pending course.past) ≡ false → checked_while g waits n course ≡ course
unfolding checked_while
while_none g waits zero course none = refl
while_none g waits (suc n) course none = rw none refl

-- where what is pending passes one check is made first
while_one : (g : Group) (waits : List Proposal → Bool) (n : ℕ) (course : Course) → waits (pending course.past) ≡ true → checked_while g waits (suc n) course ≡ checked_while g waits n (enter g course Check)
unfolding checked_while
while_one g waits n course some = rw some refl

while_zero : (g : Group) (waits : List Proposal → Bool) (course : Course) → checked_while g waits 0 course ≡ course
unfolding checked_while
while_zero g waits course = refl

by_waiting : (g : Group) (waits : List Proposal → Bool) (n : ℕ) (course : Course) (b : Bool) → checked_while g waits n (enter g course Check) ≡ course → (if b then checked_while g waits n (enter g course Check) else course) ≡ course
by_waiting g waits n course true rest = rest
by_waiting g waits n course false rest = refl

-- a course that has stopped stays as it is
pub while-stopped : (g : Group) (waits : List Proposal → Bool) (n : ℕ) (course : Course) → course.stopped ≡ true → checked_while g waits n course ≡ course
unfolding checked_while
while-stopped g waits zero course stopped = refl
while-stopped g waits (suc n) course stopped =
    by_waiting g waits n course (waits (pending course.past)) (ap (checked_while g waits n) (enter-stopped g course Check stopped) ∙ while-stopped g waits n course stopped)

pub while-grows : (g : Group) (waits : List Proposal → Bool) (n : ℕ) (course : Course) → IsBeginning course.past (checked_while g waits n course).past
unfolding checked_while
while-grows g waits zero course = beginning-self course.past
while-grows g waits (suc n) course =
    let next = enter g course Check in
    by_test-grows course.past (waits (pending course.past)) (checked_while g waits n next) course
    (beginning-more course.past next.past (checked_while g waits n next).past (enter-grows g course Check) (while-grows g waits n next))
    (beginning-self course.past)

-- so many checks, from where a world stands
abbrev pub checks_from : (List Proposal → Bool) → ℕ → WorldView → Course
checks_from waits n w = checked_while w.history.group waits n (course_from w.history.past)

-- on the way of all checks, the others are left once so many were made
abbrev pub IsChecking : (List Proposal → Bool) → WorldView → WorldView → ℕ → Type 0
IsChecking waits old now made = IsOnWay old now (checks_from waits MAX_PENDING old) (checks_from waits (MAX_PENDING - made) now)

-- no check was made yet
pub checking_starts : (waits : List Proposal → Bool) (w : WorldView) → IsChecking waits w w 0
checking_starts waits w = way_start w (checks_from waits MAX_PENDING w)

-- where nothing passes any more all checks were made
pub checks_end : (waits : List Proposal → Bool) (old now : WorldView) (made : ℕ) → waits (pending now.history.past) ≡ false → IsChecking waits old now made → Goes now (checks_from waits MAX_PENDING old) On
checks_end waits old now made none way =
    goes_none old now (checks_from waits MAX_PENDING old) (checks_from waits (MAX_PENDING - made) now) way (while_none now.history.group waits (MAX_PENDING - made) (course_from now.history.past) none)

-- where 64 checks were made none is left
pub checks_all : (waits : List Proposal → Bool) (old now : WorldView) (made : ℕ) → MAX_PENDING ≤ made → IsChecking waits old now made → Goes now (checks_from waits MAX_PENDING old) On
checks_all waits old now made all way =
    let none_left : MAX_PENDING - made ≡ 0 = omega arith in
    goes_none old now (checks_from waits MAX_PENDING old) (checks_from waits (MAX_PENDING - made) now) way
    (ap (λ (n : ℕ). checks_from waits n now) none_left ∙ while_zero now.history.group waits (course_from now.history.past))

-- the check that is made now, and those behind it
abbrev check_now : WorldView → Course
check_now w = enter w.history.group (course_from w.history.past) Check

abbrev checks_behind : (List Proposal → Bool) → ℕ → Group → List WireLine → Course → Course
checks_behind waits made g lines course = checked_while g waits (MAX_PENDING - (made + 1)) course

first_check : (waits : List Proposal → Bool) (now : WorldView) (made : ℕ) → made < MAX_PENDING → waits (pending now.history.past) ≡ true → checks_from waits (MAX_PENDING - made) now ≡ checks_behind waits made now.history.group now.lines (check_now now)
first_check waits now made few some =
    let fewer : MAX_PENDING - made ≡ suc (MAX_PENDING - (made + 1)) = omega arith in
    ap (λ (n : ℕ). checks_from waits n now) fewer ∙ while_one now.history.group waits (MAX_PENDING - (made + 1)) (course_from now.history.past) some

-- after one check more the others are left
pub check_goes : (waits : List Proposal → Bool) (old now next : WorldView) (made : ℕ) (going : Going) → IsChecking waits old now made → made < MAX_PENDING → waits (pending now.history.past) ≡ true → Goes next (check_now now) going → going ≡ On → HasSameSetting now next → IsChecking waits old next (made + 1)
check_goes waits old now next made going way few some =
    part_goes (checks_behind waits made) old now next (checks_from waits MAX_PENDING old) (checks_from waits (MAX_PENDING - made) now) (check_now now) going way
    (first_check waits now made few some) (enter-grows now.history.group (course_from now.history.past) Check)

-- where a check meets a full journal no other check follows
pub check_stops : (waits : List Proposal → Bool) (old now next : WorldView) (made : ℕ) (going : Going) → IsChecking waits old now made → made < MAX_PENDING → waits (pending now.history.past) ≡ true → Goes next (check_now now) going → going ≡ Full → Goes next (checks_from waits MAX_PENDING old) Full
check_stops waits old now next made going way few some is full =
    stops_there (checks_behind waits made now.history.group now.lines) next (check_now now) going is full (while-stopped now.history.group waits (MAX_PENDING - (made + 1)) (course_with Full next) refl)
    ∙ sym (first_check waits now made few some)
    ∙ way.ends

-- where a check meets an `Err` a part of the checks was made
pub check_parts : {T E : Type 0} (r : Result T E) (waits : List Proposal → Bool) (old now next : WorldView) (made : ℕ) → IsChecking waits old now made → made < MAX_PENDING → waits (pending now.history.past) ≡ true → IsPartOf now next (check_now now) → OnErr r (IsPartOf old next (checks_from waits MAX_PENDING old))
check_parts r waits old now next made way few some =
    part_parts r old now next (checks_from waits MAX_PENDING old) (checks_from waits (MAX_PENDING - made) now) (checks_behind waits made now.history.group now.lines (check_now now)) (check_now now) way
    (first_check waits now made few some) (while-grows now.history.group waits (MAX_PENDING - (made + 1)) (check_now now))

pub nothing_waits : (ps : List Proposal) → length ps ≡ 0 → is_something ps ≡ false
nothing_waits [] none = refl
nothing_waits (p ∷ ps) none = absurd (omega arith)

pub something_waits : (ps : List Proposal) → length ps ≢ 0 → is_something ps ≡ true
something_waits [] some = absurd (some refl)
something_waits (p ∷ ps) some = refl

-- rounds

none_settles : (g : Group) (lines : List WireLine) (n : ℕ) (course : Course) (b : Bool) → is_none_left (unsettled g course.past) ≡ b → b ≡ true → rounds_done g lines n course ≡ course
unfolding rounds_done
none_settles g lines zero course b is none = refl
none_settles g lines (suc n) course b is none = rw (is, none) refl

-- where every entity is settled no round is done
rounds_none : (g : Group) (lines : List WireLine) (n : ℕ) (course : Course) → length (unsettled g course.past) ≡ 0 → rounds_done g lines n course ≡ course
rounds_none g lines n course none = none_settles g lines n course (is_none_left (unsettled g course.past)) refl (no_entity (unsettled g course.past) none)
  where
    no_entity : (es : List Entity) → length es ≡ 0 → is_none_left es ≡ true
    no_entity [] none = refl
    no_entity (e ∷ es) none = absurd (omega arith)

rounds_zero : (g : Group) (lines : List WireLine) (course : Course) → rounds_done g lines 0 course ≡ course
unfolding rounds_done
rounds_zero g lines course = refl

by_left : (g : Group) (lines : List WireLine) (n : ℕ) (course : Course) (b : Bool) → rounds_done g lines n (turns g lines course (unsettled g course.past)) ≡ course → (if b then course else rounds_done g lines n (turns g lines course (unsettled g course.past))) ≡ course
by_left g lines n course true rest = refl
by_left g lines n course false rest = rest

-- a course that has stopped stays as it is
pub rounds-stopped : (g : Group) (lines : List WireLine) (n : ℕ) (course : Course) → course.stopped ≡ true → rounds_done g lines n course ≡ course
unfolding rounds_done
rounds-stopped g lines zero course stopped = refl
rounds-stopped g lines (suc n) course stopped =
    by_left g lines n course (is_none_left (unsettled g course.past)) (ap (rounds_done g lines n) (turns-stopped g lines course (unsettled g course.past) stopped) ∙ rounds-stopped g lines n course stopped)

pub rounds-grows : (g : Group) (lines : List WireLine) (n : ℕ) (course : Course) → IsBeginning course.past (rounds_done g lines n course).past
unfolding rounds_done
rounds-grows g lines zero course = beginning-self course.past
rounds-grows g lines (suc n) course =
    let es = unsettled g course.past in
    let next = turns g lines course es in
    by_test-grows course.past (is_none_left es) course (rounds_done g lines n next)
    (beginning-self course.past)
    (beginning-more course.past next.past (rounds_done g lines n next).past (turns-grows g lines course es) (rounds-grows g lines n next))

by_entities : (g : Group) (lines : List WireLine) (n : ℕ) (course : Course) (es : List Entity) → unsettled g course.past ≡ es → rounds_done g lines (suc n) course ≡ rounds_done g lines n (turns g lines course es)
unfolding rounds_done
by_entities g lines n course [] none = rw none (sym (none_settles g lines n course true (ap is_none_left none) refl))
by_entities g lines n course (e ∷ es) some = rw some refl

-- a round more is done, which changes nothing where every entity is settled
rounds_one : (g : Group) (lines : List WireLine) (n : ℕ) (past : List Entry) → rounds_done g lines (suc n) (course_from past) ≡ rounds_done g lines n (round g lines past)
rounds_one g lines n past = by_entities g lines n (course_from past) (unsettled g past) refl

-- so many rounds, from where a world stands
abbrev pub rounds_from : ℕ → WorldView → Course
rounds_from n w = rounds_done w.history.group w.lines n (course_from w.history.past)

-- on the way of all rounds, the others are left once so many were done
abbrev pub IsSettling : ℕ → WorldView → WorldView → ℕ → Type 0
IsSettling rounds old now made = IsOnWay old now (rounds_from rounds old) (rounds_from (rounds - made) now)

-- no round was done yet
pub settling_starts : (rounds : ℕ) (w : WorldView) → IsSettling rounds w w 0
settling_starts rounds w =
    let all_left : rounds ≡ rounds - 0 = omega arith in
    subst (λ (n : ℕ). IsOnWay w w (rounds_from rounds w) (rounds_from n w)) all_left (way_start w (rounds_from rounds w))

-- where every entity is settled the rounds that are left change nothing
settles_none : (rounds : ℕ) (old now : WorldView) (made : ℕ) → length (unsettled now.history.group now.history.past) ≡ 0 → IsSettling rounds old now made → Goes now (rounds_from rounds old) On
settles_none rounds old now made none way =
    goes_none old now (rounds_from rounds old) (rounds_from (rounds - made) now) way (rounds_none now.history.group now.lines (rounds - made) (course_from now.history.past) none)

-- where all rounds were done none is left
pub rounds_all : (rounds : ℕ) (old now : WorldView) (made : ℕ) → rounds ≤ made → IsSettling rounds old now made → Goes now (rounds_from rounds old) On
rounds_all rounds old now made all way =
    let none_left : rounds - made ≡ 0 = omega arith in
    goes_none old now (rounds_from rounds old) (rounds_from (rounds - made) now) way
    (ap (λ (n : ℕ). rounds_from n now) none_left ∙ rounds_zero now.history.group now.lines (course_from now.history.past))

-- the round that is done now, and those behind it
abbrev round_now : WorldView → Course
round_now w = round w.history.group w.lines w.history.past

abbrev rounds_behind : ℕ → ℕ → Group → List WireLine → Course → Course
rounds_behind rounds made g lines course = rounds_done g lines (rounds - (made + 1)) course

first_round : (rounds : ℕ) (now : WorldView) (made : ℕ) → made < rounds → rounds_from (rounds - made) now ≡ rounds_behind rounds made now.history.group now.lines (round_now now)
first_round rounds now made few =
    let fewer : rounds - made ≡ suc (rounds - (made + 1)) = omega arith in
    ap (λ (n : ℕ). rounds_from n now) fewer ∙ rounds_one now.history.group now.lines (rounds - (made + 1)) now.history.past

-- after one round more the others are left
pub round_goes : (rounds : ℕ) (old now next : WorldView) (made : ℕ) (answer : Rounded) (count : ℕ) → IsSettling rounds old now made → made < rounds → answer ≡ Did count → Rounds now next answer → HasSameSetting now next → IsSettling rounds old next (made + 1)
round_goes rounds old now next made answer count way few is does setting =
    let did : Rounds now next (Did count) = subst (λ (a : Rounded). Rounds now next a) is does in
    part_goes (rounds_behind rounds made) old now next (rounds_from rounds old) (rounds_from (rounds - made) now) (round_now now) On way
    (first_round rounds now made few) (round-grows now.history.group now.lines now.history.past) (sym did.0) refl setting

-- a round that leaves no entity unsettled is the last
pub round_settles : (rounds : ℕ) (old now next : WorldView) (made : ℕ) (answer : Rounded) (count : ℕ) → IsSettling rounds old now made → made < rounds → answer ≡ Did count → count ≡ 0 → Rounds now next answer → HasSameSetting now next → Goes next (rounds_from rounds old) On
round_settles rounds old now next made answer count way few is none does setting =
    let did : Rounds now next (Did count) = subst (λ (a : Rounded). Rounds now next a) is does in
    settles_none rounds old next (made + 1) (sym did.1 ∙ none) (round_goes rounds old now next made answer count way few is does setting)

-- where a round meets a full journal no other round follows
pub round_stops : (rounds : ℕ) (old now next : WorldView) (made : ℕ) (answer : Rounded) (entries : ℕ) → IsSettling rounds old now made → made < rounds → answer ≡ JournalFull entries → Rounds now next answer → Goes next (rounds_from rounds old) Full
round_stops rounds old now next made answer entries way few is does =
    let stopped : Rounds now next (JournalFull entries) = subst (λ (a : Rounded). Rounds now next a) is does in
    stops_there (rounds_behind rounds made now.history.group now.lines) next (round_now now) Full (sym stopped.0) refl (rounds-stopped now.history.group now.lines (rounds - (made + 1)) (course_with Full next) refl)
    ∙ sym (first_round rounds now made few)
    ∙ way.ends

-- where a round meets an `Err` a part of the rounds was done
pub round_parts : {T E : Type 0} (r : Result T E) (rounds : ℕ) (old now next : WorldView) (made : ℕ) → IsSettling rounds old now made → made < rounds → IsPartOf now next (round_now now) → OnErr r (IsPartOf old next (rounds_from rounds old))
round_parts r rounds old now next made way few =
    part_parts r old now next (rounds_from rounds old) (rounds_from (rounds - made) now) (rounds_behind rounds made now.history.group now.lines (round_now now)) (round_now now) way
    (first_round rounds now made few) (rounds-grows now.history.group now.lines (rounds - (made + 1)) (round_now now))
