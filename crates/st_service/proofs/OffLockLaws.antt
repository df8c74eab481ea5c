-- What a check leaves that is judged off the lock: the ticket that was the oldest is decided, or nothing is entered.
use Rattle.std.proofs.Common.{◌≡◌, inl, inr, ℕ, zero, suc, ◌+◌, ◌<◌, ◌≤◌, Bool, true, false, List, [], ◌∷◌, ◌++◌, length, refl, ap, sym, subst, ◌∙◌, arith, length-append, length-drop}
use Rattle.std.specs.Prelude.{Option, Some, None, Result, Ok, Err, IfOk, is_some, reverse, nat_le, nat_lt, ◌==◌, slice_get, if◌then◌else◌}
use Rattle.std.proofs.lemmas.Bool.Decides.{nat_tests}
use mathlib.Core.List.{IsPrefix}
use Rattle.st_net.specs.Groups.{Group}
use Rattle.st_net.specs.Numbered.{nth}
use Rattle.st_event.specs.declared.event.Event.TheVariants.{Check}
use Rattle.st_event.specs.declared.event.Proposal.{Proposal}
use Rattle.st_event.specs.declared.journal.Entry.{Entry}
use Rattle.st_event.specs.declared.journal.TheConstants.{MAX_ENTRIES, MAX_PENDING}
use Rattle.st_event.specs.declared.reply.Receipt.{Receipt}
use Rattle.st_event.specs.declared.reply.Reply.{Reply}
use Rattle.st_event.specs.declared.reply.Reply.TheVariants.{Decided as decided_reply}
use Rattle.st_event.specs.History.{History}
use Rattle.st_event.specs.Proposals.{proposals, verdicts, deciders, pending}
use Rattle.st_event.specs.Legal.{IsLegal}
use Rattle.st_event.specs.Replies.{check_reply, receipt_of}
use Rattle.st_event.specs.Services.{entry_after}
use Rattle.st_event.proofs.Standings.{length-deciders}
use Rattle.st_control.specs.declared.control.commits.Begin.{Begin}
use Rattle.st_control.specs.declared.control.commits.Begin.TheVariants.{Basis, Idle}
use Rattle.st_control.specs.Basis.{BasisView, JudgedView, IsJudgedOf}
use Rattle.st_world.specs.Commits.{Begins, Commits, IsBasisAt, MayCommit}
use Rattle.st_world.specs.Rounds.{Course, course_from, enter, is_full}
use Rattle.st_world.specs.declared.world.commits.Committed.{Committed}
use Rattle.st_world.specs.declared.world.commits.Committed.TheVariants.{Did, Gone, JournalFull}
use Rattle.st_world.specs.declared.world.rounds.Going.{Going}
use Rattle.st_world.specs.declared.world.rounds.Going.TheVariants.{On, Full}
use Rattle.st_world.proofs.CommitLaws.{bases_may, tickets_stay}
use Rattle.st_world.proofs.RunLaws.{entered}
use Rattle.st_event.proofs.Prefixes.{prefix_self, prefix_trans}
use Rattle.st_service.specs.declared.work.Work.{Work}
use Rattle.st_service.specs.declared.work.Work.TheVariants.{OneAct, Commit, Turn}
use Rattle.st_service.specs.Awaits.{BeginsFor, ChecksFor, WentOn, checked_of}
use Rattle.st_service.specs.Lines.{tagged, numbers}
use Rattle.st_service.specs.Made.{Made, past_in}
use Rattle.st_service.specs.OffLock.{ChecksOff, CommitsIn, IsToldOf, IsVerdictOf, WasOldest, going_by, off_of, verdict_entry}
use Rattle.st_service.specs.Puts.{Enters, Puts}
use Rattle.st_service.specs.Works.{IsDecided, IsGiven, IsOldest, MayDo, is_decided, check_course}
use Rattle.st_service.proofs.AwaitLaws.{past_longer, decided_later, given_later, near_all, is_decided-at, is_pending-at, entered_one, none_put, no_numbers, one_put}
use Rattle.st_service.proofs.HeldLaws.{legal_taught}
use Rattle.st_service.proofs.HoldLaws.{length_past, past_more}

-- a number that has an item is among those of the list
get_within : (xs : List ℕ) (k x : ℕ) → slice_get xs k ≡ Some x → k < length xs
get_within [] k x e = absurd (cc e)
get_within (y ∷ xs) zero x e = omega arith
get_within (y ∷ xs) (suc k) x e = let r = get_within xs k x e in omega (arith, r)

within_at : (xs : List ℕ) (k x : ℕ) (b : Bool) → (if b then None else slice_get xs k) ≡ Some x → suc k ≤ length xs
within_at xs k x true e = absurd (cc e)
within_at xs k x false e = let r = get_within xs k x e in omega (arith, r)

nth_within : (xs : List ℕ) (n x : ℕ) → nth xs n ≡ Some x → n ≤ length xs
nth_within xs zero x e = omega arith
nth_within xs (suc k) x e = within_at xs k x (suc k == 0) e

-- a hold that found its ticket decided entered nothing
still : (g : Group) (ticket : ℕ) (past after : List Entry) (stopped : Bool) → is_decided ticket past ≡ true → check_course ticket g past ≡ record { past = after; stopped = stopped } → after ≡ past
still g ticket past after stopped is run =
    let kept : course_from past ≡ record { past = after; stopped = stopped } = sym (ap (λ b. if b then course_from past else enter g (course_from past) Check) is) ∙ run in
    sym (ap (λ (r : Course). r.past) kept)

-- and so did one that met a full journal
entered_full : (past after : List Entry) (entry : Entry) (room : Bool) → entered (course_from past) entry false room ≡ record { past = after; stopped = true } → after ≡ past
entered_full past after entry true is = let stopped : false ≡ true = ap (λ (r : Course). r.stopped) is in absurd (cc stopped)
entered_full past after entry false is = sym (ap (λ (r : Course). r.past) is)

full_still : (g : Group) (past after : List Entry) (over : Bool) → (if over then course_from past else enter g (course_from past) Check) ≡ record { past = after; stopped = true } → after ≡ past
full_still g past after true is = let stopped : false ≡ true = ap (λ (r : Course). r.stopped) is in absurd (cc stopped)
full_still g past after false is = entered_full past after (entry_after g past Check) (nat_lt (length past) MAX_ENTRIES) is

-- where nothing was entered, the front goes on, and the list is what it was
nothing_put : (number : ℕ) (es : List Entry) (mid before : List Made) (was : List ℕ) (after : List Made) (now : List ℕ) → Puts number es mid before was after now → past_in after ≡ past_in mid → IsPrefix before after × (now ≡ was)
nothing_put number es mid before was after now p same =
    let none = none_put number es mid after p.1 same in
    (prefix_trans before mid after p.0 (tagged number es, sym p.1), p.2 ∙ no_numbers was (length mid) (length es) none)

-- a commit that found its ticket decided
pub committed_gone : (g : Group) (ticket number entry : ℕ) (going : Going) (mid before : List Made) (was : List ℕ) (after : List Made) (now : List ℕ)
    → Enters (check_course ticket g) going number mid before was after now → is_decided ticket (past_in mid) ≡ true → Some entry ≡ nth (deciders (past_in mid)) ticket → CommitsIn (Gone entry) g ticket number before was after now
committed_gone g ticket number entry going mid before was after now e is at =
    let same = still g ticket (past_in mid) (past_in after) (is_full going) is e.run in
    let none = nothing_put number e.entries mid before was after now e.puts same in
    (none.0, none.1, ap (λ past. nth (deciders past) ticket) same ∙ sym at)

-- one that met a full journal, which only a ticket that is pending does
full_waits : (g : Group) (past after : List Entry) (over : Bool) → (if over then course_from past else enter g (course_from past) Check) ≡ record { past = after; stopped = true } → over ≡ false
full_waits g past after true is = let stopped : false ≡ true = ap (λ (r : Course). r.stopped) is in absurd (cc stopped)
full_waits g past after false is = refl

pub committed_full : (g : Group) (ticket number entries : ℕ) (mid before : List Made) (was : List ℕ) (after : List Made) (now : List ℕ)
    → Enters (check_course ticket g) Full number mid before was after now → entries ≡ MAX_ENTRIES → CommitsIn (JournalFull entries) g ticket number before was after now
committed_full g ticket number entries mid before was after now e count =
    let same = full_still g (past_in mid) (past_in after) (is_decided ticket (past_in mid)) e.run in
    let none = nothing_put number e.entries mid before was after now e.puts same in
    let waits = is_pending-at ticket (length (deciders (past_in mid))) (full_waits g (past_in mid) (past_in after) (is_decided ticket (past_in mid)) e.run) in
    (none.0, none.1, subst (λ (past : List Entry). length (deciders past) < ticket) (sym same) waits, e.full refl, count)

-- a verdict is on the oldest ticket
same_ticket : (r s : Receipt) → decided_reply r ≡ decided_reply s → r.ticket ≡ s.ticket
same_ticket r s is = let same : r ≡ s = cc (is) in ap (λ (x : Receipt). x.ticket) same

verdict_ticket : (g : Group) (past : List Entry) (queue : List Proposal) (receipt : Receipt) → check_reply g past queue ≡ decided_reply receipt → receipt.ticket ≡ length (verdicts past) + 1
verdict_ticket g past [] receipt is = absurd (cc is)
verdict_ticket g past (p ∷ ps) receipt is = sym (same_ticket (receipt_of g past p) receipt is)

oldest_decided : (g : Group) (past : List Entry) (receipt : Receipt) → entry_after g past Check ≡ verdict_entry receipt → receipt.ticket ≡ length (deciders past) + 1
oldest_decided g past receipt is =
    let ticket = verdict_ticket g past (pending past) receipt (ap (λ (e : Entry). e.reply) is) in
    omega (arith, ticket, length-deciders past)

-- a commit that found its ticket pending made the check that decides the ticket
pub committed_did : (g : Group) (ticket number : ℕ) (mid before : List Made) (was : List ℕ) (after : List Made) (now : List ℕ) (told : List Entry) (receipt : Receipt)
    → Enters (check_course ticket g) On number mid before was after now → is_decided ticket (past_in mid) ≡ false → MayCommit (past_in before) ticket
    → ((more past : List Entry) → past_in after ≡ more ++ past → past ≡ past_in mid → told ≡ reverse more) → IsVerdictOf told receipt → CommitsIn (Did receipt) g ticket number before was after now
committed_did g ticket number mid before was after now told receipt e is may since verdict =
    let past = past_in mid in
    let entry = entry_after g past Check in
    let run : enter g (course_from past) Check ≡ record { past = past_in after; stopped = false } = sym (ap (λ b. if b then course_from past else enter g (course_from past) Check) is) ∙ e.run in
    let one : past_in after ≡ entry ∷ past = entered_one past (past_in after) entry (nat_lt (length past) MAX_ENTRIES) run in
    let only : e.entries ≡ entry ∷ [] = one_put number e.entries mid after entry e.puts.1 one in
    let first : IsVerdictOf (entry ∷ []) receipt = subst (λ (es : List Entry). IsVerdictOf es receipt) (since (entry ∷ []) past one refl) verdict in
    let whole : entry ≡ verdict_entry receipt = ap (λ (r : Reply). record { event = Check; reply = r }) first in
    let waits = is_pending-at ticket (length (deciders past)) is in
    let more = decided_later before mid e.puts.0 in
    let oldest = oldest_decided g past receipt whole in (
      omega (arith, oldest, waits, more, may.lower),
      mid,
      whole,
      subst (λ (es : List Entry). Puts number es mid before was after now) (only ∙ ap (λ x. x ∷ []) whole) e.puts,
    )

-- a check where something waits decides
verdict_there : (g : Group) (past : List Entry) (queue : List Proposal) → 0 < length queue → (receipt : Receipt) × (check_reply g past queue ≡ decided_reply receipt)
verdict_there g past [] some = absurd (omega (arith, some))
verdict_there g past (p ∷ ps) some = (receipt_of g past p, refl)

-- so the check that a commit made of a pending ticket is a verdict
pub verdict_made : (g : Group) (ticket number : ℕ) (mid before : List Made) (was : List ℕ) (after : List Made) (now : List ℕ) (told : List Entry)
    → Enters (check_course ticket g) On number mid before was after now → is_decided ticket (past_in mid) ≡ false → MayCommit (past_in before) ticket
    → ((more past : List Entry) → past_in after ≡ more ++ past → past ≡ past_in mid → told ≡ reverse more) → (receipt : Receipt) × IsVerdictOf told receipt
verdict_made g ticket number mid before was after now told e is may since =
    let past = past_in mid in
    let entry = entry_after g past Check in
    let run : enter g (course_from past) Check ≡ record { past = past_in after; stopped = false } = sym (ap (λ b. if b then course_from past else enter g (course_from past) Check) is) ∙ e.run in
    let one : past_in after ≡ entry ∷ past = entered_one past (past_in after) entry (nat_lt (length past) MAX_ENTRIES) run in
    let waits = is_pending-at ticket (length (deciders past)) is in
    let given : IsGiven ticket past = given_later ticket before mid e.puts.0 may.given in
    let rest = length-drop (length (verdicts past)) (proposals past) in
    let v = verdict_there g past (pending past) (omega (arith, rest, given, waits, length-deciders past)) in
    (v.0, subst (λ (es : List Entry). IsVerdictOf es v.0) (sym (since (entry ∷ []) past one refl)) v.1)

-- a basis has the ticket that is the oldest where the basis is taken; between two fronts around that one this ticket was the oldest
basis_oldest : (g : Group) (past : List Entry) (b : BasisView) → IsBasisAt g past b → IsOldest b.ticket past
basis_oldest g past b of = record { next = of.oldest; given = of.given }

pub was_oldest : (g : Group) (b : BasisView) (before seen after : List Made) → IsPrefix before seen → IsPrefix seen after → IsBasisAt g (past_in seen) b → WasOldest b.ticket before after
was_oldest g b before seen after later within of = record { seen = seen; later = later; within = within; oldest = basis_oldest g (past_in seen) b of }

-- the judgement of a basis may be committed where the basis was taken
pub judged_may : (g : Group) (past : List Entry) (b : BasisView) (j : JudgedView) → IsBasisAt g past b → IsJudgedOf b j → MayCommit past j.ticket
judged_may g past b j of on = subst (MayCommit past) (sym on.ticket) (bases_may g past b of)

-- a commit, for a pass that had seen less
pub commits_from : (committed : Committed) (g : Group) (ticket number : ℕ) (before seen : List Made) (was here : List ℕ) (after : List Made) (now : List ℕ)
    → IsPrefix before seen → here ≡ was → CommitsIn committed g ticket number seen here after now → CommitsIn committed g ticket number before was after now
commits_from (Did receipt) g ticket number before seen was here after now p same c =
    let q = c.3 in
    (c.0, c.1, c.2, (prefix_trans before seen c.1 p q.0, q.1, q.2 ∙ ap (λ l. l ++ numbers (length c.1) 1) same))
commits_from (Gone entry) g ticket number before seen was here after now p same c = (prefix_trans before seen after p c.0, c.1 ∙ same, c.2)
commits_from (JournalFull entries) g ticket number before seen was here after now p same c = (prefix_trans before seen after p c.0, c.1 ∙ same, c.2, c.3, c.4)

-- where nothing waits, each ticket that was given is decided
pub none_waits : (ticket : ℕ) (past : List Entry) → pending past ≡ [] → IsGiven ticket past → IsDecided ticket past
none_waits ticket past none given =
    let rest = length-drop (length (verdicts past)) (proposals past) in
    omega (arith, rest, ap length none, given, length-deciders past)

-- the ticket was decided, by this commit or before
abbrev pub IsDone : Committed → Type 0
IsDone (Did receipt) = Unit {0}
IsDone (Gone entry) = Unit {0}
IsDone (JournalFull entries) = ⊥

-- a check off the lock, made while a ticket was pending, decided this ticket or a lower one
pub went_off : (committed : Committed) (g : Group) (ticket oldest number : ℕ) (before seen : List Made) (was here : List ℕ) (after : List Made) (now : List ℕ) → IsPrefix before seen → here ≡ was → IsPrefix seen after
    → oldest ≡ length (deciders (past_in seen)) + 1 → length (deciders (past_in seen)) < ticket → ticket ≤ length (deciders (past_in seen)) + MAX_PENDING → CommitsIn committed g oldest number seen here after now
    → IsDone committed → WentOn g ticket number before was after now
went_off (Did receipt) g ticket oldest number before seen was here after now p same within is waits near c done =
    let mid = c.1 in
    let past = past_in mid in
    let q = c.3 in
    let later = decided_later seen mid q.0 in
    let lowest = oldest_decided g past receipt c.2 in
    let grown : past_in after ≡ verdict_entry receipt ∷ past = ap past_in q.1 ∙ past_more mid number (verdict_entry receipt ∷ []) in
    record {
      seen = mid;
      later = prefix_trans before seen mid p q.0;
      within = (tagged number (verdict_entry receipt ∷ []), sym q.1);
      pending = omega (arith, lowest, c.0, is, waits);
      near = omega (arith, near, later);
      decided = omega (arith, ap (λ es. length (deciders es)) grown, length-append (deciders past) ((length past + 1) ∷ []));
      made = inr (subst (λ (e : Entry). Puts number (e ∷ []) mid mid was after now) (sym c.2) (prefix_self mid, q.1, q.2 ∙ ap (λ l. l ++ numbers (length mid) 1) same));
    }
went_off (Gone entry) g ticket oldest number before seen was here after now p same within is waits near c done =
    let there = nth_within (deciders (past_in after)) oldest entry c.2 in
    record { seen = seen; later = p; within = within; pending = waits; near = near; decided = omega (arith, there, is); made = inl (c.1 ∙ same) }
went_off (JournalFull entries) g ticket oldest number before seen was here after now p same within is waits near c done = absurd done

-- what a commit in a world entered is the course of its ticket
decided_is : (ticket n : ℕ) → ticket ≤ n → nat_le ticket n ≡ true
decided_is ticket n le = grind (arith, nat_tests, le)

pending_is : (ticket n : ℕ) → n < ticket → nat_le ticket n ≡ false
pending_is ticket n lt = grind (arith, nat_tests, lt)

below_is : (n most : ℕ) → n < most → nat_lt n most ≡ true
below_is n most lt = grind (arith, nat_tests, lt)

full_is : (n most : ℕ) → n ≡ most → nat_lt n most ≡ false
full_is n most e = grind (arith, nat_tests, e)

over_run : (g : Group) (past after : List Entry) (over : Bool) → over ≡ true → after ≡ past → (if over then course_from past else enter g (course_from past) Check) ≡ record { past = after; stopped = false }
over_run g past after over is same = rw (is, same) refl

room_run : (g : Group) (past after : List Entry) (over room : Bool) (entry : Entry) → over ≡ false → room ≡ true → after ≡ entry ∷ past
    → (if over then course_from past else (if room then record { past = entry ∷ past; stopped = false } else record { past = past; stopped = true })) ≡ record { past = after; stopped = false }
room_run g past after over room entry is fits same = rw (is, fits, same) refl

full_run : (g : Group) (past after : List Entry) (over room : Bool) (entry : Entry) → over ≡ false → room ≡ false → after ≡ past
    → (if over then course_from past else (if room then record { past = entry ∷ past; stopped = false } else record { past = past; stopped = true })) ≡ record { past = after; stopped = true }
full_run g past after over room entry is fits same = rw (is, fits, same) refl

pub commit_ran : (c : Committed) (old new : History) (ticket : ℕ) → MayCommit old.past ticket → Commits old new ticket c → check_course ticket old.group old.past ≡ record { past = new.past; stopped = is_full (going_by c) }
commit_ran (Did receipt) old new ticket may c =
    let past = old.past in
    let next = c.1.0 in
    let answer : entry_after old.group past Check ≡ verdict_entry receipt = ap (λ (r : Reply). record { event = Check; reply = r }) (sym next.answer) in
    let oldest = oldest_decided old.group past receipt answer in
    let grown : new.past ≡ entry_after old.group past Check ∷ past = ap (λ (h : History). h.past) c.1.1 ∙ ap (λ (e : Entry). e ∷ past) (sym answer) in
    room_run old.group past new.past (is_decided ticket past) (nat_lt (length past) MAX_ENTRIES) (entry_after old.group past Check) (pending_is ticket (length (deciders past)) (omega (arith, oldest, c.0))) (below_is (length past) MAX_ENTRIES next.room) grown
commit_ran (Gone entry) old new ticket may c =
    over_run old.group old.past new.past (is_decided ticket old.past) (decided_is ticket (length (deciders old.past)) (nth_within (deciders old.past) ticket entry c.0)) (ap (λ (h : History). h.past) c.1)
commit_ran (JournalFull entries) old new ticket may c =
    full_run old.group old.past new.past (is_decided ticket old.past) (nat_lt (length old.past) MAX_ENTRIES) (entry_after old.group old.past Check) (pending_is ticket (length (deciders old.past)) c.0) (full_is (length old.past) MAX_ENTRIES c.1) (ap (λ (h : History). h.past) c.3)

-- and the group stays
pub commit_stays : (c : Committed) (old new : History) (ticket : ℕ) → Commits old new ticket c → new.group ≡ old.group
commit_stays (Did receipt) old new ticket c = ap (λ (h : History). h.group) c.1.1
commit_stays (Gone entry) old new ticket c = ap (λ (h : History). h.group) c.1
commit_stays (JournalFull entries) old new ticket c = ap (λ (h : History). h.group) c.3

-- what may be committed may be so in a longer journal
pub may_later : (work : Work) (xs ys : List Made) → IsPrefix xs ys → MayDo work (past_in xs) → MayDo work (past_in ys)
may_later (OneAct act) xs ys p may = tt
may_later (Commit judged) xs ys p may = let l = past_longer xs ys p in subst (λ (past : List Entry). MayCommit past judged.now.ticket) (sym l.1) (tickets_stay (past_in xs) l.0 judged.now.ticket may)
may_later (Turn part entity) xs ys p may = tt

-- what is taken for a check, where the lock showed that the ticket is pending
begins_at : (begin : Begin) (g : Group) (ticket : ℕ) (past : List Entry) → Begins (record { group = g; past = past }) begin → is_decided ticket past ≡ false → IsLegal g past → IsGiven ticket past → BeginsFor ticket g past begin
begins_at (Basis b) g ticket past begins is legal given = (begins, is_pending-at ticket (length (deciders past)) is, near_all g ticket past legal given)
begins_at Idle g ticket past begins is legal given = none_waits ticket past begins given

pub begins_taught : {E : Type 0} (r : Result Begin E) (g : Group) (h : History) (front : List Made) → IfOk r (Begins h) → past_in front ≡ h.past → h.group ≡ g → IfOk r (Begins (record { group = g; past = past_in front }))
begins_taught r g h front begins journal same =
    subst (λ (k : Group). IfOk r (Begins (record { group = k; past = past_in front }))) same (subst (λ (past : List Entry). IfOk r (Begins (record { group = h.group; past = past }))) (sym journal) begins)

begins_ok : {E : Type 0} (r : Result Begin E) (g : Group) (ticket : ℕ) (past : List Entry) → IfOk r (Begins (record { group = g; past = past })) → is_decided ticket past ≡ false → IsLegal g past → IsGiven ticket past → IfOk r (BeginsFor ticket g past)
begins_ok (Ok begin) g ticket past begins is legal given = begins_at begin g ticket past begins is legal given
begins_ok (Err e) g ticket past begins is legal given = tt

pub begins_for : {E : Type 0} (r : Result Begin E) (g : Group) (h : History) (ticket : ℕ) (told : Bool) (before front : List Made) → IfOk r (Begins h) → past_in front ≡ h.past
    → told ≡ is_decided ticket h.past → told ≡ false → h.group ≡ g → IsLegal h.group h.past → IsPrefix before front → IsGiven ticket (past_in before) → IfOk r (BeginsFor ticket g (past_in front))
begins_for r g h ticket told before front begins journal says is same legal p given =
    begins_ok r g ticket (past_in front) (begins_taught r g h front begins journal same) (ap (is_decided ticket) journal ∙ (sym says ∙ is)) (legal_taught g h.group front h.past journal same legal) (given_later ticket before front p given)

-- a ticket that the lock showed to be decided is decided in the front
pub begins_over : (ticket : ℕ) (told : Bool) (front : List Made) (past : List Entry) → past_in front ≡ past → told ≡ is_decided ticket past → told ≡ true → IsDecided ticket (past_in front)
begins_over ticket told front past journal says is = is_decided-at ticket (length (deciders (past_in front))) (ap (is_decided ticket) journal ∙ (sym says ∙ is))

-- a commit that had room, and what is told of it
pub commits_on : {E : Type 0} (r : Result Committed E) (gone : Option ℕ) (told : List Entry) (g : Group) (ticket number : ℕ) (mid before : List Made) (was : List ℕ) (after : List Made) (now : List ℕ) → IfOk r (IsToldOf gone told)
    → gone ≡ nth (deciders (past_in mid)) ticket → is_some gone ≡ is_decided ticket (past_in mid) → Enters (check_course ticket g) On number mid before was after now → MayCommit (past_in before) ticket
    → ((more past : List Entry) → past_in after ≡ more ++ past → past ≡ past_in mid → told ≡ reverse more) → IfOk r (λ (c : Committed). CommitsIn c g ticket number before was after now)
commits_on (Err e) _ told g ticket number mid before was after now is at over e1 may since = tt
commits_on (Ok c) (Some entry) told g ticket number mid before was after now is at over e may since =
    subst (λ (x : Committed). CommitsIn x g ticket number before was after now) (sym is) (committed_gone g ticket number entry On mid before was after now e (sym over) at)
commits_on (Ok (Did receipt)) None told g ticket number mid before was after now is at over e may since = committed_did g ticket number mid before was after now told receipt e (sym over) may since is
commits_on (Ok (Gone entry)) None told g ticket number mid before was after now is at over e may since = absurd is
commits_on (Ok (JournalFull entries)) None told g ticket number mid before was after now is at over e may since = absurd is

-- the journal has the entries that it had
pub entered_since : (course : List Entry → Course) (going : Going) (number from : ℕ) (mid before : List Made) (was : List ℕ) (after : List Made) (now : List ℕ) (old new : List Entry)
    → Enters course going number mid before was after now → past_in mid ≡ old → past_in after ≡ new → from ≡ length old → from ≤ length new
entered_since course going number from mid before was after now old new e kept journal at =
    omega (arith, at, ap length kept, length_past mid, ap length journal, length_past after, ap length e.puts.1, length-append mid (tagged number e.entries))

-- what a check off the lock answers, by its commit
pub off_checks : (c : Committed) (g : Group) (b : BasisView) (number : ℕ) (before seen : List Made) (was here : List ℕ) (after : List Made) (now : List ℕ) → IsPrefix before seen → here ≡ was → IsPrefix seen after
    → IsBasisAt g (past_in seen) b → CommitsIn c g b.ticket number seen here after now → ChecksOff (off_of c) g number before was after now
off_checks (Did receipt) g b number before seen was here after now p same within of c =
    let all = commits_from (Did receipt) g b.ticket number before seen was here after now p same c in
    let oldest = was_oldest g b before seen after p within of in
    let ticket : b.ticket ≡ receipt.ticket = sym c.0 in
    (subst (λ (t : ℕ). WasOldest t before after) ticket oldest, subst (λ (t : ℕ). CommitsIn (Did receipt) g t number before was after now) ticket all)
off_checks (Gone entry) g b number before seen was here after now p same within of c =
    (b.ticket, was_oldest g b before seen after p within of, commits_from (Gone entry) g b.ticket number before seen was here after now p same c)
off_checks (JournalFull entries) g b number before seen was here after now p same within of c =
    (b.ticket, was_oldest g b before seen after p within of, commits_from (JournalFull entries) g b.ticket number before seen was here after now p same c)

-- what one check for a ticket comes to, by its commit
pub went_checks : (c : Committed) (g : Group) (ticket oldest number : ℕ) (before seen : List Made) (was here : List ℕ) (after : List Made) (now : List ℕ) → IsPrefix before seen → here ≡ was → IsPrefix seen after
    → oldest ≡ length (deciders (past_in seen)) + 1 → length (deciders (past_in seen)) < ticket → ticket ≤ length (deciders (past_in seen)) + MAX_PENDING → CommitsIn c g oldest number seen here after now
    → ChecksFor (checked_of c) g ticket number before was after now
went_checks (Did receipt) g ticket oldest number before seen was here after now p same within is waits near c =
    went_off (Did receipt) g ticket oldest number before seen was here after now p same within is waits near c tt
went_checks (Gone entry) g ticket oldest number before seen was here after now p same within is waits near c =
    went_off (Gone entry) g ticket oldest number before seen was here after now p same within is waits near c tt
went_checks (JournalFull entries) g ticket oldest number before seen was here after now p same within is waits near c = c.3
