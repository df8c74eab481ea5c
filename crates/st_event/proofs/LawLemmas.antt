-- What the laws still lack: each joins lemmas of the files above.
use Rattle.std.proofs.Common.{◌≡◌, ℕ, ◌+◌, ◌≤◌, List, [], ◌∷◌, ◌++◌, length, drop, Option, Some, None, refl, ap, sym, ◌∙◌, subst, inl, inr, arith, length-append, length-drop}
use Rattle.std.specs.Prelude.{Bool, true, false, max, nat_lt, if◌then◌else◌, ◌⊎◌}
use Rattle.std.proofs.lemmas.Bool.Decides.{nat_tests}
use Rattle.st_net.specs.declared.entity.AppId.{AppId}
use Rattle.st_net.specs.declared.entity.Entity.{Entity}
use Rattle.st_net.specs.declared.entity.Row.{Row}
use Rattle.st_net.specs.declared.message.Command.{Command}
use Rattle.st_event.specs.declared.event.Event.{Event}
use Rattle.st_event.specs.declared.event.Event.TheVariants.{Submit, Check}
use Rattle.st_event.specs.declared.event.Proposal.{Proposal}
use Rattle.st_event.specs.declared.reply.Reply.{Reply}
use Rattle.st_event.specs.declared.reply.Reply.TheVariants.{Queued, Full, Decided}
use Rattle.st_event.specs.declared.journal.Entry.{Entry}
use Rattle.st_event.specs.declared.journal.TheConstants.{MAX_PENDING}
use Rattle.st_net.specs.Groups.{Group}
use Rattle.st_net.specs.Numbered.{nth}
use Rattle.st_event.specs.Proposals.{proposals, verdicts, pending, accepted, first_rows, is_acceptance}
use Rattle.st_event.specs.Moments.{told, fence_after, commands, fence}
use Rattle.st_event.specs.Observed.{observed}
use Rattle.st_event.specs.Replies.{reply, check_reply, receipt_of}
use Rattle.st_event.specs.Legal.{IsLegal, IsNext}
use Rattle.st_event.specs.Laws.{MovesAccepted, IsGreatestHeard, IsGreatestTold, WasBegunBy}
use Rattle.st_net.proofs.Tests.{less_is}
use Rattle.st_event.proofs.Made.{observed_own, told_sent}
use Rattle.st_event.proofs.Stamps.{fence_grows}
use Rattle.st_event.proofs.Targets.{IsAccepted, IsOrderly, acceptance, accepted_same, accepted_next, legal_orderly}
use Rattle.st_event.proofs.Promises.{entry_of, same_entry}
use Rattle.st_event.proofs.Greatest.{observed_greatest, observed_heard, fence_greatest}

pub fence_stays : (g : Group) (past : List Entry) (entry : Entry) (e : Entity) → fence g past e ≤ fence g (entry ∷ past) e
fence_stays g past entry e = fence_grows (told e entry.event (nth (commands g past))) (fence g past e)

-- the target

listed_at : (g : Group) (past : List Entry) (event : Event) (answer : Reply) → IsAccepted g past event answer → accepted (entry_of event answer ∷ past) ≡ accepted past ++ first_rows (pending past) ∷ []
listed_at g past event answer is =
    ap (λ (x : Entry). accepted (x ∷ past)) (sym (same_entry Check event (Decided (receipt_of g past is.proposal)) answer is.check is.answers))
    ∙ accepted_next past (receipt_of g past is.proposal) is.proposal is.rest is.first is.accepts
    ∙ ap (λ (q : List Proposal). accepted past ++ first_rows q ∷ []) (sym is.first)

listed_in : (g : Group) (past : List Entry) (entry : Entry) → IsNext g past entry → is_acceptance entry.event entry.reply ≡ true → accepted (entry ∷ past) ≡ accepted past ++ first_rows (pending past) ∷ []
listed_in g past entry next accepts = listed_at g past entry.event entry.reply (acceptance g past entry.event entry.reply next.answer accepts)

pub accepted_moves : (g : Group) (past : List Entry) (entry : Entry) → IsLegal g past → IsNext g past entry → MovesAccepted past entry
accepted_moves g past entry legal next = record {
  listed = listed_in g past entry next;
  same_list = accepted_same g past entry.event entry.reply (legal_orderly g past legal) next.answer;
}

-- the queue

one_more : (ps : List Proposal) (p : Proposal) (n : ℕ) → n ≤ length ps → length (drop n (ps ++ p ∷ [])) ≡ length (drop n ps) + 1
one_more ps p n few = let all = length-drop n ps in let more = length-drop n (ps ++ p ∷ []) in let ends : length (ps ++ p ∷ []) ≡ length ps + 1 = rw length-append refl in omega (arith, all, more, ends)

one_less : (ps : List Proposal) (n : ℕ) → length (drop (n + 1) ps) ≤ length (drop n ps)
one_less ps n = let all = length-drop n ps in let less = length-drop (n + 1) ps in omega (arith, all, less)

few_submitted : (g : Group) (past : List Entry) (app : AppId) (rows : List Row) (answer : Reply) (b : Bool) → nat_lt (length (pending past)) MAX_PENDING ≡ b → answer ≡ (if b then Queued (length (proposals past) + 1) else Full (length (pending past))) → IsOrderly past → length (pending past) ≤ MAX_PENDING → length (pending (entry_of (Submit app rows) answer ∷ past)) ≤ MAX_PENDING
few_submitted g past app rows answer true room is orderly few =
    let more = one_more (proposals past) (record { app = app; rows = rows }) (length (verdicts past)) orderly.few in
    let less = less_is (length (pending past)) MAX_PENDING room in
    rw is (omega (arith, more, less))
few_submitted g past app rows answer false room is orderly few = rw is few

few_checked : (g : Group) (past : List Entry) (queue : List Proposal) (answer : Reply) → answer ≡ check_reply g past queue → length (pending past) ≤ MAX_PENDING → length (pending (entry_of Check answer ∷ past)) ≤ MAX_PENDING
few_checked g past [] answer is few = rw is few
few_checked g past (p ∷ rest) answer is few =
    let less = one_less (proposals past) (length (verdicts past)) in
    rw (is, length-append) (omega (arith, less, few))

few_after : (g : Group) (past : List Entry) (event : Event) (answer : Reply) → answer ≡ reply g past event → IsOrderly past → length (pending past) ≤ MAX_PENDING → length (pending (entry_of event answer ∷ past)) ≤ MAX_PENDING
few_after g past (Submit app rows) answer is orderly few = few_submitted g past app rows answer (nat_lt (length (pending past)) MAX_PENDING) refl is orderly few
few_after g past Check answer is orderly few = few_checked g past (pending past) answer is few
few_after g past _ answer is orderly few = few

pub few_wait : (g : Group) (past : List Entry) → IsLegal g past → length (pending past) ≤ MAX_PENDING
few_wait g [] legal = omega arith
few_wait g (entry ∷ past) legal = few_after g past entry.event entry.reply legal.0.answer (legal_orderly g past legal.1) (few_wait g past legal.1)

-- what was heard and delivered

pub observed_is : (g : Group) (past : List Entry) (e : Entity) → IsGreatestHeard g past e (observed g past e)
observed_is g past e = record {
  own = (observed_own g past e).own;
  heard = observed_heard g past e;
  greatest = λ other was own. subst (λ (x : Entity). other.number ≤ (observed g past x).number) own (observed_greatest g past other was);
}

told_more : (g : Group) (past : List Entry) (entry : Entry) (e : Entity) (n : ℕ) → WasBegunBy g past e n → WasBegunBy g (entry ∷ past) e n
told_more g past entry e n was = record { command = was.command; told = inr was.told; own = was.own; stamped = was.stamped }

greater_of : (m n : ℕ) (b : Bool) → nat_lt m n ≡ b → max m n ≡ (if b then n else m)
greater_of m n true is = grind (arith, nat_tests)
greater_of m n false is = grind (arith, nat_tests)

told_one : (g : Group) (past : List Entry) (entry : Entry) (e : Entity) (c : Command) (before : ℕ) (b : Bool) → told e entry.event (nth (commands g past)) ≡ Some c → ((before ≡ 0) ⊎ WasBegunBy g past e before) → ((if b then c.stamp else before) ≡ 0) ⊎ WasBegunBy g (entry ∷ past) e (if b then c.stamp else before)
told_one g past entry e c before true is was =
    let own = (told_sent g past e entry.event c is).own in
    inr (record { command = c; told = inl (subst (λ (x : Entity). told x entry.event (nth (commands g past)) ≡ Some c) (sym own) is); own = own; stamped = refl })
told_one g past entry e c before false is (inl none) = inl none
told_one g past entry e c before false is (inr was) = inr (told_more g past entry e before was)

told_next : (g : Group) (past : List Entry) (entry : Entry) (e : Entity) (before : ℕ) (o : Option Command) → told e entry.event (nth (commands g past)) ≡ o → ((before ≡ 0) ⊎ WasBegunBy g past e before) → (fence_after o before ≡ 0) ⊎ WasBegunBy g (entry ∷ past) e (fence_after o before)
told_next g past entry e before None is (inl none) = inl none
told_next g past entry e before None is (inr was) = inr (told_more g past entry e before was)
told_next g past entry e before (Some c) is was =
    subst (λ (n : ℕ). (n ≡ 0) ⊎ WasBegunBy g (entry ∷ past) e n) (sym (greater_of before c.stamp (nat_lt before c.stamp) refl))
    (told_one g past entry e c before (nat_lt before c.stamp) is was)

fence_told : (g : Group) (past : List Entry) (e : Entity) → (fence g past e ≡ 0) ⊎ WasBegunBy g past e (fence g past e)
fence_told g [] e = inl refl
fence_told g (entry ∷ past) e = told_next g past entry e (fence g past e) (told e entry.event (nth (commands g past))) refl (fence_told g past e)

pub fence_is : (g : Group) (past : List Entry) (e : Entity) → IsGreatestTold g past e (fence g past e)
fence_is g past e = record {
  told = fence_told g past e;
  greatest = λ command was own. subst (λ (x : Entity). command.stamp ≤ fence g past x) own (fence_greatest g past command was);
}
