-- An entity's whole turn settles it, where it did not fail.
use Rattle.std.proofs.Common.{◌≡◌, ℕ, ◌+◌, ◌≤◌, List, ◌∷◌, length, Some, refl, ap, sym, ◌∙◌, arith}
use Rattle.std.specs.Prelude.{true, false, ◌==◌, max, nat_lt}
use Rattle.std.proofs.Math.Bool.{and-false}
use Rattle.st_net.specs.declared.entity.Entity.{Entity}
use Rattle.st_net.specs.declared.entity.Vals.{Vals}
use Rattle.st_net.specs.declared.entity.Var.{Var}
use Rattle.st_net.specs.declared.message.Report.{Report}
use Rattle.st_event.specs.declared.event.Event.TheVariants.{Send, Deliver, Finish, Report as make_report, Hear}
use Rattle.st_event.specs.declared.reply.Reply.{Reply}
use Rattle.st_event.specs.declared.reply.Reply.TheVariants.{Sent}
use Rattle.st_event.specs.declared.journal.Entry.{Entry}
use Rattle.st_net.specs.Entities.{is_same_vals}
use Rattle.st_net.specs.Groups.{Group}
use Rattle.st_event.specs.Proposals.{target}
use Rattle.st_net.specs.Merge.{vals_in}
use Rattle.st_net.specs.Numbered.{nth}
use Rattle.st_event.specs.Moments.{renews, is_taken, stamp, commands, fence, busy, vals, reports, number}
use Rattle.st_net.specs.Reports.{is_settled_by}
use Rattle.st_event.specs.Observed.{observed, is_settled}
use Rattle.st_event.specs.Past.{is_spoiled, target_at}
use Rattle.st_event.specs.Legal.{IsLegal}
use Rattle.st_net.proofs.Tests.{same_self, same_vals_self, equal_self, less, nth_pushed}
use Rattle.st_event.proofs.Made.{report_now, command_now, observed_own}
use Rattle.st_event.proofs.Stamps.{fence_small}
use Rattle.st_event.proofs.Shown.{made_is_true}
use Rattle.st_event.proofs.Targets.{target_same}
use Rattle.st_event.proofs.Standings.{quiet_stamp}
use Rattle.st_event.proofs.History.{target_of_stamp, agents_in_step}
use Rattle.st_event.proofs.Promises.{entry_of}

settled_made : (r : Report) (stamp : ℕ) (goal : Vals) → r.busy ≡ false → r.fence ≡ stamp → r.vals ≡ goal → is_settled_by r stamp goal ≡ true
settled_made r stamp goal idle fences values =
    let fence : (r.fence == stamp) ≡ true = rw fences (equal_self stamp) in
    let same : is_same_vals r.vals goal ≡ true = rw values (same_vals_self goal) in
    rw (idle, fence, same) refl

number_low : (g : Group) (past : List Entry) (e : Entity) → (observed g past e).number ≤ number past e
number_low g past e =
    let own = observed_own g past e in
    let low = (made_is_true g past (observed g past e) own.made).counted in
    let at : number past (observed g past e).entity ≡ number past e = ap (number past) own.own in
    omega (arith, low, at)

-- an agent that is not busy, and has begun what its entity's stamp stands for, settles it by its next report
pub report_settles : (g : Group) (past : List Entry) (e : Entity) (k : ℕ) (made answer : Reply) → IsLegal g (entry_of (Hear k) answer ∷ entry_of (make_report e) made ∷ past) → busy g past e ≡ false → fence g past e ≡ stamp g past e → is_spoiled g past e ≡ false → nth (reports g (entry_of (make_report e) made ∷ past)) k ≡ Some (report_now g past e) → is_settled g (entry_of (Hear k) answer ∷ entry_of (make_report e) made ∷ past) e ≡ true
report_settles g past e k made answer legal idle fences unspoiled names =
    let middle = entry_of (make_report e) made ∷ past in
    let first = legal.1.1 in
    let values : vals g past e ≡ vals_in g (target g past) e = (agents_in_step g past e first).done idle unspoiled ∙ ap (λ (s : ℕ). target_at g past s e) fences ∙ sym (target_of_stamp g past e first) in
    let goals : vals_in g (target g (entry_of (Hear k) answer ∷ middle)) e ≡ vals_in g (target g past) e =
    ap (λ (t : Entity → Var → ℕ). vals_in g t e) (target_same g middle (entry_of (Hear k) answer) refl ∙ target_same g past (entry_of (make_report e) made) refl) in
    let middle_goal : vals_in g (target g middle) e ≡ vals_in g (target g past) e = ap (λ (t : Entity → Var → ℕ). vals_in g t e) (target_same g past (entry_of (make_report e) made) refl) in
    let middle_stamp : stamp g middle e ≡ stamp g past e = ap (λ (f : Entity → ℕ). f e) (quiet_stamp g past (make_report e) made refl refl) in
    let low = number_low g past e in
    let newer : nat_lt (observed g past e).number (number past e + 1) ≡ true = less (observed g past e).number (number past e + 1) (omega (arith, low)) in
    let now : observed g (entry_of (Hear k) answer ∷ middle) e ≡ report_now g past e = rw (names, same_self e, newer) refl in
    let same : is_same_vals (vals g past e) (vals_in g (target g middle) e) ≡ true = rw (values, middle_goal) (same_vals_self (vals_in g (target g past) e)) in
    let unrenewed : renews (Some (report_now g past e)) e (stamp g middle e) (vals_in g (target g middle) e) ≡ false = rw same (and-false _) in
    let stamps : stamp g (entry_of (Hear k) answer ∷ middle) e ≡ stamp g past e = rw (names, unrenewed, and-false (is_taken answer)) middle_stamp in
    rw (now, stamps, goals) (settled_made (report_now g past e) (stamp g past e) (vals_in g (target g past) e) idle fences values)

full_fence : (f s : ℕ) → f ≤ s → max f s ≡ s
full_fence f s low = omega (arith, low)

-- a command that is sent, delivered and finished, and the report after it that is heard, settle an entity that has not failed since its
-- last finish: also where the same command had been begun, or finished, before
pub turn_settles : (g : Group) (past : List Entry) (e : Entity) (n k : ℕ) (a b c made answer : Reply) → IsLegal g (entry_of (Hear k) answer ∷ entry_of (make_report e) made ∷ entry_of (Finish e) c ∷ entry_of (Deliver n) b ∷ entry_of (Send e) a ∷ past) → is_spoiled g past e ≡ false → nth (commands g (entry_of (Send e) a ∷ past)) n ≡ Some (command_now g past e) → nth (reports g (entry_of (make_report e) made ∷ entry_of (Finish e) c ∷ entry_of (Deliver n) b ∷ entry_of (Send e) a ∷ past)) k ≡ Some (report_now g (entry_of (Finish e) c ∷ entry_of (Deliver n) b ∷ entry_of (Send e) a ∷ past) e) → is_settled g (entry_of (Hear k) answer ∷ entry_of (make_report e) made ∷ entry_of (Finish e) c ∷ entry_of (Deliver n) b ∷ entry_of (Send e) a ∷ past) e ≡ true
turn_settles g past e n k a b c made answer legal unspoiled sent reported =
    let one = entry_of (Send e) a ∷ past in
    let two = entry_of (Deliver n) b ∷ one in
    let three = entry_of (Finish e) c ∷ two in
    let idle : busy g three e ≡ false = rw (same_self e) (and-false (busy g two e)) in
    let low = fence_small g past e in
    let begun : fence g three e ≡ stamp g past e = rw (sent, same_self e) (full_fence (fence g past e) (stamp g past e) low) in
    let stamps : stamp g three ≡ stamp g past = quiet_stamp g two (Finish e) c refl refl ∙ quiet_stamp g one (Deliver n) b refl refl ∙ quiet_stamp g past (Send e) a refl refl in
    let whole : is_spoiled g three e ≡ false = rw unspoiled refl in
    report_settles g three e k made answer legal idle (begun ∙ sym (ap (λ (f : Entity → ℕ). f e) stamps)) whole reported

-- the same, where the send was answered by the command's number and the report by its own
pub sent_named : (g : Group) (past : List Entry) (e : Entity) (n : ℕ) → n ≡ length (commands g past) + 1 → nth (commands g (entry_of (Send e) (Sent n) ∷ past)) n ≡ Some (command_now g past e)
sent_named g past e n is = nth_pushed (commands g past) (command_now g past e) n is

pub reported_named : (g : Group) (past : List Entry) (e : Entity) (k : ℕ) (made : Reply) → k ≡ length (reports g past) + 1 → nth (reports g (entry_of (make_report e) made ∷ past)) k ≡ Some (report_now g past e)
reported_named g past e k made is = nth_pushed (reports g past) (report_now g past e) k is
