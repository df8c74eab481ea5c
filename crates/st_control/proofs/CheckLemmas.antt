-- What the verdict and the check of a proposal come to, over what a checker keeps.
use Rattle.std.proofs.Common.{◌≡◌, ℕ, ◌+◌, List, length, refl, sym, ◌∙◌, ap, subst}
use Rattle.std.specs.Prelude.{Bool, true, false, not, ◌&&◌, nat_le, Option, Some, None, option_map, if◌then◌else◌}
use Rattle.st_net.specs.declared.entity.Entity.{Entity}
use Rattle.st_net.specs.declared.entity.Var.{Var}
use Rattle.st_net.specs.declared.entity.AppId.{AppId}
use Rattle.st_net.specs.declared.entity.Row.{Row}
use Rattle.st_net.specs.declared.promise.Broken.{Broken}
use Rattle.st_net.specs.Groups.{Group}
use Rattle.st_net.specs.Merge.{alters, without_altered, target_with}
use Rattle.st_net.specs.Demands.{first_broken_of}
use Rattle.st_net.specs.Sets.{Marks, is_in}
use Rattle.st_event.specs.declared.event.Proposal.{Proposal}
use Rattle.st_event.specs.declared.event.Event.TheVariants.{Check}
use Rattle.st_event.specs.declared.reply.Cause.{Cause}
use Rattle.st_event.specs.declared.reply.Cause.TheVariants.{Broken as broken_cause}
use Rattle.st_event.specs.declared.reply.Receipt.{Receipt}
use Rattle.st_event.specs.declared.reply.Reply.{Reply}
use Rattle.st_event.specs.declared.reply.Reply.TheVariants.{Decided}
use Rattle.st_event.specs.declared.reply.Verdict.{Verdict}
use Rattle.st_event.specs.declared.reply.Verdict.TheVariants.{Accepted, Refused}
use Rattle.st_event.specs.Judge.{cause_or, refusal_or_version, first_lack, first_locked}
use Rattle.st_event.specs.Standing.{sure_in}
use Rattle.st_overlay.specs.Values.{value_in}
use Rattle.st_control.specs.declared.control.checks.Decision.{Decision}
use Rattle.st_control.specs.declared.control.checks.Weighed.{Weighed}
use Rattle.st_event.specs.Proposals.{first_rows}
use Rattle.st_store.specs.Changes.{value_at}
use Rattle.st_store.specs.declared.pending.Pending.{Pending}
use Rattle.st_store.specs.Store.{StoreView, IsOldest, Decides, proposal_of}
use Rattle.st_net.specs.InOrder.{stamp_in}
use Rattle.st_control.specs.Control.{ControlView, standing_in, with_runs, Moves}
use Rattle.st_control.specs.Verdict.{IsDue, IsLatest, verdict_in, row_refusal, sure_without, first_broken_without, AreJudgedIn, IsJudgedIn}
use Rattle.st_control.proofs.StampLaws.{stamped_is}

-- the first broken promise, of sets that are these
pub broken_is : (g : Group) (before left : Marks) (sure after : Entity → Bool) (broken : Option Broken) → is_in before ≡ sure → is_in left ≡ after → broken ≡ first_broken_of g (is_in before) (is_in left) → broken ≡ first_broken_of g sure after
broken_is g before left sure after broken before_is left_is answer =
    answer
    ∙ ap (λ (f : Entity → Bool). first_broken_of g f (is_in left)) before_is
    ∙ ap (λ (f : Entity → Bool). first_broken_of g sure f) left_is

-- the three steps of a verdict
none_first : (a b c : Option Cause) → cause_or a b ≡ None → cause_or a (cause_or b c) ≡ c
none_first None None c none = refl
none_first None (Some x) c none = cc
none_first (Some x) b c none = cc

some_first : (a b c : Option Cause) (cause : Cause) → cause_or a b ≡ Some cause → cause_or a (cause_or b c) ≡ Some cause
some_first None None c cause some = cc
some_first None (Some x) c cause some = some
some_first (Some x) b c cause some = some

pub same_without : (k : ControlView) (changed : Marks) (rows : List Row) → is_in changed ≡ alters k.group (value_in k.store.target) rows → sure_without k changed ≡ without_altered k.group (sure_in k.group (standing_in k)) (value_in k.store.target) rows
same_without k changed rows is = ap (λ (f : Entity → Bool). λ (e : Entity). sure_in k.group (standing_in k) e && not (f e)) is

pub verdict_barred : (k : ControlView) (app : AppId) (rows : List Row) (cause : Cause) → Some cause ≡ row_refusal k app rows → Refused cause ≡ verdict_in k.group (standing_in k) app rows
verdict_barred k app rows cause some = ap (λ (c : Option Cause). refusal_or_version c k.store.version) (sym (some_first (first_lack k.group (standing_in k).observed (target_with (value_in k.store.target) rows) rows) (first_locked (standing_in k).holder app rows) _ cause (sym some)))

pub verdict_by : (k : ControlView) (app : AppId) (rows : List Row) (changed : Marks) (broken : Option Broken) → None ≡ row_refusal k app rows → is_in changed ≡ alters k.group (value_in k.store.target) rows → broken ≡ first_broken_without k changed → refusal_or_version (option_map broken_cause broken) k.store.version ≡ verdict_in k.group (standing_in k) app rows
verdict_by k app rows changed broken none is breaks =
    ap (λ (c : Option Cause). refusal_or_version c k.store.version)
    (ap (option_map broken_cause) breaks
    ∙ ap (λ (f : Entity → Bool). option_map broken_cause (first_broken_of k.group (sure_in k.group (standing_in k)) f)) (same_without k changed rows is)
    ∙ sym (none_first (first_lack k.group (standing_in k).observed (target_with (value_in k.store.target) rows) rows) (first_locked (standing_in k).holder app rows) _ (sym none)))

-- what stands against a proposal by what stands against its rows
pub judged_barred : (k : ControlView) (p : Proposal) (rows : Weighed) (cause : Cause) → AreJudgedIn k p rows → rows.refusal ≡ Some cause → IsJudgedIn k p (record { refusal = Some cause; changed = rows.changed })
judged_barred k p rows cause are some = record {
  decision = verdict_barred k p.app p.rows cause (sym some ∙ are.first);
  marks = are.marks;
  altered = are.altered;
}

pub judged_by : (k : ControlView) (p : Proposal) (rows : Weighed) (cause : Option Cause) → AreJudgedIn k p rows → rows.refusal ≡ None → cause ≡ option_map broken_cause (first_broken_without k rows.changed) → IsJudgedIn k p (record { refusal = cause; changed = rows.changed })
judged_by k p rows cause are none is = record {
  decision = ap (λ (c : Option Cause). refusal_or_version c k.store.version) is ∙ verdict_by k p.app p.rows rows.changed (first_broken_without k rows.changed) (sym none ∙ are.first) are.altered refl;
  marks = are.marks;
  altered = are.altered;
}

-- the receipt that is due by what stands against the oldest proposal, whatever the count of runs
pub due_as : (k new : ControlView) (n entry version : ℕ) (p : Pending) (judged : Weighed) (verdict : Verdict) → new ≡ with_runs k n → IsOldest k.store p → IsJudgedIn k (proposal_of p) judged → version ≡ k.store.version → verdict ≡ refusal_or_version judged.refusal version → IsDue new (record { receipt = record { ticket = p.ticket; entry = entry; verdict = verdict }; changed = judged.changed })
due_as k new n entry version p judged verdict same oldest is last answer =
    let by_version : verdict ≡ verdict_in k.group (standing_in k) p.app p.rows = answer ∙ ap (refusal_or_version judged.refusal) last ∙ is.decision in
    rw same (record {
      oldest = proposal_of p;
      first = oldest.first;
      receipt = rw (oldest.ticket, by_version) refl;
      marks = is.marks;
      altered = is.altered;
    })

-- the first proposal's receipt
abbrev decided_as : ControlView → ℕ → Verdict → Reply
decided_as k n verdict = Decided (record { ticket = length k.store.decided + 1; entry = n; verdict = verdict })

-- the verdict that is due on the oldest proposal
abbrev verdict_due : (k : ControlView) (d : Decision) → IsDue k d → Verdict
verdict_due k d due = verdict_in k.group (standing_in k) due.oldest.app due.oldest.rows

verdict_is : (k : ControlView) (d : Decision) (due : IsDue k d) (verdict : Verdict) → d.receipt.verdict ≡ verdict → verdict_due k d due ≡ verdict
verdict_is k d due verdict is = sym (ap (λ (r : Receipt). r.verdict) due.receipt) ∙ is

reply_due : (k : ControlView) (d : Decision) (due : IsDue k d) (verdict : Verdict) → d.receipt.verdict ≡ verdict → Decided d.receipt ≡ decided_as k d.receipt.entry verdict
reply_due k d due verdict is = ap Decided due.receipt ∙ ap (decided_as k d.receipt.entry) (verdict_is k d due verdict is)

-- deciding the oldest proposal moves the checker: where it is refused
pub refused_moves : (k : ControlView) (new : StoreView) (d : Decision) (cause : Cause) → IsDue k d → d.receipt.verdict ≡ Refused cause → Decides k.store new d.receipt.entry false → Moves k (record k { store = new }) d.receipt.entry Check (Decided d.receipt)
refused_moves k new d cause due is decides =
    let decision = verdict_is k d due (Refused cause) is in
    let first = due.first in
    let moves : Moves k (record k { store = new }) d.receipt.entry Check (decided_as k d.receipt.entry (Refused cause)) = record {
      reply = λ w. rw (first, decision) refl;
      standing = λ w. rw (decides.pending, decides.tickets, decides.decided, decides.version, decides.target, decides.observed, first) refl;
      group = refl;
      versions = decides.versions;
    } in
    subst (λ (reply : Reply). Moves k (record k { store = new }) d.receipt.entry Check reply) (sym (reply_due k d due (Refused cause) is)) moves

-- and where it is accepted
pub accepted_moves : (k : ControlView) (new : StoreView) (stamps : List ℕ) (d : Decision) (version : ℕ) → IsDue k d → d.receipt.verdict ≡ Accepted version → IsLatest k.store → Decides k.store new d.receipt.entry true → stamp_in k.group stamps ≡ (λ e. if is_in d.changed e then d.receipt.entry else stamp_in k.group k.stamps e) → Moves k (record k { store = new; stamps = stamps }) d.receipt.entry Check (Decided d.receipt)
accepted_moves k new stamps d version due is latest decides stamped =
    let decision = verdict_is k d due (Accepted version) is in
    let first = due.first in
    let altered = stamped_is k.group d.changed (value_in k.store.target) due.oldest.rows d.receipt.entry k.stamps stamps due.altered stamped in
    let moves : Moves k (record k { store = new; stamps = stamps }) d.receipt.entry Check (decided_as k d.receipt.entry (Accepted version)) = record {
      reply = λ w. rw (first, decision) refl;
      standing = λ w. rw (decides.pending, decides.tickets, decides.decided, decides.version, decides.target, decides.observed, altered, first) refl;
      group = refl;
      versions = decides.versions ∙ ap (λ (last : Entity → Var → ℕ). λ (v : ℕ). if nat_le v k.store.version then value_at k.store.versions v else target_with last (first_rows k.store.pending)) latest;
    } in
    subst (λ (reply : Reply). Moves k (record k { store = new; stamps = stamps }) d.receipt.entry Check reply) (sym (reply_due k d due (Accepted version) is)) moves
