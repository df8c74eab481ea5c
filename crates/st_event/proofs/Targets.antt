-- An entry moves the target only where it makes a version, and then by what it overlays: an acceptance by its proposal's rows, a withdrawal
-- by what it withdraws.
use Rattle.std.proofs.Common.{◌≡◌, ◌+◌, ◌≤◌, List, [], ◌∷◌, ◌++◌, length, drop, Option, Some, None, refl, ap, sym, ◌∙◌, arith, length-append, length-drop}
use Rattle.std.specs.Prelude.{true, false, is_some}
use Rattle.st_net.specs.declared.entity.Row.{Row}
use Rattle.st_net.specs.declared.entity.AppId.{AppId}
use Rattle.st_event.specs.declared.event.Event.{Event}
use Rattle.st_event.specs.declared.event.Event.TheVariants.{Submit, Check, Withdraw}
use Rattle.st_event.specs.declared.reply.Reply.{Reply}
use Rattle.st_event.specs.declared.reply.Reply.TheVariants.{Queued, Decided}
use Rattle.st_event.specs.declared.reply.Receipt.{Receipt}
use Rattle.st_event.specs.declared.journal.Entry.{Entry}
use Rattle.st_event.specs.declared.event.Proposal.{Proposal}
use Rattle.st_net.specs.Groups.{Group}
use Rattle.st_net.specs.Merge.{merge_of, target_with}
use Rattle.st_event.specs.Proposals.{is_accepted, is_accepting, is_acceptance, makes_version, proposals, verdicts, pending, accepted, first_rows, overlay_in, withdrawal_in, with_overlay, overlays, target}
use Rattle.st_event.specs.Overlaid.{overlaid_by}
use Rattle.st_event.specs.Receipts.{rows_withdrawn}
use Rattle.st_event.specs.Replies.{reply, check_reply, receipt_of}
use Rattle.st_event.specs.Legal.{IsLegal}
use Rattle.st_net.proofs.MergeLaws.{merge_of-push_all}
use Rattle.st_event.proofs.Queues.{accepted_among-proposal, accepted_among-verdict}

-- no more verdicts than proposals
pub record IsOrderly (past : List Entry) : Type 0 where
  pub few : length (verdicts past) ≤ length (proposals past)

few_at : (g : Group) (past : List Entry) (queue : List Proposal) (answer : Reply) → pending past ≡ queue → answer ≡ check_reply g past queue → IsOrderly past → IsOrderly (record { event = Check; reply = answer } ∷ past)
few_at g past [] answer first is orderly = rw is (record { few = orderly.few })
few_at g past (p ∷ rest) answer first is orderly =
    let more : length (drop (length (verdicts past)) (proposals past)) ≡ length rest + 1 = rw first (omega arith) in
    rw is (record { few = rw length-append (omega (arith, length-drop (length (verdicts past)) (proposals past))) })

submit_orderly : (past : List Entry) (app : AppId) (rows : List Row) (answer : Reply) → IsOrderly past → IsOrderly (record { event = Submit app rows; reply = answer } ∷ past)
submit_orderly past app rows (Queued ticket) orderly = record { few = rw length-append (omega (arith, orderly.few)) }
submit_orderly past app rows _ orderly = record { few = orderly.few }

stays_orderly : (g : Group) (past : List Entry) (event : Event) (answer : Reply) → IsOrderly past → answer ≡ reply g past event → IsOrderly (record { event = event; reply = answer } ∷ past)
stays_orderly g past (Submit app rows) answer orderly is = submit_orderly past app rows answer orderly
stays_orderly g past Check answer orderly is = few_at g past (pending past) answer refl is orderly
stays_orderly g past _ answer orderly is = record { few = orderly.few }

-- legal journals are orderly
pub legal_orderly : (g : Group) (past : List Entry) → IsLegal g past → IsOrderly past
legal_orderly g [] legal = record { few = omega arith }
legal_orderly g (entry ∷ past) legal = stays_orderly g past entry.event entry.reply (legal_orderly g past legal.1) legal.0.answer

submit_same : (past : List Entry) (app : AppId) (rows : List Row) (answer : Reply) → IsOrderly past → accepted (record { event = Submit app rows; reply = answer } ∷ past) ≡ accepted past
submit_same past app rows (Queued ticket) orderly = accepted_among-proposal (proposals past) (verdicts past) (record { app = app; rows = rows }) orderly.few
submit_same past app rows _ orderly = refl

refused_same : (past : List Entry) (receipt : Receipt) (p : Proposal) (rest : List Proposal) → pending past ≡ p ∷ rest → is_accepted receipt.verdict ≡ false → accepted (record { event = Check; reply = Decided receipt } ∷ past) ≡ accepted past
refused_same past receipt p rest first refused = rw (accepted_among-verdict (proposals past) (verdicts past) receipt.verdict p rest first, refused) refl

check_same : (g : Group) (past : List Entry) (queue : List Proposal) (answer : Reply) → pending past ≡ queue → answer ≡ check_reply g past queue → is_accepting answer ≡ false → accepted (record { event = Check; reply = answer } ∷ past) ≡ accepted past
check_same g past [] answer first is refused = rw is refl
check_same g past (p ∷ rest) answer first is refused = rw is (refused_same past (receipt_of g past p) p rest first (ap is_accepting (sym is) ∙ refused))

pub accepted_same : (g : Group) (past : List Entry) (event : Event) (answer : Reply) → IsOrderly past → answer ≡ reply g past event → is_acceptance event answer ≡ false → accepted (record { event = event; reply = answer } ∷ past) ≡ accepted past
accepted_same g past (Submit app rows) answer orderly is none = submit_same past app rows answer orderly
accepted_same g past Check answer orderly is none = check_same g past (pending past) answer refl is none
accepted_same g past _ answer orderly is none = refl

-- what an acceptance is: a check, whose receipt accepts the oldest pending proposal
pub record IsAccepted (g : Group) (past : List Entry) (event : Event) (answer : Reply) : Type 0 where
  pub proposal : Proposal
  pub rest : List Proposal
  pub first : pending past ≡ proposal ∷ rest
  pub check : event ≡ Check
  pub answers : answer ≡ Decided (receipt_of g past proposal)
  pub accepts : is_accepted (receipt_of g past proposal).verdict ≡ true

accepted_at : (g : Group) (past : List Entry) (queue : List Proposal) (answer : Reply) → pending past ≡ queue → answer ≡ check_reply g past queue → is_accepting answer ≡ true → IsAccepted g past Check answer
accepted_at g past [] answer first is accepts = let it = ap is_accepting (sym is) ∙ accepts in cc
accepted_at g past (p ∷ rest) answer first is accepts = record { proposal = p; rest = rest; first = first; check = refl; answers = is; accepts = ap is_accepting (sym is) ∙ accepts }

pub acceptance : (g : Group) (past : List Entry) (event : Event) (answer : Reply) → answer ≡ reply g past event → is_acceptance event answer ≡ true → IsAccepted g past event answer
acceptance g past Check answer is accepts = accepted_at g past (pending past) answer refl is accepts
acceptance g past _ answer is accepts = cc

pub accepted_next : (past : List Entry) (receipt : Receipt) (p : Proposal) (rest : List Proposal) → pending past ≡ p ∷ rest → is_accepted receipt.verdict ≡ true → accepted (record { event = Check; reply = Decided receipt } ∷ past) ≡ accepted past ++ p.rows ∷ []
accepted_next past receipt p rest first accepts = rw (accepted_among-verdict (proposals past) (verdicts past) receipt.verdict p rest first, accepts) refl

-- what an entry overlays, by whether it makes a version, and by whether it accepts

pub overlay_none : (event : Event) (answer : Reply) (first : List Row) → makes_version event answer ≡ false → overlay_in event answer first ≡ None
overlay_none Check answer first none = rw none refl
overlay_none (Withdraw at) answer first none = nothing (rows_withdrawn answer) none
  where
    nothing : (o : Option (List Row)) → is_some o ≡ false → o ≡ None
    nothing None is = refl
    nothing (Some rows) is = cc
overlay_none _ answer first none = refl

pub overlay_some : (event : Event) (answer : Reply) (first : List Row) → is_acceptance event answer ≡ true → overlay_in event answer first ≡ Some first
overlay_some Check answer first accepts = rw accepts refl
overlay_some _ answer first accepts = cc

-- an acceptance withdraws nothing
pub withdraws_none : (event : Event) (answer : Reply) → is_acceptance event answer ≡ true → withdrawal_in event answer ≡ None
withdraws_none Check answer accepts = refl
withdraws_none _ answer accepts = cc

-- and what accepts nothing overlays what it withdraws
pub overlays_withdrawal : (event : Event) (answer : Reply) (first : List Row) → is_acceptance event answer ≡ false → overlay_in event answer first ≡ withdrawal_in event answer
overlays_withdrawal Check answer first none = rw none refl
overlays_withdrawal _ answer first none = refl

pub overlays_same : (past : List Entry) (entry : Entry) → makes_version entry.event entry.reply ≡ false → overlays (entry ∷ past) ≡ overlays past
overlays_same past entry none = ap (λ (o : Option (List Row)). with_overlay o (overlays past)) (overlay_none entry.event entry.reply (first_rows (pending past)) none)

pub overlays_next : (past : List Entry) (entry : Entry) → is_acceptance entry.event entry.reply ≡ true → overlays (entry ∷ past) ≡ overlays past ++ first_rows (pending past) ∷ []
overlays_next past entry accepts = ap (λ (o : Option (List Row)). with_overlay o (overlays past)) (overlay_some entry.event entry.reply (first_rows (pending past)) accepts)

-- the target is overlaid with what an entry overlays, in any journal

overlaid : (g : Group) (o : Option (List Row)) (before : List (List Row)) → merge_of g (with_overlay o before) ≡ overlaid_by o (merge_of g before)
overlaid g None before = refl
overlaid g (Some rows) before = merge_of-push_all g before rows

pub target_overlaid : (g : Group) (past : List Entry) (entry : Entry) → target g (entry ∷ past) ≡ overlaid_by (overlay_in entry.event entry.reply (first_rows (pending past))) (target g past)
target_overlaid g past entry = overlaid g (overlay_in entry.event entry.reply (first_rows (pending past))) (overlays past)

-- an acceptance overlays the target with the rows of the oldest proposal that waits
pub target_accepted : (g : Group) (past : List Entry) (entry : Entry) → is_acceptance entry.event entry.reply ≡ true → target g (entry ∷ past) ≡ target_with (target g past) (first_rows (pending past))
target_accepted g past entry accepts =
    target_overlaid g past entry
    ∙ ap (λ (o : Option (List Row)). overlaid_by o (target g past)) (overlay_some entry.event entry.reply (first_rows (pending past)) accepts)

-- an entry that makes no version leaves the target
pub target_same : (g : Group) (past : List Entry) (entry : Entry) → makes_version entry.event entry.reply ≡ false → target g (entry ∷ past) ≡ target g past
target_same g past entry none =
    target_overlaid g past entry
    ∙ ap (λ (o : Option (List Row)). overlaid_by o (target g past)) (overlay_none entry.event entry.reply (first_rows (pending past)) none)

-- an acceptance overlays the target with the proposal's rows
pub target_next : (g : Group) (past : List Entry) (receipt : Receipt) (p : Proposal) (rest : List Proposal) → pending past ≡ p ∷ rest → is_accepted receipt.verdict ≡ true → target g (record { event = Check; reply = Decided receipt } ∷ past) ≡ target_with (target g past) p.rows
target_next g past receipt p rest first accepts =
    target_accepted g past (record { event = Check; reply = Decided receipt }) accepts
    ∙ ap (λ (q : List Proposal). target_with (target g past) (first_rows q)) first

pub accepted_step : (g : Group) (past : List Entry) (event : Event) (answer : Reply) → IsAccepted g past event answer → accepted (record { event = event; reply = answer } ∷ past) ≡ accepted past ++ first_rows (pending past) ∷ []
accepted_step g past event answer is =
    let next = accepted_next past (receipt_of g past is.proposal) is.proposal is.rest is.first is.accepts in
    rw (is.check, is.answers) (next ∙ ap (λ (q : List Proposal). accepted past ++ first_rows q ∷ []) (sym is.first))
