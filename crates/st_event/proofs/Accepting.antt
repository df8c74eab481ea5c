-- What a legal journal accepts: proposals that fit, in the order in which they wait.
use Rattle.std.proofs.Common.{◌≡◌, ◌≤◌, true, false, List, [], ◌∷◌, ◌++◌, length, refl, ap, sym, ◌∙◌, arith}
use Rattle.std.specs.Prelude.{All}
use Rattle.std.proofs.lemmas.List.Elements.{All-push, All-drop}
use Rattle.st_net.specs.declared.entity.AppId.{AppId}
use Rattle.st_net.specs.declared.entity.Row.{Row}
use Rattle.st_net.specs.Groups.{Group}
use Rattle.st_net.specs.Ranges.{RowsFit, RowFits}
use Rattle.st_event.specs.declared.event.Event.{Event}
use Rattle.st_event.specs.declared.event.Event.TheVariants.{Submit, Check, Lock, Unlock, Send, Deliver, Finish, Report, Hear, Fail, Withdraw}
use Rattle.st_event.specs.declared.event.Proposal.{Proposal}
use Rattle.st_event.specs.declared.reply.Reply.{Reply}
use Rattle.st_event.specs.declared.reply.Reply.TheVariants.{Queued}
use Rattle.st_event.specs.declared.journal.Entry.{Entry}
use Rattle.st_event.specs.declared.journal.TheConstants.{MAX_ENTRIES}
use Rattle.st_event.specs.Events.{is_check, may_overlay}
use Rattle.st_event.specs.Legal.{IsLegal, Fits}
use Rattle.st_event.specs.Proposals.{is_acceptance, is_accepting, makes_version, proposals, verdicts, pending, accepted, first_rows}
use Rattle.st_event.specs.Replies.{reply, receipt_of}
use Rattle.st_event.proofs.Targets.{acceptance, accepted_next}

-- an event other than a check accepts nothing
pub accepts_none : (event : Event) (answer : Reply) → is_check event ≡ false → is_acceptance event answer ≡ false
accepts_none Check answer e = absurd cc
accepts_none (Submit app rows) answer e = refl
accepts_none (Lock app at prio) answer e = refl
accepts_none (Unlock app at prio) answer e = refl
accepts_none (Send at) answer e = refl
accepts_none (Deliver n) answer e = refl
accepts_none (Finish at) answer e = refl
accepts_none (Report at) answer e = refl
accepts_none (Hear n) answer e = refl
accepts_none (Fail at vals health) answer e = refl
accepts_none (Withdraw at) answer e = refl

-- an event other than a check and a withdrawal makes no version
pub overlays_none : (event : Event) (answer : Reply) → may_overlay event ≡ false → makes_version event answer ≡ false
overlays_none Check answer e = absurd cc
overlays_none (Withdraw at) answer e = absurd cc
overlays_none _ answer e = refl

-- a check that accepts has the rows of the first that waited behind what was accepted
pub accepted_first : (g : Group) (past : List Entry) (answer : Reply) → answer ≡ reply g past Check → is_accepting answer ≡ true → accepted (record { event = Check; reply = answer } ∷ past) ≡ accepted past ++ first_rows (pending past) ∷ []
accepted_first g past answer is accepts =
    let a = acceptance g past Check answer is accepts in
    ap (λ (r : Reply). accepted (record { event = Check; reply = r } ∷ past)) a.answers
    ∙ (accepted_next past (receipt_of g past a.proposal) a.proposal a.rest a.first a.accepts
    ∙ ap (λ ps. accepted past ++ first_rows ps ∷ []) (sym a.first))

queued_fits : (g : Group) (past : List Entry) (app : AppId) (rows : List Row) (answer : Reply) → RowsFit g rows → All (λ (p : Proposal). RowsFit g p.rows) (proposals past) → All (λ (p : Proposal). RowsFit g p.rows) (proposals (record { event = Submit app rows; reply = answer } ∷ past))
queued_fits g past app rows (Queued ticket) fits all = All-push (λ (p : Proposal). RowsFit g p.rows) (proposals past) (record { app = app; rows = rows }) all fits
queued_fits g past app rows _ fits all = all

proposed_fits : (g : Group) (past : List Entry) (event : Event) (answer : Reply) → Fits g event → All (λ (p : Proposal). RowsFit g p.rows) (proposals past) → All (λ (p : Proposal). RowsFit g p.rows) (proposals (record { event = event; reply = answer } ∷ past))
proposed_fits g past (Submit app rows) answer fits all = queued_fits g past app rows answer fits all
proposed_fits g past _ answer fits all = all

-- the proposals of a legal journal fit its group
pub proposals_fit : (g : Group) (past : List Entry) → IsLegal g past → All (λ (p : Proposal). RowsFit g p.rows) (proposals past)
proposals_fit g [] legal = λ k d lt. absurd (omega (arith, lt))
proposals_fit g (entry ∷ past) legal = proposed_fits g past entry.event entry.reply legal.0.fits (proposals_fit g past legal.1)

first_fits : (g : Group) (ps : List Proposal) → All (λ (p : Proposal). RowsFit g p.rows) ps → All (RowFits g) (first_rows ps)
first_fits g [] all = λ k d lt. absurd (omega (arith, lt))
first_fits g (p ∷ ps) all = (all 0 p (omega arith)).each

-- the rows of the proposal that is decided next fit
pub next_fits : (g : Group) (past : List Entry) → IsLegal g past → All (RowFits g) (first_rows (pending past))
next_fits g past legal = first_fits g (pending past) (All-drop (λ (p : Proposal). RowsFit g p.rows) (length (verdicts past)) (proposals past) (proposals_fit g past legal))

-- a legal journal has no more entries than it may have
pub legal_within : (g : Group) (past : List Entry) → IsLegal g past → length past ≤ MAX_ENTRIES
legal_within g [] legal = omega arith
legal_within g (entry ∷ past) legal = omega (arith, legal.0.room)
