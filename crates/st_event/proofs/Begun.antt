-- What a journal has given verdicts on, overlaid and accepted, each journal that goes on from it has first.
use Rattle.std.proofs.Common.{◌≤◌, List, [], ◌∷◌, ◌++◌, length, Option, Some, None, refl, sym, subst, ◌≡◌, arith}
use Rattle.std.specs.Prelude.{Bool, true, false}
use mathlib.Core.List.{IsPrefix}
use Rattle.st_net.specs.declared.entity.Row.{Row}
use Rattle.st_net.specs.Groups.{Group}
use Rattle.st_event.specs.declared.event.Event.{Event}
use Rattle.st_event.specs.declared.event.Event.TheVariants.{Check}
use Rattle.st_event.specs.declared.reply.Reply.{Reply}
use Rattle.st_event.specs.declared.reply.Reply.TheVariants.{Decided}
use Rattle.st_event.specs.declared.reply.Verdict.{Verdict}
use Rattle.st_event.specs.declared.journal.Entry.{Entry}
use Rattle.st_event.specs.Legal.{IsLegal, IsNext}
use Rattle.st_event.specs.Proposals.{accepted, deciders, first_rows, is_acceptance, overlay_in, overlays, pending, verdicts, verdicts_after, with_overlay, with_verdict_of}
use Rattle.st_event.proofs.Prefixes.{prefix_length, prefix_self, prefix_trans}
use Rattle.st_event.proofs.Standings.{length-deciders}
use Rattle.st_event.proofs.Targets.{acceptance, accepted_same, accepted_step, legal_orderly}

-- an entry more leaves the verdicts and the overlays, or has one more behind them

verdict_given : (answer : Reply) (before : List Verdict) → IsPrefix before (with_verdict_of answer before)
verdict_given (Decided receipt) before = (receipt.verdict ∷ [], refl)
verdict_given _ before = prefix_self before

verdicts_one : (event : Event) (answer : Reply) (before : List Verdict) → IsPrefix before (verdicts_after event answer before)
verdicts_one Check answer before = verdict_given answer before
verdicts_one _ answer before = prefix_self before

pub verdicts_later : (more past : List Entry) → IsPrefix (verdicts past) (verdicts (more ++ past))
verdicts_later [] past = prefix_self (verdicts past)
verdicts_later (e ∷ more) past = prefix_trans (verdicts past) (verdicts (more ++ past)) (verdicts (e ∷ more ++ past)) (verdicts_later more past) (verdicts_one e.event e.reply (verdicts (more ++ past)))

-- so no fewer tickets are decided
pub deciders_grow : (more past : List Entry) → length (deciders past) ≤ length (deciders (more ++ past))
deciders_grow more past =
    let few = prefix_length (verdicts past) (verdicts (more ++ past)) (verdicts_later more past) in
    omega (arith, few, length-deciders past, length-deciders (more ++ past))

overlaid_one : (o : Option (List Row)) (before : List (List Row)) → IsPrefix before (with_overlay o before)
overlaid_one None before = prefix_self before
overlaid_one (Some rows) before = (rows ∷ [], refl)

-- what the target is overlaid with
pub overlaid_later : (more past : List Entry) → IsPrefix (overlays past) (overlays (more ++ past))
overlaid_later [] past = prefix_self (overlays past)
overlaid_later (e ∷ more) past = prefix_trans (overlays past) (overlays (more ++ past)) (overlays (e ∷ more ++ past)) (overlaid_later more past) (overlaid_one (overlay_in e.event e.reply (first_rows (pending (more ++ past)))) (overlays (more ++ past)))

-- what is accepted, in a legal journal

-- what begins a legal journal is legal
pub legal_begun : (g : Group) (more past : List Entry) → IsLegal g (more ++ past) → IsLegal g past
legal_begun g [] past legal = legal
legal_begun g (e ∷ more) past legal = legal_begun g more past legal.1

accepted_one : (g : Group) (past : List Entry) (entry : Entry) (b : Bool) → is_acceptance entry.event entry.reply ≡ b → IsLegal g past → IsNext g past entry → IsPrefix (accepted past) (accepted (entry ∷ past))
accepted_one g past entry true is legal next = (first_rows (pending past) ∷ [], sym (accepted_step g past entry.event entry.reply (acceptance g past entry.event entry.reply next.answer is)))
accepted_one g past entry false is legal next = subst (λ (rows : List (List Row)). IsPrefix (accepted past) rows) (sym (accepted_same g past entry.event entry.reply (legal_orderly g past legal) next.answer is)) (prefix_self (accepted past))

pub accepted_later : (g : Group) (more past : List Entry) → IsLegal g (more ++ past) → IsPrefix (accepted past) (accepted (more ++ past))
accepted_later g [] past legal = prefix_self (accepted past)
accepted_later g (e ∷ more) past legal = prefix_trans (accepted past) (accepted (more ++ past)) (accepted (e ∷ more ++ past)) (accepted_later g more past legal.1) (accepted_one g (more ++ past) e (is_acceptance e.event e.reply) refl legal.1 legal.0)
