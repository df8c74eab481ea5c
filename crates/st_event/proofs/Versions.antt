-- One entry more moves the values at each version by one step, and at the last version they are the target. There are no more versions
-- than entries.
use Rattle.std.proofs.Common.{◌≡◌, ℕ, suc, ◌≤◌, List, [], ◌∷◌, ◌++◌, length, take, Option, Some, None, refl, ap, ◌∙◌, arith}
use Rattle.std.specs.Prelude.{Bool, true, false, nat_le, if◌then◌else◌}
use Rattle.std.proofs.lemmas.List.{length-append, take-append-le, take_all}
use Rattle.std.proofs.Math.Seq.{take-nil}
use mathlib.Core.Path.{fun_ext}
use Rattle.st_net.specs.declared.entity.Row.{Row}
use Rattle.st_net.specs.Groups.{Group}
use Rattle.st_net.specs.Merge.{merge_of, target_with}
use Rattle.st_net.proofs.MergeLaws.{merge_of-push_all}
use Rattle.st_event.specs.declared.event.Proposal.{Proposal}
use Rattle.st_event.specs.declared.journal.Entry.{Entry}
use Rattle.st_event.specs.declared.reply.Verdict.{Verdict}
use Rattle.st_event.specs.Proposals.{accepted, accepted_among, deciders, is_accepted, overlays, first_rows, overlay_in, with_overlay, pending, proposals, target, verdicts, version}
use Rattle.st_event.specs.Standing.{standing_of}
use Rattle.st_event.specs.Versions.{value_at, versions_with, versions_after}
use Rattle.st_event.proofs.Standings.{length-deciders}
use Rattle.st_net.proofs.Tests.{at_most_is, more_is}

-- the merges of the first overlays of a list that is one longer
merge_at : (g : Group) (before : List (List Row)) (rows : List Row) (v : ℕ) (b : Bool) → nat_le v (length before) ≡ b → merge_of g (take v (before ++ rows ∷ [])) ≡ (if b then merge_of g (take v before) else target_with (merge_of g before) rows)
merge_at g before rows v true le = ap (merge_of g) (take-append-le v before (rows ∷ []) (at_most_is v (length before) le))
merge_at g before rows v false gt =
    let all : take v (before ++ rows ∷ []) ≡ before ++ rows ∷ [] = take_all v (before ++ rows ∷ []) (let l = more_is v (length before) gt in let n = length-append before (rows ∷ []) in omega (arith, l, n)) in
    ap (merge_of g) all ∙ merge_of-push_all g before rows

overlaid_versions : (g : Group) (past : List Entry) (o : Option (List Row)) → (λ (v : ℕ). merge_of g (take v (with_overlay o (overlays past)))) ≡ versions_with o (standing_of g past) (value_at g past)
overlaid_versions g past None = refl
overlaid_versions g past (Some rows) = fun_ext (λ v. merge_at g (overlays past) rows v (nat_le v (length (overlays past))) refl)

pub value_at-next : (g : Group) (past : List Entry) (entry : Entry) → value_at g (entry ∷ past) ≡ versions_after (standing_of g past) entry.event entry.reply (value_at g past)
value_at-next g past entry = overlaid_versions g past (overlay_in entry.event entry.reply (first_rows (pending past)))

-- each version of an empty journal has the opening values
pub value_at-opening : (g : Group) → value_at g [] ≡ (λ v. merge_of g [])
value_at-opening g = fun_ext (λ v. ap (merge_of g) (take-nil v))

-- at the last version, and beyond it, the values are the target
pub value_at-latest : (g : Group) (past : List Entry) (v : ℕ) → version past ≤ v → value_at g past v ≡ target g past
value_at-latest g past v last = ap (merge_of g) (take_all v (overlays past) last)

-- there are no more versions than entries

overlaid_few : (o : Option (List Row)) (before : List (List Row)) (n : ℕ) → length before ≤ n → length (with_overlay o before) ≤ suc n
overlaid_few None before n few = omega (arith, few)
overlaid_few (Some rows) before n few = omega (arith, few, length-append before (rows ∷ []))

pub versions_few : (past : List Entry) → version past ≤ length past
versions_few [] = omega arith
versions_few (entry ∷ past) = overlaid_few (overlay_in entry.event entry.reply (first_rows (pending past))) (overlays past) (length past) (versions_few past)

-- no more proposals were accepted than decided

one_among : (b : Bool) (rows : List Row) (among : List (List Row)) (n : ℕ) → length among ≤ n → length (if b then rows ∷ among else among) ≤ suc n
one_among true rows among n few = omega (arith, few)
one_among false rows among n few = omega (arith, few)

among_few : (ps : List Proposal) (vs : List Verdict) → length (accepted_among ps vs) ≤ length vs
among_few ps [] = omega arith
among_few [] (v ∷ vs) = omega arith
among_few (p ∷ ps) (v ∷ vs) = one_among (is_accepted v) p.rows (accepted_among ps vs) (length vs) (among_few ps vs)

pub accepted_few : (past : List Entry) → length (accepted past) ≤ length (deciders past)
accepted_few past = let few = among_few (proposals past) (verdicts past) in let same = length-deciders past in omega (arith, few, same)
