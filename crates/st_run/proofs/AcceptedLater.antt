-- What a journal has decided and accepted, each journal that goes on from it has first.
use Rattle.std.proofs.Common.{◌≡◌, ℕ, suc, ◌+◌, ◌≤◌, Bool, true, false, List, [], ◌∷◌, ◌++◌, length, map, take, refl, ap, sym, subst, ◌∙◌, arith, length-append, take-append-drop}
use Rattle.std.specs.Prelude.{reverse, count_by, if◌then◌else◌, drop}
use Rattle.std.specs.List.{filter}
use Rattle.std.proofs.Math.Seq.{take-append_seam}
use Rattle.std.proofs.lemmas.List.{map-append, reverse-append, take-append-le}
use Rattle.std.proofs.lemmas.List.Elements.{filter-append}
use Rattle.std.proofs.lemmas.List.Sums.{length-filter}
use mathlib.Core.List.{IsPrefix}
use Rattle.st_net.specs.declared.entity.Row.{Row}
use Rattle.st_net.specs.declared.entity.Entity.{Entity}
use Rattle.st_net.specs.declared.entity.Var.{Var}
use Rattle.st_net.specs.Groups.{Group}
use Rattle.st_net.specs.Merge.{merge_of}
use Rattle.st_event.specs.declared.event.Proposal.{Proposal}
use Rattle.st_event.specs.declared.reply.Verdict.{Verdict}
use Rattle.st_event.specs.declared.journal.Entry.{Entry}
use Rattle.st_event.specs.Legal.{IsLegal}
use Rattle.st_event.specs.Proposals.{accepted_among, deciders, is_accepted, overlays, proposals, verdicts, version}
use Rattle.st_event.specs.Versions.{value_at}
use Rattle.st_event.proofs.Begun.{verdicts_later, overlaid_later}
use Rattle.st_event.proofs.Standings.{length-deciders}
use Rattle.st_event.proofs.Mixed.{overlays_listed}
use Rattle.st_event.proofs.Targets.{legal_orderly}
use Rattle.st_event.proofs.Prefixes.{prefix_length}
use Rattle.st_run.specs.Logs.{accepted_up_to}
use Rattle.st_service.specs.Made.{Made, past_in}

-- a front that goes on has more entries in front of its journal
pub past_later : (xs ys : List Made) (p : IsPrefix xs ys) → past_in ys ≡ past_in p.0 ++ past_in xs
past_later xs ys p = ap past_in (sym p.1) ∙ (ap reverse (map-append (λ (m : Made). m.entry) xs p.0) ∙ reverse-append (map (λ (m : Made). m.entry) xs) (map (λ (m : Made). m.entry) p.0))

pub front_accepts : (xs ys : List Made) → IsPrefix xs ys → IsPrefix (overlays (past_in xs)) (overlays (past_in ys))
front_accepts xs ys p = subst (λ (past : List Entry). IsPrefix (overlays (past_in xs)) (overlays past)) (sym (past_later xs ys p)) (overlaid_later (past_in p.0) (past_in xs))

pub front_version : (xs ys : List Made) → IsPrefix xs ys → version (past_in xs) ≤ version (past_in ys)
front_version xs ys p = prefix_length (overlays (past_in xs)) (overlays (past_in ys)) (front_accepts xs ys p)

front_verdicts : (xs ys : List Made) → IsPrefix xs ys → IsPrefix (verdicts (past_in xs)) (verdicts (past_in ys))
front_verdicts xs ys p = subst (λ (past : List Entry). IsPrefix (verdicts (past_in xs)) (verdicts past)) (sym (past_later xs ys p)) (verdicts_later (past_in p.0) (past_in xs))

-- the first so many of a longer list

pub take_whole : {X : Type 0} (xs ys : List X) → IsPrefix xs ys → take (length xs) ys ≡ xs
take_whole xs ys p = ap (λ l. take (length xs) l) (sym p.1) ∙ take-append_seam xs p.0

pub take_within : {X : Type 0} (n : ℕ) (xs ys : List X) → IsPrefix xs ys → n ≤ length xs → take n ys ≡ take n xs
take_within n xs ys p le = ap (λ l. take n l) (sym p.1) ∙ take-append-le n xs p.0 le

-- rows that begin the overlays are the merge of the version of their number
pub value_first : (g : Group) (past : List Entry) (rows : List (List Row)) (entity : Entity) (var : Var) → IsPrefix rows (overlays past) → merge_of g rows entity var ≡ value_at g past (length rows) entity var
value_first g past rows entity var p = ap (λ (l : List (List Row)). merge_of g l entity var) (sym (take_whole rows (overlays past) p))

-- the values at a version stay
pub value_stays : (g : Group) (xs ys : List Made) (v : ℕ) (entity : Entity) (var : Var) → IsPrefix xs ys → v ≤ version (past_in xs) → value_at g (past_in xs) v entity var ≡ value_at g (past_in ys) v entity var
value_stays g xs ys v entity var p le = ap (λ (l : List (List Row)). merge_of g l entity var) (sym (take_within v (overlays (past_in xs)) (overlays (past_in ys)) (front_accepts xs ys p) le))

-- acceptances up to a ticket

count_take : {X : Type 0} (f : X → Bool) (n : ℕ) (xs : List X) → count_by f (take n xs) ≤ count_by f xs
count_take f n xs =
    let all : length (filter f xs) ≡ length (filter f (take n xs)) + length (filter f (drop n xs)) =
    ap (λ l. length (filter f l)) (sym (take-append-drop n xs)) ∙ (ap length (filter-append f (take n xs) (drop n xs)) ∙ length-append (filter f (take n xs)) (filter f (drop n xs))) in
    omega (arith, all, length-filter f xs, length-filter f (take n xs))

count_if : (b : Bool) (rows : List Row) (xs : List (List Row)) (n : ℕ) → n ≡ length xs → (if b then suc n else n) ≡ length (if b then rows ∷ xs else xs)
count_if true rows xs n e = ap suc e
count_if false rows xs n e = e

filter_if : (b : Bool) (v : Verdict) (vs : List Verdict) → length (if b then v ∷ vs else vs) ≡ (if b then suc (length vs) else length vs)
filter_if true v vs = refl
filter_if false v vs = refl

accepts_among : (ps : List Proposal) (vs : List Verdict) → length vs ≤ length ps → length (filter is_accepted vs) ≡ length (accepted_among ps vs)
accepts_among ps [] le = refl
accepts_among [] (v ∷ vs) le = absurd (omega (arith, le))
accepts_among (p ∷ ps) (v ∷ vs) le = filter_if (is_accepted v) v (filter is_accepted vs) ∙ count_if (is_accepted v) p.rows (accepted_among ps vs) (length (filter is_accepted vs)) (accepts_among ps vs (omega (arith, le)))

-- there are as many versions as acceptances, and one more for each withdrawal
accepts_all : (g : Group) (past : List Entry) → IsLegal g past → count_by is_accepted (verdicts past) ≤ version past
accepts_all g past legal = omega (arith, length-filter is_accepted (verdicts past), accepts_among (proposals past) (verdicts past) (legal_orderly g past legal).few, (overlays_listed g past legal).count)

-- what is accepted up to a ticket that a beginning has decided is accepted there
pub accepted_first : (g : Group) (xs ys : List Made) (ticket : ℕ) → IsLegal g (past_in xs) → IsPrefix xs ys → ticket ≤ length (deciders (past_in xs)) → accepted_up_to ticket (past_in ys) ≤ version (past_in xs)
accepted_first g xs ys ticket legal p le =
    let few : ticket ≤ length (verdicts (past_in xs)) = omega (arith, le, length-deciders (past_in xs)) in
    let same : accepted_up_to ticket (past_in ys) ≡ count_by is_accepted (take ticket (verdicts (past_in xs))) =
    ap (count_by is_accepted) (take_within ticket (verdicts (past_in xs)) (verdicts (past_in ys)) (front_verdicts xs ys p) few) in
    let low = count_take is_accepted ticket (verdicts (past_in xs)) in
    omega (arith, same, low, accepts_all g (past_in xs) legal)
