-- One proposal or one verdict more.
use Rattle.std.proofs.Common.{◌≡◌, ◌≤◌, List, [], ◌∷◌, ◌++◌, length, drop, refl, arith}
use Rattle.std.specs.Prelude.{if◌then◌else◌}
use Rattle.st_event.specs.declared.event.Proposal.{Proposal}
use Rattle.st_event.specs.declared.reply.Verdict.{Verdict}
use Rattle.st_event.specs.Proposals.{is_accepted, accepted_among}

pub accepted_among-proposal : (ps : List Proposal) (vs : List Verdict) (p : Proposal) → length vs ≤ length ps → accepted_among (ps ++ p ∷ []) vs ≡ accepted_among ps vs
accepted_among-proposal ps [] p few = refl
accepted_among-proposal [] (v ∷ vs) p few = absurd (omega arith)
accepted_among-proposal (q ∷ ps) (v ∷ vs) p few = let few_rest : length vs ≤ length ps = omega arith in rw (accepted_among-proposal ps vs p few_rest) refl

-- the first pending proposal joins the accepted ones where its verdict accepts it
pub accepted_among-verdict : (ps : List Proposal) (vs : List Verdict) (v : Verdict) (p : Proposal) (rest : List Proposal) → drop (length vs) ps ≡ p ∷ rest → accepted_among ps (vs ++ v ∷ []) ≡ (if is_accepted v then accepted_among ps vs ++ p.rows ∷ [] else accepted_among ps vs)
accepted_among-verdict [] [] v p rest first = cc
accepted_among-verdict (q ∷ ps) [] v p rest first = let same : q ≡ p = cc in rw same refl
accepted_among-verdict [] (w ∷ vs) v p rest first = grind arith
accepted_among-verdict (q ∷ ps) (w ∷ vs) v p rest first = grind (arith, accepted_among-verdict ps vs v p rest)

pub drop-verdict : (ps rest : List Proposal) (vs : List Verdict) (v : Verdict) (p : Proposal) → drop (length vs) ps ≡ p ∷ rest → drop (length (vs ++ v ∷ [])) ps ≡ rest
drop-verdict [] rest [] v p first = cc
drop-verdict (q ∷ ps) rest [] v p first = cc
drop-verdict [] rest (w ∷ vs) v p first = grind arith
drop-verdict (q ∷ ps) rest (w ∷ vs) v p first = grind (arith, drop-verdict ps rest vs v p)
