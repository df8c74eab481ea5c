-- The oldest proposal leaves the queue.
use Rattle.std.proofs.Common.{◌≡◌, ℕ, suc, ◌+◌, ◌<◌, List, [], ◌∷◌, ◌++◌, length, map, get_or, drop, refl, sym, ap, ◌∙◌, subst, arith, length-append}
use Rattle.std.specs.Prelude.{Bool, ◌==◌, ◌||◌, All}
use Rattle.std.specs.List.{list_any}
use Rattle.st_net.specs.declared.entity.AppId.{AppId}
use Rattle.st_net.specs.declared.entity.Entity.{Entity}
use Rattle.st_net.specs.declared.entity.Entity.TheVariants.{Device, Link}
use Rattle.st_net.specs.declared.entity.Row.{Row}
use Rattle.st_event.specs.declared.event.Proposal.{Proposal}
use Rattle.st_event.specs.Proposals.{first_rows}
use Rattle.st_overlay.specs.Values.{Values, IsIn, IsRowIn}
use Rattle.st_store.specs.declared.pending.Pending.{Pending}
use Rattle.st_store.specs.Versions.{VersionsView, MergesIf}
use Rattle.st_store.specs.Store.{StoreView, proposal_of}
use Rattle.st_store.specs.Inside.{AreNumbered, FitsTable, IsConsistent}

-- the target has the rows of the oldest proposal
pub oldest_fits : (t : Values) (queue : List Pending) (d : Pending) → 0 < length (map proposal_of queue) → All (FitsTable t) (map proposal_of queue) → All (IsRowIn t) (get_or queue 0 d).rows
oldest_fits t [] d some all = absurd (omega arith)
oldest_fits t (p ∷ queue) d some all = all 0 (proposal_of p) (omega arith)

pub oldest_rows : (queue : List Pending) (d : Pending) → 0 < length (map proposal_of queue) → (get_or queue 0 d).rows ≡ first_rows (map proposal_of queue)
oldest_rows [] d some = absurd (omega arith)
oldest_rows (p ∷ queue) d some = refl

IsIn-same : (t u : Values) (e : Entity) → length u.devices ≡ length t.devices → length u.links ≡ length t.links → IsIn t e → IsIn u e
IsIn-same t u (Device i) devices links here = omega arith
IsIn-same t u (Link i) devices links here = omega arith

FitsTable-same : (t u : Values) (p : Proposal) → length u.devices ≡ length t.devices → length u.links ≡ length t.links → FitsTable t p → FitsTable u p
FitsTable-same t u p devices links all = λ k d lt. (IsIn-same t u (get_or p.rows k d).entity devices links (all k d lt).0, (all k d lt).1)

numbered_rest : (n : ℕ) (queue : List Pending) → AreNumbered n queue → AreNumbered (n + 1) (drop 1 queue)
numbered_rest n [] all = λ k d lt. absurd (omega arith)
numbered_rest n (p ∷ queue) all = λ k d lt. all (suc k) d (omega arith) ∙ (let e : n + suc k + 1 ≡ n + 1 + k + 1 = omega arith in e)

fits_rest : (t u : Values) (queue : List Pending) → length u.devices ≡ length t.devices → length u.links ≡ length t.links → All (FitsTable t) (map proposal_of queue) → All (FitsTable u) (map proposal_of (drop 1 queue))
fits_rest t u [] devices links all = λ k d lt. absurd (omega arith)
fits_rest t u (p ∷ queue) devices links all = λ k d lt. FitsTable-same t u (get_or (map proposal_of queue) k d) devices links (all (suc k) d (omega arith))

length_rest : (queue : List Pending) → 0 < length (map proposal_of queue) → length (map proposal_of (drop 1 queue)) + 1 ≡ length (map proposal_of queue)
length_rest [] some = absurd (omega arith)
length_rest (p ∷ queue) some = omega arith

-- what a store keeps goes on to hold
pub IsConsistent-decided : (queue rest : List Pending) (s : StoreView) (decided : List ℕ) (entry : ℕ) (accept : Bool) (old new : VersionsView) (rows : List Row) → IsConsistent queue s → s.pending ≡ map proposal_of queue → 0 < length (map proposal_of queue) → rest ≡ drop 1 queue → decided ≡ s.decided ++ entry ∷ [] → s.target ≡ old.target → MergesIf accept old new rows → IsConsistent rest (record s { pending = map proposal_of rest; decided = decided; version = new.version; target = new.target; versions = new.changes })
IsConsistent-decided queue rest s decided entry accept old new rows is pending some left entered target merges =
    let count : length decided ≡ length s.decided + 1 = ap length entered ∙ length-append s.decided (entry ∷ []) in
    let devices : length new.target.devices ≡ length s.target.devices = merges.devices ∙ sym (ap (λ (t : Values). length t.devices) target) in
    let links : length new.target.links ≡ length s.target.links = merges.links ∙ sym (ap (λ (t : Values). length t.links) target) in
    let fewer : length (map proposal_of rest) + 1 ≡ length s.pending = ap (λ (q : List Pending). length (map proposal_of q) + 1) left ∙ length_rest queue some ∙ sym (ap length pending) in
    record {
      numbered = subst (λ (n : ℕ). AreNumbered n rest) (sym count) (subst (AreNumbered (length s.decided + 1)) (sym left) (numbered_rest (length s.decided) queue is.numbered));
      fits = subst (λ (q : List Pending). All (FitsTable new.target) (map proposal_of q)) (sym left) (fits_rest s.target new.target queue devices links (subst (All (FitsTable s.target)) pending is.fits));
      counts = record {
        counted = let counted = is.counts.counted in omega (arith, counted, count, fewer);
        fits = is.counts.fits;
      };
      few = let few = is.few in omega (arith, few, fewer);
      reports = is.reports ∙ (let e : length s.target.devices + length s.target.links ≡ length new.target.devices + length new.target.links = omega (arith, devices, links) in e);
    }

-- a proposal of an application waits where one of its tickets does
pub waits_one : (queue : List Pending) (app : AppId) → list_any (λ (p : Pending). p.app.0 == app.0) queue ≡ list_any (λ (p : Proposal). p.app.0 == app.0) (map proposal_of queue)
waits_one [] app = refl
waits_one (p ∷ queue) app = ap (λ (b : Bool). (p.app.0 == app.0) || b) (waits_one queue app)
