-- The proposals that wait go on to fit the group, and the store to be one of the group.
use Rattle.std.proofs.Common.{◌≡◌, ℕ, zero, suc, ◌<◌, List, [], ◌∷◌, drop, get_or, subst, sym, arith}
use Rattle.std.specs.Prelude.{Bool, Result, Ok, Err, IfOk, OnErr, All}
use Rattle.std.proofs.lemmas.List.Elements.{All-append}
use Rattle.st_net.specs.Groups.{Group}
use Rattle.st_event.specs.declared.event.Proposal.{Proposal}
use Rattle.st_store.specs.declared.pending.Put.{Put}
use Rattle.st_store.specs.declared.pending.Put.TheVariants.{Ticket, Full}
use Rattle.st_store.specs.Store.{StoreView, IsStoreOf, Decides, store_put}
use Rattle.st_control.specs.Inside.{FitsGroup}

-- what a checker keeps of its store
pub record IsStoreFor (g : Group) (s : StoreView) : Type 0 where
  pub of : IsStoreOf g s
  pub fits : All (FitsGroup g) s.pending

all_rest : {X : Type 0} (P : X → Type 0) (xs : List X) → All P xs → All P (drop 1 xs)
all_rest P [] all = λ k d lt. absurd (omega arith)
all_rest P (x ∷ xs) all = λ k d lt. all (suc k) d (omega arith)

all_one : {X : Type 0} (P : X → Type 0) (x : X) → P x → (k : ℕ) (d : X) → k < 1 → P (get_or (x ∷ []) k d)
all_one P x holds zero d lt = holds
all_one P x holds (suc k) d lt = absurd (omega arith)

-- after a decision
pub store_decided : (g : Group) (old new : StoreView) (entry : ℕ) (accept : Bool) → IsStoreOf g old → All (FitsGroup g) old.pending → Decides old new entry accept → IsStoreFor g new
store_decided g old new entry accept of fits decides = record {
  of = decides.of g of;
  fits = subst (All (FitsGroup g)) (sym decides.pending) (all_rest (FitsGroup g) old.pending fits);
}

answered : (g : Group) (put : Put) (old : StoreView) (p : Proposal) → IsStoreOf g old → All (FitsGroup g) old.pending → FitsGroup g p → IsStoreFor g (store_put put old p)
answered g (Ticket ticket) old p of fits one = record { of = record { table = of.table; reports = of.reports }; fits = All-append (FitsGroup g) old.pending (p ∷ []) fits (all_one (FitsGroup g) p one) }
answered g (Full pending) old p of fits one = record { of = of; fits = fits }

-- and after a proposal, also where it is refused for memory
pub store_after_put : {E : Type 0} (g : Group) (old new : StoreView) (p : Proposal) (result : Result Put E) → IsStoreOf g old → All (FitsGroup g) old.pending → FitsGroup g p → IfOk result (λ put. new ≡ store_put put old p) → OnErr result (new ≡ old) → IsStoreFor g new
store_after_put g old new p (Ok put) of fits one is err = subst (IsStoreFor g) (sym is) (answered g put old p of fits one)
store_after_put g old new p (Err e) of fits one is err = subst (IsStoreFor g) (sym err) (record { of = of; fits = fits })
