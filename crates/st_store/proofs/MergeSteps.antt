-- A store's versions after a list of accepted proposals and withdrawals.
use Rattle.std.proofs.Common.{◌≡◌, ℕ, ◌+◌, ◌≤◌, List, [], ◌∷◌, ◌++◌, length, take, refl, sym, ap, ◌∙◌, subst, inl, inr, arith, append_assoc, append-nil}
use Rattle.std.specs.Prelude.{Bool, true, false, nat_le, if◌then◌else◌, ◌⊎◌}
use Rattle.std.proofs.lemmas.List.{length-append, take-append-le, take_all}
use Rattle.std.proofs.Math.Seq.{take-nil}
use Rattle.st_net.specs.declared.entity.Entity.{Entity}
use Rattle.st_net.specs.declared.entity.Row.{Row}
use Rattle.st_net.specs.declared.entity.Var.{Var}
use Rattle.st_net.specs.Groups.{Group}
use Rattle.st_net.specs.Merge.{merge_of, target_with}
use Rattle.st_event.specs.Proposals.{first_rows}
use Rattle.st_net.proofs.MergeLaws.{merge_of-push_all}
use Rattle.st_overlay.specs.Values.{value_in}
use Rattle.st_store.specs.Changes.{value_at, values_with}
use Rattle.st_store.specs.Store.{StoreView, IsStart, Decides, Withdraws}
use Rattle.st_store.specs.Laws.{Accepts, HasMerged, KeepsVersions, ComesBy, MakesOne}
use Rattle.st_net.proofs.Tests.{at_most_is, more_is}

-- nothing is merged at the start
pub HasMerged-start : (g : Group) (s : StoreView) → IsStart g s → HasMerged g [] s
HasMerged-start g s is = record {
  version = is.version;
  target = is.target;
  versions = λ v. ap (λ (values : ℕ → Entity → Var → ℕ). values v) is.versions ∙ ap (merge_of g) (sym (take-nil v));
}

-- one overlay more
pub HasMerged-overlay : (g : Group) (overlays : List (List Row)) (old new : StoreView) (rows : List Row) → HasMerged g overlays old → new.version ≡ old.version + 1 → value_in new.target ≡ target_with (value_in old.target) rows → value_at new.versions ≡ values_with (value_at old.versions) old.version rows → HasMerged g (overlays ++ rows ∷ []) new
HasMerged-overlay g overlays old new rows was version target versions = record {
  version = version ∙ ap (λ (n : ℕ). n + 1) was.version ∙ sym (length-append overlays (rows ∷ []));
  target = target ∙ ap (λ (target : Entity → Var → ℕ). target_with target rows) was.target ∙ sym (merge_of-push_all g overlays rows);
  versions = λ v. ap (λ (values : ℕ → Entity → Var → ℕ). values v) versions ∙ by_version v (nat_le v old.version) refl;
}
  where
    by_version : (v : ℕ) (b : Bool) → nat_le v old.version ≡ b → (if b then value_at old.versions v else target_with (value_at old.versions old.version) rows) ≡ merge_of g (take v (overlays ++ rows ∷ []))
    by_version v true le =
        let few : v ≤ length overlays = let version = was.version in let l = at_most_is v old.version le in omega (arith, l, version) in
        was.versions v ∙ ap (merge_of g) (sym (take-append-le v overlays (rows ∷ []) few))
    by_version v false gt =
        let all : take old.version overlays ≡ overlays = take_all old.version overlays (let version = was.version in omega (arith, version)) in
        let more : take v (overlays ++ rows ∷ []) ≡ overlays ++ rows ∷ [] = take_all v (overlays ++ rows ∷ []) (let version = was.version in let l = more_is v old.version gt in let n = length-append overlays (rows ∷ []) in omega (arith, l, version, n)) in
        ap (λ (target : Entity → Var → ℕ). target_with target rows) (was.versions old.version ∙ ap (merge_of g) all)
        ∙ sym (merge_of-push_all g overlays rows)
        ∙ ap (merge_of g) (sym more)

-- one proposal more, and one withdrawal more
HasMerged-accept : (g : Group) (overlays : List (List Row)) (old new : StoreView) (entry : ℕ) → HasMerged g overlays old → Decides old new entry true → HasMerged g (overlays ++ first_rows old.pending ∷ []) new
HasMerged-accept g overlays old new entry was step = HasMerged-overlay g overlays old new (first_rows old.pending) was step.version step.target step.versions

pub HasMerged-withdraw : (g : Group) (overlays : List (List Row)) (old new : StoreView) (rows : List Row) → HasMerged g overlays old → Withdraws old new rows → HasMerged g (overlays ++ rows ∷ []) new
HasMerged-withdraw g overlays old new rows was step = HasMerged-overlay g overlays old new rows was step.version step.target step.versions

-- none more
pub HasMerged-keep : (g : Group) (accepted : List (List Row)) (old new : StoreView) → HasMerged g accepted old → KeepsVersions old new → HasMerged g accepted new
HasMerged-keep g accepted old new was same = record {
  version = same.version ∙ was.version;
  target = same.target ∙ was.target;
  versions = λ v. ap (λ (values : ℕ → Entity → Var → ℕ). values v) same.versions ∙ was.versions v;
}

-- the accepted proposals after a decision
abbrev pub accepted_after : Bool → List (List Row) → List Row → List (List Row)
accepted_after accept accepted rows = if accept then accepted ++ rows ∷ [] else accepted

-- what a decision makes of them
pub HasMerged-decide : (g : Group) (accepted : List (List Row)) (old new : StoreView) (entry : ℕ) (accept : Bool) → HasMerged g accepted old → Decides old new entry accept → HasMerged g (accepted_after accept accepted (first_rows old.pending)) new
HasMerged-decide g accepted old new entry true was step = HasMerged-accept g accepted old new entry was step
HasMerged-decide g accepted old new entry false was step = HasMerged-keep g accepted old new was (record { version = step.version; target = step.target; versions = step.versions })

HasMerged-step : (g : Group) (overlays : List (List Row)) (old new : StoreView) (rows : List Row) → HasMerged g overlays old → (Accepts old new rows ⊎ Withdraws old new rows) → HasMerged g (overlays ++ rows ∷ []) new
HasMerged-step g overlays old new rows was (inl accepts) = subst (λ (rows : List Row). HasMerged g (overlays ++ rows ∷ []) new) accepts.oldest (HasMerged-accept g overlays old new accepts.entry was accepts.decision)
HasMerged-step g overlays old new rows was (inr withdraws) = HasMerged-withdraw g overlays old new rows was withdraws

HasMerged-comes : (g : Group) (before overlays : List (List Row)) (old new : StoreView) → HasMerged g before old → ComesBy old overlays new → HasMerged g (before ++ overlays) new
HasMerged-comes g before [] old new was comes = subst (λ (all : List (List Row)). HasMerged g all new) (sym (append-nil before)) (HasMerged-keep g before old new was comes)
HasMerged-comes g before (rows ∷ later) old new was comes =
    let one = HasMerged-step g before comes.0 comes.1 rows (HasMerged-keep g before old comes.0 was comes.2) comes.3 in
    subst (λ (all : List (List Row)). HasMerged g all new) (append_assoc before (rows ∷ []) later) (HasMerged-comes g (before ++ rows ∷ []) later comes.1 new one comes.4)

-- all that were merged since the start
pub merged_of : (g : Group) (start s : StoreView) (accepted : List (List Row)) → IsStart g start → ComesBy start accepted s → HasMerged g accepted s
merged_of g start s accepted is comes = HasMerged-comes g [] accepted start s (HasMerged-start g start is) comes

-- there are no more versions than entries

one_more : (accept : Bool) (n most : ℕ) → n ≤ most → (if accept then n + 1 else n) ≤ most + 1
one_more true n most few = omega (arith, few)
one_more false n most few = omega (arith, few)

pub makes_one : (old new : StoreView) (entry : ℕ) (accept : Bool) → Decides old new entry accept → MakesOne old new
makes_one old new entry accept step = record { entries = λ n few. let most = one_more accept old.version n few in let version = step.version in omega (arith, most, version) }

pub withdrawal_makes_one : (old new : StoreView) (rows : List Row) → Withdraws old new rows → MakesOne old new
withdrawal_makes_one old new rows step = record { entries = λ n few. let version = step.version in omega (arith, few, version) }
