-- Groups with the same network: what is judged of the one holds of the other.
use Rattle.std.proofs.Common.{◌≡◌, ℕ, zero, suc, ◌+◌, ◌*◌, ◌/◌, ◌<◌, ◌≤◌, List, [], ◌∷◌, length, refl, ap, ◌∙◌, arith}
use Rattle.std.specs.Prelude.{Bool, true, not, ◌&&◌, ◌==◌, Some, slice_index_or, if◌then◌else◌}
use Rattle.st_net.specs.declared.entity.Entity.{Entity}
use Rattle.st_net.specs.declared.promise.BrokenKind.TheVariants.{CutOff, Short}
use Rattle.st_net.specs.declared.promise.BrokenOf.TheVariants.{Promise as of_promise}
use Rattle.st_net.specs.declared.promise.Promise.{Promise}
use Rattle.st_net.specs.Cuts.{least_cut, is_in_least_side, numbers_in}
use Rattle.st_net.specs.Groups.{Group}
use Rattle.st_net.specs.Asks.{asks}
use Rattle.st_net.specs.Promises.{is_held, is_kept, broken_at, first_broken}
use Rattle.st_promise.specs.Same.{HasSameNetwork}

-- lists that are the same place by place
pub same_by_place : {X : Type 0} (past_end : X) (xs ys : List X) (n : ℕ) → length xs ≡ length ys → length xs ≤ n → ((k : ℕ) → k < n → slice_index_or xs k past_end ≡ slice_index_or ys k past_end) → xs ≡ ys
same_by_place past_end [] [] n count past same = refl
same_by_place past_end [] (y ∷ ys) n count past same = absurd (omega (arith, count))
same_by_place past_end (x ∷ xs) [] n count past same = absurd (omega (arith, count))
same_by_place past_end (x ∷ xs) (y ∷ ys) zero count past same = absurd (omega (arith, past))
same_by_place past_end (x ∷ xs) (y ∷ ys) (suc n) count past same =
    let first : x ≡ y = same zero (omega arith) in
    let rest = same_by_place past_end xs ys n (omega (arith, count)) (omega (arith, past)) (λ k low. same (suc k) (omega (arith, low))) in
    λ i. first i ∷ rest i

-- the same is asked of both
pub same_asks : (g h : Group) → HasSameNetwork g h → asks g ≡ asks h
same_asks g h same = same.promises

-- an ask holds in the one exactly where it does in the other
pub same_kept : (g h : Group) (up : Entity → Bool) (p : Promise) → HasSameNetwork g h → is_kept g up p ≡ is_kept h up p
same_kept g h up p same = λ i. is_held (same.devices i) (same.links i) ((p.percent * least_cut (same.devices i) (same.links i) (λ e. true) p.a p.b + 99) / 100) p.a p.b up

-- and is broken in the same way
same_break : (g h : Group) (up : Entity → Bool) (k : ℕ) (p : Promise) → HasSameNetwork g h → broken_at g up k p ≡ broken_at h up k p
same_break g h up k p same = λ i. record {
  of = of_promise k;
  kind = if least_cut (same.devices i) (same.links i) up p.a p.b == 0 then CutOff else Short;
  need = (p.percent * least_cut (same.devices i) (same.links i) (λ e. true) p.a p.b + 99) / 100;
  has = least_cut (same.devices i) (same.links i) up p.a p.b;
  side = numbers_in (same.devices i) (is_in_least_side (same.devices i) (same.links i) up p.a p.b);
}

same_first_of : (g h : Group) (before after : Entity → Bool) (k : ℕ) (ps : List Promise) → HasSameNetwork g h → first_broken g before after k ps ≡ first_broken h before after k ps
same_first_of g h before after k [] same = refl
same_first_of g h before after k (p ∷ ps) same =
    let was = same_kept g h before p same in
    let is = same_kept g h after p same in
    let here = same_break g h after k p same in
    let rest = same_first_of g h before after (k + 1) ps same in
    λ i. if was i && not (is i) then Some (here i) else rest i

-- the same promise is the first that breaks
pub same_first : (g h : Group) (before after : Entity → Bool) → HasSameNetwork g h → first_broken g before after 0 g.promises ≡ first_broken h before after 0 h.promises
same_first g h before after same = same_first_of g h before after 0 g.promises same ∙ ap (first_broken h before after 0) same.promises
