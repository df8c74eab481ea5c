-- More entities keep a promise, and the least cut is one.
use Rattle.std.proofs.Common.{◌≡◌, ℕ, zero, suc, ◌+◌, ◌<◌, ◌≤◌, List, [], ◌∷◌, refl, ap, ◌∙◌, arith}
use Rattle.std.specs.Prelude.{Bool, true, false, ◌&&◌, nat_le, nat_lt, min, if◌then◌else◌, slice_index_or}
use Rattle.std.proofs.lemmas.Bool.Decides.{nat_tests}
use mathlib.Core.Path.{fun_ext}
use Rattle.st_net.specs.declared.entity.Entity.{Entity}
use Rattle.st_net.specs.declared.entity.Entity.TheVariants.{Device, Link}
use Rattle.st_net.specs.declared.topo.LinkOpening.{LinkOpening}
use Rattle.st_net.specs.Groups.{no_link}
use Rattle.st_net.specs.UpGraph.{is_up_link, IsWalk}
use Rattle.st_net.specs.Cuts.{is_crossing, cut_value_from, with_number, least_over}
use Rattle.st_net.specs.Promises.{Holds}
use Rattle.st_net.specs.Sets.{IsWithin}
use Rattle.st_net.proofs.Tests.{both}

up_more : (up more : Entity → Bool) (i : ℕ) (link : LinkOpening) → IsWithin up more → is_up_link up i link ≡ true → is_up_link more i link ≡ true
up_more up more i link within is_up =
    let ends = both (up (Link i) && up (Device link.a)) (up (Device link.b)) is_up in
    let first = both (up (Link i)) (up (Device link.a)) ends.0 in
    rw (within (Link i) first.0, within (Device link.a) first.1, within (Device link.b) ends.1) refl

part_more : (p q c : Bool) (n : ℕ) → (p ≡ true → q ≡ true) → (if p && c then n else 0) ≤ (if q && c then n else 0)
part_more false q c n more = omega arith
part_more true q c n more = rw (more refl) (omega arith)

cut_more : (i : ℕ) (links : List LinkOpening) (up more : Entity → Bool) (side : ℕ → Bool) → IsWithin up more → cut_value_from i links up side ≤ cut_value_from i links more side
cut_more i [] up more side within = omega arith
cut_more i (link ∷ links) up more side within =
    let rest = cut_more (i + 1) links up more side within in
    let part = part_more (is_up_link up i link) (is_up_link more i link) (is_crossing side link) link.capacity (up_more up more i link within) in
    omega (arith, part, rest)

walk_more : (links : List LinkOpening) (up more : Entity → Bool) (a : ℕ) (walk : List ℕ) (b : ℕ) → IsWithin up more → IsWalk links up a walk b → IsWalk links more a walk b
walk_more links up more a [] b within is = is
walk_more links up more a (i ∷ walk) b within is = (is.0, record { within = is.1.within; is_up = up_more up more i (slice_index_or links i no_link) within is.1.is_up; ends = is.1.ends }, walk_more links up more is.0 walk b within is.2)

-- a promise that holds goes on to hold with more entities up
pub Holds-more : (links : List LinkOpening) (need a b : ℕ) (up more : Entity → Bool) → IsWithin up more → Holds links need a b up → Holds links need a b more
Holds-more links need a b up more within holds = record {
  walk = holds.walk;
  joins = walk_more links up more a holds.walk b within holds.joins;
  cuts = λ side cut. let most = holds.cuts side cut in let grows = cut_more 0 links up more side within in omega (arith, most, grows);
}

-- the least is one of them
least_of_two : (f : (ℕ → Bool) → ℕ) (m k : ℕ) → ((side : ℕ → Bool) × (m ≡ f side)) → ((side : ℕ → Bool) × (k ≡ f side)) → (b : Bool) → b ≡ nat_le m k → (side : ℕ → Bool) × (min m k ≡ f side)
least_of_two f m k x y true is = (x.0, let low : min m k ≡ m = grind (arith, nat_tests) in low ∙ x.1)
least_of_two f m k x y false is = (y.0, let low : min m k ≡ k = grind (arith, nat_tests) in low ∙ y.1)

pub least_over-attained : (n : ℕ) (f : (ℕ → Bool) → ℕ) → (side : ℕ → Bool) × (least_over n f ≡ f side)
least_over-attained zero f = (λ d. false, refl)
least_over-attained (suc n) f =
    let more = least_over-attained n (λ side. f (with_number side n)) in
    least_of_two f (least_over n f) (least_over n (λ side. f (with_number side n))) (least_over-attained n f) (with_number more.0 n, more.1) (nat_le (least_over n f) (least_over n (λ side. f (with_number side n)))) refl

-- the numbers of a set that are below n
abbrev pub clip : ℕ → (ℕ → Bool) → ℕ → Bool
clip n side d = if nat_lt d n then side d else false

pub clip_none : (side : ℕ → Bool) (d : ℕ) → false ≡ clip zero side d
clip_none side d = grind (arith, nat_tests)

pub clip_in : (n : ℕ) (side : ℕ → Bool) → side n ≡ true → (d : ℕ) → with_number (clip n side) n d ≡ clip (suc n) side d
clip_in n side is d = grind (arith, nat_tests)

pub clip_out : (n : ℕ) (side : ℕ → Bool) → side n ≡ false → (d : ℕ) → clip n side d ≡ clip (suc n) side d
clip_out n side is d = grind (arith, nat_tests)

below_clip_at : (n : ℕ) (f : (ℕ → Bool) → ℕ) (side : ℕ → Bool) (b : Bool) → side n ≡ b → least_over n f ≤ f (clip n side) → least_over n (λ s. f (with_number s n)) ≤ f (with_number (clip n side) n) → least_over (suc n) f ≤ f (clip (suc n) side)
below_clip_at n f side true is without with_it = let same = ap f (fun_ext (clip_in n side is)) in omega (arith, same)
below_clip_at n f side false is without with_it = let same = ap f (fun_ext (clip_out n side is)) in omega (arith, same)

below_clip : (n : ℕ) (f : (ℕ → Bool) → ℕ) (side : ℕ → Bool) → least_over n f ≤ f (clip n side)
below_clip zero f side = let same = ap f (fun_ext (clip_none side)) in omega (arith, same)
below_clip (suc n) f side = below_clip_at n f side (side n) refl (below_clip n f side) (below_clip n (λ s. f (with_number s n)) side)

-- none is below it, where what f gives rests on the numbers below n
pub least_over-below : (n : ℕ) (f : (ℕ → Bool) → ℕ) (side : ℕ → Bool) → ((s t : ℕ → Bool) → ((d : ℕ) → d < n → s d ≡ t d) → f s ≡ f t) → least_over n f ≤ f side
least_over-below n f side rests =
    let same = rests (clip n side) side (λ d low. grind (arith, nat_tests)) in
    let below = below_clip n f side in
    omega (arith, same)

-- so a value that is attained and that none is below is the least
pub least_over-is : (n : ℕ) (f : (ℕ → Bool) → ℕ) (value : ℕ) (side : ℕ → Bool) → ((s t : ℕ → Bool) → ((d : ℕ) → d < n → s d ≡ t d) → f s ≡ f t) → f side ≡ value → ((s : ℕ → Bool) → value ≤ f s) → least_over n f ≡ value
least_over-is n f value side rests attained least =
    let low = least_over-below n f side rests in
    let some = least_over-attained n f in
    let high = least some.0 in
    omega (arith, attained, some.1)
