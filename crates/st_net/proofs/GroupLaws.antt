-- The laws of sound groups, from those of lists of links.
use Rattle.std.proofs.Common.{◌≡◌, ℕ, zero, suc, ◌<◌, List, [], ◌∷◌, length, refl, sym, arith}
use Rattle.std.specs.Prelude.{Bool, true, false, slice_index_or}
use Rattle.st_net.specs.declared.promise.Promise.{Promise}
use Rattle.st_net.specs.declared.topo.DeviceOpening.{DeviceOpening}
use Rattle.st_net.specs.Groups.{Group, no_promise, IsPromiseAmong, ArePromises, IsSound}
use Rattle.st_net.specs.Asks.{ask_count, ask_of}
use Rattle.st_net.specs.Cuts.{is_in_least_side}
use Rattle.st_net.specs.Promises.{need_of}
use Rattle.st_net.specs.Laws.{KeepsWithMore, TellsKept, HasLeastCuts, WalksWhereCut, TellsLeastSide, HasOneLeastSide}
use Rattle.st_net.proofs.CutLaws.{Holds-more}
use Rattle.st_net.proofs.WalkLaws.{least_cut-below, least_cut-attained, least_cut-joins, walk-least_cut, is_held-holds, holds-is_held}
use Rattle.st_net.proofs.SideLaws.{least_side-within, least_side-has}

pub keeps_with_more : (g : Group) → KeepsWithMore g
keeps_with_more g up more p within holds = Holds-more g.links (need_of g p) p.a p.b up more within holds

-- promise number i of a sound group
pub promise_at : (devices : List DeviceOpening) (ps : List Promise) (i : ℕ) → ArePromises devices ps → i < length ps → IsPromiseAmong devices (slice_index_or ps i no_promise)
promise_at devices [] i are low = absurd (omega arith)
promise_at devices (p ∷ ps) zero are low = are.0
promise_at devices (p ∷ ps) (suc i) are low = promise_at devices ps i are.1 (omega arith)

-- ask number i of a sound group is between two of its ToRs
pub ask_at : (g : Group) (i : ℕ) → IsSound g → i < ask_count g → IsPromiseAmong g.devices (ask_of g i)
ask_at g i sound low = promise_at g.devices g.promises i sound.promises low

pub tells_kept : (g : Group) → IsSound g → TellsKept g
tells_kept g sound up i low =
    let apart = (ask_at g i sound low).apart in (
      is_held-holds (length g.devices) g.links (need_of g (ask_of g i)) (ask_of g i).a (ask_of g i).b up sound.links apart,
      holds-is_held (length g.devices) g.links (need_of g (ask_of g i)) (ask_of g i).a (ask_of g i).b up sound.links apart,
    )

pub has_least_cuts : (g : Group) → IsSound g → HasLeastCuts g
has_least_cuts g sound up a b apart = record {
  attained = least_cut-attained (length g.devices) g.links up a b apart;
  below = λ side cut. least_cut-below (length g.devices) g.links up a b side sound.links cut;
}

pub walks_where_cut : (g : Group) → IsSound g → WalksWhereCut g
walks_where_cut g sound up a b apart = (
  λ walk. walk-least_cut (length g.devices) g.links up a b walk.0 sound.links apart walk.1,
  least_cut-joins (length g.devices) g.links up a b sound.links,
)

pub tells_least_side : (g : Group) → IsSound g → TellsLeastSide g
tells_least_side g sound up a b d apart low = (
  λ in_side side least. least_side-within (length g.devices) g.links up a b d side sound.links low least.cut least.value in_side,
  λ inmost. least_side-has (length g.devices) g.links up a b d apart (λ side cut value. inmost side (record { cut = cut; value = value })),
)

same_where : (p q : Bool) → (p ≡ true → q ≡ true) → (q ≡ true → p ≡ true) → p ≡ q
same_where true true to from = refl
same_where true false to from = sym (to refl)
same_where false true to from = from refl
same_where false false to from = refl

pub has_one_least_side : (g : Group) → IsSound g → HasOneLeastSide g
has_one_least_side g sound up a b side apart least inmost d low =
    same_where (is_in_least_side (length g.devices) g.links up a b d) (side d)
    (λ in_side. least_side-within (length g.devices) g.links up a b d side sound.links low least.cut least.value in_side)
    (λ has. least_side-has (length g.devices) g.links up a b d apart (λ other cut value. inmost other (record { cut = cut; value = value }) d has))
