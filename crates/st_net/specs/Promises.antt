-- When a promise holds: a walk joins its pair, and every cut of the pair has the value that it needs.
use Rattle.std.specs.Prelude.{ℕ, ◌+◌, ◌*◌, ◌/◌, ◌≤◌, max, Bool, true, not, ◌&&◌, ◌==◌, nat_le, List, [], ◌∷◌, length, Option, Some, None, if◌then◌else◌}
use Rattle.st_net.specs.declared.entity.Entity.{Entity}
use Rattle.st_net.specs.declared.topo.LinkOpening.{LinkOpening}
use Rattle.st_net.specs.declared.promise.Promise.{Promise}
use Rattle.st_net.specs.declared.promise.BrokenKind.TheVariants.{CutOff, Short}
use Rattle.st_net.specs.declared.promise.BrokenOf.TheVariants.{Promise as of_promise}
use Rattle.st_net.specs.declared.promise.Broken.{Broken}
use Rattle.st_net.specs.Groups.{Group}
use Rattle.st_net.specs.UpGraph.{IsWalk}
use Rattle.st_net.specs.Cuts.{IsCut, cut_value, least_cut, is_in_least_side, numbers_in}

-- a walk joins the pair, and each cut of it has at least the value need
pub record Holds (links : List LinkOpening) (need a b : ℕ) (up : Entity → Bool) : Type 0 where
  pub walk : List ℕ
  pub joins : IsWalk links up a walk b
  pub cuts : (side : ℕ → Bool) → IsCut side a b → need ≤ cut_value links up side

-- whether a promise of this need holds: some link crosses each cut, and what crosses is no less than the need
abbrev pub is_held : ℕ → List LinkOpening → ℕ → ℕ → ℕ → (Entity → Bool) → Bool
is_held n links need a b up = nat_le (max 1 need) (least_cut n links up a b)

-- the least value that a cut of the promise's pair has to have: its percentage of the least cut with all up, rounded up
abbrev pub need_of : Group → Promise → ℕ
need_of g p = (p.percent * least_cut (length g.devices) g.links (λ e. true) p.a p.b + 99) / 100

-- the promise holds while these entities are up
abbrev pub Keeps : Group → (Entity → Bool) → Promise → Type 0
Keeps g up p = Holds g.links (need_of g p) p.a p.b up

-- the same as a test
abbrev pub is_kept : Group → (Entity → Bool) → Promise → Bool
is_kept g up p = is_held (length g.devices) g.links (need_of g p) p.a p.b up

-- how promise number i is broken with these entities up
abbrev pub broken_at : Group → (Entity → Bool) → ℕ → Promise → Broken
broken_at g up i p = record {
  of = of_promise i;
  kind = if least_cut (length g.devices) g.links up p.a p.b == 0 then CutOff else Short;
  need = need_of g p;
  has = least_cut (length g.devices) g.links up p.a p.b;
  side = numbers_in (length g.devices) (is_in_least_side (length g.devices) g.links up p.a p.b);
}

-- whether a promise holds with the first set up, and not with the second
abbrev pub is_broken : Group → (Entity → Bool) → (Entity → Bool) → Promise → Bool
is_broken g before after p = is_kept g before p && not (is_kept g after p)

-- the first promise that is broken so, of promises that are numbered from i
abbrev pub first_broken : Group → (Entity → Bool) → (Entity → Bool) → ℕ → List Promise → Option Broken
first_broken g before after i [] = None
first_broken g before after i (p ∷ ps) = if is_broken g before after p then Some (broken_at g after i p) else first_broken g before after (i + 1) ps
