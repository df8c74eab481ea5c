use Rattle.std.proofs.Common.{◌≡◌, ℕ, ◌<◌, ◌≤◌, length, map, get_or}
use Rattle.st_service.specs.Closed.{Stands}
use Rattle.st_service.specs.Lines.{flat}
use Rattle.st_service.proofs.close.hand_in.Given as goal

-- the pass stands in the rooms so far, its places in the others are as they were, and so are the rooms' lines
abbrev pub invariant-loop-group : goal.invariant-loop-group
invariant-loop-group g l = record {
  count : length l.places.items ≡ length l.initial.places.items;
  left : (j : ℕ) (d : _) → l.group ≤ j → get_or l.places.items j d ≡ get_or l.initial.places.items j d;
  groups : map (λ s. s.group) l.shut ≡ map (λ s. s.group) l.initial.shut;
  lines : map (λ s. s.line) l.shut ≡ map (λ s. s.line) l.initial.shut;
  stands : (k : ℕ) (d : _) → k < l.group → Stands l.fn.pass (flat (get_or l.initial.shut k d).line.log) k;
}
