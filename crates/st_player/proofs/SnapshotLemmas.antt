-- Promises that were judged in a set, seen of the same group and the same set.
use Rattle.std.proofs.Common.{◌≡◌, Bool, sym, subst}
use Rattle.st_net.specs.declared.entity.Entity.{Entity}
use Rattle.st_net.specs.Groups.{Group}
use Rattle.st_net.specs.Sets.{is_in}
use Rattle.st_player.specs.declared.snapshot.Held.{Held}
use Rattle.st_player.specs.Steps.{IsHeld}

pub held_of : (g h : Group) (up other : Entity → Bool) (held : Held) → g ≡ h → up ≡ other → IsHeld g up held → IsHeld h other held
held_of g h up other held group set is = subst (λ (k : Group). IsHeld k other held) group (subst (λ (u : Entity → Bool). IsHeld g u held) set is)

pub held_in_own : (g h : Group) (up : Entity → Bool) (held : Held) → g ≡ h → IsHeld g up held → IsHeld h (is_in held.up) held
held_in_own g h up held group is = held_of g h up (is_in held.up) held group (sym is.up_is) is
