-- How much of an entity works, and whether it carries traffic.
use Rattle.std.specs.Prelude.{ℕ, ◌==◌, ◌&&◌, ◌||◌, Bool, min, if◌then◌else◌}
use Rattle.st_net.specs.declared.entity.Entity.{Entity}
use Rattle.st_net.specs.declared.entity.Entity.TheVariants.{Device, Link}
use Rattle.st_net.specs.declared.entity.Vals.{Vals}

-- the working level: that of the health, and while it is busy or off no more than what power alone gives
abbrev pub level_of : Entity → Vals → ℕ → Bool → ℕ
level_of (Device i) vals health busy = if busy || vals.v0 == 0 then min health 1 else health
level_of (Link i) vals health busy = if busy || vals.v0 == 0 then 0 else health

-- whether an entity with these values and this level carries traffic
abbrev pub carries : Entity → Vals → ℕ → Bool
carries (Device i) vals level = vals.v0 == 1 && vals.v3 == 1 && level == 5
carries (Link i) vals level = vals.v0 == 1 && level == 1
