-- The asks judged at once in two sets: each after, and each before.
use Rattle.std.specs.Prelude.{ℕ, ◌+◌, ◌-◌, nat_lt, Bool, List, map, if◌then◌else◌}
use Rattle.std.specs.List.{range_with_len}
use Rattle.st_net.specs.declared.entity.Entity.{Entity}
use Rattle.st_net.specs.Groups.{Group}
use Rattle.st_net.specs.Asks.{ask_count, ask_of}
use Rattle.st_net.specs.Promises.{is_kept}

-- whether each ask holds with the second set up, and then whether each holds with the first
abbrev pub held_at : Group → (Entity → Bool) → (Entity → Bool) → ℕ → Bool
held_at g before after k = if nat_lt k (ask_count g) then is_kept g after (ask_of g k) else is_kept g before (ask_of g (k - ask_count g))

abbrev pub held_in_both : Group → (Entity → Bool) → (Entity → Bool) → List Bool
held_in_both g before after = map (held_at g before after) (range_with_len 0 (ask_count g + ask_count g))
