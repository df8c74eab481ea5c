-- The scripts of the two applications on a fat tree.
use Rattle.std.specs.Prelude.{ℕ, ◌+◌, ◌*◌, ◌%◌, List, [], ◌∷◌, ◌++◌, map, flat_map, codes}
use Rattle.st_net.specs.declared.entity.Entity.TheVariants.{Device}
use Rattle.st_net.specs.declared.entity.Prio.TheVariants.{High}
use Rattle.st_net.specs.declared.entity.Row.{Row}
use Rattle.st_net.specs.declared.entity.Var.TheVariants.{Firmware}
use Rattle.st_event.specs.declared.act.Act.{Act}
use Rattle.st_event.specs.declared.act.Act.TheVariants.{Propose, Await, Settle, Lock, Unlock, Read}
use Rattle.st_grammar.specs.declared.doc.Script.{Script}
use Rattle.st_gen.specs.FatTrees.{numbers, half}

-- the numbers of devices: aggregation switch j of pod p stands behind the pods before it and the ToRs of its own, and core switch 0 behind all pods
abbrev pub aggregation_number : ℕ → ℕ → ℕ → ℕ
aggregation_number h p j = p * (2 * h) + h + j

abbrev pub first_core : ℕ → ℕ
first_core pods = pods * (2 * half pods)

-- the firmware that a seed chooses
abbrev pub upgrade : ℕ → ℕ
upgrade seed = 2 + seed % 1000

-- a new firmware of aggregation switch j of pod p
abbrev pub firmware_row : ℕ → ℕ → ℕ → ℕ → Row
firmware_row h value p j = record { entity = Device (aggregation_number h p j); var = Firmware; value = value }

abbrev pub stage_row : ℕ → ℕ → ℕ → ℕ → Row
stage_row h value j p = firmware_row h value p j

abbrev pub stage_rows : ℕ → ℕ → ℕ → List Row
stage_rows pods value j = map (stage_row (half pods) value j) (numbers pods)

abbrev pub pod_rows : ℕ → ℕ → ℕ → List Row
pod_rows pods value p = map (firmware_row (half pods) value p) (numbers (half pods))

-- aggregation switch j of each pod gets the firmware, and the next stage waits until all entities are settled
abbrev pub stage : ℕ → ℕ → ℕ → List Act
stage pods value j = Propose 0 (stage_rows pods value j) ∷ Await 0 ∷ Settle 0 2 ∷ []

-- all aggregation switches of one pod get it at once
abbrev pub whole_pod : ℕ → ℕ → ℕ → List Act
whole_pod pods value p = Propose 0 (pod_rows pods value p) ∷ Await 0 ∷ []

-- the upgrade by stages, and then the next firmware on one pod, which the seed chooses
abbrev pub upgrader : ℕ → ℕ → Script
upgrader pods seed = record {
  name = codes "up";
  acts = flat_map (stage pods (upgrade seed)) (numbers (half pods)) ++ whole_pod pods (upgrade seed + 1) (seed % pods);
}

-- traffic engineering, which reads a firmware while it holds the first core switch
abbrev pub engineer : ℕ → Script
engineer pods = record {
  name = codes "te";
  acts = Lock 0 (Device (first_core pods)) High ∷ Read 0 (Device (aggregation_number (half pods) 0 0)) Firmware ∷ Unlock 0 (Device (first_core pods)) High ∷ [];
}
