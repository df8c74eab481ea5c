-- The plan of an upgrade, as a text of lines.
use Rattle.std.specs.Prelude.{ℕ, ◌+◌, List, [], ◌∷◌, ◌++◌, length, map, flat_map, codes, decimal}
use Rattle.std.specs.List.{range_with_len}
use Rattle.st_text.specs.Words.{text_of}
use Rattle.st_net.specs.declared.entity.Entity.TheVariants.{Device}
use Rattle.st_net.specs.Groups.{Group, name_of}
use Rattle.st_event.specs.History.{History}
use Rattle.st_event.specs.Standing.{standing_of}
use Rattle.st_entry.specs.Causes.{cause_words}
use Rattle.st_entry.specs.Words.{Words, device_words}
use Rattle.st_roll.specs.declared.plan.Batch.{Batch}
use Rattle.st_roll.specs.declared.plan.Left.{Left}
use Rattle.st_roll.specs.declared.plan.Roll.{Roll}
use Rattle.st_roll.specs.declared.plan.Stuck.{Stuck}
use Rattle.st_roll.specs.declared.plan.Why.{Why}
use Rattle.st_roll.specs.declared.plan.Why.TheVariants.{Cause as for_cause, Full}
use Rattle.st_roll.specs.Roll.{roll_of}

-- why a device stayed behind a batch
abbrev pub why_words : Group → List (List ℕ) → Why → Words
why_words g apps (for_cause cause) = cause_words g apps cause
why_words g apps Full = codes "full" ∷ []

-- a device that stayed behind batch n
abbrev pub left_words : Group → List (List ℕ) → ℕ → Left → Words
left_words g apps n left = codes "left" ∷ decimal n ∷ name_of g (Device left.device) ∷ why_words g apps left.why

-- batch n, and a line for each device that it left
abbrev pub batch_lines : Group → List (List ℕ) → ℕ → Batch → List Words
batch_lines g apps n batch = (codes "batch" ∷ decimal n ∷ device_words g batch.devices) ∷ map (left_words g apps n) batch.left

-- batches that are numbered from n on
abbrev pub batches_lines : Group → List (List ℕ) → ℕ → List Batch → List Words
batches_lines g apps n [] = []
batches_lines g apps n (batch ∷ batches) = batch_lines g apps n batch ++ batches_lines g apps (n + 1) batches

-- a device that no batch can take
abbrev pub stuck_words : Group → List (List ℕ) → Stuck → Words
stuck_words g apps stuck = codes "stuck" ∷ name_of g (Device stuck.device) ∷ cause_words g apps stuck.cause

-- a device whose target has the firmware
abbrev pub same_words : Group → ℕ → Words
same_words g device = codes "same" ∷ name_of g (Device device) ∷ []

-- the lines of a plan: the group, the batches from the first on, and the devices that are in none
abbrev pub plan_lines : Group → List (List ℕ) → Roll → List Words
plan_lines g apps roll =
    ((codes "group" ∷ g.name ∷ []) ∷ []) ++
    batches_lines g apps 1 roll.batches ++
    map (stuck_words g apps) roll.stuck ++
    map (same_words g) roll.same

-- the lines of the plan for all devices of a group as its journal leaves it, for an application that there is not: so a lock of any bars it
unfoldable pub roll_lines : List (List ℕ) → ℕ → History → List Words
roll_lines apps firmware h = plan_lines h.group apps (roll_of h.group (standing_of h.group h.past) (record { 0 = length apps }) (range_with_len 0 (length h.group.devices)) firmware)

-- the plans of groups
abbrev pub roll_text_of : List History → List (List ℕ) → ℕ → List ℕ
roll_text_of groups apps firmware = text_of (((codes "statesman" ∷ codes "roll" ∷ codes "1" ∷ []) ∷ []) ++ flat_map (roll_lines apps firmware) groups ++ ((codes "end" ∷ []) ∷ []))
