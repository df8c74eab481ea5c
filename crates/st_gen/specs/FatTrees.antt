-- A fat tree: pods, each of ToRs and aggregation switches, under core switches.
use Rattle.std.specs.Prelude.{ℕ, ◌+◌, ◌*◌, ◌/◌, List, [], ◌∷◌, ◌++◌, map, flat_map, Bool, true, false, None, codes}
use Rattle.std.specs.List.{range_with_len}
use Rattle.st_net.specs.declared.parts.DevicePart.{DevicePart}
use Rattle.st_net.specs.declared.parts.EndPart.{EndPart}
use Rattle.st_net.specs.declared.parts.LinkPart.{LinkPart}
use Rattle.st_net.specs.declared.parts.Parts.{Parts}
use Rattle.st_net.specs.declared.parts.PromisePart.{PromisePart}
use Rattle.st_net.specs.Faults.{plain_parts}
use Rattle.st_grammar.specs.Draft.{device_default, link_default}
use Rattle.st_gen.specs.TreeNames.{name_at}
use Rattle.st_gen.specs.declared.step.Step.{Step}
use Rattle.st_gen.specs.declared.step.Step.TheVariants.{Pod, Tor, Aggregation, Core}

-- the numbers below n, in order
abbrev pub numbers : ℕ → List ℕ
numbers n = range_with_len 0 n

-- a pod has half as many ToRs as there are pods, and as many aggregation switches
abbrev pub half : ℕ → ℕ
half pods = pods / 2

-- the steps to ToR i and to aggregation switch j of pod p, and to core switch n
abbrev pub tor_at : ℕ → ℕ → List Step
tor_at p i = Pod p ∷ Tor i ∷ []

abbrev pub aggregation_at : ℕ → ℕ → List Step
aggregation_at p j = Pod p ∷ Aggregation j ∷ []

abbrev pub core_at : ℕ → List Step
core_at n = Core n ∷ []

-- a device as it opens by default
abbrev pub device : Bool → List Step → DevicePart
device is_tor steps = record { name = name_at steps; tor = is_tor; vals = device_default; health = 5 }

abbrev pub tor : ℕ → ℕ → DevicePart
tor p i = device true (tor_at p i)

abbrev pub aggregation : ℕ → ℕ → DevicePart
aggregation p j = device false (aggregation_at p j)

abbrev pub core : ℕ → DevicePart
core n = device false (core_at n)

-- a pod's ToRs, then its aggregation switches
abbrev pub pod_devices : ℕ → ℕ → List DevicePart
pod_devices h p = map (tor p) (numbers h) ++ map (aggregation p) (numbers h)

-- the devices pod by pod, then the core switches
abbrev pub devices : ℕ → List DevicePart
devices pods = flat_map (pod_devices (half pods)) (numbers pods) ++ map core (numbers (half pods * half pods))

-- a link of capacity 10 as it opens by default: the steps to it, and those to its ends
abbrev pub end : List Step → EndPart
end steps = record { group = None; name = name_at steps }

abbrev pub link : List Step → List Step → List Step → LinkPart
link steps a b = record { name = name_at steps; a = end a; b = end b; capacity = 10; vals = link_default; health = 1 }

-- between ToR i and aggregation switch j of pod p; between that switch and core switch number m of those that it is linked to
abbrev pub tor_link : ℕ → ℕ → ℕ → LinkPart
tor_link p i j = link (Pod p ∷ Tor i ∷ Aggregation j ∷ []) (tor_at p i) (aggregation_at p j)

abbrev pub core_link : ℕ → ℕ → ℕ → ℕ → LinkPart
core_link h p j m = link (Pod p ∷ Aggregation j ∷ Core (j * h + m) ∷ []) (aggregation_at p j) (core_at (j * h + m))

-- each ToR is linked to each aggregation switch of its pod, and aggregation switch j to h core switches, from number j * h on
abbrev pub tor_links : ℕ → ℕ → ℕ → List LinkPart
tor_links h p i = map (tor_link p i) (numbers h)

abbrev pub core_links : ℕ → ℕ → ℕ → List LinkPart
core_links h p j = map (core_link h p j) (numbers h)

abbrev pub pod_links : ℕ → ℕ → List LinkPart
pod_links h p = flat_map (tor_links h p) (numbers h) ++ flat_map (core_links h p) (numbers h)

abbrev pub links : ℕ → List LinkPart
links pods = flat_map (pod_links (half pods)) (numbers pods)

-- the names of the ToRs, in the order of devices
abbrev pub tor_name : ℕ → ℕ → List ℕ
tor_name p i = name_at (tor_at p i)

abbrev pub pod_tor_names : ℕ → ℕ → List (List ℕ)
pod_tor_names h p = map (tor_name p) (numbers h)

abbrev pub tor_names : ℕ → List (List ℕ)
tor_names pods = flat_map (pod_tor_names (half pods)) (numbers pods)

-- each of these is promised half of what it can exchange with each later one
abbrev pub promise : List ℕ → List ℕ → PromisePart
promise a b = record { a = a; b = b; percent = 50 }

abbrev pub promises_among : List (List ℕ) → List PromisePart
promises_among [] = []
promises_among (a ∷ later) = map (promise a) later ++ promises_among later

abbrev pub fat_tree : ℕ → Parts
fat_tree pods = plain_parts (codes "dc1") (devices pods) (links pods) (promises_among (tor_names pods))
