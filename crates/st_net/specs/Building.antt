-- Inside the crate: how parts become a group. The names with their index, and the faults that are left once no name stands twice.
use Rattle.std.specs.Prelude.{◌≡◌, ◌++◌, ℕ, true, List, Option, Some, None, Result, Ok, Err}
use Rattle.st_net.specs.declared.parts.Parts.{Parts}
use Rattle.st_net.specs.declared.parts.TopoFault.{TopoFault}
use Rattle.st_net.specs.declared.build.Indexed.{Indexed}
use Rattle.st_net.specs.declared.build.Indexed.TheVariants.{Names, Twice}
use Rattle.st_net.specs.Groups.{are_names}
use Rattle.st_net.specs.Faults.{link_names, fault_of, first_twice, fault_or, unknown_of, loop_of, cross_of, limit_of, pair_of}

-- all of these names, each of which is new behind those before it, or the place of the first that is not
abbrev pub IsIndexOf : List (List ℕ) → ℕ → List (List ℕ) → Indexed → Type 0
IsIndexOf before at names (Names indexed) = (first_twice before at names ≡ None) × (indexed ≡ names) × (are_names names ≡ true)
IsIndexOf before at names (Twice place) = first_twice before at names ≡ Some place

-- what is wrong with parts of which no name stands twice
abbrev pub later_fault_of : Parts → Option TopoFault
later_fault_of parts = fault_or (unknown_of parts) (fault_or (loop_of parts) (fault_or (cross_of parts) (fault_or (limit_of parts) (pair_of parts))))

-- the links' names of parts without a fault, which are names as the devices' are, or the fault
abbrev pub HasLinksOf : Parts → List (List ℕ) → Result (List (List ℕ)) TopoFault → Type 0
HasLinksOf parts devices (Ok links) = (links ≡ link_names parts.links) × (are_names (devices ++ links) ≡ true) × (fault_of parts ≡ None)
HasLinksOf parts devices (Err fault) = fault_of parts ≡ Some fault
