-- How many messages arrive at a turn.
use Rattle.std.proofs.Common.{ℕ, suc, ◌+◌, ◌≤◌, List, [], ◌∷◌, length, Option, Some, None, arith, length-append}
use Rattle.std.specs.Prelude.{Bool, true, false, if◌then◌else◌}
use Rattle.std.specs.List.{list_any, filter_map, cons_option}
use Rattle.st_wire.specs.declared.line.WireKind.{WireKind}
use Rattle.st_wire.specs.declared.line.WireLine.{WireLine}
use Rattle.st_wire.specs.Deliveries.{keeps_back, brought_at, own_delivery, deliveries}

-- an item more, where there is one, is at most one more
with_one : {Y : Type 0} (o : Option Y) (ys : List Y) (n : ℕ) → length ys ≤ n → length (cons_option o ys) ≤ suc n
with_one None ys n few = omega (arith, few)
with_one (Some y) ys n few = omega (arith, few)

-- what is found of items is no more than they are
found_few : {X Y : Type 0} (f : X → Option Y) (xs : List X) → length (filter_map f xs) ≤ length xs
found_few f [] = omega arith
found_few f (x ∷ xs) = with_one (f x) (filter_map f xs) (length xs) (found_few f xs)

-- at most one message arrives at its own turn
own_few : (m : ℕ) (kept_back : Bool) → length (if kept_back then [] else m ∷ []) ≤ 1
own_few m true = omega arith
own_few m false = omega arith

-- at a turn its own message arrives, and one for each line, at most
pub few_deliveries : (lines : List WireLine) (kind : WireKind) (m : ℕ) → length (deliveries lines kind m) ≤ 1 + length lines
few_deliveries lines kind m =
    let own = own_few m (list_any (keeps_back kind m) lines) in
    let brought = found_few (brought_at kind m) lines in
    let all = length-append (own_delivery lines kind m) (filter_map (brought_at kind m) lines) in
    omega (arith, own, brought, all)
