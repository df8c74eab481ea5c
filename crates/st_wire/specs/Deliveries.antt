-- Which messages arrive when. Turn m of a kind is the moment at which message m of that kind was sent.
use Rattle.std.specs.Prelude.{ℕ, ◌==◌, ◌&&◌, Bool, true, false, List, [], ◌∷◌, ◌++◌, Option, Some, None, if◌then◌else◌}
use Rattle.std.specs.List.{list_any, filter_map}
use Rattle.st_wire.specs.declared.line.WireKind.{WireKind}
use Rattle.st_wire.specs.declared.line.WireKind.TheVariants.{Command, Report}
use Rattle.st_wire.specs.declared.line.WireLine.{WireLine}
use Rattle.st_wire.specs.declared.line.WireLine.TheVariants.{Drop, Repeat, Hold}

abbrev pub is_same_kind : WireKind → WireKind → Bool
is_same_kind Command Command = true
is_same_kind Report Report = true
is_same_kind Command Report = false
is_same_kind Report Command = false

-- whether a line keeps message m of the kind from its own turn
abbrev pub keeps_back : WireKind → ℕ → WireLine → Bool
keeps_back kind m (Drop k n) = is_same_kind k kind && n == m
keeps_back kind m (Hold k n at) = is_same_kind k kind && n == m
keeps_back kind m (Repeat k n at) = false

-- the message of the kind that a line delivers at turn m
abbrev pub brought_at : WireKind → ℕ → WireLine → Option ℕ
brought_at kind m (Drop k n) = None
brought_at kind m (Repeat k n at) = if is_same_kind k kind && at == m then Some n else None
brought_at kind m (Hold k n at) = if is_same_kind k kind && at == m then Some n else None

-- message m at its own turn, unless a line keeps it back
abbrev pub own_delivery : List WireLine → WireKind → ℕ → List ℕ
own_delivery lines kind m = if list_any (keeps_back kind m) lines then [] else m ∷ []

-- the numbers of the messages that arrive at turn m: its own, and then those that lines bring, in the order of the lines
abbrev pub deliveries : List WireLine → WireKind → ℕ → List ℕ
deliveries lines kind m = own_delivery lines kind m ++ filter_map (brought_at kind m) lines
