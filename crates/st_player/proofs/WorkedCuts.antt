-- Worked examples: the cuts of a group of two ToRs, each linked to two switches, for each part of the definitions one that no other part gives.
use Rattle.std.proofs.Common.{◌≡◌, ℕ, true, false, Bool, List, [], ◌∷◌, refl}
use Rattle.std.specs.Prelude.{◌&&◌, not}
use Rattle.st_net.specs.declared.entity.Entity.{Entity}
use Rattle.st_net.specs.declared.entity.Entity.TheVariants.{Device, Link}
use Rattle.st_net.specs.declared.entity.Row.{Row}
use Rattle.st_net.specs.declared.entity.Var.TheVariants.{Firmware}
use Rattle.st_net.specs.declared.promise.Broken.{Broken}
use Rattle.st_net.specs.declared.promise.BrokenKind.TheVariants.{CutOff}
use Rattle.st_net.specs.declared.promise.BrokenOf.TheVariants.{Promise as of_promise}
use Rattle.st_net.specs.Cuts.{numbers_in}
use Rattle.st_net.specs.Entities.{is_same_entity}
use Rattle.st_event.specs.declared.event.Event.TheVariants.{Check}
use Rattle.st_event.specs.declared.journal.Entry.{Entry}
use Rattle.st_player.specs.Cuts.{crossing_links, cut_of, is_device_of, is_far, is_part_of, numbers_of, part_of}
use Rattle.st_player.proofs.WorkedGroup.{a1, a2, asks, q, row, run}

abbrev all_up : Entity → Bool
all_up e = true

abbrev up_without : Entity → Entity → Bool
up_without at e = not (is_same_entity at e)

abbrev far_from_t2 : (Entity → Bool) → List ℕ → List ℕ
far_from_t2 up side = numbers_in 4 (is_far q up (is_device_of q side) 1)

-- all that is outside the side is joined to t2: a1 and a2 by one link
one_link : far_from_t2 all_up (0 ∷ []) ≡ 1 ∷ 2 ∷ 3 ∷ []
unfolding is_far
one_link = refl

-- t1 by a walk of two
two_links : far_from_t2 all_up (3 ∷ []) ≡ 0 ∷ 1 ∷ 2 ∷ []
unfolding is_far
two_links = refl

-- no walk goes through the side
around_the_side : far_from_t2 all_up (2 ∷ 3 ∷ []) ≡ 1 ∷ []
unfolding is_far
around_the_side = refl

-- nor over a link that is down, by itself or by an end
link_down : far_from_t2 (up_without (Link 2)) (0 ∷ []) ≡ 1 ∷ 3 ∷ []
unfolding is_far
link_down = refl

end_down : far_from_t2 (up_without (Device 3)) (0 ∷ []) ≡ 1 ∷ 2 ∷ []
unfolding is_far
end_down = refl

-- t2 itself is joined to it where it is down, and nothing is where it is in the side
itself_down : far_from_t2 (up_without (Device 1)) (0 ∷ []) ≡ 1 ∷ []
unfolding is_far
itself_down = refl

in_the_side : far_from_t2 all_up (1 ∷ []) ≡ []
unfolding is_far
in_the_side = refl

-- the links with one end in a set, and not those with both or none
across : crossing_links q all_up true (is_device_of q (0 ∷ 2 ∷ [])) ≡ 1 ∷ 2 ∷ []
across = refl

-- of these the ones that are up, and the ones that are not
left_up : crossing_links q (up_without (Device 2)) true (is_device_of q (0 ∷ [])) ≡ 1 ∷ []
left_up = refl

out_down : crossing_links q (up_without (Device 2)) false (is_device_of q (0 ∷ [])) ≡ 0 ∷ []
out_down = refl

-- the smaller part, and the side where both have as many
smaller_far : part_of (0 ∷ 2 ∷ 3 ∷ []) (1 ∷ []) ≡ 1 ∷ []
smaller_far = refl

smaller_side : part_of (0 ∷ []) (1 ∷ 2 ∷ []) ≡ 0 ∷ []
smaller_side = refl

as_many : part_of (0 ∷ []) (1 ∷ []) ≡ 0 ∷ []
as_many = refl

-- a link stands behind all devices in the order of entities
numbered : numbers_of q (is_part_of q (1 ∷ [])) ≡ 0 ∷ 3 ∷ 5 ∷ []
numbered = refl

-- of links that are out, with their ends, what was not sure before
not_sure : numbers_of q (λ e. is_part_of q (1 ∷ []) e && not (up_without (Device 3) e)) ≡ 3 ∷ []
not_sure = refl

-- the second of two proposals that change a1 and a2, behind the first: both links of t1 would be out, and a1 was not sure before
abbrev change : Entity → List Row
change e = row e Firmware 2 ∷ []

abbrev past : List Entry
past = run q (asks (change a1) ∷ asks (change a2) ∷ Check ∷ [])

abbrev broken : Broken
broken = record { of = of_promise 0; kind = CutOff; need = 10; has = 0; side = 0 ∷ [] }

one_at_a_time : cut_of q past (change a2) broken ≡ record { far = 1 ∷ []; left = []; out = 0 ∷ 1 ∷ []; changes = 3 ∷ []; gone = 2 ∷ [] }
unfolding cut_of is_far
one_at_a_time = refl
