-- Worked examples: what is told of a refusal of each kind, and what is read of it.
use Rattle.std.proofs.Common.{◌≡◌, ℕ, false, List, [], ◌∷◌, Some, None, refl, codes}
use Rattle.std.specs.Prelude.{Option}
use Rattle.std.specs.List.{sum_by}
use Rattle.serde_json.specs.Data.{Data, Members, no_members, object, put, string}
use Rattle.st_net.specs.declared.entity.Prio.TheVariants.{Low, High}
use Rattle.st_net.specs.declared.entity.Var.TheVariants.{Power, Firmware, LinkPower, Iface}
use Rattle.st_net.specs.Groups.{Group}
use Rattle.st_event.specs.declared.event.Event.{Event}
use Rattle.st_event.specs.declared.event.Event.TheVariants.{Check, Lock, Report, Hear, Fail}
use Rattle.st_event.specs.declared.journal.Entry.{Entry}
use Rattle.st_event.specs.Replies.{reply}
use Rattle.st_player.specs.Cuts.{cut_of, is_device_of, is_far}
use Rattle.st_player.specs.Entries.{entry_data, entry_words, told_data}
use Rattle.st_player.specs.Fields.{with_fields}
use Rattle.st_player.specs.Json.{number_data, numbers_data}
use Rattle.st_player.specs.Refusals.{refused_of}
use Rattle.st_player.specs.Snapshots.{shown_of}
use Rattle.st_player.specs.States.{state_of}
use Rattle.st_player.specs.ToldRefusals.{at_refusal, capacity_in, is_text, links_leaving, numbers_told, part_told}
use Rattle.st_player.proofs.WorkedGroup.{a1, a2, answered, asks, l4, q, row, run, two_paths, usual}

-- what the next event tells of a refusal
abbrev told : Group → List Event → Event → Option Data
told g events event = refused_of g (run g events) event (reply g (run g events) event)

abbrev number : List ℕ → ℕ → Members → Members
number key n ms = put key (number_data n) ms

abbrev numbers : List ℕ → List ℕ → Members → Members
numbers key ns ms = put key (numbers_data ns) ms

abbrev word : List ℕ → List ℕ → Members → Members
word key text ms = put key (string text) ms

-- a2 is at level 1, as its report says, and firmware needs 2
level : told q (Fail a2 usual 1 ∷ Report a2 ∷ Hear 1 ∷ asks (row a2 Firmware 2 ∷ []) ∷ []) Check
    ≡ Some (object (word (codes "kind") (codes "level") (number (codes "of") 3 (number (codes "has") 1 (number (codes "needs") 2 no_members)))))
level = refl

-- a row on a link may lack the level of an end of it: a2 is named, and not the link
level_of_end : told q (Fail a2 usual 3 ∷ Report a2 ∷ Hear 1 ∷ asks (row l4 Iface 2 ∷ []) ∷ []) Check
    ≡ Some (object (word (codes "kind") (codes "level") (number (codes "of") 3 (number (codes "has") 3 (number (codes "needs") 4 no_members)))))
level_of_end = refl

-- or that of the link, which stands behind all devices
level_of_link : told q (Fail l4 (record { v0 = 1; v1 = 1; v2 = 0; v3 = 0 }) 0 ∷ Report l4 ∷ Hear 1 ∷ asks (row l4 Iface 2 ∷ []) ∷ []) Check
    ≡ Some (object (word (codes "kind") (codes "level") (number (codes "of") 7 (number (codes "has") 0 (number (codes "needs") 1 no_members)))))
level_of_link = refl

-- firmware without power
off : told q (asks (row a2 Power 0 ∷ row a2 Firmware 2 ∷ []) ∷ []) Check ≡ Some (object (word (codes "kind") (codes "off") (number (codes "of") 3 no_members)))
off = refl

-- another application holds the lock, high before low
locked : told q (Lock (record { 0 = 1 }) a2 Low ∷ asks (row a2 Firmware 2 ∷ []) ∷ []) Check
    ≡ Some (object (word (codes "kind") (codes "locked") (number (codes "of") 3 (number (codes "by") 1 (word (codes "prio") (codes "low") no_members)))))
locked = refl

locked_high : told q (Lock (record { 0 = 2 }) l4 High ∷ Lock (record { 0 = 1 }) l4 Low ∷ asks (row l4 Iface 2 ∷ []) ∷ []) Check
    ≡ Some (object (word (codes "kind") (codes "locked") (number (codes "of") 7 (number (codes "by") 2 (word (codes "prio") (codes "high") no_members)))))
locked_high = refl

-- nothing is left where both switches change: both links of t1 are out, and nothing is joined to t2
cut_off : told q (asks (row a1 Firmware 2 ∷ row a2 Firmware 2 ∷ []) ∷ []) Check
    ≡ Some (object (word (codes "kind") (codes "cutoff") (number (codes "promise") 0 (number (codes "need") 10 (number (codes "has") 0 (numbers (codes "side") (0 ∷ [])
    (numbers (codes "far") (1 ∷ []) (word (codes "part") (codes "side") (numbers (codes "left") [] (numbers (codes "out") (0 ∷ 1 ∷ []) (numbers (codes "changes") (2 ∷ 3 ∷ []) (numbers (codes "gone") [] no_members))))))))))))
unfolding cut_of is_far
cut_off = refl

-- one of two paths is too little where all is promised; a1, which is left, is joined to t2
short : told (two_paths 10 100) (asks (row a2 Firmware 2 ∷ []) ∷ []) Check
    ≡ Some (object (word (codes "kind") (codes "short") (number (codes "promise") 0 (number (codes "need") 20 (number (codes "has") 10 (numbers (codes "side") (0 ∷ [])
    (numbers (codes "far") (1 ∷ 2 ∷ []) (word (codes "part") (codes "side") (numbers (codes "left") (0 ∷ []) (numbers (codes "out") (1 ∷ []) (numbers (codes "changes") (3 ∷ []) (numbers (codes "gone") [] no_members))))))))))))
unfolding cut_of is_far
short = refl

-- l4 is taken away, and l3 alone is left of t2: it leaves the side of three devices as it leaves t2
abbrev narrow : Group
narrow = two_paths 5 100

short_far : told narrow (asks (row l4 LinkPower 0 ∷ []) ∷ []) Check
    ≡ Some (object (word (codes "kind") (codes "short") (number (codes "promise") 0 (number (codes "need") 15 (number (codes "has") 5 (numbers (codes "side") (0 ∷ 2 ∷ 3 ∷ [])
    (numbers (codes "far") (1 ∷ []) (word (codes "part") (codes "far") (numbers (codes "left") (2 ∷ []) (numbers (codes "out") (3 ∷ []) (numbers (codes "changes") (7 ∷ []) (numbers (codes "gone") [] no_members))))))))))))
unfolding cut_of is_far
short_far = refl

-- a check that accepts, one where nothing waits, and another event tell of none
accepted : told q (asks (row a2 Firmware 2 ∷ []) ∷ []) Check ≡ None
accepted = refl

idle : told q [] Check ≡ None
idle = refl

no_check : told q (asks (row a2 Power 0 ∷ row a2 Firmware 2 ∷ []) ∷ []) (Report a2) ≡ None
no_check = refl

-- the data of that entry tell just so: the far part, and what leaves it
abbrev narrow_past : List Entry
narrow_past = run narrow (asks (row l4 LinkPower 0 ∷ []) ∷ [])

abbrev narrow_told : Data
narrow_told = entry_data narrow (codes "up" ∷ []) narrow_past (answered narrow narrow_past Check)

told_part : part_told narrow_told ≡ 1 ∷ []
unfolding entry_data entry_words told_data shown_of state_of with_fields cut_of is_far
told_part = refl

told_left : numbers_told (codes "left") narrow_told ≡ 2 ∷ []
unfolding entry_data entry_words told_data shown_of state_of with_fields cut_of is_far
told_left = refl

told_out : numbers_told (codes "out") narrow_told ≡ 3 ∷ []
unfolding entry_data entry_words told_data shown_of state_of with_fields cut_of is_far
told_out = refl

-- an entry's data of a refusal, whose far part is the smaller, and another whose side is
abbrev refusal : List ℕ → Data
refusal part = object (put (codes "refused")
    (object (word (codes "part") part (numbers (codes "side") (0 ∷ 2 ∷ 3 ∷ []) (numbers (codes "far") (1 ∷ []) (numbers (codes "left") (2 ∷ []) no_members))))) no_members)

links_left : numbers_told (codes "left") (refusal (codes "far")) ≡ 2 ∷ []
links_left = refl

no_links_out : numbers_told (codes "out") (refusal (codes "far")) ≡ []
no_links_out = refl

far_part : part_told (refusal (codes "far")) ≡ 1 ∷ []
far_part = refl

side_part : part_told (refusal (codes "side")) ≡ 0 ∷ 2 ∷ 3 ∷ []
side_part = refl

not_refused : at_refusal (codes "left") (object no_members) ≡ None
not_refused = refl

no_text : is_text (codes "far") (Some (number_data 1)) ≡ false
no_text = refl

-- the links that leave a part, and what they carry
leave_far : links_leaving narrow (is_device_of narrow (1 ∷ [])) ≡ 2 ∷ 3 ∷ []
leave_far = refl

leave_none : links_leaving narrow (is_device_of narrow (0 ∷ 1 ∷ 2 ∷ 3 ∷ [])) ≡ []
leave_none = refl

carried : sum_by (capacity_in narrow) (2 ∷ 3 ∷ []) ≡ 15
carried = refl

carried_by_none : sum_by (capacity_in narrow) (4 ∷ []) ≡ 0
carried_by_none = refl
