-- What is told of a refusal: the cut of the promise that the judge found, read back.
use Rattle.std.proofs.Common.{◌≡◌, ◌∙◌, ℕ, zero, suc, ◌+◌, ◌<◌, true, false, Bool, List, [], ◌∷◌, length, map, refl, sym, ap, ap₂, subst, codes, arith, Some, None}
use Rattle.std.specs.Prelude.{Option, ◌&&◌, ◌==◌, nat_lt, if◌then◌else◌, option_and_then, option_map, slice_index_or}
use Rattle.std.specs.List.{sum_by}
use Rattle.std.proofs.lemmas.Bool.Decides.{nat_tests}
use Rattle.serde_json.specs.Data.{Data, string}
use Rattle.serde_json.specs.Find.{get}
use Rattle.serde_json.specs.View.{items_of}
use Rattle.st_net.specs.declared.entity.AppId.{AppId}
use Rattle.st_net.specs.declared.entity.Entity.{Entity}
use Rattle.st_net.specs.declared.entity.Prio.{Prio}
use Rattle.st_net.specs.declared.entity.Row.{Row}
use Rattle.st_net.specs.declared.entity.Var.{Var}
use Rattle.st_net.specs.declared.message.Report.{Report}
use Rattle.st_net.specs.declared.promise.Broken.{Broken}
use Rattle.st_net.specs.declared.promise.Promise.{Promise}
use Rattle.st_net.specs.Cuts.{IsCut, cut_value, is_in_least_side, least_cut}
use Rattle.st_net.specs.Groups.{Group, IsSound, no_link, no_promise, promise_of}
use Rattle.st_net.specs.Demands.{broken_pair}
use Rattle.st_net.specs.Holders.{Holding, effective_of}
use Rattle.st_net.specs.Merge.{target_with}
use Rattle.st_net.specs.Promises.{broken_at, first_broken, is_broken}
use Rattle.st_net.proofs.GroupLaws.{promise_at}
use Rattle.st_net.proofs.WalkLaws.{cut_rests}
use Rattle.st_event.specs.declared.event.Event.{Event}
use Rattle.st_event.specs.declared.event.Event.TheVariants.{Check}
use Rattle.st_event.specs.declared.event.Proposal.{Proposal}
use Rattle.st_event.specs.declared.journal.Entry.{Entry}
use Rattle.st_event.specs.declared.reply.Cause.{Cause}
use Rattle.st_event.specs.declared.reply.Cause.TheVariants.{Broken as broken_cause, Locked}
use Rattle.st_event.specs.declared.reply.Lack.{Lack}
use Rattle.st_event.specs.declared.reply.Reply.{Reply}
use Rattle.st_event.specs.Judge.{cause_or, first_lack, first_locked, lack_at, lack_cause, locked_cause, refusal_or_version}
use Rattle.st_event.specs.Locks.{holder}
use Rattle.st_event.specs.Observed.{observed, sure, sure_after}
use Rattle.st_event.specs.Proposals.{first_rows, pending, target, version}
use Rattle.st_event.specs.Replies.{check_reply, reply}
use Rattle.st_event.proofs.InmostCut.{side_is_least}
use Rattle.st_player.specs.Cuts.{crossing_links, cut_of, far_of, is_device_of, is_far_smaller, out_with, part_of}
use Rattle.st_player.specs.Entries.{entry_data}
use Rattle.st_player.specs.Json.{number_data, numbers_data}
use Rattle.st_player.specs.Laws.{RefusalsTellCuts}
use Rattle.st_player.specs.PlayedBack.{list_in, listed, number_in}
use Rattle.st_player.specs.Refusals.{broken_data, cause_data, cause_in, cause_of, part_word, refusal_of}
use Rattle.st_player.specs.ToldRefusals.{at_refusal, capacity_in, is_text, numbers_told, part_told}
use Rattle.st_player.proofs.FarCuts.{across_count, across_sum, far_devices, far_left, numbers_devices}
use Rattle.st_player.proofs.ToldEntries.{refused_in}

-- a promise that is found broken is one of the group's
record IsFound (g : Group) (after : Entity → Bool) (ps : List Promise) (at : ℕ) (broken : Broken) : Type 0 where
  place : ℕ
  low : place < length ps
  is : broken ≡ broken_at g after (at + place) (slice_index_or ps place no_promise)

found_in : (g : Group) (before after : Entity → Bool) (at : ℕ) (ps : List Promise) (broken : Broken) → first_broken g before after at ps ≡ Some broken → IsFound g after ps at broken
found_in g before after at [] broken is = absurd cc
found_in g before after at (p ∷ ps) broken is = by_test (is_broken g before after p) is (found_in g before after (at + 1) ps broken)
  where
    same_some : Some (broken_at g after at p) ≡ Some broken → broken ≡ broken_at g after at p
    same_some is = cc

    by_test : (breaks : Bool) → (if breaks then Some (broken_at g after at p) else first_broken g before after (at + 1) ps) ≡ Some broken → (first_broken g before after (at + 1) ps ≡ Some broken → IsFound g after ps (at + 1) broken) → IsFound g after (p ∷ ps) at broken
    by_test true is rest =
        let here : at ≡ at + zero = omega arith in
        record { place = zero; low = omega arith; is = same_some is ∙ ap (λ (i : ℕ). broken_at g after i p) here }
    by_test false is rest =
        let found = rest is in
        let here : at + 1 + found.place ≡ at + suc found.place = omega arith in
        record { place = suc found.place; low = omega (arith, found.low); is = found.is ∙ ap (λ (i : ℕ). broken_at g after i (slice_index_or ps found.place no_promise)) here }

-- lacks and locks are no broken promises
lack_not_broken : (g : Group) (observed : Entity → Report) (after : Entity → Var → ℕ) (rows : List Row) (broken : Broken) → first_lack g observed after rows ≡ Some (broken_cause broken) → ⊥
lack_not_broken g observed after [] broken is = absurd cc
lack_not_broken g observed after (row ∷ rows) broken is = by_lack (lack_at g observed after row.entity row.var) is (lack_not_broken g observed after rows broken)
  where
    by_lack : (lack : Option Lack) → lack_cause row lack (first_lack g observed after rows) ≡ Some (broken_cause broken) → (first_lack g observed after rows ≡ Some (broken_cause broken) → ⊥) → ⊥
    by_lack (Some lack) is rest = absurd cc
    by_lack None is rest = rest is

locked_not_broken : (holder : Entity → Prio → Option AppId) (app : AppId) (rows : List Row) (broken : Broken) → first_locked holder app rows ≡ Some (broken_cause broken) → ⊥
locked_not_broken holder app [] broken is = absurd cc
locked_not_broken holder app (row ∷ rows) broken is = by_holding (effective_of holder row.entity) is (locked_not_broken holder app rows broken)
  where
    by_app : (holding : Holding) (own : Bool) → (if own then first_locked holder app rows else Some (Locked row.entity holding.app holding.prio)) ≡ Some (broken_cause broken) → (first_locked holder app rows ≡ Some (broken_cause broken) → ⊥) → ⊥
    by_app holding true is rest = rest is
    by_app holding false is rest = absurd cc

    by_holding : (holding : Option Holding) → locked_cause app row.entity holding (first_locked holder app rows) ≡ Some (broken_cause broken) → (first_locked holder app rows ≡ Some (broken_cause broken) → ⊥) → ⊥
    by_holding None is rest = rest is
    by_holding (Some holding) is rest = by_app holding (holding.app.0 == app.0) is rest

last_cause : (lack lock : Option Cause) (found : Option Broken) (broken : Broken) → (lack ≡ Some (broken_cause broken) → ⊥) → (lock ≡ Some (broken_cause broken) → ⊥) → cause_or lack (cause_or lock (option_map broken_cause found)) ≡ Some (broken_cause broken) → found ≡ Some broken
last_cause (Some cause) lock found broken no_lack no_lock is = absurd (no_lack is)
last_cause None (Some cause) found broken no_lack no_lock is = absurd (no_lock is)
last_cause None None None broken no_lack no_lock is = absurd cc
last_cause None None (Some other) broken no_lack no_lock is = cc

cause_is : (cause : Option Cause) (version : ℕ) → cause_of (refusal_or_version cause version) ≡ cause
cause_is None version = refl
cause_is (Some cause) version = refl

-- what the judge found
judged : (g : Group) (past : List Entry) (queue : List Proposal) (broken : Broken) → pending past ≡ queue → cause_in (check_reply g past queue) ≡ Some (broken_cause broken) → IsFound g (sure_after g past (first_rows (pending past))) g.promises 0 broken
judged g past [] broken waits is = absurd cc
judged g past (p ∷ queue) broken waits is =
    let lack = first_lack g (observed g past) (target_with (target g past) p.rows) p.rows in
    let lock = first_locked (holder past) p.app p.rows in
    let found = first_broken g (sure g past) (sure_after g past p.rows) 0 g.promises in
    let cause : cause_or lack (cause_or lock (option_map broken_cause found)) ≡ Some (broken_cause broken) = sym (cause_is (cause_or lack (cause_or lock (option_map broken_cause found))) (version past)) ∙ is in
    let first : p.rows ≡ first_rows (pending past) = ap first_rows (sym waits) in
    subst (λ (rows : List Row). IsFound g (sure_after g past rows) g.promises 0 broken) first
    (found_in g (sure g past) (sure_after g past p.rows) 0 g.promises broken
    (last_cause lack lock found broken (lack_not_broken g (observed g past) (target_with (target g past) p.rows) p.rows broken) (locked_not_broken (holder past) p.app p.rows broken) cause))

check_found : (g : Group) (past : List Entry) (event : Event) (answer : Reply) (broken : Broken) → answer ≡ reply g past event → refusal_of event answer ≡ Some (broken_cause broken) → IsFound g (sure_after g past (first_rows (pending past))) g.promises 0 broken
check_found g past Check answer broken is refuses = judged g past (pending past) broken refl (ap cause_in (sym is) ∙ refuses)
check_found g past _ answer broken is refuses = absurd cc

-- its side is a cut of the least value, as a set of devices
record IsLeast (g : Group) (up : Entity → Bool) (broken : Broken) : Type 0 where
  low : (broken_pair g broken).1 < length g.devices
  cut : IsCut (is_device_of g broken.side) (broken_pair g broken).0 (broken_pair g broken).1
  value : cut_value g.links up (is_device_of g broken.side) ≡ least_cut (length g.devices) g.links up (broken_pair g broken).0 (broken_pair g broken).1
  has : broken.has ≡ least_cut (length g.devices) g.links up (broken_pair g broken).0 (broken_pair g broken).1

least_at : (g : Group) (up : Entity → Bool) (i : ℕ) → IsSound g → i < length g.promises → IsLeast g up (broken_at g up i (promise_of g i))
least_at g up i sound low =
    let among = promise_at g.devices g.promises i sound.promises low in
    let p = promise_of g i in
    let n = length g.devices in
    let least = side_is_least n g.links up p.a p.b sound.links among.apart among.b_in in
    let below : (d : ℕ) → d < n → is_device_of g (broken_at g up i p).side d ≡ is_in_least_side n g.links up p.a p.b d =
    λ d small. numbers_devices g (is_in_least_side n g.links up p.a p.b) d ∙ within d small (is_in_least_side n g.links up p.a p.b d) in
    record {
      low = among.b_in;
      cut = record { inside = below p.a among.a_in ∙ least.cut.inside; outside = below p.b among.b_in ∙ least.cut.outside };
      value = cut_rests 0 n g.links up (is_device_of g (broken_at g up i p).side) (is_in_least_side n g.links up p.a p.b) sound.links below ∙ least.least;
      has = refl;
    }
  where
    within : (d : ℕ) → d < length g.devices → (is : Bool) → (nat_lt d (length g.devices) && is) ≡ is
    within d small is = let here : nat_lt d (length g.devices) ≡ true = grind (arith, nat_tests) in rw here refl

found_least : (g : Group) (up : Entity → Bool) (broken : Broken) → IsSound g → IsFound g up g.promises 0 broken → IsLeast g up broken
found_least g up broken sound found =
    let here : zero + found.place ≡ found.place = omega arith in
    let is : broken ≡ broken_at g up found.place (promise_of g found.place) = found.is ∙ ap (λ (i : ℕ). broken_at g up i (promise_of g found.place)) here in
    subst (IsLeast g up) (sym is) (least_at g up found.place sound found.low)

-- numbers, read back
numbers_back : (ns : List ℕ) → map (λ (d : Data). number_in (Some d)) (listed (items_of (map number_data ns))) ≡ ns
numbers_back [] = refl
numbers_back (n ∷ ns) = ap (λ (ms : List ℕ). n ∷ ms) (numbers_back ns)

text_back : (is : Bool) → is_text (codes "far") (Some (string (part_word is))) ≡ is
text_back true = refl
text_back false = refl

-- what is told stands in the data of the cut
abbrev judged_rows : List Entry → List Row
judged_rows past = first_rows (pending past)

told_in : (key : List ℕ) (g : Group) (apps : List (List ℕ)) (past : List Entry) (entry : Entry) (broken : Broken) → refusal_of entry.event entry.reply ≡ Some (broken_cause broken)
    → at_refusal key (entry_data g apps past entry) ≡ get key (broken_data g past (judged_rows past) broken)
told_in key g apps past entry broken refuses =
    ap (option_and_then (get key)) (refused_in g apps past entry ∙ ap (option_map (cause_data g past (judged_rows past))) refuses)

numbers_at : (key : List ℕ) (g : Group) (apps : List (List ℕ)) (past : List Entry) (entry : Entry) (broken : Broken) (ns : List ℕ) → refusal_of entry.event entry.reply ≡ Some (broken_cause broken)
    → get key (broken_data g past (judged_rows past) broken) ≡ Some (numbers_data ns) → numbers_told key (entry_data g apps past entry) ≡ ns
numbers_at key g apps past entry broken ns refuses is =
    ap (λ (o : Option Data). map (λ (d : Data). number_in (Some d)) (list_in o)) (told_in key g apps past entry broken refuses ∙ is) ∙ numbers_back ns

abbrev far_in : Group → List Entry → Broken → List ℕ
far_in g past broken = far_of g (sure_after g past (judged_rows past)) broken

far_at : (g : Group) (past : List Entry) (broken : Broken) → get (codes "far") (broken_data g past (judged_rows past) broken) ≡ Some (numbers_data (far_in g past broken))
unfolding cut_of
far_at g past broken = refl

left_at : (g : Group) (past : List Entry) (broken : Broken) → get (codes "left") (broken_data g past (judged_rows past) broken) ≡ Some (numbers_data (crossing_links g (sure_after g past (judged_rows past)) true (is_device_of g broken.side)))
unfolding cut_of
left_at g past broken = refl

out_at : (g : Group) (past : List Entry) (broken : Broken) → get (codes "out") (broken_data g past (judged_rows past) broken) ≡ Some (numbers_data (out_with g (sure_after g past (judged_rows past)) broken.side (far_in g past broken)))
unfolding cut_of
out_at g past broken = refl

part_at : (g : Group) (past : List Entry) (broken : Broken) → get (codes "part") (broken_data g past (judged_rows past) broken) ≡ Some (string (part_word (is_far_smaller broken.side (far_in g past broken))))
unfolding cut_of
part_at g past broken = refl

has_at : (g : Group) (past : List Entry) (broken : Broken) → get (codes "has") (broken_data g past (judged_rows past) broken) ≡ Some (number_data broken.has)
has_at g past broken = refl

side_at : (g : Group) (past : List Entry) (broken : Broken) → get (codes "side") (broken_data g past (judged_rows past) broken) ≡ Some (numbers_data broken.side)
side_at g past broken = refl

part_is : (g : Group) (apps : List (List ℕ)) (past : List Entry) (entry : Entry) (broken : Broken) → refusal_of entry.event entry.reply ≡ Some (broken_cause broken) → part_told (entry_data g apps past entry) ≡ part_of broken.side (far_in g past broken)
part_is g apps past entry broken refuses =
    let told = entry_data g apps past entry in
    let smaller : is_text (codes "far") (at_refusal (codes "part") told) ≡ is_far_smaller broken.side (far_in g past broken) =
    ap (is_text (codes "far")) (told_in (codes "part") g apps past entry broken refuses ∙ part_at g past broken) ∙ text_back (is_far_smaller broken.side (far_in g past broken)) in
    ap (λ (is : Bool). if is then numbers_told (codes "far") told else numbers_told (codes "side") told) smaller
    ∙ ap₂ (λ (far side : List ℕ). if is_far_smaller broken.side (far_in g past broken) then far else side)
    (numbers_at (codes "far") g apps past entry broken (far_in g past broken) refuses (far_at g past broken))
    (numbers_at (codes "side") g apps past entry broken broken.side refuses (side_at g past broken))

-- the links that leave either part
left_of_part : (g : Group) (up : Entity → Bool) (broken : Broken) → IsSound g → IsLeast g up broken → crossing_links g up true (is_device_of g broken.side) ≡ crossing_links g up true (is_device_of g (part_of broken.side (far_of g up broken)))
left_of_part g up broken sound least = by_part (is_far_smaller broken.side (far_of g up broken))
  where
    b : ℕ
    b = (broken_pair g broken).1

    by_part : (far : Bool) → crossing_links g up true (is_device_of g broken.side) ≡ crossing_links g up true (is_device_of g (if far then far_of g up broken else broken.side))
    by_part true =
        far_left g up (broken_pair g broken).0 b (is_device_of g broken.side) sound.links least.low least.cut least.value
        ∙ ap (crossing_links g up true) (sym (far_devices g up (is_device_of g broken.side) b sound.links))
    by_part false = refl

capacities : (g : Group) (k : ℕ) → k < length g.links → capacity_in g (zero + k) ≡ (slice_index_or g.links k no_link).capacity
capacities g k low = let here : zero + k ≡ k = omega arith in ap (capacity_in g) here

pub told_cuts : RefusalsTellCuts
told_cuts g apps past entry broken sound legal refuses =
    let up = sure_after g past (judged_rows past) in
    let told = entry_data g apps past entry in
    let least = found_least g up broken sound (check_found g past entry.event entry.reply broken legal.0.answer refuses) in
    let part = part_is g apps past entry broken refuses in
    let links : numbers_told (codes "left") told ≡ crossing_links g up true (is_device_of g broken.side) = numbers_at (codes "left") g apps past entry broken _ refuses (left_at g past broken) in
    let left : numbers_told (codes "left") told ≡ crossing_links g up true (is_device_of g (part_told told)) =
    links ∙ (left_of_part g up broken sound least ∙ ap (λ (ds : List ℕ). crossing_links g up true (is_device_of g ds)) (sym part)) in
    let out : numbers_told (codes "out") told ≡ crossing_links g up false (is_device_of g (part_told told)) =
    numbers_at (codes "out") g apps past entry broken _ refuses (out_at g past broken) ∙ ap (λ (ds : List ℕ). crossing_links g up false (is_device_of g ds)) (sym part) in
    record {
      has = ap number_in (told_in (codes "has") g apps past entry broken refuses ∙ has_at g past broken);
      side = numbers_at (codes "side") g apps past entry broken broken.side refuses (side_at g past broken);
      leave_side = links;
      sum = ap (sum_by (capacity_in g)) links ∙ (across_sum (capacity_in g) 0 g.links up (is_device_of g broken.side) (capacities g) ∙ (least.value ∙ sym least.has));
      left = left;
      out = out;
      all = ap₂ (λ (ups downs : List ℕ). length ups + length downs) left out ∙ across_count 0 g.links up (is_device_of g (part_told told));
    }
