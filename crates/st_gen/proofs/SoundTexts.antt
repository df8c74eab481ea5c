-- The document that is generated is sound.
use Rattle.std.proofs.Common.{◌≡◌, sym, subst, ℕ, ◌+◌, ◌<◌, ◌≤◌, ◌%◌, ◌^◌, ◌∷◌, [], List, length, refl, arith, length-append, lit<, lit≤}
use Rattle.std.specs.Prelude.{Result, Ok, Err, IfOk, All, true, map, flat_map, nat_lt}
use Rattle.std.specs.List.{list_all}
use Rattle.std.proofs.lemmas.List.{length-map}
use Rattle.std.proofs.lemmas.List.FromFn.{length-map-range_with_len}
use Rattle.std.proofs.lemmas.List.Elements.{All-nil, All-cons, All-append, All-map}
use Rattle.st_net.specs.declared.entity.Entity.TheVariants.{Device}
use Rattle.st_net.specs.declared.parts.Parts.{Parts}
use Rattle.st_net.specs.Groups.{Group}
use Rattle.st_net.specs.Ranges.{RowFits, RowsFit, are_apart}
use Rattle.st_net.specs.Faults.{group_of, device_opening}
use Rattle.st_event.specs.declared.act.Act.{Act}
use Rattle.st_event.specs.declared.act.Act.TheVariants.{Propose, Await, Settle, Lock, Unlock, Read}
use Rattle.st_net.specs.declared.entity.Prio.TheVariants.{High}
use Rattle.st_net.specs.declared.entity.Var.TheVariants.{Firmware}
use Rattle.st_grammar.specs.declared.doc.Doc.{Doc}
use Rattle.st_grammar.specs.Sound.{IsSoundAct, IsSoundScript, IsSoundDoc, IsSoundGroup, AreSoundWires, IsSoundWire}
use Rattle.st_gen.specs.FatTrees.{numbers, half, devices, fat_tree}
use Rattle.st_gen.specs.Scripts.{aggregation_number, first_core, upgrade, firmware_row, stage_row, stage_rows, pod_rows, stage, whole_pod, upgrader, engineer}
use Rattle.st_gen.specs.Generated.{IsPods, generated}
use Rattle.st_gen.proofs.Numbers.{passes, all_below, all_joined}
use Rattle.st_gen.proofs.Counted.{IsCounted, counted}
use Rattle.st_gen.proofs.SoundParts.{sound_tree}
use Rattle.st_net.proofs.Tests.{less_is, less, at_most_is}

abbrev group : ℕ → Group
group pods = group_of (fat_tree pods)

abbrev groups : ℕ → List Parts
groups pods = fat_tree pods ∷ []

device_count : (pods : ℕ) → length (map device_opening (devices pods)) ≡ length (devices pods)
device_count pods = length-map (devices pods) device_opening

-- a device by its number
in_group : (pods n : ℕ) → nat_lt n (length (devices pods)) ≡ true → n < length (map device_opening (devices pods))
in_group pods n is = let low : n < length (devices pods) = less_is n (length (devices pods)) is in omega (arith, device_count pods, low)

row_fits : (pods value p j : ℕ) → IsCounted pods → p < pods → j < half pods → value < 2 ^ 32 → RowFits (group pods) (firmware_row (half pods) value p j)
row_fits pods value p j c pod switch small =
    let row = passes (λ p. list_all (λ j. nat_lt (aggregation_number (half pods) p j) (length (devices pods))) (numbers (half pods))) pods p c.within pod in
    record {
      entity = in_group pods (aggregation_number (half pods) p j) (passes (λ j. nat_lt (aggregation_number (half pods) p j) (length (devices pods))) (half pods) j row switch);
      range = less value (2 ^ 32) small;
    }

-- the rows of a stage, and those of one pod
stage_fits : (pods value j : ℕ) → IsPods pods → IsCounted pods → j < half pods → value < 2 ^ 32 → RowsFit (group pods) (stage_rows pods value j)
stage_fits pods value j is c switch small =
    let count : length (stage_rows pods value j) ≡ pods = length-map-range_with_len (stage_row (half pods) value j) 0 pods in
    record {
      some = omega (arith, count, is.least);
      few = omega (arith, count, is.most);
      each = All-map (RowFits (group pods)) (stage_row (half pods) value j) (numbers pods)
          (all_below (λ p. RowFits (group pods) (stage_row (half pods) value j p)) pods (λ p pod. row_fits pods value p j c pod switch small));
      apart = passes (λ j. are_apart (stage_rows pods value j)) (half pods) j (c.stages value) switch;
    }

pod_fits : (pods value p : ℕ) → IsPods pods → IsCounted pods → p < pods → value < 2 ^ 32 → RowsFit (group pods) (pod_rows pods value p)
pod_fits pods value p is c pod small =
    let count : length (pod_rows pods value p) ≡ half pods = length-map-range_with_len (firmware_row (half pods) value p) 0 (half pods) in
    record {
      some = omega (arith, count, is.least);
      few = omega (arith, count, is.most);
      each = All-map (RowFits (group pods)) (firmware_row (half pods) value p) (numbers (half pods))
          (all_below (λ j. RowFits (group pods) (firmware_row (half pods) value p j)) (half pods) (λ j switch. row_fits pods value p j c pod switch small));
      apart = passes (λ p. are_apart (pod_rows pods value p)) pods p (c.whole value) pod;
    }

abbrev IsActOf : ℕ → Act → Type 0
IsActOf pods = IsSoundAct (groups pods)

sound_stage : (pods value j : ℕ) → IsPods pods → IsCounted pods → j < half pods → value < 2 ^ 32 → All (IsActOf pods) (stage pods value j)
sound_stage pods value j is c switch small =
    All-cons (IsActOf pods) (Propose 0 (stage_rows pods value j)) (Await 0 ∷ Settle 0 2 ∷ []) (stage_fits pods value j is c switch small)
    (All-cons (IsActOf pods) (Await 0) (Settle 0 2 ∷ []) (lit< tt)
    (All-cons (IsActOf pods) (Settle 0 2) [] (lit< tt, lit≤ tt, lit≤ tt) (All-nil (IsActOf pods))))

sound_whole : (pods value p : ℕ) → IsPods pods → IsCounted pods → p < pods → value < 2 ^ 32 → All (IsActOf pods) (whole_pod pods value p)
sound_whole pods value p is c pod small =
    All-cons (IsActOf pods) (Propose 0 (pod_rows pods value p)) (Await 0 ∷ []) (pod_fits pods value p is c pod small)
    (All-cons (IsActOf pods) (Await 0) [] (lit< tt) (All-nil (IsActOf pods)))

upgrade_low : (seed : ℕ) → upgrade seed + 1 < 2 ^ 32
upgrade_low seed = omega arith

sound_upgrader : (pods seed : ℕ) → IsPods pods → IsCounted pods → IsSoundScript (groups pods) (upgrader pods seed)
sound_upgrader pods seed is c =
    let value = upgrade seed in
    let low : value + 1 < 2 ^ 32 = upgrade_low seed in
    let small : value < 2 ^ 32 = omega arith in
    let some : 0 < pods = omega (arith, is.least) in
    let pod : seed % pods < pods = omega arith in
    let stages : List Act = flat_map (stage pods value) (numbers (half pods)) in
    let last : List Act = whole_pod pods (value + 1) (seed % pods) in
    let few_stages : length stages ≤ 1000 = at_most_is (length stages) 1000 (c.few value) in
    record {
      name = refl;
      few = omega (arith, length-append stages last, few_stages);
      acts = All-append (IsActOf pods) stages last
          (all_joined (IsActOf pods) (stage pods value) (numbers (half pods))
          (all_below (λ j. All (IsActOf pods) (stage pods value j)) (half pods) (λ j switch. sound_stage pods value j is c switch small)))
          (sound_whole pods (value + 1) (seed % pods) is c pod low);
    }

sound_engineer : (pods : ℕ) → IsPods pods → IsCounted pods → IsSoundScript (groups pods) (engineer pods)
sound_engineer pods is c =
    let core : first_core pods < length (map device_opening (devices pods)) = in_group pods (first_core pods) c.core in
    let some : 0 < pods = omega (arith, is.least) in
    let switches : 0 < half pods = omega (arith, is.least) in
    let lock : Act = Lock 0 (Device (first_core pods)) High in
    let read : Act = Read 0 (Device (aggregation_number (half pods) 0 0)) Firmware in
    let unlock : Act = Unlock 0 (Device (first_core pods)) High in
    record {
      name = refl;
      few = lit≤ tt;
      acts = All-cons (IsActOf pods) lock (read ∷ unlock ∷ []) core
          (All-cons (IsActOf pods) read (unlock ∷ []) (record { entity_in = (row_fits pods 0 0 0 c some switches (lit< tt)).entity; variable = refl })
          (All-cons (IsActOf pods) unlock [] core (All-nil (IsActOf pods))));
    }

pub sound : (pods seed : ℕ) → IsPods pods → IsSoundDoc (generated pods seed)
sound pods seed is =
    let c = counted pods is in
    record {
      few_groups = lit≤ tt;
      few_apps = lit≤ tt;
      group_names = refl;
      app_names = refl;
      groups = All-cons IsSoundGroup (fat_tree pods) [] (sound_tree pods c) (All-nil IsSoundGroup);
      wires = refl;
      wire_lines = All-cons AreSoundWires [] [] (record { few = lit≤ tt; each = All-nil IsSoundWire }) (All-nil AreSoundWires);
      apps = All-cons (IsSoundScript (groups pods)) (upgrader pods seed) (engineer pods ∷ []) (sound_upgrader pods seed is c)
          (All-cons (IsSoundScript (groups pods)) (engineer pods) [] (sound_engineer pods is c) (All-nil (IsSoundScript (groups pods))));
      order = All-nil (λ n. n < 2);
    }

-- so is what is equal to it, if there is one
pub sound_result : {E : Type 0} (r : Result Doc E) (pods seed : ℕ) → IsPods pods → IfOk r (λ doc. doc ≡ generated pods seed) → IfOk r IsSoundDoc
sound_result (Ok doc) pods seed is same = subst IsSoundDoc (sym same) (sound pods seed is)
sound_result (Err e) pods seed is same = tt
