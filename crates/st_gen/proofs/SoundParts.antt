-- The group that is generated is sound.
use Rattle.std.proofs.Common.{◌≡◌, ℕ, refl}
use Rattle.std.specs.Prelude.{All, None, Option, flat_map}
use Rattle.std.proofs.lemmas.List.Elements.{All-append, All-map}
use Rattle.st_net.specs.declared.parts.TopoFault.{TopoFault}
use Rattle.st_net.specs.Faults.{fault_of, fault_or, twice_of, unknown_of, loop_of, cross_of, limit_of, pair_of}
use Rattle.st_grammar.specs.Sound.{HasOwnEnds, IsSoundGroup}
use Rattle.st_gen.specs.FatTrees.{numbers, half, tor_link, core_link, tor_links, core_links, pod_links, links, fat_tree}
use Rattle.st_gen.proofs.Numbers.{all_of, all_joined}
use Rattle.st_gen.proofs.Counted.{IsCounted}

none_of : (a b c d e f : Option TopoFault) → a ≡ None → b ≡ None → c ≡ None → d ≡ None → e ≡ None → f ≡ None → fault_or a (fault_or b (fault_or c (fault_or d (fault_or e f)))) ≡ None
none_of a b c d e f ha hb hc hd he hf = rw (ha, hb, hc, hd, he, hf) refl

built : (pods : ℕ) → IsCounted pods → fault_of (fat_tree pods) ≡ None
built pods c = none_of (twice_of (fat_tree pods)) (unknown_of (fat_tree pods)) (loop_of (fat_tree pods)) (cross_of (fat_tree pods)) (limit_of (fat_tree pods)) (pair_of (fat_tree pods)) c.twice c.unknown c.loop c.cross c.limit c.pair

own_tor_links : (h p i : ℕ) → All HasOwnEnds (tor_links h p i)
own_tor_links h p i = All-map HasOwnEnds (tor_link p i) (numbers h) (all_of (λ j. HasOwnEnds (tor_link p i j)) (λ j. record { a = refl; b = refl }) (numbers h))

own_core_links : (h p j : ℕ) → All HasOwnEnds (core_links h p j)
own_core_links h p j = All-map HasOwnEnds (core_link h p j) (numbers h) (all_of (λ m. HasOwnEnds (core_link h p j m)) (λ m. record { a = refl; b = refl }) (numbers h))

own_pod_links : (h p : ℕ) → All HasOwnEnds (pod_links h p)
own_pod_links h p = All-append HasOwnEnds (flat_map (tor_links h p) (numbers h)) (flat_map (core_links h p) (numbers h))
    (all_joined HasOwnEnds (tor_links h p) (numbers h) (all_of (λ i. All HasOwnEnds (tor_links h p i)) (own_tor_links h p) (numbers h)))
    (all_joined HasOwnEnds (core_links h p) (numbers h) (all_of (λ j. All HasOwnEnds (core_links h p j)) (own_core_links h p) (numbers h)))

own_links : (pods : ℕ) → All HasOwnEnds (links pods)
own_links pods = all_joined HasOwnEnds (pod_links (half pods)) (numbers pods) (all_of (λ p. All HasOwnEnds (pod_links (half pods) p)) (own_pod_links (half pods)) (numbers pods))

pub sound_tree : (pods : ℕ) → IsCounted pods → IsSoundGroup (fat_tree pods)
sound_tree pods c = record { name = refl; named_devices = c.named_devices; named_links = c.named_links; built = built pods c; ends = own_links pods }
