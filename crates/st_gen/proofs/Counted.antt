-- What the prover computes for each number of pods.
use Rattle.std.proofs.Common.{◌≡◌, ℕ, ◌+◌, ◌≤◌, ◌%◌, length, refl, ap, subst, sym, inl, inr, arith}
use Rattle.std.specs.Prelude.{true, None, nat_lt, nat_le, flat_map, ◌⊎◌}
use Rattle.std.specs.Fmt.{digits}
use Rattle.std.specs.List.{list_all}
use Rattle.std.proofs.Math.Nat.{eq-or-lt_of_le}
use Rattle.st_net.specs.Groups.{are_names}
use Rattle.st_net.specs.Ranges.{are_apart}
use Rattle.st_net.specs.Faults.{twice_of, unknown_of, loop_of, cross_of, limit_of, pair_of, device_names, link_names}
use Rattle.st_gen.specs.FatTrees.{numbers, half, devices, links, fat_tree}
use Rattle.st_gen.specs.Scripts.{aggregation_number, first_core, stage_rows, pod_rows, stage}
use Rattle.st_gen.specs.Generated.{IsPods}

-- the names are spelled as names; the group has none of the six faults; the rows of a proposal name devices, and different ones
pub record IsCounted (pods : ℕ) : Type 0 where
  pub named_devices : are_names (device_names (devices pods)) ≡ true
  pub named_links : are_names (link_names (links pods)) ≡ true
  pub twice : twice_of (fat_tree pods) ≡ None
  pub unknown : unknown_of (fat_tree pods) ≡ None
  pub loop : loop_of (fat_tree pods) ≡ None
  pub cross : cross_of (fat_tree pods) ≡ None
  pub limit : limit_of (fat_tree pods) ≡ None
  pub pair : pair_of (fat_tree pods) ≡ None
  pub within : list_all (λ p. list_all (λ j. nat_lt (aggregation_number (half pods) p j) (length (devices pods))) (numbers (half pods))) (numbers pods) ≡ true
  pub core : nat_lt (first_core pods) (length (devices pods)) ≡ true
  pub stages : (value : ℕ) → list_all (λ j. are_apart (stage_rows pods value j)) (numbers (half pods)) ≡ true
  pub whole : (value : ℕ) → list_all (λ p. are_apart (pod_rows pods value p)) (numbers pods) ≡ true
  pub few : (value : ℕ) → nat_le (length (flat_map (stage pods value) (numbers (half pods)))) 1000 ≡ true

counted_4 : IsCounted 4
unfolding digits
counted_4 = record {
  named_devices = refl;
  named_links = refl;
  twice = refl;
  unknown = refl;
  loop = refl;
  cross = refl;
  limit = refl;
  pair = refl;
  within = refl;
  core = refl;
  stages = λ value. refl;
  whole = λ value. refl;
  few = λ value. refl;
}

counted_6 : IsCounted 6
unfolding digits
counted_6 = record {
  named_devices = refl;
  named_links = refl;
  twice = refl;
  unknown = refl;
  loop = refl;
  cross = refl;
  limit = refl;
  pair = refl;
  within = refl;
  core = refl;
  stages = λ value. refl;
  whole = λ value. refl;
  few = λ value. refl;
}

counted_8 : IsCounted 8
unfolding digits
counted_8 = record {
  named_devices = refl;
  named_links = refl;
  twice = refl;
  unknown = refl;
  loop = refl;
  cross = refl;
  limit = refl;
  pair = refl;
  within = refl;
  core = refl;
  stages = λ value. refl;
  whole = λ value. refl;
  few = λ value. refl;
}

-- each of these computes long, and has steps of its own
named_devices_10 : are_names (device_names (devices 10)) ≡ true
unfolding digits
named_devices_10 = refl

named_links_10 : are_names (link_names (links 10)) ≡ true
unfolding digits
named_links_10 = refl

twice_10 : twice_of (fat_tree 10) ≡ None
unfolding digits
twice_10 = refl

unknown_10 : unknown_of (fat_tree 10) ≡ None
unfolding digits
unknown_10 = refl

limit_10 : limit_of (fat_tree 10) ≡ None
unfolding digits
limit_10 = refl

pair_10 : pair_of (fat_tree 10) ≡ None
unfolding digits
pair_10 = refl

counted_10 : IsCounted 10
unfolding digits
counted_10 = record {
  named_devices = named_devices_10;
  named_links = named_links_10;
  twice = twice_10;
  unknown = unknown_10;
  loop = refl;
  cross = refl;
  limit = limit_10;
  pair = pair_10;
  within = refl;
  core = refl;
  stages = λ value. refl;
  whole = λ value. refl;
  few = λ value. refl;
}

odd : (n pods : ℕ) → n ≡ pods → pods % 2 ≡ 0 → n % 2 ≡ 1 → ⊥
odd n pods is even left = let same : n % 2 ≡ pods % 2 = ap (λ (k : ℕ). k % 2) is in omega arith

-- a number is the bound, or at least the next one
step : (m n : ℕ) → m ≤ n → (n ≡ m) ⊎ (m + 1 ≤ n)
step m n low = elim (eq-or-lt_of_le low) [
  | inl is ↦ inl (sym is)
  | inr above ↦ inr (omega arith)
]

-- an even number from 4 to 10 is one of four
one_of : (pods : ℕ) → IsPods pods → (pods ≡ 4) ⊎ ((pods ≡ 6) ⊎ ((pods ≡ 8) ⊎ (pods ≡ 10)))
one_of pods is =
    let most : pods ≤ 10 = is.most in
    let even : pods % 2 ≡ 0 = is.even in
    elim (step 4 pods is.least) [
      | inl e ↦ inl e
      | inr l5 ↦ elim (step 5 pods l5) [
        | inl e ↦ absurd (odd 5 pods (sym e) even refl)
        | inr l6 ↦ elim (step 6 pods l6) [
          | inl e ↦ inr (inl e)
          | inr l7 ↦ elim (step 7 pods l7) [
            | inl e ↦ absurd (odd 7 pods (sym e) even refl)
            | inr l8 ↦ elim (step 8 pods l8) [
              | inl e ↦ inr (inr (inl e))
              | inr l9 ↦ elim (step 9 pods l9) [
                | inl e ↦ absurd (odd 9 pods (sym e) even refl)
                | inr l10 ↦ inr (inr (inr (omega arith)))
              ]
            ]
          ]
        ]
      ]
    ]

pub counted : (pods : ℕ) → IsPods pods → IsCounted pods
counted pods is = elim (one_of pods is) [
  | inl e ↦ subst IsCounted (sym e) counted_4
  | inr more ↦ elim more [
    | inl e ↦ subst IsCounted (sym e) counted_6
    | inr more ↦ elim more [
      | inl e ↦ subst IsCounted (sym e) counted_8
      | inr e ↦ subst IsCounted (sym e) counted_10
    ]
  ]
]
