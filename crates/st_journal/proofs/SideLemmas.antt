-- Devices that ascend, and tokens that are cut.
use Rattle.std.proofs.Common.{◌≡◌, ◌≢◌, ℕ, zero, suc, ◌+◌, ◌-◌, ◌<◌, ◌≤◌, List, [], ◌∷◌, ◌++◌, length, get_or, take, drop, map, cond, subst, refl, arith, length-append}
use Rattle.std.specs.Prelude.{Bool, true, false, ◌==◌, Ok, Err}
use Rattle.std.specs.List.Sorted.{IsStrictlyIncreasing}
use Rattle.std.proofs.lemmas.Bool.Decides.{nat_tests}
use Rattle.std.proofs.lemmas.List.{get_or_append_left}
use Rattle.std.proofs.Math.Seq.{get_or-append_seam}
use Rattle.st_net.specs.Groups.{Group}
use Rattle.st_token.proofs.ReadTokens.{came_from, chose}
use Rattle.st_token.specs.declared.fault.FaultKind.TheVariants as kinds
use Rattle.st_journal.specs.ReplyReading.{device_in, is_behind, devices_in, cut_behind}

rising_at : (d : ℕ) (xs : List ℕ) → is_behind xs d ≡ true → IsStrictlyIncreasing xs → (k : ℕ) (p : Bool) → (k + 1 == length xs) ≡ p → k + 1 < length (xs ++ d ∷ []) → get_or (xs ++ d ∷ []) k 0 < get_or (xs ++ d ∷ []) (k + 1) 0
rising_at d xs behind up k true is small =
    let same : k + 1 ≡ length xs = grind (arith, nat_tests) in
    let before : k < length xs = omega (arith, same) in
    let last : length xs - 1 ≡ k = omega (arith, same) in
    let less : get_or xs (length xs - 1) 0 < d = grind (arith, nat_tests) in
    rw (same, get_or-append_seam xs d [] 0, get_or_append_left xs (d ∷ []) 0 k before, ← last) less
rising_at d xs behind up k false is small =
    let other : k + 1 ≢ length xs = grind (arith, nat_tests) in
    let next : k + 1 < length xs = omega (arith, other, length-append xs (d ∷ [])) in
    let before : k < length xs = omega (arith, next) in
    rw (get_or_append_left xs (d ∷ []) 0 (k + 1) next, get_or_append_left xs (d ∷ []) 0 k before) (up k next)

-- one more device behind the last
pub rising_more : (d : ℕ) (xs : List ℕ) → is_behind xs d ≡ true → IsStrictlyIncreasing xs → IsStrictlyIncreasing (xs ++ d ∷ [])
rising_more d xs behind up = λ k small. rising_at d xs behind up k (k + 1 == length xs) refl small

-- devices that were read ascend
pub devices_rise : (g : Group) (tokens : List (List ℕ)) (front devices : List ℕ) → IsStrictlyIncreasing front → devices_in g front tokens ≡ Ok devices → IsStrictlyIncreasing devices
unfolding devices_in
devices_rise g [] front devices up is = let same : front ≡ devices = cc in subst (λ (ds : List ℕ). IsStrictlyIncreasing ds) same up
devices_rise g (token ∷ tokens) front devices up is =
    let d = came_from (device_in g token) _ devices is in
    let next = came_from (cond (is_behind front d.0) (Ok d.0) (Err kinds.Twice)) _ devices d.2 in
    let behind = chose (is_behind front d.0) d.0 next.0 kinds.Twice next.1 in
    devices_rise g tokens (front ++ next.0 ∷ []) devices (rising_more next.0 front (subst (λ (n : ℕ). is_behind front n ≡ true) behind.1 behind.0) up) next.2

-- tokens that are cut
pub cut_few : {T : Type 0} (f : T → List ℕ) (n : ℕ) (ts : List T) → length ts < n → cut_behind n (map f ts) ≡ Err kinds.Count
unfolding cut_behind
cut_few f zero ts less = absurd (omega arith)
cut_few f (suc n) [] less = refl
cut_few f (suc n) (t ∷ ts) less = rw (cut_few f n ts (omega arith)) refl

pub cut_enough : {T : Type 0} (f : T → List ℕ) (n : ℕ) (ts : List T) → n ≤ length ts → cut_behind n (map f ts) ≡ Ok (map f (take n ts), map f (drop n ts))
unfolding cut_behind
cut_enough f zero ts less = refl
cut_enough f (suc n) [] less = absurd (omega arith)
cut_enough f (suc n) (t ∷ ts) less = rw (cut_enough f n ts (omega arith)) refl
