-- The next bytes, at the front of a buffer.
use Rattle.std.proofs.Common.{◌≡◌, ℕ, ◌+◌, ◌-◌, ◌<◌, ◌≤◌, List, ◌++◌, length, take, drop, refl, ap, ◌∙◌, arith, length-append, length-drop}
use Rattle.std.proofs.lemmas.List.{take_at, length-take-le}
use Rattle.std.proofs.lemmas.List.Folds.{drop_split}
use Rattle.st_io.specs.Outside.{IsPrefixLen}

pub next_given : (bytes buf new : List ℕ) (at n : ℕ) → 0 < n → n ≤ length buf → at + n ≤ length bytes → new ≡ take (at + n - at) (drop at bytes) → (0 < n) × IsPrefixLen n (new ++ drop n buf) × (drop at bytes ≡ take n (new ++ drop n buf) ++ drop (at + n) bytes)
next_given bytes buf new at n some fits within given =
    let count : at + n - at ≡ n = omega arith in
    let given_n : new ≡ take n (drop at bytes) = given ∙ ap (λ k. take k (drop at bytes)) count in
    let long : n ≤ length (drop at bytes) = omega (arith, length-drop at bytes) in
    let len : length new ≡ n = ap length given_n ∙ length-take-le n (drop at bytes) long in
    let front = take_at new (drop n buf) n len in
    (some, (omega (arith, length-append new (drop n buf)), rw (front, len) refl), rw (front, given) (drop_split bytes at (at + n) (omega arith)))
