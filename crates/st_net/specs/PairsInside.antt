-- Of no concern to callers: pairs of ToRs by their numbers, and what they tell of promises.
use Rattle.std.specs.Prelude.{◌≡◌, ℕ, List, Bool, true, not, ◌&&◌, Some, bytes_eq}
use Rattle.st_net.specs.declared.pairs.Pair.{Pair}
use Rattle.st_net.specs.declared.parts.DevicePart.{DevicePart}
use Rattle.st_net.specs.declared.parts.PromisePart.{PromisePart}
use Rattle.st_net.specs.Names.{place_of}
use Rattle.st_net.specs.Faults.{device_names, is_tor_name, was_promised}
use Rattle.st_net.specs.Pairs.{is_paired}

-- the device of this name and number is a ToR
pub record IsTorOf (devices : List DevicePart) (name : List ℕ) (number : ℕ) : Type 0 where
  pub place : place_of name (device_names devices) ≡ Some number
  pub tor : is_tor_name devices name ≡ true

-- whether the ends of a promise are two ToRs
abbrev pub are_two_tors : List DevicePart → PromisePart → Bool
are_two_tors devices p = is_tor_name devices p.a && is_tor_name devices p.b && not (bytes_eq p.a p.b)

-- they are two, of these numbers
pub record IsPairOf (devices : List DevicePart) (p : PromisePart) (pair : Pair) : Type 0 where
  pub a : place_of p.a (device_names devices) ≡ Some pair.a
  pub b : place_of p.b (device_names devices) ≡ Some pair.b
  pub tors : are_two_tors devices p ≡ true

-- the pairs tell of any two names whether they were promised
abbrev pub TellPromised : List (List ℕ) → List PromisePart → List Pair → Type 0
TellPromised devices promises pairs = (a b : List ℕ) (i j : ℕ) → place_of a devices ≡ Some i → place_of b devices ≡ Some j → was_promised a b promises ≡ is_paired i j pairs
