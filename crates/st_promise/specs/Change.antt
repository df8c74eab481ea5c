-- What a change of what is up does to an ask.
use Rattle.std.specs.Prelude.{◌≡◌, ℕ, Bool, true, false, ⊤}
use Rattle.st_net.specs.declared.entity.Entity.{Entity}
use Rattle.st_net.specs.Groups.{Group}
use Rattle.st_net.specs.Asks.{ask_of}
use Rattle.st_net.specs.Promises.{is_kept, is_broken, broken_at}
use Rattle.st_promise.specs.declared.change.Change.{Change}
use Rattle.st_promise.specs.declared.change.Change.TheVariants.{Holds, Failed, Breaks}

-- ask number i holds after; fails before and after; or is broken so
abbrev pub IsChange : Group → (Entity → Bool) → (Entity → Bool) → ℕ → Change → Type 0
IsChange g before after i Holds = is_kept g after (ask_of g i) ≡ true
IsChange g before after i Failed = (is_kept g before (ask_of g i) ≡ false) × (is_kept g after (ask_of g i) ≡ false)
IsChange g before after i (Breaks broken) = (is_broken g before after (ask_of g i) ≡ true) × (broken ≡ broken_at g after i (ask_of g i))

-- a fact, if the ask is broken
abbrev pub IfBreaks : Change → Type 0 → Type 0
IfBreaks Holds P = ⊤
IfBreaks Failed P = ⊤
IfBreaks (Breaks broken) P = P
