-- One token after another, up to the first that is bad.
use Rattle.std.specs.Prelude.{◌≡◌, Result, Ok, Err}
use Rattle.st_token.specs.declared.fault.FaultKind.{FaultKind}
use Rattle.st_token.specs.declared.fault.LineError.{LineError}
use Rattle.st_token.specs.declared.fault.LineError.TheVariants as errors

infixl 10 ◌>>=◌
-- what comes of a value that was read, or the fault that stands in its place
abbrev pub ◌>>=◌ : {A B E : Type 0} → Result A E → (A → Result B E) → Result B E
(Ok x) >>= f = f x
(Err e) >>= f = Err e

-- want of memory says nothing of the text, and a fault is the text's
abbrev pub Fails : {Y : Type 0} → LineError → Result Y FaultKind → Type 0
Fails errors.Memory read = Unit {0}
Fails (errors.Bad kind) read = read ≡ Err kind

-- what was returned, seen by view, is what reading gives, unless memory ran out
abbrev pub Gives : {X Y : Type 0} → (X → Y) → Result X LineError → Result Y FaultKind → Type 0
Gives view (Ok x) read = read ≡ Ok (view x)
Gives view (Err e) read = Fails e read
