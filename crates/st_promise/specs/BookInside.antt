-- Of no concern to callers: what the type of a book keeps of the flows, their index and the failing asks in it.
use Rattle.std.specs.Prelude.{◌≡◌, ℕ, List, length, Vec, Option, IfSome}
use Rattle.std.specs.declared.alloc.Global.{Global}
use Rattle.st_net.specs.Groups.{Group}
use Rattle.st_net.specs.Asks.{ask_count}
use Rattle.st_net.specs.Sets.{MarksOf, is_in}
use Rattle.st_promise.specs.declared.kept_flow.KeptFlow.{KeptFlow}
use Rattle.st_promise.specs.declared.failing.Failing.{Failing}
use Rattle.st_promise.specs.KeptFlow.{AreKeptFlows}
use Rattle.st_promise.specs.FlowIndex.{AreEntered}
use Rattle.st_promise.specs.Book.{BookOf, IsBookOf, AreFailing}

-- in each group that has this book the marked asks fail while these entities are up
abbrev pub AreFound : BookOf → Failing → Type 0
AreFound book f = (g : Group) → IsBookOf g book → MarksOf g f.up × (length f.marks.items ≡ ask_count g) × AreFailing g (is_in f.up) f.marks.items

pub record IsBook (book : BookOf) (kept : List (Option KeptFlow)) (lists : List (Vec ℕ Global)) (found : Option Failing) : Type 0 where
  pub flows : AreKeptFlows book.whole book.asks book.needs kept
  pub lists_each : length lists ≡ length book.whole.edges
  pub entered : AreEntered lists kept
  pub failing : IfSome found (AreFound book)
