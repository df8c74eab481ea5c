use Rattle.std.proofs.Common.{◌≡◌, ◌+◌, drop, option_map}
use Rattle.st_journal.specs.ReplyReading.{promise_place}
use Rattle.st_journal.proofs.reader.causes.promise_place.Given as goal

-- none of the promises so far has these ends
abbrev pub invariant-loop-place : goal.invariant-loop-place
invariant-loop-place l = promise_place l.a l.b l.topo.promises ≡ option_map (λ n. l.place + n) (promise_place l.a l.b (drop l.place l.topo.promises))
