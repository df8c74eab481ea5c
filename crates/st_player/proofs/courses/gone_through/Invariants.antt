use Rattle.std.proofs.Common.{◌≡◌, take}
use Rattle.std.specs.Prelude.{reverse}
use Rattle.st_player.proofs.courses.gone_through.Given as goal

-- it has gone through the entries so far
abbrev pub invariant-loop-entry : goal.invariant-loop-entry
invariant-loop-entry l = l.playback ≡ record { group = l.fn.opened.group; past = reverse (take l.entry-index l.entries) }
