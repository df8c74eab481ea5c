use Rattle.std.proofs.Common.{◌≡◌, map, take}
use Rattle.st_replay.proofs.replaying.app_names.Given as goal

-- the names of the applications so far
abbrev pub invariant-loop-script : goal.invariant-loop-script
invariant-loop-script l = l.names.items ≡ map (λ script. script.name) (take l.script-index l.apps)
