use Rattle.std.proofs.Common.{◌≡◌, ◌++◌, take, drop}
use Rattle.std.specs.Prelude.{reverse}
use Rattle.st_player.specs.Pictures.{entries_data, fitting}
use Rattle.st_player.specs.Steps.{IsSnapshot}
use Rattle.st_player.proofs.JoinLemmas.{IsJoined}
use Rattle.st_player.proofs.courses.write_entries.Given as goal

-- where the group stands behind the entries so far; these were written, and those are left that there is room for behind them
abbrev pub invariant-loop-i : goal.invariant-loop-i
invariant-loop-i l =
    (l.playback ≡ record { group = l.fn.begun.playback.group; past = reverse (take l.i l.entries) ++ l.fn.begun.playback.past })
    × IsSnapshot l.playback l.shown
    × IsJoined (fitting l.fn.room (entries_data l.fn.begun.playback.group l.apps l.fn.begun.playback.past l.entries))
    (fitting l.left (entries_data l.fn.begun.playback.group l.apps (reverse (take l.i l.entries) ++ l.fn.begun.playback.past) (drop l.i l.entries))) l.i l.fn.out l.out
