use Rattle.std.proofs.Common.{map, drop, length}
use Rattle.st_player.specs.Pictures.{groups_data, room_of}
use Rattle.st_player.proofs.JoinLemmas.{IsJoined}
use Rattle.st_player.proofs.pictures.write_groups.Given as goal

-- the groups so far were written, and the others are left
abbrev pub invariant-loop-i : goal.invariant-loop-i
invariant-loop-i l =
    IsJoined (groups_data l.apps l.from (room_of (length l.topos)) l.topos (map (λ journal. journal.entries) l.journals))
    (groups_data l.apps l.from (room_of (length l.topos)) (drop l.i l.topos) (map (λ journal. journal.entries) (drop l.i l.journals))) l.i l.fn.out l.out
