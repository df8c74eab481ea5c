use Rattle.std.proofs.Common.{◌≡◌, ◌+◌, drop, option_map}
use Rattle.st_net.specs.Names.{place_of}
use Rattle.st_journal.specs.JournalLines.{group_names}
use Rattle.st_journal.proofs.reader.groups.place_among.Given as goal

-- the place is that among the names that are left, behind those that were looked at
abbrev pub invariant-loop-place : goal.invariant-loop-place
invariant-loop-place l = place_of l.name (group_names l.topos) ≡ option_map (λ k. l.place + k) (place_of l.name (group_names (drop l.place l.topos)))
