use Rattle.std.proofs.Common.{◌≡◌, drop}
use Rattle.st_net.specs.Names.{are_name_bytes}
use Rattle.st_net.proofs.name.is_name.Given as goal

abbrev pub invariant-loop-byte : goal.invariant-loop-byte
invariant-loop-byte l = are_name_bytes (drop l.byte-index l.bytes) ≡ are_name_bytes l.bytes
