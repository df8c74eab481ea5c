use Rattle.std.proofs.Common.{◌≡◌, ◌+◌, ◌-◌, ◌≤◌, length, vec_len}
use Rattle.std.specs.Io.KnownBytes.{Consumes}
use Rattle.st_io.specs.declared.reading.TheConstants.{MAX_BYTES}
use Rattle.st_io.proofs.reading.read_all.Given as goal

-- the bytes so far were read
abbrev pub invariant-loop-buf : goal.invariant-loop-buf
invariant-loop-buf g l = record {
  consumed : Consumes (g.S.Source.left l.fn.source) (g.S.Source.left l.source) l.bytes.items;
  still : g.S.Source.faults l.source ≡ g.S.Source.faults l.fn.source;
  few : length l.bytes.items ≤ MAX_BYTES + 1;
}

abbrev pub decreases-loop-buf : goal.decreases-loop-buf
decreases-loop-buf g l = MAX_BYTES + 1 - vec_len l.bytes
