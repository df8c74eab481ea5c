-- So many rooms are open, and each pass is fresh in these; the worlds and the lines that are left are those of the rooms to come.
use Rattle.std.proofs.Common.{◌≡◌, ℕ, ◌+◌, ◌*◌, ◌<◌, ◌≤◌, [], length, get_or, vec_capacity}
use Rattle.st_world.specs.World.{WorldView}
use Rattle.st_service.specs.declared.start.RoomLines.{RoomLines}
use Rattle.st_service.specs.Opened.{IsFresh}
use Rattle.st_service.specs.Passes.{Holder}
use Rattle.st_service.proofs.start.open_all.Given as goal

abbrev pub invariant-loop-world : goal.invariant-loop-world
invariant-loop-world g l = record {
  count : length l.rooms.items + length l.world-iterator.rest.items ≡ length l.fn.worlds.items;
  capacity : length l.fn.worlds.items ≤ vec_capacity l.rooms;
  lines_left : length l.lines.rest.items ≡ length l.world-iterator.rest.items;
  same : length l.passes ≡ length l.fn.passes;
  parts : l.own.parts ≡ length l.world-iterator.rest.items + 1;
  amount : l.own.amount ≡ 200000 * length l.world-iterator.rest.items;
  histories : (k : ℕ) (d : WorldView) → k < length l.world-iterator.rest.items → (get_or l.world-iterator.rest.items k d).history ≡ record { group = g.J.Naming.group (length l.rooms.items + k); past = [] };
  plans : (k : ℕ) (d : WorldView) → k < length l.world-iterator.rest.items → (get_or l.world-iterator.rest.items k d).lines ≡ g.J.Naming.lines (length l.rooms.items + k);
  journals : (k : ℕ) (d : RoomLines) → k < length l.lines.rest.items → (get_or l.lines.rest.items k d).journal ≡ g.J.Naming.book (length l.rooms.items + k);
  boards : (k : ℕ) (d : RoomLines) → k < length l.lines.rest.items → (get_or l.lines.rest.items k d).board ≡ g.J.Naming.board (length l.rooms.items + k);
  fresh : (n : ℕ) (p : Holder) → n < length l.passes → IsFresh n (length l.rooms.items) (get_or l.passes n p);
}
