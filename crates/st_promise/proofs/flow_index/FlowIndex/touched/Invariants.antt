use Rattle.std.proofs.Common.{◌≡◌, ℕ, ◌<◌, length, true}
use Rattle.std.specs.Prelude.{false, slice_index_or}
use Rattle.st_net.specs.Groups.{no_link}
use Rattle.st_net.specs.Sets.{is_in}
use Rattle.st_net.specs.UpGraph.{is_up_link}
use Rattle.st_net.specs.Asks.{ask_count}
use Rattle.st_flow.specs.Rows.{row_at}
use Rattle.st_promise.specs.Reach.{is_member}
use Rattle.st_promise.proofs.flow_index.FlowIndex.touched.Given as goal

abbrev pub invariant-loop-link : goal.invariant-loop-link
invariant-loop-link l = record {
  count : length l.touched.items ≡ ask_count l.topo;
  untouched : (i link : ℕ) → i < ask_count l.topo → slice_index_or l.touched.items i false ≡ false → link < l.link → is_member (row_at l.self.lists.items link) i ≡ true → is_up_link (is_in l.up) link (slice_index_or l.topo.links link no_link) ≡ true;
}
