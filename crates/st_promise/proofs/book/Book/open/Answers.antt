use Rattle.std.proofs.Common.{ap, sym, ◌∙◌, length}
use Rattle.std.specs.Prelude.{true}
use Rattle.std.proofs.lemmas.List.{length-map}
use Rattle.st_net.specs.Asks.{asks}
use Rattle.st_flow.specs.Network.{Network}
use Rattle.st_promise.proofs.KeptLaws.{edges_count}
use Rattle.st_promise.proofs.book.Book.open.Goals as goal

pub invariant_of-result : goal.invariant_of-result
invariant_of-result c =
    let links = c.args.topo.now.links in
    let whole = c.whole-2.view_is ∙ c.in_ok-whole.ensures in
    record {
      flows = record {
        needs_each = rw (c.in_ok-needs.ensures.needs, c.in_ok-asks_of.ensures) (length-map (asks c.args.topo.now) _);
        flows_each = rw c.in_ok-asks_of.ensures (c.in_ok-no_flows.ensures.count ∙ c.ask_count.ensures);
        each = λ i low. rw (c.in_ok-no_flows.ensures.none i) tt;
      };
      lists_each = c.in_ok-new.ensures ∙ c.link_count.ensures ∙ sym (ap (λ (net : Network). length net.edges) whole ∙ edges_count 0 links (λ e. true));
      entered = λ i. rw (c.in_ok-no_flows.ensures.none i) tt;
      failing = tt;
    }
