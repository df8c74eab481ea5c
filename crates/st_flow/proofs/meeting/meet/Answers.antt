use Rattle.std.proofs.Common.{arith, All, ap}
use Rattle.st_flow.specs.Network.{IsEdge}
use Rattle.st_flow.proofs.Running.{IsRunning-closed, IsFurther-more}
use Rattle.st_flow.proofs.SearchLemmas.{IsApart-sym}
use Rattle.st_flow.proofs.Meetings.{IsMeeting-across}
use Rattle.st_flow.proofs.meeting.meet.Goals as goal

pub returns-in-Some-clause-round : goal.returns-in-Some-clause-round
returns-in-Some-clause-round c =
    let done = c.in_ok-met.ensures in
    record {
      along = c.steps.invariant.round.along;
      against = done.running;
      apart = IsApart-sym c.step.new.self.marks.items c.steps.near.marks.items (rw c.as_slice.ensures.value at done.apart);
    }

pub returns-in-Some-clause-met : goal.returns-in-Some-clause-met
returns-in-Some-clause-met c =
    let edges_fit : All (IsEdge c.args.g.now.nodes) c.args.g.now.edges = rw (← c.g.view_is) c.g.invariant.edges_fit in
    let met = rw (c.in-Some.is, c.as_slice.ensures.value) at c.in_ok-met.ensures.met in
    rw (c.other-from.ensures, c.as_slice-edges.ensures.value, ap (λ g. g.edges) c.g.view_is)
    (IsMeeting-across c.args.g.now.nodes c.args.g.now.edges c.args.amounts.now c.step.new.self.marks.items c.steps.near.marks.items c.in-Some.meeting.edge c.in-Some.meeting.from edges_fit met)

pub returns-in-Some-met-clause-round : goal.returns-in-Some-met-clause-round
returns-in-Some-met-clause-round c =
    let done = c.in_ok-met-2.ensures in
    record {
      along = done.running;
      against = c.steps.invariant.round.against;
      apart = rw c.as_slice-else-waiting-gt0.ensures.value at done.apart;
    }

-- the search against the flow went on
pub steps-preserved-then-waiting : goal.steps-preserved-then-waiting
steps-preserved-then-waiting c =
    let inv = c.steps.invariant in
    let done = c.in_ok-met.ensures in
    record {
      near = inv.near;
      far = IsFurther-more c.args.far.now c.steps.far _ inv.far done.on;
      round = record {
        along = inv.round.along;
        against = done.running;
        apart = IsApart-sym c.step.new.self.marks.items c.steps.near.marks.items (rw c.as_slice.ensures.value at done.apart);
      };
    }

-- the search along the flow went on
pub steps-preserved : goal.steps-preserved
steps-preserved c =
    let inv = c.steps.invariant in
    let done = c.in_ok-met-2.ensures in
    record {
      near = IsFurther-more c.args.near.now c.steps.near _ inv.near done.on;
      far = inv.far;
      round = record {
        along = done.running;
        against = inv.round.against;
        apart = rw c.as_slice-else-waiting-gt0.ensures.value at done.apart;
      };
    }

pub returns-clause-closed : goal.returns-clause-closed
returns-clause-closed c =
    let edges_fit : All (IsEdge c.args.g.now.nodes) c.args.g.now.edges = rw (← c.g.view_is) c.g.invariant.edges_fit in
    IsRunning-closed c.args.g.now.nodes c.args.g.now.edges c.args.amounts.now c.steps.near.start _ c.steps.near.next c.steps.near.marks.items c.steps.near.queue.items
    c.steps.invariant.round.along (omega (arith, c.steps-test.false, c.waiting.ensures)) edges_fit c.requires.fits
