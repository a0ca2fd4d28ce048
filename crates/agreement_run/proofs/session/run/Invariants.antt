use Rattle.std.proofs.Common.{◌≤◌}
use Rattle.agreement_run.specs.Sides.{sides}
use Rattle.agreement_run.specs.Running.{Goes}
use Rattle.agreement_run.proofs.session.run.Given as goal

abbrev pub invariant-loop : goal.invariant-loop
invariant-loop g l =
    (goal.iterator-loop g).can_next l.iterator'
    × (goal.iterator-loop g).is_finite l.iterator'
    × Goes g.S.Supply.supplying l.fn.supplier l.fn.supply (sides (g.T.Source.left l.fn.stream) (g.T.Sink.contents l.fn.stream) (g.T.Source.faults l.fn.stream) (g.T.Sink.faults l.fn.stream)) l.supplier l.supply l.inbox (g.T.Source.left l.stream) (g.T.Sink.contents l.stream)
    × (g.T.Source.faults l.fn.stream ≤ g.T.Source.faults l.stream)
    × (g.T.Sink.faults l.fn.stream ≤ g.T.Sink.faults l.stream)
