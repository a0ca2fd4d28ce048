use Rattle.std.proofs.Common.{◌≡◌, ◌≤◌, ◌<◌, [], false, length}
use Rattle.front_tcp.proofs.Going.{Going}
use Rattle.front_tcp.proofs.serve.serve.Given as goal

abbrev pub invariant-loop : goal.invariant-loop
invariant-loop g l =
    (goal.iterator-loop g).can_next l.iterator'
    × (goal.iterator-loop g).is_finite l.iterator'
    × (g.M.Machine.waiting l.machine ≡ [])
    × (g.M.Machine.is_ended (g.M.Machine.state l.machine) ≡ false)
    × (0 < length l.input)
    × (0 < length l.output)
    × Going g.M.Machine.adds (g.M.Machine.state l.fn.machine) (g.M.Machine.waiting l.fn.machine) (g.T.Source.left l.fn.stream) (g.T.Sink.contents l.fn.stream) (g.M.Machine.state l.machine) (g.T.Source.left l.stream) (g.T.Sink.contents l.stream)
    × (g.T.Source.faults l.fn.stream ≤ g.T.Source.faults l.stream)
    × (g.T.Sink.faults l.fn.stream ≤ g.T.Sink.faults l.stream)
