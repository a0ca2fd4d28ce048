use Rattle.std.proofs.Common.{◌≡◌, ◌≤◌, length}
use Rattle.front_tcp.proofs.Sending.{Sent}
use Rattle.front_tcp.proofs.serve.send.Given as goal

abbrev pub invariant-loop : goal.invariant-loop
invariant-loop g l =
    (goal.iterator-loop g).can_next l.iterator'
    × (goal.iterator-loop g).is_finite l.iterator'
    × (g.M.Machine.state l.machine ≡ g.M.Machine.state l.fn.machine)
    × Sent (g.M.Machine.waiting l.fn.machine) (g.T.Sink.contents l.fn.stream) (g.M.Machine.waiting l.machine) (g.T.Sink.contents l.stream)
    × (g.T.Source.left l.stream ≡ g.T.Source.left l.fn.stream)
    × (g.T.Source.faults l.stream ≡ g.T.Source.faults l.fn.stream)
    × (g.T.Sink.faults l.fn.stream ≤ g.T.Sink.faults l.stream)
    × (length l.output ≡ length l.fn.output)
