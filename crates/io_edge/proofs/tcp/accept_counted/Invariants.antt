use Rattle.std.proofs.Common.{◌≤◌}
use Rattle.io_edge.proofs.tcp.accept_counted.Given as goal

-- the count does not fall
abbrev pub invariant-loop : goal.invariant-loop
invariant-loop g l = l.initial.faults ≤ l.faults
