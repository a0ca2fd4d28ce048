use Rattle.std.proofs.Common.{◌≡◌, ◌≤◌, ◌-◌, length, replicate}
use Rattle.dir_top.specs.declared.state.Connection.TheVariants.{Closed}
use Rattle.dir_top.proofs.state.no_connections.Given as goal

abbrev pub invariant-loop-connections : goal.invariant-loop-connections
invariant-loop-connections l = (l.connections ≡ replicate (length l.connections) Closed) × (length l.connections ≤ 64)

abbrev pub decreases-loop-connections : goal.decreases-loop-connections
decreases-loop-connections l = 64 - length l.connections
