use Rattle.std.proofs.Common.{◌≡◌, ◌+◌, ◌-◌, ◌≤◌}
use Rattle.world_core.specs.World.{nodes_from}
use Rattle.world_core.proofs.nodes.new_nodes.Given as goal

abbrev pub invariant-loop-next : goal.invariant-loop-next
invariant-loop-next l = (l.next ≤ l.initial.n) × (l.nodes.items ≡ nodes_from l.initial.suffix (l.next + 1) (l.initial.n - l.next))

abbrev pub decreases-loop-next : goal.decreases-loop-next
decreases-loop-next l = l.next
