use Rattle.std.proofs.Common.{vec_len}
use Rattle.world_core.specs.State.{world_of}
use Rattle.world_core.specs.Taken.{IsKept}
use Rattle.world_core.proofs.state.WorldState.end_all.Given as goal

abbrev pub invariant-loop-self : goal.invariant-loop-self
invariant-loop-self l = IsKept (world_of l.self)

abbrev pub decreases-loop-self : goal.decreases-loop-self
decreases-loop-self l = vec_len l.self.tickets
