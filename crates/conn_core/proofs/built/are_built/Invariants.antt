use Rattle.std.proofs.Common.{◌≤◌, ◌-◌, length}
use Rattle.conn_core.proofs.Builts.{AsFar}
use Rattle.conn_core.proofs.built.are_built.Given as goal

abbrev pub invariant-loop-at : goal.invariant-loop-at
invariant-loop-at l = record { within : l.at ≤ length l.stream; far : AsFar l.stream l.at }

abbrev pub decreases-loop-at : goal.decreases-loop-at
decreases-loop-at l = length l.stream - l.at
