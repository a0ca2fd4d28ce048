use Rattle.std.proofs.Common.{◌≤◌, ◌-◌, length, take, drop}
use Rattle.cow_map.specs.Places.{AreBefore, AreFrom}
use Rattle.cow_map.proofs.start.row_from.Given as goal

abbrev pub invariant-loop-low : goal.invariant-loop-low
invariant-loop-low g l = (l.low ≤ l.high) × (l.high ≤ length l.rows) × AreBefore (g.S.Start.from l.start) (take l.low l.rows) × AreFrom (g.S.Start.from l.start) (drop l.high l.rows)

abbrev pub decreases-loop-low : goal.decreases-loop-low
decreases-loop-low g l = l.high - l.low
