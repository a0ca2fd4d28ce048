use Rattle.std.proofs.Common.{◌≤◌, ◌-◌, length, take, drop}
use Rattle.cow_map.specs.Places.{AreBelow, AreAbove}
use Rattle.cow_map.proofs.rows.place_of.Given as goal

abbrev pub invariant-loop-low : goal.invariant-loop-low
invariant-loop-low g l = (l.low ≤ l.high) × (l.high ≤ length l.rows) × AreBelow g.K.Ord.cmp (take l.low l.rows) l.key × AreAbove g.K.Ord.cmp (drop l.high l.rows) l.key

abbrev pub decreases-loop-low : goal.decreases-loop-low
decreases-loop-low g l = l.high - l.low
