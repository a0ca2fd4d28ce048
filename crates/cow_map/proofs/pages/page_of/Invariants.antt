use Rattle.std.proofs.Common.{◌<◌, ◌≤◌, ◌-◌, length, take, drop}
use Rattle.cow_map.specs.Rows.{all_rows}
use Rattle.cow_map.specs.Places.{AreBelow, AreAbove}
use Rattle.cow_map.proofs.pages.page_of.Given as goal

abbrev pub invariant-loop-high : goal.invariant-loop-high
invariant-loop-high g l = (l.low < l.high) × (l.high ≤ length l.pages) × AreBelow g.K.Ord.cmp (all_rows (take l.low l.pages)) l.key × AreAbove g.K.Ord.cmp (all_rows (drop l.high l.pages)) l.key

abbrev pub decreases-loop-high : goal.decreases-loop-high
decreases-loop-high g l = l.high - l.low
