use Rattle.std.proofs.Common.{◌<◌, ◌≤◌, ◌-◌, length, take, drop}
use Rattle.cow_map.specs.Rows.{all_rows}
use Rattle.cow_map.specs.Places.{AreBefore, AreFrom}
use Rattle.cow_map.proofs.start.page_from.Given as goal

abbrev pub invariant-loop-high : goal.invariant-loop-high
invariant-loop-high g l = (l.low < l.high) × (l.high ≤ length l.pages) × AreBefore (g.S.Start.from l.start) (all_rows (take l.low l.pages)) × AreFrom (g.S.Start.from l.start) (all_rows (drop l.high l.pages))

abbrev pub decreases-loop-high : goal.decreases-loop-high
decreases-loop-high g l = l.high - l.low
