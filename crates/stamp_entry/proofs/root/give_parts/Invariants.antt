use Rattle.std.proofs.Common.{◌≡◌, ◌≤◌, length, drop}
use Rattle.stamp_entry.specs.Ordered.{AreOrdered}
use Rattle.stamp_entry.specs.First.{given_parts}
use Rattle.stamp_entry.proofs.root.give_parts.Given as goal

abbrev pub invariant-loop-left : goal.invariant-loop-left
invariant-loop-left l = (l.left ≤ length l.parts) × (l.attrs ≡ given_parts (drop l.left l.parts) l.initial.attrs) × AreOrdered l.attrs

abbrev pub decreases-loop-left : goal.decreases-loop-left
decreases-loop-left l = l.left
