use Rattle.stamp_entry.specs.Ordered.{IsOrdered}
use Rattle.row_cases.proofs.stamped.tell_after.Given as goal

abbrev pub invariant-loop : goal.invariant-loop
invariant-loop l = IsOrdered l.last
