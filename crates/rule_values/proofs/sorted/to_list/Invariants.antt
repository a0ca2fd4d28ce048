use Rattle.std.proofs.Common.{◌≡◌}
use Rattle.rule_values.proofs.sorted.to_list.Given as goal

abbrev pub invariant-loop-one : goal.invariant-loop-one
invariant-loop-one l = l.vals.items ≡ l.yielded
