use Rattle.std.proofs.Common.{◌≡◌}
use Rattle.rule_values.proofs.table.to_attributes.Given as goal

abbrev pub invariant-loop-held : goal.invariant-loop-held
invariant-loop-held l = l.attrs ≡ l.yielded
