use Rattle.std.proofs.Common.{◌≡◌, drop}
use Rattle.rule_values.specs.Listed.{values_beside}
use Rattle.rule_values.proofs.attributes.values_beside.Given as goal

abbrev pub invariant-loop-spelled : goal.invariant-loop-spelled
invariant-loop-spelled l = values_beside l.attr l.vals (drop l.spelled-index l.given) ≡ values_beside l.attr l.fn.before l.given
