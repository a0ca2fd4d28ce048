use Rattle.std.proofs.Common.{◌≡◌, ◌++◌}
use Rattle.rule_values.specs.Entries.{vals_of}
use Rattle.rule_values.proofs.spelled.into_list.Given as goal

abbrev pub invariant-loop-whole : goal.invariant-loop-whole
invariant-loop-whole l = l.vals ++ vals_of l.whole-iterator ≡ vals_of l.fn.spelled.entries
