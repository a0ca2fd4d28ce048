use Rattle.std.proofs.Common.{◌≡◌, drop}
use Rattle.rule_values.specs.Sorting.{read_all}
use Rattle.rule_values.proofs.Sorting.{read_behind}
use Rattle.rule_values.proofs.sorted.read_all.Given as goal

abbrev pub invariant-loop-spelled : goal.invariant-loop-spelled
invariant-loop-spelled l = read_behind l.attr l.vals.items (drop l.spelled-index l.given) ≡ read_all l.attr l.given
