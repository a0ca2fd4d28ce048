use Rattle.std.proofs.Common.{◌≡◌, []}
use Rattle.repl_data.specs.Plain.{add_values}
use Rattle.rule_values.specs.Entries.{vals_of}
use Rattle.rule_values.proofs.spelled.from_list.Given as goal

abbrev pub invariant-loop-val : goal.invariant-loop-val
invariant-loop-val l = vals_of l.tree.entries ≡ add_values l.yielded []
