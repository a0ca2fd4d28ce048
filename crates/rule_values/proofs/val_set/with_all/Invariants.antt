use Rattle.std.proofs.Common.{◌≡◌, drop}
use Rattle.repl_data.specs.Plain.{add_values}
use Rattle.rule_values.proofs.val_set.with_all.Given as goal

abbrev pub invariant-loop-val : goal.invariant-loop-val
invariant-loop-val l = add_values (drop l.val-index l.vals) l.all ≡ add_values l.vals l.fn.before
