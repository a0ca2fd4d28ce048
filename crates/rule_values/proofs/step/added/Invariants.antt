use Rattle.std.proofs.Common.{◌≡◌, drop}
use Rattle.repl_data.specs.declared.change.ModKind.TheVariants.{Add}
use Rattle.rule_values.specs.Having.{changed}
use Rattle.rule_values.proofs.step.added.Given as goal

abbrev pub invariant-loop-val : goal.invariant-loop-val
invariant-loop-val l = changed Add (drop l.val-index l.vals) l.all ≡ changed Add l.vals l.fn.had
