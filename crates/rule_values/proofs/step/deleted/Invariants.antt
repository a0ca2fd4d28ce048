use Rattle.std.proofs.Common.{◌≡◌, drop}
use Rattle.rule_values.specs.Having.{left_of}
use Rattle.rule_values.proofs.step.deleted.Given as goal

abbrev pub invariant-loop-val : goal.invariant-loop-val
invariant-loop-val l = left_of (drop l.val-index l.vals) l.left ≡ left_of l.vals l.fn.had
