use Rattle.std.proofs.Common.{◌≡◌, [], vec_len}
use Rattle.repl_data.specs.Order.{foldr}
use Rattle.rule_values.specs.Having.{held}
use Rattle.rule_values.specs.Written.{write_before}
use Rattle.rule_values.proofs.written.written.Given as goal

abbrev pub invariant-loop-m : goal.invariant-loop-m
invariant-loop-m l = foldr (write_before (held l.own l.touched)) [] l.initial.left.items ≡ foldr (write_before (held l.own l.touched)) l.body l.left.items

abbrev pub decreases-loop-m : goal.decreases-loop-m
decreases-loop-m l = vec_len l.left
