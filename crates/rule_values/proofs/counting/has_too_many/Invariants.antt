use Rattle.std.proofs.Common.{◌≡◌, drop}
use Rattle.repl_data.specs.Ordered.{Rises}
use Rattle.rule_values.specs.Counting.{own_key}
use Rattle.rule_values.specs.Listed.{attribute_count}
use Rattle.rule_values.specs.Counting.{counted_on}
use Rattle.rule_values.proofs.counting.has_too_many.Given as goal

abbrev pub invariant-loop-one : goal.invariant-loop-one
invariant-loop-one l = record {
  rises : Rises own_key l.counted.keys;
  so_far : counted_on l.counted.keys l.counted.unread (drop l.one-index l.given) ≡ attribute_count l.rdn l.given;
}
