use Rattle.std.proofs.Common.{◌≡◌, map, take}
use Rattle.repl_data.specs.declared.change.Ava.{Ava}
use Rattle.repl_data.specs.Order.{bytes_cmp, in_order}
use Rattle.repl_data.specs.Ordered.{Rises}
use Rattle.rule_values.specs.Counting.{own_key}
use Rattle.rule_values.proofs.counting.rdn_keys.Given as goal

abbrev pub invariant-loop-ava : goal.invariant-loop-ava
invariant-loop-ava l = record {
  rises : Rises own_key l.keys;
  so_far : l.keys ≡ in_order bytes_cmp (map (λ (a : Ava). a.attr.name) (take l.ava-index l.ava-items));
}
