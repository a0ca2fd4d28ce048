use Rattle.rule_values.proofs.Counts.{names_more}
use Rattle.rule_values.proofs.counting.rdn_keys.Goals as goal

pub loop-ava-preserved : goal.loop-ava-preserved
loop-ava-preserved c = record {
  rises = c.in_ok-put_by_key.ensures.ordered;
  so_far = names_more c.loop-ava.keys c.put_by_key.new.items c.as_slice-ava-items.result.now c.loop-ava.ava-index c.ava-item.result c.in_ok-copy.field-0 c.loop-ava-test.true c.ava-item.is c.in_ok-copy.ensures c.loop-ava.invariant.so_far c.in_ok-put_by_key.ensures.value;
}
