use Rattle.std.proofs.Common.{◌∙◌, ap, arith, nat_lt}
use Rattle.rule_values.proofs.Counts.{counted_from, over_early, counted_more, counted_end, unread_fits}
use Rattle.rule_values.proofs.counting.has_too_many.Goals as goal

pub loop-one-init : goal.loop-one-init
loop-one-init c = record {
  rises = c.in_ok-keys.ensures.ordered;
  so_far = counted_from c.args.rdn.now c.in_ok-keys.keys c.args.given.now c.in_ok-keys.ensures.value;
}

pub returns-then-is_over : goal.returns-then-is_over
returns-then-is_over c =
    over_early c.loop-one.counted.keys c.loop-one.counted.unread _ _ c.is_over.result c.is_over.ensures c.if-is_over.true c.loop-one.invariant.so_far

pub count-requires-clause-fits : goal.count-requires-clause-fits
count-requires-clause-fits c = unread_fits _ c.loop-one.counted.unread c.is_over.result c.is_over.ensures c.if-is_over.false

pub loop-one-preserved : goal.loop-one-preserved
loop-one-preserved c = record {
  rises = c.in_ok-count.ensures.ordered;
  so_far = counted_more c.loop-one.counted.keys c.count.new.counted.keys c.loop-one.counted.unread c.count.new.counted.unread _ c.args.given.now c.loop-one.one-index c.one-item.result c.loop-one-test.true c.one-item.is c.loop-one.invariant.so_far c.in_ok-count.ensures.keys c.in_ok-count.ensures.unread;
}

pub returns : goal.returns
returns c =
    c.is_over-2.ensures ∙ ap (nat_lt 500) (counted_end c.loop-one.counted.keys c.loop-one.counted.unread _ c.args.given.now c.loop-one.one-index (omega arith) c.loop-one.invariant.so_far)
