use Rattle.std.proofs.Common.{arith}
use Rattle.std.proofs.lemmas.Result.{err_from_is_err_and}
use Rattle.rule_values.proofs.InTurn.{attributes_go, attributes_stop, attributes_end}
use Rattle.rule_values.proofs.attributes.attributes.Goals as goal

pub returns-in_err-attrs-clause-gives : goal.returns-in_err-attrs-clause-gives
returns-in_err-attrs-clause-gives c =
    let p = err_from_is_err_and c.from_residual.result c.from_residual.ensures.1 in
    rw (p.1, p.2) (attributes_stop c.loop-one.attrs c.args.given.now c.loop-one.one-index c.one-item.result _ c.in_err-attrs.field-0.0 c.loop-one-test.true c.one-item.is c.loop-one.invariant.so_far c.in_err-attrs.ensures.gives)

pub loop-one-preserved : goal.loop-one-preserved
loop-one-preserved c = record {
  ordered = c.in_ok-attrs.ensures.ordered;
  so_far = attributes_go c.loop-one.attrs c.in_ok-attrs.attrs c.args.given.now c.loop-one.one-index c.one-item.result _ c.loop-one-test.true c.one-item.is c.loop-one.invariant.so_far c.in_ok-attrs.ensures.gives;
}

pub returns-clause-gives : goal.returns-clause-gives
returns-clause-gives c =
    attributes_end c.loop-one.attrs c.args.given.now c.loop-one.one-index _ (omega arith) c.loop-one.invariant.so_far
