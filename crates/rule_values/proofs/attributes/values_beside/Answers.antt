use Rattle.std.proofs.Common.{◌∙◌, arith}
use Rattle.std.proofs.lemmas.Result.{err_from_is_err_and}
use Rattle.rule_values.proofs.InTurn.{values_go, values_stop, values_end}
use Rattle.rule_values.proofs.attributes.values_beside.Goals as goal

pub returns-in_err-vals : goal.returns-in_err-vals
returns-in_err-vals c =
    let p = err_from_is_err_and c.from_residual.result c.from_residual.ensures.1 in
    rw (p.1, p.2) (values_stop c.args.attr.now c.loop-spelled.vals c.args.given.now c.loop-spelled.spelled-index c.as_slice.result.now c.spelled-item.result _ c.in_err-vals.field-0.0 c.loop-spelled-test.true (c.as_slice.ensures ∙ c.spelled-item.is) c.loop-spelled.invariant c.in_err-vals.ensures)

pub loop-spelled-preserved : goal.loop-spelled-preserved
loop-spelled-preserved c =
    values_go c.args.attr.now c.loop-spelled.vals c.in_ok-vals.vals c.args.given.now c.loop-spelled.spelled-index c.as_slice.result.now c.spelled-item.result _ c.loop-spelled-test.true (c.as_slice.ensures ∙ c.spelled-item.is) c.loop-spelled.invariant c.in_ok-vals.ensures

pub returns : goal.returns
returns c =
    values_end c.args.attr.now c.loop-spelled.vals c.args.given.now c.loop-spelled.spelled-index _ (omega arith) c.loop-spelled.invariant
