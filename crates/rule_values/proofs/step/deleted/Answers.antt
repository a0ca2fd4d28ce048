use Rattle.std.proofs.Common.{arith}
use Rattle.std.proofs.lemmas.Result.{err_from_is_err_and}
use Rattle.rule_values.proofs.Stepping.{left_go, left_stop, left_end}
use Rattle.rule_values.proofs.step.deleted.Goals as goal

pub returns-in_err-left : goal.returns-in_err-left
returns-in_err-left c =
    let p = err_from_is_err_and c.from_residual.result c.from_residual.ensures.1 in
    rw (p.1, p.2) (left_stop c.args.vals.now c.loop-val.left c.loop-val.val-index c.val-item.result _ c.in_err-left.field-0.0 c.requires c.loop-val-test.true c.val-item.is c.loop-val.invariant c.in_err-left.ensures)

pub loop-val-preserved : goal.loop-val-preserved
loop-val-preserved c = left_go c.args.vals.now c.loop-val.left c.in_ok-left.left c.loop-val.val-index c.val-item.result _ c.requires c.loop-val-test.true c.val-item.is c.loop-val.invariant c.in_ok-left.ensures

pub returns : goal.returns
returns c = left_end c.args.vals.now c.loop-val.left c.loop-val.val-index _ (omega arith) c.loop-val.invariant
