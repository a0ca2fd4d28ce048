use Rattle.std.proofs.Common.{arith}
use Rattle.std.proofs.lemmas.Result.{err_from_is_err_and}
use Rattle.rule_values.proofs.Stepping.{add_go, add_stop, add_end}
use Rattle.rule_values.proofs.step.added.Goals as goal

pub returns-in_err-all : goal.returns-in_err-all
returns-in_err-all c =
    let p = err_from_is_err_and c.from_residual.result c.from_residual.ensures.1 in
    rw (p.1, p.2) (add_stop c.args.vals.now c.loop-val.all c.loop-val.val-index c.val-item.result _ c.in_err-all.field-0.0 c.requires c.loop-val-test.true c.val-item.is c.loop-val.invariant c.in_err-all.ensures)

pub loop-val-preserved : goal.loop-val-preserved
loop-val-preserved c = add_go c.args.vals.now c.loop-val.all c.in_ok-all.all c.loop-val.val-index c.val-item.result _ c.requires c.loop-val-test.true c.val-item.is c.loop-val.invariant c.in_ok-all.ensures

pub returns : goal.returns
returns c = add_end c.args.vals.now c.loop-val.all c.loop-val.val-index _ (omega arith) c.loop-val.invariant
