use Rattle.std.proofs.lemmas.Result.{err_from_is_err_and}
use Rattle.repl_wire.specs.Keys.{val_of, vals_of}
use Rattle.repl_wire.proofs.Each.{each_goes_on, each_fails, each_done}
use Rattle.repl_wire.proofs.keyed.vals_of.Goals as goal

pub returns-in_err-val : goal.returns-in_err-val
returns-in_err-val c =
    let p = err_from_is_err_and c.from_residual.result c.from_residual.ensures.1 in
    rw (p.1, p.2) (each_fails c.in_err-val.field-0.0 (λ i s. val_of c.args.at c.args.attr.now s) c.loop-one.all (vals_of c.args.at c.args.attr.now c.args.spelled.now) c.as_slice-items.result.now c.loop-one.one-index c.one-item.result c.loop-one-test.true c.one-item.is c.in_err-val.ensures c.loop-one.invariant)

pub loop-one-preserved : goal.loop-one-preserved
loop-one-preserved c =
    rw c.in_ok-push.ensures.ok (each_goes_on (λ i s. val_of c.args.at c.args.attr.now s) c.loop-one.all (vals_of c.args.at c.args.attr.now c.args.spelled.now) c.as_slice-items.result.now c.loop-one.one-index c.one-item.result c.in_ok-val.val c.loop-one-test.true c.one-item.is c.in_ok-val.ensures c.loop-one.invariant)

pub returns : goal.returns
returns c = each_done (λ i s. val_of c.args.at c.args.attr.now s) c.loop-one.all (vals_of c.args.at c.args.attr.now c.args.spelled.now) c.as_slice-items.result.now c.loop-one.one-index c.loop-one-test.false c.loop-one.invariant
