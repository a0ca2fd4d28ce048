use Rattle.std.proofs.lemmas.Result.{err_from_is_err_and}
use Rattle.repl_wire.specs.Keys.{each_from}
use Rattle.repl_wire.specs.Update.{attr_of}
use Rattle.repl_wire.proofs.Each.{each_goes_on, each_fails, each_done}
use Rattle.repl_wire.proofs.keyed.attrs_of.Goals as goal

pub returns-in_err-attr : goal.returns-in_err-attr
returns-in_err-attr c =
    let p = err_from_is_err_and c.from_residual.result c.from_residual.ensures.1 in
    rw (p.1, p.2) (each_fails c.in_err-attr.field-0.0 attr_of c.loop-at.all (each_from attr_of 0 c.args.attrs.now) c.as_slice-items.result.now c.loop-at.at c.index-items-at.result c.loop-at-test.true c.index-items-at.is c.in_err-attr.ensures c.loop-at.invariant)

pub loop-at-preserved : goal.loop-at-preserved
loop-at-preserved c =
    rw c.in_ok-push.ensures.ok (each_goes_on attr_of c.loop-at.all (each_from attr_of 0 c.args.attrs.now) c.as_slice-items.result.now c.loop-at.at c.index-items-at.result c.in_ok-attr.attr c.loop-at-test.true c.index-items-at.is c.in_ok-attr.ensures c.loop-at.invariant)

pub returns : goal.returns
returns c = each_done attr_of c.loop-at.all (each_from attr_of 0 c.args.attrs.now) c.as_slice-items.result.now c.loop-at.at c.loop-at-test.false c.loop-at.invariant
