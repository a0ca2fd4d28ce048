use Rattle.std.proofs.lemmas.Result.{err_from_is_err_and}
use Rattle.repl_wire.specs.Keys.{each_from}
use Rattle.repl_wire.specs.Update.{part_of}
use Rattle.repl_wire.proofs.Each.{each_goes_on, each_fails, each_done}
use Rattle.repl_wire.proofs.keyed.parts_of.Goals as goal

pub returns-in_err-part : goal.returns-in_err-part
returns-in_err-part c =
    let p = err_from_is_err_and c.from_residual.result c.from_residual.ensures.1 in
    rw (p.1, p.2) (each_fails c.in_err-part.field-0.0 part_of c.loop-at.all (each_from part_of 0 c.args.dropped.now) c.as_slice-items.result.now c.loop-at.at c.index-items-at.result c.loop-at-test.true c.index-items-at.is c.in_err-part.ensures c.loop-at.invariant)

pub loop-at-preserved : goal.loop-at-preserved
loop-at-preserved c =
    rw c.in_ok-push.ensures.ok (each_goes_on part_of c.loop-at.all (each_from part_of 0 c.args.dropped.now) c.as_slice-items.result.now c.loop-at.at c.index-items-at.result c.in_ok-part.part c.loop-at-test.true c.index-items-at.is c.in_ok-part.ensures c.loop-at.invariant)

pub returns : goal.returns
returns c = each_done part_of c.loop-at.all (each_from part_of 0 c.args.dropped.now) c.as_slice-items.result.now c.loop-at.at c.loop-at-test.false c.loop-at.invariant
