use Rattle.std.proofs.Common.{◌-◌}
use Rattle.std.proofs.lemmas.Result.{err_from_is_err_and}
use Rattle.ber_core.specs.Cursor.{window}
use Rattle.repl_wire.specs.Value.{vector_inside}
use Rattle.repl_wire.proofs.Loops.{csn_goes_on, csn_fails, csns_at_end, csns_done}
use Rattle.repl_wire.proofs.vector.vector_inside.Goals as goal

pub returns-then-here-eq0 : goal.returns-then-here-eq0
returns-then-here-eq0 c = csns_at_end c.loop.vector c.loop.last (c.args.w.left - c.loop.counter) (window c.loop.here) (vector_inside (window c.args.w)) c.if-here-eq0.true c.loop.invariant

pub returns-in_err-csn : goal.returns-in_err-csn
returns-in_err-csn c =
    let p = err_from_is_err_and c.from_residual-in_err-csn.result c.from_residual-in_err-csn.ensures.1 in
    rw (p.1, p.2) (csn_fails c.in_err-csn.field-0.0 c.loop.vector c.loop.last c.args.w.left c.loop.counter (window c.loop.here) (vector_inside (window c.args.w)) c.loop-test.true c.if-here-eq0.false c.in_err-csn.ensures.gives c.loop.invariant)

pub loop-preserved : goal.loop-preserved
loop-preserved c =
    csn_goes_on c.loop.vector c.raise.new.self c.loop.last c.args.w.left c.loop.counter (window c.loop.here) (window c.in_ok-csn.rest) c.in_ok-csn.csn (vector_inside (window c.args.w))
    c.loop-test.true c.if-here-eq0.false c.in_ok-csn.ensures.gives c.in_ok-csn.ensures.above c.raise.ensures.vector c.in_ok-raise.ensures.ok c.loop.invariant

pub returns : goal.returns
returns c = csns_done c.loop.vector c.loop.last c.args.w.left c.loop.counter (window c.loop.here) (vector_inside (window c.args.w)) c.loop-test.false c.loop.invariant
