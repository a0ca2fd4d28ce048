use Rattle.std.proofs.lemmas.Result.{err_from_is_err_and}
use Rattle.ber_core.specs.Cursor.{window}
use Rattle.repl_wire.specs.Control.{dropped_here}
use Rattle.ber_core.specs.Window.{many_from}
use Rattle.ber_core.proofs.Loops.{goes_on, fails, at_end, is_done}
use Rattle.repl_wire.proofs.control.all_dropped.Goals as goal

pub returns-then-here-eq0 : goal.returns-then-here-eq0
returns-then-here-eq0 c = at_end dropped_here c.loop.all (many_from dropped_here c.args.w.left (window c.args.w)) c.args.w.left c.loop.counter (window c.loop.here) c.if-here-eq0.true c.loop.invariant

pub returns-in_err-one : goal.returns-in_err-one
returns-in_err-one c =
    let p = err_from_is_err_and c.from_residual.result c.from_residual.ensures.1 in
    rw (p.1, p.2) (fails c.in_err-one.field-0.0 dropped_here c.loop.all (many_from dropped_here c.args.w.left (window c.args.w)) c.args.w.left c.loop.counter (window c.loop.here) c.loop-test.true c.if-here-eq0.false c.in_err-one.ensures c.loop.invariant)

pub loop-preserved : goal.loop-preserved
loop-preserved c =
    rw c.in_ok-push.ensures.ok (goes_on dropped_here c.loop.all (many_from dropped_here c.args.w.left (window c.args.w)) c.args.w.left c.loop.counter (window c.loop.here) (window c.in_ok-one.rest) c.in_ok-one.one c.loop-test.true c.if-here-eq0.false c.in_ok-one.ensures c.loop.invariant)

pub returns : goal.returns
returns c = is_done dropped_here c.loop.all (many_from dropped_here c.args.w.left (window c.args.w)) c.args.w.left c.loop.counter (window c.loop.here) c.loop-test.false c.loop.invariant
