use Rattle.std.proofs.lemmas.Result.{err_from_is_err_and}
use Rattle.ber_core.specs.Cursor.{window}
use Rattle.ber_core.specs.Window.{skip_from}
use Rattle.ber_core.proofs.Loops.{skip_goes_on, skip_fails, skip_at_end, skip_done}
use Rattle.ldap_requests.proofs.parts.skip.Goals as goal

pub returns-then-here-eq0 : goal.returns-then-here-eq0
returns-then-here-eq0 c = skip_at_end (skip_from c.args.w.left (window c.args.w)) c.args.w.left c.loop.counter (window c.loop.here) c.if-here-eq0.true c.loop.invariant

pub returns-in_err-here : goal.returns-in_err-here
returns-in_err-here c =
    let p = err_from_is_err_and c.from_residual.result c.from_residual.ensures.1 in
    rw (p.1, p.2) (skip_fails c.in_err-here.field-0.0 (skip_from c.args.w.left (window c.args.w)) c.args.w.left c.loop.counter (window c.loop.here) c.loop-test.true c.if-here-eq0.false c.in_err-here.ensures c.loop.invariant)

pub loop-preserved : goal.loop-preserved
loop-preserved c = skip_goes_on (skip_from c.args.w.left (window c.args.w)) c.args.w.left c.loop.counter (window c.loop.here) (window c.in_ok-here.here) c.loop-test.true c.if-here-eq0.false c.in_ok-here.ensures c.loop.invariant

pub returns : goal.returns
returns c = skip_done (skip_from c.args.w.left (window c.args.w)) c.args.w.left c.loop.counter (window c.loop.here) c.loop-test.false c.loop.invariant
