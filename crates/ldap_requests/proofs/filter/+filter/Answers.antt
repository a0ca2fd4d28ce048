use Rattle.std.proofs.lemmas.Result.{err_from_is_err_and}
use Rattle.ber_core.specs.Cursor.{window}
use Rattle.ldap_requests.specs.Grammar.{filter_at}
use Rattle.ber_core.specs.Window.{many_from}
use Rattle.ber_core.proofs.Loops.{goes_on, fails, at_end, is_done}
use Rattle.ldap_requests.proofs.filter.+filter.Goals as goal

pub filters-returns-then-here-eq0 : goal.filters-returns-then-here-eq0
filters-returns-then-here-eq0 t c = at_end (filter_at c.args.levels) c.loop.all (many_from (filter_at c.args.levels) c.args.w.left (window c.args.w)) c.args.w.left c.loop.counter (window c.loop.here) c.if-here-eq0.true c.loop.invariant

pub filters-returns-in_err-one : goal.filters-returns-in_err-one
filters-returns-in_err-one t c =
    let p = err_from_is_err_and c.from_residual.result c.from_residual.ensures.1 in
    rw (p.1, p.2) (fails c.in_err-one.field-0.0 (filter_at c.args.levels) c.loop.all (many_from (filter_at c.args.levels) c.args.w.left (window c.args.w)) c.args.w.left c.loop.counter (window c.loop.here) c.loop-test.true c.if-here-eq0.false c.in_err-one.ensures c.loop.invariant)

pub filters-loop-preserved : goal.filters-loop-preserved
filters-loop-preserved t c =
    rw c.in_ok-push.ensures.ok (goes_on (filter_at c.args.levels) c.loop.all (many_from (filter_at c.args.levels) c.args.w.left (window c.args.w)) c.args.w.left c.loop.counter (window c.loop.here) (window c.in_ok-one.rest) c.in_ok-one.one c.loop-test.true c.if-here-eq0.false c.in_ok-one.ensures c.loop.invariant)

pub filters-returns : goal.filters-returns
filters-returns t c = is_done (filter_at c.args.levels) c.loop.all (many_from (filter_at c.args.levels) c.args.w.left (window c.args.w)) c.args.w.left c.loop.counter (window c.loop.here) c.loop-test.false c.loop.invariant
