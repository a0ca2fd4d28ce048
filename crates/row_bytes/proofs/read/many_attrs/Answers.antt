use Rattle.std.proofs.Common.{length}
use Rattle.std.proofs.lemmas.Result.{err_from_is_err_and}
use Rattle.row_bytes.specs.Given.{place_of}
use Rattle.row_bytes.specs.Grammar.{attr_here}
use Rattle.row_bytes.specs.Place.{many_from}
use Rattle.row_bytes.proofs.Loops.{goes_on, fails, at_end, is_done}
use Rattle.row_bytes.proofs.read.many_attrs.Goals as goal

pub returns-then-here-eq0 : goal.returns-then-here-eq0
returns-then-here-eq0 c = at_end attr_here c.loop.all (many_from attr_here (length c.args.p.bytes.now) (place_of c.args.p)) (length c.args.p.bytes.now) c.loop.counter (place_of c.loop.here) c.if-here-eq0.true c.loop.invariant

pub returns-in_err-one : goal.returns-in_err-one
returns-in_err-one c =
    let p = err_from_is_err_and c.from_residual.result c.from_residual.ensures.1 in
    rw (p.1, p.2) (fails c.in_err-one.field-0.0 attr_here c.loop.all (many_from attr_here (length c.args.p.bytes.now) (place_of c.args.p)) (length c.args.p.bytes.now) c.loop.counter (place_of c.loop.here) c.loop-test.true c.if-here-eq0.false c.in_err-one.ensures c.loop.invariant)

pub loop-preserved : goal.loop-preserved
loop-preserved c =
    rw c.in_ok-push.ensures.ok (goes_on attr_here c.loop.all (many_from attr_here (length c.args.p.bytes.now) (place_of c.args.p)) (length c.args.p.bytes.now) c.loop.counter (place_of c.loop.here) (place_of c.in_ok-one.rest) c.in_ok-one.one c.loop-test.true c.if-here-eq0.false c.in_ok-one.ensures c.loop.invariant)

pub returns : goal.returns
returns c = is_done attr_here c.loop.all (many_from attr_here (length c.args.p.bytes.now) (place_of c.args.p)) (length c.args.p.bytes.now) c.loop.counter (place_of c.loop.here) c.loop-test.false c.loop.invariant
