use Rattle.std.proofs.Common.{arith}
use Rattle.io_edge.proofs.WriteLemmas.{appends_more}
use Rattle.io_edge.proofs.standard.write_counted.Goals as goal

pub loop-preserved : goal.loop-preserved
loop-preserved g c =
    let (done, split, appended) = c.loop.invariant.0 in
    (appends_more _ done c.loop.rest.now c.in-Ok.count _ _ _ split appended c.in-Ok.ensures.bytes, omega (arith, c.in-Ok.ensures.cause.later))
