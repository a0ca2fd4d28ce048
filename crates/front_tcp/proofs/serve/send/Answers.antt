use Rattle.std.proofs.Common.{rules, arith, ◌∙◌}
use Rattle.front_tcp.proofs.Sending.{sends_more, sends_front}
use Rattle.front_tcp.proofs.serve.send.Goals as goal

pub loop-preserved : goal.loop-preserved
loop-preserved g c =
    let i = c.loop.invariant in
    let t = c.take-count.ensures in (
      tt,
      tt,
      t.state ∙ i.2,
      sends_more _ _ _ _ _ _ _ _ _ i.3 t.within t.moved t.rest c.in-Ok.ensures.ok,
      c.write_side.ensures.left ∙ i.4,
      c.write_side.ensures.faults ∙ i.5,
      omega (arith, i.6, c.write_side.ensures.cause.later),
      search rules,
    )

pub returns-in_default-clause-front : goal.returns-in_default-clause-front
returns-in_default-clause-front g c =
    let t = c.take-count.ensures in sends_front _ _ _ _ _ _ _ _ c.loop.invariant.3 t.within t.moved c.in_default.ensures.err
