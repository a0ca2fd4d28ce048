use Rattle.std.proofs.Common.{sym, ◌∙◌, arith, length-drop}
use Rattle.io_edge.specs.declared.machine.Fed.TheVariants.{Running}
use Rattle.conn_core.proofs.Streams.{is_next, is_last, none_behind}
use Rattle.conn_core.proofs.Builts.{as_far_next, far_unbuilt, far_end}
use Rattle.conn_core.proofs.built.are_built.Goals as goal

pub loop-at-preserved : goal.loop-at-preserved
loop-at-preserved c =
    let k = is_next c.loop-at.at c.args.stream.now c.in-Ok.first c.in-Next.request c.in-Next.size c.in-Next.is c.in-Ok.ensures in
    let fits = k.3 in
    let below = c.loop-at.invariant.within in
    record {
      within = omega (arith, fits, below, length-drop c.loop-at.at c.args.stream.now);
      far = as_far_next c.args.stream.now c.loop-at.at c.in-Next.size c.in-Next.request c.loop-at.invariant.far k.0 k.1 (sym c.is_built.ensures ∙ c.if-not-is_built.false);
    }

pub returns-in-Ends : goal.returns-in-Ends
returns-in-Ends c = far_end c.args.stream.now c.loop-at.at c.in-Ends.field-0 c.loop-at.invariant.far (is_last c.loop-at.at c.args.stream.now c.in-Ok.first c.in-Ends.field-0 c.in-Ends.is c.in-Ok.ensures)

pub returns-then-not-is_built : goal.returns-then-not-is_built
returns-then-not-is_built c =
    let k = is_next c.loop-at.at c.args.stream.now c.in-Ok.first c.in-Next.request c.in-Next.size c.in-Next.is c.in-Ok.ensures in
    far_unbuilt c.args.stream.now c.loop-at.at c.in-Next.size c.in-Next.request c.loop-at.invariant.far k.0 k.1 (sym c.is_built.ensures ∙ c.if-not-is_built.true)

pub returns : goal.returns
returns c = far_end c.args.stream.now c.loop-at.at Running c.loop-at.invariant.far (none_behind c.loop-at.at c.args.stream.now c.loop-at-test.false)
