use Rattle.std.proofs.Common.{arith}
use Rattle.rule_values.proofs.ModSteps.{shown_go, shown_end}
use Rattle.rule_values.proofs.held.shown_values.Goals as goal

pub loop-shown-preserved : goal.loop-shown-preserved
loop-shown-preserved c =
    shown_go c.loop-shown.vals c.in_ok-vals.vals c.args.own.now c.args.name.now c.loop-shown.shown-index c.shown-item.result _ c.loop-shown-test.true c.shown-item.is c.loop-shown.invariant c.in_ok-vals.ensures

pub returns : goal.returns
returns c = shown_end c.loop-shown.vals c.args.own.now c.args.name.now c.loop-shown.shown-index _ (omega arith) c.loop-shown.invariant
