use Rattle.keeper_core.proofs.Left.{IsRising-step}
use Rattle.keeper_core.specs.declared.row.BatchStep.TheVariants.{Put, Remove}
use Rattle.keeper_core.proofs.rows.take_step.Goals as goal

pub returns-in-Put-clause-rising : goal.returns-in-Put-clause-rising
returns-in-Put-clause-rising c =
    rw c.put_row.ensures.value (IsRising-step c.args.rows.now.items (Put c.in-Put.key c.in-Put.bytes) c.requires.rising)

pub returns-in-Remove-clause-rising : goal.returns-in-Remove-clause-rising
returns-in-Remove-clause-rising c =
    rw c.remove_row.ensures.value (IsRising-step c.args.rows.now.items (Remove c.in-Remove.key) c.requires.rising)
