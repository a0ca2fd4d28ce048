use Rattle.std.proofs.Common.{ap, ◌∙◌, arith}
use Rattle.repl_data.specs.View.{put_val}
use Rattle.rule_values.proofs.SetLemmas.{puts_go, puts_end}
use Rattle.rule_values.proofs.val_set.with_all.Goals as goal

pub loop-val-preserved : goal.loop-val-preserved
loop-val-preserved c =
    puts_go c.loop-val.all c.in_ok-next.next c.args.vals.now c.loop-val.val-index c.val-item.result _ c.loop-val-test.true c.val-item.is c.loop-val.invariant
    (c.in_ok-next.ensures.0 ∙ ap (λ v. put_val v c.loop-val.all) c.in_ok-copy.ensures)

pub returns : goal.returns
returns c = puts_end c.loop-val.all c.args.vals.now c.loop-val.val-index _ (omega arith) c.loop-val.invariant
