use Rattle.std.proofs.Common.{◌<◌, length, get_or, subst, ap, ◌∙◌}
use Rattle.rule_values.proofs.InTurn.{parts_go}
use Rattle.rule_values.proofs.attributes.with_name.Goals as goal

pub loop-ava-preserved : goal.loop-ava-preserved
loop-ava-preserved c =
    let xs = c.args.rdn.now.avas in
    record {
      ordered = c.in_ok-attrs.ensures.ordered;
      so_far =
          parts_go c.loop-ava.attrs c.in_ok-attrs.attrs xs c.loop-ava.ava-index c.ava-item.result _
          (subst (λ ys. c.loop-ava.ava-index < length ys) c.as_slice-ava-items.ensures c.loop-ava-test.true)
          (c.ava-item.is ∙ ap (λ ys. get_or ys c.loop-ava.ava-index c.ava-item.result) c.as_slice-ava-items.ensures)
          c.loop-ava.invariant.so_far c.in_ok-attrs.ensures.value;
    }
