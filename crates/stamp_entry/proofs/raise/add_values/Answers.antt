use Rattle.std.proofs.Common.{sym, ◌∙◌}
use Rattle.repl_data.specs.Stamps.{Adds}
use Rattle.stamp_entry.specs.Raised.{raised}
use Rattle.stamp_entry.proofs.Raising.{raised_map_more}
use Rattle.stamp_entry.proofs.raise.add_values.Goals as goal

pub loop-val-preserved : goal.loop-val-preserved
loop-val-preserved c = (
  c.in_ok-add_value.ensures.raised ∙ (λ i. raised (Adds c.args.stamp c.args.attr.now (c.val-item.is i)) (c.loop-val.invariant.0 i))
      ∙ sym (raised_map_more c.args.attrs.now (Adds c.args.stamp c.args.attr.now) c.args.vals.now c.loop-val.val-index c.val-item.result c.loop-val-test.true),
  c.in_ok-add_value.ensures.ordered,
)
