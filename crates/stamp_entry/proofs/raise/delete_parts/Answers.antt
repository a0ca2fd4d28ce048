use Rattle.std.proofs.Common.{sym, ◌∙◌}
use Rattle.repl_data.specs.declared.change.Ava.{Ava}
use Rattle.repl_data.specs.Stamps.{Deletes}
use Rattle.stamp_entry.specs.Raised.{raised}
use Rattle.stamp_entry.proofs.Raising.{raised_map_more}
use Rattle.stamp_entry.proofs.raise.delete_parts.Goals as goal

pub loop-a-preserved : goal.loop-a-preserved
loop-a-preserved c = (
  c.in_ok-delete_value.ensures.raised ∙ (λ i. raised (Deletes c.args.stamp (c.a-item.is i).attr (c.a-item.is i).val) (c.loop-a.invariant.0 i))
      ∙ sym (raised_map_more c.args.attrs.now (λ (a : Ava). Deletes c.args.stamp a.attr a.val) c.args.parts.now c.loop-a.a-index c.a-item.result c.loop-a-test.true),
  c.in_ok-delete_value.ensures.ordered,
)
