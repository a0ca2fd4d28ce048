use Rattle.std.proofs.Common.{ap, ◌∙◌}
use Rattle.repl_data.specs.Order.{bytes_cmp, put_by}
use Rattle.repl_data.specs.Stamps.{Adds}
use Rattle.stamp_entry.specs.Ordered.{val_key}
use Rattle.stamp_entry.specs.Raised.{raised_val}
use Rattle.stamp_entry.proofs.entry.StampedAttr.add.Goals as goal

pub returns : goal.returns
returns c = λ t.
    let one = c.in_ok-raised.ensures t ∙ ap (raised_val (Adds c.args.stamp t c.args.val.now)) c.in_ok-val_at.ensures in
    let vals = c.in_ok-put_by_key.ensures.value ∙ (λ i. put_by val_key bytes_cmp (one i) (c.self.view_is i).vals) in
    λ i. record { attr = (c.self.view_is i).attr; whole = (c.self.view_is i).whole; vals = vals i }
