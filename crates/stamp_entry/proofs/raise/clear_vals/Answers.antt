use Rattle.std.proofs.Common.{sym, ap, ◌∙◌, ◌++◌, ◌∷◌, []}
use Rattle.repl_data.specs.Stamps.{Clears}
use Rattle.stamp_entry.specs.Raised.{raised_val}
use Rattle.stamp_entry.proofs.Raising.{map_more}
use Rattle.stamp_entry.proofs.raise.clear_vals.Goals as goal

pub loop-val-preserved : goal.loop-val-preserved
loop-val-preserved c = λ t.
    let one = c.clear.ensures t ∙ ap (raised_val (Clears c.args.stamp t)) (c.in_ok-copy.ensures ∙ c.val-item.is) in
    c.in_ok-push.ensures.ok ∙ (λ i. c.loop-val.invariant t i ++ one i ∷ [])
    ∙ sym (map_more (raised_val (Clears c.args.stamp t)) c.args.vals.now c.loop-val.val-index c.val-item.result c.loop-val-test.true)
