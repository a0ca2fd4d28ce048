use Rattle.std.proofs.Common.{sym, ap, ◌∙◌, ◌++◌, ◌∷◌, []}
use Rattle.plain_view.specs.Seen.{present_entry}
use Rattle.repl_data.proofs.Loops.{map_more}
use Rattle.plain_view.proofs.rows.present_entries.Goals as goal

pub loop-e-preserved : goal.loop-e-preserved
loop-e-preserved c =
    let one = c.in_ok-one.ensures ∙ ap (present_entry c.args.present.now) c.e-item.is in
    c.in_ok-push.ensures.ok ∙ (λ i. c.loop-e.invariant i ++ one i ∷ [])
    ∙ sym (map_more (present_entry c.args.present.now) c.args.present.now c.loop-e.e-index c.e-item.result c.loop-e-test.true)
