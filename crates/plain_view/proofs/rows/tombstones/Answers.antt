use Rattle.std.proofs.Common.{sym, ap, ◌∙◌, ◌++◌, ◌∷◌, []}
use Rattle.plain_view.specs.Seen.{tombstone}
use Rattle.repl_data.proofs.Loops.{map_more}
use Rattle.plain_view.proofs.rows.tombstones.Goals as goal

pub loop-e-preserved : goal.loop-e-preserved
loop-e-preserved c =
    let one = c.in_ok-one.ensures ∙ ap (tombstone) c.e-item.is in
    c.in_ok-push.ensures.ok ∙ (λ i. c.loop-e.invariant i ++ one i ∷ [])
    ∙ sym (map_more (tombstone) c.args.gone.now c.loop-e.e-index c.e-item.result c.loop-e-test.true)
