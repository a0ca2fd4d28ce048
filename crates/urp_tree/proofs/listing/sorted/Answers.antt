use Rattle.urp_tree.proofs.Listed.{sorted_step}
use Rattle.urp_tree.proofs.listing.sorted.Goals as goal

pub loop-id-preserved : goal.loop-id-preserved
loop-id-preserved c = sorted_step c.args.rows.now c.args.ids.now c.loop-id.id-index _ _ _ c.loop-id-test.true c.in_ok-put_kid.ensures c.loop-id.invariant
