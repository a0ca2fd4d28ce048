use Rattle.view_walk.proofs.Steps.{begun, begun_there}
use Rattle.view_walk.proofs.list.listing.Goals as goal

pub loop-walk-init : goal.loop-walk-init
loop-walk-init g c = record {
  present = begun_there (g.V.View.view c.args.view.now) c.requires c.new-entries.result c.in_ok-walk.walk c.root.result c.new-entries.ensures c.in_ok-walk.ensures c.root.ensures;
  listed = begun (g.V.View.view c.args.view.now) c.requires c.new-entries.result c.in_ok-walk.walk c.root.result c.new-entries.ensures c.in_ok-walk.ensures c.root.ensures;
}
