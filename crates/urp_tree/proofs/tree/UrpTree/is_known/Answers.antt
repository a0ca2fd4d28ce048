use Rattle.urp_tree.proofs.Plans.{idle}
use Rattle.urp_tree.proofs.tree.UrpTree.is_known.Goals as goal

pub is_known-requires : goal.is_known-requires
is_known-requires c = idle c.self.inside.rows c.self.inside.target c.self.inside.steps c.self.invariant
