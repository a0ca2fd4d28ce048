use Rattle.view_counts.proofs.Trees.{first_counted}
use Rattle.view_counts.proofs.tree.CountedTree.new.Goals as goal

pub invariant_of-result : goal.invariant_of-result
invariant_of-result c = first_counted c.args.suffix.now c.in_ok-tree.tree c.in_ok-tree.ensures.facts c.in_ok-tree.ensures.suffix
