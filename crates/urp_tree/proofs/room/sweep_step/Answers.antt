use Rattle.urp_tree.proofs.Ready.{tree_kept}
use Rattle.urp_tree.proofs.room.sweep_step.Goals as goal

pub returns-in-Enter-clause-tree : goal.returns-in-Enter-clause-tree
returns-in-Enter-clause-tree c = tree_kept c.in-Enter.child.parent c.args.rows.now c.tidy.new.rows c.requires c.tidy.ensures.facts c.tidy.ensures.keyed c.tidy.ensures.others c.tidy.ensures.kept

pub returns-in-Leave-clause-tree : goal.returns-in-Leave-clause-tree
returns-in-Leave-clause-tree c = tree_kept c.in-Leave.child.parent c.args.rows.now c.tidy-in-Leave.new.rows c.requires c.tidy-in-Leave.ensures.facts c.tidy-in-Leave.ensures.keyed c.tidy-in-Leave.ensures.others c.tidy-in-Leave.ensures.kept
