use Rattle.urp_tree.proofs.Ready.{tree_seated}
use Rattle.urp_tree.proofs.room.forget.Goals as goal

pub returns-in-Some-clause-tree : goal.returns-in-Some-clause-tree
returns-in-Some-clause-tree c = tree_seated c.sweep.new.rows c.give_back.new.rows c.sweep.ensures.tree c.give_back.ensures.facts c.give_back.ensures.keyed c.give_back.ensures.rows
