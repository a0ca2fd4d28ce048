use Rattle.urp_tree.proofs.Ready.{tree_kept}
use Rattle.urp_tree.proofs.Moves.{seat_kept}
use Rattle.urp_tree.specs.Rows.{row_at}
use Rattle.urp_tree.proofs.CanWalk.{room_kept}
use Rattle.urp_tree.proofs.room.room_for.Goals as goal

pub returns-in-Enter-clause-tree : goal.returns-in-Enter-clause-tree
returns-in-Enter-clause-tree c =
    tree_kept c.in-Enter.child.parent c.args.rows.now c.make_room.new.rows c.requires c.make_room.ensures.facts c.make_room.ensures.keyed c.make_room.ensures.others
    (seat_kept (row_at c.args.rows.now c.in-Enter.child.parent) (row_at c.make_room.new.rows c.in-Enter.child.parent) c.make_room.ensures.kept)

pub returns-in-Enter-clause-kept : goal.returns-in-Enter-clause-kept
returns-in-Enter-clause-kept c = room_kept c.in-Enter.child.parent c.args.rows.now c.make_room.new.rows c.make_room.ensures.others c.make_room.ensures.kept
