use Rattle.urp_tree.proofs.Ready.{tree_seated, on_ok}
use Rattle.urp_tree.proofs.CanWalk.{rooms_all, room_seated}
use Rattle.urp_tree.proofs.room.prepare.Goals as goal

pub returns-clause-tree : goal.returns-clause-tree
returns-clause-tree c =
    tree_seated c.rooms_for.new.rows c.seat.new.rows c.rooms_for.ensures.tree c.seat.ensures.facts c.seat.ensures.keyed c.seat.ensures.rows

pub returns-clause-rooms : goal.returns-clause-rooms
returns-clause-rooms c =
    on_ok c.seat.result
    (rooms_all c.rooms_for.new.rows c.seat.new.rows (room_seated c.rooms_for.new.rows c.seat.new.rows c.seat.ensures.rows) c.args.steps.now c.in_ok-rooms_for.ensures.rooms)
