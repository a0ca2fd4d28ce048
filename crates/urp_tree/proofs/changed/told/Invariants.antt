use Rattle.std.proofs.Common.{◌≡◌, ◌++◌, flat_map}
use Rattle.urp_tree.specs.Moves.{told_seat}
use Rattle.urp_tree.proofs.changed.told.Given as goal

abbrev pub invariant-loop-id : goal.invariant-loop-id
invariant-loop-id l = l.list ++ flat_map (told_seat l.rows) l.id-iterator ≡ flat_map (told_seat l.rows) l.rows.entries
