use Rattle.std.proofs.Common.{◌≡◌, [], None, take}
use Rattle.std.specs.List.{AllByRecursion}
use Rattle.urp_tree.specs.Rows.{facts_in}
use Rattle.urp_tree.specs.Known.{IsTree}
use Rattle.urp_tree.specs.Climb.{RoomFor}
use Rattle.urp_tree.proofs.room.rooms_for.Given as goal

abbrev pub invariant-loop-s : goal.invariant-loop-s
invariant-loop-s l = record {
  facts : facts_in l.rows.entries ≡ facts_in l.initial.rows.entries;
  tree : IsTree l.rows None [];
  rooms : AllByRecursion (RoomFor l.rows) (take l.s-index l.steps);
}
