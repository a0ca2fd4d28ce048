use Rattle.std.proofs.Common.{take}
use Rattle.std.specs.List.{AllByRecursion}
use Rattle.urp_tree.specs.Walk.{stepped, children_in}
use Rattle.urp_tree.specs.Placed.{ArePlaces, CoversStep}
use Rattle.urp_tree.proofs.places.step_places.Given as goal

abbrev pub invariant-loop-s : goal.invariant-loop-s
invariant-loop-s l = record {
  places : ArePlaces (stepped l.steps (children_in l.rows)) l.places;
  covers : AllByRecursion (CoversStep (children_in l.rows) (stepped l.steps (children_in l.rows)) l.places) (take l.s-index l.steps);
}
