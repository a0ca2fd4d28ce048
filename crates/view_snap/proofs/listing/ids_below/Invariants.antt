use Rattle.std.proofs.Common.{◌≡◌, ◌++◌, true, map, filter}
use Rattle.std.specs.List.{AllByRecursion}
use Rattle.std.specs.Map.{keys_of}
use Rattle.cow_map.specs.Rows.{IsRising}
use Rattle.view_snap.specs.declared.spot.Spot.{Spot}
use Rattle.view_snap.specs.Maps.{spot_cmp}
use Rattle.view_snap.specs.Listed.{is_below}
use Rattle.view_snap.proofs.Walks.{is_from_below}
use Rattle.view_snap.proofs.listing.ids_below.Given as goal

abbrev pub invariant-loop-spot : goal.invariant-loop-spot
invariant-loop-spot l = record {
  more : l.ids ++ map (λ (k : Spot). k.id) (filter (is_below l.parent) (keys_of l.spot-iterator)) ≡ map (λ (k : Spot). k.id) (filter (is_below l.parent) (keys_of l.below));
  rises : IsRising spot_cmp l.spot-iterator;
  from : AllByRecursion (λ (k : Spot). is_from_below l.parent k ≡ true) (keys_of l.spot-iterator);
}
