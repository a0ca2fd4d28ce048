use Rattle.cow_map.proofs.Rising.{rising_none}
use Rattle.cow_map.proofs.map.CowMap.new.Goals as goal

pub invariant_of-result : goal.invariant_of-result
invariant_of-result g c = rw c.new.ensures (rising_none g.row.V.Denot g.K.Ord.cmp)
