use Rattle.std.proofs.Common.{◌≤◌, arith}
use Rattle.world_core.specs.World.{no_suffix}
use Rattle.world_core.proofs.TakenLaws.{new-kept}
use Rattle.world_core.proofs.world.World.empty.Goals as goal

pub invariant_of-result : goal.invariant_of-result
invariant_of-result c =
    rw (c.new.ensures.items, c.new-2.ensures.items, c.new-3.ensures.items, c.new-4.ensures.items)
    (new-kept no_suffix 0 (let few : 0 ≤ 8 = omega arith in few))
