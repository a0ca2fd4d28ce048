use Rattle.std.proofs.Common.{◌≡◌, true, sym, subst}
use Rattle.world_core.specs.World.{World, is_node}
use Rattle.world_core.specs.State.{world_of}
use Rattle.world_core.proofs.Events.{is_node-means}
use Rattle.world_core.proofs.at.AtNode.new.Goals as goal

pub invariant_of-result : goal.invariant_of-result
invariant_of-result c = (
  c.into_state.ensures.kept,
  is_node-means (world_of c.into_state.result) c.args.n (subst (λ (w : World). is_node w c.args.n ≡ true) (sym c.into_state.ensures.state) c.requires),
)
