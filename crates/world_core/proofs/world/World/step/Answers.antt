use Rattle.std.proofs.Common.{sym, subst}
use Rattle.world_core.specs.World.{World}
use Rattle.world_core.specs.Laws.{MayHappen, IsHonest}
use Rattle.world_core.specs.State.{world_of}
use Rattle.world_core.proofs.TakenLaws.{kept-after, honest-after}
use Rattle.world_core.proofs.world.World.step.Goals as goal

pub invariant_of-self : goal.invariant_of-self
invariant_of-self c =
    kept-after (world_of c.self.inside.state) (world_of c.step.new.self) c.args.event c.step.result c.self.invariant
    (subst (λ (w : World). MayHappen w c.args.event) (sym c.self.view_is) c.requires) c.step.ensures.ok c.step.ensures.err

pub returns-clause-honest : goal.returns-clause-honest
returns-clause-honest c =
    λ h.
    honest-after (world_of c.self.inside.state) (world_of c.step.new.self) c.args.event c.step.result c.self.invariant
    (subst (λ (w : World). MayHappen w c.args.event) (sym c.self.view_is) c.requires) c.step.ensures.ok c.step.ensures.err
    (subst (λ (w : World). IsHonest w) (sym c.self.view_is) h)
