use Rattle.std.proofs.Common.{◌∙◌, sym, ap}
use Rattle.vector_core.proofs.Lists.{if_true, if_false}
use Rattle.world_core.specs.World.{deliver}
use Rattle.world_core.specs.State.{world_of}
use Rattle.world_core.proofs.Outcomes.{if_ok}
use Rattle.world_core.proofs.state.WorldState.deliver.Goals as goal

pub returns-then-not-has_node-clause-ok : goal.returns-then-not-has_node-clause-ok
returns-then-not-has_node-clause-ok c = if_false _ _ (sym c.has_node.ensures.value ∙ c.if-not-has_node.true)

pub returns-in-Some-clause-ok : goal.returns-in-Some-clause-ok
returns-in-Some-clause-ok c = if_ok c.deliver_place.result _ _ (λ happened e. if_true _ _ (sym c.has_node.ensures.value ∙ c.if-not-has_node.false) ∙ e) c.deliver_place.ensures.ok

pub returns-in-None-clause-ok : goal.returns-in-None-clause-ok
returns-in-None-clause-ok c =
    if_true _ _ (sym c.has_node.ensures.value ∙ c.if-not-has_node.false)
    ∙ ap (λ o. deliver (world_of c.args.self.now) c.args.b o) c.in-None.ensures
