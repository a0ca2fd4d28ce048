use Rattle.std.proofs.Common.{◌∙◌, sym, ap}
use Rattle.vector_core.proofs.Lists.{if_true, if_false}
use Rattle.world_core.specs.World.{acquired, acquire_of}
use Rattle.world_core.specs.State.{world_of}
use Rattle.world_core.proofs.state.WorldState.acquire.Goals as goal

pub returns-then-not-has_both-clause-ok : goal.returns-then-not-has_both-clause-ok
returns-then-not-has_both-clause-ok c = if_false _ _ (sym c.has_both.ensures.value ∙ c.if-not-has_both.true)

pub returns-clause-ok : goal.returns-clause-ok
returns-clause-ok c =
    let w = world_of c.args.self.now in
    if_true _ _ (sym c.has_both.ensures.value ∙ c.if-not-has_both.false)
    ∙ ap (λ ss. acquired (record w { sessions = ss }) c.args.a c.args.b (acquire_of w c.args.a c.args.b)) (sym c.reserve.ensures.items)
    ∙ c.acquire_node.ensures
